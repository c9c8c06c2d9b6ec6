-- The words of a run.
use Rattle.std.specs.Prelude.{ℕ, ◌==◌, ◌||◌, nat_lt, not, Bool, true, false, if◌then◌else◌, List, [], ◌∷◌, map, Option, Some, None, codes, string_bytes}
use Rattle.std.specs.Str.{bytes_eq, all_ascii_digits}
use Rattle.std.specs.declared.string.String.{String}
use Rattle.std.specs.declared.alloc.Global.{Global}
use Rattle.gno_num.specs.Digits.{number_onto}
use Rattle.gno_bench.specs.declared.words.Part.{Part}
use Rattle.gno_bench.specs.declared.words.Part.TheVariants.{Values, Stamps, Print, Policies, Log, Aggregate, Json, Codec, All}
use Rattle.gno_bench.specs.declared.words.Job.{Job}

-- the bytes of the words
abbrev pub texts : List (String Global) → List (List ℕ)
texts words = map (λ word. string_bytes word) words

-- the part with this word
abbrev pub part_of : List ℕ → Option Part
part_of word =
    if bytes_eq word (codes "values") then Some Values
    else if bytes_eq word (codes "stamps") then Some Stamps
    else if bytes_eq word (codes "print") then Some Print
    else if bytes_eq word (codes "policies") then Some Policies
    else if bytes_eq word (codes "log") then Some Log
    else if bytes_eq word (codes "aggregate") then Some Aggregate
    else if bytes_eq word (codes "json") then Some Json
    else if bytes_eq word (codes "codec") then Some Codec
    else if bytes_eq word (codes "all") then Some All
    else None

-- the number from 1 to most that the digits spell
abbrev pub number_up_to : ℕ → List ℕ → Option ℕ
number_up_to most digits =
    if not (all_ascii_digits digits) then None
    else if number_onto 0 digits == 0 || nat_lt most (number_onto 0 digits) then None
    else Some (number_onto 0 digits)

-- a part with a size and rounds, where all three are there
abbrev pub job_from : Option Part → Option ℕ → Option ℕ → Bool → Option Job
job_from (Some part) (Some size) (Some rounds) in_folder =
    Some (record { part = part; size = size; rounds = rounds; in_folder = in_folder })
job_from (Some part) (Some size) None in_folder = None
job_from (Some part) None rounds in_folder = None
job_from None size rounds in_folder = None

-- the job of a part, a size and rounds
unfoldable pub job_with : List ℕ → List ℕ → List ℕ → Bool → Option Job
job_with part size rounds in_folder = job_from (part_of part) (number_up_to 50000 size) (number_up_to 1000 rounds) in_folder

-- the job of the log in a folder
unfoldable pub job_in_folder : List ℕ → List ℕ → List ℕ → Option Job
job_in_folder part size rounds =
    if bytes_eq part (codes "log") then job_with part size rounds true else None

-- the job of a part and the words behind it
abbrev pub job_behind : List ℕ → List (List ℕ) → Option Job
job_behind part [] = None
job_behind part (size ∷ []) = None
job_behind part (size ∷ rounds ∷ []) = job_with part size rounds false
job_behind part (size ∷ rounds ∷ folder ∷ []) = job_in_folder part size rounds
job_behind part (size ∷ rounds ∷ folder ∷ more ∷ words) = None

-- the job of these words, if they are one; a fourth word is the folder of the log
abbrev pub job_of : List (List ℕ) → Option Job
job_of [] = None
job_of (part ∷ words) = job_behind part words
