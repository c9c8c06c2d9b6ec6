-- The faults of a body, and what a reader gives.
use Rattle.std.specs.Prelude.{◌≡◌, ℕ, ◌-◌, List, ◌++◌, ◌≤◌, length, take, Result, Ok, Err}
use Rattle.measure_json.specs.declared.fault.JsonKind.{JsonKind}
use Rattle.measure_json.specs.declared.fault.JsonKind.TheVariants.{Syntax}
use Rattle.measure_json.specs.declared.fault.Fault.{Fault}
use Rattle.measure_json.specs.declared.fault.ReadError.{ReadError}
use Rattle.measure_json.specs.declared.fault.ReadError.TheVariants as errors
use Rattle.measure_json.specs.declared.fault.BodyFault.{BodyFault}
use Rattle.measure_json.specs.declared.fault.BodyFault.TheVariants as body_faults

-- a fault at the first byte of what is left, or at the end where nothing is
abbrev pub fault_at : JsonKind → List ℕ → Fault
fault_at kind text = record { left = length text; kind = kind }

-- the first byte of what is left continues no JSON text, or the text ends too early
abbrev pub syntax : {A : Type 0} → List ℕ → Result A Fault
syntax text = Err (fault_at Syntax text)

-- the second step goes on from what the first one gives; the first fault stands
infixl 10 ◌>>=◌
abbrev pub ◌>>=◌ : {A B : Type 0} → Result A Fault → (A → Result B Fault) → Result B Fault
(Ok x) >>= f = f x
(Err e) >>= f = Err e

-- what was read before, and what is still read
abbrev pub with_front : {A : Type 0} → List A → Result (List A × List ℕ) Fault → Result (List A × List ℕ) Fault
with_front front read = read >>= λ found. Ok (front ++ found.0, found.1)

-- what stands in front of what is left
abbrev pub front_of : List ℕ → List ℕ → List ℕ
front_of text rest = take (length text - length rest) text

-- the fault is the one that reading gives, unless memory ran out
abbrev pub Fails : {Y : Type 0} → ReadError → Result Y Fault → Type 0
Fails errors.Memory read = Unit {0}
Fails (errors.Fault fault) read = read ≡ Err fault

-- what a reader returned, seen by view, is what reading gives, unless memory ran out
abbrev pub Gives : {X Y : Type 0} → (X → Y) → Result X ReadError → Result Y Fault → Type 0
Gives view (Ok x) read = read ≡ Ok (view x)
Gives view (Err e) read = Fails e read

-- a fault at its place, counted from the first byte
pub record Placed : Type 0 where
  pub at : ℕ
  pub kind : JsonKind

abbrev pub placed : {A : Type 0} → List ℕ → Result A Fault → Result A Placed
placed body (Ok x) = Ok x
placed body (Err fault) = Err (record { at = length body - fault.left; kind = fault.kind })

-- the fault of a reader, at its place in the body
abbrev pub Places : List ℕ → ReadError → BodyFault → Type 0
Places body errors.Memory fault = fault ≡ body_faults.Memory
Places body (errors.Fault found) fault = fault ≡ body_faults.Json (length body - found.left) found.kind

-- the fault is the one that the body has, unless memory ran out
abbrev pub Refuses : {Y : Type 0} → BodyFault → Result Y Placed → Type 0
Refuses body_faults.Memory meaning = Unit {0}
Refuses (body_faults.Json at kind) meaning = meaning ≡ Err (record { at = at; kind = kind })

-- what was returned, seen by view, is what the body means, unless memory ran out
abbrev pub Answers : {X Y : Type 0} → (X → Y) → Result X BodyFault → Result Y Placed → Type 0
Answers view (Ok x) meaning = meaning ≡ Ok (view x)
Answers view (Err e) meaning = Refuses e meaning

-- a fault that is a byte of the body or its end
abbrev pub IsWithin : List ℕ → BodyFault → Type 0
IsWithin body body_faults.Memory = Unit {0}
IsWithin body (body_faults.Json at kind) = at ≤ length body
