-- What a request does: what it is answered, and what becomes of the histories that the front has seen.
use Rattle.std.specs.Prelude.{◌≡◌, ◌≢◌, ℕ, [], Option, Result, Ok, Err}
use Rattle.control_docs.specs.declared.fault.ControlBodyFault.{ControlBodyFault}
use Rattle.control_docs.specs.declared.fault.ControlBodyFault.TheVariants.{Memory as No_Memory}
use Rattle.front_api.specs.Seen.{SeenBooks}
use Rattle.measure_json.specs.Fault.{Placed, Refuses}
use Rattle.measure_json.specs.declared.fault.BodyFault.{BodyFault}
use Rattle.rest_replies.specs.ErrorBody.{error_text}
use Rattle.rest_replies.specs.Faults.{body_error, control_body_error}
use Rattle.rest_replies.specs.Handled.{AnswersWith, IsNoMemory}
use Rattle.rest_replies.specs.declared.error.RestError.{RestError}
use Rattle.rest_replies.specs.declared.handled.Handled.{Handled}

-- what is answered, and the histories before and after it
abbrev pub Doing : Type 1
Doing = Handled → SeenBooks → SeenBooks → Type 0

-- the answer tells this error, and how many members of a list in the body stand, where that is told
abbrev pub TellsError : RestError → Option ℕ → Handled → Type 0
TellsError error stored answer = AnswersWith answer error.status [] (error_text error.code error.at stored)

-- an error is told, and the front isn't called
abbrev pub RefusesAtOnce : RestError → Option ℕ → Doing
RefusesAtOnce error stored answer old new = (new ≡ old) × TellsError error stored answer

-- there was no memory, and the front isn't called
abbrev pub StarvesAtOnce : Doing
StarvesAtOnce answer old new = (new ≡ old) × IsNoMemory answer

-- A body of a document is read, and what it asks for is done; where it is refused, its first fault is told, or that
-- there was no memory to read it, with how many of its members stand, where that is told.
pub data ReadsDocument {A : Type 0} (reading : Result A ControlBodyFault) (stored : Option ℕ) (Next : A → Doing) (answer : Handled) (old new : SeenBooks) : Type 0 where
  read : (asked : A) → reading ≡ Ok asked → Next asked answer old new → ReadsDocument reading stored Next answer old new
  refused : (fault : ControlBodyFault) → (fault ≢ No_Memory → reading ≡ Err fault)
      → RefusesAtOnce (control_body_error fault) stored answer old new → ReadsDocument reading stored Next answer old new

-- the same of a body of measures, whose first fault has a place
pub data ReadsMeasuresIn {A : Type 0} (reading : Result A Placed) (stored : Option ℕ) (Next : A → Doing) (answer : Handled) (old new : SeenBooks) : Type 0 where
  read : (asked : A) → reading ≡ Ok asked → Next asked answer old new → ReadsMeasuresIn reading stored Next answer old new
  refused : (fault : BodyFault) → Refuses fault reading
      → RefusesAtOnce (body_error fault) stored answer old new → ReadsMeasuresIn reading stored Next answer old new
