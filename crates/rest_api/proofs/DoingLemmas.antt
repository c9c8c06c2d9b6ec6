-- What one call of the front, or none, does.
use Rattle.std.proofs.Common.{◌≡◌, ◌≢◌, ℕ, Option, Result, Ok, Err, refl, sym, subst, ◌⊎◌, inl, inr}
use Rattle.control_docs.specs.declared.fault.ControlBodyFault.{ControlBodyFault}
use Rattle.control_docs.specs.declared.fault.ControlBodyFault.TheVariants.{Memory as No_Memory}
use Rattle.front_api.specs.Front.{Controls}
use Rattle.front_api.specs.Seen.{LeadsTo, SeenBooks}
use Rattle.front_api.specs.declared.command.Command.{Command}
use Rattle.front_api.specs.declared.command.Reply.{Reply}
use Rattle.front_api.specs.declared.fault.ControlFault.{ControlFault}
use Rattle.measure_json.specs.Fault.{Placed, Refuses}
use Rattle.measure_json.specs.declared.fault.BodyFault.{BodyFault}
use Rattle.rest_api.specs.Commands.{Asks, TellsResult}
use Rattle.rest_api.specs.Doing.{Doing, ReadsDocument, ReadsMeasuresIn, RefusesAtOnce, StarvesAtOnce, TellsError}
use Rattle.rest_api.specs.declared.shown.Shown.{Shown}
use Rattle.rest_replies.specs.Faults.{body_error, control_body_error}
use Rattle.rest_replies.specs.Handled.{IsNoMemory}
use Rattle.rest_replies.specs.declared.error.RestError.{RestError}
use Rattle.rest_replies.specs.declared.faults.NamedIn.{NamedIn}
use Rattle.rest_replies.specs.declared.handled.Handled.{Handled}

-- what holds of each of two holds of what is one of them
pub either : {A : Type 0} (m a b : A) (P : A → Type 0) → ((m ≡ a) ⊎ (m ≡ b)) → P a → P b → P m
either m a b P (inl e) first second = subst P (sym e) first
either m a b P (inr e) first second = subst P (sym e) second

-- an answer that tells an error tells the same one by another name
pub tells_as : (error other : RestError) (stored : Option ℕ) (answer : Handled) → error ≡ other → TellsError error stored answer → TellsError other stored answer
tells_as error other stored answer same tells = subst (λ (e : RestError). TellsError e stored answer) same tells

module _ {X : Type 0} (stands : X → SeenBooks → Type 0) where
  -- an error is told, and the front is as it was
  pub refuses_at_once : (a : X) (error : RestError) (stored : Option ℕ) (answer : Handled) → TellsError error stored answer
      → LeadsTo stands a a (RefusesAtOnce error stored answer)
  refuses_at_once a error stored answer tells old is = (old, is, (refl, tells))

  -- there was no memory, and the front is as it was
  pub starves_at_once : (a : X) (answer : Handled) → IsNoMemory answer → LeadsTo stands a a (StarvesAtOnce answer)
  starves_at_once a answer starved old is = (old, is, (refl, starved))

  -- what a command leads to, and what is told of its result
  pub asks_command : (a b : X) (named : NamedIn) (command : Command) (shown : Shown) (result : Result Reply ControlFault) (answer : Handled)
      → LeadsTo stands a b (Controls command result) → TellsResult named shown result answer → LeadsTo stands a b (Asks named command shown answer)
  asks_command a b named command shown result answer leads tells old is =
      let new = leads old is in
      (new.0, new.1, record { result = result; controls = new.2; tells = tells })

  -- a document is read
  pub reads_document : {A : Type 0} (a b : X) (reading : Result A ControlBodyFault) (stored : Option ℕ) (Next : A → Doing) (answer : Handled) (asked : A)
      → reading ≡ Ok asked → LeadsTo stands a b (Next asked answer) → LeadsTo stands a b (ReadsDocument reading stored Next answer)
  reads_document a b reading stored Next answer asked is-read leads old is =
      let new = leads old is in
      (new.0, new.1, ReadsDocument.read asked is-read new.2)

  -- it is refused
  pub refuses_document : {A : Type 0} (a : X) (reading : Result A ControlBodyFault) (stored : Option ℕ) (Next : A → Doing) (answer : Handled) (fault : ControlBodyFault)
      → (fault ≢ No_Memory → reading ≡ Err fault) → TellsError (control_body_error fault) stored answer
      → LeadsTo stands a a (ReadsDocument reading stored Next answer)
  refuses_document a reading stored Next answer fault is-fault tells old is =
      (old, is, ReadsDocument.refused fault is-fault (refl, tells))

  -- a body of measures is read
  pub reads_measures : {A : Type 0} (a b : X) (reading : Result A Placed) (stored : Option ℕ) (Next : A → Doing) (answer : Handled) (asked : A)
      → reading ≡ Ok asked → LeadsTo stands a b (Next asked answer) → LeadsTo stands a b (ReadsMeasuresIn reading stored Next answer)
  reads_measures a b reading stored Next answer asked is-read leads old is =
      let new = leads old is in
      (new.0, new.1, ReadsMeasuresIn.read asked is-read new.2)

  -- it is refused
  pub refuses_measures : {A : Type 0} (a : X) (reading : Result A Placed) (stored : Option ℕ) (Next : A → Doing) (answer : Handled) (fault : BodyFault)
      → Refuses fault reading → TellsError (body_error fault) stored answer
      → LeadsTo stands a a (ReadsMeasuresIn reading stored Next answer)
  refuses_measures a reading stored Next answer fault is-fault tells old is =
      (old, is, ReadsMeasuresIn.refused fault is-fault (refl, tells))
