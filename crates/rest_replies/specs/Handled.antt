-- What a request is answered.
use Rattle.std.specs.Prelude.{◌≡◌, ℕ, List, [], ◌⊎◌}
use Rattle.rest_replies.specs.declared.status.HttpStatus.{HttpStatus}
use Rattle.rest_replies.specs.declared.status.HttpStatus.TheVariants.{InternalError}
use Rattle.rest_replies.specs.declared.handled.Handled.{Handled}

-- the answer is this status, these methods and this body
pub record IsHandled (answer : Handled) (told : HttpStatus) (methods text : List ℕ) : Type 0 where
  pub status : answer.status ≡ told
  pub allow : answer.allow.now ≡ methods
  pub body : answer.body.items ≡ text

-- the answer is that there was no memory
abbrev pub IsNoMemory : Handled → Type 0
IsNoMemory answer = IsHandled answer InternalError [] []

-- the answer is this status, these methods and this body, unless there was no memory for it
abbrev pub AnswersWith : Handled → HttpStatus → List ℕ → List ℕ → Type 0
AnswersWith answer status allow body = IsHandled answer status allow body ⊎ IsNoMemory answer
