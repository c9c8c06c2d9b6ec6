-- What is written where no request is answered that the store is unavailable.
use Rattle.std.specs.Prelude.{◌≡◌, ◌≢◌, ℕ, Bool, List, [], ◌∷◌, ◌++◌}
use Rattle.rest_api.specs.Message.{Message, continue_for, continue_if}
use Rattle.rest_replies.specs.Response.{response_text}
use Rattle.rest_replies.specs.declared.status.HttpStatus.{HttpStatus}
use Rattle.rest_replies.specs.declared.status.HttpStatus.TheVariants.{Unavailable}

-- a response with another status than 503
pub record IsAvailable (text : List ℕ) : Type 0 where
  pub is_head : Bool
  pub close : Bool
  pub status : HttpStatus
  pub allow : List ℕ
  pub body : List ℕ
  pub is_other : status ≢ Unavailable
  pub is : text ≡ response_text is_head close status allow body

-- The messages were answered one after another, each with such a response, before which stands what its client waits for.
pub data AreAvailable : List Message → List ℕ → Type 0 where
  nothing : AreAvailable [] []
  one_more : (messages : List Message) (m : Message) (text response : List ℕ) → AreAvailable messages text → IsAvailable response
      → AreAvailable (messages ++ m ∷ []) (text ++ (continue_for m.head ++ response))

-- what a client waits for, if it does, alone or before such a response
pub data IsAvailableText : List ℕ → Type 0 where
  waited : (waits : Bool) → IsAvailableText (continue_if waits)
  response : (waits : Bool) (text : List ℕ) → IsAvailable text → IsAvailableText (continue_if waits ++ text)

-- that, or the first bytes of it
pub record BeginsAvailable (text : List ℕ) : Type 0 where
  pub more : List ℕ
  pub whole : IsAvailableText (text ++ more)
