-- Each number is that of one status, and each first line.
use Rattle.std.proofs.Common.{◌≡◌, ◌==◌, ℕ, List, [], ◌∷◌, Option, Some, refl, sym, ap, ◌∙◌}
use Rattle.std.specs.List.{find}
use Rattle.std.specs.Str.{bytes_eq}
use Rattle.std.specs.Fmt.{digits}
use Rattle.rest_replies.specs.declared.status.HttpStatus.{HttpStatus}
use Rattle.rest_replies.specs.declared.status.HttpStatus.TheVariants.{Okay, Created, Accepted, NoContent, BadRequest, NotFound, MethodNotAllowed, Conflict, LengthRequired, ContentTooLarge, HeaderFieldsTooLarge, InternalError, NotImplemented, Unavailable, InsufficientStorage}
use Rattle.rest_replies.specs.Status.{status_code, status_line}

-- all statuses
abbrev all_statuses : List HttpStatus
all_statuses =
    Okay ∷ Created ∷ Accepted ∷ NoContent ∷ BadRequest ∷ NotFound ∷ MethodNotAllowed ∷ Conflict ∷
    LengthRequired ∷ ContentTooLarge ∷ HeaderFieldsTooLarge ∷ InternalError ∷ NotImplemented ∷ Unavailable ∷ InsufficientStorage ∷ []

-- the first status with a number
status_numbered : ℕ → Option HttpStatus
status_numbered number = find (λ status. status_code status == number) all_statuses

numbered-again : (status : HttpStatus) → status_numbered (status_code status) ≡ Some status
unfolding status_numbered
numbered-again Okay = refl
numbered-again Created = refl
numbered-again Accepted = refl
numbered-again NoContent = refl
numbered-again BadRequest = refl
numbered-again NotFound = refl
numbered-again MethodNotAllowed = refl
numbered-again Conflict = refl
numbered-again LengthRequired = refl
numbered-again ContentTooLarge = refl
numbered-again HeaderFieldsTooLarge = refl
numbered-again InternalError = refl
numbered-again NotImplemented = refl
numbered-again Unavailable = refl
numbered-again InsufficientStorage = refl

pub one-status : (a b : HttpStatus) → status_code a ≡ status_code b → a ≡ b
one-status a b same =
    let both : Some a ≡ Some b = sym (numbered-again a) ∙ ap status_numbered same ∙ numbered-again b in cc

-- the first status with a first line
status_told : List ℕ → Option HttpStatus
status_told line = find (λ status. bytes_eq (status_line status) line) all_statuses

told-again : (status : HttpStatus) → status_told (status_line status) ≡ Some status
unfolding status_told digits
told-again Okay = refl
told-again Created = refl
told-again Accepted = refl
told-again NoContent = refl
told-again BadRequest = refl
told-again NotFound = refl
told-again MethodNotAllowed = refl
told-again Conflict = refl
told-again LengthRequired = refl
told-again ContentTooLarge = refl
told-again HeaderFieldsTooLarge = refl
told-again InternalError = refl
told-again NotImplemented = refl
told-again Unavailable = refl
told-again InsufficientStorage = refl

pub one-status_line : (a b : HttpStatus) → status_line a ≡ status_line b → a ≡ b
one-status_line a b same =
    let both : Some a ≡ Some b = sym (told-again a) ∙ ap status_told same ∙ told-again b in cc
