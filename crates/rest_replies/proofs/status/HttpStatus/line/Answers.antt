use Rattle.std.proofs.Common.{refl}
use Rattle.std.specs.Fmt.{digits}
use Rattle.rest_replies.proofs.status.HttpStatus.line.Goals as goal

pub returns-in-Okay : goal.returns-in-Okay
unfolding digits
returns-in-Okay c = rw c.in-Okay.is refl

pub returns-in-Created : goal.returns-in-Created
unfolding digits
returns-in-Created c = rw c.in-Created.is refl

pub returns-in-Accepted : goal.returns-in-Accepted
unfolding digits
returns-in-Accepted c = rw c.in-Accepted.is refl

pub returns-in-NoContent : goal.returns-in-NoContent
unfolding digits
returns-in-NoContent c = rw c.in-NoContent.is refl

pub returns-in-BadRequest : goal.returns-in-BadRequest
unfolding digits
returns-in-BadRequest c = rw c.in-BadRequest.is refl

pub returns-in-NotFound : goal.returns-in-NotFound
unfolding digits
returns-in-NotFound c = rw c.in-NotFound.is refl

pub returns-in-MethodNotAllowed : goal.returns-in-MethodNotAllowed
unfolding digits
returns-in-MethodNotAllowed c = rw c.in-MethodNotAllowed.is refl

pub returns-in-Conflict : goal.returns-in-Conflict
unfolding digits
returns-in-Conflict c = rw c.in-Conflict.is refl

pub returns-in-LengthRequired : goal.returns-in-LengthRequired
unfolding digits
returns-in-LengthRequired c = rw c.in-LengthRequired.is refl

pub returns-in-ContentTooLarge : goal.returns-in-ContentTooLarge
unfolding digits
returns-in-ContentTooLarge c = rw c.in-ContentTooLarge.is refl

pub returns-in-HeaderFieldsTooLarge : goal.returns-in-HeaderFieldsTooLarge
unfolding digits
returns-in-HeaderFieldsTooLarge c = rw c.in-HeaderFieldsTooLarge.is refl

pub returns-in-InternalError : goal.returns-in-InternalError
unfolding digits
returns-in-InternalError c = rw c.in-InternalError.is refl

pub returns-in-NotImplemented : goal.returns-in-NotImplemented
unfolding digits
returns-in-NotImplemented c = rw c.in-NotImplemented.is refl

pub returns-in-Unavailable : goal.returns-in-Unavailable
unfolding digits
returns-in-Unavailable c = rw c.in-Unavailable.is refl

pub returns-in-InsufficientStorage : goal.returns-in-InsufficientStorage
unfolding digits
returns-in-InsufficientStorage c = rw c.in-InsufficientStorage.is refl
