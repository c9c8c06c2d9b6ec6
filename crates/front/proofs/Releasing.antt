-- A claim is given back.
use Rattle.std.proofs.Common.{List, refl}
use Rattle.std.specs.declared.result.Result.{Result}
use Rattle.std.specs.declared.result.Result.TheVariants.{Ok, Err}
use Rattle.series_model.specs.declared.ticket.Ticket.{Ticket}
use Rattle.sack_history.specs.declared.entry.Entry.{Entry}
use Rattle.sack_history.specs.declared.fault.ReleaseFault.{ReleaseFault}
use Rattle.sack_history.specs.declared.fault.ReleaseFault.TheVariants as release_fault
use Rattle.sack_history.specs.Calls.{IsReleasing}
use Rattle.front_api.specs.declared.bench.FreeFault.{FreeFault}
use Rattle.front_api.specs.Bench.{SaysRelease}
use Rattle.front_api.specs.FaultWords.{free_words}
use Rattle.front_api.specs.Seen.{HasRisenIn, TellsNoDamage}
use Rattle.front.specs.StoreFaults.{told_of_releasing}

-- what a sack answers, as the front tells it
abbrev pub free_result : Result (Unit {0}) ReleaseFault → Result (Unit {0}) FreeFault
free_result (Ok done) = Ok done
free_result (Err fault) = Err (told_of_releasing fault)

pub says_release : (ticket : Ticket) (r : Result (Unit {0}) ReleaseFault) (before own : List Entry) → IsReleasing ticket r before own → SaysRelease ticket (free_result r) before own
says_release ticket (Ok done) before own is = is
says_release ticket (Err (release_fault.NotHolder given holder)) before own is = is

pub free_sound : (r : Result (Unit {0}) FreeFault) → TellsNoDamage free_words r
free_sound (Ok done) = tt
free_sound (Err fault) = refl

pub free_risen : (r : Result (Unit {0}) FreeFault) → HasRisenIn free_words r
free_risen (Ok done) = tt
free_risen (Err fault) = tt
