use Rattle.std.proofs.Common.{false, refl}
use Rattle.sack_history.specs.declared.entry.Entry.TheVariants as entries
use Rattle.sack_history.proofs.Keeping.{kept-all_counted, kept-counted, kept-found, kept-noted}
use Rattle.sack_history.proofs.laws.what_counts_is_kept.Goals as goal

pub returns : goal.returns
returns c = record {
  counted = λ h c. kept-counted h c;
  all = λ h cs. kept-all_counted h cs;
  claimed = λ h t m upto. kept-noted h (entries.Claim t m upto) refl refl;
  released = λ h t. kept-noted h (entries.Release t) refl refl;
  looked = λ h m. kept-noted h (entries.Look m) refl refl;
  failed = λ h tried before after. kept-noted h (entries.Fault tried before after) refl refl;
  missed = λ h. kept-noted h (entries.Reopened false) refl refl;
  found = λ sack h legal. kept-found sack h legal;
}
