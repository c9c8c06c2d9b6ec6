-- What contracts see, by the pair and what is kept.
use Rattle.std.proofs.Common.{◌≡◌, ℕ, ◌<◌, ◌≤◌, Bool, true, false, ◌||◌, List, [], ◌∷◌, length, map, take, Option, Some, None, Result, Ok, Err, refl, sym, ap, subst, ◌∙◌, arith}
use Rattle.std.specs.Result.{IfErr, OnOk}
use Rattle.std.proofs.lemmas.List.{take_all}
use Rattle.gno_num.specs.declared.faults.DiskFault.{DiskFault as Fault}
use Rattle.gate_log.specs.LogView.{MatchMountFault}
use Rattle.gate_log.specs.declared.fault.MountFault.{MountFault}
use Rattle.gate_log.specs.declared.fault.MountFault.TheVariants.{DiskFault, Damaged, Memory}
use Rattle.incoming.specs.Reading.{answer_of, is_damage}
use Rattle.std.specs.Option.{IfSome, option_map}
use Rattle.gno_disk.specs.declared.disk.Disk.{Ghosts}
use Rattle.log_pair.specs.Choice.{TwoTold}
use Rattle.log_pair.specs.PairView.{AreOfPair, IsLastingPair, PairView}
use Rattle.incoming.specs.declared.contents.Contents.{Contents}
use Rattle.incoming.specs.declared.mark.Mark.{Mark}
use Rattle.incoming.specs.Contents.{AreOf}
use Rattle.incoming.specs.Inside.{posts_in}
use Rattle.series_model.specs.declared.measure.Measure.{Measure}
use Rattle.series_model.specs.declared.metric.MetricId.{MetricId}
use Rattle.incoming.specs.Posts.{HoldsIncoming, Post, marks_of, posts_above}
use Rattle.incoming.proofs.Held.{held_told, posts_in-log, two_told}

pub marks_told : (c : Contents) (records : Option (List (List ℕ))) → IfSome records (AreOf c) → IfSome (option_map posts_in records) (λ posts. c.marks.items ≡ marks_of posts)
marks_told c None are = tt
marks_told c (Some records) are = are.marks_are ∙ ap marks_of (sym (posts_in-log records are.start are.posts are.log))

module _ {D : Type 0} (pair : PairView D) (c : Contents) (role : pair.place.role ≡ 2) (are : IfSome pair.records (AreOf c)) where
  pub told_held : (ta tb : Option (List ℕ)) → TwoTold ta tb (AreOfPair pair) → TwoTold ta tb (λ a b. IfSome (option_map posts_in pair.records) (λ posts. HoldsIncoming pair.place posts c.next a b))
  told_held ta tb held = two_told ta tb (AreOfPair pair) (AreOfPair pair) _ (λ a b first second p q. held_told c pair.place pair.epoch role pair.records a b are p) held held

  pub lasting_held : (g : Ghosts D) → IsLastingPair g pair → (a b : List ℕ) → g.may_leave pair.first a → g.may_leave pair.second b → IfSome (option_map posts_in pair.records) (λ posts. HoldsIncoming pair.place posts c.next a b)
  lasting_held g lasting a b left left_too = held_told c pair.place pair.epoch role pair.records a b are (lasting a b left left_too)

pub none_yet : (c : Contents) (records : Option (List (List ℕ))) → AreOf c [] → IfSome records (λ rs. AreOf c [])
none_yet c None are = tt
none_yet c (Some records) are = are

all_of : (c : Contents) (records : List (List ℕ)) (n : ℕ) → length records ≡ n → AreOf c (take n records) → AreOf c records
all_of c records n long are = subst (AreOf c) (take_all n records (omega (arith, long))) are

-- all records were taken in
pub all_taken : (c : Contents) (records : Option (List (List ℕ))) (n : ℕ) → IfSome records (λ rs. length rs ≡ n) → IfSome records (λ rs. AreOf c (take n rs)) → IfSome records (AreOf c)
all_taken c None n long are = tt
all_taken c (Some records) n long are = all_of c records n long are

-- where no record could be another, none is told
pub none_from : (c : Contents) (records : Option (List (List ℕ))) → IfSome records (AreOf c) → IfSome records (λ rs. AreOf c rs → ⊥) → option_map posts_in records ≡ None
none_from c None are never = refl
none_from c (Some records) are never = absurd (never are)

-- what a reading of posts answers, by what it found
pub cause_of : {X : Type 0} (r : Result X MountFault) (broken : Bool) (F : Fault → Type 0) (N M : Type 0) → (N → M)
    → IfErr r (λ e. MatchMountFault e (λ f. F f × (broken ≡ true)) (λ d. (broken ≡ false) × (d.disk < 2) × N) (broken ≡ false))
    → IfErr r (λ e. MatchMountFault e (λ f. F f × ((broken || is_damage r) ≡ true)) (λ d. ((broken || is_damage r) ≡ true) × (d.disk < 2) × M) ((broken || is_damage r) ≡ false))
cause_of (Ok x) broken F N M has cause = tt
cause_of (Err (DiskFault f)) broken F N M has cause = (cause.0, ap (λ b. b || false) cause.1)
cause_of (Err (Damaged d)) broken F N M has cause = (ap (λ b. b || true) cause.0, cause.1, has cause.2)
cause_of (Err Memory) broken F N M has cause = ap (λ b. b || false) cause

pub whole_of : {X : Type 0} (r : Result X MountFault) (broken : Bool) → OnOk r (broken ≡ false) → OnOk r ((broken || is_damage r) ≡ false)
whole_of (Ok x) broken whole = ap (λ b. b || false) whole
whole_of (Err e) broken whole = tt

pub none_are : (c : Contents) (records : Option (List (List ℕ))) → AreOf c [] → IfSome records (λ rs. rs ≡ []) → IfSome records (AreOf c)
none_are c None are none = tt
none_are c (Some records) are none = subst (AreOf c) (sym none) are

pub batches_told : (c : Contents) (records : Option (List (List ℕ))) (metric : MetricId) (above most : ℕ) (found : List (ℕ × List Measure)) → IfSome records (AreOf c)
    → IfSome records (λ rs. (of : AreOf c rs) → found ≡ map answer_of (take most (posts_above metric above of.posts)))
    → IfSome (option_map posts_in records) (λ posts. found ≡ map answer_of (take most (posts_above metric above posts)))
batches_told c None metric above most found are told = tt
batches_told c (Some records) metric above most found are told =
    told are ∙ ap (λ (ps : List Post). map answer_of (take most (posts_above metric above ps))) (sym (posts_in-log records are.start are.posts are.log))
