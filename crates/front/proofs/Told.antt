-- Refusals of books, as the front tells them.
use Rattle.std.proofs.Common.{◌≡◌, ◌≢◌, get_or, ℕ, ◌+◌, ◌<◌, ◌≤◌, List, length, Option, Some, None, refl, sym, ap, ◌∙◌, arith, zero, suc, [], ◌∷◌}
use Rattle.std.specs.Option.{MatchOption}
use Rattle.std.specs.Result.{IfErr}
use Rattle.std.specs.List.{slice_get, slice_set}
use Rattle.std.specs.declared.result.Result.{Result}
use Rattle.std.specs.declared.result.Result.TheVariants.{Ok, Err}
use Rattle.std.proofs.lemmas.Option.{slice_get-get_or}
use Rattle.gno_disk.specs.declared.disk.Disk.{Ghosts}
use Rattle.gno_num.specs.Faults.{Rose}
use Rattle.gno_num.specs.declared.faults.DiskFault.{DiskFault as Fault}
use Rattle.sack_history.specs.declared.fault.AnswerFault.{AnswerFault}
use Rattle.sack_history.specs.declared.fault.AnswerFault.TheVariants as answer_fault
use Rattle.sack_history.specs.declared.fault.CreateFault.{CreateFault}
use Rattle.sack_history.specs.declared.fault.CreateFault.TheVariants as create_fault
use Rattle.sack_history.specs.declared.fault.SackFault.{SackFault}
use Rattle.sack_history.specs.declared.fault.SackFault.TheVariants as sack_fault
use Rattle.front_api.specs.FaultWords.{IsKnown, answer_words, control_words, create_words, sack_words}
use Rattle.front_api.specs.Seen.{HasRisenIn, TellsNoDamage, sack_of}
use Rattle.front_api.specs.declared.fault.ControlFault.{ControlFault}
use Rattle.front_api.specs.declared.fault.ControlFault.TheVariants as faults
use Rattle.series_model.specs.declared.metric.MetricId.{MetricId}
use Rattle.metric_index.specs.BookCalls.{MatchDisk}
use Rattle.metric_index.specs.IndexView.{IsFaultOf}
use Rattle.sack_state.specs.Disks.{IsSackFault}
use Rattle.sack_state.specs.SackCalls.{MatchAnswerOnDisk, MatchCreateOnDisk, MatchOnDisk}
use Rattle.sack_state.specs.SackView.{Of, OfBoth, SackState, SackView}
use Rattle.front.specs.Inside.{AreInPlace}
use Rattle.front.specs.Plan.{sack_place}
use Rattle.front.specs.StoreFaults.{told_of_answering, told_of_creating, told_of_sack}

-- what a sack answers, as the front tells it
abbrev pub told_result : {T : Type 0} → ℕ → Result T SackFault → Result T SackFault
told_result sack (Ok value) = Ok value
told_result sack (Err fault) = Err (told_of_sack sack fault)

-- the same where no bytes were damaged
pub told_same : {T : Type 0} (sack : ℕ) (r : Result T SackFault) → IfErr r (λ e. MatchOnDisk e (λ f. Unit {0}) ⊥) → told_result sack r ≡ r
told_same sack (Ok value) sound = refl
told_same sack (Err (sack_fault.Damaged d)) sound = absurd sound
told_same sack (Err (sack_fault.DiskFault f)) sound = refl
told_same sack (Err sack_fault.Unknown) sound = refl
told_same sack (Err (sack_fault.Spent s)) sound = refl
told_same sack (Err sack_fault.Memory) sound = refl

pub told_sound : {T : Type 0} (sack : ℕ) (r : Result T SackFault) → IfErr r (λ e. MatchOnDisk e (λ f. Unit {0}) ⊥) → TellsNoDamage sack_words (told_result sack r)
told_sound sack (Ok value) sound = tt
told_sound sack (Err (sack_fault.Damaged d)) sound = absurd sound
told_sound sack (Err (sack_fault.DiskFault f)) sound = refl
told_sound sack (Err sack_fault.Unknown) sound = refl
told_sound sack (Err (sack_fault.Spent s)) sound = refl
told_sound sack (Err sack_fault.Memory) sound = refl

-- the same where a metric is created
abbrev pub told_creating : {T : Type 0} → ℕ → Result T CreateFault → Result T CreateFault
told_creating sack (Ok value) = Ok value
told_creating sack (Err fault) = Err (told_of_creating sack fault)

pub creating_same : {T : Type 0} (sack : ℕ) (r : Result T CreateFault) → IfErr r (λ e. MatchCreateOnDisk e (λ f. Unit {0}) ⊥) → told_creating sack r ≡ r
creating_same sack (Ok value) sound = refl
creating_same sack (Err (create_fault.Damaged d)) sound = absurd sound
creating_same sack (Err (create_fault.DiskFault f)) sound = refl
creating_same sack (Err create_fault.Exists) sound = refl
creating_same sack (Err (create_fault.Spent s)) sound = refl
creating_same sack (Err create_fault.Memory) sound = refl

pub creating_sound : {T : Type 0} (sack : ℕ) (r : Result T CreateFault) → IfErr r (λ e. MatchCreateOnDisk e (λ f. Unit {0}) ⊥) → TellsNoDamage create_words (told_creating sack r)
creating_sound sack (Ok value) sound = tt
creating_sound sack (Err (create_fault.Damaged d)) sound = absurd sound
creating_sound sack (Err (create_fault.DiskFault f)) sound = refl
creating_sound sack (Err create_fault.Exists) sound = refl
creating_sound sack (Err (create_fault.Spent s)) sound = refl
creating_sound sack (Err create_fault.Memory) sound = refl

-- the same where a query is answered
abbrev pub told_answer : {T : Type 0} → ℕ → Result T AnswerFault → Result T AnswerFault
told_answer sack (Ok value) = Ok value
told_answer sack (Err fault) = Err (told_of_answering sack fault)

pub answer_same : {T : Type 0} (sack : ℕ) (r : Result T AnswerFault) → IfErr r (λ e. MatchAnswerOnDisk e (λ f. Unit {0}) ⊥) → told_answer sack r ≡ r
answer_same sack (Ok value) sound = refl
answer_same sack (Err (answer_fault.Damaged d)) sound = absurd sound
answer_same sack (Err (answer_fault.DiskFault f)) sound = refl
answer_same sack (Err answer_fault.Unknown) sound = refl
answer_same sack (Err answer_fault.NoAggregation) sound = refl
answer_same sack (Err answer_fault.NoGranularity) sound = refl
answer_same sack (Err (answer_fault.Spent s)) sound = refl
answer_same sack (Err answer_fault.Memory) sound = refl

pub answer_sound : {T : Type 0} (sack : ℕ) (r : Result T AnswerFault) → IfErr r (λ e. MatchAnswerOnDisk e (λ f. Unit {0}) ⊥) → TellsNoDamage answer_words (told_answer sack r)
answer_sound sack (Ok value) sound = tt
answer_sound sack (Err (answer_fault.Damaged d)) sound = absurd sound
answer_sound sack (Err (answer_fault.DiskFault f)) sound = refl
answer_sound sack (Err answer_fault.Unknown) sound = refl
answer_sound sack (Err answer_fault.NoAggregation) sound = refl
answer_sound sack (Err answer_fault.NoGranularity) sound = refl
answer_sound sack (Err (answer_fault.Spent s)) sound = refl
answer_sound sack (Err answer_fault.Memory) sound = refl

-- a refusal that isn't that of a metric that isn't live is told as such a one
pub told_known : {T : Type 0} (sack : ℕ) (r : Result T SackFault) → IfErr r (λ e. e ≢ sack_fault.Unknown) → IfErr (told_result sack r) IsKnown
told_known sack (Ok value) known = tt
told_known sack (Err (sack_fault.Damaged d)) known = tt
told_known sack (Err (sack_fault.DiskFault f)) known = tt
told_known sack (Err sack_fault.Unknown) known = absurd (known refl)
told_known sack (Err (sack_fault.Spent s)) known = tt
told_known sack (Err sack_fault.Memory) known = tt

module _ {D : Type 0} (g : Ghosts D) where
  pub fault_rose : (v w : SackView D) (f : Fault) → OfBoth v w (λ s t. IsSackFault g s.disks t.disks f) → Rose f.before f.after
  fault_rose v w f is = of v.state is
    where
      within : (s : SackState D) (o : Option (SackState D)) → MatchOption o ⊥ (λ t. IsSackFault g s.disks t.disks f) → Rose f.before f.after
      within s None is = absurd is
      within s (Some t) is = is.rose

      of : (o : Option (SackState D)) → MatchOption o ⊥ (λ s. Of w (λ t. IsSackFault g s.disks t.disks f)) → Rose f.before f.after
      of None is = absurd is
      of (Some s) is = within s w.state is

  pub told_risen : {T : Type 0} (sack : ℕ) (r : Result T SackFault) (v w : SackView D) (Q : Type 0) → IfErr r (λ e. MatchOnDisk e (λ f. OfBoth v w (λ s t. IsSackFault g s.disks t.disks f)) Q) → HasRisenIn sack_words (told_result sack r)
  told_risen sack (Ok value) v w Q cause = tt
  told_risen sack (Err (sack_fault.Damaged d)) v w Q cause = tt
  told_risen sack (Err (sack_fault.DiskFault f)) v w Q cause = fault_rose v w f cause
  told_risen sack (Err sack_fault.Unknown) v w Q cause = tt
  told_risen sack (Err (sack_fault.Spent s)) v w Q cause = tt
  told_risen sack (Err sack_fault.Memory) v w Q cause = tt

  pub creating_risen : {T : Type 0} (sack : ℕ) (r : Result T CreateFault) (v w : SackView D) (Q : Type 0) → IfErr r (λ e. MatchCreateOnDisk e (λ f. OfBoth v w (λ s t. IsSackFault g s.disks t.disks f)) Q) → HasRisenIn create_words (told_creating sack r)
  creating_risen sack (Ok value) v w Q cause = tt
  creating_risen sack (Err (create_fault.Damaged d)) v w Q cause = tt
  creating_risen sack (Err (create_fault.DiskFault f)) v w Q cause = fault_rose v w f cause
  creating_risen sack (Err create_fault.Exists) v w Q cause = tt
  creating_risen sack (Err (create_fault.Spent s)) v w Q cause = tt
  creating_risen sack (Err create_fault.Memory) v w Q cause = tt

  pub answer_risen : {T : Type 0} (sack : ℕ) (r : Result T AnswerFault) (v w : SackView D) (Q : Type 0) → IfErr r (λ e. MatchAnswerOnDisk e (λ f. OfBoth v w (λ s t. IsSackFault g s.disks t.disks f)) Q) → HasRisenIn answer_words (told_answer sack r)
  answer_risen sack (Ok value) v w Q cause = tt
  answer_risen sack (Err (answer_fault.Damaged d)) v w Q cause = tt
  answer_risen sack (Err (answer_fault.DiskFault f)) v w Q cause = fault_rose v w f cause
  answer_risen sack (Err answer_fault.Unknown) v w Q cause = tt
  answer_risen sack (Err answer_fault.NoAggregation) v w Q cause = tt
  answer_risen sack (Err answer_fault.NoGranularity) v w Q cause = tt
  answer_risen sack (Err (answer_fault.Spent s)) v w Q cause = tt
  answer_risen sack (Err answer_fault.Memory) v w Q cause = tt

  pub control_risen : {T : Type 0} (r : Result T ControlFault) (olds news : List D) → IfErr r (λ e. MatchDisk e (IsFaultOf g olds news) (Unit {0})) → HasRisenIn control_words r
  control_risen (Ok value) olds news cause = tt
  control_risen (Err (faults.DiskFault f)) olds news cause = cause.rose
  control_risen (Err fault) olds news cause = tt

-- a sack in its place gives way to another one of that place
pub in_place_with : {D : Type 0} (total k sack : ℕ) (sacks : List (SackView D)) (v w : SackView D) → AreInPlace total k sacks → slice_get sacks sack ≡ Some v → w.place ≡ v.place → AreInPlace total k (slice_set sacks sack w)
in_place_with total k sack [] v w are there same = tt
in_place_with total k zero (x ∷ sacks) v w are there same = (same ∙ ap (λ (y : SackView _). y.place) (sym (is_it x v there)) ∙ are.0, are.1)
  where
    is_it : {X : Type 0} (x y : X) → Some x ≡ Some y → x ≡ y
    is_it x y e = cc
in_place_with total k (suc sack) (x ∷ sacks) v w are there same = (are.0, in_place_with total (k + 1) sack sacks v w are.1 there same)

-- the sack of this number has its place
pub place_at : {D : Type 0} (total k sack : ℕ) (sacks : List (SackView D)) (v : SackView D) → AreInPlace total k sacks → slice_get sacks sack ≡ Some v → v.place ≡ sack_place total (k + sack)
place_at total k sack [] v are there = absurd (none_some v there)
  where
    none_some : {X : Type 0} (x : X) → (let o : Option X = None in o) ≡ Some x → ⊥
    none_some x e = cc
place_at total k zero (x ∷ sacks) v are there =
    ap (λ (y : SackView _). y.place) (sym (is_it x v there)) ∙ are.0 ∙ ap (λ n. sack_place total n) (let e : k ≡ k + 0 = omega arith in e)
  where
    is_it : {X : Type 0} (x y : X) → Some x ≡ Some y → x ≡ y
    is_it x y e = cc
place_at total k (suc sack) (x ∷ sacks) v are there =
    place_at total (k + 1) sack sacks v are.1 there ∙ ap (λ n. sack_place total n) (let e : (k + 1) + sack ≡ k + suc sack = omega arith in e)

-- a sack that was found by its number stands there
pub sack_there : {X : Type 0} (items : List X) (k : ℕ) (x : X) → k < length items → x ≡ get_or items k x → slice_get items k ≡ Some x
sack_there items k x within at = slice_get-get_or items k x within ∙ ap Some (sym at)

-- the number of a metric's sack is one of them
pub is_within : {X : Type 0} (items : List X) (k n total : ℕ) (metric : MetricId) → k ≡ n → n ≡ sack_of metric total → 1 ≤ total → length items ≡ total → k < length items
is_within items k n total metric from of some many = omega (arith, from, of, some, many)
