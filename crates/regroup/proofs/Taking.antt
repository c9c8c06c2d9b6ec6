-- What turns accept behind measures that were accepted before.
use Rattle.std.proofs.Common.{◌≡◌, ℕ, ◌+◌, ◌<◌, ◌≤◌, min, List, [], ◌∷◌, ◌++◌, take, drop, length, get_or, Option, Some, None, refl, sym, ap, subst, ◌∙◌, arith, append_assoc, append-nil}
use Rattle.std.specs.List.{All}
use Rattle.std.proofs.Math.Seq.{drop-append_seam, drop-length}
use Rattle.std.proofs.lemmas.List.{take_more, drop-append-le, length-append}
use Rattle.std.proofs.lemmas.List.Elements.{All-head, All-tail}
use Rattle.std.proofs.lemmas.Option.{same_Some, none-some}
use Rattle.archive_policy.specs.Policies.{ArchivePolicy, largest_of}
use Rattle.bound_series.specs.Turn.{earlier, earliest, taken}
use Rattle.bound_series.proofs.Earliest.{earliest-append}
use Rattle.bound_series.proofs.Scratch.{all_late}
use Rattle.series_model.specs.declared.measure.Measure.{Measure}
use Rattle.series_model.specs.Accepted.{later, latest}
use Rattle.series_model.specs.AcceptedLaws.{accepted_onto-append}
use Rattle.series_model.specs.Tail.{Tail, accepted_after, accepts_from, newly_accepted, tail_of}
use Rattle.series_model.proofs.PointLaws.{floor-mono}
use Rattle.series_model.proofs.TailLaws.{join, later_le}
use Rattle.regroup.specs.Work.{AreTaken}

-- ---- the window rises

later_join : (x : ℕ) (o p : Option ℕ) → later x (join o p) ≡ later (later x o) p
later_join x None p = refl
later_join x (Some a) None = refl
later_join x (Some a) (Some b) = omega arith

latest-append : (xs ys : List Measure) → latest (xs ++ ys) ≡ join (latest xs) (latest ys)
latest-append [] ys = refl
latest-append (m ∷ xs) ys =
    ap (λ o. Some (later m.at o)) (latest-append xs ys) ∙ ap Some (later_join m.at (latest xs) (latest ys))

accepts_rises : (p : ArchivePolicy) (o q : Option ℕ) → accepts_from p o ≤ accepts_from p (join o q)
accepts_rises p None q = omega arith
accepts_rises p (Some a) q = omega (arith, floor-mono a (later a q) (largest_of p.definitions) (later_le a q))

-- ---- the least timestamp

earlier_late : (c : ℕ) (o q : Option ℕ) (at : ℕ) → ((x : ℕ) → o ≡ Some x → c ≤ x) → ((x : ℕ) → q ≡ Some x → c ≤ x) → earlier o q ≡ Some at → c ≤ at
earlier_late c None q at h k is = k at is
earlier_late c (Some x) None at h k is = h at is
earlier_late c (Some x) (Some y) at h k is = omega (arith, h x refl, k y refl, same_Some (min x y) at is)

earliest_late : (c : ℕ) (xs : List Measure) (at : ℕ) → All (λ m. c ≤ m.at) xs → earliest xs ≡ Some at → c ≤ at
earliest_late c [] at all is = absurd (none-some at is)
earliest_late c (m ∷ xs) at all is =
    earlier_late c (Some m.at) (earliest xs) at
    (λ x same. omega (arith, All-head (λ (y : Measure). c ≤ y.at) m xs all, same_Some m.at x same))
    (λ x there. earliest_late c xs x (All-tail (λ (y : Measure). c ≤ y.at) m xs all) there) is

-- ---- one batch more

-- what was accepted before stays in front
grown : (p : ArchivePolicy) (accepted : List Measure) (batches : List (List Measure)) → accepted_after p accepted batches ≡ accepted ++ drop (length accepted) (accepted_after p accepted batches)
grown p accepted [] = sym (ap (λ l. accepted ++ l) (drop-length accepted) ∙ append-nil accepted)
grown p accepted (batch ∷ batches) =
    let more = newly_accepted p accepted batch in
    let whole = accepted_after p (accepted ++ more) batches in
    let rest = drop (length (accepted ++ more)) whole in
    let is : whole ≡ accepted ++ (more ++ rest) = grown p (accepted ++ more) batches ∙ append_assoc accepted more rest in
    is ∙ ap (λ l. accepted ++ l) (sym (ap (drop (length accepted)) is ∙ drop-append_seam accepted (more ++ rest)))

-- nothing was taken yet
pub none_taken : (p : ArchivePolicy) (cut : ℕ) (accepted : List Measure) (raw : Tail) → cut ≤ accepts_from p (latest accepted) → raw ≡ tail_of cut accepted → AreTaken p cut accepted [] raw None
none_taken p cut accepted raw le is = record {
  kept = is;
  window = le;
  least = ap earliest (sym (drop-length accepted));
  late = λ at there. absurd (none-some at there);
}

pub taken_more : (p : ArchivePolicy) (cut : ℕ) (accepted : List Measure) (batches : List (List Measure)) (i : ℕ) (batch : List Measure) (raw new : Tail) (from touched : Option ℕ) → i < length batches → batch ≡ get_or batches i batch → AreTaken p cut accepted (take i batches) raw from → touched ≡ earliest (taken p raw batch) → ((c : ℕ) (l : List Measure) → c ≤ accepts_from p (latest l) → raw ≡ tail_of c l → new ≡ tail_of c (l ++ newly_accepted p l batch)) → AreTaken p cut accepted (take (i + 1) batches) new (earlier from touched)
taken_more p cut accepted batches i batch raw new from touched below is before from_batch turn =
    let so_far = accepted_after p accepted (take i batches) in
    let more = newly_accepted p so_far batch in
    let whole : accepted_after p accepted (take (i + 1) batches) ≡ so_far ++ more =
    ap (accepted_after p accepted) (take_more batches i batch below ∙ ap (λ x. take i batches ++ x ∷ []) (sym is))
    ∙ accepted_onto-append (largest_of p.definitions) p.back_window accepted (take i batches) (batch ∷ []) in
    let front : length accepted ≤ length so_far =
    omega (arith, ap length (grown p accepted (take i batches)), length-append accepted (drop (length accepted) so_far)) in
    let touches : touched ≡ earliest more = from_batch ∙ ap (λ (t : Tail). earliest (taken p t batch)) before.kept in
    let least : earlier from touched ≡ earliest (drop (length accepted) (so_far ++ more)) =
    ap (λ o. earlier o touched) before.least ∙ ap (earlier (earliest (drop (length accepted) so_far))) touches
    ∙ sym (earliest-append (drop (length accepted) so_far) more)
    ∙ ap earliest (sym (drop-append-le (length accepted) so_far more front)) in
    record {
      kept = turn cut so_far before.window before.kept ∙ ap (tail_of cut) (sym whole);
      window = subst (λ l. cut ≤ accepts_from p (latest l)) (sym whole) (subst (λ o. cut ≤ accepts_from p o) (sym (latest-append so_far more)) (omega (arith, before.window, accepts_rises p (latest so_far) (latest more))));
      least = least ∙ ap (λ l. earliest (drop (length accepted) l)) (sym whole);
      late = λ at there. earlier_late cut from touched at before.late (λ x same. earliest_late cut more x (all_late cut p (latest so_far) batch before.window) (sym touches ∙ same)) there;
    }
