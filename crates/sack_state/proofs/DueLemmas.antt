-- The metric whose turn is next, by the books and by what counted.
use Rattle.std.proofs.Common.{◌≡◌, ℕ, zero, suc, List, [], ◌∷◌, ◌++◌, map, length, Option, Some, None, refl, sym, ap, ◌∙◌}
use Rattle.std.specs.List.{slice_get}
use Rattle.std.specs.Option.{is_some, option_map}
use Rattle.gno_disk.specs.declared.disk.Disk.{Ghosts}
use Rattle.series_model.specs.declared.metric.MetricId.{MetricId}
use Rattle.incoming.specs.declared.mark.Mark.{Mark}
use Rattle.shelf_records.specs.Shelved.{Shelved, metric_of}
use Rattle.sack_history.specs.declared.entry.Counted.{Counted}
use Rattle.sack_history.specs.Legal.{IsLegalCount}
use Rattle.sack_history.specs.Lives.{Life, Posted, life_of, pending_in, pending_of, pending_posts}
use Rattle.sack_history.specs.Scratch.{durable}
use Rattle.sack_history.specs.Turns.{if_waiting, longest_waiting, next_turn, turn_and_later, turns_by}
use Rattle.sack_history.proofs.Numbers.{numbers}
use Rattle.sack_state.specs.declared.books.Books.{Books}
use Rattle.sack_state.specs.Committing.{turn_due}
use Rattle.sack_state.specs.SackView.{HasDurable, Remembers, mark_by, marks_waiting}
use Rattle.sack_state.specs.Waiting.{numbers_over, numbers_waiting}
use Rattle.sack_state.proofs.JobLemmas.{longest_known}
use Rattle.sack_state.proofs.KnowLemmas.{knows_live}
use Rattle.sack_state.proofs.LifeLemmas.{not_live}
use Rattle.sack_state.proofs.MetricLemmas.{numbers_are}

-- the same by what counted
abbrev pub whose : Option MetricId → List Counted → Option MetricId
whose None = longest_waiting
whose (Some metric) = if_waiting metric

map_length : {A B : Type 0} (f : A → B) (l : List A) → length (map f l) ≡ length l
map_length f [] = refl
map_length f (x ∷ l) = ap suc (map_length f l)

first_number : (m : MetricId) (posts : List Posted) → option_map (λ (n : ℕ). m) (slice_get (numbers posts) 0) ≡ option_map (λ (p : Posted). m) (slice_get posts 0)
first_number m [] = refl
first_number m (p ∷ posts) = refl

through_mark : (m : MetricId) (o : Option ℕ) → option_map (λ (mark : Mark). m) (option_map (λ (n : ℕ). let k : Mark = record { number = n; metric = m } in k) o) ≡ option_map (λ (n : ℕ). m) o
through_mark m None = refl
through_mark m (Some n) = refl

module _ {D : Type 0} (g : Ghosts D) (b : Books D) (counts : List Counted) (has : HasDurable g b (durable counts)) (remembers : Remembers b (durable counts)) (legal : IsLegalCount counts) where
  -- the numbers of a metric's posts that wait
  pub waiting_numbers : (metric : MetricId) → numbers_waiting b metric ≡ numbers (pending_of metric counts)
  waiting_numbers metric = by (metric_of metric b.shelf.metrics) refl
    where
      by : (o : Option Shelved) → metric_of metric b.shelf.metrics ≡ o → numbers_waiting b metric ≡ numbers (pending_of metric counts)
      by None is =
          ap (λ (o : Option Shelved). numbers_over (option_map (λ (m : Shelved). m.done) o) metric b.incoming.marks) is
          ∙ sym (ap (λ (o : Option Life). numbers (pending_in o)) (not_live (life_of metric counts) (sym (knows_live b counts metric remembers) ∙ ap is_some is)))
      by (Some known) is =
          ap (λ (o : Option Shelved). numbers_over (option_map (λ (m : Shelved). m.done) o) metric b.incoming.marks) is ∙ numbers_are g b counts has legal metric known is

  -- whose turn is next
  pub due_known : (only : Option MetricId) → turn_due only b ≡ whose only counts
  due_known None = sym (longest_known b counts remembers)
  due_known (Some metric) =
      through_mark metric (slice_get (numbers_waiting b metric) 0)
      ∙ ap (λ l. option_map (λ (n : ℕ). metric) (slice_get l 0)) (waiting_numbers metric) ∙ first_number metric (pending_of metric counts)

  -- how many posts wait
  pub waiting_of_metric : (metric : MetricId) → length (numbers_waiting b metric) ≡ length (pending_of metric counts)
  waiting_of_metric metric = ap length (waiting_numbers metric) ∙ map_length (λ (p : Posted). p.number) (pending_of metric counts)

  pub waiting_of_all : length (marks_waiting b) ≡ length (pending_posts counts)
  waiting_of_all = ap length remembers.waiting ∙ map_length mark_by (pending_posts counts)

-- ---- turns, one after another

-- no turn is left where none is next
pub none_left : (only : Option MetricId) (left : ℕ) (counts : List Counted) → whose only counts ≡ None → turns_by (whose only) left counts ≡ []
none_left only zero counts none = refl
none_left only (suc left) counts none = ap (λ o. turn_and_later o counts (turns_by (whose only) left)) none

pub next_left : (only : Option MetricId) (left : ℕ) (counts : List Counted) (metric : MetricId) → whose only counts ≡ Some metric
    → turns_by (whose only) (suc left) counts ≡ next_turn metric counts ∷ turns_by (whose only) left (counts ++ next_turn metric counts ∷ [])
next_left only left counts metric next = ap (λ o. turn_and_later o counts (turns_by (whose only) left)) next
