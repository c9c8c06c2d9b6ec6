-- The posts that wait, metric by metric, by what the books of a sack know.
use Rattle.std.specs.Prelude.{ℕ, List, [], Option, Some, None, option_map}
use Rattle.series_model.specs.declared.metric.MetricId.{MetricId}
use Rattle.incoming.specs.declared.mark.Mark.{Mark}
use Rattle.incoming.specs.Posts.{numbers_above}
use Rattle.shelf_records.specs.Shelved.{metric_of}
use Rattle.sack_state.specs.declared.books.Books.{Books}

-- the numbers of a metric's posts above its done number, none where it has none
abbrev pub numbers_over : Option ℕ → MetricId → List Mark → List ℕ
numbers_over None metric marks = []
numbers_over (Some done) metric marks = numbers_above metric done marks

-- the numbers of a metric's posts that wait, none where it isn't live
abbrev pub numbers_waiting : {D : Type 0} → Books D → MetricId → List ℕ
numbers_waiting b metric = numbers_over (option_map (λ m. m.done) (metric_of metric b.shelf.metrics)) metric b.incoming.marks
