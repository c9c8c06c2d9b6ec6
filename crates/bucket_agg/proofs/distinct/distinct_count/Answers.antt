use Rattle.std.proofs.Common.{◌≡◌, length, ap, ◌∙◌, rules}
use Rattle.std.specs.Vec.{vec_len}
use Rattle.std.specs.Ordering.{int_eq}
use Rattle.std.proofs.lemmas.List.Filters.{dedup_is}
use Rattle.series_model.specs.Bucket.{distinct_count}
use Rattle.bucket_agg.proofs.DifferentValues.{length-dedup}
use Rattle.bucket_agg.proofs.distinct.distinct_count.Goals as goal

pub returns : goal.returns
returns c =
    let own : vec_len c.dedup.new.self ≡ length c.dedup.new.self.items = search rules in
    c.len.ensures ∙ own ∙ ap length (dedup_is int_eq _ _ c.dedup.ensures.filtered)
    ∙ length-dedup _ _ c.sort_unstable.ensures.permutation c.sort_unstable.ensures.sorted
    ∙ ap distinct_count c.in_ok-different.ensures.items
