use Rattle.std.proofs.Common.{◌≢◌, List, sym, subst, ◌∙◌, arith, take_all}
use Rattle.std.specs.List.{All, Contains}
use Rattle.std.proofs.lemmas.Bool.{both_ways}
use Rattle.std.proofs.lemmas.Bool.Decides.{Decides-eqb}
use Rattle.std.proofs.lemmas.Slice.Eq.{slice_eq-Decides}
use Rattle.std.proofs.lemmas.List.Elements.{All-more, All-contains, All-same}
use Rattle.archive_policy.specs.declared.kind.Kind.{Kind}
use Rattle.archive_policy.specs.declared.kind.Kind.TheVariants.{Mean}
use Rattle.archive_policy.specs.Kinds.{kind_name}
use Rattle.archive_policy.proofs.KindLemmas.{in_table}
use Rattle.archive_policy.proofs.kind.Kind.of_name.Goals as goal

pub loop-kind-preserved : goal.loop-kind-preserved
loop-kind-preserved c =
    let items = c.table-kind-items.result.now in
    let i = c.loop-kind.kind-index in
    let decides = slice_eq-Decides Decides-eqb _ _ _ c.eq.ensures in
    All-more (λ (kind : Kind). c.args.name.now ≢ kind_name kind) items i Mean (omega arith) c.loop-kind.invariant (λ same. both_ways c.eq.result c.if-eq.false (decides.1 (same ∙ sym (c.as_bytes.ensures.value ∙ c.name.ensures))))

pub returns : goal.returns
returns c kind =
    let items = c.table-kind-items.result.now in
    let P : Kind → Type 0 = λ k. c.args.name.now ≢ kind_name k in
    let all : All P items =
    All-same P items _ (sym (take_all c.loop-kind.kind-index items (omega arith))) c.loop-kind.invariant in
    let Q : List Kind → Type 0 = λ ks. Contains ks kind in
    let there : Contains items kind = subst Q (sym c.table-kind-items.ensures) (in_table kind) in
    (λ e. cc, λ same. absurd (All-contains P items kind all there same))
