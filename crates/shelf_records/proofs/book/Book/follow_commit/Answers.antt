use Rattle.std.proofs.Common.{◌≡◌, ◌∙◌, List, Some, true, false, Result, Ok, Err, sym, ap, subst, rules}
use Rattle.std.proofs.lemmas.Bool.{false≢true}
use Rattle.std.specs.List.{All, slice_get}
use Rattle.std.specs.Result.{IfErr, IfOk}
use Rattle.std.proofs.lemmas.Option.{get_or_from_slice_get}
use Rattle.gno_codec.specs.declared.item.ShelfItem.TheVariants as items
use Rattle.shelf_records.specs.Book.{BookView, IsPlaceOf, new_blocks}
use Rattle.shelf_records.specs.Shelved.{AreBlocks, FitsMetric, IsInSlot, MayFollow, Shelved, after_record}
use Rattle.shelf_records.proofs.Metrics.{read_slots}
use Rattle.shelf_records.proofs.book.Book.follow_commit.Goals as goal

ok_then : {T E : Type 0} {P Q : T → Type 0} (r : Result T E) → IfOk r P → ((x : T) → P x → Q x) → IfOk r Q
ok_then (Ok x) is then = then x is
ok_then (Err e) is then = is

err_then : {T E : Type 0} {P Q : E → Type 0} (r : Result T E) → IfErr r P → ((e : E) → P e → Q e) → IfErr r Q
err_then (Ok x) is then = is
err_then (Err e) is then = then e is

pub returns-then-not-are_in_slots-clause-damaged : goal.returns-then-not-are_in_slots-clause-damaged
returns-then-not-are_in_slots-clause-damaged c same live after =
    let b = c.self.inside in
    let old = c.self.invariant in
    let item = c.args.item in
    let place = c.in-Some.place in
    let are : b.metrics.items ≡ c.args.self.metrics = ap (λ (v : BookView). v.metrics) c.self.view_is in
    let at : IsPlaceOf item.metric c.args.self.metrics place = c.in-Some.ensures {u = tt} in
    let is : IsPlaceOf item.metric b.metrics.items place = subst (λ (ms : List Shelved). IsPlaceOf item.metric ms place) (sym are) at in
    let here : MayFollow b.metrics.items (items.Commit item) = subst (λ (ms : List Shelved). MayFollow ms (items.Commit item)) (sym are) live in
    let all = read_slots b.metrics.items item place is old.rising old.filed here c.requires.order c.args.size (subst (λ (ms : List Shelved). AreBlocks c.args.size (after_record ms (items.Commit item))) (sym are) after) in
    let no : c.are_in_slots.result ≡ false = search rules in
    let blocks : c.deref.result.now ≡ new_blocks item = c.deref.ensures.value ∙ c.in_ok-blocks.ensures {u = tt} in
    let yes : c.are_in_slots.result ≡ true = c.are_in_slots.ensures.1 (subst (All (IsInSlot c.args.size)) (sym blocks) all) in
    false≢true (sym no ∙ yes)

pub turn-requires-clause-live : goal.turn-requires-clause-live
turn-requires-clause-live c =
    let b = c.self.inside in
    let old = c.self.invariant in
    let item = c.args.item in
    let place = c.in-Some.place in
    let are : b.metrics.items ≡ c.args.self.metrics = ap (λ (v : BookView). v.metrics) c.self.view_is in
    let at : IsPlaceOf item.metric c.args.self.metrics place = c.in-Some.ensures {u = tt} in
    let there : slice_get b.metrics.items place ≡ Some at.metric = ap (λ (ms : List Shelved). slice_get ms place) are ∙ at.there in
    let own : c.index.result.now ≡ at.metric = c.index.ensures ∙ get_or_from_slice_get b.metrics.items place at.metric c.index.result.now there in
    let yes : c.fits.result ≡ true = search rules in
    let fits : FitsMetric item c.index.result.now = c.fits.ensures.0 yes in
    (at.metric, at.found, subst (FitsMetric item) own fits)

pub turn-requires-clause-slots : goal.turn-requires-clause-slots
turn-requires-clause-slots c =
    let yes_slots : c.are_in_slots.result ≡ true = search rules in
    let slots : All (IsInSlot c.args.size) c.deref.result.now = c.are_in_slots.ensures.0 yes_slots in
    (c.args.size, (c.requires.size, subst (All (IsInSlot c.args.size)) (c.deref.ensures.value ∙ sym c.deref-2.ensures.value) slots))

pub returns-clause-legal : goal.returns-clause-legal
returns-clause-legal c =
    let b = c.self.inside in
    let old = c.self.invariant in
    let item = c.args.item in
    let place = c.in-Some.place in
    let are : b.metrics.items ≡ c.args.self.metrics = ap (λ (v : BookView). v.metrics) c.self.view_is in
    let at : IsPlaceOf item.metric c.args.self.metrics place = c.in-Some.ensures {u = tt} in
    let there : slice_get b.metrics.items place ≡ Some at.metric = ap (λ (ms : List Shelved). slice_get ms place) are ∙ at.there in
    let own : c.index.result.now ≡ at.metric = c.index.ensures ∙ get_or_from_slice_get b.metrics.items place at.metric c.index.result.now there in
    let yes : c.fits.result ≡ true = search rules in
    let fits : FitsMetric item c.index.result.now = c.fits.ensures.0 yes in
    let yes_slots : c.are_in_slots.result ≡ true = search rules in
    let slots : All (IsInSlot c.args.size) c.deref.result.now = c.are_in_slots.ensures.0 yes_slots in
    ok_then c.turn.result c.turn.ensures.blocks (λ book blocks. ((at.metric, at.found, subst (FitsMetric item) own fits), blocks c.args.size c.requires.blocks (subst (All (IsInSlot c.args.size)) (c.deref.ensures.value ∙ sym c.deref-2.ensures.value) slots)))

pub returns-clause-damaged : goal.returns-clause-damaged
returns-clause-damaged c = err_then c.turn.result c.turn.ensures.damaged (λ fault refused same live after. refused same c.args.size after)
