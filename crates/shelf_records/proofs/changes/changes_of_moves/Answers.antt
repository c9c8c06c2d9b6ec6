use Rattle.std.proofs.Common.{◌≡◌, ◌∙◌, ◌*◌, ◌<◌, ◌≤◌, ◌++◌, List, Vec, Global, take, drop, length, map, sym, ap, subst}
use Rattle.std.specs.List.{All, AllPairs}
use Rattle.std.specs.List.Sorted.{IsStrictlyIncreasing}
use Rattle.std.proofs.lemmas.List.{drop-map, length-map, take-map}
use Rattle.std.proofs.lemmas.List.Elements.{All-map}
use Rattle.archive_policy.specs.declared.definition.Definition.{Definition}
use Rattle.archive_policy.specs.declared.kind.Kind.{Kind}
use Rattle.archive_policy.specs.Kinds.{kind_index}
use Rattle.archive_policy.proofs.Rising.{Rises, Rises_from_rising}
use Rattle.gno_codec.specs.Shelf.{ComesBefore}
use Rattle.gno_codec.specs.declared.item.Change.{Change}
use Rattle.shelf_records.specs.declared.moves.Move.{Move}
use Rattle.shelf_records.specs.Changes.{blocks_of_changes, changes_by}
use Rattle.shelf_records.specs.Filed.{emptied, layout_of}
use Rattle.shelf_records.specs.Moves.{blocks_of_moves}
use Rattle.shelf_records.specs.Shelved.{IsOfPolicy, Kept, kept_after}
use Rattle.shelf_records.proofs.Changing.{all_blocks, all_moves, code, emptied_codes, finished, flat_map-map, in_order, layout_rises, lists_of, of_policy, one_definition}
use Rattle.shelf_records.proofs.Places.{length-none, none_of}
use Rattle.shelf_records.proofs.changes.changes_of_moves.Goals as goal

pub loop-definition-preserved : goal.loop-definition-preserved
loop-definition-preserved c =
    let policy = c.args.policy.now in
    let lists = lists_of c.args.moves.now in
    let below : c.loop-definition.definition < length policy.definitions = subst (λ (ds : List Definition). c.loop-definition.definition < length ds) c.definitions-definition-end.ensures.value c.loop-definition-test.true in
    let long : length lists ≡ length policy.definitions * length policy.kinds = length-map c.args.moves.now (λ (own : Vec Move Global). own.items) ∙ c.requires in
    let own : lists_of c.of_definition-own.result.now ≡ take (length policy.kinds) (drop (c.loop-definition.definition * length policy.kinds) lists) =
    ap lists_of c.of_definition-own.ensures
    ∙ sym (take-map (λ (own : Vec Move Global). own.items) (length c.kinds-kinds.result.now) (drop (c.loop-definition.definition * length c.kinds-kinds.result.now) c.args.moves.now))
    ∙ ap (take (length c.kinds-kinds.result.now)) (sym (drop-map (λ (own : Vec Move Global). own.items) (c.loop-definition.definition * length c.kinds-kinds.result.now) c.args.moves.now))
    ∙ ap (λ (ks : List Kind). take (length ks) (drop (c.loop-definition.definition * length ks) lists)) c.kinds-kinds.ensures.value in
    let is : c.push_definition.new.changes.items ≡ c.loop-definition.changes.items ++ changes_by (map (none_of c.loop-definition.definition) policy.kinds) (take (length policy.kinds) (drop (c.loop-definition.definition * length policy.kinds) lists)) =
    c.in_ok-push_definition.ensures {u = tt}
    ∙ ap (λ (ks : List Kind). c.loop-definition.changes.items ++ changes_by (map (none_of c.loop-definition.definition) ks) (lists_of c.of_definition-own.result.now)) c.kinds-kinds.ensures.value
    ∙ ap (λ (ms : List (List Move)). c.loop-definition.changes.items ++ changes_by (map (none_of c.loop-definition.definition) policy.kinds) ms) own in
    one_definition policy lists c.loop-definition.changes.items c.push_definition.new.changes.items (changes_by (layout_of policy) lists) c.loop-definition.definition below long is c.loop-definition.invariant

all_changes : (c : goal.After-loop-definition) → c.loop-definition.changes.items ≡ changes_by (layout_of c.args.policy.now) (lists_of c.args.moves.now)
all_changes c =
    finished c.args.policy.now (lists_of c.args.moves.now) c.loop-definition.changes.items (changes_by (layout_of c.args.policy.now) (lists_of c.args.moves.now)) c.loop-definition.definition
    (subst (λ (ds : List Definition). length ds ≤ c.loop-definition.definition) c.definitions-definition-end.ensures.value c.loop-definition-test.false) c.loop-definition.invariant

long_lists : (c : goal.After-loop-definition) → length (lists_of c.args.moves.now) ≡ length (layout_of c.args.policy.now)
long_lists c =
    length-map c.args.moves.now (λ (own : Vec Move Global). own.items) ∙ c.requires ∙ sym (length-none c.args.policy.now.kinds 0 c.args.policy.now.definitions)

codes_rise : (c : goal.After-loop-definition) → Rises (map code (layout_of c.args.policy.now))
codes_rise c =
    let policy = c.args.policy.now in
    layout_rises policy.kinds 0 policy.definitions (Rises_from_rising (map kind_index policy.kinds) (subst (λ (ks : List Kind). IsStrictlyIncreasing (map kind_index ks)) c.kinds-kinds.ensures.value c.kinds-kinds.ensures.valid.in_table_order))

pub returns-clause-moved : goal.returns-clause-moved
returns-clause-moved c kept layout =
    let lists = lists_of c.args.moves.now in
    ap (λ (cs : List Change). map (kept_after cs) kept) (all_changes c ∙ ap (λ (ks : List Kept). changes_by ks lists) (sym layout))
    ∙ all_moves kept lists (long_lists c ∙ ap length (sym layout) ∙ length-map kept emptied) (subst Rises (ap (map code) (sym layout) ∙ emptied_codes kept) (codes_rise c))

pub returns-clause-in_order : goal.returns-clause-in_order
returns-clause-in_order c rising =
    let lists = lists_of c.args.moves.now in
    let all : All (λ (own : List Move). IsStrictlyIncreasing (map (λ (m : Move). m.key) own)) lists = All-map (λ (own : List Move). IsStrictlyIncreasing (map (λ (m : Move). m.key) own)) (λ (own : Vec Move Global). own.items) c.args.moves.now rising in
    subst (λ (cs : List Change). AllPairs ComesBefore cs) (sym (all_changes c)) (in_order (layout_of c.args.policy.now) lists (codes_rise c) all)

pub returns-clause-of_policy : goal.returns-clause-of_policy
returns-clause-of_policy c keys =
    subst (λ (cs : List Change). All (IsOfPolicy c.args.policy.now) cs) (sym (all_changes c)) (of_policy c.args.policy.now (lists_of c.args.moves.now) keys)

pub returns-clause-blocks : goal.returns-clause-blocks
returns-clause-blocks c =
    ap blocks_of_changes (all_changes c)
    ∙ all_blocks (layout_of c.args.policy.now) (lists_of c.args.moves.now) (long_lists c)
    ∙ flat_map-map blocks_of_moves (λ (own : Vec Move Global). own.items) c.args.moves.now
