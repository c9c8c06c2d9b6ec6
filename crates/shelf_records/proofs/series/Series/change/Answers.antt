use Rattle.std.proofs.Common.{◌≡◌, ◌≢◌, ℕ, suc, ◌<◌, ◌≤◌, List, ◌∷◌, ◌++◌, length, take, drop, get_or, Option, Some, sym, ap, subst, ◌∙◌, vec_len, length-append, length-take, length-drop, rules, arith}
use Rattle.std.specs.List.{All, slice_get}
use Rattle.std.specs.List.Sorted.{IsStrictlyIncreasing}
use Rattle.std.proofs.lemmas.List.{get_or_default}
use Rattle.std.proofs.lemmas.Option.{slice_get_within}
use Rattle.gno_codec.specs.declared.item.Block.{Block}
use Rattle.shelf_records.specs.Series.{changed, stored_at}
use Rattle.shelf_records.proofs.Keys.{absent_gone, absent_put, absent_rising, there_gone, there_put}
use Rattle.shelf_records.proofs.series.Series.change.Goals as goal

pub remove-requires : goal.remove-requires
remove-requires c =
    let s = c.self.inside in
    let there : slice_get s.keys.items c.place_of-place.result ≡ Some c.args.key = search rules in
    let long : vec_len s.keys ≡ length s.keys.items = search rules in
    rw long (slice_get_within s.keys.items c.place_of-place.result c.args.key there)

pub returns-in-Some-clause-ok : goal.returns-in-Some-clause-ok
returns-in-Some-clause-ok c =
    let s = c.self.inside in
    let keys = s.keys.items in
    let blocks = s.blocks.items in
    let k = c.args.key in
    let p = c.place_of-place.result in
    let before : All (λ x. x < k) (take p keys) = search rules in
    let behind : All (λ x. k ≤ x) (drop p keys) = search rules in
    let there : slice_get keys p ≡ Some k = search rules in
    let inside : p < length keys = slice_get_within keys p k there in
    let below : p < length blocks = omega (arith, inside, c.self.invariant.paired) in
    let old = get_or blocks p c.in-Some.block in
    there_put k p keys blocks c.self.invariant.paired c.self.invariant.rising before behind there old below (get_or_default blocks p c.in-Some.block old below) c.in-Some.block
    ∙ ap (λ (b : Option Block). changed k b (stored_at keys blocks)) (sym c.in-Some.is)
    ∙ ap (changed k c.args.block) c.self.view_is

pub returns-in_ok-insert_at-in-Some-2-clause-ok : goal.returns-in_ok-insert_at-in-Some-2-clause-ok
returns-in_ok-insert_at-in-Some-2-clause-ok c =
    let s = c.self.inside in
    let keys = s.keys.items in
    let blocks = s.blocks.items in
    let k = c.args.key in
    let p = c.place_of-place.result in
    let before : All (λ x. x < k) (take p keys) = search rules in
    let behind : All (λ x. k ≤ x) (drop p keys) = search rules in
    let absent : slice_get keys p ≢ Some k = search rules in
    let new_keys : c.insert_at.new.keys.items ≡ take p keys ++ k ∷ drop p keys = search rules in
    let new_blocks : c.insert_at.new.blocks.items ≡ take p blocks ++ c.in-Some.block ∷ drop p blocks = search rules in
    ap (λ l. stored_at l c.insert_at.new.blocks.items) new_keys
    ∙ ap (stored_at (take p keys ++ k ∷ drop p keys)) new_blocks
    ∙ absent_put k p keys blocks c.self.invariant.paired c.self.invariant.rising before behind absent c.in-Some.block
    ∙ ap (λ (b : Option Block). changed k b (stored_at keys blocks)) (sym c.in-Some.is)
    ∙ ap (changed k c.args.block) c.self.view_is

pub returns-in-None-clause-ok : goal.returns-in-None-clause-ok
returns-in-None-clause-ok c =
    let s = c.self.inside in
    let keys = s.keys.items in
    let blocks = s.blocks.items in
    let k = c.args.key in
    let p = c.place_of-place.result in
    let before : All (λ x. x < k) (take p keys) = search rules in
    let behind : All (λ x. k ≤ x) (drop p keys) = search rules in
    let there : slice_get keys p ≡ Some k = search rules in
    let below : p < length blocks = omega (arith, slice_get_within keys p k there, c.self.invariant.paired) in
    let new_keys : c.remove.new.self.items ≡ take p keys ++ drop (suc p) keys = search rules in
    let new_blocks : c.remove-in-None.new.self.items ≡ take p blocks ++ drop (suc p) blocks = search rules in
    let old = c.remove-in-None.result in
    ap (λ l. stored_at l c.remove-in-None.new.self.items) new_keys
    ∙ ap (stored_at (take p keys ++ drop (suc p) keys)) new_blocks
    ∙ there_gone k p keys blocks c.self.invariant.paired c.self.invariant.rising before behind there (get_or blocks p old) below (get_or_default blocks p old (get_or blocks p old) below)
    ∙ ap (λ (b : Option Block). changed k b (stored_at keys blocks)) (sym c.in-None.is)
    ∙ ap (changed k c.args.block) c.self.view_is

pub returns-else-there-2-clause-ok : goal.returns-else-there-2-clause-ok
returns-else-there-2-clause-ok c =
    let s = c.self.inside in
    let keys = s.keys.items in
    let blocks = s.blocks.items in
    let k = c.args.key in
    let p = c.place_of-place.result in
    let before : All (λ x. x < k) (take p keys) = search rules in
    let behind : All (λ x. k ≤ x) (drop p keys) = search rules in
    let absent : slice_get keys p ≢ Some k = search rules in
    sym c.self.view_is
    ∙ sym (absent_gone k p keys blocks c.self.invariant.paired c.self.invariant.rising before behind absent)
    ∙ ap (λ (b : Option Block). changed k b (stored_at keys blocks)) (sym c.in-None.is)
    ∙ ap (changed k c.args.block) c.self.view_is

-- with one key more, at its place
put_series : (c_keys : List ℕ) (c_blocks : List Block) (k p : ℕ) (b : Block) (keys : List ℕ) (blocks : List Block) → length keys ≡ length blocks → IsStrictlyIncreasing keys → All (λ x. x < k) (take p keys) → All (λ x. k ≤ x) (drop p keys) → slice_get keys p ≢ Some k
    → c_keys ≡ take p keys ++ k ∷ drop p keys → c_blocks ≡ take p blocks ++ b ∷ drop p blocks → (length c_keys ≡ length c_blocks) × IsStrictlyIncreasing c_keys
put_series c_keys c_blocks k p b keys blocks paired rising before behind absent new_keys new_blocks = (
  omega (arith, ap length new_keys, ap length new_blocks, length-append (take p keys) (k ∷ drop p keys), length-append (take p blocks) (b ∷ drop p blocks), length-take p keys, length-take p blocks, length-drop p keys, length-drop p blocks, paired),
  subst IsStrictlyIncreasing (sym new_keys) (absent_rising k p keys blocks paired rising before behind absent),
)

pub invariant_of-self-in-Continue-1 : goal.invariant_of-self-in-Continue-1
invariant_of-self-in-Continue-1 c =
    let s = c.self.inside in
    let keys = s.keys.items in
    let blocks = s.blocks.items in
    let k = c.args.key in
    let p = c.place_of-place.result in
    let before : All (λ x. x < k) (take p keys) = search rules in
    let behind : All (λ x. k ≤ x) (drop p keys) = search rules in
    let absent : slice_get keys p ≢ Some k = search rules in
    let new_keys : c.insert_at.new.keys.items ≡ take p keys ++ k ∷ drop p keys = search rules in
    let new_blocks : c.insert_at.new.blocks.items ≡ take p blocks ++ c.in-Some.block ∷ drop p blocks = search rules in
    let made = put_series c.insert_at.new.keys.items c.insert_at.new.blocks.items k p c.in-Some.block keys blocks c.self.invariant.paired c.self.invariant.rising before behind absent new_keys new_blocks in
    record { paired = made.0; rising = made.1 }
