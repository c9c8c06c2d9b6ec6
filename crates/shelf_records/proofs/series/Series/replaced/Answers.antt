use Rattle.std.proofs.Common.{◌≡◌, ℕ, List, ◌++◌, map, length, take, drop, sym, ap, subst, ◌∙◌, length-append, length-take, length-drop, rules, arith}
use Rattle.std.specs.List.Sorted.{IsStrictlyIncreasing}
use Rattle.std.proofs.lemmas.List.{length-map}
use Rattle.gno_codec.specs.declared.item.Block.{Block}
use Rattle.shelf_records.specs.declared.series.Stored.{Stored}
use Rattle.shelf_records.specs.Series.{stored_at}
use Rattle.shelf_records.proofs.Keys.{key_of, keys_stored, length-stored, stored-append, stored_again, stored_between}
use Rattle.shelf_records.proofs.series.Series.replaced.Goals as goal

-- what is between two places, and other splits behind it
joined : (first until : ℕ) (keys : List ℕ) (blocks : List Block) (made : List Stored) → length keys ≡ length blocks
    → stored_at (drop first (take until keys) ++ map key_of made) (drop first (take until blocks) ++ map (λ (s : Stored). s.block) made) ≡ drop first (take until (stored_at keys blocks)) ++ made
joined first until keys blocks made paired =
    let same : length (drop first (take until keys)) ≡ length (drop first (take until blocks)) =
    omega (arith, length-drop first (take until keys), length-drop first (take until blocks), length-take until keys, length-take until blocks, paired) in
    stored-append (drop first (take until keys)) (map key_of made) (drop first (take until blocks)) (map (λ (s : Stored). s.block) made) same
    ∙ ap (λ l. l ++ stored_at (map key_of made) (map (λ (s : Stored). s.block) made)) (stored_between first until keys blocks)
    ∙ ap (λ l. drop first (take until (stored_at keys blocks)) ++ l) (stored_again made)

pub between-requires : goal.between-requires
between-requires c =
    let s = c.self.inside in
    let long : length c.args.self.now ≡ length s.keys.items = ap length (sym c.self.view_is) ∙ length-stored s.keys.items s.blocks.items c.self.invariant.paired in
    (c.requires.within.0, rw c.deref.ensures.value (omega (arith, c.requires.within.1, long)))

pub between-requires-2 : goal.between-requires-2
between-requires-2 c =
    let s = c.self.inside in
    let long : length c.args.self.now ≡ length s.keys.items = ap length (sym c.self.view_is) ∙ length-stored s.keys.items s.blocks.items c.self.invariant.paired in
    (c.requires.within.0, rw c.deref-2.ensures.value (omega (arith, c.requires.within.1, long, c.self.invariant.paired)))

-- what the new vectors are
new_series : (first until : ℕ) (keys new_keys : List ℕ) (blocks new_blocks : List Block) (splits made : List Stored) → length keys ≡ length blocks → stored_at keys blocks ≡ splits
    → new_keys ≡ drop first (take until keys) ++ map key_of made → new_blocks ≡ drop first (take until blocks) ++ map (λ (s : Stored). s.block) made → IsStrictlyIncreasing (map key_of (drop first (take until splits) ++ made))
    → (stored_at new_keys new_blocks ≡ drop first (take until splits) ++ made) × (length new_keys ≡ length new_blocks) × IsStrictlyIncreasing new_keys
new_series first until keys new_keys blocks new_blocks splits made paired are keys_are blocks_are rising =
    let same : length (drop first (take until keys)) ≡ length (drop first (take until blocks)) =
    omega (arith, length-drop first (take until keys), length-drop first (take until blocks), length-take until keys, length-take until blocks, paired) in
    let long : length new_keys ≡ length new_blocks =
    omega (arith, ap length keys_are, ap length blocks_are, length-append (drop first (take until keys)) (map key_of made), length-append (drop first (take until blocks)) (map (λ (s : Stored). s.block) made), length-map made key_of, length-map made (λ (s : Stored). s.block), same) in
    let is : stored_at new_keys new_blocks ≡ drop first (take until splits) ++ made =
    ap (λ l. stored_at l new_blocks) keys_are ∙ ap (stored_at (drop first (take until keys) ++ map key_of made)) blocks_are
    ∙ joined first until keys blocks made paired ∙ ap (λ l. drop first (take until l) ++ made) are in
    (is, long, subst IsStrictlyIncreasing (ap (map key_of) (sym is) ∙ keys_stored new_keys new_blocks long) rising)

pub invariant_of-result : goal.invariant_of-result
invariant_of-result c =
    let s = c.self.inside in
    let keys_are : c.push_all.new.keys.items ≡ drop c.args.first (take c.args.until s.keys.items) ++ map key_of c.args.made.now = search rules in
    let blocks_are : c.push_all.new.blocks.items ≡ drop c.args.first (take c.args.until s.blocks.items) ++ map (λ (x : Stored). x.block) c.args.made.now = search rules in
    let made = new_series c.args.first c.args.until s.keys.items c.push_all.new.keys.items s.blocks.items c.push_all.new.blocks.items c.args.self.now c.args.made.now c.self.invariant.paired c.self.view_is keys_are blocks_are c.requires.rising in
    record { paired = made.1; rising = made.2 }

pub returns : goal.returns
returns c =
    let s = c.self.inside in
    let keys_are : c.push_all.new.keys.items ≡ drop c.args.first (take c.args.until s.keys.items) ++ map key_of c.args.made.now = search rules in
    let blocks_are : c.push_all.new.blocks.items ≡ drop c.args.first (take c.args.until s.blocks.items) ++ map (λ (x : Stored). x.block) c.args.made.now = search rules in
    let made = new_series c.args.first c.args.until s.keys.items c.push_all.new.keys.items s.blocks.items c.push_all.new.blocks.items c.args.self.now c.args.made.now c.self.invariant.paired c.self.view_is keys_are blocks_are c.requires.rising in
    made.0
