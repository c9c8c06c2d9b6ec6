use Rattle.std.proofs.Common.{◌≡◌, ◌+◌, ◌≤◌, ◌<◌, ℕ, List, [], All, IfSome, Option, Some, None, sym, ap, subst, ◌∙◌, arith}
use Rattle.std.specs.Bool.{⊤}
use Rattle.std.specs.List.{AllZip}
use Rattle.std.proofs.lemmas.List.Elements.{All-contains}
use Rattle.gno_num.specs.Floor.{split_key_of}
use Rattle.series_model.specs.declared.point.Split.{Split}
use Rattle.shelf_records.specs.Series.{block_of}
use Rattle.split_update.specs.Update.{IsInStretch, points_touched}
use Rattle.shelf_blocks.specs.Blocks.{HoldsSplit}
use Rattle.shelf_blocks.specs.Turns.{IsDamagedSplit}
use Rattle.shelf_blocks.proofs.Chunks.{chunk_fault}
use Rattle.shelf_blocks.proofs.TurnLemmas.{block_in, found_placed, kept_at, told_damage, told_none, told_one}
use Rattle.shelf_blocks.proofs.turn.touched_split.Goals as goal

pub returns-in_default-block_of-clause-touched : goal.returns-in_default-block_of-clause-touched
returns-in_default-block_of-clause-touched g c =
    let stored = c.args.series.now in
    let w = c.args.granularity in
    let at = c.in-Some.from in
    let is : block_of (split_key_of at w) stored ≡ None = ap (λ (k : ℕ). block_of k stored) (sym c.split_key-key.ensures) ∙ sym c.block_of.ensures ∙ c.in_default-block_of.is in
    let told = g.D.Disk.told c.args.disk.now in
    subst (λ (o : Option ℕ). IfSome told (λ z. (old : List Split) → AllZip (HoldsSplit z w) stored old → points_touched w o old ≡ [])) (sym c.in-Some.is) (told_none told w at stored is)

pub read_split_in-requires : goal.read_split_in-requires
read_split_in-requires g c =
    let b = c.in-Some-block_of.block in
    let is : block_of c.split_key-key.result c.args.series.now ≡ Some b = sym c.block_of.ensures ∙ c.in-Some-block_of.is in
    record { within = All-contains (λ s. s.block.at + s.block.len ≤ g.D.Disk.size c.args.disk.now) c.args.series.now (kept_at c.split_key-key.result b) c.requires.within (block_in c.split_key-key.result c.args.series.now b is) }

pub returns-in-Ok-clause-placed : goal.returns-in-Ok-clause-placed
returns-in-Ok-clause-placed g c =
    let w = c.args.granularity in
    let split = c.in-Ok.split in
    let is = c.in-Ok.ensures.is in
    let wide : 0 < w = (let s = c.requires.granularity.shortest in omega (arith, s)) in
    subst (λ (o : Option ℕ). IfSome o (λ at. All (IsInStretch w (split_key_of at w)) split.points)) (sym c.in-Some.is)
    (found_placed w c.in-Some.from split wide (is.1 ∙ c.split_key-key.ensures) is.0)

pub returns-in-Ok-clause-touched : goal.returns-in-Ok-clause-touched
returns-in-Ok-clause-touched g c =
    let stored = c.args.series.now in
    let w = c.args.granularity in
    let at = c.in-Some.from in
    let b = c.in-Some-block_of.block in
    let split = c.in-Ok.split in
    let key_is = c.split_key-key.ensures in
    let is : block_of (split_key_of at w) stored ≡ Some b = ap (λ (k : ℕ). block_of k stored) (sym key_is) ∙ sym c.block_of.ensures ∙ c.in-Some-block_of.is in
    let told = g.D.Disk.told c.args.disk.now in
    let exact = subst (λ (k : ℕ). IfSome told (λ z. (other : Split) → HoldsSplit z w (kept_at k b) other → split ≡ other)) key_is c.in-Ok.ensures.exact in
    subst (λ (o : Option ℕ). IfSome told (λ z. (old : List Split) → AllZip (HoldsSplit z w) stored old → points_touched w o old ≡ split.points)) (sym c.in-Some.is)
    (told_one told w at stored b split c.requires.rising is exact)

pub returns-in-Err-clause-cause : goal.returns-in-Err-clause-cause
returns-in-Err-clause-cause g c =
    let stored = c.args.series.now in
    let w = c.args.granularity in
    let b = c.in-Some-block_of.block in
    let key = c.split_key-key.result in
    let told = g.D.Disk.told c.args.disk.now in
    let is : block_of key stored ≡ Some b = sym c.block_of.ensures ∙ c.in-Some-block_of.is in
    chunk_fault c.in-Err.fault ⊤ b.at (λ at. IfSome told (λ z. (split : Split) → HoldsSplit z w (kept_at key b) split → ⊥)) (λ at. IfSome told (λ z. IsDamagedSplit z w stored at))
    (λ rose. rose) (λ none. told_damage told w key stored b is none) c.in-Err.ensures.cause
