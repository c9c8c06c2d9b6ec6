-- A split that is looked for in blocks is the stored one.
use Rattle.std.proofs.Common.{◌≡◌, ℕ, ◌+◌, ◌*◌, ◌<◌, ◌≤◌, eqb, ltb, Bool, true, false, cond, List, [], ◌∷◌, length, get_or, slice_get, Option, Some, None, refl, sym, ap, subst, ◌∙◌, arith}
use Rattle.std.specs.Prelude.{IsSomeAnd, MatchOption, option_map, position}
use Rattle.std.specs.Bool.{⊤}
use Rattle.std.specs.Option.{IfSome}
use Rattle.std.specs.List.{AllZip}
use Rattle.std.proofs.lemmas.Bool.{and_parts, eqb-true, ltb-false, ltb-true}
use Rattle.std.proofs.lemmas.Option.{same_Some, slice_get-get_or, slice_get_past}
use Rattle.std.proofs.lemmas.List.Quantifiers.{position-Some}
use Rattle.std.proofs.lemmas.Slice.Zip.{AllZip-long}
use Rattle.std.proofs.Math.Nat.{mul-le-mul_right}
use Rattle.archive_policy.specs.declared.definition.Definition.{Definition}
use Rattle.archive_policy.specs.declared.kind.Kind.{Kind}
use Rattle.archive_policy.specs.declared.kind.Kind.TheVariants.{Mean}
use Rattle.archive_policy.specs.Kinds.{kind_index}
use Rattle.archive_policy.specs.Policies.{ArchivePolicy}
use Rattle.series_model.specs.declared.point.Split.{Split}
use Rattle.split_update.specs.Live.{Live}
use Rattle.gno_codec.specs.declared.item.Block.{Block}
use Rattle.shelf_records.specs.declared.series.Stored.{Stored}
use Rattle.shelf_records.specs.Filed.{IsFiled, is_series_of, place_in, splits_of}
use Rattle.shelf_records.specs.Series.{block_of}
use Rattle.shelf_records.specs.Shelved.{Kept, Shelved, metric_of}
use Rattle.shelf_records.proofs.Places.{splits_nowhere, splits_position}
use Rattle.shelf_blocks.specs.Blocks.{HoldsMetric, HoldsSplit, HoldsSplits}
use Rattle.series_model.specs.declared.metric.MetricId.{MetricId}
use Rattle.shelf_blocks.specs.BlockFaults.{MatchBlockFault}
use Rattle.shelf_blocks.specs.declared.fault.BlockFault.{BlockFault}
use Rattle.shelf_blocks.specs.declared.fault.BlockFault.TheVariants as block_fault
use Rattle.split_store.specs.Damage.{HasOddSplit}
use Rattle.split_store.specs.Loading.{IsFoundSplit, IsReadSplit}
use Rattle.split_store.specs.ShelfView.{list_at, list_for, split_among, split_in, split_with}
use Rattle.split_store.proofs.Found.{zip_at}
use Rattle.split_store.proofs.Cuts.{long_kept}

-- ---- by key

-- the split with a key, side by side with where it is stored
pub with_key : (z : List ℕ) (g key : ℕ) (stored : List Stored) (splits : List Split) → AllZip (HoldsSplit z g) stored splits
    → MatchOption (block_of key stored) (split_with key splits ≡ None) (λ block. (s : Split) × (split_with key splits ≡ Some s) × HoldsSplit z g (record { key = key; block = block }) s)
with_key z g key [] [] all = refl
with_key z g key [] (s ∷ splits) all = absurd all
with_key z g key (x ∷ stored) [] all = absurd all
with_key z g key (x ∷ stored) (s ∷ splits) all = by (eqb x.key key) refl (ap (λ k. eqb k key) all.0.key) (with_key z g key stored splits all.1)
  where
    Found : Option Block → Option Split → Type 0
    Found o found = MatchOption o (found ≡ None) (λ block. (s : Split) × (found ≡ Some s) × HoldsSplit z g (record { key = key; block = block }) s)

    by : (t : Bool) → eqb x.key key ≡ t → eqb s.key key ≡ eqb x.key key → Found (block_of key stored) (split_with key splits) → Found (cond t (Some x.block) (block_of key stored)) (cond (eqb s.key key) (Some s) (split_with key splits))
    by true e same rest =
        let at = eqb-true x.key key e in
        subst (λ (t : Bool). Found (Some x.block) (cond t (Some s) (split_with key splits))) (sym (same ∙ e))
        (s, refl, subst (λ k. HoldsSplit z g (record { key = k; block = x.block }) s) at all.0)
    by false e same rest = subst (λ (t : Bool). Found (block_of key stored) (cond t (Some s) (split_with key splits))) (sym (same ∙ e)) rest

-- ---- by definition and kind

-- the series of a definition and kind, with the splits that it holds; or there is none of both
pub data Looked (z : List ℕ) (m : Shelved) (l : Live) (definition : ℕ) (kind : Kind) : Type 0 where
  nowhere : splits_of definition kind m.kept ≡ [] → ((key : ℕ) → split_among key (list_for l.policy l.splits definition kind) ≡ None) → Looked z m l definition kind
  here : (kept : Kept) (splits : List Split) → splits_of definition kind m.kept ≡ kept.splits → kept.definition ≡ definition → list_for l.policy l.splits definition kind ≡ Some splits
      → HoldsSplits z m.policy kept splits → Looked z m l definition kind

no_kept : Kept
no_kept = record { definition = 0; kind = Mean; splits = [] }

module _ (z : List ℕ) (m : Shelved) (l : Live) (filed : IsFiled m) (holds : HoldsMetric z m l) (definition : ℕ) (kind : Kind) (placed : place_in m.policy definition kind ≡ position (is_series_of definition kind) m.kept) where
  abbrev kinds : ℕ
  kinds = length m.policy.kinds

  long : length l.splits ≡ length m.policy.definitions * kinds
  long = AllZip-long (HoldsSplits z m.policy) m.kept l.splits holds.splits ∙ long_kept m filed

  at_series : (place : ℕ) → position (is_series_of definition kind) m.kept ≡ Some place → list_for l.policy l.splits definition kind ≡ slice_get l.splits place → Looked z m l definition kind
  at_series place found list =
      let is = position-Some (is_series_of definition kind) m.kept place no_kept found in
      let k = get_or m.kept place no_kept in
      let within : place < length m.kept = is.0 in
      let same : splits_of definition kind m.kept ≡ k.splits = subst (λ (o : Option Kept). IsSomeAnd o (λ x. splits_of definition kind m.kept ≡ x.splits)) (slice_get-get_or m.kept place no_kept within) (splits_position definition kind m.kept place found) in
      let own : k.definition ≡ definition = eqb-true k.definition definition (and_parts (eqb k.definition definition) _ is.1).0 in
      let lists = AllZip-long (HoldsSplits z m.policy) m.kept l.splits holds.splits in
      here k (get_or l.splits place []) same own (list ∙ slice_get-get_or l.splits place [] (omega (arith, within, lists)))
      (zip_at (HoldsSplits z m.policy) m.kept l.splits place no_kept [] holds.splits within)

  Own : Kind → Bool
  Own k = eqb (kind_index k) (kind_index kind)

  -- the list that the live metric has
  list_of : (o : Option ℕ) → position (λ (k : Kind). eqb (kind_index k) (kind_index kind)) m.policy.kinds ≡ o → list_for l.policy l.splits definition kind ≡ list_at l.splits kinds definition o
  list_of o e = ap (λ (q : ArchivePolicy). list_for q l.splits definition kind) holds.policy ∙ ap (list_at l.splits kinds definition) e

  nowhere_is : place_in m.policy definition kind ≡ None → list_for l.policy l.splits definition kind ≡ None → Looked z m l definition kind
  nowhere_is none list = nowhere (splits_nowhere definition kind m.kept (sym placed ∙ none)) (λ key. ap (split_among key) list)

  past : ltb definition (length m.policy.definitions) ≡ false → (p : ℕ) → slice_get l.splits (definition * kinds + p) ≡ None
  past e p =
      let beyond : length m.policy.definitions ≤ definition = ltb-false definition (length m.policy.definitions) e in
      let more = mul-le-mul_right {m = length m.policy.definitions} {n = definition} kinds beyond in
      slice_get_past l.splits (definition * kinds + p) (omega (arith, long, more))

  pub looked : Looked z m l definition kind
  looked = by (ltb definition (length m.policy.definitions)) refl (position (λ (k : Kind). eqb (kind_index k) (kind_index kind)) m.policy.kinds) refl
    where
      by : (t : Bool) → ltb definition (length m.policy.definitions) ≡ t → (o : Option ℕ) → position (λ (k : Kind). eqb (kind_index k) (kind_index kind)) m.policy.kinds ≡ o → Looked z m l definition kind
      by true e (Some p) at =
          at_series (definition * kinds + p)
          (sym placed ∙ ap (λ (t : Bool). cond t (option_map (λ (n : ℕ). definition * kinds + n) (position (λ (k : Kind). eqb (kind_index k) (kind_index kind)) m.policy.kinds)) None) e ∙ ap (option_map (λ (n : ℕ). definition * kinds + n)) at)
          (list_of (Some p) at)
      by true e None at =
          nowhere_is (ap (λ (t : Bool). cond t (option_map (λ (n : ℕ). definition * kinds + n) (position (λ (k : Kind). eqb (kind_index k) (kind_index kind)) m.policy.kinds)) None) e ∙ ap (option_map (λ (n : ℕ). definition * kinds + n)) at)
          (list_of None at)
      by false e (Some p) at = nowhere_is (ap (λ (t : Bool). cond t (option_map (λ (n : ℕ). definition * kinds + n) (position (λ (k : Kind). eqb (kind_index k) (kind_index kind)) m.policy.kinds)) None) e) (list_of (Some p) at ∙ past e p)
      by false e None at = nowhere_is (ap (λ (t : Bool). cond t (option_map (λ (n : ℕ). definition * kinds + n) (position (λ (k : Kind). eqb (kind_index k) (kind_index kind)) m.policy.kinds)) None) e) (list_of None at)

  -- what was found is the stored split
  pub found_is : (key : ℕ) (split : Option Split) → IsFoundSplit z definition kind key m split → split ≡ split_in definition kind key (Some l)
  found_is key split found = by looked split found
    where
      absent : (o : Option Block) (s : Option Split) (g : ℕ) → o ≡ None → MatchOption o (s ≡ None) (λ block. (x : Split) × (s ≡ Some x) × HoldsSplit z g (record { key = key; block = block }) x) → s ≡ None
      absent None s g e m = m
      absent (Some b) s g e m = absurd cc

      there : (o : Option Block) (b : Block) (s : Option Split) (g : ℕ) → o ≡ Some b → MatchOption o (s ≡ None) (λ block. (x : Split) × (s ≡ Some x) × HoldsSplit z g (record { key = key; block = block }) x)
          → (x : Split) × (s ≡ Some x) × HoldsSplit z g (record { key = key; block = b }) x
      there None b s g e m = absurd cc
      there (Some a) b s g e m = let same : a ≡ b = cc in subst (λ (c : Block). (x : Split) × (s ≡ Some x) × HoldsSplit z g (record { key = key; block = c }) x) same m

      by : Looked z m l definition kind → (split : Option Split) → IsFoundSplit z definition kind key m split → split ≡ split_among key (list_for l.policy l.splits definition kind)
      by (nowhere none list) None found = sym (list key)
      by (nowhere none list) (Some s) found = absurd (let e : None ≡ Some found.block = sym (ap (block_of key) none) ∙ found.stored in cc)
      by (here kept splits same own list held) None found =
          sym (ap (split_among key) list ∙ absent (block_of key kept.splits) (split_with key splits) held.definition.granularity (ap (block_of key) (sym same) ∙ found) (with_key z held.definition.granularity key kept.splits splits held.each))
      by (here kept splits same own list held) (Some s) found =
          let at = there (block_of key kept.splits) found.block (split_with key splits) held.definition.granularity (ap (block_of key) (sym same) ∙ found.stored) (with_key z held.definition.granularity key kept.splits splits held.each) in
          let one : held.definition ≡ found.of = same_Some held.definition found.of (sym held.there ∙ ap (slice_get m.policy.definitions) own ∙ found.there) in
          let is : s ≡ at.0 = found.exact at.0 (subst (λ (d : Definition). HoldsSplit z d.granularity (record { key = key; block = found.block }) at.0) one at.2) in
          ap Some is ∙ sym (ap (split_among key) list ∙ at.1)

  -- and a split that is held isn't damaged
  pub split_never_odd : (key : ℕ) (of : Definition) (block : Block) → slice_get m.policy.definitions definition ≡ Some of → block_of key (splits_of definition kind m.kept) ≡ Some block
      → ((s : Split) → HoldsSplit z of.granularity (record { key = key; block = block }) s → ⊥) → ⊥
  split_never_odd key of block there stored odd = by looked
    where
      at_block : (o : Option Block) (s : Option Split) (g : ℕ) → o ≡ Some block → MatchOption o (s ≡ None) (λ b. (x : Split) × (s ≡ Some x) × HoldsSplit z g (record { key = key; block = b }) x)
          → (x : Split) × HoldsSplit z g (record { key = key; block = block }) x
      at_block None s g e m = absurd cc
      at_block (Some a) s g e m = let same : a ≡ block = cc in (m.0, subst (λ (c : Block). HoldsSplit z g (record { key = key; block = c }) m.0) same m.2)

      by : Looked z m l definition kind → ⊥
      by (nowhere none list) = absurd (let e : None ≡ Some block = sym (ap (block_of key) none) ∙ stored in cc)
      by (here kept splits same own list held) =
          let at = at_block (block_of key kept.splits) (split_with key splits) held.definition.granularity (ap (block_of key) (sym same) ∙ stored) (with_key z held.definition.granularity key kept.splits splits held.each) in
          let one : held.definition ≡ of = same_Some held.definition of (sym held.there ∙ ap (slice_get m.policy.definitions) own ∙ there) in
          odd at.0 (subst (λ (d : Definition). HoldsSplit z d.granularity (record { key = key; block = block }) at.0) one at.1)

-- a definition and kind that have a place are of the policy
pub within_policy : (policy : ArchivePolicy) (definition : ℕ) (kind : Kind) (place : ℕ) → place_in policy definition kind ≡ Some place → definition < length policy.definitions
within_policy policy definition kind place found = by (ltb definition (length policy.definitions)) refl found
  where
    own : Option ℕ
    own = option_map (λ (n : ℕ). definition * length policy.kinds + n) (position (λ (k : Kind). eqb (kind_index k) (kind_index kind)) policy.kinds)

    by : (t : Bool) → ltb definition (length policy.definitions) ≡ t → cond t own None ≡ Some place → definition < length policy.definitions
    by true e found = ltb-true definition (length policy.definitions) e
    by false e found = absurd cc

-- what was read of a split
pub read_is : (told : Option (List ℕ)) (metrics : List Shelved) (m : Shelved) (found : Option Shelved) (definition : ℕ) (kind : Kind) (key : ℕ) (d : Definition) (block : Block) (split : Split) → found ≡ Some m → slice_get m.policy.definitions definition ≡ Some d
    → block_of key (splits_of definition kind m.kept) ≡ Some block → IfSome told (λ z. HoldsSplit z d.granularity (record { key = key; block = block }) split)
    → IfSome told (λ z. (other : Split) → HoldsSplit z d.granularity (record { key = key; block = block }) other → split ≡ other)
    → IfSome told (λ z. (x : Shelved) → found ≡ Some x → IsReadSplit z definition kind key x split)
read_is None metrics m found definition kind key d block split is there stored holds exact = tt
read_is (Some z) metrics m found definition kind key d block split is there stored holds exact =
    λ x other. subst (λ (y : Shelved). IsReadSplit z definition kind key y split) (same_Some m x (sym is ∙ other))
    (record { of = d; there = there; block = block; stored = stored; holds = holds; exact = exact })

-- a split that wasn't read
pub odd_is : (e : BlockFault) (P : Type 0) (told : Option (List ℕ)) (metrics : List Shelved) (id : MetricId) (m : Shelved) (definition : ℕ) (kind : Kind) (key : ℕ) (d : Definition) (block : Block) → metric_of id metrics ≡ Some m → slice_get m.policy.definitions definition ≡ Some d
    → block_of key (splits_of definition kind m.kept) ≡ Some block
    → MatchBlockFault e P (λ at. (at ≡ block.at) × IfSome told (λ z. (split : Split) → HoldsSplit z d.granularity (record { key = key; block = block }) split → ⊥)) ⊤
    → MatchBlockFault e P (λ at. IfSome told (λ z. HasOddSplit metrics id definition kind key z at)) ⊤
odd_is block_fault.Failed P told metrics id m definition kind key d block is there stored was = was
odd_is (block_fault.Damaged at) P None metrics id m definition kind key d block is there stored was = tt
odd_is (block_fault.Damaged at) P (Some z) metrics id m definition kind key d block is there stored was =
    record { metric = m; live = is; of = d; there = there; block = block; stored = stored; at_is = was.0; unspelled = was.1 }
odd_is block_fault.Memory P told metrics id m definition kind key d block is there stored was = was

pub none_matched : {A P : Type 0} (Q : A → Type 0) (o : Option A) → o ≡ None → P → MatchOption o P Q
none_matched Q None e p = p
none_matched Q (Some x) e p = absurd cc
