-- What stands beside written slots, and in them.
use Rattle.std.proofs.Common.{◌≡◌, ℕ, ◌+◌, ◌-◌, ◌<◌, ◌≤◌, List, [], ◌∷◌, ◌++◌, length, take, drop, Option, Some, None, IfSome, Result, Ok, Err, OnOk, OnErr, replicate, slice_index_or, ⊎_elim, sym, ap, subst, ◌∙◌, arith, append_assoc, length-append}
use Rattle.std.specs.List.{All, AllPairs, Contains}
use Rattle.std.proofs.lemmas.List.Elements.{All-contains, All-cons, All-nil, All-more}
use Rattle.std.proofs.lemmas.List.{take-take, take_at, drop_at, take_all, drop-take, drop-drop, length-take-le, length-replicate, get_or-take, get_or_default, get_or-map, drop_more, length-map}
use Rattle.gno_num.specs.Faults.{Rose, Rose-from}
use Rattle.gno_disk.specs.Disk.{Overwrites, Torn, Told}
use Rattle.gno_disk.specs.declared.disk.Disk.{Ghosts}
use Rattle.gate_log.proofs.Bytes.{Torn-overwritten}
use Rattle.shelf_records.specs.Shelved.{slot}
use Rattle.block_slots.specs.declared.slots.Piece.{Piece}
use Rattle.block_slots.specs.Slots.{AreBeside, FillsSlot, IsBeside, IsSpared, Spares, Stands, padded, places_of, slot_at}

-- the bytes of a stretch that ends before a place
before_place : (at from n : ℕ) (old new : List ℕ) → from + n ≤ at → take at new ≡ take at old → take n (drop from new) ≡ take n (drop from old)
before_place at from n old new ends same =
    let seen : (bytes : List ℕ) → take n (drop from bytes) ≡ drop from (take (from + n) bytes) = λ bytes. sym (drop-take from n bytes) in
    let cut : (bytes : List ℕ) → take (from + n) bytes ≡ take (from + n) (take at bytes) = λ bytes. sym (take-take (from + n) at bytes ends) in
    seen new ∙ ap (drop from) (cut new ∙ ap (take (from + n)) same ∙ sym (cut old)) ∙ sym (seen old)

-- and of one that begins behind it
behind_place : (until from n : ℕ) (old new : List ℕ) → until ≤ from → drop until new ≡ drop until old → take n (drop from new) ≡ take n (drop from old)
behind_place until from n old new begins same =
    let far : (bytes : List ℕ) → drop from bytes ≡ drop (from - until) (drop until bytes) =
    λ bytes. (let e : from ≡ until + (from - until) = omega (arith, begins) in ap (λ (m : ℕ). drop m bytes) e ∙ sym (drop-drop (from - until) until bytes)) in
    ap (take n) (far new ∙ ap (drop (from - until)) same ∙ sym (far old))

-- any part of the write of a slot leaves what stands beside it
pub torn_spares : (at : ℕ) (old new : List ℕ) → Torn at slot old new → Spares (at ∷ []) old new
torn_spares at old new torn = record {
  longer = torn.no_shorter;
  stands = λ block bytes beside stood. record {
    whole = stood.whole;
    here = ⊎_elim
        (λ ends. before_place at block.at block.len old new ends torn.before)
        (λ begins. behind_place (at + slot) block.at block.len old new begins torn.after)
        (beside 0 at (omega arith)) ∙ stood.here;
  };
}

-- the whole write leaves the bytes in the slot
pub overwritten_stands : (at : ℕ) (bytes old new : List ℕ) → length bytes ≡ slot → at ≤ length old → Overwrites at bytes old new → Stands new (slot_at at) bytes
overwritten_stands at bytes old new long inside over = record {
  whole = long;
  here =
      let front_long : length (take at old) ≡ at = length-take-le at old inside in
      let apart : new ≡ take at old ++ (bytes ++ drop (at + length bytes) old) = over ∙ append_assoc (take at old) bytes (drop (at + length bytes) old) in
      ap (λ (l : List ℕ). take slot (drop at l)) apart ∙ ap (take slot) (drop_at (take at old) (bytes ++ drop (at + length bytes) old) at front_long) ∙ take_at bytes (drop (at + length bytes) old) slot long;
}

-- one write after another
pub spares_then : (places : List ℕ) (old mid new : List ℕ) → Spares places old mid → Spares places mid new → Spares places old new
spares_then places old mid new first second = record {
  longer = let a = first.longer in let b = second.longer in omega (arith, a, b);
  stands = λ block bytes beside stood. second.stands block bytes beside (first.stands block bytes beside stood);
}

pub spares_none : (places : List ℕ) (bytes : List ℕ) → Spares places bytes bytes
spares_none places bytes = record { longer = omega arith; stands = λ block bytes beside stood. stood }

-- what is beside all of these slots is beside one of them
pub spares_one : (places : List ℕ) (at : ℕ) (old new : List ℕ) → Contains places at → Spares (at ∷ []) old new → Spares places old new
spares_one places at old new one spares = record {
  longer = spares.longer;
  stands = λ block bytes beside stood. spares.stands block bytes (All-cons (IsBeside block) at [] (All-contains (IsBeside block) places at beside one) (All-nil (IsBeside block))) stood;
}

pub told_spares_then : (places : List ℕ) (old mid new : Option (List ℕ)) → Told (Spares places) old mid → Told (Spares places) mid new → Told (Spares places) old new
told_spares_then places None None None first second = first
told_spares_then places None None (Some new) first second = absurd second
told_spares_then places None (Some mid) new first second = absurd first
told_spares_then places (Some old) None new first second = absurd first
told_spares_then places (Some old) (Some mid) None first second = absurd second
told_spares_then places (Some old) (Some mid) (Some new) first second = spares_then places old mid new first second

pub told_spares_one : (places : List ℕ) (at : ℕ) (old new : Option (List ℕ)) → Contains places at → Told (Spares (at ∷ [])) old new → Told (Spares places) old new
told_spares_one places at None None one spares = spares
told_spares_one places at None (Some new) one spares = absurd spares
told_spares_one places at (Some old) None one spares = absurd spares
told_spares_one places at (Some old) (Some new) one spares = spares_one places at old new one spares

pub told_spares_none : (places : List ℕ) (told : Option (List ℕ)) → Told (Spares places) told told
told_spares_none places None = tt
told_spares_none places (Some bytes) = spares_none places bytes

-- the whole write of a slot, and a part of one
pub written_spares : {T E : Type 0} (result : Result T E) (at size : ℕ) (bytes : List ℕ) (old new : Option (List ℕ)) → length bytes ≡ slot → at ≤ size → IfSome old (λ b. length b ≡ size)
    → OnOk result (Told (Overwrites at bytes) old new) → OnErr result (Told (Torn at (length bytes)) old new) → Told (Spares (at ∷ [])) old new
written_spares (Ok done) at size bytes None None full inside long over torn = tt
written_spares (Ok done) at size bytes None (Some new) full inside long over torn = absurd over
written_spares (Ok done) at size bytes (Some old) None full inside long over torn = absurd over
written_spares (Ok done) at size bytes (Some old) (Some new) full inside long over torn =
    torn_spares at old new (subst (λ (n : ℕ). Torn at n old new) full (Torn-overwritten at bytes old new (omega (arith, inside, long)) over))
written_spares (Err fault) at size bytes None None full inside long over torn = tt
written_spares (Err fault) at size bytes None (Some new) full inside long over torn = absurd torn
written_spares (Err fault) at size bytes (Some old) None full inside long over torn = absurd torn
written_spares (Err fault) at size bytes (Some old) (Some new) full inside long over torn =
    torn_spares at old new (subst (λ (n : ℕ). Torn at n old new) full torn)

pub written_stands : {T E : Type 0} (result : Result T E) (at size : ℕ) (bytes : List ℕ) (old new : Option (List ℕ)) → length bytes ≡ slot → at ≤ size → IfSome old (λ b. length b ≡ size)
    → OnOk result (Told (Overwrites at bytes) old new) → OnOk result (IfSome new (λ b. Stands b (slot_at at) bytes))
written_stands (Err fault) at size bytes old new full inside long over = tt
written_stands (Ok done) at size bytes None None full inside long over = tt
written_stands (Ok done) at size bytes None (Some new) full inside long over = absurd over
written_stands (Ok done) at size bytes (Some old) None full inside long over = absurd over
written_stands (Ok done) at size bytes (Some old) (Some new) full inside long over = overwritten_stands at bytes old new full (omega (arith, inside, long)) over

-- the padded bytes fill a slot
pub length-padded : (bytes : List ℕ) → length bytes ≤ slot → length (padded bytes) ≡ slot
length-padded bytes fits = omega (arith, fits, length-append bytes (replicate (slot - length bytes) 0), length-replicate {A = ℕ} (slot - length bytes) 0)

-- one piece more stands, and those before it still do
pub stand_more : (pieces : List Piece) (i : ℕ) (piece : Piece) (mid new : Option (List ℕ)) → i < length pieces → piece ≡ slice_index_or pieces i piece → AllPairs AreBeside pieces
    → Told (Spares (piece.at ∷ [])) mid new → IfSome mid (λ b. All (FillsSlot b) (take i pieces)) → IfSome new (λ b. FillsSlot b piece) → IfSome new (λ b. All (FillsSlot b) (take (i + 1) pieces))
stand_more pieces i piece None None lt is apart spared before here = tt
stand_more pieces i piece None (Some new) lt is apart spared before here = absurd spared
stand_more pieces i piece (Some mid) None lt is apart spared before here = tt
stand_more pieces i piece (Some mid) (Some new) lt is apart spared before here =
    All-more (FillsSlot new) pieces i piece lt
    (λ k d less.
    let short : k < i = omega (arith, less, length-take-le i pieces (omega (arith, lt))) in
    let same : slice_index_or (take i pieces) k d ≡ slice_index_or pieces k d = get_or-take i pieces k d short in
    let p = slice_index_or (take i pieces) k d in
    let beside : AreBeside p piece = subst (λ (q : Piece). AreBeside p q) (other d piece lt is) (subst (λ (q : Piece). AreBeside q (slice_index_or pieces i d)) (sym same) (apart k i d short lt)) in
    spared.stands (slot_at p.at) (padded p.bytes.items) (All-cons (IsBeside (slot_at p.at)) piece.at [] beside (All-nil (IsBeside (slot_at p.at)))) (before k d less))
    (subst (FillsSlot new) is here)
  where
    other : (d e : Piece) → i < length pieces → e ≡ slice_index_or pieces i e → slice_index_or pieces i d ≡ e
    other d e lt is = get_or_default pieces i d e lt ∙ sym is

-- the pieces from one on
pub pieces_from : (pieces : List Piece) (i : ℕ) (piece : Piece) → i < length pieces → piece ≡ slice_index_or pieces i piece → drop i pieces ≡ piece ∷ drop (i + 1) pieces
pieces_from pieces i piece lt is = drop_more pieces i piece lt ∙ ap (λ (p : Piece). p ∷ drop (i + 1) pieces) (sym is)

-- its place is one of their places
pub place_in : (pieces : List Piece) (i : ℕ) (piece : Piece) → i < length pieces → piece ≡ slice_index_or pieces i piece → Contains (places_of pieces) piece.at
place_in pieces i piece lt is = (i, omega (arith, lt, length-map pieces (λ (p : Piece). p.at)), get_or-map (λ (p : Piece). p.at) pieces i piece piece.at lt ∙ ap (λ (p : Piece). p.at) (sym is))

-- it rose since before
pub rose_since : {T E : Type 0} (result : Result T E) (first before after : ℕ) → first ≤ before → Rose before after → OnErr result (Rose first after)
rose_since (Ok done) first before after le rose = tt
rose_since (Err fault) first before after le rose = Rose-from first le rose

-- nothing stands yet, and all stand
pub told_none : (told : Option (List ℕ)) → IfSome told (λ b. All (FillsSlot b) [])
told_none None = tt
told_none (Some bytes) = All-nil (FillsSlot bytes)

pub told_all : (told : Option (List ℕ)) (i : ℕ) (pieces : List Piece) → length pieces ≤ i → IfSome told (λ b. All (FillsSlot b) (take i pieces)) → IfSome told (λ b. All (FillsSlot b) pieces)
told_all None i pieces le stand = tt
told_all (Some bytes) i pieces le stand = subst (All (FillsSlot bytes)) (take_all i pieces le) stand

module _ {D : Type 0} (g : Ghosts D) where
  -- an image is spared by nothing
  pub spared_itself : (places : List ℕ) (disk : D) (image : List ℕ) → g.may_leave disk image → IsSpared g places disk image
  spared_itself places disk image left = record { before = image; left = left; spares = spares_none places image }

  -- writes after which a stop leaves an image that is spared by them
  pub spared_then : (places : List ℕ) (at : ℕ) (old mid : D) (image : List ℕ) → Contains places at → ((before : List ℕ) → g.may_leave mid before → IsSpared g places old before)
      → IsSpared g (at ∷ []) mid image → IsSpared g places old image
  spared_then places at old mid image one so_far now =
      let past = so_far now.before now.left in
      record { before = past.before; left = past.left; spares = spares_then places past.before now.before image past.spares (spares_one places at now.before image one now.spares) }
