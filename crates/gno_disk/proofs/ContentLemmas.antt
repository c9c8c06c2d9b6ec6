-- How the content of a disk in memory goes on with a call.
use Rattle.std.proofs.Common.{◌≡◌, ◌⊎◌, ℕ, ◌+◌, ◌-◌, ◌<◌, ◌≤◌, max, true, false, List, [], ◌∷◌, ◌++◌, length, map, take, drop, get_or, slice_index, inl, inr, refl, sym, ap, ◌∙◌, subst, arith, length-take, length-drop, length-append}
use Rattle.std.proofs.lemmas.List.{map_push, get_or_append_left, get_or-append_right, get_or-take, get_or-drop}
use Rattle.gno_disk.specs.Disk.{Overwrites, Torn, LooseCut, Follows, NoMore, Only}
use Rattle.gno_disk.specs.Memory.{Step, wrote, cut_to, synced}
use Rattle.gno_disk.specs.Images.{Range, State, fresh, after_step, after_all, IsImage, MayLeave}
use Rattle.gno_disk.specs.Inside.{range_of}
use Rattle.gno_disk.specs.declared.since.Span.{Span}
use Rattle.gno_disk.proofs.ImageLemmas.{torn_back, cut_back, image_itself, image_only}
use Rattle.gno_disk.proofs.StepLemmas.{after_all-push}

-- how long the bytes are after a write
pub length-overwrites : (at : ℕ) (bytes old new : List ℕ) → Overwrites at bytes old new → at ≤ length old → length new ≡ max (length old) (at + length bytes)
length-overwrites at bytes old new over inside =
    let front = take at old in
    let back = drop (at + length bytes) old in
    omega (arith, ap length over, length-append (front ++ bytes) back, length-append front bytes, length-take at old, length-drop (at + length bytes) old)

-- outside the range of a write nothing changes
overwrites_outside : (at : ℕ) (bytes old new : List ℕ) (k : ℕ) → Overwrites at bytes old new → at ≤ length old → k < length old → (k < at) ⊎ (at + length bytes ≤ k) → slice_index new k ≡ slice_index old k
overwrites_outside at bytes old new k over inside within (inl lt) =
    let front = take at old in
    ap (λ (l : List ℕ). slice_index l k) over
    ∙ get_or_append_left (front ++ bytes) (drop (at + length bytes) old) 0 k (omega (arith, length-append front bytes, length-take at old))
    ∙ get_or_append_left front bytes 0 k (omega (arith, length-take at old))
    ∙ get_or-take at old k 0 lt
overwrites_outside at bytes old new k over inside within (inr le) =
    let front = take at old in
    let n = at + length bytes in
    let place : n + (k - n) ≡ k = omega arith in
    ap (λ (l : List ℕ). slice_index l k) over
    ∙ get_or-append_right (front ++ bytes) (drop n old) n k 0 (omega (arith, length-append front bytes, length-take at old)) le
    ∙ get_or-drop n old (k - n) 0 ∙ ap (λ (i : ℕ). get_or old i 0) place

module _ (first next : List ℕ) (old new : List Step) (step : Step) (s : State)
    (same : next ≡ first) (made : new ≡ old ++ step ∷ []) (tracked : after_all (fresh first) old ≡ s) where
  pub tracked_next : after_all (fresh next) new ≡ after_step s step
  tracked_next =
      ap (λ (f : List ℕ). after_all (fresh f) new) same ∙ ap (λ (steps : List Step). after_all (fresh first) steps) made
      ∙ after_all-push (fresh first) old step ∙ ap (λ (t : State). after_step t step) tracked

  pub was_image : (image : List ℕ) → IsImage s image → MayLeave first old image
  was_image image is_image = subst (λ (t : State). IsImage t image) (sym tracked) is_image

  pub now_image : (image : List ℕ) → MayLeave next new image → IsImage (after_step s step) image
  now_image image left = subst (λ (t : State). IsImage t image) tracked_next left

-- a call that changes no state
pub still_NoMore : (first next : List ℕ) (old new : List Step) (step : Step) (s : State) → next ≡ first → new ≡ old ++ step ∷ [] → after_all (fresh first) old ≡ s → after_step s step ≡ s
    → NoMore (MayLeave first old) (MayLeave next new)
still_NoMore first next old new step s same made tracked still = λ image left.
    was_image first next old new step s same made tracked image (subst (λ (t : State). IsImage t image) still (now_image first next old new step s same made tracked image left))

module _ (first next : List ℕ) (old new : List Step) (s : State) (same : next ≡ first) (tracked : after_all (fresh first) old ≡ s)
    (low : s.least ≤ length s.bytes) (high : length s.bytes ≤ s.greatest) where
  pub write_Follows : (at : ℕ) (bytes : List ℕ) → at ≤ length s.bytes → new ≡ old ++ wrote at bytes false ∷ [] → Follows (Torn at (length bytes)) (MayLeave first old) (MayLeave next new)
  write_Follows at bytes inside made = λ image left.
      let step = wrote at bytes false in
      let back = torn_back s (after_step s step) at (length bytes) image (now_image first next old new step s same made tracked image left) inside low high refl (omega arith) refl
      (λ k out below. overwrites_outside at bytes s.bytes _ k refl inside (omega arith) out) in
      (back.0, was_image first next old new step s same made tracked back.0 back.1, back.2)

  pub fail_write_Follows : (at : ℕ) (bytes : List ℕ) → at ≤ length s.bytes → new ≡ old ++ wrote at bytes true ∷ [] → Follows (Torn at (length bytes)) (MayLeave first old) (MayLeave next new)
  fail_write_Follows at bytes inside made = λ image left.
      let step = wrote at bytes true in
      let back = torn_back s (after_step s step) at (length bytes) image (now_image first next old new step s same made tracked image left) inside low high refl (omega arith) refl (λ k out below. refl) in
      (back.0, was_image first next old new step s same made tracked back.0 back.1, back.2)

  pub cut_Follows : (to : ℕ) → to ≤ length s.bytes → new ≡ old ++ cut_to to false ∷ [] → Follows (LooseCut to) (MayLeave first old) (MayLeave next new)
  cut_Follows to inside made = λ image left.
      let step = cut_to to false in
      let back = cut_back s to image (now_image first next old new step s same made tracked image left) inside low high in
      (back.0, was_image first next old new step s same made tracked back.0 back.1, back.2)

  pub sync_Only : new ≡ old ++ synced false ∷ [] → Only s.bytes (MayLeave next new)
  sync_Only made = λ image left. image_only s.bytes image (now_image first next old new (synced false) s same made tracked image left)

  pub sync_NoMore : new ≡ old ++ synced false ∷ [] → NoMore (MayLeave first old) (MayLeave next new)
  sync_NoMore made = λ image left.
      was_image first next old new (synced false) s same made tracked image
      (subst (λ (bytes : List ℕ). IsImage s bytes) (sym (sync_Only made image left)) (image_itself s low high))

pub state_same : (b c : List ℕ) (least least' greatest greatest' : ℕ) (r q : List Range) → b ≡ c → least ≡ least' → greatest ≡ greatest' → r ≡ q
    → (let s : State = record { bytes = b; least = least; greatest = greatest; ranges = r } in s) ≡ record { bytes = c; least = least'; greatest = greatest'; ranges = q }
state_same b c least least' greatest greatest' r q e f g h = cc

-- the account of the time since the last sync, after a write
module _ (bytes : List ℕ) (least greatest : ℕ) (spans next_spans : List Span) (at : ℕ) (written : List ℕ)
    (next_is : next_spans ≡ spans ++ (record { at = at; len = length written }) ∷ []) where
  ranges_are : map range_of spans ++ (record { at = at; len = length written }) ∷ [] ≡ map range_of next_spans
  ranges_are = sym (ap (λ (l : List Span). map range_of l) next_is ∙ map_push range_of spans (record { at = at; len = length written }))

  pub written_state : (next : List ℕ) (high : ℕ) → Overwrites at written bytes next → high ≡ max greatest (at + length written)
      → after_step (record { bytes = bytes; least = least; greatest = greatest; ranges = map range_of spans }) (wrote at written false) ≡ record { bytes = next; least = least; greatest = high; ranges = map range_of next_spans }
  written_state next high over high_is = state_same _ _ _ _ _ _ _ _ (sym over) refl (sym high_is) ranges_are

  pub failed_state : after_step (record { bytes = bytes; least = least; greatest = greatest; ranges = map range_of spans }) (wrote at written true) ≡ record { bytes = bytes; least = least; greatest = greatest; ranges = map range_of next_spans }
  failed_state = state_same _ _ _ _ _ _ _ _ refl refl refl ranges_are
