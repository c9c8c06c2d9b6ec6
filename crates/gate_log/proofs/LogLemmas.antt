-- What the calls of a log do, where the disk tells its bytes and where it doesn't.
use Rattle.std.proofs.Common.{false, ◌≡◌, inl, ℕ, ◌+◌, ◌<◌, ◌≤◌, ◌^◌, List, [], ◌∷◌, ◌++◌, length, take, drop, get_or, slice_get, Option, Some, None, IfSome, refl, sym, ap, subst, ◌∙◌, arith, take-append-drop}
use Rattle.std.specs.Prelude.{option_map}
use Rattle.std.proofs.lemmas.Option.{slice_get-map, slice_get-get_or}
use Rattle.byteorder.specs.Endian.{big_bytes}
use Rattle.gno_disk.specs.Disk.{Overwrites, Told}
use Rattle.gate_log.specs.LogView.{LogView, Adds, IsOfRecords, IsOldOrAdded, IsLasting}
use Rattle.gate_log.specs.Inside.{view_of, IsLog}
use Rattle.gate_log.specs.declared.log.Log.TheInside.{Inside}
use Rattle.gate_log.specs.Records.{Begins, Holds}
use Rattle.gate_log.specs.Steps.{KeepsBefore, PartOf, IsSynced}
use Rattle.gate_log.specs.Places.{body_at, bodies_at, Spans, AreWritten, IsClosed}
use Rattle.gate_log.specs.declared.place.Place.{Place}
use Rattle.gno_disk.specs.declared.disk.Disk.{Ghosts}
use Rattle.gate_log.proofs.Exact.{Holds-one}
use Rattle.gate_log.proofs.Moments.{told_onto, told_weaker}
use Rattle.gate_log.proofs.PlaceLemmas.{Spans-push, AreWritten-same, bodies_at-same, Holds-from_written, part_holds, new_bodies, new_written, new_closed}

module _ (places : List Place) (end : ℕ) (spans : Spans places 0 end) where
  -- the records stay written where the bytes before the end stay
  pub kept_written : (old new : Option (List ℕ)) → Told (KeepsBefore end) old new → IfSome old (AreWritten places end) → IfSome new (AreWritten places end)
  kept_written None None told written = written
  kept_written None (Some new) told written = absurd told
  kept_written (Some old) None told written = absurd told
  kept_written (Some old) (Some new) told written = AreWritten-same places end old new spans told written

  -- and are the same
  pub kept_records : (old new : Option (List ℕ)) → Told (KeepsBefore end) old new → option_map (bodies_at places) new ≡ option_map (bodies_at places) old
  kept_records None None told = refl
  kept_records None (Some new) told = absurd told
  kept_records (Some old) None told = absurd told
  kept_records (Some old) (Some new) told = ap Some (bodies_at-same places 0 end old new spans told)

  -- the disk begins with the records
  pub told_begins : (told : Option (List ℕ)) → IfSome told (AreWritten places end) → IfSome told (λ bytes. IfSome (option_map (bodies_at places) told) (Begins bytes))
  told_begins None written = written
  told_begins (Some bytes) written = record {
    rest = drop end bytes;
    bytes_are = sym (take-append-drop end bytes) ∙ ap (λ (front : List ℕ). front ++ drop end bytes) written;
  }

  -- the disk holds the records where a closed gate stands behind them
  pub told_holds : (size : ℕ) (told : Option (List ℕ)) → IfSome told (λ bytes. length bytes ≡ size) → end < size → IfSome told (AreWritten places end) → IfSome told (IsClosed end)
      → IfSome told (λ bytes. IfSome (option_map (bodies_at places) told) (Holds bytes))
  told_holds size None whole inside written closed = written
  told_holds size (Some bytes) whole inside written closed = Holds-from_written places end bytes (omega arith) written closed

  -- and no others
  pub told_exact : (size : ℕ) (told : Option (List ℕ)) → IfSome told (λ bytes. length bytes ≡ size) → size ≤ 2 ^ 60 → end < size → IfSome told (AreWritten places end) → IfSome told (IsClosed end)
      → IfSome told (λ bytes. (records : List (List ℕ)) → Holds bytes records → option_map (bodies_at places) told ≡ Some records)
  told_exact size None whole short inside written closed = written
  told_exact size (Some bytes) whole short inside written closed = λ records held.
      ap Some (Holds-one bytes (bodies_at places bytes) records (omega (arith, whole, short)) (Holds-from_written places end bytes (omega (arith, whole, inside)) written closed) held)

  -- a record behind the end
  module _ (size : ℕ) (body frame : List ℕ) (inside : end < size) (framed : frame ≡ big_bytes 8 (length body) ++ body ++ 0 ∷ []) where
    over_is : (old new : List ℕ) → Overwrites end (1 ∷ frame) old new → Overwrites end (1 ∷ (big_bytes 8 (length body) ++ body ++ 0 ∷ [])) old new
    over_is old new over = rw framed at over

    pub added_written : (old new : Option (List ℕ)) → IfSome old (λ bytes. length bytes ≡ size) → IfSome old (AreWritten places end) → Told (Overwrites end (1 ∷ frame)) old new
        → IfSome new (AreWritten (places ++ (record { at = end + 9; len = length body }) ∷ []) (end + 9 + length body))
    added_written None None whole written told = written
    added_written None (Some new) whole written told = absurd told
    added_written (Some old) None whole written told = absurd told
    added_written (Some old) (Some new) whole written told = new_written places end old new body spans (omega arith) written (over_is old new told)

    pub added_closed : (old new : Option (List ℕ)) → IfSome old (λ bytes. length bytes ≡ size) → IfSome old (AreWritten places end) → Told (Overwrites end (1 ∷ frame)) old new
        → IfSome new (IsClosed (end + 9 + length body))
    added_closed None None whole written told = written
    added_closed None (Some new) whole written told = absurd told
    added_closed (Some old) None whole written told = absurd told
    added_closed (Some old) (Some new) whole written told = new_closed places end old new body spans (omega arith) written (over_is old new told)

    pub added_records : (old new : Option (List ℕ)) → IfSome old (λ bytes. length bytes ≡ size) → IfSome old (AreWritten places end) → Told (Overwrites end (1 ∷ frame)) old new
        → Adds (option_map (bodies_at places) old) (option_map (bodies_at (places ++ (record { at = end + 9; len = length body }) ∷ [])) new) body
    added_records None None whole written told = written
    added_records None (Some new) whole written told = absurd told
    added_records (Some old) None whole written told = absurd told
    added_records (Some old) (Some new) whole written told = new_bodies places end old new body spans (omega arith) written (over_is old new told)

    -- the same, where the places, the end and the records go by other names
    module _ (items : List Place) (next : ℕ) (items_are : items ≡ places ++ (record { at = end + 9; len = length body }) ∷ []) (next_is : next ≡ end + 9 + length body) where
      pub next_written : (old new : Option (List ℕ)) → IfSome old (λ bytes. length bytes ≡ size) → IfSome old (AreWritten places end) → Told (Overwrites end (1 ∷ frame)) old new → IfSome new (AreWritten items next)
      next_written old new whole written told =
          subst (λ (ps : List Place). IfSome new (AreWritten ps next)) (sym items_are)
          (subst (λ (n : ℕ). IfSome new (AreWritten (places ++ (record { at = end + 9; len = length body }) ∷ []) n)) (sym next_is) (added_written old new whole written told))

      pub next_closed : (old new : Option (List ℕ)) → IfSome old (λ bytes. length bytes ≡ size) → IfSome old (AreWritten places end) → Told (Overwrites end (1 ∷ frame)) old new → IfSome new (IsClosed next)
      next_closed old new whole written told =
          subst (λ (n : ℕ). IfSome new (IsClosed n)) (sym next_is) (added_closed old new whole written told)

      pub next_places : Spans items 0 next
      next_places =
          subst (λ (ps : List Place). Spans ps 0 next) (sym items_are)
          (subst (λ (n : ℕ). Spans (places ++ (record { at = end + 9; len = length body }) ∷ []) 0 n) (sym next_is) (Spans-push places 0 end (record { at = end + 9; len = length body }) spans refl))

      pub next_records : (old new : Option (List ℕ)) (records : Option (List (List ℕ))) → option_map (bodies_at places) old ≡ records
          → IfSome old (λ bytes. length bytes ≡ size) → IfSome old (AreWritten places end) → Told (Overwrites end (1 ∷ frame)) old new → Adds records (option_map (bodies_at items) new) body
      next_records old new records records_are whole written told =
          subst (λ (ps : List Place). Adds records (option_map (bodies_at ps) new) body) (sym items_are)
          (subst (λ (rs : Option (List (List ℕ))). Adds rs (option_map (bodies_at (places ++ (record { at = end + 9; len = length body }) ∷ [])) new) body) records_are (added_records old new whole written told))

-- a body that was read is the record that was asked for
pub read_record : (places : List Place) (index : ℕ) (place : Place) (told : Option (List ℕ)) (body : List ℕ) → index < length places → place ≡ get_or places index place
    → IfSome told (λ bytes. body ≡ take place.len (drop place.at bytes)) → IfSome (option_map (bodies_at places) told) (λ records. slice_get records index ≡ Some body)
read_record places index place None body within place_is body_is = body_is
read_record places index place (Some bytes) body within place_is body_is =
    slice_get-map (body_at bytes) places index
    ∙ ap (λ (found : Option Place). option_map (body_at bytes) found) (slice_get-get_or places index place within)
    ∙ ap (λ (p : Place). Some (body_at bytes p)) (sym place_is) ∙ ap Some (sym body_is)

module _ (places : List Place) (end size : ℕ) (spans : Spans places 0 end) (inside : end < size) where
  -- what the parts of a record leave
  pub told_part : (body frame : List ℕ) → frame ≡ big_bytes 8 (length body) ++ body ++ 0 ∷ [] → (told : Option (List ℕ)) (records : Option (List (List ℕ))) → option_map (bodies_at places) told ≡ records
      → IfSome told (λ bytes. length bytes ≡ size) → IfSome told (AreWritten places end) → IfSome told (IsClosed end)
      → (image : List ℕ) → IfSome told (λ bytes. PartOf end frame bytes image) → IsOldOrAdded records body image
  told_part body frame framed None records records_are whole written closed image part = subst (λ (rs : Option (List (List ℕ))). IsOldOrAdded rs body image) records_are part
  told_part body frame framed (Some bytes) records records_are whole written closed image part =
      subst (λ (rs : Option (List (List ℕ))). IsOldOrAdded rs body image) records_are
      (part_holds places end frame bytes image body spans written closed (omega arith) framed part)

  -- what is synced holds the records
  pub told_durable : (told : Option (List ℕ)) (records : Option (List (List ℕ))) (may_leave : List ℕ → Type 0) → option_map (bodies_at places) told ≡ records
      → IfSome told (λ bytes. length bytes ≡ size) → IfSome told (AreWritten places end) → IfSome told (IsClosed end) → IsSynced told may_leave
      → (image : List ℕ) → may_leave image → IsOfRecords records image
  told_durable None records may_leave records_are whole written closed synced image left = subst (λ (rs : Option (List (List ℕ))). IsOfRecords rs image) records_are synced
  told_durable (Some bytes) records may_leave records_are whole written closed synced image left =
      subst (λ (rs : Option (List (List ℕ))). IsOfRecords rs image) records_are
      (subst (λ (b : List ℕ). Holds b (bodies_at places bytes)) (sym (synced image left)) (Holds-from_written places end bytes (omega arith) written closed))

  -- the bytes that are told hold the records
  pub told_stands : (told : Option (List ℕ)) (records : Option (List (List ℕ))) → option_map (bodies_at places) told ≡ records
      → IfSome told (λ bytes. length bytes ≡ size) → IfSome told (AreWritten places end) → IfSome told (IsClosed end) → IfSome told (IsOfRecords records)
  told_stands None records records_are whole written closed = written
  told_stands (Some bytes) records records_are whole written closed =
      subst (λ (rs : Option (List (List ℕ))). IsOfRecords rs bytes) records_are (Holds-from_written places end bytes (omega (arith, whole, inside)) written closed)

-- records that are held are held as they were
pub old_or_added : (records : Option (List (List ℕ))) (body image : List ℕ) → IsOfRecords records image → IsOldOrAdded records body image
old_or_added None body image has = has
old_or_added (Some rs) body image has = inl has

-- What a log keeps, seen from outside.
module _ {D : Type 0} (g : Ghosts D) (l : Inside D) (v : LogView D) (view_is : view_of g l ≡ v)
    (log : IsLog g l) (whole : IfSome (g.told l.disk) (λ bytes. length bytes ≡ g.size l.disk)) (sound : v.broken ≡ false) where
  unbroken : l.broken ≡ false
  unbroken = ap (λ (w : LogView D). w.broken) view_is ∙ sound

  pub log_durable : (image : List ℕ) → g.may_leave l.disk image → IsOfRecords v.records image
  log_durable = told_durable l.places.items l.end (g.size l.disk) log.places (log.room unbroken) (g.told l.disk) v.records (g.may_leave l.disk) (ap (λ (w : LogView D). w.records) view_is) whole log.written (log.closed unbroken) (log.durable unbroken)

  pub view_durable : IsLasting g v
  view_durable = λ image left. log_durable image (subst (λ (d : D). g.may_leave d image) (sym (ap (λ (w : LogView D). w.disk) view_is)) left)

  pub log_part : (body frame : List ℕ) → frame ≡ big_bytes 8 (length body) ++ body ++ 0 ∷ [] → (image : List ℕ) → IfSome (g.told l.disk) (λ bytes. PartOf l.end frame bytes image) → IsOldOrAdded v.records body image
  log_part body frame framed =
      told_part l.places.items l.end (g.size l.disk) log.places (log.room unbroken) body frame framed (g.told l.disk) v.records (ap (λ (w : LogView D). w.records) view_is) whole log.written (log.closed unbroken)

  -- the bytes that are told hold the records
  pub log_stands : IfSome (g.told l.disk) (IsOfRecords v.records)
  log_stands = told_stands l.places.items l.end (g.size l.disk) log.places (log.room unbroken) (g.told l.disk) v.records (ap (λ (w : LogView D). w.records) view_is) whole log.written (log.closed unbroken)

  pub log_stands_still : (body : List ℕ) → IfSome (g.told l.disk) (IsOldOrAdded v.records body)
  log_stands_still body = told_weaker (g.told l.disk) (IsOfRecords v.records) (IsOldOrAdded v.records body) (λ image has. old_or_added v.records body image has) log_stands

  -- with a record that was written in part, or whole
  pub log_part_stands : (body frame : List ℕ) → frame ≡ big_bytes 8 (length body) ++ body ++ 0 ∷ [] → (new : Option (List ℕ)) → Told (PartOf l.end frame) (g.told l.disk) new → IfSome new (IsOldOrAdded v.records body)
  log_part_stands body frame framed new over = told_onto (g.told l.disk) new (PartOf l.end frame) (IsOldOrAdded v.records body) over (log_part body frame framed)
