use Rattle.std.proofs.Common.{◌≡◌, ◌++◌, ◌∷◌, [], ◌+◌, ◌<◌, ℕ, List, Option, drop, length, IfSome, ◌⊎◌, inl, inr, refl, sym, subst, ◌≤◌, rules, arith}
use Rattle.gate_log.specs.Records.{IsCutShort}
use Rattle.gate_log.specs.Scan.{IfCutShort, IsRecordAt, IsPieceOf}
use Rattle.gate_log.proofs.FindLemmas.{damaged_from, never_from, told_next}
use Rattle.std.proofs.lemmas.Result.{err_from_is_err_and}
use Rattle.gate_log.proofs.PieceLemmas.{never_cut}
use Rattle.gate_log.proofs.PlaceLemmas.{Spans-push}
use Rattle.gate_log.proofs.Moments.{untouched_then, untouched_synced}
use Rattle.gate_log.proofs.find.find_records.Goals as goal

-- where the next gate is due
begun_at : {end len size : ℕ} → len ≡ size → (end ≡ 0) ⊎ (end < len) → (end ≡ 0) ⊎ (end < size)
begun_at same (inl none) = inl none
begun_at same (inr lt) = inr (omega (arith, lt, same))

pub returns-in-Err-clause-damaged : goal.returns-in-Err-clause-damaged
returns-in-Err-clause-damaged g c =
    let scanned = c.records.invariant in
    let old = c.args.disk.now in
    let inside = scanned.inside in
    let len_is = scanned.len_is in
    let cut = subst (λ (t : Option (List ℕ)). IfCutShort c.in-Err.stop (λ at. IfSome t (λ bytes. (length bytes ≡ c.records.end) ⊎ IsCutShort (drop c.records.end bytes)))) scanned.untouched.same_bytes c.in-Err.ensures.cut_short in
    damaged_from (g.D.Disk.told old) (g.D.Disk.size old) (g.met.D.Disk.whole old) c.records.places.items c.records.end c.in-Err.stop (begun_at len_is scanned.begun) scanned.written c.in-Err.ensures.cut_at cut

pub returns-in-Err-clause-never_held : goal.returns-in-Err-clause-never_held
returns-in-Err-clause-never_held g c =
    let scanned = c.records.invariant in
    let old = c.args.disk.now in
    let len_is = scanned.len_is in
    let limit = scanned.limit in
    never_from (g.D.Disk.told old) (g.D.Disk.size old) (g.met.D.Disk.whole old) c.records.places.items c.records.end c.in-Err.stop (omega (arith, limit, len_is)) (returns-in-Err-clause-damaged g c)

pub read_head-requires-clause-piece : goal.read_head-requires-clause-piece
read_head-requires-clause-piece g c =
    let scanned = c.records.invariant in
    subst (λ (t : Option (List ℕ)). IsPieceOf c.len-size.result t c.records.piece) (sym scanned.untouched.same_bytes) scanned.piece

pub records-init : goal.records-init
records-init g c =
    let old = c.args.disk.now in
    let synced = c.sync_all.new.disk in
    let piece : IsPieceOf c.len-size.result (g.D.Disk.told synced) c.in_ok-piece.piece = search rules in
    record {
      untouched = untouched_then g.D.Disk g.met.D.Disk.only_now old synced c.first_piece.new.disk c.sync_all.ensures.untouched c.first_piece.ensures.untouched;
      synced = untouched_synced g.D.Disk g.met.D.Disk.only_now synced c.first_piece.new.disk c.first_piece.ensures.untouched (search rules);
      spans = search rules;
      written = search rules;
      inside = search rules;
      begun = inl refl;
      len_is = search rules;
      limit = search rules;
      later = search rules;
      came = g.met.D.Disk.came_then 1 0 _ _ _ c.sync_all.ensures.came c.first_piece.ensures.came;
      piece = subst (λ (t : Option (List ℕ)). IsPieceOf c.len-size.result t c.in_ok-piece.piece) c.sync_all.ensures.untouched.same_bytes piece;
      before = search rules;
    }

pub returns-in_err-piece-clause-damaged : goal.returns-in_err-piece-clause-damaged
returns-in_err-piece-clause-damaged g c =
    let p = err_from_is_err_and c.from_residual-in_err-piece.result c.from_residual-in_err-piece.ensures.1 in
    rw (p.1, p.2) (never_cut _ _ c.in_err-piece.ensures.not_cut)

pub returns-in_err-piece-clause-never_held : goal.returns-in_err-piece-clause-never_held
returns-in_err-piece-clause-never_held g c =
    let p = err_from_is_err_and c.from_residual-in_err-piece.result c.from_residual-in_err-piece.ensures.1 in
    rw (p.1, p.2) (never_cut _ _ c.in_err-piece.ensures.not_cut)

pub returns-in_err-piece-clause-untouched : goal.returns-in_err-piece-clause-untouched
returns-in_err-piece-clause-untouched g c =
    untouched_then g.D.Disk g.met.D.Disk.only_now c.args.disk.now c.sync_all.new.disk c.first_piece.new.disk c.sync_all.ensures.untouched c.first_piece.ensures.untouched

pub returns-in_err-piece-clause-came : goal.returns-in_err-piece-clause-came
returns-in_err-piece-clause-came g c = g.met.D.Disk.came_then 1 0 _ _ _ c.sync_all.ensures.came c.first_piece.ensures.came

pub records-preserved : goal.records-preserved
records-preserved g c =
    let scanned = c.records.invariant in
    let old = c.args.disk.now in
    let place = c.in-Ok-Some.place in
    let inside = scanned.inside in
    let len_is = scanned.len_is in
    let later = scanned.later in
    let at : place.at ≡ c.records.end + 9 = search rules in
    let piece : IsPieceOf c.len-size.result (g.D.Disk.told c.records.disk) c.read_head.new.piece = search rules in
    let behind : c.read_head.new.piece.at ≤ c.records.end = search rules in
    let fits : place.at + place.len < c.len-size.result = search rules in
    let is : IfSome (g.D.Disk.told c.records.disk) (IsRecordAt c.records.end place) = search rules in
    let items : c.push.new.self.items ≡ c.records.places.items ++ place ∷ [] = search rules in
    record {
      untouched = untouched_then g.D.Disk g.met.D.Disk.only_now old c.records.disk c.read_head.new.disk scanned.untouched c.read_head.ensures.untouched;
      synced = untouched_synced g.D.Disk g.met.D.Disk.only_now c.records.disk c.read_head.new.disk c.read_head.ensures.untouched scanned.synced;
      spans = rw items (Spans-push c.records.places.items 0 c.records.end place scanned.spans at);
      written = rw items (told_next (g.D.Disk.told old) (g.D.Disk.size old) (g.met.D.Disk.whole old) c.records.places.items c.records.end place scanned.spans scanned.written at (omega (arith, fits, len_is))
          (subst (λ (t : Option (List ℕ)). IfSome t (IsRecordAt c.records.end place)) scanned.untouched.same_bytes is));
      inside = omega (arith, fits);
      begun = inr fits;
      len_is = scanned.len_is;
      limit = scanned.limit;
      later = omega (arith, later, c.read_head.ensures.later);
      came = g.met.D.Disk.came_then 1 0 _ _ _ scanned.came c.read_head.ensures.came;
      piece = subst (λ (t : Option (List ℕ)). IsPieceOf c.len-size.result t c.read_head.new.piece) scanned.untouched.same_bytes piece;
      before = let h = scanned.before in omega (arith, behind, at);
    }

pub returns-in-Err-clause-came : goal.returns-in-Err-clause-came
returns-in-Err-clause-came g c = let scanned = c.records.invariant in g.met.D.Disk.came_then 1 0 _ _ _ scanned.came c.read_head.ensures.came

pub returns-in-Ok-None-clause-came : goal.returns-in-Ok-None-clause-came
returns-in-Ok-None-clause-came g c = let scanned = c.records.invariant in g.met.D.Disk.came_then 1 0 _ _ _ scanned.came c.read_head.ensures.came
