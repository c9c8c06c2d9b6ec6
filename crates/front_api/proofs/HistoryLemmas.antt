-- What a history amounts to, entry by entry.
use Rattle.std.proofs.Common.{◌≡◌, Bool, true, false, cond, List, [], ◌∷◌, ◌++◌, Some, None, refl, sym, ap, subst, ◌∙◌, append_assoc}
use Rattle.std.proofs.lemmas.List.{append-nil}
use Rattle.front_api.specs.declared.history.IndexCounted.{IndexCounted}
use Rattle.front_api.specs.declared.history.IndexEntry.{IndexEntry}
use Rattle.front_api.specs.declared.history.IndexEntry.TheVariants as entries
use Rattle.front_api.specs.IndexHistory.{IndexState, IsLegalIndex, MayAllCount, MayAllFollow, MayCount, after_entries, after_entry, at_rest, index_kept, is_found_next, maps_of, state_of}
use Rattle.front_api.specs.Maps.{Maps, after_all, after_counted}

pub after_entries-append : (s : IndexState) (h own : List IndexEntry) → after_entries s (h ++ own) ≡ after_entries (after_entries s h) own
after_entries-append s [] own = refl
after_entries-append s (e ∷ h) own = after_entries-append (after_entry s e) h own

pub MayAllFollow-append : (s : IndexState) (h own : List IndexEntry) → MayAllFollow s h → MayAllFollow (after_entries s h) own → MayAllFollow s (h ++ own)
MayAllFollow-append s [] own legal then = then
MayAllFollow-append s (e ∷ h) own legal then = (legal.0, MayAllFollow-append (after_entry s e) h own legal.1 then)

pub after_all-append : (m : Maps) (cs ds : List IndexCounted) → after_all m (cs ++ ds) ≡ after_all (after_all m cs) ds
after_all-append m [] ds = refl
after_all-append m (c ∷ cs) ds = after_all-append (after_counted m c) cs ds

MayAllCount-append : (m : Maps) (cs ds : List IndexCounted) → MayAllCount m cs → MayAllCount (after_all m cs) ds → MayAllCount m (cs ++ ds)
MayAllCount-append m [] ds may then = then
MayAllCount-append m (c ∷ cs) ds may then = (may.0, MayAllCount-append (after_counted m c) cs ds may.1 then)

-- ---- the state, and what is kept

-- what is kept, where this was tried before
abbrev kept_with : List IndexCounted → List IndexEntry → List IndexCounted
kept_with tried h = cond (is_found_next h) tried [] ++ index_kept h

kept_with-none : (h : List IndexEntry) → kept_with [] h ≡ index_kept h
kept_with-none h = by (is_found_next h)
  where
    by : (b : Bool) → cond b (let none : List IndexCounted = [] in none) [] ++ index_kept h ≡ index_kept h
    by true = refl
    by false = refl

fault_step : (b : Bool) (tried more rest : List IndexCounted) → cond b tried [] ++ (cond b more [] ++ rest) ≡ cond b (tried ++ more) [] ++ rest
fault_step true tried more rest = sym (append_assoc tried more rest)
fault_step false tried more rest = refl

-- Where no fault is open, nothing was tried. What was tried might have counted at these maps.
record TellsNoDamage (s : IndexState) : Type 0 where
  rest : s.is_open ≡ false → s.tried ≡ []
  may : MayAllCount s.maps s.tried

sound_rest : (m : Maps) → TellsNoDamage (at_rest m)
sound_rest m = record { rest = λ e. refl; may = tt }

-- the state's maps are those of what is kept, and all of that may count
record Tells (s : IndexState) (h : List IndexEntry) : Type 0 where
  maps : (after_entries s h).maps ≡ after_all s.maps (kept_with s.tried h)
  counts : MayAllCount s.maps (kept_with s.tried h)

moved : (s : IndexState) (h : List IndexEntry) (cs : List IndexCounted) → (after_entries s h).maps ≡ after_all s.maps cs → MayAllCount s.maps cs → cs ≡ kept_with s.tried h → Tells s h
moved s h cs maps counts e = record { maps = maps ∙ ap (after_all s.maps) e; counts = subst (MayAllCount s.maps) e counts }

counted_step : (m : Maps) (tried : List IndexCounted) (open_fault : Bool) (c : IndexCounted) (h : List IndexEntry) → tried ≡ [] → MayCount m c
    → Tells (record { maps = after_counted m c; tried = tried; is_open = open_fault }) h → Tells (record { maps = m; tried = tried; is_open = open_fault }) (entries.Counted c ∷ h)
counted_step m tried open_fault c h none may rest =
    let with_none : kept_with tried h ≡ index_kept h = ap (λ (t : List IndexCounted). kept_with t h) none ∙ kept_with-none h in
    let mine : kept_with tried (entries.Counted c ∷ h) ≡ c ∷ index_kept h = ap (λ (t : List IndexCounted). kept_with t (entries.Counted c ∷ h)) none ∙ kept_with-none (entries.Counted c ∷ h) in
    moved (record { maps = m; tried = tried; is_open = open_fault }) (entries.Counted c ∷ h) (c ∷ index_kept h)
    (rest.maps ∙ ap (after_all (after_counted m c)) with_none)
    (may, subst (MayAllCount (after_counted m c)) with_none rest.counts)
    (sym mine)

reopened_step : (s : IndexState) (kept : Bool) (h : List IndexEntry) → MayAllCount s.maps s.tried → Tells (after_entry s (entries.Reopened kept)) h → Tells s (entries.Reopened kept ∷ h)
reopened_step s true h may rest =
    moved s (entries.Reopened true ∷ h) (s.tried ++ index_kept h)
    (rest.maps ∙ ap (after_all (after_all s.maps s.tried)) (kept_with-none h) ∙ sym (after_all-append s.maps s.tried (index_kept h)))
    (MayAllCount-append s.maps s.tried (index_kept h) may (subst (MayAllCount (after_all s.maps s.tried)) (kept_with-none h) rest.counts)) refl
reopened_step s false h may rest =
    moved s (entries.Reopened false ∷ h) (index_kept h) (rest.maps ∙ ap (after_all s.maps) (kept_with-none h)) (subst (MayAllCount s.maps) (kept_with-none h) rest.counts) refl

tells : (s : IndexState) (h : List IndexEntry) → TellsNoDamage s → MayAllFollow s h → Tells s h
tells s [] sound legal = record { maps = refl; counts = tt }
tells s (entries.Counted c ∷ h) sound legal =
    let none : s.tried ≡ [] = sound.rest legal.0.0 in
    counted_step s.maps s.tried s.is_open c h none legal.0.1
    (tells (after_entry s (entries.Counted c)) h (record { rest = λ e. none; may = subst (MayAllCount (after_counted s.maps c)) (sym none) tt }) legal.1)
tells s (entries.Look ∷ h) sound legal =
    let rest = tells s h sound legal.1 in
    record { maps = rest.maps; counts = rest.counts }
tells s (entries.Fault None before after ∷ h) sound legal =
    let rest = tells (after_entry s (entries.Fault None before after)) h (record { rest = λ e. absurd cc; may = subst (MayAllCount s.maps) (sym (append-nil s.tried)) sound.may }) legal.1 in
    let same = fault_step (is_found_next h) s.tried [] (index_kept h) in
    moved s (entries.Fault None before after ∷ h) (kept_with (s.tried ++ []) h) rest.maps rest.counts (sym same)
tells s (entries.Fault (Some c) before after ∷ h) sound legal =
    let none : s.tried ≡ [] = sound.rest legal.0.0 in
    let one : s.tried ++ c ∷ [] ≡ c ∷ [] = ap (λ (t : List IndexCounted). t ++ c ∷ []) none in
    let rest = tells (after_entry s (entries.Fault (Some c) before after)) h (record { rest = λ e. absurd cc; may = subst (MayAllCount s.maps) (sym one) (legal.0.1, tt) }) legal.1 in
    let same = fault_step (is_found_next h) s.tried (c ∷ []) (index_kept h) in
    moved s (entries.Fault (Some c) before after ∷ h) (kept_with (s.tried ++ c ∷ []) h) rest.maps rest.counts (sym same)
tells s (entries.Reopened true ∷ h) sound legal = reopened_step s true h sound.may (tells (after_entry s (entries.Reopened true)) h (sound_rest (after_all s.maps s.tried)) legal.1)
tells s (entries.Reopened false ∷ h) sound legal = reopened_step s false h sound.may (tells (after_entry s (entries.Reopened false)) h (sound_rest s.maps) legal.1)

pub maps_kept : (first : Maps) (h : List IndexEntry) → IsLegalIndex first h → (state_of first h).maps ≡ maps_of first h
maps_kept first h legal = (tells (at_rest first) h (sound_rest first) legal).maps ∙ ap (after_all first) (kept_with-none h)

pub kept_counts : (first : Maps) (h : List IndexEntry) → IsLegalIndex first h → MayAllCount first (index_kept h)
kept_counts first h legal = subst (MayAllCount first) (kept_with-none h) (tells (at_rest first) h (sound_rest first) legal).counts
