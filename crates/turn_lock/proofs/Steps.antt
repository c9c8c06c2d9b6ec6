-- Each step keeps the rule.
use Rattle.std.proofs.Common.{◌≡◌, ◌≢◌, ◌⊎◌, ℕ, ◌+◌, ◌%◌, ◌^◌, ◌≤◌, List, [], ◌∷◌, ◌++◌, length, set, Some, Option, Bool, true, false, true≢false, refl, sym, ap, ◌∙◌, subst, inl, inr, ⊎_elim, arith, length-append, lt_of_not-le, mod-eq_of_lt}
use Rattle.std.specs.Prelude.{slice_set, slice_index, ◌==◌, if◌then◌else◌}
use mathlib.Core.Option as core
use mathlib.Core.List.{IsPrefix}
use lib.ListN.{get_elem?}
use mathlib.Core.Logic.{dite}
use native.Mathlib.Decide.{ℕ_discrete, dec_le}
use prog.Atomic.{either}
use Rattle.atomic_table.specs.Table.{State, Me, Act, keeps, takes, gives, step, opening, Valid, homes_after, carried_after, Allows, Splits, Joins, Final, Seen}
use Rattle.atomic_table.proofs.Lists.{at_longer, set_here, set_else}
use Rattle.turn_lock.specs.declared.rule.View.{View}
use Rattle.turn_lock.specs.History.{entries_in, entries_of, entries_by, HasJust}
use Rattle.turn_lock.specs.Rules.{newcomer, ended, callers_of, among, split_once, next_pass, informed, total, stake, share, Saw, Owns, KnowsAll, NoneHolds, OneHolds, Lies, Kept, Takes, Counts, Raises, Gives, Looks, Finds, HasLearnt, Learns, Continues, IsIdle}
use Rattle.turn_lock.proofs.Histories.{prefix_both, prefix_of_nil, prefix_self, prefix_or, length-entries_of, among_own, among_other, just_between, just_append, just_parts}
use Rattle.turn_lock.proofs.Views.{each_set, each_snoc, one_pass, at_inside, total_set, total_at, total_none, stake_live, share_live, sees_more, raised, split, joined, holder_set, whole_set}

not_true : (b : Bool) → (b ≡ true → ⊥) → b ≡ false
not_true true never = absurd (never refl)
not_true false never = refl

-- a pass that was told nothing and knows all has seen all
knows_seen : {E : Type 0} (history : List (ℕ × E)) (v : View E) → IsPrefix v.seen history → v.told ≡ [] → KnowsAll history v → v.seen ≡ history
knows_seen history v seen told k = ⊎_elim (λ (e : v.seen ≡ history). e) (λ (e : v.told ≡ history). prefix_of_nil v.seen history seen (sym told ∙ e)) k

module _ {T E : Type 0} (stands : T → List E → Type 0) where
  abbrev S : Type 0
  S = Option T

  abbrev Rule : State S (View E) → Type 0
  Rule = Kept stands

  -- what `Allows` asks at a state whose words are ws
  abbrev Result : State S (View E) → List ℕ → ℕ → ℕ → Me S (View E) → (ℕ → ℕ) → (ℕ → Me S (View E) → Type 0) → Type 0
  Result s ws i id me f tells =
      (w : View E) × (a : Act S) × Valid s.homes me.1 a
      × Rule record { words = slice_set ws i (f (slice_index ws i)); homes = homes_after s.homes me.1 a; views = slice_set s.views id w }
      × tells (slice_index ws i) (w, carried_after me.1 a)

  locked_as : (s : State S (View E)) (r : Rule s) (n : ℕ) → r.lock ≡ n → length r.history ∷ n ∷ [] ≡ s.words
  locked_as s r n is = sym (r.words ∙ ap (λ (l : ℕ). length r.history ∷ l ∷ []) is)

  pub begins : (x : T) → stands x [] → Rule (opening (0 ∷ 0 ∷ []) (Some x ∷ []) (newcomer 0 []))
  begins x is = record {
    history = [];
    last = 0;
    lock = 0;
    words = refl;
    short = omega arith;
    callers = record {
      seen = one_pass (Saw []) (newcomer 0 []) (prefix_self [], prefix_self []);
      own = one_pass (Owns [] 0) (newcomer 0 []) (λ _. ((refl, tt), refl, λ _. refl));
      once = λ n low. let one : stake n (newcomer {E = E} 0 []) ≡ 1 + 0 = ap (λ (k : ℕ). stake k (newcomer {E = E} 0 [])) (let zero_is : n ≡ 0 = omega arith in zero_is) ∙ among_own {E = E} 0 [] [] in omega (arith, one);
      none = λ n high. let no : stake n (newcomer {E = E} 0 []) ≡ 0 = among_other {E = E} n 0 [] [] (λ e. omega (arith, e, high)) in omega (arith, no);
      fresh = λ _ _. refl;
      shares = refl;
    };
    holder = λ one. absurd (omega (arith, one));
    whole = (0, newcomer 0 [], refl, refl, inl refl);
    place = inl (refl, x, refl, is, one_pass (λ v. v.holds ≡ false) (newcomer 0 []) refl);
  }

  -- where a pass holds the value, that is the one, and it has seen the whole history
  held : (s : State S (View E)) (r : Rule s) (id : ℕ) (v : View E) → get_elem? s.views id ≡ core.some v → v.holds ≡ true
      → (r.lock ≡ 1) × OneHolds r.history s.views
  held s r id v at holds =
      ⊎_elim
      (λ (h : (r.lock ≡ 0) × (x : T) × (get_elem? s.homes 0 ≡ core.some (core.some (Some x))) × stands x (entries_in r.history) × NoneHolds s.views). absurd (true≢false (sym holds ∙ h.4 id v at)))
      (λ (h : (r.lock ≡ 1) × OneHolds r.history s.views). h)
      r.place

  -- the value stays where it is while a pass keeps what it holds
  lies : (history : List (ℕ × E)) (lock : ℕ) (homes : List (core.Option S)) (views : List (View E)) (id : ℕ) (v w : View E) → get_elem? views id ≡ core.some v → w.holds ≡ v.holds → (v.holds ≡ true → w.seen ≡ v.seen)
      → Lies stands history lock homes views → Lies stands history lock homes (set views id w)
  lies history lock homes views id v w at same seen place =
      ⊎_elim
      (λ (h : (lock ≡ 0) × (x : T) × (get_elem? homes 0 ≡ core.some (core.some (Some x))) × stands x (entries_in history) × NoneHolds views).
      inl (h.0, h.1, h.2, h.3, each_set (λ _ u. u.holds ≡ false) views id w (same ∙ h.4 id v at) (λ j u _ e. h.4 j u e)))
      (λ (h : (lock ≡ 1) × OneHolds history views).
      inr (
        h.0,
        (
          h.1.0,
          each_set (λ j u. u.holds ≡ true → (j ≡ h.1.0) × (u.seen ≡ history)) views id w
              (λ holds. let now = sym same ∙ holds in ((h.1.1 id v at now).0, seen now ∙ (h.1.1 id v at now).1)) (λ j u _ e. h.1.1 j u e),
        ),
      ))
      place

  -- a step that changes no word and moves no value: the pass sees more
  stays : (s : State S (View E)) (r : Rule s) (id : ℕ) (v : View E) (seen told : List (ℕ × E)) → get_elem? s.views id ≡ core.some v
      → IsPrefix seen r.history → IsPrefix told r.history → (v.holds ≡ true → seen ≡ v.seen)
      → (KnowsAll r.history v → (seen ≡ r.history) ⊎ (told ≡ r.history)) → Rule record { words = length r.history ∷ r.lock ∷ []; homes = s.homes; views = set s.views id (record v { seen = seen; told = told }) }
  stays s r id v seen told at saw heard whole full =
      let w : View E = record v { seen = seen; told = told } in record {
        history = r.history;
        last = r.last;
        lock = r.lock;
        words = refl;
        short = r.short;
        callers = sees_more r.history r.last s.views id v v.holds seen told r.callers at saw heard;
        holder = λ one. holder_set s.views id v w at (λ live holds. (live, holds)) (r.holder one);
        whole = whole_set r.history s.views id v w at (λ live k. (live, full k)) r.whole;
        place = lies r.history r.lock s.homes s.views id v w at refl whole r.place;
      }

  -- a pass takes the value, and is told what follows from what it stands for
  pub takes_value : (found : T → List E → Type 0) → ((x : T) (list : List E) → stands x list → found x list) → (slots id : ℕ) (me : Me S (View E)) → me.0.live ≡ true → Allows Rule slots id me 1 (λ n. either (n == 0) 1 n) (Takes found (step slots 1 0 1 core.none) me)
  takes_value found follows slots id me live s r len at small = ⊎_elim home away r.place
    where
      home : (r.lock ≡ 0) × (x : T) × (get_elem? s.homes 0 ≡ core.some (core.some (Some x))) × stands x (entries_in r.history) × NoneHolds s.views
          → Result s s.words 1 id me (λ n. either (n == 0) 1 n) (Takes found (step slots 1 0 1 core.none) me)
      home h =
          let w : View E = record me.0 { holds = true; seen = r.history } in
          let was = r.callers.seen id me.0 at in
          subst (λ (ws : List ℕ). Result s ws 1 id me (λ n. either (n == 0) 1 n) (Takes found (step slots 1 0 1 core.none) me)) (locked_as s r 0 h.0) (
            w,
            takes 0 (Some h.1),
            h.2,
            record {
              history = r.history;
              last = r.last;
              lock = 1;
              words = refl;
              short = r.short;
              callers = sees_more r.history r.last s.views id me.0 true r.history me.0.told r.callers at (prefix_self r.history) was.1;
              holder = λ _. (id, w, set_here s.views id w (at_inside s.views id me.0 at), live, refl);
              whole = (id, w, set_here s.views id w (at_inside s.views id me.0 at), live, inl refl);
              place = inr (refl, (id, each_set (λ j v. v.holds ≡ true → (j ≡ id) × (v.seen ≡ r.history)) s.views id w (λ _. (refl, refl)) (λ j u _ e holds. absurd (true≢false (sym holds ∙ h.4 j u e)))));
            },
            ((λ _. (h.1, refl, follows h.1 (entries_in r.history) h.3, was.0, (r.callers.own id me.0 at live).0)), (λ n. absurd (n refl))),
          )

      away : (r.lock ≡ 1) × OneHolds r.history s.views → Result s s.words 1 id me (λ n. either (n == 0) 1 n) (Takes found (step slots 1 0 1 core.none) me)
      away h =
          let was = r.callers.seen id me.0 at in
          let kept = stays s r id me.0 me.0.seen me.0.told at was.0 was.1 (λ _. refl) (λ k. k) in
          subst (λ (ws : List ℕ). Result s ws 1 id me (λ n. either (n == 0) 1 n) (Takes found (step slots 1 0 1 core.none) me)) (locked_as s r 1 h.0) (
            me.0,
            keeps,
            tt,
            subst (λ (l : ℕ). Rule record { words = length r.history ∷ l ∷ []; homes = s.homes; views = set s.views id me.0 }) h.0 kept,
            ((λ z. absurd (omega arith)), (λ _. refl)),
          )

  pub counts_entries : (slots id : ℕ) (me : Me S (View E)) → me.0.holds ≡ true → Allows Rule slots id me 0 (λ n. n) (Counts (step slots 0 0 0 core.none) me)
  counts_entries slots id me holds s r len at small =
      let was = r.callers.seen id me.0 at in
      subst (λ (ws : List ℕ). Result s ws 0 id me (λ n. n) (Counts (step slots 0 0 0 core.none) me)) (sym r.words)
      (me.0, keeps, tt, stays s r id me.0 me.0.seen me.0.told at was.0 was.1 (λ _. refl) (λ k. k), (refl, ap length (sym ((held s r id me.0 at holds).1.1 id me.0 at holds).1), r.short))

  pub raises_list : (told : List E → List E → Type 0) (slots id k : ℕ) (me : Me S (View E)) (es : List E) → me.0.live ≡ true → me.0.holds ≡ true → length es ≡ k → length me.0.seen + k ≤ 2 ^ 63 → told (entries_in me.0.seen) es
      → Allows Rule slots id me 0 (λ n. (n + k) % 2 ^ 64) (Raises told (step slots 0 k 0 core.none) me)
  raises_list told slots id k me es live holds many fits is s r len at small =
      let h = held s r id me.0 at holds in
      let here = h.1.1 id me.0 at holds in
      let history = r.history ++ entries_of me.0.number es in
      let more : length r.history + k ≡ length history = omega (arith, length-append r.history (entries_of me.0.number es), length-entries_of me.0.number es, many) in
      let room : length r.history + k ≤ 2 ^ 63 = omega (arith, fits, ap length here.1) in
      let w : View E = record me.0 { seen = me.0.seen ++ entries_of me.0.number es; own = me.0.own ++ es } in
      let callers = raised r.history r.last s.views id me.0 es r.callers at live here.1 in
      let w_at : get_elem? (set s.views id w) id ≡ core.some w = set_here s.views id w (at_inside s.views id me.0 at) in
      subst (λ (ws : List ℕ). Result s ws 0 id me (λ n. (n + k) % 2 ^ 64) (Raises told (step slots 0 k 0 core.none) me)) (locked_as s r 1 h.0) (
        w,
        keeps,
        tt,
        record {
          history = history;
          last = r.last;
          lock = 1;
          words = ap (λ (n : ℕ). n ∷ 1 ∷ []) (mod-eq_of_lt (omega (arith, room)) ∙ more);
          short = omega (arith, room, more);
          callers = callers;
          holder = λ _. holder_set s.views id me.0 w at (λ live_v holds_v. (live_v, holds_v)) (r.holder h.0);
          whole = (id, w, w_at, live, inl (ap (λ l. l ++ entries_of me.0.number es) here.1));
          place = inr (
            refl,
            (
              h.1.0,
              each_set (λ j v. v.holds ≡ true → (j ≡ h.1.0) × (v.seen ≡ history)) s.views id w (λ _. (here.0, ap (λ l. l ++ entries_of me.0.number es) here.1))
                  (λ j u other e holds_u. absurd (other ((h.1.1 j u e holds_u).0 ∙ sym here.0))),
            ),
          );
        },
        (es, many, is, refl, subst (λ l. HasJust (l ++ entries_of me.0.number es) (callers_of w)) (sym here.1) (callers.own id w w_at live).0),
      )

  gives_at : (slots id : ℕ) (v : View E) (x : T) → slots ≡ 1 → v.holds ≡ true → stands x (entries_in v.seen) → Allows Rule slots id (v, (0, Some x) ∷ []) 1 (λ _. 0) (λ _. Gives (step slots 1 0 0 core.none) (v, (0, Some x) ∷ []) 0)
  gives_at slots id v x one holds is s r len at small =
      let h = held s r id v at holds in
      let here = h.1.1 id v at holds in
      let was = r.callers.seen id v at in
      let w : View E = record v { holds = false } in
      subst (λ (ws : List ℕ). Result s ws 1 id (v, (0, Some x) ∷ []) (λ _. 0) (λ _. Gives (step slots 1 0 0 core.none) (v, (0, Some x) ∷ []) 0)) (locked_as s r 1 h.0) (
        w,
        gives,
        tt,
        record {
          history = r.history;
          last = r.last;
          lock = 0;
          words = refl;
          short = r.short;
          callers = sees_more r.history r.last s.views id v false v.seen v.told r.callers at was.0 was.1;
          holder = λ one. absurd (omega (arith, one));
          whole = whole_set r.history s.views id v w at (λ live_v k. (live_v, k)) r.whole;
          place = inl (
            refl,
            x,
            set_here s.homes 0 (core.some (Some x)) (omega (arith, len, one)),
            subst (λ l. stands x (entries_in l)) here.1 is,
            each_set (λ _ u. u.holds ≡ false) s.views id w refl (λ j u other e. not_true u.holds (λ holds_u. other ((h.1.1 j u e holds_u).0 ∙ sym here.0))),
          );
        },
        refl,
      )

  pub gives_value : (slots id : ℕ) (me : Me S (View E)) (x : T) → slots ≡ 1 → me.0.holds ≡ true → me.1 ≡ (0, Some x) ∷ [] → stands x (entries_in me.0.seen) → Allows Rule slots id me 1 (λ _. 0) (λ _. Gives (step slots 1 0 0 core.none) me 0)
  gives_value slots id me x one holds out is = subst (λ (c : List (ℕ × S)). Allows Rule slots id (me.0, c) 1 (λ _. 0) (λ _. Gives (step slots 1 0 0 core.none) (me.0, c) 0)) (sym out) (gives_at slots id me.0 x one holds is)

  pub looks_on : (slots id : ℕ) (me : Me S (View E)) → me.0.live ≡ true → me.0.holds ≡ false → Allows Rule slots id me 0 (λ n. n) (Looks (step slots 0 0 0 core.none) me)
  looks_on slots id me live idle s r len at small =
      let was = r.callers.seen id me.0 at in
      let w : View E = record me.0 { seen = r.history } in
      subst (λ (ws : List ℕ). Result s ws 0 id me (λ n. n) (Looks (step slots 0 0 0 core.none) me)) (sym r.words)
      (w, keeps, tt, stays s r id me.0 r.history me.0.told at (prefix_self r.history) was.1 (λ holds. absurd (true≢false (sym holds ∙ idle))) (λ _. inl refl), (refl, was.0, refl, (r.callers.own id me.0 at live).0))

  pub finds_own : (slots id : ℕ) (me : Me S (View E)) → me.0.live ≡ true → Allows Rule slots id me 0 (λ n. n) (Finds (step slots 0 0 0 core.none) me)
  finds_own slots id me live s r len at small =
      let was = r.callers.seen id me.0 at in
      subst (λ (ws : List ℕ). Result s ws 0 id me (λ n. n) (Finds (step slots 0 0 0 core.none) me)) (sym r.words)
      (me.0, keeps, tt, stays s r id me.0 me.0.seen me.0.told at was.0 was.1 (λ _. refl) (λ k. k), (refl, (r.history, was.0, (r.callers.own id me.0 at live).0)))

  pub learns_more : (slots id : ℕ) (me : Me S (View E)) → me.0.live ≡ true → me.0.holds ≡ false → Allows Rule slots id me 0 (λ n. n) (Learns (step slots 0 0 0 core.none) me)
  learns_more slots id me live idle s r len at small =
      subst (λ (ws : List ℕ). Result s ws 0 id me (λ n. n) (Learns (step slots 0 0 0 core.none) me)) (sym r.words)
      (⊎_elim
      (λ (p : IsPrefix me.0.seen me.0.told). as_seen me.0.told was.1 p (prefix_self me.0.told) (inr refl))
      (λ (p : IsPrefix me.0.told me.0.seen). as_seen me.0.seen was.0 (prefix_self me.0.seen) p (inl refl))
      (prefix_or me.0.seen me.0.told r.history was.0 was.1))
    where
      was : IsPrefix me.0.seen r.history × IsPrefix me.0.told r.history
      was = r.callers.seen id me.0 at

      as_seen : (list : List (ℕ × E)) → IsPrefix list r.history → IsPrefix me.0.seen list → IsPrefix me.0.told list → (list ≡ me.0.seen) ⊎ (list ≡ me.0.told)
          → Result s (length r.history ∷ r.lock ∷ []) 0 id me (λ n. n) (Learns (step slots 0 0 0 core.none) me)
      as_seen list whole seen told which =
          let w : View E = record me.0 { seen = list; told = [] } in (
            w,
            keeps,
            tt,
            stays s r id me.0 list [] at whole (r.history, refl) (λ holds. absurd (true≢false (sym holds ∙ idle)))
                (λ k. inl (prefix_both list r.history whole (⊎_elim (λ (e : me.0.seen ≡ r.history). subst (λ l. IsPrefix l list) e seen) (λ (e : me.0.told ≡ r.history). subst (λ l. IsPrefix l list) e told) k))),
            (refl, seen, told, which, (r.history, whole, (r.callers.own id me.0 at live).0)),
          )

  pub splits_root : (id : ℕ) (v : View E) → v.live ≡ true → v.number ≡ 0 → Splits Rule id v (split_once v) (next_pass v)
  splits_root id v live root s r at =
      let left = split_once v in
      let views = set s.views id left in record {
        history = r.history;
        last = r.last + 1;
        lock = r.lock;
        words = r.words;
        short = r.short;
        callers = split r.history r.last s.views id v r.callers at live root;
        holder = λ one. let h = holder_set s.views id v left at (λ live_v holds_v. (live_v, holds_v)) (r.holder one) in (h.0, h.1, at_longer views (next_pass v ∷ []) h.0 h.1 h.2, h.3, h.4);
        whole = let h = whole_set r.history s.views id v left at (λ live_v k. (live_v, k)) r.whole in (h.0, h.1, at_longer views (next_pass v ∷ []) h.0 h.1 h.2, h.3, h.4);
        place =
            ⊎_elim
            (λ (h : (r.lock ≡ 0) × (x : T) × (get_elem? s.homes 0 ≡ core.some (core.some (Some x))) × stands x (entries_in r.history) × NoneHolds views).
            inl (h.0, h.1, h.2, h.3, each_snoc (λ _ u. u.holds ≡ false) views (next_pass v) h.4 (λ _. refl)))
            (λ (h : (r.lock ≡ 1) × OneHolds r.history views).
            inr (h.0, (h.1.0, each_snoc (λ j u. u.holds ≡ true → (j ≡ h.1.0) × (u.seen ≡ r.history)) views (next_pass v) h.1.1 (λ _ holds. absurd (true≢false (sym holds))))))
            (lies r.history r.lock s.homes s.views id v left at refl (λ _. refl) r.place);
      }

  pub joins_pass : (id : ℕ) (v : View E) (other : ℕ) (w : View E) → v.live ≡ true → w.live ≡ true → w.holds ≡ false → v.told ≡ [] → w.told ≡ [] → w.number ≢ 0 → Joins Rule id v other w (informed v w) ended
  joins_pass id v other w live live_w idle told told_w later s r at apart there =
      let both = informed v w in
      let views = set s.views id both in
      let before : get_elem? s.views other ≡ core.some w = sym (set_else s.views id other both apart) ∙ there in record {
        history = r.history;
        last = r.last;
        lock = r.lock;
        words = r.words;
        short = r.short;
        callers = joined r.history r.last s.views id other v w r.callers at live before there live_w later;
        holder = λ one. holder_set views other w ended there (λ _ holds. absurd (true≢false (sym holds ∙ idle))) (holder_set s.views id v both at (λ live_v holds_v. (live_v, holds_v)) (r.holder one));
        whole =
            let o = r.whole in
            let here : get_elem? (set views other ended) id ≡ core.some both = set_else views other id ended (λ e. apart (sym e)) ∙ set_here s.views id both (at_inside s.views id v at) in
            dite (ℕ_discrete o.0 other)
            (λ is. let same : o.1 ≡ w = core.some-injective _ _ (sym o.2 ∙ (ap (λ n. get_elem? s.views n) is ∙ before)) in
            (id, both, here, live, inr (knows_seen r.history w (r.callers.seen other w before).0 told_w (subst (KnowsAll r.history) same o.4))))
            (λ not_other. dite (ℕ_discrete o.0 id)
            (λ is. let same : o.1 ≡ v = core.some-injective _ _ (sym o.2 ∙ (ap (λ n. get_elem? s.views n) is ∙ at)) in
            (id, both, here, live, inl (knows_seen r.history v (r.callers.seen id v at).0 told (subst (KnowsAll r.history) same o.4))))
            (λ not_id. (o.0, o.1, set_else views other o.0 ended not_other ∙ (set_else s.views id o.0 both not_id ∙ o.2), o.3, o.4)));
        place = lies r.history r.lock s.homes views other w ended there (sym idle) (λ holds. absurd (true≢false (sym holds ∙ idle)))
            (lies r.history r.lock s.homes s.views id v both at refl (λ _. refl) r.place);
      }

  -- where every other pass was joined into the root, it is the last live pass
  last_pass : (s : State S (View E)) (r : Rule s) (id : ℕ) (v : View E) → get_elem? s.views id ≡ core.some v → v.live ≡ true → v.number ≡ 0 → length v.joined ≡ v.splits
      → (j : ℕ) (u : View E) → get_elem? s.views j ≡ core.some u → u.live ≡ true → j ≡ id
  last_pass s r id v at live root all j u at_u live_u =
      dite (ℕ_discrete j id)
      (λ is. is)
      (λ other.
      let splits : v.splits ≡ r.last = (r.callers.own id v at live).2 root in
      let rest = total_set share s.views id v ended at in
      let below = total_at share (set s.views id ended) j u (set_else s.views id j ended other ∙ at_u) in
      let of_v = share_live v live in
      let of_u = share_live u live_u in
      let shares = r.callers.shares in
      absurd (omega (arith, rest, below, of_v, of_u, shares, splits, all)))

  -- it is the only one
  same_pass : (s : State S (View E)) (r : Rule s) (id : ℕ) (v : View E) → get_elem? s.views id ≡ core.some v → v.live ≡ true → v.number ≡ 0 → length v.joined ≡ v.splits
      → (j : ℕ) (u : View E) → get_elem? s.views j ≡ core.some u → u.live ≡ true → u ≡ v
  same_pass s r id v at live root all j u at_u live_u = core.some-injective _ _ (sym at_u ∙ (ap (λ n. get_elem? s.views n) (last_pass s r id v at live root all j u at_u live_u) ∙ at))

  -- and each entry's caller is it or was joined into it
  pub only_callers : (s : State S (View E)) (r : Rule s) (id : ℕ) (v : View E) → get_elem? s.views id ≡ core.some v → v.live ≡ true → v.number ≡ 0 → length v.joined ≡ v.splits
      → (n : ℕ) → (among n (callers_of v) ≡ 1) ⊎ (entries_by n r.history ≡ [])
  only_callers s r id v at live root all n =
      dite (dec_le n r.last)
      (λ low.
      let others : total (stake n) (set s.views id ended) ≡ 0 = total_none (stake n) (set s.views id ended)
      (each_set (λ _ u. stake n u ≡ 0) s.views id ended refl
      (λ j u other at_u. let dead : u.live ≡ false = not_true u.live (λ live_u. other (last_pass s r id v at live root all j u at_u live_u)) in ap (λ b. if b then among n (callers_of u) else 0) dead)) in
      let swap = total_set (stake n) s.views id v ended at in
      let one = r.callers.once n low in
      let of_v = stake_live n v live in
      inl (omega (arith, others, swap, one, of_v)))
      (λ high. inr (r.callers.fresh n (lt_of_not-le high)))

  -- the value of the slot of a table that was closed stands for what the root has seen
  pub closed_value : (ws : List ℕ) (xs : List S) (id : ℕ) (v : View E) → Final (Seen Rule id v) ws xs → v.live ≡ true → v.holds ≡ false → v.told ≡ [] → v.number ≡ 0 → length v.joined ≡ v.splits
      → (x : T) × stands x (entries_in v.seen) × (get_elem? xs 0 ≡ core.some (Some x)) × ((n : ℕ) → (among n (callers_of v) ≡ 1) ⊎ (entries_by n v.seen ≡ []))
  closed_value ws xs id v f live idle told root all =
      let s = f.0 in
      let r = f.1.0 in
      let at = f.1.1 in
      let o = r.whole in
      let is : o.1 ≡ v = same_pass s r id v at live root all o.0 o.1 o.2 o.3 in
      let whole : v.seen ≡ r.history = knows_seen r.history v (r.callers.seen id v at).0 told (subst (KnowsAll r.history) is o.4) in
      let each = subst (λ l. (n : ℕ) → (among n (callers_of v) ≡ 1) ⊎ (entries_by n l ≡ [])) (sym whole) (only_callers s r id v at live root all) in
      ⊎_elim
      (λ (h : (r.lock ≡ 0) × (x : T) × (get_elem? s.homes 0 ≡ core.some (core.some (Some x))) × stands x (entries_in r.history) × NoneHolds s.views).
      (h.1, subst (λ l. stands h.1 (entries_in l)) (sym whole) h.3, f.4 0 (Some h.1) h.2, each))
      (λ (h : (r.lock ≡ 1) × OneHolds r.history s.views).
      let u = r.holder h.0 in
      let same : u.1 ≡ v = same_pass s r id v at live root all u.0 u.1 u.2 u.3 in
      absurd (true≢false (sym u.4 ∙ (ap (λ k. k.holds) same ∙ idle))))
      r.place

module _ {T E : Type 0} where
  -- a pass that was just split off is idle
  pub split_idle : (v : View E) (me : Me (Option T) (View E)) → me ≡ (next_pass v, []) → Continues v.seen (callers_of (next_pass v)) → IsIdle me
  split_idle v me new c =
      let own = just_between (callers_of (next_pass v)) [] v.seen c.0 (v.seen, refl) c.1 (refl, tt) c.2 in
      let idle : IsIdle {T = T} (next_pass v, []) = record { live = refl; idle = refl; told = refl; own = own; free = refl } in
      subst (λ m. IsIdle m) (sym new) idle

  -- a pass that has just learnt from another is idle
  pub joined_idle : (v w : View E) (c : List (ℕ × Option T)) (me : Me (Option T) (View E)) → IsIdle (v, c) → IsIdle {T = T} (w, []) → HasLearnt (informed v w, c) me → IsIdle me
  joined_idle v w c me idle other l =
      let continues = l.4 in
      let parts = just_parts continues.0 (callers_of v) (callers_of w) continues.2 in
      let first = just_between (callers_of v) v.seen me.0.seen continues.0 l.1 continues.1 idle.own parts.0 in
      let second = just_between (callers_of w) w.seen me.0.seen continues.0 l.2 continues.1 other.own parts.1 in
      let own : HasJust me.0.seen (callers_of v ++ callers_of w) = just_append me.0.seen (callers_of v) (callers_of w) first second in
      let new : Me (Option T) (View E) = (record (informed v w) { seen = me.0.seen; told = [] }, c) in
      let result : IsIdle new = record { live = idle.live; idle = idle.idle; told = refl; own = own; free = idle.free } in
      subst (λ m. IsIdle m) (sym l.0) result

  -- an idle pass holds no slot
  pub idle_free : (me : Me (Option T) (View E)) → IsIdle me → IsIdle {T = T} (me.0, [])
  idle_free me idle = record { live = idle.live; idle = idle.idle; told = idle.told; own = idle.own; free = refl }
