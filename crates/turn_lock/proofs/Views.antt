-- What a change of one pass does to the facts on all passes.
use Rattle.std.proofs.Common.{◌<◌, ◌≡◌, ◌≢◌, ◌⊎◌, ℕ, zero, suc, ◌+◌, ◌≤◌, List, [], ◌∷◌, ◌++◌, length, set, Bool, true, true≢false, refl, sym, ap, ◌∙◌, subst, inl, inr, ⊎_elim, arith, length-append, lt_of_not-le}
use Rattle.std.specs.Prelude.{if◌then◌else◌}
use mathlib.Core.Option as core
use mathlib.Core.List.{IsPrefix}
use lib.ListN.{get_elem?}
use mathlib.Core.Logic.{dite}
use native.Mathlib.Decide.{ℕ_discrete, dec_le}
use Rattle.atomic_table.proofs.Lists.{at_set, set_here, set_else}
use Rattle.turn_lock.specs.declared.rule.View.{View}
use Rattle.turn_lock.specs.History.{entries_of}
use Rattle.turn_lock.specs.Rules.{ended, callers_of, split_once, next_pass, informed, EachPass, total, among, stake, share, Saw, Owns, Callers, HasHolder, KnowsAll, HasWhole}
use Rattle.turn_lock.proofs.Histories.{prefix_self, prefix_longer, by-more, by-others, just_append, just_others, among-append, among_own, among_other}

module _ {E : Type 0} where
  -- a fact of each pass after the view of one has changed
  pub each_set : (P : ℕ → View E → Type 0) (views : List (View E)) (id : ℕ) (w : View E) → P id w → ((j : ℕ) (u : View E) → j ≢ id → get_elem? views j ≡ core.some u → P j u) → (j : ℕ) (u : View E) → get_elem? (set views id w) j ≡ core.some u → P j u
  each_set P views id w mine others j u e =
      ⊎_elim
      (λ (t : (j ≡ id) × (w ≡ u)). subst (λ (y : ℕ × View E). P y.0 y.1) (λ i. (sym t.0 i, t.1 i)) mine)
      (λ (t : (j ≢ id) × (get_elem? views j ≡ core.some u)). others j u t.0 t.1)
      (at_set views id j w u e)

  pub one_pass : (P : View E → Type 0) (v : View E) → P v → EachPass (v ∷ []) P
  one_pass P v p zero u e = subst P (core.some-injective _ _ e) p
  one_pass P v p (suc id) u e = absurd (core.some-ne-none u (sym e))

  snoc_at : (views : List (View E)) (w u : View E) (j : ℕ) → get_elem? (views ++ w ∷ []) j ≡ core.some u → (get_elem? views j ≡ core.some u) ⊎ (w ≡ u)
  snoc_at [] w u zero e = inr (core.some-injective _ _ e)
  snoc_at [] w u (suc j) e = absurd (core.some-ne-none u (sym e))
  snoc_at (v ∷ views) w u zero e = inl e
  snoc_at (v ∷ views) w u (suc j) e = snoc_at views w u j e

  pub each_snoc : (P : ℕ → View E → Type 0) (views : List (View E)) (w : View E) → ((j : ℕ) (u : View E) → get_elem? views j ≡ core.some u → P j u) → ((j : ℕ) → P j w) → (j : ℕ) (u : View E) → get_elem? (views ++ w ∷ []) j ≡ core.some u → P j u
  each_snoc P views w others mine j u e =
      ⊎_elim
      (λ (h : get_elem? views j ≡ core.some u). others j u h)
      (λ (h : w ≡ u). subst (P j) h (mine j))
      (snoc_at views w u j e)

  pub at_inside : (views : List (View E)) (i : ℕ) (v : View E) → get_elem? views i ≡ core.some v → i < length views
  at_inside [] i v e = absurd (core.some-ne-none v (sym e))
  at_inside (x ∷ views) zero v e = omega arith
  at_inside (x ∷ views) (suc i) v e = let h = at_inside views i v e in omega (arith, h)

module _ {E : Type 0} (f : View E → ℕ) where
  pub total_set : (views : List (View E)) (i : ℕ) (v w : View E) → get_elem? views i ≡ core.some v → total f (set views i w) + f v ≡ total f views + f w
  total_set [] i v w e = absurd (core.some-ne-none v (sym e))
  total_set (x ∷ views) zero v w e = let same = ap f (core.some-injective x v e) in omega (arith, same)
  total_set (x ∷ views) (suc i) v w e = let h = total_set views i v w e in omega (arith, h)

  pub total_same : (views : List (View E)) (i n : ℕ) (v w : View E) → get_elem? views i ≡ core.some v → f w ≡ f v → total f views ≡ n → total f (set views i w) ≡ n
  total_same views i n v w e same is = let h = total_set views i v w e in omega (arith, h, same, is)

  pub total-append : (views : List (View E)) (w : View E) → total f (views ++ w ∷ []) ≡ total f views + f w
  total-append [] w = omega arith
  total-append (x ∷ views) w = let h = total-append views w in omega (arith, h)

  pub total_at : (views : List (View E)) (i : ℕ) (v : View E) → get_elem? views i ≡ core.some v → f v ≤ total f views
  total_at [] i v e = absurd (core.some-ne-none v (sym e))
  total_at (x ∷ views) zero v e = let same = ap f (core.some-injective x v e) in omega (arith, same)
  total_at (x ∷ views) (suc i) v e = let h = total_at views i v e in omega (arith, h)

  pub total_two : (views : List (View E)) (i j : ℕ) (v u : View E) → i ≢ j → get_elem? views i ≡ core.some v → get_elem? views j ≡ core.some u → f v + f u ≤ total f views
  total_two [] i j v u apart at_v at_u = absurd (core.some-ne-none v (sym at_v))
  total_two (x ∷ views) zero zero v u apart at_v at_u = absurd (apart refl)
  total_two (x ∷ views) zero (suc j) v u apart at_v at_u = let same = ap f (core.some-injective x v at_v) in let h = total_at views j u at_u in omega (arith, same, h)
  total_two (x ∷ views) (suc i) zero v u apart at_v at_u = let same = ap f (core.some-injective x u at_u) in let h = total_at views i v at_v in omega (arith, same, h)
  total_two (x ∷ views) (suc i) (suc j) v u apart at_v at_u = let h = total_two views i j v u (λ e. apart (ap suc e)) at_v at_u in omega (arith, h)

  -- a pass is joined into another
  pub total_join : (views : List (View E)) (id other n : ℕ) (v w both end : View E) → get_elem? views id ≡ core.some v → get_elem? (set views id both) other ≡ core.some w → f both ≡ f v + f w → f end ≡ 0 → total f views ≡ n → total f (set (set views id both) other end) ≡ n
  total_join views id other n v w both end at there sum none is =
      let first = total_set views id v both at in
      let second = total_set (set views id both) other w end there in omega (arith, first, second, sum, none, is)

  pub total_none : (views : List (View E)) → EachPass views (λ v. f v ≡ 0) → total f views ≡ 0
  total_none [] none = refl
  total_none (x ∷ views) none = let here = none 0 x refl in let rest = total_none views (λ id v e. none (suc id) v e) in omega (arith, here, rest)

module _ {E : Type 0} where
  pub stake_live : (n : ℕ) (v : View E) → v.live ≡ true → stake n v ≡ among n (callers_of v)
  stake_live n v live = ap (λ b. if b then among n (callers_of v) else 0) live

  pub share_live : (v : View E) → v.live ≡ true → share v ≡ length v.joined + 1
  share_live v live = ap (λ b. if b then length v.joined + 1 else 0) live

  stake_own : (v : View E) → v.live ≡ true → stake v.number v ≡ 1 + among v.number v.joined
  stake_own v live = stake_live v.number v live ∙ among_own v.number v.own v.joined

  stake_both : (n : ℕ) (v w : View E) → v.live ≡ true → w.live ≡ true → stake n (informed v w) ≡ stake n v + stake n w
  stake_both n v w live live_w =
      let both = stake_live n (informed v w) live in
      let of_v = stake_live n v live in
      let of_w = stake_live n w live_w in
      let parts = among-append n (callers_of v) (callers_of w) in omega (arith, both, of_v, of_w, parts)

  share_both : (v w : View E) → v.live ≡ true → w.live ≡ true → share (informed v w) ≡ share v + share w
  share_both v w live live_w =
      let both = share_live (informed v w) live in
      let of_v = share_live v live in
      let of_w = share_live w live_w in
      let parts = length-append v.joined (callers_of w) in omega (arith, both, of_v, of_w, parts)

module _ {E : Type 0} (history : List (ℕ × E)) (last : ℕ) (views : List (View E)) (callers : Callers history last views) where
  at_most_one : (n : ℕ) → total (stake n) views ≤ 1
  at_most_one n =
      dite (dec_le n last)
      (λ low. let h = callers.once n low in omega (arith, h))
      (λ high. let h = callers.none n (lt_of_not-le high) in omega (arith, h))

  -- a live pass's number isn't above the last one
  pub number_low : (id : ℕ) (v : View E) → get_elem? views id ≡ core.some v → v.live ≡ true → v.number ≤ last
  number_low id v at live =
      dite (dec_le v.number last)
      (λ low. low)
      (λ high. let h = callers.none v.number (lt_of_not-le high) in let one = stake_own v live in let below = total_at (stake v.number) views id v at in absurd (omega (arith, h, one, below)))

  -- a live pass's number is none of those joined into it
  pub own_once : (id : ℕ) (v : View E) → get_elem? views id ≡ core.some v → v.live ≡ true → among v.number v.joined ≡ 0
  own_once id v at live =
      let most = at_most_one v.number in
      let one = stake_own v live in
      let below = total_at (stake v.number) views id v at in omega (arith, most, one, below)

  -- and no other live pass stands for it
  pub others_none : (id j : ℕ) (v u : View E) → j ≢ id → get_elem? views id ≡ core.some v → v.live ≡ true → get_elem? views j ≡ core.some u → u.live ≡ true → among v.number (callers_of u) ≡ 0
  others_none id j v u other at live at_u live_u =
      let most = at_most_one v.number in
      let one = stake_own v live in
      let of_u = stake_live v.number u live_u in
      let two = total_two (stake v.number) views id j v u (λ e. other (sym e)) at at_u in omega (arith, most, one, of_u, two)

  -- there is one root
  pub one_root : (id j : ℕ) (v u : View E) → j ≢ id → get_elem? views id ≡ core.some v → v.live ≡ true → v.number ≡ 0 → get_elem? views j ≡ core.some u → u.live ≡ true → u.number ≡ 0 → ⊥
  one_root id j v u other at live root at_u live_u root_u =
      let none : among v.number (callers_of u) ≡ 0 = others_none id j v u other at live at_u live_u in
      let own : among u.number (callers_of u) ≡ 1 + among u.number u.joined = among_own u.number u.own u.joined in
      let same : among v.number (callers_of u) ≡ among u.number (callers_of u) = ap (λ n. among n (callers_of u)) (root ∙ sym root_u) in
      omega (arith, none, own, same)

module _ {E : Type 0} where
  -- a pass sees more
  pub sees_more : (history : List (ℕ × E)) (last : ℕ) (views : List (View E)) (id : ℕ) (v : View E) (holds : Bool) (seen told : List (ℕ × E)) → Callers history last views → get_elem? views id ≡ core.some v
      → IsPrefix seen history → IsPrefix told history → Callers history last (set views id (record v { holds = holds; seen = seen; told = told }))
  sees_more history last views id v holds seen told callers at saw heard =
      let w : View E = record v { holds = holds; seen = seen; told = told } in record {
        seen = each_set (λ _. Saw history) views id w (saw, heard) (λ j u _ e. callers.seen j u e);
        own = each_set (λ _. Owns history last) views id w (callers.own id v at) (λ j u _ e. callers.own j u e);
        once = λ n low. total_same (stake n) views id 1 v w at refl (callers.once n low);
        none = λ n high. total_same (stake n) views id 0 v w at refl (callers.none n high);
        fresh = callers.fresh;
        shares = total_same share views id (last + 1) v w at refl callers.shares;
      }

  -- a pass's new entries come last
  pub raised : (history : List (ℕ × E)) (last : ℕ) (views : List (View E)) (id : ℕ) (v : View E) (es : List E) → Callers history last views → get_elem? views id ≡ core.some v → v.live ≡ true → v.seen ≡ history
      → Callers (history ++ entries_of v.number es) last (set views id (record v { seen = v.seen ++ entries_of v.number es; own = v.own ++ es }))
  raised history last views id v es callers at live whole =
      let more = entries_of v.number es in
      let w : View E = record v { seen = v.seen ++ more; own = v.own ++ es } in
      let o = callers.own id v at live in record {
        seen = each_set (λ _. Saw (history ++ more)) views id w
            (subst (λ l. IsPrefix (l ++ more) (history ++ more)) (sym whole) (prefix_self (history ++ more)), prefix_longer v.told history more (callers.seen id v at).1)
            (λ j u _ e. (prefix_longer u.seen history more (callers.seen j u e).0, prefix_longer u.told history more (callers.seen j u e).1));
        own = each_set (λ _. Owns (history ++ more) last) views id w
            (λ _. ((by-more history v.number es v.own o.0.0, just_others history v.number es v.joined (own_once history last views callers id v at live) o.0.1), o.1, o.2))
            (λ j u other e live_u. let p = callers.own j u e live_u in (just_others history v.number es (callers_of u) (others_none history last views callers id j v u other at live e live_u) p.0, p.1, p.2));
        once = λ n low. total_same (stake n) views id 1 v w at refl (callers.once n low);
        none = λ n high. total_same (stake n) views id 0 v w at refl (callers.none n high);
        fresh = λ n high. by-others history n v.number es (λ is. let low = number_low history last views callers id v at live in omega (arith, low, is, high)) ∙ callers.fresh n high;
        shares = total_same share views id (last + 1) v w at refl callers.shares;
      }

  -- the root makes another pass
  pub split : (history : List (ℕ × E)) (last : ℕ) (views : List (View E)) (id : ℕ) (v : View E) → Callers history last views → get_elem? views id ≡ core.some v → v.live ≡ true → v.number ≡ 0
      → Callers history (last + 1) (set views id (split_once v) ++ next_pass v ∷ [])
  split history last views id v callers at live root =
      let o = callers.own id v at live in
      let all : v.splits ≡ last = o.2 root in
      let was = callers.seen id v at in
      let left = split_once v in
      let right = next_pass v in
      let views' = set views id left in
      let added : (n m : ℕ) → total (stake n) views ≡ m → total (stake n) (views' ++ right ∷ []) ≡ m + among n (callers_of right) = λ n m is. let h = total_same (stake n) views id m v left at refl is in let s = total-append (stake n) views' right in omega (arith, h, s) in record {
        seen = each_snoc (λ _. Saw history) views' right (each_set (λ _. Saw history) views id left was (λ j u _ e. callers.seen j u e)) (λ _. (was.0, (history, refl)));
        own = each_snoc (λ _. Owns history (last + 1)) views' right
            (each_set (λ _. Owns history (last + 1)) views id left
            (λ _. (o.0, o.1, λ _. omega (arith, all)))
            (λ j u other e live_u. let p = callers.own j u e live_u in (p.0, p.1, λ root_u. absurd (one_root history last views callers id j v u other at live root e live_u root_u))))
            (λ _ _. ((callers.fresh (v.splits + 1) (omega (arith, all)), tt), refl, λ none. absurd (omega (arith, none))));
        once = λ n low.
            dite (ℕ_discrete n (last + 1))
            (λ is. let h = added n 0 (callers.none n (omega (arith, is))) in let one = ap (λ (k : ℕ). among k (callers_of right)) (is ∙ ap (λ (k : ℕ). k + 1) (sym all)) ∙ among_own {E = E} (v.splits + 1) [] [] in omega (arith, h, one))
            (λ other. let h = added n 1 (callers.once n (omega (arith, low, other))) in let zero_more : among n (callers_of right) ≡ 0 = among_other {E = E} n (v.splits + 1) [] [] (λ e. other (omega (arith, e, all))) in omega (arith, h, zero_more));
        none = λ n high. let h = added n 0 (callers.none n (omega (arith, high))) in let zero_more : among n (callers_of right) ≡ 0 = among_other {E = E} n (v.splits + 1) [] [] (λ e. omega (arith, e, all, high)) in omega (arith, h, zero_more);
        fresh = λ n high. callers.fresh n (omega (arith, high));
        shares = let h = total_same share views id (last + 1) v left at refl callers.shares in let s = total-append share views' right in omega (arith, h, s);
      }

  -- a pass is joined into another, and ends
  pub joined : (history : List (ℕ × E)) (last : ℕ) (views : List (View E)) (id other : ℕ) (v w : View E) → Callers history last views → get_elem? views id ≡ core.some v → v.live ≡ true → get_elem? views other ≡ core.some w → get_elem? (set views id (informed v w)) other ≡ core.some w → w.live ≡ true → w.number ≢ 0
      → Callers history last (set (set views id (informed v w)) other ended)
  joined history last views id other v w callers at live before there live_w later =
      let o = callers.own id v at live in
      let q = callers.own other w before live_w in
      let both = informed v w in
      let views' = set views id both in
      let no_root : among 0 both.joined ≡ 0 =
      let parts = among-append 0 v.joined (callers_of w) in
      let own : among 0 (callers_of w) ≡ among 0 w.joined = among_other 0 w.number w.own w.joined later in
      let of_v = o.1 in let of_w = q.1 in omega (arith, parts, own, of_v, of_w) in record {
        seen = each_set (λ _. Saw history) views' other ended ((history, refl), (history, refl)) (λ j u _ e. each_set (λ _. Saw history) views id both ((callers.seen id v at).0, (callers.seen other w before).0) (λ j u _ e. callers.seen j u e) j u e);
        own = each_set (λ _. Owns history last) views' other ended (λ alive. absurd (true≢false (sym alive)))
            (λ j u _ e. each_set (λ _. Owns history last) views id both (λ _. ((o.0.0, just_append history v.joined (callers_of w) o.0.1 q.0), no_root, o.2)) (λ j u _ e. callers.own j u e) j u e);
        once = λ n low. total_join (stake n) views id other 1 v w both ended at there (stake_both n v w live live_w) refl (callers.once n low);
        none = λ n high. total_join (stake n) views id other 0 v w both ended at there (stake_both n v w live live_w) refl (callers.none n high);
        fresh = callers.fresh;
        shares = total_join share views id other (last + 1) v w both ended at there (share_both v w live live_w) refl callers.shares;
      }

  pub holder_set : (views : List (View E)) (id : ℕ) (v w : View E) → get_elem? views id ≡ core.some v → (v.live ≡ true → v.holds ≡ true → (w.live ≡ true) × (w.holds ≡ true)) → HasHolder views → HasHolder (set views id w)
  holder_set views id v w at same h =
      dite (ℕ_discrete h.0 id)
      (λ is. let v_is : h.1 ≡ v = core.some-injective _ _ (sym h.2 ∙ (ap (λ n. get_elem? views n) is ∙ at)) in
      let now = same (ap (λ u. u.live) (sym v_is) ∙ h.3) (ap (λ u. u.holds) (sym v_is) ∙ h.4) in
      (id, w, set_here views id w (at_inside views id v at), now.0, now.1))
      (λ other. (h.0, h.1, set_else views id h.0 w other ∙ h.2, h.3, h.4))

  pub whole_set : (history : List (ℕ × E)) (views : List (View E)) (id : ℕ) (v w : View E) → get_elem? views id ≡ core.some v → (v.live ≡ true → KnowsAll history v → (w.live ≡ true) × KnowsAll history w) → HasWhole history views → HasWhole history (set views id w)
  whole_set history views id v w at same h =
      dite (ℕ_discrete h.0 id)
      (λ is. let v_is : h.1 ≡ v = core.some-injective _ _ (sym h.2 ∙ (ap (λ n. get_elem? views n) is ∙ at)) in
      let now = same (ap (λ u. u.live) (sym v_is) ∙ h.3) (subst (KnowsAll history) v_is h.4) in
      (id, w, set_here views id w (at_inside views id v at), now.0, now.1))
      (λ other. (h.0, h.1, set_else views id h.0 w other ∙ h.2, h.3, h.4))
