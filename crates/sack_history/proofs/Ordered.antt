-- The posts of a legal list rise, and so do those of each life.
use Rattle.std.proofs.Common.{◌≡◌, ℕ, zero, suc, ◌+◌, ◌<◌, ◌≤◌, false, eqb, ltb, List, [], ◌∷◌, ◌++◌, length, take, Option, Some, None, refl, sym, ap, subst, ◌∙◌, append-nil, append_assoc, arith}
use Rattle.std.specs.Option.{IfSome, option_map}
use Rattle.std.specs.List.{Contains, filter, slice_get}
use Rattle.std.proofs.Math.Logic.{⊎_elim}
use Rattle.std.proofs.lemmas.Bool.{cases_eq, eq-eqb, ne_eqb}
use Rattle.std.proofs.lemmas.List.{length-append}
use Rattle.std.proofs.lemmas.List.Elements.{filter-append}
use Rattle.std.proofs.lemmas.Option.{none-some, same_Some}
use Rattle.archive_policy.specs.Policies.{ArchivePolicy, IsArchivePolicy}
use Rattle.series_model.specs.declared.measure.Measure.{Measure}
use Rattle.series_model.specs.declared.metric.MetricId.{MetricId}
use Rattle.series_model.proofs.ByKey.{filter-keep, filter-skip}
use Rattle.series_model.proofs.Members.{Contains-cases, Contains-none}
use Rattle.series_model.proofs.Rising.{Rises}
use Rattle.sack_history.specs.declared.entry.Counted.{Counted}
use Rattle.sack_history.specs.declared.entry.Counted.TheVariants as counted
use Rattle.sack_history.specs.Legal.{IsLegalCount, MayCount}
use Rattle.sack_history.specs.Lives.{Life, Posted, all_posts, born, done_up_to, is_to, last_post, life_of, subject_of, pending_in, posted_by, life_with}
use Rattle.sack_history.proofs.Following.{induction}
use Rattle.sack_history.proofs.Living.{all_posts-more, last_post-more, life-created, life-done, life-dropped, life-other, life-posted, same_id}
use Rattle.sack_history.proofs.Numbers.{Above-member, Above-take, AtMost, AtMost-append, AtMost-filter, AtMost-higher, Rises-push, above, above_is, numbers}

-- ---- posts by number

-- the posts are numbered on behind a number
abbrev pub NumberedBehind : ℕ → List Posted → Type 0
NumberedBehind n [] = Unit {0}
NumberedBehind n (p ∷ posts) = (p.number ≡ n + 1) × NumberedBehind (n + 1) posts

numbered-push : (n : ℕ) (posts : List Posted) (p : Posted) → NumberedBehind n posts → p.number ≡ n + length posts + 1 → NumberedBehind n (posts ++ p ∷ [])
numbered-push n [] p h is = (omega (arith, is), tt)
numbered-push n (q ∷ posts) p h is = (h.0, numbered-push (n + 1) posts p h.1 (omega (arith, is)))

pub numbered_at : (n : ℕ) (posts : List Posted) → NumberedBehind n posts → (k : ℕ) (p : Posted) → slice_get posts k ≡ Some p → p.number ≡ n + k + 1
numbered_at n [] h k p there = absurd (none-some p there)
numbered_at n (q ∷ posts) h zero p there = subst (λ (x : Posted). x.number ≡ n + 0 + 1) (same_Some q p there) (omega (arith, h.0))
numbered_at n (q ∷ posts) h (suc k) p there = omega (arith, numbered_at (n + 1) posts h.1 k p there)

-- ---- what is true of a legal list

-- A life of a metric: it has an archive policy, and its posts rise behind all earlier ones of it, which are no
-- later than its done number.
pub record IsLifeOf (m : MetricId) (counts : List Counted) (life : Life) : Type 0 where
  pub policy : IsArchivePolicy life.policy
  pub done : life.done ≤ last_post counts
  pub rises : Rises (numbers life.posts)
  pub most : AtMost (last_post counts) life.posts
  pub earlier : List Posted
  pub placed : filter (is_to m) (all_posts counts) ≡ earlier ++ life.posts
  pub before : AtMost life.done earlier

pub record IsOrdered (counts : List Counted) : Type 0 where
  pub rises : Rises (numbers (all_posts counts))
  pub most : AtMost (last_post counts) (all_posts counts)
  pub number : last_post counts ≡ length (all_posts counts)
  pub numbered : NumberedBehind 0 (all_posts counts)
  pub lives : (m : MetricId) → IfSome (life_of m counts) (IsLifeOf m counts)

-- ---- an entry more

last_grows : (counts : List Counted) (c : Counted) → MayCount counts c → last_post counts ≤ last_post (counts ++ c ∷ [])
last_grows counts (counted.Create k policy) may = omega (arith, last_post-more counts (counted.Create k policy))
last_grows counts (counted.Post n k measures) may = omega (arith, last_post-more counts (counted.Post n k measures), may.number_is)
last_grows counts (counted.Done k upto) may = omega (arith, last_post-more counts (counted.Done k upto))
last_grows counts (counted.Drop k) may = omega (arith, last_post-more counts (counted.Drop k))

-- the posts to a metric
to-more : (m : MetricId) (counts : List Counted) (c : Counted) → filter (is_to m) (all_posts (counts ++ c ∷ [])) ≡ filter (is_to m) (all_posts counts) ++ filter (is_to m) (posted_by c)
to-more m counts c = ap (filter (is_to m)) (all_posts-more counts c) ∙ filter-append (is_to m) (all_posts counts) (posted_by c)

to_other : (m : MetricId) (c : Counted) → eqb (subject_of c).0 m.0 ≡ false → filter (is_to m) (posted_by c) ≡ []
to_other m (counted.Create k policy) other = refl
to_other m (counted.Post n k measures) other = filter-skip (is_to m) (record { number = n; metric = k; measures = measures }) [] other
to_other m (counted.Done k upto) other = refl
to_other m (counted.Drop k) other = refl

to_same : (m : MetricId) (counts : List Counted) (c : Counted) → filter (is_to m) (posted_by c) ≡ [] → filter (is_to m) (all_posts (counts ++ c ∷ [])) ≡ filter (is_to m) (all_posts counts)
to_same m counts c none = to-more m counts c ∙ ap (λ l. filter (is_to m) (all_posts counts) ++ l) none ∙ append-nil (filter (is_to m) (all_posts counts))

-- a life that stays as it is
stays : (m : MetricId) (counts : List Counted) (c : Counted) (life : Life) → MayCount counts c → filter (is_to m) (posted_by c) ≡ [] → IsLifeOf m counts life → IsLifeOf m (counts ++ c ∷ []) life
stays m counts c life may none h =
    let grows = last_grows counts c may in
    record {
      policy = h.policy;
      done = omega (arith, grows, h.done);
      rises = h.rises;
      most = AtMost-higher (last_post counts) (last_post (counts ++ c ∷ [])) life.posts grows h.most;
      earlier = h.earlier;
      placed = to_same m counts c none ∙ h.placed;
      before = h.before;
    }

pub AtMost-member : (n u : ℕ) (posts : List Posted) → AtMost n posts → Contains (numbers posts) u → u ≤ n
AtMost-member n u [] h c = absurd (Contains-none u c)
AtMost-member n u (p ∷ posts) h c = ⊎_elim (λ is. subst (λ x. x ≤ n) is h.0) (λ later. AtMost-member n u posts h.1 later) (Contains-cases p.number (numbers posts) u c)

pub AtMost-take : (n k : ℕ) (posts : List Posted) → AtMost n posts → AtMost n (take k posts)
AtMost-take n zero posts h = tt
AtMost-take n (suc k) [] h = tt
AtMost-take n (suc k) (p ∷ posts) h = (h.0, AtMost-take n k posts h.1)

module _ (counts : List Counted) (h : IsOrdered counts) where
  created : (m : MetricId) (policy : ArchivePolicy) → IsArchivePolicy policy → IsLifeOf m (counts ++ counted.Create m policy ∷ []) (born policy (last_post counts))
  created m policy is_policy = record {
    policy = is_policy;
    done = omega (arith, last_post-more counts (counted.Create m policy));
    rises = tt;
    most = tt;
    earlier = filter (is_to m) (all_posts counts);
    placed = to_same m counts (counted.Create m policy) refl ∙ sym (append-nil (filter (is_to m) (all_posts counts)));
    before = AtMost-filter (last_post counts) (is_to m) (all_posts counts) h.most;
  }

  posted : (m : MetricId) (n : ℕ) (measures : List Measure) (o : Option Life) → n ≡ last_post counts + 1 → IfSome o (IsLifeOf m counts)
      → IfSome (option_map (life_with (record { number = n; metric = m; measures = measures })) o) (IsLifeOf m (counts ++ counted.Post n m measures ∷ []))
  posted m n measures None is l = tt
  posted m n measures (Some life) is l =
      let p : Posted = record { number = n; metric = m; measures = measures } in
      let c = counted.Post n m measures in
      let last : last_post (counts ++ c ∷ []) ≡ n = last_post-more counts c in
      let most : AtMost (last_post (counts ++ c ∷ [])) life.posts = AtMost-higher (last_post counts) (last_post (counts ++ c ∷ [])) life.posts (omega (arith, last, is)) l.most in
      record {
        policy = l.policy;
        done = omega (arith, last, is, l.done);
        rises = Rises-push (last_post counts) life.posts p l.rises l.most (omega (arith, is));
        most = AtMost-append (last_post (counts ++ c ∷ [])) life.posts (p ∷ []) most (omega (arith, last), tt);
        earlier = l.earlier;
        placed = to-more m counts c ∙ ap (λ x. filter (is_to m) (all_posts counts) ++ x) (filter-keep (is_to m) p [] (eq-eqb m.0 m.0 refl)) ∙ ap (λ x. x ++ p ∷ []) l.placed ∙ append_assoc l.earlier life.posts (p ∷ []);
        before = l.before;
      }

  done : (m : MetricId) (upto : ℕ) (o : Option Life) → Contains (numbers (take 64 (pending_in o))) upto → IfSome o (IsLifeOf m counts)
      → IfSome (option_map (done_up_to upto) o) (IsLifeOf m (counts ++ counted.Done m upto ∷ []))
  done m upto None among l = tt
  done m upto (Some life) among l =
      let c = counted.Done m upto in
      let last : last_post (counts ++ c ∷ []) ≡ last_post counts = last_post-more counts c in
      let later : life.done < upto = Above-member life.done upto (numbers (take 64 (above life.done life.posts))) (Above-take life.done 64 (above life.done life.posts) (above_is life.done life.posts)) among in
      let early : upto ≤ last_post counts = AtMost-member (last_post counts) upto (take 64 (above life.done life.posts)) (AtMost-take (last_post counts) 64 (above life.done life.posts) (AtMost-filter (last_post counts) (λ (p : Posted). ltb life.done p.number) life.posts l.most)) among in
      record {
        policy = l.policy;
        done = omega (arith, last, early);
        rises = l.rises;
        most = AtMost-higher (last_post counts) (last_post (counts ++ c ∷ [])) life.posts (omega (arith, last)) l.most;
        earlier = l.earlier;
        placed = to_same m counts c refl ∙ l.placed;
        before = AtMost-higher life.done upto l.earlier (omega (arith, later)) l.before;
      }

  -- the metric that the entry names
  own_life : (c : Counted) → MayCount counts c → IfSome (life_of (subject_of c) (counts ++ c ∷ [])) (IsLifeOf (subject_of c) (counts ++ c ∷ []))
  own_life (counted.Create m policy) may =
      subst (λ o. IfSome o (IsLifeOf m (counts ++ counted.Create m policy ∷ []))) (sym (life-created m policy counts)) (created m policy may.policy_is)
  own_life (counted.Post n m measures) may =
      subst (λ o. IfSome o (IsLifeOf m (counts ++ counted.Post n m measures ∷ []))) (sym (life-posted m n measures counts)) (posted m n measures (life_of m counts) may.number_is (h.lives m))
  own_life (counted.Done m upto) may =
      subst (λ o. IfSome o (IsLifeOf m (counts ++ counted.Done m upto ∷ []))) (sym (life-done m upto counts)) (done m upto (life_of m counts) may.among (h.lives m))
  own_life (counted.Drop m) may =
      subst (λ o. IfSome o (IsLifeOf m (counts ++ counted.Drop m ∷ []))) (sym (life-dropped m counts)) tt

  other_life : (m : MetricId) (c : Counted) → MayCount counts c → eqb (subject_of c).0 m.0 ≡ false → IfSome (life_of m (counts ++ c ∷ [])) (IsLifeOf m (counts ++ c ∷ []))
  other_life m c may other = subst (λ o. IfSome o (IsLifeOf m (counts ++ c ∷ []))) (sym (life-other m counts c other)) (by (life_of m counts) (h.lives m))
    where
      by : (o : Option Life) → IfSome o (IsLifeOf m counts) → IfSome o (IsLifeOf m (counts ++ c ∷ []))
      by None l = tt
      by (Some life) l = stays m counts c life may (to_other m c other) l

  lives_more : (c : Counted) → MayCount counts c → (m : MetricId) → IfSome (life_of m (counts ++ c ∷ [])) (IsLifeOf m (counts ++ c ∷ []))
  lives_more c may m =
      ⊎_elim
      (λ is. subst (λ x. IfSome (life_of x (counts ++ c ∷ [])) (IsLifeOf x (counts ++ c ∷ []))) (same_id (subject_of c) m is) (own_life c may))
      (λ other. other_life m c may (ne_eqb (subject_of c).0 m.0 other))
      (cases_eq (subject_of c).0 m.0)

  -- an entry that is no post
  no_post : (c : Counted) → MayCount counts c → posted_by c ≡ [] → last_post (counts ++ c ∷ []) ≡ last_post counts → IsOrdered (counts ++ c ∷ [])
  no_post c may none last =
      let same : all_posts (counts ++ c ∷ []) ≡ all_posts counts = all_posts-more counts c ∙ ap (λ l. all_posts counts ++ l) none ∙ append-nil (all_posts counts) in
      record {
        rises = subst (λ l. Rises (numbers l)) (sym same) h.rises;
        most = subst (λ n. AtMost n (all_posts (counts ++ c ∷ []))) (sym last) (subst (AtMost (last_post counts)) (sym same) h.most);
        number = last ∙ h.number ∙ ap length (sym same);
        numbered = subst (NumberedBehind 0) (sym same) h.numbered;
        lives = lives_more c may;
      }

  more : (c : Counted) → MayCount counts c → IsOrdered (counts ++ c ∷ [])
  more (counted.Create m policy) may = no_post (counted.Create m policy) may refl (last_post-more counts (counted.Create m policy))
  more (counted.Done m upto) may = no_post (counted.Done m upto) may refl (last_post-more counts (counted.Done m upto))
  more (counted.Drop m) may = no_post (counted.Drop m) may refl (last_post-more counts (counted.Drop m))
  more (counted.Post n m measures) may =
      let c = counted.Post n m measures in
      let p : Posted = record { number = n; metric = m; measures = measures } in
      let posts : all_posts (counts ++ c ∷ []) ≡ all_posts counts ++ p ∷ [] = all_posts-more counts c in
      let last : last_post (counts ++ c ∷ []) ≡ n = last_post-more counts c in
      let is : n ≡ last_post counts + 1 = may.number_is in
      let most : AtMost n (all_posts counts) = AtMost-higher (last_post counts) n (all_posts counts) (omega (arith, is)) h.most in
      record {
        rises = subst (λ l. Rises (numbers l)) (sym posts) (Rises-push (last_post counts) (all_posts counts) p h.rises h.most (omega (arith, is)));
        most = subst (λ k. AtMost k (all_posts (counts ++ c ∷ []))) (sym last) (subst (AtMost n) (sym posts) (AtMost-append n (all_posts counts) (p ∷ []) most (omega arith, tt)));
        number = last ∙ omega (arith, is, h.number, length-append (all_posts counts) (p ∷ [])) ∙ ap length (sym posts);
        numbered = subst (NumberedBehind 0) (sym posts) (numbered-push 0 (all_posts counts) p h.numbered (omega (arith, is, h.number)));
        lives = lives_more c may;
      }

pub ordered : (counts : List Counted) → IsLegalCount counts → IsOrdered counts
ordered counts legal =
    induction MayCount IsOrdered (record { rises = tt; most = tt; number = refl; numbered = tt; lives = λ m. tt }) (λ xs c l h may. more xs h c may) counts legal
