-- What a post, a creating and a drop do to the posts of a metric.
use Rattle.std.proofs.Common.{◌≡◌, ℕ, ◌<◌, true, leb, ltb, List, [], ◌∷◌, ◌++◌, map, Option, Some, None, refl, ap, ◌∙◌, append-nil, arith}
use Rattle.std.specs.Option.{IfSome, is_some, option_map}
use Rattle.std.proofs.lemmas.Bool.{false≢true}
use Rattle.std.proofs.lemmas.List.Elements.{filter-append}
use Rattle.archive_policy.specs.Policies.{ArchivePolicy}
use Rattle.series_model.specs.declared.measure.Measure.{Measure}
use Rattle.series_model.specs.declared.metric.MetricId.{MetricId}
use Rattle.sack_history.specs.declared.entry.Counted.TheVariants as counted
use Rattle.sack_history.specs.declared.entry.Counted.{Counted}
use Rattle.sack_history.specs.Legal.{IsLegalCount, MayPost}
use Rattle.sack_history.specs.Lives.{Life, Posted, batches_in, batches_of, life_of, live_policy, pending_in, pending_of, life_with}
use Rattle.sack_history.proofs.Living.{life-created, life-posted}
use Rattle.sack_history.proofs.Numbers.{above, above-all, up_to, up_to-none}
use Rattle.sack_history.proofs.Ordered.{IsLifeOf, ordered}

-- a post that a life has behind its done number
batches_with : (p : Posted) (o : Option Life) → IfSome o (λ life. life.done < p.number) → batches_in (option_map (life_with p) o) ≡ batches_in o
batches_with p None lt = refl
batches_with p (Some life) lt =
    ap (map (λ (q : Posted). q.measures))
    (filter-append (λ (q : Posted). leb q.number life.done) life.posts (p ∷ [])
    ∙ ap (λ l. up_to life.done life.posts ++ l) (up_to-none life.done (p ∷ []) (lt, tt))
    ∙ append-nil (up_to life.done life.posts))

pending_with : (p : Posted) (o : Option Life) → is_some o ≡ true → IfSome o (λ life. life.done < p.number) → pending_in (option_map (life_with p) o) ≡ pending_in o ++ p ∷ []
pending_with p None some lt = absurd (false≢true some)
pending_with p (Some life) some lt =
    filter-append (λ (q : Posted). ltb life.done q.number) life.posts (p ∷ [])
    ∙ ap (λ l. above life.done life.posts ++ l) (above-all life.done (p ∷ []) (lt, tt))

policy_with : (p : Posted) (o : Option Life) → option_map (λ (life : Life). life.policy) (option_map (life_with p) o) ≡ option_map (λ (life : Life). life.policy) o
policy_with p None = refl
policy_with p (Some life) = refl

module _ (m : MetricId) (number : ℕ) (measures : List Measure) (counts : List Counted) (legal : IsLegalCount counts) (may : MayPost counts number m measures) where
  abbrev post : Posted
  post = record { number = number; metric = m; measures = measures }

  abbrev later : List Counted
  later = counts ++ counted.Post number m measures ∷ []

  pub behind : IfSome (life_of m counts) (λ (life : Life). life.done < post.number)
  behind = by (life_of m counts) ((ordered counts legal).lives m)
    where
      by : (o : Option Life) → IfSome o (IsLifeOf m counts) → IfSome o (λ (life : Life). life.done < number)
      by None l = tt
      by (Some life) l = omega (arith, l.done, may.number_is)

  pub batches-posted : batches_of m later ≡ batches_of m counts
  batches-posted = ap batches_in (life-posted m number measures counts) ∙ batches_with post (life_of m counts) behind

  pub pending-posted : pending_of m later ≡ pending_of m counts ++ post ∷ []
  pending-posted = ap pending_in (life-posted m number measures counts) ∙ pending_with post (life_of m counts) may.live behind

  pub policy-posted : live_policy m later ≡ live_policy m counts
  policy-posted = ap (option_map (λ (life : Life). life.policy)) (life-posted m number measures counts) ∙ policy_with post (life_of m counts)

  pub live-posted : is_some (life_of m later) ≡ true
  live-posted = ap is_some (life-posted m number measures counts) ∙ by (life_of m counts) may.live
    where
      by : (o : Option Life) → is_some o ≡ true → is_some (option_map (life_with post) o) ≡ true
      by None some = some
      by (Some life) some = refl

-- a metric starts empty
pub batches-created : (m : MetricId) (policy : ArchivePolicy) (counts : List Counted) → batches_of m (counts ++ counted.Create m policy ∷ []) ≡ []
batches-created m policy counts = ap batches_in (life-created m policy counts)

pub pending-created : (m : MetricId) (policy : ArchivePolicy) (counts : List Counted) → pending_of m (counts ++ counted.Create m policy ∷ []) ≡ []
pending-created m policy counts = ap pending_in (life-created m policy counts)
