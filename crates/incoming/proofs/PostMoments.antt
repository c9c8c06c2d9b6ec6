-- What a stop in a post leaves.
use Rattle.std.proofs.Common.{◌≡◌, ◌⊎◌, inl, inr, ℕ, ◌+◌, ◌<◌, ◌≤◌, Bool, true, false, ◌||◌, List, [], ◌∷◌, ◌++◌, Option, Some, None, refl, sym, ap, subst, ◌∙◌, arith}
use Rattle.std.specs.Option.{IfSome, option_map}
use Rattle.std.proofs.lemmas.Option.{IfSome_then}
use Rattle.gno_disk.specs.Phases.{EachMoment, phase}
use Rattle.gno_disk.specs.declared.disk.Disk.{Ghosts}
use Rattle.gno_disk.proofs.PhaseLemmas.{EachMoment-two, EachMoment-weaker}
use Rattle.log_pair.specs.PairView.{AreOldOrAdded, IsLastingPair, OfTwo, PairView, pair_phases}
use Rattle.incoming.specs.declared.contents.Contents.{Contents}
use Rattle.incoming.specs.Contents.{AreOf}
use Rattle.incoming.specs.Inside.{posts_in}
use Rattle.incoming.specs.Posts.{HasRecord, HoldsIncoming, Post, post_record}
use Rattle.incoming.proofs.Held.{held_told, posted_told}

pub or_false : (a b : Bool) → (a || b) ≡ false → (a ≡ false) × (b ≡ false)
or_false true b e = absurd cc
or_false false b e = (refl, e)

two_weaker : (P Q : List ℕ → List ℕ → Type 0) → ((a b : List ℕ) → P a b → Q a b) → (images : List (List ℕ)) → OfTwo P images → OfTwo Q images
two_weaker P Q has [] p = p
two_weaker P Q has (a ∷ []) p = p
two_weaker P Q has (a ∷ b ∷ []) p = has a b p
two_weaker P Q has (a ∷ b ∷ x ∷ images) p = p

module _ {D : Type 0} (g : Ghosts D) where
  -- of disks that stand still
  pub still_moments : (only_now : (disk : D) (image : List ℕ) → g.left_since disk (g.moment disk) image → g.may_leave disk image) (d e : D) (P : List ℕ → List ℕ → Type 0)
      → ((a b : List ℕ) → g.may_leave d a → g.may_leave e b → P a b) → EachMoment g (phase d d ∷ phase e e ∷ []) (OfTwo P)
  still_moments only_now d e P has = EachMoment-two g (phase d d) (phase e e) (OfTwo P) (omega arith) (omega arith)
      (λ x y left left_too. has x y (only_now d x left) left_too)
      (λ x y left left_too. has x y left (only_now e y left_too))

  module _ (old : PairView D) (c : Contents) (post : Post) (role : old.place.role ≡ 2) (are : IfSome old.records (AreOf c)) where
    abbrev Posted : List ℕ → List ℕ → Type 0
    Posted a b = IfSome (option_map posts_in old.records) (λ posts. HoldsIncoming old.place posts c.next a b ⊎ HoldsIncoming old.place (posts ++ post ∷ []) (c.next + 1) a b)

    pub still_posted : (only_now : (disk : D) (image : List ℕ) → g.left_since disk (g.moment disk) image → g.may_leave disk image) → IsLastingPair g old
        → EachMoment g (phase old.first old.first ∷ phase old.second old.second ∷ []) (OfTwo (λ a b. IfSome (option_map posts_in old.records) (λ posts. HoldsIncoming old.place posts c.next a b ⊎ HoldsIncoming old.place (posts ++ post ∷ []) (c.next + 1) a b)))
    still_posted only_now lasting = still_moments only_now old.first old.second Posted
        (λ a b left left_too. IfSome_then (option_map posts_in old.records) (held_told c old.place old.epoch role old.records a b are (lasting a b left left_too)) (λ posts held. inl held))

    pub post_moments : (first second : D) (body : List ℕ) → body ≡ post_record post → HasRecord post → post.number ≡ c.next
        → EachMoment g (phase old.first first ∷ phase old.second second ∷ []) (OfTwo (AreOldOrAdded old body))
        → EachMoment g (phase old.first first ∷ phase old.second second ∷ []) (OfTwo (λ a b. IfSome (option_map posts_in old.records) (λ posts. HoldsIncoming old.place posts c.next a b ⊎ HoldsIncoming old.place (posts ++ post ∷ []) (c.next + 1) a b)))
    post_moments first second body is has number moments =
        EachMoment-weaker g (phase old.first first ∷ phase old.second second ∷ []) (OfTwo (AreOldOrAdded old body)) (OfTwo Posted)
        (two_weaker (AreOldOrAdded old body) Posted (λ a b held. posted_told c old.place old.epoch role old.records post body a b are is has number held)) moments
