-- A definition put in its place.
use Rattle.std.proofs.Common.{◌≡◌, ℕ, zero, suc, ◌<◌, ◌≤◌, List, [], ◌∷◌, length, take, get_or, refl, ap, subst, arith}
use Rattle.std.specs.List.{All, insert}
use Rattle.std.proofs.lemmas.Bool.{lt-ltb, le-ltb}
use Rattle.std.proofs.lemmas.List.Elements.{All-head, All-tail}
use Rattle.archive_policy.specs.declared.definition.Definition.{Definition}
use Rattle.archive_policy.specs.Policies.{put}

-- the place in front of which no granularity is larger, and at which one is
pub insert_put : (ds : List Definition) (i : ℕ) (d : Definition) → i ≤ length ds → All (λ (x : Definition). x.granularity ≤ d.granularity) (take i ds) → (i < length ds → (e : Definition) × (e ≡ get_or ds i e) × (d.granularity < e.granularity)) → insert ds i d ≡ put ds d
insert_put [] zero d within below above = refl
insert_put [] (suc i) d within below above = absurd (omega arith)
insert_put (x ∷ ds) zero d within below above = let here = above (omega arith) in
    let P : Definition → Type 0 = λ y. d.granularity < y.granularity in
    rw (lt-ltb d.granularity x.granularity (subst P here.1 here.2)) refl
insert_put (x ∷ ds) (suc i) d within below above =
    let P : Definition → Type 0 = λ y. y.granularity ≤ d.granularity in
    rw (le-ltb d.granularity x.granularity (All-head P x (take i ds) below)) (ap (λ rest. x ∷ rest) (insert_put ds i d (omega arith) (All-tail P x (take i ds) below) (λ inside. above (omega arith))))
