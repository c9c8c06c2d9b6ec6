-- Pieces appended one after another.
use Rattle.std.proofs.Common.{◌≡◌, ℕ, suc, ◌+◌, ◌<◌, List, [], ◌∷◌, ◌++◌, length, get_or, take, refl, sym, ap, ◌∙◌, append_assoc, append-nil, subst, arith, All}
use Rattle.std.proofs.lemmas.List.{take_more}
use Rattle.std.proofs.lemmas.List.Elements.{All-get_or}
use Rattle.std.specs.List.{flat_map}

pub appended2 : (t0 a b : List ℕ) {t1 t2 : List ℕ} → t1 ≡ t0 ++ a → t2 ≡ t1 ++ b → t2 ≡ t0 ++ (a ++ b)
appended2 t0 a b e1 e2 = e2 ∙ ap (λ t. t ++ b) e1 ∙ append_assoc t0 a b

pub appended3 : (t0 a b c : List ℕ) {t1 t2 t3 : List ℕ} → t1 ≡ t0 ++ a → t2 ≡ t1 ++ b → t3 ≡ t2 ++ c → t3 ≡ t0 ++ ((a ++ b) ++ c)
appended3 t0 a b c e1 e2 e3 = appended2 t0 (a ++ b) c (appended2 t0 a b e1 e2) e3

pub appended4 : (t0 a b c d : List ℕ) {t1 t2 t3 t4 : List ℕ} → t1 ≡ t0 ++ a → t2 ≡ t1 ++ b → t3 ≡ t2 ++ c → t4 ≡ t3 ++ d → t4 ≡ t0 ++ (((a ++ b) ++ c) ++ d)
appended4 t0 a b c d e1 e2 e3 e4 = appended2 t0 ((a ++ b) ++ c) d (appended3 t0 a b c e1 e2 e3) e4

pub appended5 : (t0 a b c d e : List ℕ) {t1 t2 t3 t4 t5 : List ℕ} → t1 ≡ t0 ++ a → t2 ≡ t1 ++ b → t3 ≡ t2 ++ c → t4 ≡ t3 ++ d → t5 ≡ t4 ++ e → t5 ≡ t0 ++ ((((a ++ b) ++ c) ++ d) ++ e)
appended5 t0 a b c d e e1 e2 e3 e4 e5 = appended2 t0 (((a ++ b) ++ c) ++ d) e (appended4 t0 a b c d e1 e2 e3 e4) e5

pub flat_map-more : {X : Type 0} (f : X → List ℕ) (xs ys : List X) → flat_map f (xs ++ ys) ≡ flat_map f xs ++ flat_map f ys
flat_map-more f [] ys = refl
flat_map-more f (x ∷ xs) ys = ap (λ t. f x ++ t) (flat_map-more f xs ys) ∙ sym (append_assoc (f x) (flat_map f xs) (flat_map f ys))

-- one more item behind a comma
pub appended_item : {X : Type 0} (text : X → List ℕ) (xs : List X) (i : ℕ) (x : X) (t0 t1 t2 t3 : List ℕ) → i < length xs → x ≡ get_or xs i x
    → t1 ≡ t0 ++ flat_map (λ y. 44 ∷ text y) (take i xs) → t2 ≡ t1 ++ 44 ∷ [] → t3 ≡ t2 ++ text x
    → t3 ≡ t0 ++ flat_map (λ y. 44 ∷ text y) (take (i + 1) xs)
appended_item text xs i x t0 t1 t2 t3 inside is before comma item =
    let whole : flat_map (λ y. 44 ∷ text y) (take (i + 1) xs) ≡ flat_map (λ y. 44 ∷ text y) (take i xs) ++ 44 ∷ text x =
    ap (flat_map (λ y. 44 ∷ text y)) (take_more xs i x inside ∙ ap (λ y. take i xs ++ y ∷ []) (sym is)) ∙ flat_map-more (λ y. 44 ∷ text y) (take i xs) (x ∷ []) ∙ ap (λ t. flat_map (λ y. 44 ∷ text y) (take i xs) ++ t) (append-nil (44 ∷ text x)) in
    appended3 t0 (flat_map (λ y. 44 ∷ text y) (take i xs)) (44 ∷ []) (text x) before comma item ∙ ap (λ t. t0 ++ t) (append_assoc (flat_map (λ y. 44 ∷ text y) (take i xs)) (44 ∷ []) (text x) ∙ sym whole)

-- what holds of each item holds of one behind the first
pub all_behind : {X : Type 0} (P : X → Type 0) (whole others : List X) (first : X) (i : ℕ) (x : X) → whole ≡ first ∷ others → All P whole → i < length others → x ≡ get_or others i x → P x
all_behind P whole others first i x split each inside is =
    subst P (sym is) (All-get_or P (first ∷ others) (suc i) x (omega arith) (subst (All P) split each))

-- a text that was written into an empty buffer, appended
pub handed : (old : List ℕ) {new piece written start text value : List ℕ} → new ≡ old ++ piece → piece ≡ written → written ≡ start ++ text → start ≡ [] → text ≡ value → new ≡ old ++ value
handed old {text = text} appended same wrote empty is =
    appended ∙ ap (λ t. old ++ t) (same ∙ wrote ∙ ap (λ t. t ++ text) empty ∙ is)
