-- The part of a room that holds bytes, after a move, a skip and a read.
use Rattle.std.proofs.Common.{◌≡◌, ℕ, ◌+◌, ◌-◌, ◌≤◌, List, ◌++◌, length, take, drop, slice_range, refl, ap, ◌∙◌, Option, Result, Ok, Err, IfOk, arith, length-take, length-drop, length-append}
use Rattle.std.specs.Io.KnownBytes.{ReadConsumes, Consumes}
use Rattle.std.proofs.lemmas.List.{drop-take, take-append-le, length-take-le, drop-drop}
use Rattle.std.proofs.Math.Seq.{take-append-add, take-append_seam}

pub skipped : (xs : List ℕ) (start end count : ℕ) → count ≤ end - start
    → slice_range xs (start + count) end ≡ drop count (slice_range xs start end)
skipped xs start end count few =
    let m = end - (start + count) in
    let whole : end - start ≡ count + m = omega arith in
    rw (whole, drop-take count m (drop start xs), drop-drop) refl

pub length-part : (xs : List ℕ) (start end : ℕ) → start ≤ end → end ≤ length xs → length (slice_range xs start end) ≡ end - start
length-part xs start end ordered inside =
    omega (arith, length-take (end - start) (drop start xs), length-drop start xs)

pub filled : (xs ys more part : List ℕ) (held count : ℕ) → held ≤ length xs → count ≤ length ys → take held xs ≡ part
    → take (held + count) (take held xs ++ (ys ++ more)) ≡ part ++ take count ys
filled xs ys more part held count inside few same =
    let len : length (take held xs) ≡ held = length-take-le held xs inside in
    let n : held + count ≡ length (take held xs) + count = omega arith in
    rw (n, take-append-add (take held xs) (ys ++ more) count, take-append-le count ys more few) (ap (λ (l : List ℕ). l ++ take count ys) same)

pub untouched : (xs ys part : List ℕ) (held : ℕ) → held ≤ length xs → take held xs ≡ part → take held (take held xs ++ ys) ≡ part
untouched xs ys part held inside same =
    let len : length (take held xs) ≡ held = length-take-le held xs inside in
    let whole : take (length (take held xs)) (take held xs ++ ys) ≡ take held xs = take-append_seam (take held xs) ys in
    rw len at whole ∙ same

-- what a read adds behind the part that is held
pub refilled : {E : Type 0} (before after : Option (List ℕ)) (r : Result ℕ E) (xs ys more part : List ℕ) (held most : ℕ) → held ≤ length xs
    → take held xs ≡ part → length ys ≡ most → IfOk r (λ n. n ≤ most) → ReadConsumes before after r ys
    → IfOk r (λ n. (piece : List ℕ) × (length piece ≡ n) × Consumes before after piece × (take (held + n) (take held xs ++ (ys ++ more)) ≡ part ++ piece))
refilled before after (Ok n) xs ys more part held most inside same len bound bytes =
    let few : n ≤ length ys = omega arith in
    (take n ys, length-take-le n ys few, bytes.0, filled xs ys more part held n inside few same)
refilled before after (Err e) xs ys more part held most inside same len bound bytes = tt

pub length-patched : (xs ys : List ℕ) (a n : ℕ) → a ≤ length xs → length ys ≡ length (take n (drop a xs))
    → length (take a xs ++ (ys ++ drop n (drop a xs))) ≡ length xs
length-patched xs ys a n inside same =
    let b = length-append (take a xs) (ys ++ drop n (drop a xs)) in
    let d = length-append ys (drop n (drop a xs)) in
    omega (arith, length-take {A = ℕ}, length-drop {A = ℕ})
