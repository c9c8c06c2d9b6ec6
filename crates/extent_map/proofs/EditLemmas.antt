-- What becomes of free ranges, and of the places outside of them, when some give way to others.
use Rattle.std.proofs.Common.{◌≡◌, ℕ, ◌+◌, ◌-◌, ◌<◌, ◌≤◌, ◌⊎◌, inl, inr, List, [], ◌∷◌, ◌++◌, get_or, ⊎_elim, arith}
use Rattle.std.specs.List.{All, AllPairs}
use Rattle.std.proofs.lemmas.List.Elements.{All-nil, All-cons, All-head, All-tail, All-append}
use Rattle.extent_map.specs.Ranges.{AreFreeRanges, EndsBefore, LiesIn, LiesOutside}
use Rattle.extent_map.specs.Extents.{without_front}
use Rattle.std.proofs.lemmas.Bool.{lt-leb, le-leb}
use Rattle.extent_map.specs.Edits.{Cuts, Joins}
use Rattle.extent_map.proofs.RangeLemmas.{All-left, All-right, pairs-left, pairs-right, pairs-across, pairs-append, pairs-head, pairs-tail}

one : {X : Type 0} (P : X → Type 0) (x : X) → P x → All P (x ∷ [])
one P x h = All-cons P x [] h (All-nil P)

swapped : {X : Type 0} (P : X → Type 0) (a mids pieces b : List X) → All P (a ++ (mids ++ b)) → All P pieces → All P (a ++ (pieces ++ b))
swapped P a mids pieces b h new =
    All-append P a (pieces ++ b) (All-left P a (mids ++ b) h) (All-append P pieces b new (All-right P mids b (All-right P a (mids ++ b) h)))

middle : {X : Type 0} (P : X → Type 0) (a mids b : List X) → All P (a ++ (mids ++ b)) → All P mids
middle P a mids b h = All-left P mids b (All-right P a (mids ++ b) h)

-- ranges between others give way to pieces that are apart from those
pub replaced_form : (end : ℕ) (a mids pieces b : List (ℕ × ℕ)) → AreFreeRanges end (a ++ (mids ++ b)) → AreFreeRanges end pieces → All (λ r. All (EndsBefore r) pieces) a → All (λ p. All (EndsBefore p) b) pieces → AreFreeRanges end (a ++ (pieces ++ b))
replaced_form end a mids pieces b old new before behind =
    record {
      filled = swapped (λ (r : ℕ × ℕ). 0 < r.1) a mids pieces b old.filled new.filled;
      below = swapped (λ (r : ℕ × ℕ). r.0 + r.1 ≤ end) a mids pieces b old.below new.below;
      apart = pairs-append EndsBefore a (pieces ++ b)
          (pairs-left EndsBefore a (mids ++ b) old.apart)
          (pairs-append EndsBefore pieces b new.apart (pairs-right EndsBefore mids b (pairs-right EndsBefore a (mids ++ b) old.apart)) behind)
          (λ k d h. All-append (EndsBefore (get_or a k d)) pieces b (before k d h) (All-right (EndsBefore (get_or a k d)) mids b (pairs-across EndsBefore a (mids ++ b) old.apart k d h)));
    }

-- ranges between others give way to one that holds their places and those of a range
pub joins_case : (a mids b : List (ℕ × ℕ)) (n range : ℕ × ℕ) → 0 < n.1 → ((end : ℕ) → range.0 + range.1 ≤ end → AreFreeRanges end (a ++ (mids ++ b)) → n.0 + n.1 ≤ end) → All (λ r. EndsBefore r n) a → All (EndsBefore n) b → ((p : ℕ) → LiesOutside p n → All (LiesOutside p) mids × LiesOutside p range) → ((p : ℕ) → All (LiesOutside p) mids → LiesOutside p range → LiesOutside p n) → Joins range (a ++ (mids ++ b)) (a ++ n ∷ b)
joins_case a mids b n range filled below before behind to from =
    record {
      form = λ end within old. replaced_form end a mids (n ∷ []) b old
          (record {
            filled = one (λ (r : ℕ × ℕ). 0 < r.1) n filled;
            below = one (λ (r : ℕ × ℕ). r.0 + r.1 ≤ end) n (below end within old);
            apart = λ i j d rise short. absurd (omega arith);
          })
          (λ k d h. one (EndsBefore (get_or a k d)) n (before k d h))
          (one (λ p. All (EndsBefore p) b) n behind);
      outside = λ p. (
        (λ h. let w = to p (All-head (LiesOutside p) n [] (middle (LiesOutside p) a (n ∷ []) b h)) in
            (swapped (LiesOutside p) a (n ∷ []) mids b h w.0, w.1)),
        (λ h. swapped (LiesOutside p) a mids (n ∷ []) b h.0 (one (LiesOutside p) n (from p (middle (LiesOutside p) a mids b h.0) h.1))),
      );
    }

pub joins_alone : (a b : List (ℕ × ℕ)) (range : ℕ × ℕ) → 0 < range.1 → All (λ r. EndsBefore r range) a → All (EndsBefore range) b → Joins range (a ++ b) (a ++ range ∷ b)
joins_alone a b range filled before behind =
    joins_case a [] b range range filled (λ end within old. within) before behind (λ p h. (All-nil (LiesOutside p), h)) (λ p none h. h)

-- what is outside of a range is outside of each part of it
outside_part : (p : ℕ) (r n : ℕ × ℕ) → n.0 ≤ r.0 → r.0 + r.1 ≤ n.0 + n.1 → LiesOutside p n → LiesOutside p r
outside_part p r n low high h = ⊎_elim (λ before. inl (omega arith)) (λ behind. inr (omega arith)) h

-- what is outside of two ranges that touch is outside of both together
outside_both : (p : ℕ) (r s n : ℕ × ℕ) → r.0 + r.1 ≡ s.0 → n.0 ≡ r.0 → n.0 + n.1 ≡ s.0 + s.1 → LiesOutside p r → LiesOutside p s → LiesOutside p n
outside_both p r s n touch low high here there =
    ⊎_elim (λ before. inl (omega arith)) (λ behind. ⊎_elim (λ first. absurd (omega arith)) (λ last. inr (omega arith)) there) here

-- joined with the range before it
pub joins_before : (a b : List (ℕ × ℕ)) (x : ℕ × ℕ) (at len : ℕ) → AllPairs EndsBefore (a ++ x ∷ b) → 0 < len → x.0 + x.1 ≡ at → All (λ (s : ℕ × ℕ). at + len < s.0) b → Joins (at, len) (a ++ x ∷ b) (a ++ (x.0, x.1 + len) ∷ b)
joins_before a b x at len apart filled ends behind =
    joins_case a (x ∷ []) b (x.0, x.1 + len) (at, len) (omega arith) (λ end within old. omega arith)
    (λ k d h. All-head (EndsBefore (get_or a k d)) x b (pairs-across EndsBefore a (x ∷ b) apart k d h))
    (λ k d h. omega (arith, behind k d h))
    (λ p h. (one (LiesOutside p) x (outside_part p x (x.0, x.1 + len) (omega arith) (omega arith) h), outside_part p (at, len) (x.0, x.1 + len) (omega arith) (omega arith) h))
    (λ p here there. outside_both p x (at, len) (x.0, x.1 + len) (omega arith) (omega arith) (omega arith) (All-head (LiesOutside p) x [] here) there)

-- joined with the range behind it
pub joins_behind : (a b : List (ℕ × ℕ)) (y : ℕ × ℕ) (at len : ℕ) → AllPairs EndsBefore (a ++ y ∷ b) → 0 < len → y.0 ≡ at + len → All (λ (r : ℕ × ℕ). r.0 + r.1 < at) a → Joins (at, len) (a ++ y ∷ b) (a ++ (at, len + y.1) ∷ b)
joins_behind a b y at len apart filled begins before =
    joins_case a (y ∷ []) b (at, len + y.1) (at, len) (omega arith)
    (λ end within old. omega (arith, All-head (λ (r : ℕ × ℕ). r.0 + r.1 ≤ end) y b (All-right (λ (r : ℕ × ℕ). r.0 + r.1 ≤ end) a (y ∷ b) old.below)))
    before
    (λ k d h. omega (arith, pairs-head EndsBefore y b (pairs-right EndsBefore a (y ∷ b) apart) k d h))
    (λ p h. (one (LiesOutside p) y (outside_part p y (at, len + y.1) (omega arith) (omega arith) h), outside_part p (at, len) (at, len + y.1) (omega arith) (omega arith) h))
    (λ p here there. outside_both p (at, len) y (at, len + y.1) (omega arith) (omega arith) (omega arith) there (All-head (LiesOutside p) y [] here))

-- joined with the ranges on both sides
pub joins_both : (a b : List (ℕ × ℕ)) (x y : ℕ × ℕ) (at len : ℕ) → AllPairs EndsBefore (a ++ x ∷ y ∷ b) → 0 < len → x.0 + x.1 ≡ at → y.0 ≡ at + len → Joins (at, len) (a ++ x ∷ y ∷ b) (a ++ (x.0, x.1 + len + y.1) ∷ b)
joins_both a b x y at len apart filled ends begins =
    let n : ℕ × ℕ = (x.0, x.1 + len + y.1) in
    joins_case a (x ∷ y ∷ []) b n (at, len) (omega arith)
    (λ end within old. omega (arith, All-head (λ (r : ℕ × ℕ). r.0 + r.1 ≤ end) y b (All-tail (λ (r : ℕ × ℕ). r.0 + r.1 ≤ end) x (y ∷ b) (All-right (λ (r : ℕ × ℕ). r.0 + r.1 ≤ end) a (x ∷ y ∷ b) old.below))))
    (λ k d h. All-head (EndsBefore (get_or a k d)) x (y ∷ b) (pairs-across EndsBefore a (x ∷ y ∷ b) apart k d h))
    (λ k d h. omega (arith, pairs-head EndsBefore y b (pairs-tail EndsBefore x (y ∷ b) (pairs-right EndsBefore a (x ∷ y ∷ b) apart)) k d h))
    (λ p h. (
      All-cons (LiesOutside p) x (y ∷ []) (outside_part p x n (omega arith) (omega arith) h) (one (LiesOutside p) y (outside_part p y n (omega arith) (omega arith) h)),
      outside_part p (at, len) n (omega arith) (omega arith) h,
    ))
    (λ p here there.
    outside_both p x (at, len + y.1) n (omega arith) (omega arith) (omega arith)
    (All-head (LiesOutside p) x (y ∷ []) here)
    (outside_both p (at, len) y (at, len + y.1) (omega arith) (omega arith) (omega arith) there (All-head (LiesOutside p) y [] (All-tail (LiesOutside p) x (y ∷ []) here))))

-- a range gives way to pieces of it that hold its places but those of the range taken
pub cuts_case : (a pieces b : List (ℕ × ℕ)) (m range : ℕ × ℕ) → m.0 ≤ range.0 → range.0 + range.1 ≤ m.0 + m.1 → AllPairs EndsBefore (a ++ m ∷ b) → All (λ (p : ℕ × ℕ). (m.0 ≤ p.0) × (p.0 + p.1 ≤ m.0 + m.1) × (0 < p.1)) pieces → AllPairs EndsBefore pieces → ((p : ℕ) → All (LiesOutside p) pieces → LiesOutside p m ⊎ LiesIn p range) → ((p : ℕ) → LiesIn p range → All (LiesOutside p) pieces) → Cuts range (a ++ m ∷ b) (a ++ (pieces ++ b))
cuts_case a pieces b m range low high apart parts parted to from =
    record {
      form = λ end old. replaced_form end a (m ∷ []) pieces b old
          (record {
            filled = λ k d h. (parts k d h).2;
            below = λ k d h. omega (arith, parts k d h, All-head (λ (r : ℕ × ℕ). r.0 + r.1 ≤ end) m b (All-right (λ (r : ℕ × ℕ). r.0 + r.1 ≤ end) a (m ∷ b) old.below));
            apart = parted;
          })
          (λ k d h i e g. omega (arith, parts i e g, All-head (EndsBefore (get_or a k d)) m b (pairs-across EndsBefore a (m ∷ b) apart k d h)))
          (λ i e g k d h. omega (arith, parts i e g, pairs-head EndsBefore m b (pairs-right EndsBefore a (m ∷ b) apart) k d h));
      outside = λ p. (
        (λ h. ⊎_elim
            (λ whole. inl (swapped (LiesOutside p) a pieces (m ∷ []) b h (one (LiesOutside p) m whole)))
            (λ taken. inr taken)
            (to p (middle (LiesOutside p) a pieces b h))),
        (λ h. ⊎_elim
            (λ old. swapped (LiesOutside p) a (m ∷ []) pieces b old (λ k d g. outside_part p (get_or pieces k d) m (parts k d g).0 (parts k d g).1 (All-head (LiesOutside p) m [] (middle (LiesOutside p) a (m ∷ []) b old))))
            (λ taken. All-append (LiesOutside p) a (pieces ++ b)
            (λ k d g. inr (omega (arith, taken, All-head (EndsBefore (get_or a k d)) m b (pairs-across EndsBefore a (m ∷ b) apart k d g))))
            (All-append (LiesOutside p) pieces b (from p taken) (λ k d g. inl (omega (arith, taken, pairs-head EndsBefore m b (pairs-right EndsBefore a (m ∷ b) apart) k d g)))))
            h),
      );
    }

-- what is left of a range that has more places than are taken, and of one that has no more
pub left_over : (len : ℕ) (x : ℕ × ℕ) → len < x.1 → without_front len x ≡ (x.0 + len, x.1 - len) ∷ []
left_over len x more = rw (lt-leb x.1 len more)

pub left_none : (len : ℕ) (x : ℕ × ℕ) → x.1 ≤ len → without_front len x ≡ []
left_none len x none = rw (le-leb x.1 len none)
