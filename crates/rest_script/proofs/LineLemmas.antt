-- Where the first line of some bytes ends.
use Rattle.std.proofs.Common.{◌≡◌, ◌≢◌, ◌==◌, ℕ, suc, ◌+◌, ◌-◌, ◌<◌, ◌≤◌, ltb, Bool, true, false, List, [], ◌∷◌, ◌++◌, length, get_or, take, drop, refl, sym, ap, subst, ◌∙◌, arith, length-take, length-drop, take-append-drop, append_assoc}
use Rattle.std.specs.List.{All}
use Rattle.std.proofs.lemmas.Bool.Decides.{nat_tests}
use Rattle.std.proofs.lemmas.List.{get_or-take, get_or-drop, take_all, length-take-le}
use Rattle.std.proofs.lemmas.List.Elements.{All-from_get_or, All-take}
use Rattle.std.proofs.Math.Seq.{drop-cons}
use Rattle.memchr.specs.Find.{Nowhere, NoneBefore, Passes, is_byte}
use Rattle.rest_script.specs.Lines.{BeginsWithLine, IsLine, IsLong}

-- no line feed is in the bytes
abbrev pub NoFeed : List ℕ → Type 0
NoFeed bytes = All (λ b. b ≢ 10) bytes

-- it is among the first ones, or behind them
below_or_behind : (i n : ℕ) (P : Type 0) → (i < n → P) → (n ≤ i → P) → P
below_or_behind i n P low high = by (ltb i n) refl
  where
    by : (v : Bool) → ltb i n ≡ v → P
    by true e = low (grind (arith, nat_tests))
    by false e = high (grind (arith, nat_tests))

-- none is in the first bytes where none is in the searched ones, nor in those behind them
no_feed_upto : (bytes : List ℕ) (searched n : ℕ) → n ≤ length bytes → NoFeed (take searched bytes)
    → ((k : ℕ) → searched + k < n → get_or (drop searched bytes) k 0 ≢ 10) → NoFeed (take n bytes)
no_feed_upto bytes searched n inside before behind =
    let fits : length (take n bytes) ≡ n = length-take-le n bytes inside in
    All-from_get_or (λ b. b ≢ 10) (take n bytes) 0 (λ i h.
    let low : i < n = omega (arith, fits) in
    below_or_behind i searched (get_or (take n bytes) i 0 ≢ 10)
    (λ first e. before i 0 (omega (arith, length-take searched bytes, inside, low, first)) (get_or-take searched bytes i 0 first ∙ sym (get_or-take n bytes i 0 low) ∙ e))
    (λ later e.
    let at : searched + (i - searched) ≡ i = omega arith in
    behind (i - searched) (omega arith)
    (get_or-drop searched bytes (i - searched) 0 ∙ ap (λ j. get_or bytes j 0) at ∙ sym (get_or-take n bytes i 0 low) ∙ e)))

no_byte : (b : ℕ) → (is_byte 10 b ≡ true → ⊥) → b ≢ 10
no_byte b none e = none (let same : (b == 10) ≡ true = grind (arith, nat_tests) in same)

byte_is : (b : ℕ) → is_byte 10 b ≡ true → b ≡ 10
byte_is b e = grind (arith, nat_tests)

-- what was found is where the first line feed is
abbrev pub EndsAt : List ℕ → ℕ → Type 0
EndsAt bytes at = (at < length bytes) × NoFeed (take at bytes) × (bytes ≡ take at bytes ++ 10 ∷ drop (at + 1) bytes)

pub found_end : (bytes : List ℕ) (searched : ℕ) → searched ≤ length bytes → NoFeed (take searched bytes) → (at : ℕ)
    → NoneBefore (Passes (is_byte 10) (drop searched bytes)) 0 (length (drop searched bytes)) at → Passes (is_byte 10) (drop searched bytes) at
    → EndsAt bytes (searched + at)
found_end bytes searched fits before at first there =
    let inside : searched + at < length bytes = omega (arith, first.high, length-drop searched bytes) in
    let feed : get_or bytes (searched + at) 0 ≡ 10 = sym (get_or-drop searched bytes at 0) ∙ byte_is (get_or (drop searched bytes) at 0) there in (
      inside,
      no_feed_upto bytes searched (searched + at) (omega (arith, inside)) before
          (λ k low. no_byte (get_or (drop searched bytes) k 0) (first.before k (omega arith) (omega (arith, low)))),
      sym (take-append-drop (searched + at) bytes)
          ∙ ap (λ (t : List ℕ). take (searched + at) bytes ++ t)
          (drop-cons bytes (searched + at) 0 inside ∙ ap (λ (b : ℕ). b ∷ drop (suc (searched + at)) bytes) feed
          ∙ ap (λ (n : ℕ). 10 ∷ drop n bytes) (let one : suc (searched + at) ≡ searched + at + 1 = omega arith in one)),
    )

pub found_none : (bytes : List ℕ) (searched : ℕ) → searched ≤ length bytes → NoFeed (take searched bytes)
    → Nowhere (Passes (is_byte 10) (drop searched bytes)) 0 (length (drop searched bytes)) → NoFeed bytes
found_none bytes searched fits before none =
    subst NoFeed (take_all (length bytes) bytes (omega arith))
    (no_feed_upto bytes searched (length bytes) (omega arith) before
    (λ k low. no_byte (get_or (drop searched bytes) k 0) (none k (omega arith) (omega (arith, low, length-drop searched bytes)))))

-- bytes that have no line feed and fill the room are no line
pub long_of : (bytes : List ℕ) → length bytes ≡ 1048577 → NoFeed bytes → IsLong bytes
long_of bytes len none = record { over = omega (arith, len); no_feed = All-take (λ b. b ≢ 10) 1048577 bytes none }

-- those that don't are the beginning of one
pub part_of : (bytes : List ℕ) → length bytes ≤ 1048576 → NoFeed bytes → IsLine bytes
part_of bytes short none = record { no_feed = none; short = short }

-- the line in front of the first line feed
pub line_of : (bytes : List ℕ) (at : ℕ) → at ≤ 1048576 → EndsAt bytes at → BeginsWithLine bytes (take at bytes)
line_of bytes at few h = record {
  is_line = record { no_feed = h.1; short = omega (arith, few, length-take-le at bytes (omega (arith, h.0))) };
  rest = drop (at + 1) bytes;
  whole = h.2 ∙ sym (append_assoc (take at bytes) (10 ∷ []) (drop (at + 1) bytes));
}
