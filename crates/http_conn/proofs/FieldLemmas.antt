-- The values of the header lines from a place on.
use Rattle.std.proofs.Common.{◌≡◌, ℕ, ◌+◌, ◌<◌, List, ◌∷◌, length, get_or, drop, map, refl, true, false, add-one, drop-cons}
use Rattle.httparse.specs.declared.spans.HeaderSpan.{HeaderSpan}
use Rattle.httparse.specs.Spans.{header_bytes}
use Rattle.http_conn.specs.Fields.{is_word, values_of}

-- the values of this name of the header lines from the i-th on
abbrev pub values_from : List ℕ → List ℕ → List HeaderSpan → ℕ → List (List ℕ)
values_from bytes name headers i = values_of name (map (header_bytes bytes) (drop i headers))

pub value_here : (bytes name : List ℕ) (headers : List HeaderSpan) (i : ℕ) (h : HeaderSpan) → i < length headers
    → h ≡ get_or headers i h → is_word (header_bytes bytes h).0 name ≡ true
    → values_from bytes name headers i ≡ (header_bytes bytes h).1 ∷ values_from bytes name headers (i + 1)
value_here bytes name headers i h inside is same = rw (drop-cons headers i h, ← is, same, add-one) refl

pub none_here : (bytes name : List ℕ) (headers : List HeaderSpan) (i : ℕ) (h : HeaderSpan) → i < length headers
    → h ≡ get_or headers i h → is_word (header_bytes bytes h).0 name ≡ false
    → values_from bytes name headers i ≡ values_from bytes name headers (i + 1)
none_here bytes name headers i h inside is other = rw (drop-cons headers i h, ← is, other, add-one) refl
