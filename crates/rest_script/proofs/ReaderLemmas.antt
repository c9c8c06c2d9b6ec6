-- What no more bytes, and more of them, leave of those held.
use Rattle.std.proofs.Common.{◌≡◌, ℕ, ◌≤◌, List, [], ◌∷◌, ◌++◌, length, take, Option, refl, sym, ap, subst, ◌∙◌, arith, append-nil, append_assoc, length-append}
use Rattle.std.proofs.KnownBytes.{Consumes-trans}
use Rattle.std.proofs.lemmas.List.{take-append-le}
use Rattle.std.proofs.Math.Seq.{take-length}
use Rattle.http_conn.specs.Bytes.{GivesOut, Held}
use Rattle.rest_script.proofs.LineLemmas.{NoFeed}

-- no bytes are the empty list
pub no_bytes : (xs : List ℕ) → length xs ≡ 0 → xs ≡ []
no_bytes [] e = refl
no_bytes (x ∷ xs) e = cc

-- where no byte came, those held are the same
pub nothing_more : (old new piece : List ℕ) (n : ℕ) → length piece ≡ n → n ≡ 0 → new ≡ old ++ piece → new ≡ old
nothing_more old new piece n len zero is =
    is ∙ ap (λ (l : List ℕ). old ++ l) (no_bytes piece (len ∙ zero)) ∙ append-nil old

-- what was searched is still at the front
pub still_none : (old new : Held) (before after : Option (List ℕ)) → GivesOut old new before after [] → NoFeed old.bytes → NoFeed (take (length old.bytes) new.bytes)
still_none old new before after out none =
    subst NoFeed
    (sym (ap (take (length old.bytes)) (sym out.once) ∙ take-append-le (length old.bytes) old.bytes out.taken (omega arith) ∙ take-length old.bytes)) none

pub not_fewer : (old new : Held) (before after : Option (List ℕ)) → GivesOut old new before after [] → length old.bytes ≤ length new.bytes
not_fewer old new before after out = omega (arith, ap length out.once, length-append old.bytes out.taken)

-- what two takings bring is held
pub held_on : (old mid new : Held) (before between after : Option (List ℕ)) → GivesOut old mid before between [] → GivesOut mid new between after []
    → GivesOut old new before after []
held_on old mid new before between after h k = record {
  taken = h.taken ++ k.taken;
  from_source = Consumes-trans before between after h.taken k.taken h.from_source k.from_source;
  once = sym (append_assoc old.bytes h.taken k.taken) ∙ ap (λ (l : List ℕ). l ++ k.taken) h.once ∙ k.once;
  counted = omega (arith, h.counted, k.counted);
}
