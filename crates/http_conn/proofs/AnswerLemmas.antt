-- Why the bytes held give no head.
use Rattle.std.proofs.Common.{◌≡◌, ◌≢◌, ◌≤◌, ◌||◌, ℕ, Bool, true, false, if◌then◌else◌, nat_lt, List, [], length, ◌+◌, ◌∙◌, ap, arith, length-append, Option, Some, None, inr, refl, subst}
use Rattle.httparse.specs.Grammar.{RequestHead, print_request, ReadsRequest}
use Rattle.http_conn.specs.declared.head.HeadEnd.{HeadEnd}
use Rattle.http_conn.specs.declared.head.HeadEnd.TheVariants.{End, Cut, BadHead, HeadTooLarge, Coding, NoLength, BodyTooLarge, TooMuch, ReadFault, Memory}
use Rattle.http_conn.specs.Message.{refusal, lines_of, lacks_host, lengths, are_wrong, has_coding, lacks_length, body_length}
use Rattle.http_conn.specs.Answer.{IsRefused, IsGiven, IsNoHead, Ends, IsSparing, GivesHead}
use Rattle.http_conn.specs.Bytes.{Held, GivesOut}
use Rattle.http_conn.specs.declared.head.Head.{Head}

some_same : (P : HeadEnd → Type 0) (a b : HeadEnd) → Some a ≡ Some b → P a → P b
some_same P a b e p = let same : a ≡ b = cc in subst P same p

step : (P : HeadEnd → Type 0) (b : Bool) (a e : HeadEnd) (other : Option HeadEnd) → (if b then Some a else other) ≡ Some e
    → P a → (other ≡ Some e → P e) → P e
step P true a e other same here later = some_same P a e same here
step P false a e other same here later = later same

no_end : (e : HeadEnd) (other : Option HeadEnd) → other ≡ None → other ≡ Some e → ⊥
no_end e other none same = cc

one_of : (P : HeadEnd → Type 0) (wrong coding lacking over : Bool) (e : HeadEnd)
    → (if wrong then Some BadHead else (if coding then Some Coding else (if lacking then Some NoLength else (if over then Some BodyTooLarge else None)))) ≡ Some e
    → P BadHead → P Coding → P NoLength → P BodyTooLarge → P e
one_of P wrong coding lacking over e same bad coded unstated large =
    step P wrong BadHead e _ same bad
    (λ s. step P coding Coding e _ s coded
    (λ t. step P lacking NoLength e _ t unstated
    (λ u. step P over BodyTooLarge e _ u large
    (λ v. absurd (no_end e None refl v)))))

-- what is refused has one of four causes
refused : (bytes : List ℕ) (h : RequestHead) (rest : List ℕ) (e : HeadEnd) → ReadsRequest bytes h rest → length (print_request h) ≤ 16384
    → refusal h ≡ Some e → IsNoHead e bytes
refused bytes h rest e reads fits cause =
    let here : IsRefused 16384 bytes e = record { head = h; rest = rest; reads = reads; fits = fits; refused = cause } in
    one_of (λ x. IsRefused 16384 bytes x → IsNoHead x bytes) (lacks_host h.minor (lines_of h) || are_wrong (lengths (lines_of h)))
    (has_coding (lines_of h)) (lacks_length h.method (lines_of h)) (nat_lt 4194304 (body_length (lines_of h))) e cause
    (λ r. inr r) (λ r. r) (λ r. r) (λ r. r) here

pub refused_unless_memory : (bytes : List ℕ) (h : RequestHead) (rest : List ℕ) (e : HeadEnd) → ReadsRequest bytes h rest
    → length (print_request h) ≤ 16384 → (e ≢ Memory → refusal h ≡ Some e) → IsNoHead e bytes
refused_unless_memory bytes h rest Memory reads fits cause = tt
refused_unless_memory bytes h rest End reads fits cause = refused bytes h rest End reads fits (cause (λ same. cc))
refused_unless_memory bytes h rest Cut reads fits cause = refused bytes h rest Cut reads fits (cause (λ same. cc))
refused_unless_memory bytes h rest BadHead reads fits cause = refused bytes h rest BadHead reads fits (cause (λ same. cc))
refused_unless_memory bytes h rest HeadTooLarge reads fits cause = refused bytes h rest HeadTooLarge reads fits (cause (λ same. cc))
refused_unless_memory bytes h rest Coding reads fits cause = refused bytes h rest Coding reads fits (cause (λ same. cc))
refused_unless_memory bytes h rest NoLength reads fits cause = refused bytes h rest NoLength reads fits (cause (λ same. cc))
refused_unless_memory bytes h rest BodyTooLarge reads fits cause = refused bytes h rest BodyTooLarge reads fits (cause (λ same. cc))
refused_unless_memory bytes h rest TooMuch reads fits cause = refused bytes h rest TooMuch reads fits (cause (λ same. cc))
refused_unless_memory bytes h rest ReadFault reads fits cause = refused bytes h rest ReadFault reads fits (cause (λ same. cc))

-- why the bytes held are no head is why no head is given
pub no_head_ends : (e : HeadEnd) (held : Held) (left : Option (List ℕ)) → IsNoHead e held.bytes → Ends e held left
no_head_ends End held left h = absurd h
no_head_ends Cut held left h = absurd h
no_head_ends BadHead held left h = h
no_head_ends HeadTooLarge held left h = absurd h
no_head_ends Coding held left h = h
no_head_ends NoLength held left h = h
no_head_ends BodyTooLarge held left h = h
no_head_ends TooMuch held left h = absurd h
no_head_ends ReadFault held left h = absurd h
no_head_ends Memory held left h = tt

-- a head at the front of the bytes held is given out after the bytes that were taken
pub gives_head : (old mid new : Held) (before after : Option (List ℕ)) (answer : Head) → GivesOut old mid before after []
    → IsSparing old.bytes mid.bytes → IsGiven 16384 mid.bytes answer new.bytes → mid.given + length mid.bytes ≡ new.given + length new.bytes
    → GivesHead old new before after answer
gives_head old mid new before after answer h sparing g counted = record {
  head = g.head;
  is_head = g.reads.0;
  fits = g.fits;
  told = g.told;
  sparing = subst (IsSparing old.bytes) g.reads.1 sparing;
  out = record {
    taken = h.taken;
    from_source = h.from_source;
    once = h.once ∙ g.reads.1;
    counted = omega (arith, h.counted, counted, ap length g.reads.1, length-append (print_request g.head) new.bytes);
  };
}
