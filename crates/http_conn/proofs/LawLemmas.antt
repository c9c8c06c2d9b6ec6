-- One input has one answer.
use Rattle.std.proofs.Common.{◌≡◌, ◌-◌, ◌≤◌, ℕ, List, [], ◌++◌, length, take, drop, Some, None, Result, Ok, Err, inl, inr, sym, ap, ◌∙◌, append-nil}
use Rattle.std.proofs.Math.Seq.{take-append_seam, drop-append_seam}
use Rattle.httparse.specs.Grammar.{RequestHead, print_request, ReadsRequest, NeverHasRequest, MayBecomeRequest, EndsInTarget}
use Rattle.http_conn.specs.declared.head.HeadEnd.TheVariants.{BadHead}
use Rattle.httparse.proofs.GrammarLemmas.{request_unique}
use Rattle.http_conn.specs.declared.head.Head.{Head}
use Rattle.http_conn.specs.declared.head.HeadEnd.{HeadEnd}
use Rattle.http_conn.specs.Bytes.{Held, GivesOut}
use Rattle.http_conn.specs.Message.{lines_of, body_length, closes, wants_continue, refusal, IsHeadOf, SameHead}
use Rattle.http_conn.specs.Answer.{IsOpen, IsGiven, IsFree, reach, window, open_end, EndsOf, refused, never, open_yet, no_memory, source_failed, Answers, Agree, SameEnd, same, one_free, other_free, one_in_target, other_in_target, InTarget}
use Rattle.http_conn.proofs.InputLemmas.{window_from, given_first}

pub front : (old new : Held) (before after out : List ℕ) → GivesOut old new (Some before) (Some after) out
    → (out ≡ take (length out) (old.bytes ++ before)) × (new.bytes ++ after ≡ drop (length out) (old.bytes ++ before))
front old new before after out h =
    let whole : old.bytes ++ before ≡ out ++ (new.bytes ++ after) = given_first old new before after out h in (
      sym (ap (take (length out)) whole ∙ take-append_seam out (new.bytes ++ after)),
      sym (ap (drop (length out)) whole ∙ drop-append_seam out (new.bytes ++ after)),
    )

-- a head within reach stands in the window
in_window : (given : ℕ) (input : List ℕ) (h : RequestHead) (rest : List ℕ) → ReadsRequest input h rest → length (print_request h) ≤ reach given
    → ReadsRequest (window given input) h (take (reach given - length (print_request h)) rest)
in_window given input h rest reads fits =
    (reads.0, ap (λ (l : List ℕ). take (reach given) l) reads.1 ∙ window_from given (print_request h) rest fits)

not_open : (given : ℕ) (input : List ℕ) (h : RequestHead) (rest : List ℕ) → ReadsRequest input h rest → length (print_request h) ≤ reach given
    → IsOpen (window given input) → ⊥
not_open given input h rest reads fits o = o.none_yet h _ (in_window given input h rest reads fits)

not_never : (given : ℕ) (input : List ℕ) (h : RequestHead) (rest : List ℕ) → ReadsRequest input h rest → length (print_request h) ≤ reach given
    → NeverHasRequest (window given input) → ⊥
not_never given input h rest reads fits n =
    let here = in_window given input h rest reads fits in
    n [] h (take (reach given - length (print_request h)) rest) (here.0, append-nil (window given input) ∙ here.1)

not_refused : (input : List ℕ) (h k : RequestHead) (r s : List ℕ) (e : HeadEnd) → ReadsRequest input h r → ReadsRequest input k s
    → refusal h ≡ None → refusal k ≡ Some e → ⊥
not_refused input h k r s e x y none some =
    let one = request_unique input h k r s x y in
    let clash : refusal h ≡ refusal k = ap refusal one.0 in
    cc

same_head : (h k : RequestHead) (one other : Head) → h ≡ k → IsHeadOf h one → IsHeadOf k other → SameHead one other
same_head h k one other e x y = record {
  method = x.method ∙ ap (λ (m : RequestHead). m.method) e ∙ sym y.method;
  target = x.target ∙ ap (λ (m : RequestHead). m.target) e ∙ sym y.target;
  length = x.length ∙ ap (λ (m : RequestHead). body_length (lines_of m)) e ∙ sym y.length;
  close = x.close ∙ ap (λ (m : RequestHead). closes m.minor (lines_of m)) e ∙ sym y.close;
  wants_continue = x.wants_continue ∙ ap (λ (m : RequestHead). wants_continue m.minor (lines_of m)) e ∙ sym y.wants_continue;
}

-- an end beside a head that is given is free
beside_head : (given : ℕ) (input rest : List ℕ) (one : Head) (e : HeadEnd) → IsGiven (reach given) input one rest → EndsOf given input e → IsFree e
beside_head given input rest one e g (refused r) = absurd (not_refused input g.head r.head rest r.rest e g.reads r.reads g.told.taken r.refused)
beside_head given input rest one e g (never n is) = absurd (not_never given input g.head rest g.reads g.fits n)
beside_head given input rest one e g (open_yet o is) = absurd (not_open given input g.head rest g.reads g.fits o)
beside_head given input rest one e g (no_memory is) = inl is
beside_head given input rest one e g (source_failed is) = inr is

-- where no head can come and one may, the bytes end inside a target
target_of : (given : ℕ) (input : List ℕ) (d e : HeadEnd) → NeverHasRequest (window given input) → d ≡ BadHead → IsOpen (window given input)
    → e ≡ open_end given input → InTarget given input d e
target_of given input d e n bad o is = record { bad = bad; may = is; target = inside o.may_come }
  where
    inside : MayBecomeRequest (window given input) → EndsInTarget (window given input)
    inside (inl m) = absurd (n m.0 m.1 [] m.2)
    inside (inr t) = t

one_cause : (input : List ℕ) (h k : RequestHead) (r s : List ℕ) (d e : HeadEnd) → ReadsRequest input h r → ReadsRequest input k s
    → refusal h ≡ Some d → refusal k ≡ Some e → d ≡ e
one_cause input h k r s d e x y some other =
    let one = request_unique input h k r s x y in
    let both : refusal h ≡ refusal k = ap refusal one.0 in
    let three : Some d ≡ Some e = sym some ∙ both ∙ other in
    cc

one_end : (given : ℕ) (input : List ℕ) (d e : HeadEnd) → EndsOf given input d → EndsOf given input e → SameEnd given input d e
one_end given input d e (refused r) (refused s) = same (one_cause input r.head s.head r.rest s.rest d e r.reads s.reads r.refused s.refused)
one_end given input d e (refused r) (never n is) = absurd (not_never given input r.head r.rest r.reads r.fits n)
one_end given input d e (refused r) (open_yet o is) = absurd (not_open given input r.head r.rest r.reads r.fits o)
one_end given input d e (never n is) (refused r) = absurd (not_never given input r.head r.rest r.reads r.fits n)
one_end given input d e (never n is) (never m so) = same (is ∙ sym so)
one_end given input d e (never n is) (open_yet o so) = one_in_target (target_of given input d e n is o so)
one_end given input d e (open_yet o is) (refused r) = absurd (not_open given input r.head r.rest r.reads r.fits o)
one_end given input d e (open_yet o is) (never n so) = other_in_target (target_of given input e d n so o is)
one_end given input d e (open_yet o is) (open_yet p so) = same (is ∙ sym so)
one_end given input d e (no_memory is) x = one_free (inl is)
one_end given input d e (source_failed is) x = one_free (inr is)
one_end given input d e x (no_memory is) = other_free (inl is)
one_end given input d e x (source_failed is) = other_free (inr is)

pub agree : (given : ℕ) (input rest more : List ℕ) (one other : Result Head HeadEnd) → Answers given input one rest → Answers given input other more
    → Agree given input one rest other more
agree given input rest more (Ok one) (Ok other) x y =
    let heads = request_unique input x.head y.head rest more x.reads y.reads in
    (same_head x.head y.head one other heads.0 x.told y.told, heads.1)
agree given input rest more (Ok one) (Err e) x y = beside_head given input rest one e x y.0
agree given input rest more (Err e) (Ok other) x y = beside_head given input more other e y x.0
agree given input rest more (Err d) (Err e) x y = one_end given input d e x.0 y.0
