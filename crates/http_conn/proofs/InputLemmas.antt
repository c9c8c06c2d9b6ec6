-- What the bytes held say of the whole input.
use Rattle.std.proofs.Common.{◌≡◌, ◌+◌, ◌-◌, ◌^◌, ◌≤◌, ◌<◌, ℕ, List, [], ◌++◌, length, take, drop, Option, Some, None, IfSome, IsSomeAnd, Result, Ok, Err, IfOk, IfErr, OnErr, inl, inr, refl, sym, ap, ◌∙◌, subst, take_all, arith, append_assoc, append-nil, length-append, length-drop}
use Rattle.std.proofs.lemmas.List.{take-append-le, length-take-le}
use Rattle.std.proofs.Math.Seq.{take-append-add, take-length, drop-length}
use Rattle.std.proofs.lemmas.Bool.Decides.{nat_tests}
use Rattle.std.specs.Io.KnownBytes.{Keeps, Consumes}
use Rattle.std.proofs.KnownBytes.{Consumes-kept, Consumes-trans}
use Rattle.httparse.specs.Grammar.{print_request, ReadsRequest, NeverHasRequest}
use Rattle.httparse.proofs.GrammarLemmas.{ReadsRequest-append}
use Rattle.http_conn.specs.declared.head.Head.{Head}
use Rattle.http_conn.specs.declared.head.HeadEnd.{HeadEnd}
use Rattle.http_conn.specs.declared.head.HeadEnd.TheVariants.{End, Cut, BadHead, HeadTooLarge, Coding, NoLength, BodyTooLarge, TooMuch, ReadFault, Memory}
use Rattle.http_conn.specs.Bytes.{Held, to_come, GivesOut}
use Rattle.http_conn.specs.Answer.{IsOpen, GivesHead, IsRefused, Ends, HasRoom, reach, window, open_end, EndsOf, refused, never, open_yet, no_memory, source_failed, Answers}

-- what is given out is the front of what was to come
pub given_first : (old new : Held) (before after out : List ℕ) → GivesOut old new (Some before) (Some after) out
    → old.bytes ++ before ≡ out ++ (new.bytes ++ after)
given_first old new before after out h =
    ap (λ (l : List ℕ). old.bytes ++ l) h.from_source ∙ sym (append_assoc old.bytes h.taken after)
    ∙ ap (λ (l : List ℕ). l ++ after) h.once ∙ append_assoc out new.bytes after

-- the window goes on from the bytes held
pub window_from : (given : ℕ) (bytes left : List ℕ) → length bytes ≤ reach given
    → window given (bytes ++ left) ≡ bytes ++ take (reach given - length bytes) left
window_from given bytes left inside =
    let n : reach given ≡ length bytes + (reach given - length bytes) = omega arith in
    ap (λ (m : ℕ). take m (bytes ++ left)) n ∙ take-append-add bytes left (reach given - length bytes)

-- the bytes held are the window
window_is : (given : ℕ) (bytes left : List ℕ) → length bytes ≡ reach given → window given (bytes ++ left) ≡ bytes
window_is given bytes left same =
    ap (λ (m : ℕ). take m (bytes ++ left)) (sym same) ∙ take-append-le (length bytes) bytes left (omega arith) ∙ take-length bytes

never_from : (bytes more : List ℕ) → NeverHasRequest bytes → NeverHasRequest (bytes ++ more)
never_from bytes more none rest h tail reads =
    none (more ++ rest) h tail (subst (λ (l : List ℕ). ReadsRequest l h tail) (append_assoc bytes more rest) reads)

refused_from : (given : ℕ) (bytes left : List ℕ) (e : HeadEnd) → length bytes ≤ reach given → IsRefused 16384 bytes e
    → IsRefused (reach given) (bytes ++ left) e
refused_from given bytes left e inside r = record {
  head = r.head;
  rest = r.rest ++ left;
  reads = ReadsRequest-append bytes r.head r.rest left r.reads;
  fits = omega (arith, ap length r.reads.1, length-append (print_request r.head) r.rest);
  refused = r.refused;
}

too_large : (given : ℕ) (input : List ℕ) → 16384 ≤ length input → given + 16384 ≤ 2 ^ 40 → HeadTooLarge ≡ open_end given input
too_large given input long fits = grind (arith, nat_tests)

too_much : (given : ℕ) (input : List ℕ) → 2 ^ 40 ≤ given + length input → 2 ^ 40 < given + 16384 → TooMuch ≡ open_end given input
too_much given input long over = grind (arith, nat_tests)

at_end : (given : ℕ) (input : List ℕ) → length input ≡ 0 → given < 2 ^ 40 → End ≡ open_end given input
at_end given input none few = grind (arith, nat_tests)

cut_off : (given : ℕ) (input : List ℕ) → 0 < length input → length input < 16384 → given + length input < 2 ^ 40 → Cut ≡ open_end given input
cut_off given input some few fits = grind (arith, nat_tests)

-- the input ended
ended : (held : Held) (left : List ℕ) (e : HeadEnd) → IsOpen held.bytes → HasRoom held → left ≡ [] → e ≡ open_end held.given held.bytes
    → EndsOf held.given (held.bytes ++ left) e
ended held left e is_open room none same =
    let whole : held.bytes ++ left ≡ held.bytes = ap (λ (l : List ℕ). held.bytes ++ l) none ∙ append-nil held.bytes in
    let long : length held.bytes ≤ reach held.given = omega (arith, room.few_held, room.few_came) in
    let here : window held.given held.bytes ≡ held.bytes = take_all (reach held.given) held.bytes long in
    subst (λ (l : List ℕ). EndsOf held.given l e) (sym whole) (open_yet (subst IsOpen (sym here) is_open) same)

pub ends_of : (held : Held) (left : List ℕ) (e : HeadEnd) → length held.bytes ≤ 16384 → held.given + length held.bytes ≤ 2 ^ 40
    → Ends e held (Some left) → EndsOf held.given (held.bytes ++ left) e
ends_of held left End few fits h = ended held left End h.1 h.2 h.3 (at_end held.given held.bytes (ap length h.0) (omega (arith, h.2.few_came)))
ends_of held left Cut few fits h = ended held left Cut h.1 h.2 h.3 (cut_off held.given held.bytes h.0 h.2.few_held h.2.few_came)
ends_of held left BadHead few fits (inl n) =
    never (subst NeverHasRequest (sym (window_from held.given held.bytes left (omega arith))) (never_from held.bytes _ n)) refl
ends_of held left BadHead few fits (inr r) = refused (refused_from held.given held.bytes left BadHead (omega arith) r)
ends_of held left HeadTooLarge few fits h =
    let long : 16384 ≤ length (held.bytes ++ left) = omega (arith, length-append held.bytes left) in
    open_yet (subst IsOpen (sym (window_is held.given held.bytes left (omega arith))) h.0)
    (too_large held.given (held.bytes ++ left) long (omega arith))
ends_of held left Coding few fits r = refused (refused_from held.given held.bytes left Coding (omega arith) r)
ends_of held left NoLength few fits r = refused (refused_from held.given held.bytes left NoLength (omega arith) r)
ends_of held left BodyTooLarge few fits r = refused (refused_from held.given held.bytes left BodyTooLarge (omega arith) r)
ends_of held left TooMuch few fits h =
    let long : 2 ^ 40 ≤ held.given + length (held.bytes ++ left) = omega (arith, length-append held.bytes left) in
    open_yet (subst IsOpen (sym (window_is held.given held.bytes left (omega arith))) h.0)
    (too_much held.given (held.bytes ++ left) long (omega arith))
ends_of held left ReadFault few fits h = source_failed refl
ends_of held left Memory few fits h = no_memory refl

-- the answer to the bytes taken is one to the whole input
pub answer_of : (old new : Held) (before after : Option (List ℕ)) (result : Result Head HeadEnd)
    → length new.bytes ≤ 16384 → new.given + length new.bytes ≤ 2 ^ 40
    → IfOk result (GivesHead old new before after) → OnErr result (GivesOut old new before after []) → IfErr result (λ e. Ends e new after)
    → IfSome (to_come old before) (λ input. IsSomeAnd (to_come new after) (Answers old.given input result))
answer_of old new None after result few fits head kept end = tt
answer_of old new (Some before) None (Ok answer) few fits head kept end = absurd head.out.from_source
answer_of old new (Some before) None (Err e) few fits head kept end = absurd kept.from_source
answer_of old new (Some before) (Some after) (Ok answer) few fits head kept end = record {
  head = head.head;
  reads = (head.is_head, given_first old new before after (print_request head.head) head.out);
  fits = omega (arith, head.fits, head.out.counted);
  told = head.told;
}
answer_of old new (Some before) (Some after) (Err e) few fits head kept end =
    let input : old.bytes ++ before ≡ new.bytes ++ after = given_first old new before after [] kept in
    let same : new.given ≡ old.given = omega (arith, kept.counted) in
    (subst (λ (n : ℕ). EndsOf n (old.bytes ++ before) e) same (subst (λ (l : List ℕ). EndsOf new.given l e) (sym input) (ends_of new after e few fits end)), sym input)

-- what was taken is held still
pub still_held : (old mid new : Held) (before between after : Option (List ℕ)) → GivesOut old mid before between [] → new ≡ mid
    → Keeps between after → GivesOut old new before after []
still_held old mid new before between after h same keeps =
    subst (λ (s : Held). GivesOut old s before after []) (sym same)
    (record { taken = h.taken; from_source = Consumes-kept before between after h.taken h.from_source keeps; once = h.once; counted = h.counted })

-- a body that didn't come whole: all bytes held and taken are given up
pub gives_up : (old new : Held) (before after : Option (List ℕ)) (held count : ℕ) (front out : List ℕ)
    → Consumes before after (take count (drop (length front) out)) → length front + count ≤ length out → length front ≡ held
    → new.bytes ≡ drop held old.bytes → new.given ≡ old.given + (held + count) → held ≡ length old.bytes
    → (part : List ℕ) × GivesOut old new before after part
gives_up old new before after held count front out consumed room len rest counted all =
    let taken = take count (drop (length front) out) in
    let none : new.bytes ≡ [] = rest ∙ ap (λ (n : ℕ). drop n old.bytes) all ∙ drop-length old.bytes in
    let came : length taken ≡ count = length-take-le count (drop (length front) out) (omega (arith, length-drop (length front) out)) in (
      old.bytes ++ taken,
      record {
        taken = taken;
        from_source = consumed;
        once = sym (ap (λ (l : List ℕ). (old.bytes ++ taken) ++ l) none ∙ append-nil (old.bytes ++ taken));
        counted = omega (arith, counted, all, came, length-append old.bytes taken);
      },
    )

-- what two takings bring is held
pub held_more : (old mid here new : Held) (before between after : Option (List ℕ)) → GivesOut old mid before between [] → here ≡ mid
    → GivesOut here new between after [] → GivesOut old new before after []
held_more old mid here new before between after h same k = record {
  taken = h.taken ++ k.taken;
  from_source = Consumes-trans before between after h.taken k.taken h.from_source k.from_source;
  once = sym (append_assoc old.bytes h.taken k.taken) ∙ ap (λ (l : List ℕ). l ++ k.taken) (h.once ∙ ap (λ (s : Held). s.bytes) (sym same)) ∙ k.once;
  counted = omega (arith, h.counted, k.counted, ap (λ (s : Held). s.given) same);
}
