-- The messages of a connection, one after another, and its end.
use Rattle.std.proofs.Common.{◌≡◌, ◌≢◌, ℕ, ◌+◌, ◌<◌, ◌≤◌, ◌^◌, ◌||◌, nat_lt, if◌then◌else◌, Bool, true, false, List, [], ◌∷◌, ◌++◌, length, take, drop, Option, Some, None, refl, sym, ap, subst, ◌∙◌, arith, unwrap_or, append_assoc, append-nil, length-append}
use Rattle.std.specs.List.{All, flat_map}
use Rattle.std.proofs.lemmas.Bool.Decides.{nat_tests}
use Rattle.std.proofs.lemmas.List.{flat_map_more, take-append-drop}
use Rattle.std.proofs.lemmas.List.Elements.{All-nil, All-push}
use Rattle.std.specs.Io.KnownBytes.{Appends, Consumes}
use Rattle.std.proofs.KnownBytes.{Appends-nil, Appends-trans, Consumes-nil, Consumes-trans}
use Rattle.front_api.specs.Seen.{LeadsTo, SeenBooks}
use Rattle.http_conn.specs.Answer.{Ends, EndsBody, GivesHead}
use Rattle.http_conn.specs.Bytes.{GivesOut, Held}
use Rattle.http_conn.specs.Message.{IsHeadOf, are_wrong, body_length, has_coding, lacks_host, lacks_length, lengths, lines_of}
use Rattle.http_conn.specs.declared.head.Head.{Head}
use Rattle.http_conn.specs.declared.head.HeadEnd.{HeadEnd}
use Rattle.http_conn.specs.declared.head.HeadEnd.TheVariants as heads
use Rattle.httparse.specs.Grammar.{IsRequestHead, RequestHead, print_request}
use Rattle.rest_api.specs.Doing.{TellsError}
use Rattle.rest_api.specs.Handling.{Handles}
use Rattle.rest_api.specs.Message.{Converses, GoesOnBehind, IsResponse, IsTaken, Message, Responds, RespondsTo, asks_head, body_size, continue_for, continue_if, message_bytes}
use Rattle.rest_api.specs.Session.{EndsInBody, EndsSo, GoesOn, GoesOnFrom, HasMessage, IsDue, Serves, Stops, Writes, WritesFront, end_of}
use Rattle.rest_api.specs.declared.conn_end.ConnEnd.{ConnEnd}
use Rattle.rest_api.specs.declared.conn_end.ConnEnd.TheVariants.{Closed, Memory, ReadFault, Refused, TooMuch, WriteFault}
use Rattle.rest_replies.specs.Faults.{head_error}
use Rattle.rest_replies.specs.declared.error.RestError.{RestError}
use Rattle.rest_replies.specs.declared.handled.Handled.{Handled}

-- ---- bytes

-- what two calls give out, one behind the other
pub gives_both : (a b c : Held) (before between after : Option (List ℕ)) (x y : List ℕ)
    → GivesOut a b before between x → GivesOut b c between after y → GivesOut a c before after (x ++ y)
gives_both a b c before between after x y h k = record {
  taken = h.taken ++ k.taken;
  from_source = Consumes-trans before between after h.taken k.taken h.from_source k.from_source;
  once = sym (append_assoc a.bytes h.taken k.taken) ∙ ap (λ (l : List ℕ). l ++ k.taken) h.once ∙ append_assoc x b.bytes k.taken
      ∙ ap (λ (l : List ℕ). x ++ l) k.once ∙ sym (append_assoc x y c.bytes);
  counted = omega (arith, h.counted, k.counted, length-append x y);
}

-- the bytes held behind a head, with what was taken then
taken_behind : (head : List ℕ) (a b : Held) (before after : Option (List ℕ)) (x : List ℕ) (out : GivesOut a b before after x)
    → (head ++ a.bytes) ++ out.taken ≡ head ++ (x ++ b.bytes)
taken_behind head a b before after x out = append_assoc head a.bytes out.taken ∙ ap (λ (l : List ℕ). head ++ l) out.once

-- some first bytes were written, and there are others
pub front_written : (from to : Option (List ℕ)) (text : List ℕ) → ((n : ℕ) × (n ≤ length text) × Appends from to (take n text))
    → (front : List ℕ) × (more : List ℕ) × (front ++ more ≡ text) × Appends from to front
front_written from to text h = (take h.0 text, drop h.0 text, take-append-drop h.0 text, h.2)

-- ---- ends

-- what is told is the same where it is told
pub same_end : (one other : ConnEnd) → Some one ≡ Some other → one ≡ other
same_end one other e = ap (λ (o : Option ConnEnd). unwrap_or o one) e

-- ---- a response

-- a message was handled, and the response to it was written
pub writes_response : {F : Type 0} (stands : F → SeenBooks → Type 0) (f g : F) (method target body : List ℕ) (close : Bool) (answer : Handled) (text : List ℕ) (from to : Option (List ℕ))
    → LeadsTo stands f g (Handles method target body answer) → IsResponse (asks_head method) close answer text → Appends from to text
    → Writes stands f g (Responds method target body close) from to
writes_response stands f g method target body close answer text from to leads response written = record {
  text = text;
  written = written;
  leads = λ old is.
      let new = leads old is in
      (new.0, new.1, record { answer = answer; handles = new.2; response = response });
}

-- a first part of it was
pub writes_front : {F : Type 0} (stands : F → SeenBooks → Type 0) (f g : F) (method target body : List ℕ) (close : Bool) (answer : Handled) (text more : List ℕ) (from to : Option (List ℕ))
    → LeadsTo stands f g (Handles method target body answer) → IsResponse (asks_head method) close answer (text ++ more) → Appends from to text
    → WritesFront stands f g (Responds method target body close) from to
writes_front stands f g method target body close answer text more from to leads response written = record {
  text = text;
  more = more;
  written = written;
  leads = λ old is.
      let new = leads old is in
      (new.0, new.1, record { answer = answer; handles = new.2; response = response });
}

-- ---- what a head says of its message

-- it is taken
pub taken_of : (a b : Held) (before after : Option (List ℕ)) (answer : Head) (h : GivesHead a b before after answer) → IsTaken h.head
taken_of a b before after answer h = record { grammar = h.is_head; fits = h.fits; taken = h.told.taken }

module _ (h : RequestHead) (head : Head) (told : IsHeadOf h head) where
  -- a client that waits is told so
  pub continue_same : continue_if head.wants_continue ≡ continue_for h
  continue_same = ap continue_if told.wants_continue

  -- the response to the request is one to the message
  pub responds_same : (body text : List ℕ) (old new : SeenBooks) → Responds head.method.items head.target.items body head.close text old new
      → RespondsTo (record { head = h; body = body }) text old new
  responds_same body text old new r =
      let m : Responds h.method head.target.items body head.close text old new = subst (λ (x : List ℕ). Responds x head.target.items body head.close text old new) told.method r in
      let t : Responds h.method h.target body head.close text old new = subst (λ (x : List ℕ). Responds h.method x body head.close text old new) told.target m in
      subst (λ (x : Bool). Responds h.method h.target body x text old new) told.close t

-- a body isn't over the limit where its head isn't refused
small_of : (host coding lacks over : Bool) (bad coded unstated large : HeadEnd)
    → (if host then Some bad else (if coding then Some coded else (if lacks then Some unstated else (if over then Some large else None)))) ≡ None → over ≡ false
small_of true coding lacks over bad coded unstated large e = absurd cc
small_of false true lacks over bad coded unstated large e = absurd cc
small_of false false true over bad coded unstated large e = absurd cc
small_of false false false true bad coded unstated large e = absurd cc
small_of false false false false bad coded unstated large e = refl

pub body_fits : (h : RequestHead) (head : Head) → IsHeadOf h head → head.length ≤ 4194304
body_fits h head told =
    let small : nat_lt 4194304 (body_length (lines_of h)) ≡ false =
    small_of (lacks_host h.minor (lines_of h) || are_wrong (lengths (lines_of h))) (has_coding (lines_of h)) (lacks_length h.method (lines_of h))
    (nat_lt 4194304 (body_length (lines_of h))) _ _ _ _ told.taken in
    subst (λ (n : ℕ). n ≤ 4194304) (sym told.length) (grind (arith, nat_tests, small))

-- a head has some bytes
head_has_bytes : (h : RequestHead) → IsRequestHead h → 1 ≤ length (print_request h)
unfolding print_request
head_has_bytes h ok =
    let m : 0 < length h.method = ok.method.0 in
    omega (arith, length-append {A = ℕ})

-- ---- one message

module _ {F : Type 0} (stands : F → SeenBooks → Type 0) where
  -- the connection goes on behind a message whose head came first
  pub goes_on_from_head : (f g : F) (a b c : Held) (before between after from to : Option (List ℕ)) (answer : Head) (h : GivesHead a b before between answer)
      → GoesOnFrom stands f g h.head b c between after from to → GoesOn stands f g a c before after from to
  goes_on_from_head f g a b c before between after from to answer h k = record {
    message = record { head = h.head; body = k.body };
    response = k.response;
    goes_on = record { message = record { head = taken_of a b before between answer h; size = k.size }; stays = k.stays };
    out = gives_both a b c before between after (print_request h.head) k.body h.out k.out;
    written = k.written;
    leads = k.leads;
  }

  -- it ends behind the head
  pub stops_from_head : (f g : F) (a b : Held) (before between after from to : Option (List ℕ)) (answer : Head) (h : GivesHead a b before between answer) (end : ConnEnd)
      → Stops stands f g a.given (print_request h.head ++ b.bytes) between after from to end → Stops stands f g a.given a.bytes before after from to end
  stops_from_head f g a b before between after from to answer h end k =
      let whole : (print_request h.head ++ b.bytes) ++ k.input ≡ a.bytes ++ (h.out.taken ++ k.input) =
      ap (λ (l : List ℕ). l ++ k.input) (sym h.out.once) ∙ append_assoc a.bytes h.out.taken k.input in
      record {
        input = h.out.taken ++ k.input;
        last = k.last;
        from_source = Consumes-trans before between after h.out.taken k.input h.out.from_source k.from_source;
        written = k.written;
        leads = subst (λ (l : List ℕ). LeadsTo stands f g (EndsSo a.given l after end k.last)) whole k.leads;
      }

  -- it ends with what a function of the front's histories says of the bytes held
  pub stops_at_once : (f : F) (given : ℕ) (held : List ℕ) (left from to : Option (List ℕ)) (last : List ℕ) (end : ConnEnd)
      → Appends from to last → ((books : SeenBooks) → EndsSo given held left end last books books) → Stops stands f f given held left left from to end
  stops_at_once f given held left from to last end written ends = record {
    input = [];
    last = last;
    from_source = Consumes-nil left;
    written = written;
    leads = λ old is. (old, is, subst (λ (l : List ℕ). EndsSo given l left end last old old) (sym (append-nil held)) (ends old));
  }

  -- it ends where no head came
  pub stops_before_head : (f : F) (a b : Held) (before after from to : Option (List ℕ)) (last : List ℕ) (end : ConnEnd) (out : GivesOut a b before after [])
      → Appends from to last → ((books : SeenBooks) → EndsSo b.given b.bytes after end last books books) → Stops stands f f a.given a.bytes before after from to end
  stops_before_head f a b before after from to last end out written ends =
      let same : b.given ≡ a.given = omega (arith, out.counted) in
      record {
        input = out.taken;
        last = last;
        from_source = out.from_source;
        written = written;
        leads = λ old is. (
          old,
          is,
          subst (λ (n : ℕ). EndsSo n (a.bytes ++ out.taken) after end last old old) same
              (subst (λ (l : List ℕ). EndsSo b.given l after end last old old) (sym out.once) (ends old)),
        );
      }

  -- ---- behind a head that was taken

  module _ (h : RequestHead) (head : Head) (taken : IsTaken h) (told : IsHeadOf h head) (given : ℕ) where
    -- the client couldn't be told to go on
    pub stops_at_continue : (f : F) (held : List ℕ) (left from to : Option (List ℕ)) (text more : List ℕ)
        → text ++ more ≡ continue_if head.wants_continue → Appends from to text
        → Stops stands f f given (print_request h ++ held) left left from to WriteFault
    stops_at_continue f held left from to text more whole written =
        stops_at_once f given (print_request h ++ held) left from to text WriteFault written
        (λ books. EndsSo.unwritten text more books books
        (subst (λ (t : List ℕ). IsDue given (print_request h ++ held) left t books books) (sym (whole ∙ continue_same h head told))
        (IsDue.to_go_on h held books (record { taken = taken; whole = refl }))))

    -- why no body came, of which so much did
    short_of : (cause : HeadEnd) (a b : Held) (before after : Option (List ℕ)) (part : List ℕ) (out : GivesOut a b before after part)
        → a.given ≡ given + length (print_request h) → EndsBody cause head.length a b before after
        → EndsInBody cause (body_size h) (given + length (print_request h)) (part ++ b.bytes) after
    short_of heads.End a b before after part out behind ends = absurd ends
    short_of heads.Cut a b before after part out behind ends =
        (omega (arith, ends.0.fewer, ap length ends.0.none_held, out.counted, length-append part b.bytes, told.length), ends.1)
    short_of heads.BadHead a b before after part out behind ends = absurd ends
    short_of heads.HeadTooLarge a b before after part out behind ends = absurd ends
    short_of heads.Coding a b before after part out behind ends = absurd ends
    short_of heads.NoLength a b before after part out behind ends = absurd ends
    short_of heads.BodyTooLarge a b before after part out behind ends = absurd ends
    short_of heads.TooMuch a b before after part out behind ends = (
      omega (arith, ends.0.fewer, ap length ends.0.none_held, out.counted, length-append part b.bytes, told.length),
      omega (arith, ends.1, ap length ends.0.none_held, out.counted, length-append part b.bytes, behind),
    )
    short_of heads.ReadFault a b before after part out behind ends =
        omega (arith, ends.fewer, ap length ends.none_held, out.counted, length-append part b.bytes, told.length)
    short_of heads.Memory a b before after part out behind ends = tt

    -- the body didn't come
    pub stops_in_body : (f : F) (cause : HeadEnd) (a b : Held) (before after from to : Option (List ℕ)) (part : List ℕ)
        → GivesOut a b before after part → a.given ≡ given + length (print_request h) → EndsBody cause head.length a b before after
        → Appends from to (continue_if head.wants_continue)
        → Stops stands f f given (print_request h ++ a.bytes) before after from to (end_of cause)
    stops_in_body f cause a b before after from to part out behind ends written = record {
      input = out.taken;
      last = continue_for h;
      from_source = out.from_source;
      written = subst (Appends from to) (continue_same h head told) written;
      leads = λ old is. (
        old,
        is,
        EndsSo.no_body cause h (part ++ b.bytes) old
            (record { taken = taken; whole = taken_behind (print_request h) a b before after part out })
            (short_of cause a b before after part out behind ends),
      );
    }

    -- the message came
    has_message : (a b : Held) (before after : Option (List ℕ)) (body : List ℕ) (out : GivesOut a b before after body) → length body ≡ head.length
        → HasMessage ((print_request h ++ a.bytes) ++ out.taken) (record { head = h; body = body })
    has_message a b before after body out size = record {
      message = record { head = taken; size = size ∙ told.length };
      rest = b.bytes;
      whole = taken_behind (print_request h) a b before after body out ∙ sym (append_assoc (print_request h) body b.bytes);
    }

    -- it was answered, and the connection closes
    pub stops_behind : (f g : F) (a b : Held) (before after from mid to : Option (List ℕ)) (body : List ℕ)
        → GivesOut a b before after body → length body ≡ head.length → head.close ≡ true
        → Appends from mid (continue_if head.wants_continue)
        → Writes stands f g (Responds head.method.items head.target.items body head.close) mid to
        → Stops stands f g given (print_request h ++ a.bytes) before after from to Closed
    stops_behind f g a b before after from mid to body out size close first k = record {
      input = out.taken;
      last = continue_for h ++ k.text;
      from_source = out.from_source;
      written = Appends-trans from mid to (continue_for h) k.text (subst (Appends from mid) (continue_same h head told) first) k.written;
      leads = λ old is.
          let new = k.leads old is in (
            new.0,
            new.1,
            EndsSo.closed (record { head = h; body = body }) k.text old new.0 (has_message a b before after body out size)
                (sym told.close ∙ close) (responds_same h head told body k.text old new.0 new.2),
          );
    }

    -- its response couldn't be written
    pub stops_at_response : (f g : F) (a b : Held) (before after from mid to : Option (List ℕ)) (body : List ℕ)
        → GivesOut a b before after body → length body ≡ head.length
        → Appends from mid (continue_if head.wants_continue)
        → WritesFront stands f g (Responds head.method.items head.target.items body head.close) mid to
        → Stops stands f g given (print_request h ++ a.bytes) before after from to WriteFault
    stops_at_response f g a b before after from mid to body out size first k = record {
      input = out.taken;
      last = continue_for h ++ k.text;
      from_source = out.from_source;
      written = Appends-trans from mid to (continue_for h) k.text (subst (Appends from mid) (continue_same h head told) first) k.written;
      leads = λ old is.
          let new = k.leads old is in (
            new.0,
            new.1,
            EndsSo.unwritten (continue_for h ++ k.text) k.more old new.0
                (subst (λ (t : List ℕ). IsDue given ((print_request h ++ a.bytes) ++ out.taken) after t old new.0) (sym (append_assoc (continue_for h) k.text k.more))
                (IsDue.response (record { head = h; body = body }) (k.text ++ k.more) old new.0 (has_message a b before after body out size)
                (responds_same h head told body (k.text ++ k.more) old new.0 new.2))),
          );
    }

  module _ (h : RequestHead) (head : Head) (told : IsHeadOf h head) where
    -- it was answered, and the connection goes on
    pub goes_on_behind : (f g : F) (a b : Held) (before after from mid to : Option (List ℕ)) (body : List ℕ)
        → GivesOut a b before after body → length body ≡ head.length → head.close ≡ false
        → Appends from mid (continue_if head.wants_continue)
        → Writes stands f g (Responds head.method.items head.target.items body head.close) mid to
        → GoesOnFrom stands f g h a b before after from to
    goes_on_behind f g a b before after from mid to body out size close first k = record {
      body = body;
      response = k.text;
      size = size ∙ told.length;
      stays = sym told.close ∙ close;
      out = out;
      written = Appends-trans from mid to (continue_for h) k.text (subst (Appends from mid) (continue_same h head told) first) k.written;
      leads = λ old is.
          let new = k.leads old is in
          (new.0, new.1, responds_same h head told body k.text old new.0 new.2);
    }

-- ---- no head

-- it ends with a fault of the source only where that is why none came
pub read_fault_of : (cause : HeadEnd) → end_of cause ≡ ReadFault → cause ≡ heads.ReadFault
read_fault_of heads.End e = absurd cc
read_fault_of heads.Cut e = absurd cc
read_fault_of heads.BadHead e = absurd cc
read_fault_of heads.HeadTooLarge e = absurd cc
read_fault_of heads.Coding e = absurd cc
read_fault_of heads.NoLength e = absurd cc
read_fault_of heads.BodyTooLarge e = absurd cc
read_fault_of heads.TooMuch e = absurd cc
read_fault_of heads.ReadFault e = refl
read_fault_of heads.Memory e = absurd cc

-- it never ends so with a fault of the sink
pub no_write_fault_of : (cause : HeadEnd) → end_of cause ≢ WriteFault
no_write_fault_of heads.End e = absurd cc
no_write_fault_of heads.Cut e = absurd cc
no_write_fault_of heads.BadHead e = absurd cc
no_write_fault_of heads.HeadTooLarge e = absurd cc
no_write_fault_of heads.Coding e = absurd cc
no_write_fault_of heads.NoLength e = absurd cc
no_write_fault_of heads.BodyTooLarge e = absurd cc
no_write_fault_of heads.TooMuch e = absurd cc
no_write_fault_of heads.ReadFault e = absurd cc
no_write_fault_of heads.Memory e = absurd cc

-- a head is refused, and that was written
pub ends_refused : (given : ℕ) (held : List ℕ) (left : Option (List ℕ)) (cause : HeadEnd) (error : RestError) (answer : Handled) (text : List ℕ) (books : SeenBooks)
    → head_error cause ≡ Some error → Ends cause (record { bytes = held; given = given }) left → TellsError error None answer → IsResponse false true answer text
    → EndsSo given held left Refused text books books
ends_refused given held left cause error answer text books is-told ends tells response =
    EndsSo.refused text books (record { cause = cause; error = error; answer = answer; is_told = is-told; ends = ends; tells = tells; response = response })

-- it couldn't be written
pub ends_unrefused : (given : ℕ) (held : List ℕ) (left : Option (List ℕ)) (cause : HeadEnd) (error : RestError) (answer : Handled) (text more : List ℕ) (books : SeenBooks)
    → head_error cause ≡ Some error → Ends cause (record { bytes = held; given = given }) left → TellsError error None answer → IsResponse false true answer (text ++ more)
    → EndsSo given held left WriteFault text books books
ends_unrefused given held left cause error answer text more books is-told ends tells response =
    EndsSo.unwritten text more books books
    (IsDue.refusal (text ++ more) books (record { cause = cause; error = error; answer = answer; is_told = is-told; ends = ends; tells = tells; response = response }))

-- ---- the whole connection

-- The messages so far were answered, and these bytes are held.
pub record Serving {F : Type 0} (stands : F → SeenBooks → Type 0) (first now : F) (held : Held) (before left from to : Option (List ℕ)) : Type 0 where
  pub input : List ℕ
  pub messages : List Message
  pub answered : List ℕ
  pub from_source : Consumes before left input
  pub whole : input ≡ flat_map message_bytes messages ++ held.bytes
  pub given : held.given ≡ length (flat_map message_bytes messages)
  pub each : All GoesOnBehind messages
  pub written : Appends from to answered
  pub leads : LeadsTo stands first now (Converses messages answered)

-- a message has some bytes
message_has_bytes : (m : Message) → GoesOnBehind m → 1 ≤ length (message_bytes m)
message_has_bytes m h =
    let some : 1 ≤ length (print_request m.head) = head_has_bytes m.head h.message.head.grammar in
    omega (arith, length-append (print_request m.head) m.body)

module _ {F : Type 0} (stands : F → SeenBooks → Type 0) where
  -- no byte came yet
  pub serving_first : (f : F) (held : Held) (left taken : Option (List ℕ)) → held.bytes ≡ [] → held.given ≡ 0 → Serving stands f f held left left taken taken
  serving_first f held left taken none zero = record {
    input = [];
    messages = [];
    answered = [];
    from_source = Consumes-nil left;
    whole = sym none;
    given = zero;
    each = All-nil GoesOnBehind;
    written = Appends-nil taken;
    leads = λ old is. (old, is, Converses.nothing old);
  }

  -- the bytes of messages with those of one more
  bytes_more : (messages : List Message) (m : Message) → flat_map message_bytes (messages ++ m ∷ []) ≡ flat_map message_bytes messages ++ message_bytes m
  bytes_more messages m = sym (flat_map_more message_bytes [] messages m)

  -- one message more was answered
  pub serving_more : (f g h : F) (a b : Held) (before left after from mid to : Option (List ℕ))
      → Serving stands f g a before left from mid → GoesOn stands g h a b left after mid to → Serving stands f h b before after from to
  serving_more f g h a b before left after from mid to s k =
      let all : flat_map message_bytes (s.messages ++ k.message ∷ []) ≡ flat_map message_bytes s.messages ++ message_bytes k.message = bytes_more s.messages k.message in
      record {
        input = s.input ++ k.out.taken;
        messages = s.messages ++ k.message ∷ [];
        answered = s.answered ++ (continue_for k.message.head ++ k.response);
        from_source = Consumes-trans before left after s.input k.out.taken s.from_source k.out.from_source;
        whole = ap (λ (l : List ℕ). l ++ k.out.taken) s.whole ∙ append_assoc (flat_map message_bytes s.messages) a.bytes k.out.taken
            ∙ ap (λ (l : List ℕ). flat_map message_bytes s.messages ++ l) k.out.once
            ∙ sym (append_assoc (flat_map message_bytes s.messages) (message_bytes k.message) b.bytes) ∙ ap (λ (l : List ℕ). l ++ b.bytes) (sym all);
        given = omega (arith, k.out.counted, s.given, ap length all, length-append (flat_map message_bytes s.messages) (message_bytes k.message));
        each = All-push GoesOnBehind s.messages k.message s.each k.goes_on;
        written = Appends-trans from mid to s.answered (continue_for k.message.head ++ k.response) s.written k.written;
        leads = λ old is.
            let first = s.leads old is in
            let next = k.leads first.0 first.1 in
            (next.0, next.1, Converses.one_more s.messages k.message s.answered k.response old first.0 next.0 first.2 next.2);
      }

  -- the connection ended
  pub serves_to_end : (f g h : F) (a : Held) (before left after from mid to : Option (List ℕ)) (end : ConnEnd)
      → Serving stands f g a before left from mid → Stops stands g h a.given a.bytes left after mid to end → Serves stands f h before after from to end
  serves_to_end f g h a before left after from mid to end s k = record {
    input = s.input ++ k.input;
    messages = s.messages;
    behind = a.bytes ++ k.input;
    answered = s.answered;
    last = k.last;
    from_source = Consumes-trans before left after s.input k.input s.from_source k.from_source;
    whole = ap (λ (l : List ℕ). l ++ k.input) s.whole ∙ append_assoc (flat_map message_bytes s.messages) a.bytes k.input;
    each = s.each;
    written = Appends-trans from mid to s.answered k.last s.written k.written;
    leads = λ old is.
        let first = s.leads old is in
        let next = k.leads first.0 first.1 in
        (next.0, next.1, record { mid = first.0; messages_are = first.2; ends = subst (λ (n : ℕ). EndsSo n (a.bytes ++ k.input) after end k.last first.0 next.0) s.given next.2 });
  }

  -- the connection is as it was
  pub stops_there : (f : F) (a : Held) (left taken : Option (List ℕ)) (end : ConnEnd)
      → ((books : SeenBooks) → EndsSo a.given a.bytes left end [] books books) → Stops stands f f a.given a.bytes left left taken taken end
  stops_there f a left taken end ends = stops_at_once stands f a.given a.bytes left taken taken [] end (Appends-nil taken) ends

  -- there was no memory for it at all
  pub serves_nothing : (f : F) (left taken : Option (List ℕ)) → Serves stands f f left left taken taken Memory
  serves_nothing f left taken =
      let none : Held = record { bytes = []; given = 0 } in
      serves_to_end f f f none left left left taken taken taken Memory (serving_first f none left taken refl refl)
      (stops_there f none left taken Memory (λ books. EndsSo.no_head heads.Memory books refl tt))

  -- as many messages came as there may be bytes
  pub serves_too_many : (f g : F) (a : Held) (before left from to : Option (List ℕ)) → Serving stands f g a before left from to → 2 ^ 40 ≤ a.given
      → Serves stands f g before left from to TooMuch
  serves_too_many f g a before left from to s many =
      serves_to_end f g g a before left left from to to TooMuch s
      (stops_there g a left to TooMuch (λ books. EndsSo.too_many books (omega (arith, many))))

  -- each message has some bytes
  pub counts_more : (f g : F) (a b : Held) (before after from to : Option (List ℕ)) → GoesOn stands f g a b before after from to → a.given + 1 ≤ b.given
  counts_more f g a b before after from to k =
      let some : 1 ≤ length (message_bytes k.message) = message_has_bytes k.message k.goes_on in
      omega (arith, k.out.counted, some)
