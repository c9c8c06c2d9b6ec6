-- The lines of a script, one after another, and its end.
use Rattle.std.proofs.Common.{◌≡◌, ◌≢◌, ℕ, ◌+◌, ◌≤◌, ◌^◌, List, [], ◌∷◌, ◌++◌, length, take, drop, Option, Some, refl, sym, ap, subst, ◌∙◌, arith, append-nil, append_assoc, length-append, unwrap_or}
use Rattle.std.proofs.KnownBytes.{Appends-nil, Appends-trans, Consumes-nil, Consumes-trans}
use Rattle.std.proofs.Math.Seq.{drop-append_seam}
use Rattle.std.proofs.lemmas.List.{flat_map_more, length-take-le}
use Rattle.std.proofs.lemmas.List.Elements.{All-nil, All-push}
use Rattle.std.specs.Io.KnownBytes.{Appends, Consumes}
use Rattle.std.specs.List.{All, flat_map}
use Rattle.front_api.proofs.Leading.{leads_more, leads_to_itself}
use Rattle.front_api.specs.Seen.{LeadsTo, SeenBooks}
use Rattle.http_conn.specs.Bytes.{GivesOut, Held}
use Rattle.rest_script.specs.Lines.{BeginsWithLine, EndsBehind, IsLine, ended}
use Rattle.rest_script.specs.Replying.{AnswersLines, Replies}
use Rattle.rest_script.specs.Serving.{ServesLine, ServesScript, StopsScript, WritesBehind, WritesReply, WritesReplyFront}
use Rattle.rest_script.specs.declared.script_end.ScriptEnd.{ScriptEnd}
use Rattle.rest_script.specs.declared.script_end.ScriptEnd.TheVariants.{Ended, TooLong, Cut, TooMuch, ReadFault, WriteFault, Memory}
use Rattle.rest_script.proofs.LineLemmas.{part_of}

-- what is told is the same where it is told
pub same_end : (one other : ScriptEnd) → Some one ≡ Some other → one ≡ other
same_end one other e = ap (λ (o : Option ScriptEnd). unwrap_or o one) e

-- where the sink didn't fail, nothing is written behind the lines
pub writes_nothing : (end : ScriptEnd) (behind : List ℕ) (books : SeenBooks) → end ≢ WriteFault → WritesBehind end behind [] books books
writes_nothing Ended behind books other = (refl, refl)
writes_nothing TooLong behind books other = (refl, refl)
writes_nothing Cut behind books other = (refl, refl)
writes_nothing TooMuch behind books other = (refl, refl)
writes_nothing ReadFault behind books other = (refl, refl)
writes_nothing WriteFault behind books other = absurd (other refl)
writes_nothing Memory behind books other = (refl, refl)

-- ---- one line

-- what stands behind a line and its end
line_rest : (bytes : List ℕ) (len : ℕ) → len ≤ length bytes → (b : BeginsWithLine bytes (take len bytes)) → drop (len + 1) bytes ≡ b.rest
line_rest bytes len fits b =
    let size : len + 1 ≡ length (ended (take len bytes)) = omega (arith, length-take-le len bytes fits, length-append (take len bytes) (10 ∷ [])) in
    ap (λ (n : ℕ). drop n bytes) size ∙ ap (drop (length (ended (take len bytes)))) b.whole ∙ drop-append_seam (ended (take len bytes)) b.rest

-- the line is given out with its end
pub gives_line : (old mid new : Held) (before after : Option (List ℕ)) (len : ℕ) → GivesOut old mid before after [] → len ≤ length mid.bytes
    → BeginsWithLine mid.bytes (take len mid.bytes) → new.bytes ≡ drop (len + 1) mid.bytes → new.given ≡ mid.given + (len + 1)
    → GivesOut old new before after (ended (take len mid.bytes))
gives_line old mid new before after len out fits line bytes given = record {
  taken = out.taken;
  from_source = out.from_source;
  once = out.once ∙ line.whole ∙ ap (λ (l : List ℕ). ended (take len mid.bytes) ++ l) (sym (bytes ∙ line_rest mid.bytes len fits line));
  counted = omega (arith, out.counted, given, length-take-le len mid.bytes fits, length-append (take len mid.bytes) (10 ∷ []));
}

module _ {F : Type 0} (stands : F → SeenBooks → Type 0) where
  pub serves_line : (f g : F) (old mid new : Held) (before after from to : Option (List ℕ)) (len : ℕ) → GivesOut old mid before after [] → len ≤ length mid.bytes
      → BeginsWithLine mid.bytes (take len mid.bytes) → new.bytes ≡ drop (len + 1) mid.bytes → new.given ≡ mid.given + (len + 1)
      → (front : List ℕ) → front ≡ take len mid.bytes → WritesReply stands f g front from to → ServesLine stands f g old new before after from to
  serves_line f g old mid new before after from to len out fits line bytes given front same k = record {
    line = take len mid.bytes;
    reply = k.reply;
    is_line = line.is_line;
    out = gives_line old mid new before after len out fits line bytes given;
    written = k.written;
    leads = subst (λ (l : List ℕ). LeadsTo stands f g (Replies l k.reply)) same k.leads;
  }

  -- the sink failed
  pub stops_at_reply : (f g : F) (old new : Held) (before after from to : Option (List ℕ)) (line : List ℕ) → GivesOut old new before after []
      → BeginsWithLine new.bytes line → WritesReplyFront stands f g line from to → StopsScript stands f g old new before after from to WriteFault
  stops_at_reply f g old new before after from to line out begins k = record {
    last = k.text;
    out = out;
    ends = (line, begins);
    written = k.written;
    leads = leads_more stands f g (Replies line (k.text ++ k.more)) (WritesBehind WriteFault new.bytes k.text)
        (λ books more h. record { line = line; more = k.more; begins = begins; replies = h }) k.leads;
  }

  -- no line came
  pub stops_before_line : (f : F) (old new : Held) (before after taken : Option (List ℕ)) (end : ScriptEnd) → GivesOut old new before after []
      → EndsBehind end (new.given + length new.bytes) new.bytes after → end ≢ WriteFault → StopsScript stands f f old new before after taken taken end
  stops_before_line f old new before after taken end out ends other = record {
    last = [];
    out = out;
    ends = ends;
    written = Appends-nil taken;
    leads = leads_to_itself stands f (WritesBehind end new.bytes []) (λ books. writes_nothing end new.bytes books other);
  }

-- ---- the whole script

-- The lines so far were answered, and these bytes are held.
pub record Serving {F : Type 0} (stands : F → SeenBooks → Type 0) (first now : F) (held : Held) (before left from to : Option (List ℕ)) : Type 0 where
  pub input : List ℕ
  pub lines : List (List ℕ)
  pub answered : List ℕ
  pub from_source : Consumes before left input
  pub whole : input ≡ flat_map ended lines ++ held.bytes
  pub given : held.given ≡ length (flat_map ended lines)
  pub each : All IsLine lines
  pub written : Appends from to answered
  pub leads : LeadsTo stands first now (AnswersLines lines answered)

module _ {F : Type 0} (stands : F → SeenBooks → Type 0) where
  -- no byte came yet
  pub serving_first : (f : F) (held : Held) (left taken : Option (List ℕ)) → held.bytes ≡ [] → held.given ≡ 0 → Serving stands f f held left left taken taken
  serving_first f held left taken none zero = record {
    input = [];
    lines = [];
    answered = [];
    from_source = Consumes-nil left;
    whole = sym none;
    given = zero;
    each = All-nil IsLine;
    written = Appends-nil taken;
    leads = leads_to_itself stands f (AnswersLines [] []) (λ books. AnswersLines.nothing books);
  }

  -- the bytes of lines with those of one more
  bytes_more : (lines : List (List ℕ)) (line : List ℕ) → flat_map ended (lines ++ line ∷ []) ≡ flat_map ended lines ++ ended line
  bytes_more lines line = sym (flat_map_more ended [] lines line)

  -- one line more was answered
  pub serving_more : (f g h : F) (a b : Held) (before left after from mid to : Option (List ℕ))
      → Serving stands f g a before left from mid → ServesLine stands g h a b left after mid to → Serving stands f h b before after from to
  serving_more f g h a b before left after from mid to s k =
      let all : flat_map ended (s.lines ++ k.line ∷ []) ≡ flat_map ended s.lines ++ ended k.line = bytes_more s.lines k.line in
      record {
        input = s.input ++ k.out.taken;
        lines = s.lines ++ k.line ∷ [];
        answered = s.answered ++ k.reply;
        from_source = Consumes-trans before left after s.input k.out.taken s.from_source k.out.from_source;
        whole = ap (λ (l : List ℕ). l ++ k.out.taken) s.whole ∙ append_assoc (flat_map ended s.lines) a.bytes k.out.taken
            ∙ ap (λ (l : List ℕ). flat_map ended s.lines ++ l) k.out.once
            ∙ sym (append_assoc (flat_map ended s.lines) (ended k.line) b.bytes) ∙ ap (λ (l : List ℕ). l ++ b.bytes) (sym all);
        given = omega (arith, k.out.counted, s.given, ap length all, length-append (flat_map ended s.lines) (ended k.line));
        each = All-push IsLine s.lines k.line s.each k.is_line;
        written = Appends-trans from mid to s.answered k.reply s.written k.written;
        leads = λ old is.
            let first = s.leads old is in
            let next = k.leads first.0 first.1 in
            (next.0, next.1, AnswersLines.one_more s.lines k.line s.answered k.reply old first.0 next.0 first.2 next.2);
      }

  -- the script ended
  pub serves_to_end : (f g h : F) (a b : Held) (before left after from mid to : Option (List ℕ)) (end : ScriptEnd)
      → Serving stands f g a before left from mid → StopsScript stands g h a b left after mid to end → ServesScript stands f h before after from to end
  serves_to_end f g h a b before left after from mid to end s k =
      let whole : s.input ++ k.out.taken ≡ flat_map ended s.lines ++ b.bytes =
      ap (λ (l : List ℕ). l ++ k.out.taken) s.whole ∙ append_assoc (flat_map ended s.lines) a.bytes k.out.taken ∙ ap (λ (l : List ℕ). flat_map ended s.lines ++ l) k.out.once in
      let count : b.given + length b.bytes ≡ length (s.input ++ k.out.taken) =
      omega (arith, s.given, k.out.counted, ap length whole, length-append (flat_map ended s.lines) b.bytes) in
      record {
        input = s.input ++ k.out.taken;
        lines = s.lines;
        behind = b.bytes;
        answered = s.answered;
        last = k.last;
        from_source = Consumes-trans before left after s.input k.out.taken s.from_source k.out.from_source;
        whole = whole;
        each = s.each;
        ends = subst (λ (n : ℕ). EndsBehind end n b.bytes after) count k.ends;
        written = Appends-trans from mid to s.answered k.last s.written k.written;
        leads = λ old is.
            let first = s.leads old is in
            let next = k.leads first.0 first.1 in
            (next.0, next.1, record { mid = first.0; lines_are = first.2; rest = next.2 });
      }

  -- it ended where it was
  stops_there : (f : F) (a : Held) (left taken : Option (List ℕ)) (end : ScriptEnd) → EndsBehind end (a.given + length a.bytes) a.bytes left → end ≢ WriteFault
      → StopsScript stands f f a a left left taken taken end
  stops_there f a left taken end ends other =
      stops_before_line stands f a a left left taken end (record { taken = []; from_source = Consumes-nil left; once = append-nil a.bytes; counted = omega arith }) ends other

  -- there was no memory for it at all
  pub serves_nothing : (f : F) (left taken : Option (List ℕ)) → ServesScript stands f f left left taken taken Memory
  serves_nothing f left taken =
      let none : Held = record { bytes = []; given = 0 } in
      serves_to_end f f f none none left left left taken taken taken Memory (serving_first f none left taken refl refl)
      (stops_there f none left taken Memory refl (λ e. cc))

  -- as many lines came as there may be bytes
  pub serves_too_many : (f g : F) (a : Held) (before left from to : Option (List ℕ)) → Serving stands f g a before left from to → 2 ^ 40 ≤ a.given
      → a.given + length a.bytes ≤ 2 ^ 40 → (length a.bytes ≡ 0 → a.bytes ≡ []) → ServesScript stands f g before left from to TooMuch
  serves_too_many f g a before left from to s many most none =
      let zero : length a.bytes ≡ 0 = omega (arith, many, most) in
      serves_to_end f g g a a before left left from to to TooMuch s
      (stops_there g a left to TooMuch (part_of a.bytes (omega (arith, zero)) (subst (All (λ b. b ≢ 10)) (sym (none zero)) (All-nil (λ b. b ≢ 10))), omega (arith, zero, many, most)) (λ e. cc))

  -- each line has its end
  pub counts_more : (f g : F) (a b : Held) (before after from to : Option (List ℕ)) → ServesLine stands f g a b before after from to → a.given + 1 ≤ b.given
  counts_more f g a b before after from to k = omega (arith, k.out.counted, length-append k.line (10 ∷ []))
