-- An input is lines in one way, and a script of whole lines is answered to its end.
use Rattle.std.proofs.Common.{◌≡◌, ◌≢◌, ℕ, ◌<◌, ◌≤◌, ◌^◌, List, [], ◌∷◌, ◌++◌, length, take, Option, Some, None, inl, inr, ◌⊎◌, refl, sym, ap, subst, ◌∙◌, append_assoc, append-nil, length-append, arith}
use Rattle.std.specs.List.{All, flat_map}
use Rattle.std.specs.Io.KnownBytes.{Consumes, IsAtEnd}
use Rattle.std.proofs.Math.Seq.{get_or-append_seam}
use Rattle.std.proofs.lemmas.List.{length-take, get_or-take, take-append-le}
use Rattle.std.proofs.lemmas.List.Elements.{All-head, All-tail, All-take}
use Rattle.front_api.specs.Seen.{LeadsTo, SeenBooks}
use Rattle.rest_script.specs.Laws.{AreAnswered}
use Rattle.rest_script.specs.Lines.{AreLines, AreUnfinished, EndsBehind, IsLine, IsLong, ended}
use Rattle.rest_script.specs.Replying.{AnswersLines}
use Rattle.rest_script.specs.Serving.{ServesScript, Transcribes}
use Rattle.rest_script.specs.declared.script_end.ScriptEnd.{ScriptEnd}
use Rattle.rest_script.specs.declared.script_end.ScriptEnd.TheVariants.{Ended, TooLong, Cut, TooMuch, ReadFault, WriteFault, Memory}
use Rattle.rest_script.proofs.LineLemmas.{NoFeed}

-- the first line feed ends the first line
same_line : (a b x y : List ℕ) → NoFeed a → NoFeed b → a ++ (10 ∷ x) ≡ b ++ (10 ∷ y) → (a ≡ b) × (x ≡ y)
same_line [] [] x y p q e = (refl, cc)
same_line [] (c ∷ b) x y p q e = let h : 10 ≡ c = cc in absurd (All-head (λ b. b ≢ 10) c b q (sym h))
same_line (c ∷ a) [] x y p q e = let h : c ≡ 10 = cc in absurd (All-head (λ b. b ≢ 10) c a p h)
same_line (c ∷ a) (d ∷ b) x y p q e =
    let head : c ≡ d = cc in
    let tail : a ++ (10 ∷ x) ≡ b ++ (10 ∷ y) = cc in
    let rest = same_line a b x y (All-tail (λ b. b ≢ 10) c a p) (All-tail (λ b. b ≢ 10) d b q) tail in
    (let same = rest.0 in cc, rest.1)

-- a line feed stands within the first bytes where a line begins them
no_line_first : (line x : List ℕ) → IsLine line → NoFeed (take 1048577 (line ++ (10 ∷ x))) → ⊥
no_line_first line x l h =
    let bytes = line ++ (10 ∷ x) in
    let k = length line in
    let short : k ≤ 1048576 = l.short in
    let long : k < length bytes = let e = length-append line (10 ∷ x) in omega arith in
    let cut = length-take 1048577 bytes in
    let within : k < length (take 1048577 bytes) = omega arith in
    h k 0 within (get_or-take 1048577 bytes k 0 (omega arith) ∙ get_or-append_seam line 10 x 0)

-- the bytes of some lines, from the first line on
regroup : (l : List ℕ) (a : List (List ℕ)) (rest : List ℕ) → flat_map ended (l ∷ a) ++ rest ≡ l ++ (10 ∷ (flat_map ended a ++ rest))
regroup l a rest =
    ap (λ bytes. bytes ++ rest) (append_assoc l (10 ∷ []) (flat_map ended a)) ∙ append_assoc l (10 ∷ flat_map ended a) rest

first_line : (l : List ℕ) (a : List (List ℕ)) → flat_map ended (l ∷ a) ≡ l ++ (10 ∷ flat_map ended a)
first_line l a = append_assoc l (10 ∷ []) (flat_map ended a)

not_empty : (l x : List ℕ) → [] ≡ l ++ (10 ∷ x) → ⊥
not_empty [] x e = cc
not_empty (b ∷ l) x e = cc

pub same_lines : (a b : List (List ℕ)) → All IsLine a → All IsLine b → flat_map ended a ≡ flat_map ended b → a ≡ b
same_lines [] [] p q e = refl
same_lines [] (m ∷ b) p q e = absurd (not_empty m (flat_map ended b) (e ∙ first_line m b))
same_lines (l ∷ a) [] p q e = absurd (not_empty l (flat_map ended a) (sym e ∙ first_line l a))
same_lines (l ∷ a) (m ∷ b) p q e =
    let first = same_line l m (flat_map ended a) (flat_map ended b) (All-head IsLine l a p).no_feed (All-head IsLine m b q).no_feed (sym (first_line l a) ∙ e ∙ first_line m b) in
    let rest = same_lines a b (All-tail IsLine l a p) (All-tail IsLine m b q) first.1 in
    ap (λ (line : List ℕ). line ∷ a) first.0 ∙ ap (λ lines. m ∷ lines) rest

-- lines are no lines and others that begin with none
pub not_unfinished : (a b : List (List ℕ)) (rest : List ℕ) → All IsLine a → All IsLine b → 0 < length rest → NoFeed (take 1048577 rest) → flat_map ended a ≡ flat_map ended b ++ rest → ⊥
not_unfinished [] [] rest p q some none e = let none_left = ap length e in omega arith
not_unfinished (l ∷ a) [] rest p q some none e =
    no_line_first l (flat_map ended a) (All-head IsLine l a p) (subst (λ bytes. NoFeed (take 1048577 bytes)) (sym e ∙ first_line l a) none)
not_unfinished [] (m ∷ b) rest p q some none e = not_empty m (flat_map ended b ++ rest) (e ∙ regroup m b rest)
not_unfinished (l ∷ a) (m ∷ b) rest p q some none e =
    let first = same_line l m (flat_map ended a) (flat_map ended b ++ rest) (All-head IsLine l a p).no_feed (All-head IsLine m b q).no_feed (sym (first_line l a) ∙ e ∙ regroup m b rest) in
    not_unfinished a b rest (All-tail IsLine l a p) (All-tail IsLine m b q) some none first.1

-- ---- the end of a script

-- what was taken is the front of the input
front_of : (input taken : List ℕ) (left : Option (List ℕ)) → Consumes (Some input) left taken → (rest : List ℕ) × (input ≡ taken ++ rest)
front_of input taken None h = absurd h
front_of input taken (Some rest) h = (rest, h)

-- all of it where nothing is left
all_of : (input taken : List ℕ) (left : Option (List ℕ)) → Consumes (Some input) left taken → IsAtEnd left → input ≡ taken
all_of input taken None h end = absurd h
all_of input taken (Some rest) h end = h ∙ ap (λ (l : List ℕ). taken ++ l) end ∙ append-nil taken

module _ {F : Type 0} (stands : F → SeenBooks → Type 0) (old new : F) (input : List ℕ) (left taken_before taken_after : Option (List ℕ)) where
  -- not all of the input can have been taken
  too_many : (taken : List ℕ) (rest : Option (List ℕ)) → Consumes (Some input) rest taken → length taken ≡ 2 ^ 40 → length input < 2 ^ 40 → ⊥
  too_many taken rest from many few =
      let front = front_of input taken rest from in
      omega (arith, many, few, ap length front.1, length-append taken front.0)

  -- where it ended, its lines are the input
  all_lines : (s : ServesScript stands old new (Some input) left taken_before taken_after Ended) → input ≡ flat_map ended s.lines
  all_lines s = all_of input s.input left s.from_source s.ends.1 ∙ s.whole ∙ ap (λ (l : List ℕ). flat_map ended s.lines ++ l) s.ends.0 ∙ append-nil (flat_map ended s.lines)

  pub ends_whole : (lines : List (List ℕ)) (end : ScriptEnd) → ServesScript stands old new (Some input) left taken_before taken_after end → AreLines input lines → length input < 2 ^ 40
      → end ≢ ReadFault → end ≢ WriteFault → end ≢ Memory → end ≡ Ended
  ends_whole lines Ended s are few no_read no_write starved = refl
  ends_whole lines TooLong s are few no_read no_write starved =
      let front = front_of input s.input left s.from_source in
      let whole : flat_map ended lines ≡ flat_map ended s.lines ++ (s.behind ++ front.0) =
      sym are.whole ∙ front.1 ∙ ap (λ (l : List ℕ). l ++ front.0) s.whole ∙ append_assoc (flat_map ended s.lines) s.behind front.0 in
      absurd (not_unfinished lines s.lines (s.behind ++ front.0) are.each s.each (omega (arith, s.ends.over, length-append s.behind front.0))
      (subst NoFeed (sym (take-append-le 1048577 s.behind front.0 (omega (arith, s.ends.over)))) s.ends.no_feed) whole)
  ends_whole lines Cut s are few no_read no_write starved =
      let whole : flat_map ended lines ≡ flat_map ended s.lines ++ s.behind = sym are.whole ∙ all_of input s.input left s.from_source s.ends.2 ∙ s.whole in
      absurd (not_unfinished lines s.lines s.behind are.each s.each s.ends.1 (All-take (λ b. b ≢ 10) 1048577 s.behind s.ends.0.no_feed) whole)
  ends_whole lines TooMuch s are few no_read no_write starved = absurd (too_many s.input left s.from_source s.ends.1 few)
  ends_whole lines ReadFault s are few no_read no_write starved = absurd (no_read refl)
  ends_whole lines WriteFault s are few no_read no_write starved = absurd (no_write refl)
  ends_whole lines Memory s are few no_read no_write starved = absurd (starved refl)

  pub ends_refused : (lines : List (List ℕ)) (end : ScriptEnd) → ServesScript stands old new (Some input) left taken_before taken_after end → AreUnfinished input lines → length input < 2 ^ 40
      → end ≢ ReadFault → end ≢ WriteFault → end ≢ Memory → (end ≡ TooLong) ⊎ (end ≡ Cut)
  ends_refused lines Ended s are few no_read no_write starved =
      absurd (not_unfinished s.lines lines are.rest s.each are.each are.more are.no_feed (sym (all_lines s) ∙ are.whole))
  ends_refused lines TooLong s are few no_read no_write starved = inl refl
  ends_refused lines Cut s are few no_read no_write starved = inr refl
  ends_refused lines TooMuch s are few no_read no_write starved = absurd (too_many s.input left s.from_source s.ends.1 few)
  ends_refused lines ReadFault s are few no_read no_write starved = absurd (no_read refl)
  ends_refused lines WriteFault s are few no_read no_write starved = absurd (no_write refl)
  ends_refused lines Memory s are few no_read no_write starved = absurd (starved refl)

  -- ended, all lines are the input's
  pub ended_whole : ServesScript stands old new (Some input) left taken_before taken_after Ended → AreAnswered stands old new input taken_before taken_after
  ended_whole s = record {
    lines = s.lines;
    replies = s.answered ++ s.last;
    lines_are = record { whole = all_lines s; each = s.each };
    written = s.written;
    leads = λ books is.
        let t = s.leads books is in
        (t.0, t.1, all_answered s.lines s.behind s.answered s.last books t.0 t.2);
  }
    where
      all_answered : (lines : List (List ℕ)) (behind answered last : List ℕ) (books after : SeenBooks) → Transcribes lines behind Ended answered last books after → AnswersLines lines (answered ++ last) books after
      all_answered lines behind answered last books after t =
          let text : answered ++ last ≡ answered = ap (λ (l : List ℕ). answered ++ l) t.rest.0 ∙ append-nil answered in
          subst (λ (b : SeenBooks). AnswersLines lines (answered ++ last) books b) (sym t.rest.1)
          (subst (λ (l : List ℕ). AnswersLines lines l books t.mid) (sym text) t.lines_are)
