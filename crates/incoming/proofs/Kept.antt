-- What is kept in memory, as records are taken in.
use Rattle.std.proofs.Common.{◌≡◌, ◌≢◌, ℕ, ◌+◌, ◌-◌, ◌<◌, ◌≤◌, ◌^◌, max, Bool, cond, eqb, List, [], ◌∷◌, ◌++◌, length, map, Option, Some, None, refl, sym, ap, subst, ◌∙◌, arith, length-append}
use Rattle.std.proofs.lemmas.List.{length-map, map_push, nil_from_length}
use Rattle.series_model.specs.declared.measure.Measure.{Measure}
use Rattle.gno_codec.specs.Incoming.{post_bytes, next_bytes, IsPost, IsNext}
use Rattle.std.specs.Option.{IfSome}
use Rattle.gate_log.specs.LogView.{Adds}
use Rattle.incoming.specs.declared.contents.Contents.{Contents}
use Rattle.incoming.specs.declared.mark.Mark.{Mark}
use Rattle.incoming.specs.Contents.{AreOf, IsKept}
use Rattle.incoming.specs.Damage.{IsOddBehind, late, low}
use Rattle.incoming.specs.Lists.{list_of, places_where}
use Rattle.incoming.specs.Posts.{IsIncomingLog, Post, RiseFrom, is_of, last_number, mark_of, marks_of, next_number, post_record, start_number, start_records}
use Rattle.incoming.proofs.Logs.{log_next, log_post}
use Rattle.incoming.proofs.Marks.{RiseFrom-push, last_from-push, places-push}

-- where no mark has changed
pub IsKept-same : (c d : Contents) → d.marks.items ≡ c.marks.items → d.next ≡ c.next → ((m : ℕ) → list_of d.lists m ≡ list_of c.lists m) → IsKept c → IsKept d
IsKept-same c d marks next lists k = record {
  rise = subst (RiseFrom 0) (sym marks) k.rise;
  below = omega (arith, ap last_number marks, next, k.below);
  limit = omega (arith, next, k.limit);
  lists = λ m. lists m ∙ k.lists m ∙ ap (places_where (is_of (record { 0 = m })) 0) (sym marks);
}

pub IsKept-push : (c d : Contents) (mark : Mark) (n : ℕ) → IsKept c → last_number c.marks.items < mark.number → mark.number < 2 ^ 63 → d.marks.items ≡ c.marks.items ++ mark ∷ [] → d.next ≡ max c.next (mark.number + 1)
    → n ≡ length c.marks.items → ((m : ℕ) → list_of d.lists m ≡ cond (eqb mark.metric.0 m) (list_of c.lists m ++ n ∷ []) (list_of c.lists m)) → IsKept d
IsKept-push c d mark n k above limit marks next size lists = record {
  rise = subst (RiseFrom 0) (sym marks) (RiseFrom-push 0 c.marks.items mark k.rise above);
  below = omega (arith, ap last_number marks, last_from-push 0 c.marks.items mark, next);
  limit = omega (arith, next, k.limit, limit);
  lists = λ m.
      let e : 0 + length c.marks.items ≡ n = omega (arith, size) in
      lists m ∙ ap (λ (xs : List ℕ). cond (eqb mark.metric.0 m) (xs ++ n ∷ []) xs) (k.lists m)
      ∙ sym (places-push (is_of (record { 0 = m })) 0 c.marks.items mark n e)
      ∙ ap (places_where (is_of (record { 0 = m })) 0) (sym marks);
}

-- ---- what is kept is that of records

pub AreOf-length : (c : Contents) (records : List (List ℕ)) → AreOf c records → length records ≡ c.first + length c.marks.items
AreOf-length c records are =
    omega (arith, ap length are.log.records_are, length-append (start_records are.start) (map post_record are.posts), length-map are.posts post_record, length-map are.posts mark_of, ap length are.marks_are, are.first_is)

pub AreOf-same : (c d : Contents) (records : List (List ℕ)) → d.marks.items ≡ c.marks.items → d.first ≡ c.first → d.next ≡ c.next → AreOf c records → AreOf d records
AreOf-same c d records marks first next are = record {
  start = are.start;
  posts = are.posts;
  log = are.log;
  marks_are = marks ∙ are.marks_are;
  next_is = next ∙ are.next_is ∙ ap (next_number are.start) (sym marks);
  first_is = first ∙ are.first_is;
}

pub AreOf-post : (c d : Contents) (records : List (List ℕ)) (mark : Mark) (measures : List Measure) → IsPost mark.number mark.metric.0 measures → last_number c.marks.items < mark.number
    → d.marks.items ≡ c.marks.items ++ mark ∷ [] → d.first ≡ c.first → d.next ≡ max c.next (mark.number + 1) → AreOf c records → AreOf d (records ++ post_bytes mark.number mark.metric.0 measures ∷ [])
AreOf-post c d records mark measures fits above marks first next are =
    let post : Post = record { number = mark.number; metric = mark.metric; measures = measures } in
    let above_posts : last_number (marks_of are.posts) < mark.number = subst (λ (ms : List Mark). last_number ms < mark.number) are.marks_are above in
    record {
      start = are.start;
      posts = are.posts ++ post ∷ [];
      log = log_post records are.start are.posts post are.log fits above_posts;
      marks_are = marks ∙ ap (λ (ms : List Mark). ms ++ mark ∷ []) are.marks_are ∙ sym (map_push mark_of are.posts post);
      next_is = omega (arith, next, are.next_is, above, ap last_number marks, last_from-push 0 c.marks.items mark);
      first_is = first ∙ are.first_is;
    }

no_start : (start : Option ℕ) → length (start_records start) ≡ 0 → start_records start ≡ []
no_start start e = nil_from_length (start_records start) e

nothing_yet : (c : Contents) (records : List (List ℕ)) → c.first + length c.marks.items ≡ 0 → AreOf c records → records ≡ []
nothing_yet c records none are = nil_from_length records (AreOf-length c records are ∙ none)

pub AreOf-next : (c d : Contents) (records : List (List ℕ)) (number : ℕ) → IsNext number → c.first + length c.marks.items ≡ 0
    → d.marks.items ≡ c.marks.items → d.first ≡ 1 → d.next ≡ number → AreOf c records → AreOf d (records ++ next_bytes number ∷ [])
AreOf-next c d records number fits none marks first next are =
    let no_marks : d.marks.items ≡ [] = marks ∙ nil_from_length c.marks.items (omega (arith, none)) in
    record {
      start = Some number;
      posts = [];
      log = subst (λ (rs : List (List ℕ)). IsIncomingLog (rs ++ next_bytes number ∷ []) (Some number) []) (sym (nothing_yet c records none are)) (log_next number fits);
      marks_are = no_marks;
      next_is = omega (arith, next, fits.first, ap last_number no_marks);
      first_is = first;
    }

-- ---- records that may not stand there

pub late_next : (c : Contents) (records : List (List ℕ)) (number : ℕ) → IsNext number → 0 < c.first + length c.marks.items → AreOf c records → IsOddBehind records (next_bytes number)
late_next c records number fits some are = record {
  start = are.start;
  posts = are.posts;
  log = are.log;
  odd = late number fits refl (λ none. omega (arith, some, AreOf-length c records are, ap length none));
}

pub low_post : (c : Contents) (records : List (List ℕ)) (mark : Mark) (measures : List Measure) → IsPost mark.number mark.metric.0 measures → mark.number ≤ last_number c.marks.items → AreOf c records
    → IsOddBehind records (post_bytes mark.number mark.metric.0 measures)
low_post c records mark measures fits le are = record {
  start = are.start;
  posts = are.posts;
  log = are.log;
  odd = low (record { number = mark.number; metric = mark.metric; measures = measures }) fits refl (subst (λ (ms : List Mark). mark.number ≤ last_number ms) are.marks_are le);
}

-- records with a post at their end
pub AreOf-added : (c d : Contents) (old new : Option (List (List ℕ))) (mark : Mark) (measures : List Measure) (body : List ℕ) → IsPost mark.number mark.metric.0 measures → body ≡ post_bytes mark.number mark.metric.0 measures
    → last_number c.marks.items < mark.number → d.marks.items ≡ c.marks.items ++ mark ∷ [] → d.first ≡ c.first → d.next ≡ max c.next (mark.number + 1) → Adds old new body → IfSome old (AreOf c) → IfSome new (AreOf d)
AreOf-added c d None None mark measures body fits is above marks first next adds are = tt
AreOf-added c d None (Some new) mark measures body fits is above marks first next adds are = absurd adds
AreOf-added c d (Some old) None mark measures body fits is above marks first next adds are = tt
AreOf-added c d (Some old) (Some new) mark measures body fits is above marks first next adds are =
    subst (AreOf d) (sym (adds ∙ ap (λ (b : List ℕ). old ++ b ∷ []) is)) (AreOf-post c d old mark measures fits above marks first next are)
