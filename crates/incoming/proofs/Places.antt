-- The posts of a metric, by the places of their marks.
use Rattle.std.proofs.Common.{◌≡◌, ℕ, zero, suc, ◌+◌, ◌<◌, ◌≤◌, Bool, true, false, ◌&&◌, leb, ltb, List, [], ◌∷◌, ◌++◌, length, get_or, map, take, drop, inl, inr, Option, Some, None, refl, sym, ap, subst, ◌∙◌, arith, length-append}
use Rattle.std.specs.Option.{IfSome}
use Rattle.std.specs.List.{All, filter, AllByRecursion, slice_get}
use Rattle.std.specs.List.Sorted.{IsPartitionPoint, IsPartitionedBy}
use Rattle.std.proofs.lemmas.Bool.{both_ways, cases_Bool, leb-true, leb-false, le-leb, le-ltb, lt-ltb}
use Rattle.std.proofs.lemmas.List.{get_or-append-add, get_or_default, get_or-map, length-map, map-id, map_push, take-map, take_all, take_more}
use Rattle.std.proofs.lemmas.List.Elements.{All-from_recursion, All-take}
use Rattle.std.proofs.lemmas.Option.{IfSome_then, get_or_from_slice_get, slice_get-get_or}
use Rattle.series_model.specs.declared.measure.Measure.{Measure}
use Rattle.series_model.specs.declared.metric.MetricId.{MetricId}
use Rattle.gno_codec.specs.Incoming.{post_bytes, IsPost}
use Rattle.incoming.specs.declared.contents.Contents.{Contents}
use Rattle.incoming.specs.declared.mark.Mark.{Mark}
use Rattle.incoming.specs.Contents.{AreOf}
use Rattle.incoming.specs.Lists.{IsBetween, is_upto, number_at, places_where}
use Rattle.incoming.specs.Posts.{HasRecord, Post, RiseFrom, is_above, is_of, mark_of, marks_of, numbers_above, post_record, posts_above, start_records}
use Rattle.incoming.specs.Reading.{IsFoundIn, answer_at, answer_of}
use Rattle.incoming.proofs.Logs.{same_post}
use Rattle.incoming.proofs.Marks.{RiseFrom-filter, RiseFrom-mono, drop-filter, places-both, places-values, places-within}

abbrev no_mark : Mark
no_mark = record { number = 0; metric = record { 0 = 0 } }

abbrev no_post : Post
no_post = record { number = 0; metric = record { 0 = 0 }; measures = [] }

-- ---- numbers

pub numbers_where : (test : Mark → Bool) (marks : List Mark) → map (number_at marks) (places_where test 0 marks) ≡ map (λ m. m.number) (filter test marks)
numbers_where test marks =
    ap (λ (ms : List Mark). map (number_at marks) (places_where test 0 ms)) (sym (map-id marks))
    ∙ places-values (λ m. m) (λ m. m.number) no_mark test [] marks 0 refl

module _ (test : Mark → Bool) (marks : List Mark) where
  abbrev those : List ℕ
  those = places_where test 0 marks

  same_count : length those ≡ length (filter test marks)
  same_count = sym (length-map those (number_at marks)) ∙ ap length (numbers_where test marks) ∙ length-map (filter test marks) (λ m. m.number)

  number_there : (k d : ℕ) → k < length those → number_at marks (get_or those k d) ≡ (get_or (filter test marks) k no_mark).number
  number_there k d lt =
      let lt_too : k < length (filter test marks) = omega (arith, same_count) in
      sym (get_or-map (number_at marks) those k d 0 lt) ∙ ap (λ (ns : List ℕ). get_or ns k 0) (numbers_where test marks) ∙ get_or-map (λ m. m.number) (filter test marks) k no_mark 0 lt_too

  pub partitioned : (above : ℕ) (list : List ℕ) → list ≡ those → RiseFrom 0 marks → IsPartitionedBy (is_upto marks above) list
  partitioned above list is rise = subst (IsPartitionedBy (is_upto marks above)) (sym is) (λ i j d le lt upto.
      let first = number_there i d (omega (arith, le, lt)) in
      let second = number_there j d lt in
      let mono = RiseFrom-mono 0 (filter test marks) i j no_mark (RiseFrom-filter test 0 marks rise) le (omega (arith, same_count, lt)) in
      let most = leb-true _ _ upto in
      le-leb _ _ (omega (arith, first, second, mono, most)))

-- what stands behind the point where a number is passed
pub above_point : (metric : MetricId) (above : ℕ) (marks : List Mark) (list : List ℕ) (upto : ℕ) → list ≡ places_where (is_of metric) 0 marks
    → IsPartitionPoint (λ at. is_upto marks above at ≡ true) (λ at. is_upto marks above at ≡ false) list upto → drop upto list ≡ places_where (is_above metric above) 0 marks
above_point metric above marks list upto is point =
    drop-filter (λ at. ltb above (number_at marks at)) list upto
    (λ k d lt in_it. le-ltb _ _ (leb-true _ _ (point.0 k d (omega arith) lt)))
    (λ k d le lt. lt-ltb _ _ (leb-false _ _ (point.1 k d le lt)))
    ∙ ap (filter (λ at. ltb above (number_at marks at))) is
    ∙ places-both (is_of metric) (λ m. ltb above m.number) no_mark [] marks 0 refl

pub numbers_are : (metric : MetricId) (above : ℕ) (marks : List Mark) → map (number_at marks) (places_where (is_above metric above) 0 marks) ≡ numbers_above metric above marks
numbers_are metric above marks = numbers_where (is_above metric above) marks

pub count_is : (metric : MetricId) (above : ℕ) (marks : List Mark) → length (places_where (is_above metric above) 0 marks) ≡ length (numbers_above metric above marks)
count_is metric above marks = sym (length-map (places_where (is_above metric above) 0 marks) (number_at marks)) ∙ ap length (numbers_are metric above marks)

pub first_numbers : (metric : MetricId) (above : ℕ) (marks : List Mark) (most : ℕ) → map (number_at marks) (take most (places_where (is_above metric above) 0 marks)) ≡ take most (numbers_above metric above marks)
first_numbers metric above marks most =
    sym (take-map (number_at marks) most (places_where (is_above metric above) 0 marks)) ∙ ap (take most) (numbers_are metric above marks)

-- ---- posts

pub first_posts : (metric : MetricId) (above : ℕ) (marks : List Mark) (posts : List Post) (most : ℕ) → marks ≡ marks_of posts
    → map (answer_at posts) (take most (places_where (is_above metric above) 0 marks)) ≡ map answer_of (take most (posts_above metric above posts))
first_posts metric above marks posts most is =
    let all : map (answer_at posts) (places_where (is_above metric above) 0 (marks_of posts)) ≡ map answer_of (posts_above metric above posts) =
    places-values mark_of answer_of no_post (is_above metric above) [] posts 0 refl in
    sym (take-map (answer_at posts) most (places_where (is_above metric above) 0 marks))
    ∙ ap (λ (ms : List Mark). take most (map (answer_at posts) (places_where (is_above metric above) 0 ms))) is
    ∙ ap (take most) all
    ∙ take-map answer_of most (posts_above metric above posts)

pub AreOf-found : (c : Contents) (records : List (List ℕ)) (are : AreOf c records) → IsFoundIn records c.first c.marks.items are.posts
AreOf-found c records are = record {
  front = start_records are.start;
  front_is = sym are.first_is;
  records_are = are.log.records_are;
  marks_are = are.marks_are;
  each = are.log.each;
}

module _ (records : List (List ℕ)) (first : ℕ) (marks : List Mark) (posts : List Post) (found : IsFoundIn records first marks posts) (at : ℕ) (lt : at < length marks) where
  same_long : length posts ≡ length marks
  same_long = sym (length-map posts mark_of) ∙ sym (ap length found.marks_are)

  abbrev there : Post
  there = get_or posts at no_post

  has_there : HasRecord there
  has_there = All-from_recursion HasRecord posts found.each at no_post (omega (arith, same_long, lt))

  -- its record
  record_there : get_or records (first + at) [] ≡ post_record there
  record_there =
      ap (λ (rs : List (List ℕ)). get_or rs (first + at) []) found.records_are
      ∙ ap (λ (n : ℕ). get_or (found.front ++ map post_record posts) (n + at) []) (sym found.front_is)
      ∙ get_or-append-add found.front (map post_record posts) at []
      ∙ get_or-map post_record posts at no_post [] (omega (arith, same_long, lt))

  mark_there : (mark d : Mark) → mark ≡ get_or marks at d → mark ≡ mark_of there
  mark_there mark d is =
      is ∙ ap (λ (ms : List Mark). get_or ms at d) found.marks_are ∙ get_or-map mark_of posts at no_post d (omega (arith, same_long, lt))

  -- what was read there is the post
  pub answer_there : (mark : Mark) (measures : List Measure) → IsPost mark.number mark.metric.0 measures → slice_get records (first + at) ≡ Some (post_bytes mark.number mark.metric.0 measures)
      → answer_at posts at ≡ (mark.number, measures)
  answer_there mark measures fits stands =
      let e : post_record there ≡ post_bytes mark.number mark.metric.0 measures = sym record_there ∙ get_or_from_slice_get records (first + at) (post_bytes mark.number mark.metric.0 measures) [] stands in
      let own : Post = record { number = mark.number; metric = mark.metric; measures = measures } in
      ap answer_of (same_post there own has_there fits e)

  -- so another record never stands there
  pub never_other : (mark d : Mark) → mark ≡ get_or marks at d
      → ((measures : List Measure) → IsPost mark.number mark.metric.0 measures → slice_get records (first + at) ≡ Some (post_bytes mark.number mark.metric.0 measures) → ⊥) → ⊥
  never_other mark d is other =
      let same = mark_there mark d is in
      let within : first + at < length records = omega (arith, ap length found.records_are, length-append found.front (map post_record posts), length-map posts post_record, found.front_is, same_long, lt) in
      other there.measures (subst (λ (m : Mark). IsPost m.number m.metric.0 there.measures) (sym same) has_there)
      (slice_get-get_or records (first + at) [] within ∙ ap (λ (b : List ℕ). Some b) record_there ∙ ap (λ (m : Mark). Some (post_bytes m.number m.metric.0 there.measures)) (sym same))

-- the first places are those of marks
pub within_first : (test : Mark → Bool) (marks : List Mark) (most : ℕ) (list : List ℕ) → list ≡ take most (places_where test 0 marks) → All (λ at. at < length marks) list
within_first test marks most list is =
    subst (All (λ at. at < length marks)) (sym is)
    (All-take (λ at. at < length marks) most (places_where test 0 marks) (All-from_recursion (λ at. at < length marks) (places_where test 0 marks) (places-within test 0 marks (length marks) (omega arith))))

-- ---- the same, where records are told

pub posts_told : (c : Contents) (marks : List Mark) (same : marks ≡ c.marks.items) (records : Option (List (List ℕ))) (metric : MetricId) (above most : ℕ) (list : List ℕ) (found : List (ℕ × List Measure)) → list ≡ take most (places_where (is_above metric above) 0 c.marks.items)
    → IfSome records (λ rs. (posts : List Post) → IsFoundIn rs c.first marks posts → found ≡ map (answer_at posts) list)
    → IfSome records (λ rs. (of : AreOf c rs) → found ≡ map answer_of (take most (posts_above metric above of.posts)))
posts_told c marks same records metric above most list found is told = IfSome_then records told (λ rs has of.
    has of.posts (subst (λ (ms : List Mark). IsFoundIn rs c.first ms of.posts) (sym same) (AreOf-found c rs of)) ∙ ap (map (answer_at of.posts)) is ∙ first_posts metric above c.marks.items of.posts most of.marks_are)

pub never_told : (c : Contents) (marks : List Mark) (same : marks ≡ c.marks.items) (records : Option (List (List ℕ))) → IfSome records (λ rs. (posts : List Post) → IsFoundIn rs c.first marks posts → ⊥) → IfSome records (λ rs. AreOf c rs → ⊥)
never_told c marks same records none = IfSome_then records none (λ rs never of. never of.posts (subst (λ (ms : List Mark). IsFoundIn rs c.first ms of.posts) (sym same) (AreOf-found c rs of)))

pub answer_told : (records : Option (List (List ℕ))) (first : ℕ) (marks : List Mark) (at : ℕ) (mark : Mark) (measures : List Measure) → at < length marks
    → IfSome records (λ rs. (slice_get rs (first + at) ≡ Some (post_bytes mark.number mark.metric.0 measures)) × IsPost mark.number mark.metric.0 measures)
    → IfSome records (λ rs. (posts : List Post) → IsFoundIn rs first marks posts → (mark.number, measures) ≡ answer_at posts at)
answer_told None first marks at mark measures lt read = tt
answer_told (Some rs) first marks at mark measures lt read = λ posts of. sym (answer_there rs first marks posts of at lt mark measures read.1 read.0)

pub numbers_more : (marks : List Mark) (places : List ℕ) (i : ℕ) (found : List (ℕ × List Measure)) (post : ℕ × List Measure) → i < length places
    → map (λ p. p.0) found ≡ map (number_at marks) (take i places) → post.0 ≡ number_at marks (get_or places i 0) → map (λ p. p.0) (found ++ post ∷ []) ≡ map (number_at marks) (take (i + 1) places)
numbers_more marks places i found post lt so_far number =
    map_push (λ (p : ℕ × List Measure). p.0) found post
    ∙ ap (λ (ns : List ℕ). ns ++ post.0 ∷ []) so_far ∙ ap (λ (n : ℕ). map (number_at marks) (take i places) ++ n ∷ []) number
    ∙ sym (map_push (number_at marks) (take i places) (get_or places i 0)) ∙ ap (map (number_at marks)) (sym (take_more places i 0 lt))

pub told_more : (records : Option (List (List ℕ))) (first : ℕ) (marks : List Mark) (places : List ℕ) (i : ℕ) (found : List (ℕ × List Measure)) (post : ℕ × List Measure) → i < length places
    → IfSome records (λ rs. (posts : List Post) → IsFoundIn rs first marks posts → found ≡ map (answer_at posts) (take i places))
    → IfSome records (λ rs. (posts : List Post) → IsFoundIn rs first marks posts → post ≡ answer_at posts (get_or places i 0))
    → IfSome records (λ rs. (posts : List Post) → IsFoundIn rs first marks posts → found ++ post ∷ [] ≡ map (answer_at posts) (take (i + 1) places))
told_more None first marks places i found post lt so_far here = tt
told_more (Some rs) first marks places i found post lt so_far here = λ posts of.
    ap (λ (x : ℕ × List Measure). found ++ x ∷ []) (here posts of)
    ∙ ap (λ (l : List (ℕ × List Measure)). l ++ answer_at posts (get_or places i 0) ∷ []) (so_far posts of)
    ∙ sym (map_push (answer_at posts) (take i places) (get_or places i 0)) ∙ ap (map (answer_at posts)) (sym (take_more places i 0 lt))

pub told_all : (records : Option (List (List ℕ))) (first : ℕ) (marks : List Mark) (places : List ℕ) (i : ℕ) (found : List (ℕ × List Measure)) → length places ≤ i
    → IfSome records (λ rs. (posts : List Post) → IsFoundIn rs first marks posts → found ≡ map (answer_at posts) (take i places))
    → IfSome records (λ rs. (posts : List Post) → IsFoundIn rs first marks posts → found ≡ map (answer_at posts) places)
told_all records first marks places i found le told =
    subst (λ (l : List ℕ). IfSome records (λ rs. (posts : List Post) → IsFoundIn rs first marks posts → found ≡ map (answer_at posts) l)) (take_all i places le) told

pub others_told : (records : Option (List (List ℕ))) (first : ℕ) (marks : List Mark) (at : ℕ) (mark d : Mark) → at < length marks → mark ≡ get_or marks at d
    → IfSome records (λ rs. (measures : List Measure) → IsPost mark.number mark.metric.0 measures → slice_get rs (first + at) ≡ Some (post_bytes mark.number mark.metric.0 measures) → ⊥)
    → IfSome records (λ rs. (posts : List Post) → IsFoundIn rs first marks posts → ⊥)
others_told None first marks at mark d lt is other = tt
others_told (Some rs) first marks at mark d lt is other = λ posts of. never_other rs first marks posts of at lt mark d is other

-- ---- halves

module _ (marks : List Mark) (above : ℕ) (list : List ℕ) (from middle upto : ℕ) (parted : IsPartitionedBy (is_upto marks above) list) (between : IsBetween marks above list from upto) (lt : middle < length list) where
  pub upper_half : is_upto marks above (get_or list middle 0) ≡ true → IsBetween marks above list (middle + 1) upto
  upper_half passed = record {
    front = λ k d below. parted k middle d (omega arith) lt (ap (is_upto marks above) (get_or_default list middle d 0 lt) ∙ passed);
    back = between.back;
  }

  pub lower_half : is_upto marks above (get_or list middle 0) ≡ false → IsBetween marks above list from middle
  lower_half failed = record {
    front = between.front;
    back = λ k d le within. elim (cases_Bool (is_upto marks above (get_or list k d))) [
      | inl has ↦ absurd (both_ways (is_upto marks above (get_or list middle d)) (ap (is_upto marks above) (get_or_default list middle d 0 lt) ∙ failed) (parted middle k d le within has))
      | inr none ↦ none
    ];
  }

pub whole_between : (marks : List Mark) (above : ℕ) (list : List ℕ) (upto : ℕ) → length list ≤ upto → IsBetween marks above list 0 upto
whole_between marks above list upto le = record { front = λ k d below. absurd (omega arith); back = λ k d above_it within. absurd (omega arith) }
