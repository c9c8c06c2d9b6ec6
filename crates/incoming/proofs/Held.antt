-- What two disks hold, by what their pair holds and what is kept of it.
use Rattle.std.proofs.Common.{◌≡◌, ◌⊎◌, inl, inr, ℕ, ◌+◌, ◌<◌, ◌≤◌, ◌^◌, max, Bool, true, false, ◌&&◌, List, [], ◌∷◌, ◌++◌, length, map, take, drop, Option, Some, None, Result, Ok, Err, refl, sym, ap, subst, ◌∙◌, arith}
use Rattle.std.specs.Option.{IfSome, is_some, option_map}
use Rattle.std.specs.List.{AllByRecursion, slice_get}
use Rattle.std.proofs.lemmas.List.{drop_more, map_push, take-append-drop}
use Rattle.std.proofs.lemmas.Option.{get_or_from_slice_get, same_Some, slice_get_within}
use Rattle.gno_num.specs.declared.faults.Damaged.{Damaged as Damage}
use Rattle.gno_codec.specs.IncomingReading.{incoming_of}
use Rattle.gno_codec.specs.Incoming.{next_bytes, IsNext}
use Rattle.gno_codec.specs.declared.item.IncomingItem.{IncomingItem}
use Rattle.gno_codec.specs.declared.item.IncomingItem.TheVariants as items
use Rattle.gno_codec.proofs.Records.{incoming_field}
use Rattle.gno_codec.proofs.Steps.{whole_again}
use Rattle.gate_log.specs.LogView.{Adds}
use Rattle.gate_log.specs.Records.{Holds}
use Rattle.gate_log.proofs.Exact.{Holds-one}
use Rattle.log_pair.specs.declared.place.Place.{Place}
use Rattle.log_pair.specs.Choice.{TwoTold}
use Rattle.log_pair.specs.Header.{log_header}
use Rattle.log_pair.specs.Pair.{Counts, HoldsPair, IsDamagedPair, disk_number, one_of, place_behind}
use Rattle.log_pair.specs.PairView.{PairView}
use Rattle.log_pair.proofs.Choices.{Counts-one, pair_counts}
use Rattle.incoming.specs.declared.contents.Contents.{Contents}
use Rattle.incoming.specs.Contents.{AreOf}
use Rattle.incoming.specs.Damage.{HoldsNoIncoming, IsDamagedIncoming, IsOddBehind, odd}
use Rattle.incoming.specs.IncomingView.{AddsPost}
use Rattle.incoming.specs.Inside.{posts_in, with_post}
use Rattle.incoming.specs.Posts.{HasRecord, HoldsIncoming, IsIncomingLog, Post, incoming_place, last_number, mark_of, marks_of, next_number, post_record, start_records}
use Rattle.incoming.specs.Reading.{IsOddOf}
use Rattle.incoming.proofs.Logs.{log_none, log_post, odd_never, one_log}
use Rattle.incoming.proofs.Marks.{last_from-push}

-- ---- the posts among the records

post_read : (post : Post) → HasRecord post → incoming_of (post_record post) ≡ Ok (items.Post post.number post.metric post.measures)
unfolding incoming_of
post_read post has = whole_again incoming_field (items.Post post.number post.metric post.measures) has

next_read : (number : ℕ) → IsNext number → incoming_of (next_bytes number) ≡ Ok (items.Next number)
unfolding incoming_of
next_read number fits = whole_again incoming_field (items.Next number) fits

posts_read : (posts : List Post) → AllByRecursion HasRecord posts → posts_in (map post_record posts) ≡ posts
unfolding posts_in
posts_read [] has = refl
posts_read (post ∷ posts) has =
    ap (λ (r : Result IncomingItem ℕ). with_post r (posts_in (map post_record posts))) (post_read post has.0)
    ∙ ap (λ (l : List Post). post ∷ l) (posts_read posts has.1)

started : (start : Option ℕ) (posts : List Post) → IfSome start IsNext → AllByRecursion HasRecord posts → posts_in (start_records start ++ map post_record posts) ≡ posts
unfolding posts_in
started None posts fits has = posts_read posts has
started (Some number) posts fits has =
    ap (λ (r : Result IncomingItem ℕ). with_post r (posts_in (map post_record posts))) (next_read number fits) ∙ posts_read posts has

pub posts_in-log : (records : List (List ℕ)) (start : Option ℕ) (posts : List Post) → IsIncomingLog records start posts → posts_in records ≡ posts
posts_in-log records start posts log = ap posts_in log.records_are ∙ started start posts log.start_fits log.each

pub posts_in-none : posts_in [] ≡ []
posts_in-none = posts_in-log [] None [] log_none

-- whether they are told
pub told_map : {A B : Type 0} (f : A → B) (o : Option A) → is_some (option_map f o) ≡ is_some o
told_map f None = refl
told_map f (Some x) = refl

-- ---- what is held

same_place : (place : Place) → place.role ≡ 2 → incoming_place place ≡ place
same_place place is = ap (λ (r : ℕ). record { role = r; sack = place.sack; sacks = place.sacks }) (sym is)

held_by : (c : Contents) (records : List (List ℕ)) (place : Place) (epoch : ℕ) (a b : List ℕ) → place.role ≡ 2 → AreOf c records → HoldsPair place epoch records a b → HoldsIncoming place (posts_in records) c.next a b
held_by c records place epoch a b role are h =
    subst (λ (ps : List Post). HoldsIncoming place ps c.next a b) (sym (posts_in-log records are.start are.posts are.log)) (record {
      epoch = epoch;
      start = are.start;
      records = records;
      held = subst (λ (p : Place). HoldsPair p epoch records a b) (sym (same_place place role)) h;
      log = are.log;
      next_is = are.next_is ∙ ap (next_number are.start) are.marks_are;
    })

posted_by : (c : Contents) (records : List (List ℕ)) (post : Post) (place : Place) (epoch : ℕ) (a b : List ℕ) → place.role ≡ 2 → AreOf c records → HasRecord post → post.number ≡ c.next
    → HoldsPair place epoch (records ++ post_record post ∷ []) a b → HoldsIncoming place (posts_in records ++ post ∷ []) (c.next + 1) a b
posted_by c records post place epoch a b role are has number h =
    let last : last_number (marks_of are.posts) ≡ last_number c.marks.items = ap last_number (sym are.marks_are) in
    let above : last_number (marks_of are.posts) < post.number = omega (arith, number, are.next_is, last) in
    let end : last_number (marks_of (are.posts ++ post ∷ [])) ≡ post.number = ap last_number (map_push mark_of are.posts post) ∙ last_from-push 0 (marks_of are.posts) (mark_of post) in
    subst (λ (ps : List Post). HoldsIncoming place (ps ++ post ∷ []) (c.next + 1) a b) (sym (posts_in-log records are.start are.posts are.log)) (record {
      epoch = epoch;
      start = are.start;
      records = records ++ post_record post ∷ [];
      held = subst (λ (p : Place). HoldsPair p epoch (records ++ post_record post ∷ []) a b) (sym (same_place place role)) h;
      log = log_post records are.start are.posts post are.log has above;
      next_is = omega (arith, end, number, are.next_is);
    })

module _ (c : Contents) (place : Place) (epoch : ℕ) (role : place.role ≡ 2) where
  -- where the records are told
  pub held_told : (records : Option (List (List ℕ))) (a b : List ℕ) → IfSome records (AreOf c) → IfSome records (λ rs. HoldsPair place epoch rs a b)
      → IfSome (option_map posts_in records) (λ posts. HoldsIncoming place posts c.next a b)
  held_told None a b are held = tt
  held_told (Some records) a b are held = held_by c records place epoch a b role are held

  -- the same, with a post at their end or without it
  pub posted_told : (records : Option (List (List ℕ))) (post : Post) (body : List ℕ) (a b : List ℕ) → IfSome records (AreOf c) → body ≡ post_record post → HasRecord post → post.number ≡ c.next
      → IfSome records (λ rs. HoldsPair place epoch rs a b ⊎ HoldsPair place epoch (rs ++ body ∷ []) a b)
      → IfSome (option_map posts_in records) (λ posts. HoldsIncoming place posts c.next a b ⊎ HoldsIncoming place (posts ++ post ∷ []) (c.next + 1) a b)
  posted_told None post body a b are is has number held = tt
  posted_told (Some records) post body a b are is has number (inl old) = inl (held_by c records place epoch a b role are old)
  posted_told (Some records) post body a b are is has number (inr new) =
      inr (posted_by c records post place epoch a b role are has number (subst (λ (x : List ℕ). HoldsPair place epoch (records ++ x ∷ []) a b) is new))

-- a post at the end of the records is one at the end of the posts
pub adds_post : (c : Contents) (old new : Option (List (List ℕ))) (post : Post) (body : List ℕ) → IfSome old (AreOf c) → body ≡ post_record post → HasRecord post → last_number c.marks.items < post.number
    → Adds old new body → AddsPost (option_map posts_in old) (option_map posts_in new) post
adds_post c None None post body are is has above adds = tt
adds_post c None (Some new) post body are is has above adds = absurd adds
adds_post c (Some old) None post body are is has above adds = absurd adds
adds_post c (Some old) (Some new) post body are is has above adds =
    let last : last_number (marks_of are.posts) < post.number = subst (λ ms. last_number ms < post.number) are.marks_are above in
    ap posts_in (adds ∙ ap (λ (x : List ℕ). old ++ x ∷ []) is)
    ∙ posts_in-log (old ++ post_record post ∷ []) are.start (are.posts ++ post ∷ []) (log_post old are.start are.posts post are.log has last)
    ∙ ap (λ (ps : List Post). ps ++ post ∷ []) (sym (posts_in-log old are.start are.posts are.log))

-- no records, no posts
pub no_posts : (records : Option (List (List ℕ))) → IfSome records (λ rs. rs ≡ []) → IfSome (option_map posts_in records) (λ ps. ps ≡ [])
no_posts None none = tt
no_posts (Some records) none = ap posts_in none ∙ posts_in-none

-- ---- by facts of two disks

pub two_told : (ta tb : Option (List ℕ)) (P Q R : List ℕ → List ℕ → Type 0) → ((x y : List ℕ) → ta ≡ Some x → tb ≡ Some y → P x y → Q x y → R x y) → TwoTold ta tb P → TwoTold ta tb Q → TwoTold ta tb R
two_told None tb P Q R has p q = tt
two_told (Some x) None P Q R has p q = tt
two_told (Some x) (Some y) P Q R has p q = has x y refl refl p q

-- what a pair's images hold at most, its posts do
pub exact_by : (c : Contents) (records : Option (List (List ℕ))) (place : Place) (number : ℕ) (a b : List ℕ) → IfSome records (AreOf c)
    → ((epoch : ℕ) (rs : List (List ℕ)) → HoldsPair (incoming_place place) epoch rs a b → (number ≡ epoch) × (records ≡ Some rs))
    → (posts : List Post) (next : ℕ) → HoldsIncoming place posts next a b → (option_map posts_in records ≡ Some posts) × (c.next ≡ next)
exact_by c records place number a b are exact posts next h =
    let is = (exact h.epoch h.records h.held).1 in
    let of : AreOf c h.records = subst (λ o. IfSome o (AreOf c)) is are in
    let one = one_log h.records of.start h.start of.posts posts of.log h.log in (
      ap (option_map posts_in) is ∙ ap (λ (ps : List Post). Some ps) (posts_in-log h.records h.start posts h.log),
      of.next_is ∙ ap (λ (s : Option ℕ). next_number s c.marks.items) one.0 ∙ ap (next_number h.start) (of.marks_are ∙ ap marks_of one.1) ∙ sym h.next_is,
    )

-- ---- damage

split_at : (records : List (List ℕ)) (index : ℕ) (body : List ℕ) → slice_get records index ≡ Some body → records ≡ take index records ++ body ∷ drop (index + 1) records
split_at records index body stands =
    sym (take-append-drop index records)
    ∙ ap (λ (rs : List (List ℕ)). take index records ++ rs)
    (drop_more records index [] (slice_get_within records index body stands) ∙ ap (λ (x : List ℕ). x ∷ drop (index + 1) records) (get_or_from_slice_get records index body [] stands))

-- a record that may not stand there is damage
pub odd_damage : {D : Type 0} (pair : PairView D) (records : List (List ℕ)) (place : Place) (a b : List ℕ) (d : Damage) → pair.place ≡ incoming_place place → Counts pair.on_second (incoming_place place) pair.epoch a b
    → HoldsPair pair.place pair.epoch records a b → IsOddOf pair records d → IsDamagedIncoming place a b d
odd_damage pair records place a b d is counts held o =
    odd (take o.index records) o.body o.odd (record {
      second = pair.on_second;
      epoch = pair.epoch;
      rest = drop (o.index + 1) records;
      counts = counts;
      held = subst (λ (p : Place). HoldsPair p pair.epoch (take o.index records ++ o.body ∷ drop (o.index + 1) records) a b) is (subst (λ (rs : List (List ℕ)). HoldsPair pair.place pair.epoch rs a b) (split_at records o.index o.body o.stands) held);
      disk_is = o.disk_is;
      at_is = o.at_is ∙ ap (λ (p : Place). place_behind p pair.epoch (take o.index records)) is;
    })

-- and then no posts are held
pub odd_held_never : {D : Type 0} (pair : PairView D) (records : List (List ℕ)) (place : Place) (number : ℕ) (a b : List ℕ) (d : Damage)
    → ((epoch : ℕ) (rs : List (List ℕ)) → HoldsPair (incoming_place place) epoch rs a b → (number ≡ epoch) × (Some records ≡ Some rs))
    → IsOddOf pair records d → HoldsNoIncoming place a b
odd_held_never pair records place number a b d exact o posts next h =
    let is : records ≡ h.records = same_Some records h.records (exact h.epoch h.records h.held).1 in
    odd_never (take o.index records) o.body (drop (o.index + 1) records) o.odd h.start posts
    (subst (λ (rs : List (List ℕ)). IsIncomingLog rs h.start posts) (sym is ∙ split_at records o.index o.body o.stands) h.log)

-- ---- laws

same_pair : (place : Place) (m n : ℕ) (rs ss : List (List ℕ)) (a b : List ℕ) → length a ≤ 2 ^ 60 → length b ≤ 2 ^ 60 → HoldsPair place m rs a b → HoldsPair place n ss a b → rs ≡ ss
same_pair place m n rs ss a b short short_too h k =
    let one = Counts-one h.second k.second place place m n a b (pair_counts place m rs a b h) (pair_counts place n ss a b k) in
    let moved : Holds (one_of h.second a b) (log_header place m ∷ ss) =
    subst (λ (e : ℕ). Holds (one_of h.second a b) (log_header place e ∷ ss)) (sym one.same_epoch) (subst (λ (s : Bool). Holds (one_of s a b) (log_header place n ∷ ss)) (sym one.same_disk) k.held) in
    let e : log_header place m ∷ rs ≡ log_header place m ∷ ss = Holds-one (one_of h.second a b) (log_header place m ∷ rs) (log_header place m ∷ ss) (by h.second) h.held moved in
    ap (drop 1) e
  where
    by : (s : Bool) → length (one_of s a b) ≤ 2 ^ 60
    by false = short
    by true = short_too

pub one_held : (place : Place) (posts others : List Post) (next other : ℕ) (a b : List ℕ) → length a ≤ 2 ^ 60 → length b ≤ 2 ^ 60
    → HoldsIncoming place posts next a b → HoldsIncoming place others other a b → (posts ≡ others) × (next ≡ other)
one_held place posts others next other a b short short_too h k =
    let same = same_pair (incoming_place place) h.epoch k.epoch h.records k.records a b short short_too h.held k.held in
    let one = one_log h.records h.start k.start posts others h.log (subst (λ (rs : List (List ℕ)). IsIncomingLog rs k.start others) (sym same) k.log) in
    (one.1, h.next_is ∙ ap (λ (s : Option ℕ). next_number s (marks_of posts)) one.0 ∙ ap (λ (ps : List Post). next_number k.start (marks_of ps)) one.1 ∙ sym k.next_is)

pub empty_held : (place : Place) (epoch : ℕ) (a b : List ℕ) → HoldsPair (incoming_place place) epoch [] a b → HoldsIncoming place [] 1 a b
empty_held place epoch a b held = record { epoch = epoch; start = None; records = []; held = held; log = log_none; next_is = refl }
