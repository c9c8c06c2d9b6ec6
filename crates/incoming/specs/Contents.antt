-- What is kept in memory of an incoming log.
use Rattle.std.specs.Prelude.{◌≡◌, ℕ, ◌+◌, ◌-◌, ◌<◌, ◌≤◌, ◌^◌, List, length, Option, vec_len, vec_capacity}
use Rattle.incoming.specs.declared.contents.Contents.{Contents}
use Rattle.incoming.specs.Lists.{HasRoomAt, list_of, places_where}
use Rattle.incoming.specs.Posts.{IsIncomingLog, Post, RiseFrom, is_of, last_number, marks_of, next_number, start_records}

-- The numbers rise up to the next one, and each metric has the list of where its marks stand.
pub record IsKept (c : Contents) : Type 0 where
  pub rise : RiseFrom 0 c.marks.items
  pub below : last_number c.marks.items < c.next
  pub limit : c.next ≤ 2 ^ 63
  pub lists : (metric : ℕ) → list_of c.lists metric ≡ places_where (is_of (record { 0 = metric })) 0 c.marks.items

-- there is memory for one mark more, of this metric
pub record HasRoom (c : Contents) (metric : ℕ) : Type 0 where
  pub mark : vec_len c.marks < vec_capacity c.marks
  pub list : HasRoomAt c.lists metric

-- what is kept is that of these records
pub record AreOf (c : Contents) (records : List (List ℕ)) : Type 0 where
  pub start : Option ℕ
  pub posts : List Post
  pub log : IsIncomingLog records start posts
  pub marks_are : c.marks.items ≡ marks_of posts
  pub next_is : c.next ≡ next_number start c.marks.items
  pub first_is : c.first ≡ length (start_records start)
