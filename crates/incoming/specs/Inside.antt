-- How an incoming log keeps what contracts see of it.
use Rattle.std.specs.Prelude.{◌≡◌, ℕ, ◌+◌, ◌||◌, List, [], ◌∷◌, length, IfSome, option_map, Option, Result, Ok, Err}
use Rattle.gno_disk.specs.declared.disk.Disk.{Ghosts}
use Rattle.gno_codec.specs.IncomingReading.{incoming_of}
use Rattle.gno_codec.specs.declared.item.IncomingItem.{IncomingItem}
use Rattle.gno_codec.specs.declared.item.IncomingItem.TheVariants as items
use Rattle.incoming.specs.declared.incoming.Incoming.TheInside.{Inside}
use Rattle.incoming.specs.Contents.{AreOf, IsKept}
use Rattle.incoming.specs.IncomingView.{IncomingView}
use Rattle.incoming.specs.Posts.{Post}

-- in front of these posts, the post that a record was read as
abbrev pub with_post : Result IncomingItem ℕ → List Post → List Post
with_post (Ok (items.Post number metric batch)) posts = record { number = number; metric = metric; measures = batch } ∷ posts
with_post (Ok (items.Next number)) posts = posts
with_post (Err at) posts = posts

-- the posts among the records
unfoldable pub posts_in : List (List ℕ) → List Post
posts_in [] = []
posts_in (body ∷ records) = with_post (incoming_of body) (posts_in records)

-- what contracts see
abbrev pub incoming_view : {D : Type 0} → Inside D → IncomingView D
incoming_view l = record {
  first = l.pair.first;
  second = l.pair.second;
  place = l.pair.place;
  epoch = l.pair.epoch;
  broken = l.pair.broken || l.damaged;
  marks = l.contents.marks.items;
  next = l.contents.next;
  posts = option_map posts_in l.pair.records;
}

-- What is kept in memory is that of the records, which are no more than those of its marks. The place has
-- the role 2.
pub record KeepsIncoming {D : Type 0} (l : Inside D) : Type 0 where
  pub kept : IsKept l.contents
  pub counted : l.pair.count ≡ l.contents.first + length l.contents.marks.items
  pub are : IfSome l.pair.records (AreOf l.contents)
  pub role : l.pair.place.role ≡ 2
