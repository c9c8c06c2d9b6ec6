use Rattle.std.proofs.Common.{◌≡◌, ◌+◌, ◌-◌, ◌≤◌, false, length, map, take, vec_len, vec_capacity, List}
use Rattle.std.specs.Option.{IfSome}
use Rattle.incoming.specs.Lists.{number_at}
use Rattle.incoming.specs.Posts.{Post}
use Rattle.incoming.specs.Reading.{IsFoundIn, IsOnlyRead, answer_at}
use Rattle.incoming.proofs.reading.read_posts.Given as goal

abbrev pub invariant-loop-at : goal.invariant-loop-at
invariant-loop-at g l = record {
  reads : IsOnlyRead g.D.Disk l.fn.pair l.pair;
  whole : l.pair.broken ≡ false;
  room : vec_len l.found + (length l.places - l.at-index) ≤ vec_capacity l.found;
  numbers : map (λ post. post.0) l.found.items ≡ map (number_at l.marks) (take l.at-index l.places);
  found : IfSome l.fn.pair.records (λ records. (posts : List Post) → IsFoundIn records l.first l.marks posts → l.found.items ≡ map (answer_at posts) (take l.at-index l.places));
}
