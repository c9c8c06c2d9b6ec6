-- Calls that follow one another.
use Rattle.front_api.specs.Seen.{LeadsTo, SeenBooks, Then}

module _ {X : Type 0} (stands : X → SeenBooks → Type 0) where
  -- what a value becomes by one call and then by another, it becomes by both
  pub leads_then : (a b c : X) (Call Next : SeenBooks → SeenBooks → Type 0) → LeadsTo stands a b Call → LeadsTo stands b c Next → LeadsTo stands a c (Then Call Next)
  leads_then a b c Call Next first later old is =
      let mid = first old is in
      let new = later mid.0 mid.1 in
      (new.0, new.1, (mid.0, mid.2, new.2))

  -- what a call leads to by one word, it leads to by a weaker one
  pub leads_more : (a b : X) (Call More : SeenBooks → SeenBooks → Type 0) → ((old new : SeenBooks) → Call old new → More old new) → LeadsTo stands a b Call → LeadsTo stands a b More
  leads_more a b Call More more call old is =
      let new = call old is in
      (new.0, new.1, more old new.0 new.2)

  -- a value that isn't called becomes itself
  pub leads_to_itself : (a : X) (Call : SeenBooks → SeenBooks → Type 0) → ((books : SeenBooks) → Call books books) → LeadsTo stands a a Call
  leads_to_itself a Call stays old is = (old, is, stays old)
