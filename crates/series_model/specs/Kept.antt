-- What a history amounts to, once it is known which of the entries that were tried are there.
use Rattle.std.specs.Prelude.{Bool, true, false, if◌then◌else◌, List, [], ◌∷◌, ◌++◌, Option, Some, None}
use Rattle.series_model.specs.History.{Attempt, Posting, Processing, Entry, Post, Done, Look, Fault, Reopened}

-- the entry that was tried, once it is there
abbrev pub entry_of : Attempt → Entry
entry_of (Posting number metric measures) = Post number metric measures
entry_of (Processing metric upto) = Done metric upto

-- the entry that was tried, if any
abbrev pub entries_of : Option Attempt → List Entry
entries_of None = []
entries_of (Some tried) = entry_of tried ∷ []

-- What these entries add to what is kept, where `tried` was tried before them. An entry that was
-- tried comes in where a reopening finds it, and is gone where a reopening doesn't.
abbrev pub kept_onto : List Entry → List Entry → List Entry
kept_onto tried [] = []
kept_onto tried (Post number metric measures ∷ entries) = Post number metric measures ∷ kept_onto tried entries
kept_onto tried (Done metric upto ∷ entries) = Done metric upto ∷ kept_onto tried entries
kept_onto tried (Look metric ∷ entries) = kept_onto tried entries
kept_onto tried (Fault attempt before after ∷ entries) = kept_onto (tried ++ entries_of attempt) entries
kept_onto tried (Reopened kept ∷ entries) = (if kept then tried else []) ++ kept_onto [] entries

-- the entries that count: posts, turns, and what was tried and found
abbrev pub kept : List Entry → List Entry
kept entries = kept_onto [] entries

-- what was tried and neither found nor missed, where `tried` was before these entries
abbrev pub tried_onto : List Entry → List Entry → List Entry
tried_onto tried [] = tried
tried_onto tried (Post number metric measures ∷ entries) = tried_onto tried entries
tried_onto tried (Done metric upto ∷ entries) = tried_onto tried entries
tried_onto tried (Look metric ∷ entries) = tried_onto tried entries
tried_onto tried (Fault attempt before after ∷ entries) = tried_onto (tried ++ entries_of attempt) entries
tried_onto tried (Reopened kept ∷ entries) = tried_onto [] entries

-- the entry that an open fault tried: no reopening has told yet whether it is there
abbrev pub open_tried : List Entry → List Entry
open_tried entries = tried_onto [] entries

-- whether a fault is open after these entries, where one was open before them or not
abbrev pub broken_onto : Bool → List Entry → Bool
broken_onto broken [] = broken
broken_onto broken (Post number metric measures ∷ entries) = broken_onto broken entries
broken_onto broken (Done metric upto ∷ entries) = broken_onto broken entries
broken_onto broken (Look metric ∷ entries) = broken_onto broken entries
broken_onto broken (Fault attempt before after ∷ entries) = broken_onto true entries
broken_onto broken (Reopened kept ∷ entries) = broken_onto false entries

-- a fault is open: no reopening stands behind it
abbrev pub is_broken : List Entry → Bool
is_broken entries = broken_onto false entries
