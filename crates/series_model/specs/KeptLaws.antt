-- What more entries do to what is kept of a history.
use Rattle.std.specs.Prelude.{◌≡◌, ℕ, Bool, true, false, if◌then◌else◌, List, [], ◌∷◌, ◌++◌, Option, refl}
use Rattle.std.proofs.Common.{sym, ap, ◌∙◌, append-nil, append_assoc}
use Rattle.series_model.specs.declared.measure.Measure.{Measure}
use Rattle.series_model.specs.History.{Attempt, Entry, Post, Done, Look, Fault, Reopened}
use Rattle.series_model.specs.Kept.{entries_of, kept_onto, kept, tried_onto, open_tried, broken_onto, is_broken}

-- ---- a history and what follows it

pub kept_onto-append : (tried g h : List Entry) → kept_onto tried (g ++ h) ≡ kept_onto tried g ++ kept_onto (tried_onto tried g) h
kept_onto-append tried [] h = refl
kept_onto-append tried (Post n m measures ∷ g) h = ap (λ es. Post n m measures ∷ es) (kept_onto-append tried g h)
kept_onto-append tried (Done m upto ∷ g) h = ap (λ es. Done m upto ∷ es) (kept_onto-append tried g h)
kept_onto-append tried (Look m ∷ g) h = kept_onto-append tried g h
kept_onto-append tried (Fault attempt before after ∷ g) h = kept_onto-append (tried ++ entries_of attempt) g h
kept_onto-append tried (Reopened k ∷ g) h =
    let found = (if k then tried else []) in
    ap (λ es. found ++ es) (kept_onto-append [] g h)
    ∙ sym (append_assoc found (kept_onto [] g) (kept_onto (tried_onto [] g) h))

pub tried_onto-append : (tried g h : List Entry) → tried_onto tried (g ++ h) ≡ tried_onto (tried_onto tried g) h
tried_onto-append tried [] h = refl
tried_onto-append tried (Post n m measures ∷ g) h = tried_onto-append tried g h
tried_onto-append tried (Done m upto ∷ g) h = tried_onto-append tried g h
tried_onto-append tried (Look m ∷ g) h = tried_onto-append tried g h
tried_onto-append tried (Fault attempt before after ∷ g) h = tried_onto-append (tried ++ entries_of attempt) g h
tried_onto-append tried (Reopened k ∷ g) h = tried_onto-append [] g h

pub broken_onto-append : (broken : Bool) (g h : List Entry) → broken_onto broken (g ++ h) ≡ broken_onto (broken_onto broken g) h
broken_onto-append broken [] h = refl
broken_onto-append broken (Post n m measures ∷ g) h = broken_onto-append broken g h
broken_onto-append broken (Done m upto ∷ g) h = broken_onto-append broken g h
broken_onto-append broken (Look m ∷ g) h = broken_onto-append broken g h
broken_onto-append broken (Fault attempt before after ∷ g) h = broken_onto-append true g h
broken_onto-append broken (Reopened k ∷ g) h = broken_onto-append false g h

-- ---- one entry more

pub kept-post : (n m : ℕ) (measures : List Measure) (h : List Entry) → kept (h ++ Post n m measures ∷ []) ≡ kept h ++ Post n m measures ∷ []
kept-post n m measures h = kept_onto-append [] h (Post n m measures ∷ [])

pub kept-done : (m upto : ℕ) (h : List Entry) → kept (h ++ Done m upto ∷ []) ≡ kept h ++ Done m upto ∷ []
kept-done m upto h = kept_onto-append [] h (Done m upto ∷ [])

pub kept-look : (m : Option ℕ) (h : List Entry) → kept (h ++ Look m ∷ []) ≡ kept h
kept-look m h = kept_onto-append [] h (Look m ∷ []) ∙ append-nil (kept h)

pub kept-fault : (attempt : Option Attempt) (before after : ℕ) (h : List Entry) → kept (h ++ Fault attempt before after ∷ []) ≡ kept h
kept-fault attempt before after h = kept_onto-append [] h (Fault attempt before after ∷ []) ∙ append-nil (kept h)

pub kept-reopened : (k : Bool) (h : List Entry) → kept (h ++ Reopened k ∷ []) ≡ kept h ++ (if k then open_tried h else [])
kept-reopened k h =
    kept_onto-append [] h (Reopened k ∷ [])
    ∙ ap (λ es. kept h ++ es) (append-nil (if k then open_tried h else []))

pub open_tried-fault : (attempt : Option Attempt) (before after : ℕ) (h : List Entry) → open_tried (h ++ Fault attempt before after ∷ []) ≡ open_tried h ++ entries_of attempt
open_tried-fault attempt before after h = tried_onto-append [] h (Fault attempt before after ∷ [])

pub open_tried-reopened : (k : Bool) (h : List Entry) → open_tried (h ++ Reopened k ∷ []) ≡ []
open_tried-reopened k h = tried_onto-append [] h (Reopened k ∷ [])

pub is_broken-fault : (attempt : Option Attempt) (before after : ℕ) (h : List Entry) → is_broken (h ++ Fault attempt before after ∷ []) ≡ true
is_broken-fault attempt before after h = broken_onto-append false h (Fault attempt before after ∷ [])

pub is_broken-reopened : (k : Bool) (h : List Entry) → is_broken (h ++ Reopened k ∷ []) ≡ false
is_broken-reopened k h = broken_onto-append false h (Reopened k ∷ [])
