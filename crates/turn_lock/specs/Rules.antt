-- The rule of a lock whose value stands for a list of entries, and what each step tells.
-- Word 0 counts the entries. Word 1 is 1 while a pass holds the value, and else 0. The one slot has the value, or is out with its holder.
use Rattle.std.specs.Prelude.{◌≡◌, ◌≢◌, ℕ, ◌+◌, ◌^◌, ◌<◌, ◌≤◌, ◌==◌, List, [], ◌∷◌, ◌++◌, length, if◌then◌else◌, true, false, None, Some, Option, ◌⊎◌}
use mathlib.Core.Option as core
use mathlib.Core.List.{IsPrefix}
use lib.ListN.{get_elem?}
use Rattle.atomic_table.specs.Table.{State, Me, Step, rest}
use Rattle.atomic_table.specs.Seated.{TableId}
use Rattle.turn_lock.specs.declared.rule.View.{View}
use Rattle.turn_lock.specs.History.{entries_in, entries_of, entries_by, HasJust}
use Rattle.turn_lock.specs.Knowledge.{Knowledge}

module _ {E : Type 0} where
  -- a pass that has made no entries
  abbrev pub newcomer : ℕ → List (ℕ × E) → View E
  newcomer number seen = record { number = number; splits = 0; joined = []; live = true; holds = false; seen = seen; told = []; own = [] }

  -- a pass that has ended
  abbrev pub ended : View E
  ended = record { number = 0; splits = 0; joined = []; live = false; holds = false; seen = []; told = []; own = [] }

  -- what the owner of a pass knows
  abbrev pub known : TableId → View E → Knowledge E
  known lock v = record { lock = lock; number = v.number; splits = v.splits; joined = v.joined; seen = v.seen; own = v.own }

  -- the pass and those that were joined into it, each with its entries
  abbrev pub callers_of : View E → List (ℕ × List E)
  callers_of v = (v.number, v.own) ∷ v.joined

  abbrev pub split_once : View E → View E
  split_once v = record v { splits = v.splits + 1 }

  abbrev pub next_pass : View E → View E
  next_pass v = newcomer (v.splits + 1) v.seen

  -- a pass that was told what another has seen, which ends
  abbrev pub informed : View E → View E → View E
  informed v w = record v { told = w.seen; joined = v.joined ++ callers_of w }

  -- a fact of each pass
  abbrev pub EachPass : List (View E) → (View E → Type 0) → Type 0
  EachPass views P = (id : ℕ) (v : View E) → get_elem? views id ≡ core.some v → P v

  -- a number of each pass, added up
  abbrev pub total : (View E → ℕ) → List (View E) → ℕ
  total f [] = 0
  total f (v ∷ views) = f v + total f views

  -- how many of the callers have this number
  abbrev pub among : ℕ → List (ℕ × List E) → ℕ
  among number [] = 0
  among number (c ∷ cs) = (if c.0 == number then 1 else 0) + among number cs

  -- how often a live pass stands for the caller of this number
  abbrev pub stake : ℕ → View E → ℕ
  stake number v = if v.live then among number (callers_of v) else 0

  -- for how many callers a live pass stands
  abbrev pub share : View E → ℕ
  share v = if v.live then length v.joined + 1 else 0

  -- what was seen, and what was told, is a beginning of the history
  abbrev pub Saw : List (ℕ × E) → View E → Type 0
  Saw history v = IsPrefix v.seen history × IsPrefix v.told history

  -- the history's entries of the callers of a live pass are those that it knows. The root counts the splits, and is joined into none
  abbrev pub Owns : List (ℕ × E) → ℕ → View E → Type 0
  Owns history last v = v.live ≡ true → HasJust history (callers_of v) × (among 0 v.joined ≡ 0) × (v.number ≡ 0 → v.splits ≡ last)

  -- each caller up to the last one belongs to one live pass, once. A caller still to come has no pass and no entries
  pub record Callers (history : List (ℕ × E)) (last : ℕ) (views : List (View E)) : Type 0 where
    pub seen : EachPass views (Saw history)
    pub own : EachPass views (Owns history last)
    pub once : (n : ℕ) → n ≤ last → total (stake n) views ≡ 1
    pub none : (n : ℕ) → last < n → total (stake n) views ≡ 0
    pub fresh : (n : ℕ) → last < n → entries_by n history ≡ []
    pub shares : total share views ≡ last + 1

  -- some list begins with what was seen, and has just the entries of these callers that the pass knows
  abbrev pub Continues : List (ℕ × E) → List (ℕ × List E) → Type 0
  Continues seen cs = (longer : List (ℕ × E)) × IsPrefix seen longer × HasJust longer cs

  -- a live pass holds the value
  abbrev pub HasHolder : List (View E) → Type 0
  HasHolder views = (holder : ℕ) × (v : View E) × (get_elem? views holder ≡ core.some v) × (v.live ≡ true) × (v.holds ≡ true)

  abbrev pub KnowsAll : List (ℕ × E) → View E → Type 0
  KnowsAll history v = (v.seen ≡ history) ⊎ (v.told ≡ history)

  -- a live pass has seen the whole history, or was told of it
  abbrev pub HasWhole : List (ℕ × E) → List (View E) → Type 0
  HasWhole history views = (by : ℕ) × (v : View E) × (get_elem? views by ≡ core.some v) × (v.live ≡ true) × KnowsAll history v

  -- no pass holds the value
  abbrev pub NoneHolds : List (View E) → Type 0
  NoneHolds views = EachPass views (λ v. v.holds ≡ false)

  -- one pass at most holds the value, and it has seen the whole history
  abbrev pub OneHolds : List (ℕ × E) → List (View E) → Type 0
  OneHolds history views = (holder : ℕ) × ((id : ℕ) (v : View E) → get_elem? views id ≡ core.some v → v.holds ≡ true → (id ≡ holder) × (v.seen ≡ history))

module _ {T E : Type 0} (stands : T → List E → Type 0) where
  -- while nobody holds the value it lies in its slot, and stands for the history's entries
  abbrev pub Lies : List (ℕ × E) → ℕ → List (core.Option (Option T)) → List (View E) → Type 0
  Lies history lock homes views =
      ((lock ≡ 0) × (x : T) × (get_elem? homes 0 ≡ core.some (core.some (Some x))) × stands x (entries_in history) × NoneHolds views)
      ⊎ ((lock ≡ 1) × OneHolds history views)

  -- there is one history
  pub record Kept (s : State (Option T) (View E)) : Type 0 where
    pub history : List (ℕ × E)
    pub last : ℕ
    pub lock : ℕ
    pub words : s.words ≡ length history ∷ lock ∷ []
    pub short : length history ≤ 2 ^ 63
    pub callers : Callers history last s.views
    pub holder : lock ≡ 1 → HasHolder s.views
    pub whole : HasWhole history s.views
    pub place : Lies history lock s.homes s.views

  -- where 0 was found, the pass has the value, which stands for the history that the pass has now seen. Else nothing changed
  abbrev pub TakesValue : Me (Option T) (View E) → ℕ → Me (Option T) (View E) → Type 0
  TakesValue v found w =
      (found ≡ 0 → (x : T) × (w ≡ (record v.0 { holds = true; seen = w.0.seen }, (0, Some x) ∷ v.1)) × stands x (entries_in w.0.seen) × IsPrefix v.0.seen w.0.seen × HasJust w.0.seen (callers_of v.0))
      × (found ≢ 0 → w ≡ v)

  abbrev pub Takes : Step (Option T) → Me (Option T) (View E) → ℕ → Me (Option T) (View E) → Type 0
  Takes st = TakesValue

module _ {T E : Type 0} where
  -- a holder learns how many entries there are, and that they are not too many
  abbrev pub Counts : Step (Option T) → Me (Option T) (View E) → ℕ → Me (Option T) (View E) → Type 0
  Counts st v found w = (w ≡ v) × (found ≡ length v.0.seen) × (found ≤ 2 ^ 63)

  -- as many entries as were announced came last, and they are the pass's own
  abbrev pub Raises : (List E → List E → Type 0) → Step (Option T) → Me (Option T) (View E) → ℕ → Me (Option T) (View E) → Type 0
  Raises told st v found w =
      (es : List E) × (length es ≡ st.first) × told (entries_in v.0.seen) es
      × (w ≡ (record v.0 { seen = v.0.seen ++ entries_of v.0.number es; own = v.0.own ++ es }, v.1)) × HasJust w.0.seen (callers_of w.0)

  -- the slot taken last went back
  abbrev pub Gives : Step (Option T) → Me (Option T) (View E) → ℕ → Me (Option T) (View E) → Type 0
  Gives st v found w = w ≡ (record v.0 { holds = false }, rest v.1)

  -- the history so far was seen
  abbrev pub Looks : Step (Option T) → Me (Option T) (View E) → ℕ → Me (Option T) (View E) → Type 0
  Looks st v found w = (w ≡ (record v.0 { seen = w.0.seen }, v.1)) × IsPrefix v.0.seen w.0.seen × (found ≡ length w.0.seen) × HasJust w.0.seen (callers_of v.0)

  -- nothing changed
  abbrev pub Finds : Step (Option T) → Me (Option T) (View E) → ℕ → Me (Option T) (View E) → Type 0
  Finds st v found w = (w ≡ v) × Continues v.0.seen (callers_of v.0)

  -- of what was seen and what was told, the longer, which begins with the other
  abbrev pub HasLearnt : Me (Option T) (View E) → Me (Option T) (View E) → Type 0
  HasLearnt v w =
      (w ≡ (record v.0 { seen = w.0.seen; told = [] }, v.1)) × IsPrefix v.0.seen w.0.seen × IsPrefix v.0.told w.0.seen × ((w.0.seen ≡ v.0.seen) ⊎ (w.0.seen ≡ v.0.told)) × Continues w.0.seen (callers_of v.0)

  abbrev pub Learns : Step (Option T) → Me (Option T) (View E) → ℕ → Me (Option T) (View E) → Type 0
  Learns st v found = HasLearnt v

  -- a pass that is live and holds nothing
  pub record IsIdle (me : Me (Option T) (View E)) : Type 0 where
    pub live : me.0.live ≡ true
    pub idle : me.0.holds ≡ false
    pub told : me.0.told ≡ []
    pub own : HasJust me.0.seen (callers_of me.0)
    pub free : me.1 ≡ []

  -- a pass that holds the value, whose slot is empty. It knows how many entries there are
  pub record IsHolder (count : ℕ) (me : Me (Option T) (View E)) : Type 0 where
    pub live : me.0.live ≡ true
    pub holds : me.0.holds ≡ true
    pub told : me.0.told ≡ []
    pub own : HasJust me.0.seen (callers_of me.0)
    pub place : me.1 ≡ (0, None) ∷ []
    pub counts : count ≡ length me.0.seen
    pub short : count ≤ 2 ^ 63
