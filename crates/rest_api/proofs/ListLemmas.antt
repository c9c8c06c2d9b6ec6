-- Lists of documents, written one document after another.
use Rattle.std.proofs.Common.{◌≡◌, ℕ, ◌+◌, ◌<◌, ◌≤◌, List, [], ◌∷◌, ◌++◌, length, take, drop, map, get_or, refl, sym, ap, subst, ◌∙◌, arith, append_assoc, append-nil}
use Rattle.std.proofs.lemmas.List.{length-map, length-take-le, map-append, take-append-drop, take_all, take_more}
use Rattle.control_docs.proofs.DocumentLemmas.{list_next, list_whole}
use Rattle.control_docs.specs.Lists.{list_front, separator}
use Rattle.front_api.specs.declared.command.MetricDoc.{MetricDoc}
use Rattle.rest_api.specs.Shown.{first_text, list_text, metric_shown, text_behind}
use Rattle.serde_json.specs.Data.{Data}
use Rattle.serde_json.specs.Written.{compact_text}

-- one document more of a list that is written
pub list_goes_on : (start : List ℕ) (documents : List Data) (document : Data) (before after : List ℕ) → before ≡ start ++ list_front documents
    → after ≡ before ++ (separator (length documents) ++ compact_text document) → after ≡ start ++ list_front (documents ++ document ∷ [])
list_goes_on start documents document before after so-far next =
    next ∙ ap (λ (l : List ℕ). l ++ (separator (length documents) ++ compact_text document)) so-far
    ∙ append_assoc start (list_front documents) (separator (length documents) ++ compact_text document)
    ∙ ap (λ (l : List ℕ). start ++ l) (sym (append_assoc (list_front documents) (separator (length documents)) (compact_text document)) ∙ sym (list_next documents document))

-- the list is written
pub list_ends : (start : List ℕ) (documents : List Data) (before after : List ℕ) → before ≡ start ++ list_front documents
    → after ≡ before ++ 93 ∷ [] → after ≡ start ++ list_text documents
list_ends start documents before after so-far last =
    last ∙ ap (λ (l : List ℕ). l ++ 93 ∷ []) so-far ∙ append_assoc start (list_front documents) (93 ∷ []) ∙ ap (λ (l : List ℕ). start ++ l) (list_whole documents)

-- at most one document behind others
pub list_goes_on_by : (documents more : List Data) (before after : List ℕ) → length more < 2 → before ≡ list_front documents
    → after ≡ before ++ text_behind (length documents) more → after ≡ list_front (documents ++ more)
list_goes_on_by documents [] before after few so-far next =
    next ∙ append-nil before ∙ so-far ∙ ap list_front (sym (append-nil documents))
list_goes_on_by documents (document ∷ []) before after few so-far next =
    list_goes_on [] documents document before after so-far
    (next ∙ ap (λ (l : List ℕ). before ++ (separator (length documents) ++ l)) (append-nil (compact_text document)))
list_goes_on_by documents (document ∷ (other ∷ more)) before after few so-far next = absurd (omega (arith, few))

module _ {A : Type 0} (shown : A → Data) (items : List A) (start : List ℕ) where
  -- one item more
  pub item_goes_on : (i : ℕ) (x : A) (before after : List ℕ) → i < length items → x ≡ get_or items i x
      → before ≡ start ++ list_front (map shown (take i items)) → after ≡ before ++ (separator i ++ compact_text (shown x))
      → after ≡ start ++ list_front (map shown (take (i + 1) items))
  item_goes_on i x before after inside is so-far next =
      let more : map shown (take (i + 1) items) ≡ map shown (take i items) ++ shown x ∷ [] =
      ap (map shown) (take_more items i x inside ∙ ap (λ (y : A). take i items ++ y ∷ []) (sym is)) ∙ map-append shown (take i items) (x ∷ []) in
      let count : length (map shown (take i items)) ≡ i = length-map (take i items) shown ∙ length-take-le i items (omega (arith, inside)) in
      list_goes_on start (map shown (take i items)) (shown x) before after so-far
      (subst (λ (n : ℕ). after ≡ before ++ (separator n ++ compact_text (shown x))) (sym count) next)
      ∙ ap (λ (l : List Data). start ++ list_front l) (sym more)

  -- all of them
  pub items_end : (i : ℕ) (before after : List ℕ) → length items ≤ i → before ≡ start ++ list_front (map shown (take i items)) → after ≡ before ++ 93 ∷ []
      → after ≡ start ++ list_text (map shown items)
  items_end i before after whole so-far last =
      list_ends start (map shown items) before after (so-far ∙ ap (λ (l : List A). start ++ list_front (map shown l)) (take_all i items whole)) last

-- the first of some documents is shown
pub first_shown : {A : Type 0} (shown : A → Data) (items : List A) (x : A) → 1 ≤ length items → x ≡ get_or items 0 x
    → first_text (map shown items) ≡ compact_text (shown x)
first_shown shown [] x some is = absurd (omega (arith, some))
first_shown shown (y ∷ ys) x some is = ap (λ (z : _). compact_text (shown z)) (sym is)

-- a list, cut at an item
pub split_at : {A : Type 0} (items : List A) (i : ℕ) (x : A) → i < length items → x ≡ get_or items i x → items ≡ take i items ++ x ∷ drop (i + 1) items
split_at items i x inside is =
    sym (take-append-drop (i + 1) items) ∙ ap (λ (l : List _). l ++ drop (i + 1) items) (take_more items i x inside ∙ ap (λ (y : _). take i items ++ y ∷ []) (sym is))
    ∙ append_assoc (take i items) (x ∷ []) (drop (i + 1) items)

-- the items up to one, and this one
pub taken_more : {A : Type 0} (items : List A) (i : ℕ) (x : A) → i < length items → x ≡ get_or items i x → take i items ++ x ∷ [] ≡ take (i + 1) items
taken_more items i x inside is = sym (take_more items i x inside ∙ ap (λ (y : _). take i items ++ y ∷ []) (sym is))

-- how many there are up to one
pub taken_count : {A : Type 0} (items : List A) (i : ℕ) → i < length items → i ≡ length (take i items)
taken_count items i inside = sym (length-take-le i items (omega (arith, inside)))

-- the first of some metrics is appended behind so many others
pub one_made : (docs : List MetricDoc) (first : MetricDoc) (count : ℕ) (before after : List ℕ) → 1 ≤ length docs → first ≡ get_or docs 0 first
    → after ≡ before ++ (separator count ++ compact_text (metric_shown first))
    → (count + 1 ≡ count + length (map metric_shown (take 1 docs))) × (after ≡ before ++ text_behind count (map metric_shown (take 1 docs)))
one_made [] first count before after some is next = absurd (omega (arith, some))
one_made (doc ∷ docs) first count before after some is next = (
  refl,
  next ∙ ap (λ (d : MetricDoc). before ++ (separator count ++ compact_text (metric_shown d))) is
      ∙ ap (λ (l : List ℕ). before ++ (separator count ++ l)) (sym (append-nil (compact_text (metric_shown doc)))),
)
