-- What may stand at each place of a body: the table of members, and of what type each is.
use Rattle.std.specs.Prelude.{ℕ, Bool, true, false, ◌&&◌, ◌||◌, if◌then◌else◌, List, [], ◌∷◌, Option, Some, None, is_some, not, codes}
use Rattle.std.specs.Str.{bytes_eq}
use Rattle.serde_json.specs.Data.{Num, Data, null, boolean, number, string, array, object, Items, no_items, item, Members, no_members, member}
use Rattle.serde_json.specs.Find.{as_u64, get}
use Rattle.control_docs.specs.declared.shape.Shape.{Shape}
use Rattle.control_docs.specs.declared.shape.Shape.TheVariants.{Plain, Whole, Id, IdOrNull, Plains, Definitions, Definition, Policy, Rule, Metric, Resource, NamedMetrics, NamedMetric}
use Rattle.control_docs.specs.Member.{as_id, is_given}

-- ---- the table of members

-- the keys that are given in an object, each with what may stand there
abbrev pub member_table : Shape → List (List ℕ × Shape)
member_table Policy =
    (codes "name", Plain) ∷ (codes "definition", Definitions) ∷ (codes "back_window", Whole) ∷ (codes "aggregation_methods", Plains) ∷ []
member_table Definition = (codes "granularity", Plain) ∷ (codes "points", Whole) ∷ (codes "timespan", Plain) ∷ []
member_table Rule = (codes "name", Plain) ∷ (codes "metric_pattern", Plain) ∷ (codes "archive_policy_name", Plain) ∷ []
member_table Metric =
    (codes "archive_policy_name", Plain) ∷ (codes "name", Plain) ∷ (codes "unit", Plain) ∷ (codes "resource_id", IdOrNull) ∷ []
member_table Resource = (codes "id", Id) ∷ []
member_table NamedMetric = (codes "archive_policy_name", Plain) ∷ []
member_table _ = []

-- what a table gives for a key
abbrev pub given_in : List (List ℕ × Shape) → List ℕ → Option Shape
given_in [] key = None
given_in (row ∷ rows) key = if bytes_eq key row.0 then Some row.1 else given_in rows key

-- what may stand at a key of an object; any key names a metric of a resource
abbrev pub member_shape : Shape → List ℕ → Option Shape
member_shape NamedMetrics key = Some NamedMetric
member_shape shape key = given_in (member_table shape) key

-- the members that have to be there; a metric of a resource needs a name
abbrev pub is_complete : Shape → Data → Bool
is_complete Policy d = is_some (get (codes "name") d) && is_some (get (codes "definition") d)
is_complete Rule d =
    is_some (get (codes "name") d) && (is_some (get (codes "metric_pattern") d) && is_some (get (codes "archive_policy_name") d))
is_complete Metric d = not (is_given (get (codes "resource_id") d)) || is_given (get (codes "name") d)
is_complete Resource d = is_some (get (codes "id") d)
is_complete _ d = true

-- ---- what else may stand at a place

abbrev pub takes_bool : Shape → Bool
takes_bool Plain = true
takes_bool _ = false

abbrev pub takes_null : Shape → Bool
takes_null Plain = true
takes_null IdOrNull = true
takes_null _ = false

-- a whole number of 64 bits: one with a sign, a point or an exponent is none
abbrev pub takes_number : Shape → Num → Bool
takes_number Plain n = true
takes_number Whole n = is_some (as_u64 n)
takes_number _ n = false

abbrev pub takes_text : Shape → List ℕ → Bool
takes_text Plain text = true
takes_text Id text = is_some (as_id text)
takes_text IdOrNull text = is_some (as_id text)
takes_text _ text = false

-- what the items of a list are, where one may stand there
abbrev pub item_shape : Shape → Option Shape
item_shape Plain = Some Plain
item_shape Plains = Some Plain
item_shape Definitions = Some Definition
item_shape _ = None

-- an object may stand there
abbrev pub has_members : Shape → Bool
has_members Whole = false
has_members Id = false
has_members IdOrNull = false
has_members Plains = false
has_members Definitions = false
has_members _ = true

-- ---- a value at its place

-- something may stand there, and what does passes
abbrev pub passes : Option Shape → (Shape → Bool) → Bool
passes None test = false
passes (Some shape) test = test shape

-- Each value may stand at its place, and each key of an object, at any depth, is given there.
abbrev mutual
  pub fits : Shape → Data → Bool
  fits shape null = takes_null shape
  fits shape (boolean b) = takes_bool shape
  fits shape (number n) = takes_number shape n
  fits shape (string text) = takes_text shape text
  fits shape (array ds) = passes (item_shape shape) (λ inner. items_fit inner ds)
  fits shape (object ms) = has_members shape && members_fit shape ms

  pub items_fit : Shape → Items → Bool
  items_fit shape no_items = true
  items_fit shape (item d ds) = fits shape d && items_fit shape ds

  pub members_fit : Shape → Members → Bool
  members_fit shape no_members = true
  members_fit shape (member key d ms) = passes (member_shape shape key) (λ inner. fits inner d) && members_fit shape ms

-- a body of this shape: all its values stand at their places, and none is missing
abbrev pub is_body : Shape → Data → Bool
is_body shape d = fits shape d && is_complete shape d
