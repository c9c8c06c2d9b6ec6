-- The maps in memory.
use Rattle.std.specs.Prelude.{ℕ, ◌^◌, ◌<◌, ◌≤◌, IsSome, vec_len, vec_capacity}
use Rattle.std.specs.List.{AllByRecursion}
use Rattle.front_api.specs.declared.command.MetricDoc.{MetricDoc}
use Rattle.front_api.specs.Maps.{AreSorted, Maps, last_counter, new_maps}
use Rattle.metric_index.specs.declared.catalog.Catalog.{Catalog}

-- the maps that it has
abbrev pub maps_in : Catalog → Maps
maps_in c = record {
  number = c.number;
  counter = c.counter;
  policies = c.policies.items;
  rules = c.rules.items;
  metrics = c.metrics.items;
  resources = c.resources.items;
}

-- the maps of a store of this number that has drawn up to this counter, and has nothing else
abbrev pub new_catalog : ℕ → ℕ → Maps
new_catalog number counter = record (new_maps number) { counter = counter }

-- a metric with a resource has a name
abbrev pub IsNamed : MetricDoc → Type 0
IsNamed d = IsSome d.resource → IsSome d.name

-- The tables are in order, metrics of resources have names, and the numbers fit.
pub record AreKept (m : Maps) : Type 0 where
  pub sorted : AreSorted m
  pub named : AllByRecursion IsNamed m.metrics
  pub number : m.number < 2 ^ 32
  pub counter : m.counter ≤ last_counter

abbrev pub IsKept : Catalog → Type 0
IsKept c = AreKept (maps_in c)

-- there is memory for one item more in each table
pub record HasRoom (c : Catalog) : Type 0 where
  pub policies : vec_len c.policies < vec_capacity c.policies
  pub rules : vec_len c.rules < vec_capacity c.rules
  pub metrics : vec_len c.metrics < vec_capacity c.metrics
  pub resources : vec_len c.resources < vec_capacity c.resources
