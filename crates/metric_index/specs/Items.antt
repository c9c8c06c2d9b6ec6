-- Records of the index, as what counts in its history.
use Rattle.std.specs.Prelude.{Option, None, Some}
use Rattle.gno_codec.specs.declared.item.IndexItem.{IndexItem}
use Rattle.gno_codec.specs.declared.item.IndexItem.TheVariants as items
use Rattle.front_api.specs.declared.command.Command.TheVariants as commands
use Rattle.front_api.specs.declared.history.IndexCounted.{IndexCounted}
use Rattle.front_api.specs.declared.history.IndexCounted.TheVariants as counted
use Rattle.front_api.specs.IndexHistory.{MayCount}
use Rattle.front_api.specs.Maps.{Maps, after_counted}

-- what a record stands for, behind the first one
abbrev pub counted_of : IndexItem → Option IndexCounted
counted_of (items.Store number counter) = None
counted_of (items.AddPolicy policy) = Some (counted.Command (commands.AddPolicy policy))
counted_of (items.DropPolicy name) = Some (counted.Command (commands.DropPolicy name))
counted_of (items.AddRule rule) = Some (counted.Command (commands.AddRule rule))
counted_of (items.DropRule name) = Some (counted.Command (commands.DropRule name))
counted_of (items.Draw counter) = Some (counted.Draw counter)
counted_of (items.AddMetric id policy name unit resource) = Some (counted.Add (record { id = id; policy = policy; name = name; unit = unit; resource = resource }))
counted_of (items.DropMetric id) = Some (counted.Command (commands.DropMetric id))
counted_of (items.AddResource id) = Some (counted.Command (commands.AddResource id))
counted_of (items.DropResource id) = Some (counted.Command (commands.DropResource id))

-- the record may follow on these maps
abbrev pub May : Maps → Option IndexCounted → Type 0
May m None = ⊥
May m (Some c) = MayCount m c

-- the maps after a record
abbrev pub after_one : Maps → Option IndexCounted → Maps
after_one m None = m
after_one m (Some c) = after_counted m c
