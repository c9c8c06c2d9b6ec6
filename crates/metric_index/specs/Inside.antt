-- How the index's book keeps what contracts see of it.
use Rattle.std.specs.Prelude.{◌≡◌, IfSome, is_some}
use Rattle.metric_index.specs.declared.book.Book.TheInside.{Inside}
use Rattle.metric_index.specs.BookView.{BookView}
use Rattle.metric_index.specs.Catalog.{IsKept, maps_in}
use Rattle.metric_index.specs.IndexLog.{IsIndexLog, index_place}

-- what contracts see
abbrev pub book_view : {D : Type 0} → Inside D → BookView D
book_view l = record {
  first = l.pair.first;
  second = l.pair.second;
  sacks = l.pair.place.sacks;
  epoch = l.pair.epoch;
  broken = l.pair.broken;
  is_told = is_some l.pair.records;
  maps = maps_in l.catalog;
}

-- the maps in memory are those of the records
pub record KeepsBook {D : Type 0} (l : Inside D) : Type 0 where
  pub kept : IsKept l.catalog
  pub are : IfSome l.pair.records (λ records. IsIndexLog records (maps_in l.catalog))
  pub place : l.pair.place ≡ index_place l.pair.place.sacks
