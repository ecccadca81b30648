use Rattle.std.proofs.Common.{drop}
use Rattle.toml.specs.View.{items_view}
use Rattle.j39_toml.proofs.EachElement.{IsRead}
use Rattle.j39_toml.proofs.each.read_each.Given as goal

abbrev pub invariant-loop-index : goal.invariant-loop-index
invariant-loop-index g l =
    IsRead (record {
      faults = g.R.ReadElement.faults l.reader;
      data_label = g.R.ReadElement.data_label;
      label = g.R.ReadElement.label;
      Grows = g.R.ReadElement.Grows l.reader;
      Describes = g.R.ReadElement.Describes l.reader;
    }) l.index l.items.items (items_view (drop l.index l.values)) (items_view l.values)
