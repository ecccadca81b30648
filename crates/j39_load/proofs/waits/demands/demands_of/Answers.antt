use Rattle.std.proofs.Common.{◌++◌, List, map, ap, ◌∙◌}
use Rattle.j39_load.specs.declared.frames.broadcast.BroadcastPart.TheVariants.{Announcements, Packets}
use Rattle.j39_load.specs.Demands.{demands_by}
use Rattle.j39_timing.specs.Waits.{Demand, as_demand}
use Rattle.j39_timing.specs.declared.wants.Wanted.{Wanted}
use Rattle.j39_load.proofs.waits.demands.demands_of.Goals as goal

pub returns-clause-demands : goal.returns-clause-demands
returns-clause-demands c =
    c.in_ok-add_demands-2.ensures.demands
    ∙ ap (λ (ds : List Demand). ds ++ demands_by Announcements c.args.all.now)
    (c.in_ok-add_demands.ensures.demands ∙ ap (λ (ds : List Wanted). map as_demand ds ++ demands_by Packets c.args.all.now) c.new-demands.ensures.items)
