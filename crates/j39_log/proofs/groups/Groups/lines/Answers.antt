use Rattle.std.proofs.Common.{◌∙◌, sym}
use Rattle.j39_log.proofs.FoundGroups.{lined_at}
use Rattle.j39_log.proofs.groups.Groups.lines.Goals as goal

pub returns : goal.returns
returns c = λ d.
    rw (← c.self.view_is) (lined_at c.self.inside.plan.now c.self.inside.catalog c.args.place c.index.result.now c.self.invariant
    (rw (← c.self.view_is) at c.requires) c.index.ensures d ∙ sym c.deref.ensures.value)
