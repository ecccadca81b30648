use Rattle.std.proofs.Common.{map, subst, ap, ◌∙◌}
use Rattle.j39_log.specs.inside.NameTables.{AreNamesOf, names_in}
use Rattle.j39_log.proofs.FoundGroups.{names_at}
use Rattle.j39_log.proofs.groups.Groups.names.Goals as goal

pub returns-in-Some : goal.returns-in-Some
returns-in-Some c = λ d.
    let plan = c.self.inside.plan.now in
    let of = subst (AreNamesOf plan) c.in-Some.is c.self.invariant.names in
    rw (← c.self.view_is) (
      ap (map names_in) c.as_slice.ensures.value
          ∙ names_at plan c.in-Some.names c.args.place c.index.result.now of (rw (← c.self.view_is) at c.requires) c.index.ensures d,
      of.1,
    )
