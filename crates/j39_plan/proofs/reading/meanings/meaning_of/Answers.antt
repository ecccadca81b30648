use Rattle.j39_plan.specs.MeaningTables.{AreValueNames}
use Rattle.j39_plan.proofs.reading.meanings.meaning_of.Goals as goal
use Rattle.j39_plan.proofs.reading.meanings.meaning_of.Goals.{in-Some+in_ok-values-in-Some, in-None}

pub returns-clause-names : goal.returns-clause-names
unfolding AreValueNames
returns-clause-names c =
    elim c.match-meant.branch [
      | in-Some+in_ok-values-in-Some w ↦ rw (w.in-Some.is, w.values-is) w.in_ok-values-in-Some.ensures.names
      | in-None w ↦ rw (w.in-None.is, w.values-is, w.new-values.ensures.items) tt
    ]
