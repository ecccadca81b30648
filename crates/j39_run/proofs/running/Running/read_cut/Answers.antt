use Rattle.std.proofs.Common.{rules, ◌≡◌, true, refl}
use Rattle.j39_id.specs.Lines.{Long}
use Rattle.j39_schedule.specs.Schedule.{line_order}
use Rattle.j39_schedule.specs.declared.line_fault.LineFault.TheVariants.{LongLine}
use Rattle.j39_run.specs.RunText.{is_running}
use Rattle.j39_run.proofs.Runs.{bad_run}
use Rattle.j39_run.proofs.running.Running.read_cut.Goals as goal

pub returns-in-Long-clause-run : goal.returns-in-Long-clause-run
unfolding line_order
returns-in-Long-clause-run g c =
    let goes : is_running c.args.self.now.halt ≡ true = search rules in
    rw c.in-Long.is (bad_run c.args.units.now c.args.self.now goes Long LongLine refl)
