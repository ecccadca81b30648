use Rattle.std.proofs.Common.{◌++◌, ℕ, List, sym, ◌∙◌, subst}
use Rattle.j39_run.specs.RunText.{IsBusText}
use Rattle.j39_run.proofs.Runs.{closed, done_at_end, units_counted}
use Rattle.j39_run.proofs.schedule_reader.ScheduleReaderLineReader.close.Goals as goal

pub write_closing-requires : goal.write_closing-requires
write_closing-requires g c =
    let run = c.args.self.now.running in
    let (yielded, written, has) = c.requires.begun in
    rw c.plan.ensures (units_counted c.args.self.now.units.now run.bus run.place run.text run.halt yielded written has)

pub returns-clause-text : goal.returns-clause-text
returns-clause-text g c input yielded written has all =
    let run = c.args.self.now.running in
    let plan = c.args.self.now.units.now in
    let (view, is, shows) = rw c.plan.ensures at c.in_ok-write_closing.ensures in (
      run.halt,
      subst (λ (t : List ℕ). IsBusText plan input run.halt (written ++ t)) (sym is)
          (closed plan run.bus run.place run.text view shows run.halt yielded written input has all),
      c.verdict.ensures,
    )

pub returns-clause-done : goal.returns-clause-done
returns-clause-done g c is = done_at_end c.args.self.now.running.halt (sym c.verdict.ensures ∙ is)
