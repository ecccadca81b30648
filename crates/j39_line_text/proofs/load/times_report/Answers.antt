use Rattle.std.proofs.Common.{sym, ◌∙◌}
use Rattle.std.proofs.lemmas.Option.{none-some}
use Rattle.j39_line_bounds.specs.LineTimes.{AreTimesAmong}
use Rattle.j39_line_text.specs.Hindrances.{variants_at}
use Rattle.j39_line_text.proofs.LookedTimes.{among_looked}
use Rattle.j39_line_text.proofs.load.times_report.Goals as goal

pub returns : goal.returns
returns c looked timed shown times_are =
    let are : AreTimesAmong c.args.line.now (variants_at looked) c.args.times.now =
    among_looked c.args.line.now looked c.args.times.now shown.few (λ none. none-some c.args.timing (sym none ∙ timed)) times_are in
    record {
      looked = looked;
      reported = c.args.reported.now;
      shown = shown;
      times = c.args.times.now;
      are_times = are;
      bounds = c.times_bound_these.ensures c.args.line.now (variants_at looked) c.args.times.now are;
      shown_times = c.in_ok-shown.shown;
      are_shown = c.in_ok-shown.ensures;
      text_is = rw (c.in_ok-write_times.ensures, c.new-text.ensures) at c.in_ok-write_unshown.ensures;
      verdict_is = c.verdict_of.ensures;
    }
