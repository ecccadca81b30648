use Rattle.std.proofs.Common.{◌≡◌, ◌-◌, ◌≤◌, ◌^◌, [], ℕ, List, length}
use Rattle.j39_id.specs.Lines.{at_start, behind_all, yielded}
use Rattle.j39_stream.specs.Intakes.{HasRead}
use Rattle.j39_stream.specs.Streams.{log_limits}
use Rattle.j39_audit.specs.Settings.{Settings}
use Rattle.j39_audit.specs.inside.Auditing.{HasAudited, IsWithinLines}
use Rattle.j39_audit.proofs.reading.read_log.Given as goal

abbrev pub invariant-loop-count : goal.invariant-loop-count
invariant-loop-count g l = record {
  seen : List ℕ;
  read : HasRead log_limits (g.S.Source.state l.fn.source) (g.S.Source.state l.source) l.intake seen;
  calls : l.intake.calls ≤ 2 ^ 62;
  pending : l.cutter.pending ≡ behind_all at_start seen;
  audited : (s : Settings) → HasAudited s l.fn.log [] → HasAudited s l.log (yielded at_start seen);
  count : IsWithinLines l.log (length seen);
  calm : (g.S.Source.state l.source).failures ≡ (g.S.Source.state l.fn.source).failures;
}

abbrev pub decreases-loop-count : goal.decreases-loop-count
decreases-loop-count g l = 2 ^ 62 - l.intake.calls
