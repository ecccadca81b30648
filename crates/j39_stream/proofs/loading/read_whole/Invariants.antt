use Rattle.std.proofs.Common.{◌≡◌, ◌-◌}
use Rattle.j39_stream.specs.Intakes.{HasRead}
use Rattle.j39_stream.specs.Streams.{plan_limits}
use Rattle.j39_stream.proofs.loading.read_whole.Given as goal

abbrev pub invariant-loop-input : goal.invariant-loop-input
invariant-loop-input g l =
    HasRead plan_limits (g.S.Source.state l.fn.source) (g.S.Source.state l.source) l.intake l.input.items
    × ((g.S.Source.state l.source).failures ≡ (g.S.Source.state l.fn.source).failures)

abbrev pub decreases-loop-input : goal.decreases-loop-input
decreases-loop-input g l = plan_limits.calls - l.intake.calls
