use Rattle.std.proofs.Common.{◌<◌, ◌≤◌, List, length}
use Rattle.std.specs.Prelude.{IfSome}
use Rattle.j39_id.specs.declared.frame.Frame.{Frame}
use Rattle.j39_follow.specs.inside.Likeliest.{IsBestOf}
use Rattle.j39_follow.specs.inside.Recounting.{Recounts}
use Rattle.j39_follow.proofs.address.who.likeliest.Given as goal

abbrev pub invariant-loop-place : goal.invariant-loop-place
invariant-loop-place l =
    ((frames : List Frame) → Recounts l.plan l.holders frames → IsBestOf l.plan l.place frames l.address l.best)
    × IfSome l.best (λ b. b < length l.plan.units.items) × (l.place ≤ length l.plan.units.items)
