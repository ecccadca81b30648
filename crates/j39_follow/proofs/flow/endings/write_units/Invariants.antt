use Rattle.std.proofs.Common.{◌≡◌, ◌++◌, ℕ, List, take}
use Rattle.j39_id.specs.declared.frame.Frame.{Frame}
use Rattle.j39_follow.specs.FollowText.{AreUnitLines}
use Rattle.j39_follow.specs.inside.Recounting.{Recounts}
use Rattle.j39_follow.proofs.flow.endings.write_units.Given as goal

abbrev pub invariant-loop-place : goal.invariant-loop-place
invariant-loop-place l = (frames : List Frame) → Recounts l.plan l.holders frames
    → (piece : List ℕ) × AreUnitLines l.plan frames 0 (take l.place l.plan.units.items) piece × (l.text ≡ l.initial.text ++ piece)
