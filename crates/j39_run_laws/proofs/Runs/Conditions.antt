-- What a step meets that is not refused.
use Rattle.std.proofs.Common.{◌≡◌, ℕ, Bool, true, false, None}
use Rattle.std.proofs.lemmas.Bool.{not-false, not_from_true, or_from, or_parts}
use Rattle.std.specs.Prelude.{nat_lt}
use Rattle.j39_network.specs.declared.plan.Plan.{Plan}
use Rattle.j39_network.specs.declared.steps.Step.{Step}
use Rattle.j39_world.proofs.Refusals.{NoneHold, none_hold, none_first}
use Rattle.j39_world.specs.Flows.{flows_of}
use Rattle.j39_world.specs.Run.{count_of, either, is_unknown, refusal, step_refusals}
use Rattle.j39_world.specs.World.{World}

-- a place of a unit
abbrev pub is_unit : Plan → ℕ → Bool
is_unit plan u = nat_lt u (count_of plan)

-- the units of a step that is not refused for an unknown one
pub units_known : (plan : Plan) (u v : ℕ) → either (is_unknown (count_of plan)) u v ≡ false → (is_unit plan u ≡ true) × (is_unit plan v ≡ true)
units_known plan u v none =
    let parts = or_parts (is_unknown (count_of plan) u) (is_unknown (count_of plan) v) none in
    (not-false (is_unit plan u) parts.0, not-false (is_unit plan v) parts.1)

pub none_unknown : (plan : Plan) (u v : ℕ) → is_unit plan u ≡ true → is_unit plan v ≡ true → either (is_unknown (count_of plan)) u v ≡ false
none_unknown plan u v unit_u unit_v =
    or_from (is_unknown (count_of plan) u) (is_unknown (count_of plan) v) (not_from_true (is_unit plan u) unit_u) (not_from_true (is_unit plan v) unit_v)

-- no refusal holds of a step that is not refused, and the other way round
abbrev pub NoneHoldOf : Plan → World → Step → Type 0
NoneHoldOf plan w step = NoneHold (step_refusals plan.live (count_of plan) (flows_of plan) w step)

pub none_refuses : (plan : Plan) (w : World) (step : Step) → refusal plan w step ≡ None → NoneHoldOf plan w step
none_refuses plan w step = none_hold (step_refusals plan.live (count_of plan) (flows_of plan) w step)

pub not_refused : (plan : Plan) (w : World) (step : Step) → NoneHoldOf plan w step → refusal plan w step ≡ None
not_refused plan w step = none_first (step_refusals plan.live (count_of plan) (flows_of plan) w step)
