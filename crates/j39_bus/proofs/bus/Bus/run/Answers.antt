use Rattle.std.proofs.Common.{◌≡◌, ◌<◌, ◌≤◌, true, length, ◌∙◌, subst, arith, None}
use Rattle.j39_network.specs.declared.plan.Plan.{Plan}
use Rattle.j39_network.specs.declared.steps.Step.{Step}
use Rattle.j39_world.specs.declared.step_error.StepError.TheVariants.{Memory}
use Rattle.j39_world.specs.Run.{cause_of, refusal, takes_memory, StepsTo}
use Rattle.j39_bus.specs.Stands.{Stands}
use Rattle.j39_world.specs.World.{World}
use Rattle.j39_bus.proofs.Running.{run_more, run_refused, run_all}
use Rattle.j39_bus.proofs.bus.Bus.run.Goals as goal

pub returns-in-Err-clause-refused : goal.returns-in-Err-clause-refused
returns-in-Err-clause-refused g c =
    let inside : c.loop-place.place < length c.args.steps.now = omega arith in
    run_refused c.args.self.now c.loop-place.self c.step.new.self c.args.steps.now c.loop-place.place c.index-steps-place.result inside
    c.loop-place.invariant.ran c.in-Err.ensures.same c.in-Err.error
    (subst (λ (d : Step). (plan : Plan) (w : World) → Stands c.loop-place.self plan w → refusal plan w d ≡ cause_of c.in-Err.error) c.index-steps-place.is
    c.in-Err.ensures.refused)
    (subst (λ (d : Step). c.in-Err.error ≡ Memory → takes_memory d ≡ true) c.index-steps-place.is c.in-Err.ensures.memory)

pub loop-place-preserved : goal.loop-place-preserved
loop-place-preserved g c =
    let inside : c.loop-place.place < length c.args.steps.now = omega arith in
    record {
      ran = run_more c.args.self.now c.loop-place.self c.step.new.self c.args.steps.now c.loop-place.place c.index-steps-place.result inside
          c.loop-place.invariant.ran
          (subst (λ (d : Step). (plan : Plan) (w : World) → Stands c.loop-place.self plan w
          → (refusal plan w d ≡ None) × ((after : World) × StepsTo plan w d after × Stands c.step.new.self plan after)) c.index-steps-place.is
          c.in_default.ensures.ok);
      units = c.step.ensures.units ∙ c.loop-place.invariant.units;
    }

pub returns-clause-ok : goal.returns-clause-ok
returns-clause-ok g c =
    let past : length c.args.steps.now ≤ c.loop-place.place = omega arith in
    run_all c.args.self.now c.loop-place.self c.args.steps.now c.loop-place.place past c.loop-place.invariant.ran
