use Rattle.std.proofs.Common.{w64, sym, ◌∙◌, arith}
use Rattle.std.proofs.lemmas.Int.{ints, to_z-of_z}
use Rattle.j39_signal.proofs.Steps.{off_step, on_step, none_above, none_below}
use Rattle.j39_signal.proofs.signal.Signal.raw_of.Goals as goal
use Rattle.j39_signal.proofs.signal.Signal.raw_of.Goals.{then-value-offset, else-value-offset}

pub returns-then-distance-step-ne0-clause-refused : goal.returns-then-distance-step-ne0-clause-refused
returns-then-distance-step-ne0-clause-refused c =
    let is_distance = rw (to_z-of_z w64 c.args.value c.ranges.value) at c.distance-distance.ensures in
    off_step c.args.self.now c.args.value _ _ is_distance c.step_size-step.ensures.value c.if-distance-step-ne0.true

pub returns-in-None-clause-refused : goal.returns-in-None-clause-refused
returns-in-None-clause-refused c =
    let is_distance = rw (to_z-of_z w64 c.args.value c.ranges.value) at c.distance-distance.ensures in (
      on_step c.args.self.now c.args.value _ _ is_distance c.step_size-step.ensures.value c.if-distance-step-ne0.false,
      elim c.if-value-offset.branch [
        | then-value-offset w ↦
            none_below c.args.self.now c.args.value _ _ is_distance c.step_size-step.ensures.value c.step_size-step.ensures.some
            (grind (arith, ints, w.if-value-offset.true, c.offset.ensures.value))
            (rw (sym w.found-is ∙ c.in-None.is) at w.raw_below-found.ensures.none)
        | else-value-offset w ↦
            none_above c.args.self.now c.args.value _ _ is_distance c.step_size-step.ensures.value c.step_size-step.ensures.some
            (grind (arith, ints, w.if-value-offset.false, c.offset.ensures.value))
            (rw (sym w.found-is ∙ c.in-None.is) at w.raw_above-found.ensures.none)
      ],
    )
