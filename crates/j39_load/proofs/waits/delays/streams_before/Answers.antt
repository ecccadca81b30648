use Rattle.std.proofs.Common.{◌++◌, List, get_or, take, None, sym, ap, ◌∙◌, append_assoc, arith}
use Rattle.j39_load.specs.Damage.{damage_streams}
use Rattle.j39_load.specs.Delays.{going_before}
use Rattle.j39_load.specs.LineLists.{lines_of_each}
use Rattle.j39_timing.specs.declared.stream.Stream.{Stream}
use Rattle.j39_load.proofs.Before.{more}
use Rattle.j39_load.proofs.waits.delays.streams_before.Goals as goal

pub loop-place-preserved : goal.loop-place-preserved
loop-place-preserved c =
    let report = going_before c.args.i c.args.own.now in
    let damage = damage_streams c.args.timing in
    let k = c.loop-place.place in
    record {
      streams = c.in_ok-add_other.ensures.streams
          ∙ ap (λ (xs : List Stream). xs ++ report k (get_or c.args.all.now k None)) c.loop-place.invariant.streams
          ∙ append_assoc damage (lines_of_each report 0 (take k c.args.all.now)) (report k (get_or c.args.all.now k None))
          ∙ ap (λ (xs : List Stream). damage ++ xs) (sym (more report k c.args.all.now None c.loop-place-test.true));
      few = omega (arith, c.loop-place.invariant.few, c.in_ok-add_other.ensures.few);
      fit = c.in_ok-add_other.ensures.fit;
    }
