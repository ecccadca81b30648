use Rattle.std.proofs.Common.{◌≡◌, ◌<◌, ◌+◌, ◌-◌, ◌++◌, ap, ◌∙◌, drop, length, arith}
use Rattle.j39_vehicle_text.specs.NeedLines.{back_text}
use Rattle.j39_vehicle_text.proofs.WaySteps.{none_written, one_written}
use Rattle.j39_vehicle_text.proofs.ways.write_back.Goals as goal

pub back-init : goal.back-init
back-init c = record {
  inside = omega arith;
  written = none_written c.args.text.now c.args.back.now;
}

pub back-preserved : goal.back-preserved
back-preserved c =
    let k = c.back.left - 1 in
    let left : c.back.left ≡ k + 1 = omega (arith, c.back-test.true) in
    let less : k < length c.args.back.now = omega (arith, c.back-test.true, c.back.invariant.inside) in
    record {
      inside = omega (arith, c.back.invariant.inside);
      written = one_written c.args.text.now c.back.text c.place.new.self c.args.back.now k less
          (c.back.invariant.written ∙ ap (λ i. c.args.text.now ++ back_text (drop i c.args.back.now)) left) c.in_ok-place.ensures;
    }
