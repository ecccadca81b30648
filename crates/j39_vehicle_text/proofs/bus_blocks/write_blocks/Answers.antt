use Rattle.std.proofs.Common.{◌≡◌, ◌+◌, drop, length, Some, sym, ap, subst, ◌∙◌, arith}
use Rattle.std.specs.List.{slice_get}
use Rattle.std.proofs.lemmas.List.{drop_all}
use Rattle.std.proofs.lemmas.Option.{slice_get-get_or}
use Rattle.j39_load.specs.BusTimes.{timing_of}
use Rattle.j39_vehicle_times.specs.BusDelays.{AreDelaysOn}
use Rattle.j39_vehicle_text.proofs.BlockLists.{all_written, few_so_far, few_written, next_bus, none_written, one_written}
use Rattle.j39_vehicle_text.proofs.DelaysSoFar.{AreSoFar, all_stated, length_more, none_stated, one_more}
use Rattle.j39_vehicle_text.proofs.KnownBuses.{delays_known}
use Rattle.j39_vehicle_text.proofs.bus_blocks.write_blocks.Goals as goal

pub loop-bus-init : goal.loop-bus-init
loop-bus-init c =
    let none = c.new-of_buses.ensures.items in record {
      blocks = none_written c.args.buses.now c.args.text.now;
      count = ap length none;
      most = omega arith;
      delays = none_stated c.args.buses.now _ none;
    }

pub with-all-requires : goal.with-all-requires
with-all-requires c =
    few_so_far (drop c.loop-bus.bus-index c.args.buses.now) c.args.buses.now c.args.text.now c.loop-bus.text c.loop-bus.all.count c.loop-bus.all.are_of_times
    c.loop-bus.invariant.blocks c.requires

pub loop-bus-preserved : goal.loop-bus-preserved
loop-bus-preserved c =
    let buses = c.args.buses.now in
    let i = c.loop-bus.bus-index in
    let bus = c.bus-item.result in
    let old = c.loop-bus.of_buses.items in
    let known = c.in_ok-answer.answer in
    let delays = c.into_delays.result in
    let next = next_bus buses i bus c.bus-item.is c.loop-bus-test.true in
    let (block, is, put) = c.in_ok-write_block.ensures in
    let at : slice_get buses (length old) ≡ Some bus =
    ap (slice_get buses) c.loop-bus.invariant.count ∙ slice_get-get_or buses i bus c.loop-bus-test.true ∙ ap Some (sym c.bus-item.is) in
    let on : AreDelaysOn bus.plan (timing_of bus.plan) delays.items =
    subst (AreDelaysOn bus.plan (timing_of bus.plan)) (sym c.into_delays.ensures) (delays_known bus.plan known c.in_ok-answer.ensures) in
    let more = ap length c.in_ok-push.ensures.items in
    let longer = length_more old delays in
    let count = c.loop-bus.invariant.count in
    let within = c.loop-bus-test.true in record {
      blocks = one_written bus (drop (i + 1) buses) buses c.args.text.now c.loop-bus.text c.write_block.new.text c.loop-bus.all.count c.with-all.result.count
          c.loop-bus.all.are_of_times c.with-all.result.are_of_times known block (rw next at c.loop-bus.invariant.blocks) c.in_ok-answer.ensures is put
          c.with-all.ensures.count c.with-all.ensures.are_of_times c.with-all.ensures.few;
      count = omega (arith, more, longer, count);
      most = omega (arith, within);
      delays = subst (AreSoFar buses) (sym c.in_ok-push.ensures.items) (one_more buses old delays bus c.loop-bus.invariant.delays at on);
    }

pub returns-clause-stated : goal.returns-clause-stated
returns-clause-stated c =
    let done = drop_all c.loop-bus.bus-index c.args.buses.now c.loop-bus-test.false in
    all_written c.args.buses.now c.args.text.now c.loop-bus.text c.loop-bus.all.count c.loop-bus.all.are_of_times (rw done at c.loop-bus.invariant.blocks)

pub returns-clause-few : goal.returns-clause-few
returns-clause-few c =
    let done = drop_all c.loop-bus.bus-index c.args.buses.now c.loop-bus-test.false in
    few_written c.args.buses.now c.args.text.now c.loop-bus.text c.loop-bus.all.count c.loop-bus.all.are_of_times (rw done at c.loop-bus.invariant.blocks)
    c.requires

pub returns-clause-delays : goal.returns-clause-delays
returns-clause-delays c v same =
    let count = c.loop-bus.invariant.count in
    let most = c.loop-bus.invariant.most in
    let end = c.loop-bus-test.false in
    let all = ap length same in
    all_stated v _ (omega (arith, count, most, end, all)) (subst (λ bs. AreSoFar bs c.loop-bus.of_buses.items) (sym same) c.loop-bus.invariant.delays)
