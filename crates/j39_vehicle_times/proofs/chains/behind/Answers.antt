use Rattle.std.proofs.Common.{◌≡◌, ℕ, ◌+◌, ◌-◌, ◌<◌, length, Some, None, sym, ap, ◌∙◌, arith}
use Rattle.j39_vehicle.specs.declared.vehicle.Vehicle.{Vehicle}
use Rattle.j39_vehicle_findings.specs.declared.point.FlowAt.{FlowAt}
use Rattle.j39_vehicle_times.specs.Times.{behind_by, direct_feeder, sum_known}
use Rattle.j39_vehicle_times.specs.declared.bus_delays.Delays.{Delays}
use Rattle.j39_vehicle_times.proofs.Hops.{behind_first, behind_further, behind_here, behind_without_hop, behind_without_input}
use Rattle.j39_vehicle_times.specs.inside.Chains.{direct_place, hop_by, input_by}
use Rattle.j39_vehicle_times.proofs.Feeding.{feeder_at, hop_of, input_of, no_feeder}
use Rattle.j39_vehicle_times.proofs.chains.behind.Goals as goal

pub chain-init : goal.chain-init
chain-init c = record {
  sum = behind_first c.args.routes.now.vehicle.now c.args.delays.now (length c.args.routes.now.vehicle.now.forwards.items) c.args.start;
  few = omega arith;
}

pub returns-in_default-clause-value : goal.returns-in_default-clause-value
returns-in_default-clause-value c =
    let v = c.args.routes.now.vehicle.now in
    let d = c.args.delays.now in
    let unfed : direct_place v c.chain.at ≡ None = cc in
    let none : direct_feeder v c.chain.at ≡ None = no_feeder v c.chain.at unfed in
    c.first_behind.ensures.value
    ∙ ap (sum_known (Some c.chain.hops)) (sym (behind_here v d (length v.forwards.items - c.chain._step) c.chain.at none))
    ∙ c.chain.invariant.sum

-- The chain behind a flow that a direct forward feeds: without its hop or its input nothing is known, and with both it goes on at the input.
module _ (v : Vehicle) (d : Delays) (steps step hops : ℕ) (at : FlowAt) (place : ℕ) (fed : direct_place v at ≡ Some place) (less : step < steps) where
  without_hop : hop_by v d place at ≡ None → sum_known (Some hops) (behind_by v d (steps - step) at) ≡ None
  without_hop no_hop =
      let feeder = feeder_at v at place fed in
      behind_without_hop v d steps step hops at feeder.forward less feeder.feeds (sym (hop_of v d place at feeder) ∙ no_hop)

  without_input : input_by v place ≡ None → sum_known (Some hops) (behind_by v d (steps - step) at) ≡ None
  without_input no_input =
      let feeder = feeder_at v at place fed in
      behind_without_input v d steps step hops at feeder.forward less feeder.feeds (sym (input_of v place at feeder) ∙ no_input)

  further : (hop : ℕ) (source : FlowAt) → hop_by v d place at ≡ Some hop → input_by v place ≡ Some source
      → sum_known (Some (hops + hop)) (behind_by v d (steps - (step + 1)) source) ≡ sum_known (Some hops) (behind_by v d (steps - step) at)
  further hop source some_hop some_input =
      let feeder = feeder_at v at place fed in
      behind_further v d steps step hops hop at source feeder.forward less feeder.feeds (sym (hop_of v d place at feeder) ∙ some_hop)
      (sym (input_of v place at feeder) ∙ some_input)

pub returns-in_default-hop_by-clause-value : goal.returns-in_default-hop_by-clause-value
returns-in_default-hop_by-clause-value c =
    let v = c.args.routes.now.vehicle.now in
    let fed : direct_place v c.chain.at ≡ Some c.in-Some.forward = cc in
    let no_hop : hop_by v c.args.delays.now c.in-Some.forward c.chain.at ≡ None = cc in
    sym (without_hop v c.args.delays.now (length v.forwards.items) c.chain._step c.chain.hops c.chain.at _ fed (omega arith) no_hop) ∙ c.chain.invariant.sum

pub returns-in_default-input_by-clause-value : goal.returns-in_default-input_by-clause-value
returns-in_default-input_by-clause-value c =
    let v = c.args.routes.now.vehicle.now in
    let fed : direct_place v c.chain.at ≡ Some c.in-Some.forward = cc in
    let no_input : input_by v c.in-Some.forward ≡ None = cc in
    sym (without_input v c.args.delays.now (length v.forwards.items) c.chain._step c.chain.hops c.chain.at _ fed (omega arith) no_input) ∙ c.chain.invariant.sum

pub chain-preserved : goal.chain-preserved
chain-preserved c =
    let v = c.args.routes.now.vehicle.now in
    let fed : direct_place v c.chain.at ≡ Some c.in-Some.forward = cc in
    let some_hop : hop_by v c.args.delays.now c.in-Some.forward c.chain.at ≡ Some c.in-Some-hop_by.hop = cc in
    let some_input : input_by v c.in-Some.forward ≡ Some c.in-Some-input_by.source = cc in
    record {
      sum = further v c.args.delays.now (length v.forwards.items) c.chain._step c.chain.hops c.chain.at _ fed (omega arith) _ _ some_hop some_input
          ∙ c.chain.invariant.sum;
      few = let few = c.chain.invariant.few in let short = c.in-Some-hop_by.ensures.few in omega arith;
    }

pub returns-clause-value : goal.returns-clause-value
returns-clause-value c =
    let v = c.args.routes.now.vehicle.now in
    let d = c.args.delays.now in
    let over : length v.forwards.items - c.chain._step ≡ 0 = omega arith in
    c.last_behind.ensures.value ∙ sym (ap (λ k. sum_known (Some c.chain.hops) (behind_by v d k c.chain.at)) over) ∙ c.chain.invariant.sum
