use Rattle.std.proofs.Common.{◌≡◌, ◌≤◌, ◌*◌, ◌^◌, take, sum_by}
use Rattle.std.specs.Option.{option_map_or}
use Rattle.j39_load.specs.declared.loads.flow_load.FlowLoad.{FlowLoad}
use Rattle.j39_load.proofs.loads.Loads.total_of_flows.Given as goal

abbrev pub invariant-loop-load : goal.invariant-loop-load
invariant-loop-load l = record {
  sum : l.total ≡ sum_by (λ load. option_map_or (λ (x : FlowLoad). x.bits_per_second) load 0) (take l.load-index l.load-items);
  small : l.total ≤ l.load-index * 2 ^ 32;
}
