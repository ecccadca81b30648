use Rattle.std.proofs.Common.{◌≡◌, ◌≤◌, take}
use Rattle.j39_load.specs.LiveClaims.{claiming}
use Rattle.j39_load.proofs.live_claims.claiming.Given as goal

abbrev pub invariant-loop-unit : goal.invariant-loop-unit
invariant-loop-unit l = record {
  count : l.count ≡ claiming (take l.unit-index l.units);
  few : l.count ≤ l.unit-index;
}
