use Rattle.std.proofs.Common.{◌≡◌, length, map, string_bytes, take}
use Rattle.toml.specs.View.{view}
use Rattle.j39_vehicle.specs.GatewayTables.{text_in}
use Rattle.j39_vehicle.proofs.reading.gateway_units.units.Given as goal

abbrev pub invariant-loop-value : goal.invariant-loop-value
invariant-loop-value l =
    (map (λ n. string_bytes n.text) l.units.items ≡ map (λ v. text_in (view v)) (take l.value-index l.values))
    × (length l.units.items ≡ l.value-index)
