use Rattle.std.proofs.Common.{◌≡◌, take, sym, ◌∙◌, arith}
use Rattle.std.proofs.lemmas.List.{take_all}
use Rattle.j39_vehicle.proofs.Units.{texts_map}
use Rattle.j39_vehicle.proofs.reading.gateway_units.units.Goals as goal

pub returns-clause-same : goal.returns-clause-same
returns-clause-same c =
    let whole : take c.loop-value.value-index c.args.values.now ≡ c.args.values.now =
    take_all c.loop-value.value-index c.args.values.now (omega arith) in
    (rw whole at c.loop-value.invariant.0) ∙ sym (texts_map c.args.values.now)
