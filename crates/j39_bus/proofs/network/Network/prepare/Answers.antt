use Rattle.std.proofs.Common.{◌∙◌, length, sym, ap, subst}
use Rattle.j39_bus.specs.Stations.{station_at}
use Rattle.j39_bus.specs.inside.KeptMessages.{AreUnits, IsFlow}
use Rattle.j39_world.specs.TransferSteps.{targets_of}
use Rattle.j39_bus.proofs.Wires.{targets_units}
use Rattle.j39_bus.proofs.network.Network.prepare.Goals as goal

pub reserve_each-requires-clause-targets : goal.reserve_each-requires-clause-targets
reserve_each-requires-clause-targets c =
    let cs = c.args.self.now.claimers.items in
    let r = c.index.result.now in
    let form : IsFlow (length cs) r = subst (IsFlow (length cs)) (sym c.index.ensures) (c.requires.network.traffic.flows c.args.place r c.requires.place) in
    let units = targets_units (length cs) (station_at cs) r.sender r.to form.receiver in
    let targets = c.as_slice-2.ensures.value ∙ c.in_ok-targets.ensures
    ∙ ap (λ l. targets_of (length l) (station_at l) r.sender r.to) c.as_slice.ensures.value in
    subst (λ n. AreUnits n c.as_slice-2.result.now) (sym c.requires.network.traffic.table.rows) (subst (AreUnits (length cs)) (sym targets) units)
