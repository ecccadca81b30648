use Rattle.std.proofs.Common.{◌≡◌, List, [], ◌∷◌, sym, ap, ◌∙◌, Some, None}
use Rattle.j39_claim.specs.declared.item.Item.TheVariants.{AddressClaimed, Request}
use Rattle.j39_claim.specs.ClaimRule.{claim_of, said_by}
use Rattle.j39_claim.specs.ClaimerValue.{ClaimerValue}
use Rattle.j39_network.specs.PlannedUnits.{unit_at}
use Rattle.j39_world.specs.ClaimSteps.{asking_items, send_to_others}
use Rattle.j39_bus.specs.Stations.{station_at}
use Rattle.j39_bus.specs.inside.Network.{planned_units, world_in}
use Rattle.j39_bus.proofs.Heard.{answer_at}
use Rattle.j39_bus.proofs.Worlds.{stated_nothing, stated_twice}
use Rattle.j39_bus.proofs.network.Network.request.Goals as goal

pub returns-in-Some-clause-world : goal.returns-in-Some-clause-world
returns-in-Some-clause-world c = λ h.
    let cs : List ClaimerValue = c.args.self.now.claimers.items in
    let same : c.send_to_others.new.self.claimers.items ≡ cs = ap (λ v. v.items) c.send_to_others.ensures.claimers in
    let said : Some c.in-Some.say ≡ said_by (unit_at (planned_units cs) c.args.unit) (claim_of (station_at cs c.args.unit).address) =
    answer_at cs c.args.unit c.index.result.now (Some c.in-Some.say) c.requires.place c.index.ensures c.in-Some.ensures in
    c.send_to_others-in-Some.ensures.world h
    ∙ (λ i. send_to_others (planned_units (same i)) (c.send_to_others.ensures.world h i) c.args.unit (AddressClaimed c.in-Some.say ∷ []))
    ∙ stated_twice (planned_units cs) (world_in h c.args.self.now) c.args.unit Request (AddressClaimed c.in-Some.say)
    ∙ (λ i. send_to_others (planned_units cs) (world_in h c.args.self.now) c.args.unit (asking_items (said i)))

pub returns-in-None-clause-world : goal.returns-in-None-clause-world
returns-in-None-clause-world c = λ h.
    let cs : List ClaimerValue = c.args.self.now.claimers.items in
    let said : None ≡ said_by (unit_at (planned_units cs) c.args.unit) (claim_of (station_at cs c.args.unit).address) =
    answer_at cs c.args.unit c.index.result.now None c.requires.place c.index.ensures c.in-None.ensures in
    sym (stated_nothing (planned_units cs) (world_in h c.args.self.now) c.args.unit)
    ∙ (λ i. send_to_others (planned_units cs) (world_in h c.args.self.now) c.args.unit (asking_items (said i)))
