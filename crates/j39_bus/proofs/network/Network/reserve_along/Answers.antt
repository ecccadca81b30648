use Rattle.std.proofs.Common.{◌≡◌, ◌<◌, length, Some, None, arith, sym, ◌∙◌, subst}
use Rattle.j39_bus.specs.BusState.{session_at}
use Rattle.j39_bus.specs.inside.KeptMessages.{AreUnits}
use Rattle.j39_bus.proofs.Worlds.{any_default}
use Rattle.j39_bus.proofs.network.Network.reserve_along.Goals as goal

pub reserve_each-requires-clause-targets : goal.reserve_each-requires-clause-targets
reserve_each-requires-clause-targets c =
    let well = c.requires.network.traffic in
    let list = c.args.self.now.sessions.items in
    let inside : c.args.unit < length list = omega (arith, well.sessions.count, c.requires.unit) in
    let at : session_at list c.args.unit ≡ Some c.in-Some.session =
    sym (c.index.ensures ∙ any_default list c.args.unit c.index.result.now None inside) ∙ c.in-Some.is in
    subst (AreUnits (length c.args.self.now.wire.lists)) (sym c.targets.ensures)
    (subst (λ n. AreUnits n c.in-Some.session.targets) (sym well.table.rows) (well.sessions.each c.args.unit c.in-Some.session at).targets)
