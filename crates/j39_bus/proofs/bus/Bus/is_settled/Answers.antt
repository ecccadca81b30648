use Rattle.std.proofs.Common.{◌≡◌, ap, sym, subst}
use Rattle.j39_bus.specs.BusState.{undelivered}
use Rattle.j39_bus.specs.Queued.{pair_in}
use Rattle.j39_world.specs.Sound.{IsQuiet}
use Rattle.j39_bus.proofs.Settled.{settled}
use Rattle.j39_bus.proofs.bus.Bus.is_settled.Goals as goal

pub returns : goal.returns
returns g c =
    let net = c.self.inside.network in
    let lists : undelivered c.args.self.now ≡ pair_in net.claims.lists = ap undelivered (sym c.self.view_is) in
    let (quiet, all) = settled c.len.result net.claims.lists (rw (c.len.ensures, net.claimers.ok.0) c.self.invariant.network.claims.table)
    c.are_settled.result c.are_settled.ensures in (
      λ yes. subst IsQuiet (sym lists) (quiet yes),
      λ is_quiet. all (subst IsQuiet lists is_quiet),
    )
