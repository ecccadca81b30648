use Rattle.std.proofs.Common.{None, refl, arith}
use Rattle.j39_bus.specs.BusState.{closed}
use Rattle.j39_bus.proofs.ReceiverRows.{holdings_after, in_u, receivers_after}
use Rattle.j39_bus.proofs.receivers.Receivers.close.Goals as goal

pub index_mut-slot-requires : goal.index_mut-slot-requires
index_mut-slot-requires c =
    let inside = in_u c.self.inside.windows.items c.self.inside.rows.items c.args.self.now c.self.view_is c.self.invariant c.args.to c.args.from
    c.requires.to c.requires.from c.index_mut-row.result.now c.index_mut-row.ensures.value in
    omega (arith, inside, c.index_mut-row.result.now.ok.0)

pub invariant_of-self : goal.invariant_of-self
invariant_of-self c =
    receivers_after c.self.inside.windows.items c.self.inside.rows.items c.args.self.now c.self.view_is c.self.invariant c.args.to c.args.from
    c.requires.to c.requires.from c.index_mut-row.result.now c.index_mut-row.ensures.value c.index_mut-slot.result.now c.index_mut-slot.ensures.value
    None tt

pub returns-clause-after : goal.returns-clause-after
returns-clause-after c =
    holdings_after c.self.inside.windows.items c.self.inside.rows.items c.args.self.now c.self.view_is c.self.invariant c.args.to c.args.from
    c.requires.to c.requires.from c.index_mut-row.result.now c.index_mut-row.ensures.value c.index_mut-slot.result.now c.index_mut-slot.ensures.value
    None closed refl
