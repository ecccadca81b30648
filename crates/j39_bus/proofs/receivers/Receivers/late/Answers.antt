use Rattle.std.proofs.Common.{◌∙◌, arith}
use Rattle.j39_tp.specs.Receiver.{gives_up, timed_out}
use Rattle.j39_world.specs.Flows.{window_at}
use Rattle.j39_bus.specs.inside.Receivers.{answering, left_of}
use Rattle.j39_bus.proofs.ReceiverRows.{answers_here, holding_is, holdings_after, in_u, receivers_after}
use Rattle.j39_bus.proofs.receivers.Receivers.late.Goals as goal

pub index_mut-slot-requires : goal.index_mut-slot-requires
index_mut-slot-requires c =
    let inside = in_u c.self.inside.windows.items c.self.inside.rows.items c.args.self.now c.self.view_is c.self.invariant c.args.to c.args.from
    c.requires.to c.requires.from c.index_mut-row.result.now c.index_mut-row.ensures.value in
    omega (arith, inside, c.index_mut-row.result.now.ok.0)

pub invariant_of-self : goal.invariant_of-self
invariant_of-self c =
    let answers = answers_here c.self.inside.windows.items c.self.inside.rows.items c.args.self.now c.self.view_is c.self.invariant c.args.to c.args.from
    c.requires.to c.requires.from c.index_mut-row.result.now c.index_mut-row.ensures.value c.index_mut-slot.result.now c.index_mut-slot.ensures.value in
    receivers_after c.self.inside.windows.items c.self.inside.rows.items c.args.self.now c.self.view_is c.self.invariant c.args.to c.args.from
    c.requires.to c.requires.from c.index_mut-row.result.now c.index_mut-row.ensures.value c.index_mut-slot.result.now c.index_mut-slot.ensures.value
    c.late_in.new.slot (c.late_in.ensures.answering _ answers)

pub returns-clause-packet : goal.returns-clause-packet
returns-clause-packet c =
    let answers = answers_here c.self.inside.windows.items c.self.inside.rows.items c.args.self.now c.self.view_is c.self.invariant c.args.to c.args.from
    c.requires.to c.requires.from c.index_mut-row.result.now c.index_mut-row.ensures.value c.index_mut-slot.result.now c.index_mut-slot.ensures.value in
    let here = holding_is c.self.inside.windows.items c.self.inside.rows.items c.args.self.now c.self.view_is c.self.invariant c.args.to c.args.from
    c.requires.to c.requires.from c.index_mut-row.result.now c.index_mut-row.ensures.value c.index_mut-slot.result.now c.index_mut-slot.ensures.value in
    c.late_in.ensures.packet _ answers
    ∙ (λ i. (timed_out (answering (window_at (c.self.view_is i).windows c.args.to) (here i)).manner (here i).progress).1)

pub returns-clause-after : goal.returns-clause-after
returns-clause-after c =
    let answers = answers_here c.self.inside.windows.items c.self.inside.rows.items c.args.self.now c.self.view_is c.self.invariant c.args.to c.args.from
    c.requires.to c.requires.from c.index_mut-row.result.now c.index_mut-row.ensures.value c.index_mut-slot.result.now c.index_mut-slot.ensures.value in
    let here = holding_is c.self.inside.windows.items c.self.inside.rows.items c.args.self.now c.self.view_is c.self.invariant c.args.to c.args.from
    c.requires.to c.requires.from c.index_mut-row.result.now c.index_mut-row.ensures.value c.index_mut-slot.result.now c.index_mut-slot.ensures.value in
    holdings_after c.self.inside.windows.items c.self.inside.rows.items c.args.self.now c.self.view_is c.self.invariant c.args.to c.args.from
    c.requires.to c.requires.from c.index_mut-row.result.now c.index_mut-row.ensures.value c.index_mut-slot.result.now c.index_mut-slot.ensures.value
    c.late_in.new.slot _
    (c.late_in.ensures.after _ answers ∙ (λ i. left_of (gives_up (answering (window_at (c.self.view_is i).windows c.args.to) (here i)))))
