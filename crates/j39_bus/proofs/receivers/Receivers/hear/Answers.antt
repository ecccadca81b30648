use Rattle.std.proofs.Common.{ap, sym, ◌∙◌, subst, arith}
use Rattle.std.proofs.lemmas.Result.{IfOk-weaker, on_err_weaker, on_ok_weaker}
use Rattle.j39_tp.specs.Receiver.{hears, receives}
use Rattle.j39_tp.specs.declared.receiving.manner.Manner.TheVariants.{Answering}
use Rattle.j39_world.specs.Flows.{window_at}
use Rattle.j39_bus.specs.BusState.{ReceiverTable}
use Rattle.j39_bus.specs.inside.Receivers.{AnswersWithWindow, answering, left_of}
use Rattle.j39_bus.proofs.ReceiverRows.{answers_here, holding_is, holdings_after, in_u, receivers_after, table_same, window_is}
use Rattle.j39_bus.proofs.receivers.Receivers.hear.Goals as goal

pub index_mut-slot-requires : goal.index_mut-slot-requires
index_mut-slot-requires c =
    let inside = in_u c.self.inside.windows.items c.self.inside.rows.items c.args.self.now c.self.view_is c.self.invariant c.args.to c.args.from
    c.requires.to c.requires.from c.index_mut-row.result.now c.index_mut-row.ensures.value in
    omega (arith, inside, c.index_mut-row.result.now.ok.0)

pub hear_in-requires-clause-answering : goal.hear_in-requires-clause-answering
hear_in-requires-clause-answering c =
    let answers = answers_here c.self.inside.windows.items c.self.inside.rows.items c.args.self.now c.self.view_is c.self.invariant c.args.to c.args.from
    c.requires.to c.requires.from c.index_mut-row.result.now c.index_mut-row.ensures.value c.index_mut-slot.result.now c.index_mut-slot.ensures.value in
    let window = window_is c.self.inside.windows.items c.self.inside.rows.items c.args.self.now c.self.view_is c.self.invariant c.args.to c.args.from
    c.requires.to c.requires.from c.index-window.result.now c.index-window.ensures in
    subst (λ k. AnswersWithWindow k c.index_mut-slot.result.now) (sym window) answers

pub invariant_of-self : goal.invariant_of-self
invariant_of-self c =
    let window = window_is c.self.inside.windows.items c.self.inside.rows.items c.args.self.now c.self.view_is c.self.invariant c.args.to c.args.from
    c.requires.to c.requires.from c.index-window.result.now c.index-window.ensures in
    receivers_after c.self.inside.windows.items c.self.inside.rows.items c.args.self.now c.self.view_is c.self.invariant c.args.to c.args.from
    c.requires.to c.requires.from c.index_mut-row.result.now c.index_mut-row.ensures.value c.index_mut-slot.result.now c.index_mut-slot.ensures.value
    c.hear_in.new.slot (subst (λ k. AnswersWithWindow k c.hear_in.new.slot) window c.hear_in.ensures.answering)

pub returns-clause-heard : goal.returns-clause-heard
returns-clause-heard c =
    let window = window_is c.self.inside.windows.items c.self.inside.rows.items c.args.self.now c.self.view_is c.self.invariant c.args.to c.args.from
    c.requires.to c.requires.from c.index-window.result.now c.index-window.ensures in
    let here = holding_is c.self.inside.windows.items c.self.inside.rows.items c.args.self.now c.self.view_is c.self.invariant c.args.to c.args.from
    c.requires.to c.requires.from c.index_mut-row.result.now c.index_mut-row.ensures.value c.index_mut-slot.result.now c.index_mut-slot.ensures.value in
    let known = window ∙ ap (λ (t : ReceiverTable). window_at t.windows c.args.to) c.self.view_is in
    IfOk-weaker c.hear_in.result _ _ (λ x is. is ∙ (λ i. (hears (Answering (known i)) (here i).progress c.args.packet.now).1)) c.hear_in.ensures.heard

pub returns-clause-after : goal.returns-clause-after
returns-clause-after c =
    let window = window_is c.self.inside.windows.items c.self.inside.rows.items c.args.self.now c.self.view_is c.self.invariant c.args.to c.args.from
    c.requires.to c.requires.from c.index-window.result.now c.index-window.ensures in
    let here = holding_is c.self.inside.windows.items c.self.inside.rows.items c.args.self.now c.self.view_is c.self.invariant c.args.to c.args.from
    c.requires.to c.requires.from c.index_mut-row.result.now c.index_mut-row.ensures.value c.index_mut-slot.result.now c.index_mut-slot.ensures.value in
    on_ok_weaker c.hear_in.result
    (λ after.
    holdings_after c.self.inside.windows.items c.self.inside.rows.items c.args.self.now c.self.view_is c.self.invariant c.args.to c.args.from
    c.requires.to c.requires.from c.index_mut-row.result.now c.index_mut-row.ensures.value c.index_mut-slot.result.now c.index_mut-slot.ensures.value
    c.hear_in.new.slot _
    (after ∙ (λ i. left_of (receives (answering ((window ∙ ap (λ t. window_at t.windows c.args.to) c.self.view_is) i) (here i)) c.args.packet.now))))
    c.hear_in.ensures.after

pub returns-clause-same : goal.returns-clause-same
returns-clause-same c =
    on_err_weaker c.hear_in.result
    (λ same.
    table_same c.self.inside.windows.items c.self.inside.rows.items c.args.self.now c.self.view_is c.self.invariant c.args.to c.args.from
    c.requires.to c.requires.from c.index_mut-row.result.now c.index_mut-row.ensures.value c.index_mut-slot.result.now c.index_mut-slot.ensures.value
    c.hear_in.new.slot same)
    c.hear_in.ensures.same
