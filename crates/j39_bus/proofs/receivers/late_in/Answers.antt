use Rattle.std.proofs.Common.{sym, ap, ◌∙◌, subst}
use Rattle.j39_tp.specs.Receiver.{Receiving, gives_up}
use Rattle.j39_bus.specs.inside.Receivers.{AnswersWithWindow}
use Rattle.j39_bus.proofs.receivers.late_in.Goals as goal
use Rattle.j39_bus.proofs.receivers.late_in.Goals.{in-Some, in-None}

pub returns-clause-answering : goal.returns-clause-answering
returns-clause-answering c = λ window is.
    c.leave.ensures.answering window (elim c.match-slot.branch [
      | in-Some w ↦ subst (AnswersWithWindow window) (sym w.slot-is)
          (ap (λ (r : Receiving). r.manner) (w.late-packet.ensures.after ∙ ap gives_up w.deref_mut.ensures.value) ∙ subst
          (AnswersWithWindow window) w.in-Some.is is)
      | in-None w ↦ subst (AnswersWithWindow window) (sym w.slot-is) is
    ])
