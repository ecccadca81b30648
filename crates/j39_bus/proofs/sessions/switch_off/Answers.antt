use Rattle.std.proofs.Common.{None, ◌∙◌, arith}
use Rattle.j39_bus.specs.BusState.{session_at}
use Rattle.j39_bus.proofs.ChangedSessions.{session_set}
use Rattle.j39_bus.proofs.LeftOut.{left_out_all, left_out_more}
use Rattle.j39_bus.proofs.sessions.switch_off.Goals as goal

pub loop-sender-preserved : goal.loop-sender-preserved
loop-sender-preserved c = record {
  left_out = left_out_more c.args.unit (session_at c.args.sessions.now.items) c.loop-sender.sender (session_at c.loop-sender.sessions.items)
      (session_at c.leave_out.new.sessions.items) c.loop-sender.invariant.left_out c.leave_out.ensures.session;
  count = c.leave_out.ensures.count ∙ c.loop-sender.invariant.count;
}

pub returns-clause-sessions : goal.returns-clause-sessions
returns-clause-sessions c =
    left_out_all c.args.unit c.args.sessions.now.items c.loop-sender.sender (session_at c.loop-sender.sessions.items) _ (omega arith)
    c.loop-sender.invariant.left_out
    (session_set c.loop-sender.sessions.items c.args.unit None (omega (arith, c.requires, c.loop-sender.invariant.count)))
