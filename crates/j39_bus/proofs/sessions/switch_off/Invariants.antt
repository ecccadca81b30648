use Rattle.std.proofs.Common.{◌≡◌, length}
use Rattle.j39_bus.specs.BusState.{session_at}
use Rattle.j39_bus.proofs.LeftOut.{AreLeftOut}
use Rattle.j39_bus.proofs.sessions.switch_off.Given as goal

abbrev pub invariant-loop-sender : goal.invariant-loop-sender
invariant-loop-sender l = record {
  left_out : AreLeftOut l.unit (session_at l.fn.sessions.items) l.sender (session_at l.sessions.items);
  count : length l.sessions.items ≡ length l.fn.sessions.items;
}
