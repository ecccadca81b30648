use Rattle.j39_refill_laws.proofs.Beside.{legal_beside, streams_beside}
use Rattle.j39_refill_laws.proofs.laws.frames_beside_refills_are_legal.Goals as goal

pub returns : goal.returns
returns c = record {
  legal = λ s controllers refill refills waits legal alone have. legal_beside s controllers refill refills waits legal alone have;
  streams = streams_beside;
}
