use Rattle.j39_refill_laws.proofs.Refilled.{begun_with_refill, in_time_with_refill, sent_with_refill}
use Rattle.j39_refill_laws.proofs.laws.frames_with_refill_are_in_time.Goals as goal

pub returns : goal.returns
returns c = record { begun = begun_with_refill; in_time = in_time_with_refill; sent = sent_with_refill }
