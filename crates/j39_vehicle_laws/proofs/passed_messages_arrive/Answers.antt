use Rattle.j39_vehicle_laws.proofs.Passing.{passed}
use Rattle.j39_vehicle_laws.proofs.passed_messages_arrive.Goals as goal

pub returns : goal.returns
returns c v =
    passed v (record {
      unanswered = c.unanswered_messages_arrive.ensures.arrives;
      answered = c.answered_messages_arrive.ensures.arrives;
      alone = c.sent_frames_arrive.ensures.arrives;
    })
