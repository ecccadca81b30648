use Rattle.j39_timing.proofs.Answering.{frames_answer, messages_answer}
use Rattle.j39_timing.proofs.laws.answers_ask_for_no_more.Goals as goal

pub returns : goal.returns
returns c = record { frames = frames_answer; messages = messages_answer }
