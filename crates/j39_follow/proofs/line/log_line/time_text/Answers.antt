use Rattle.std.proofs.Common.{inl}
use Rattle.j39_follow.proofs.line.log_line.time_text.Goals as goal

pub returns-in-Some : goal.returns-in-Some
returns-in-Some c = inl c.in-Some.ensures
