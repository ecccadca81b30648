use Rattle.std.proofs.Common.{subst}
use Rattle.j39_id.proofs.LineLaws.{not_blank, same_last_word}
use Rattle.j39_follow.specs.LogLines.{IsTime}
use Rattle.j39_follow.proofs.line.log_line.interface_in.Goals as goal

pub returns-in_default-clause-none : goal.returns-in_default-clause-none
returns-in_default-clause-none c = λ interface is. absurd (not_blank c.args.front.now interface is c.in_default.ensures.none)

pub returns-then-is_time-clause-none : goal.returns-then-is_time-clause-none
returns-then-is_time-clause-none c = λ interface is.
    subst IsTime (same_last_word c.args.front.now c.in-Some.interface.now interface c.in-Some.ensures.found.0 is)
    (c.is_time.ensures.0 c.if-is_time.true)
