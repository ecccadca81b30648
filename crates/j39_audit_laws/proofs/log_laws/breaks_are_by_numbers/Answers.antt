use Rattle.j39_audit_laws.proofs.LogTimes.{breaks_so, newest_greatest, times_begin, timing_needed}
use Rattle.j39_audit_laws.proofs.log_laws.breaks_are_by_numbers.Goals as goal

pub returns-clause-breaks : goal.returns-clause-breaks
returns-clause-breaks c = breaks_so

pub returns-clause-newest : goal.returns-clause-newest
returns-clause-newest c = newest_greatest

pub returns-clause-first : goal.returns-clause-first
returns-clause-first c = times_begin

pub returns-clause-timing : goal.returns-clause-timing
returns-clause-timing c = timing_needed
