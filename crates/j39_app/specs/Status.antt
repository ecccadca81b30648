-- The exit status of the program.
use Rattle.std.specs.Prelude.{ℕ, Result, Ok, Err}
use Rattle.j39_stream.specs.declared.fault.Fault.{Fault}
use Rattle.j39_stream.specs.declared.fault.Fault.TheVariants.{Memory, Device, TooLong}
use Rattle.j39_stream.specs.declared.verdict.Verdict.{Verdict}
use Rattle.j39_stream.specs.declared.verdict.Verdict.TheVariants.{Done, Findings, Refused, Unreadable}

abbrev pub status_of : Result Verdict Fault → ℕ
status_of (Ok Done) = 0
status_of (Ok Findings) = 1
status_of (Ok Refused) = 1
status_of (Ok Unreadable) = 2
status_of (Err TooLong) = 2
status_of (Err Memory) = 3
status_of (Err Device) = 4
