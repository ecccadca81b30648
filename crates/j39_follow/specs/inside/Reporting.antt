-- What a report is written from.
use Rattle.std.specs.Prelude.{ℕ, Bool, true, false, List}
use Rattle.j39_follow.specs.FollowReports.{Message, stamp}
use Rattle.j39_follow.specs.declared.message.Arrival.{Arrival}
use Rattle.j39_follow.specs.declared.message.Sort.{Sort}
use Rattle.j39_follow.specs.declared.message.Sort.TheVariants.{Grouped, Other}
use Rattle.j39_follow.specs.declared.flow.sending.Aim.{Aim}
use Rattle.j39_follow.specs.declared.flow.sending.Aim.TheVariants.{All}
use Rattle.j39_follow.specs.declared.line.stamp.Stamp.{Stamp}

-- the message that came
abbrev pub arrived_message : Arrival → Message
arrived_message a = record { pgn = a.pgn; bytes = a.bytes.now; ident = a.ident; framed = a.framed }

-- what stands before a report
abbrev pub front_of : Stamp → List ℕ
front_of s = stamp s.number s.time.now

-- it went to all
abbrev pub is_all : Aim → Bool
is_all All = true
is_all _ = false

abbrev pub is_grouped : Sort → Bool
is_grouped (Grouped group flow) = true
is_grouped (Other pgn) = false
