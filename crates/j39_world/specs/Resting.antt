-- When a sender may rest (a rule of our own; it stands for waiting longer than every timeout).
use Rattle.std.specs.Prelude.{ℕ, Bool, true, false, not, ◌&&◌, is_some}
use Rattle.std.specs.List.{range_with_len, list_all}
use Rattle.j39_tp.specs.Receiver.{is_open_at}
use Rattle.j39_tp.specs.declared.packet.Packet.TheVariants.{Cts, EndAck, Abort}
use Rattle.j39_world.specs.declared.wired.Wired.{Wired}
use Rattle.j39_world.specs.declared.wired.Wired.TheVariants as wired
use Rattle.j39_world.specs.Transfers.{outcome_in}
use Rattle.j39_world.specs.World.{World}

-- a frame that was sent alone
abbrev pub is_alone : Wired → Bool
is_alone (wired.Alone f bytes) = true
is_alone _ = false

-- what a sender sends its receivers, and an Abort, which may be of either; nobody waits for a frame that was sent alone
abbrev pub is_of_sender : Wired → Bool
is_of_sender (wired.Packet (Cts count first pgn)) = false
is_of_sender (wired.Packet (EndAck size pgn)) = false
is_of_sender (wired.Alone f bytes) = false
is_of_sender _ = true

-- what a receiver answers, and an Abort
abbrev pub is_of_receiver : Wired → Bool
is_of_receiver (wired.Packet (Cts count first pgn)) = true
is_of_receiver (wired.Packet (EndAck size pgn)) = true
is_of_receiver (wired.Packet (Abort reason pgn)) = true
is_of_receiver _ = false

-- nothing of a message of u to v is open or undelivered
abbrev pub is_over_with : World → ℕ → ℕ → Bool
is_over_with w u v =
    not (is_open_at (w.receivers v u))
    && (list_all (λ item. not (is_of_sender item)) (w.wire u v) && list_all (λ item. not (is_of_receiver item)) (w.wire v u))

-- the message of u has ended, and nothing of it is open or undelivered at any of so many units
abbrev pub can_rest : ℕ → World → ℕ → Bool
can_rest count w u = is_some (outcome_in (w.sessions u)) && list_all (is_over_with w u) (range_with_len 0 count)
