-- What a receiver says that it has whole is what its sender put on the bus.
use Rattle.std.specs.Prelude.{◌≡◌, ℕ, List}
use Rattle.j39_tp.specs.HonestPackets.{StatesLast}
use Rattle.j39_tp.specs.declared.packet.Packet.{Packet}
use Rattle.j39_follow.specs.Received.{IsReceived}

-- whatever is received behind the last announcement of a message, whose sender keeps to it, is that message
abbrev pub ReceivesItsMessage : Type 0
ReceivesItsMessage = (h : List Packet) (pgn : ℕ) (bytes : List ℕ) → StatesLast h pgn bytes → (size other : ℕ) (message : List ℕ)
    → IsReceived h size other message → (other ≡ pgn) × (message ≡ bytes)

-- one message at most is received behind a list of packets
abbrev pub ReceivesOneMessage : Type 0
ReceivesOneMessage = (h : List Packet) (size pgn : ℕ) (message words : List ℕ) → IsReceived h size pgn message → IsReceived h size pgn words
    → message ≡ words
