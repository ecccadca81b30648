-- Why a session is given up: the reasons of an Abort that this profile sends (SAE J1939-21, connection abort).
use Rattle.std.specs.Prelude.{ℕ}

-- nothing was heard in time
abbrev pub timeout : ℕ
timeout = 3

-- a CTS came while data was being sent
abbrev pub cts_while_sending : ℕ
cts_while_sending = 4

-- a packet was asked for too often
abbrev pub asked_too_often : ℕ
asked_too_often = 5
