-- How much a plan holds at most, beside the units of a network.
use Rattle.std.specs.Prelude.{ℕ}

-- the most groups of a plan
abbrev pub group_limit : ℕ
group_limit = 256

-- the most flows of a plan
abbrev pub flow_limit : ℕ
flow_limit = 512

-- the most needs of a plan
abbrev pub need_limit : ℕ
need_limit = 4096

-- the most requests of a plan
abbrev pub request_limit : ℕ
request_limit = 512

-- the most signals of a group
abbrev pub signal_limit : ℕ
signal_limit = 64

-- the most texts of a group
abbrev pub text_limit : ℕ
text_limit = 64

-- the most raw numbers of a signal that have a name
abbrev pub value_limit : ℕ
value_limit = 256

-- the greatest number of a signal (SPN), which has 19 bits
abbrev pub spn_most : ℕ
spn_most = 524287
