-- What is kept of the sessions of pairs of addresses.
use Rattle.std.specs.Prelude.{◌≡◌, ℕ, ◌+◌, ◌*◌, ◌<◌, Option}
use Rattle.std.specs.BTreeMap.{get}
use Rattle.std.specs.Ordering.{nat_cmp}
use Rattle.j39_sessions.specs.Sessions.{AllSessions}
use Rattle.j39_sessions.specs.declared.pair_sessions.PairSessions.{PairSessions}
use Rattle.j39_sessions.specs.declared.sessions.Sessions.{Sessions}

abbrev pub key_of_pair : ℕ → ℕ → ℕ
key_of_pair from to = from * 256 + to

abbrev pub kept_at : Sessions → ℕ → Option PairSessions
kept_at sessions key = get nat_cmp sessions.kept key

-- of each two addresses just this is kept
unfoldable pub KeepsSessions : Sessions → AllSessions → Type 0
KeepsSessions sessions s = (from to : ℕ) → from < 256 → to < 256 → kept_at sessions (key_of_pair from to) ≡ s from to
