use Rattle.std.proofs.Common.{◌≡◌, ◌<◌, ◌≤◌, ℕ, None, if◌then◌else◌, length}
use Rattle.j39_audit.specs.Settings.{moves}
use Rattle.j39_audit.specs.inside.Recalling.{last_in, settings_of}
use Rattle.j39_audit.proofs.known.Known.break_off.Given as goal

abbrev pub invariant-loop-unit : goal.invariant-loop-unit
invariant-loop-unit l = record {
  taken : l.self.taken ≡ l.fn.self.taken;
  least : l.self.least ≡ l.fn.self.least;
  claimed : l.self.claimed ≡ l.fn.self.claimed;
  requests : l.self.requests ≡ l.fn.self.requests;
  size : length l.self.last.items ≡ length l.fn.self.last.items;
  before : (u : ℕ) → u < l.unit → last_in l.self u ≡ (if moves (settings_of l.basis) u then None else last_in l.fn.self u);
  behind : (u : ℕ) → l.unit ≤ u → last_in l.self u ≡ last_in l.fn.self u;
}
