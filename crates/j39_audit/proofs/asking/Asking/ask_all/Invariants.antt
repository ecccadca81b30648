use Rattle.std.proofs.Common.{◌≡◌, ◌<◌, ◌≤◌, ℕ, true, Some, None, if◌then◌else◌, length}
use Rattle.std.specs.Option.{option_or}
use Rattle.j39_audit.specs.Asking.{is_asked_to_claim}
use Rattle.j39_audit.specs.inside.Recalling.{request_in, known_by, settings_of}
use Rattle.j39_audit.proofs.asking.Asking.ask_all.Given as goal

abbrev pub invariant-loop-unit : goal.invariant-loop-unit
invariant-loop-unit l = record {
  opened : l.self.is_open ≡ true;
  deaf : l.self.deaf ≡ l.fn.self.deaf;
  size : length l.self.asked.items ≡ length l.fn.self.asked.items;
  before : (u : ℕ) → u < l.unit → request_in l.self u ≡ option_or (request_in l.fn.self u)
      (if is_asked_to_claim (settings_of l.basis) (known_by l.known) l.frame u then Some l.request else None);
  behind : (u : ℕ) → l.unit ≤ u → request_in l.self u ≡ request_in l.fn.self u;
}
