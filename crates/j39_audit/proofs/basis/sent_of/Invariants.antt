use Rattle.std.proofs.Common.{◌≡◌, ◌<◌, ℕ, length}
use Rattle.j39_audit.specs.inside.Sending.{is_sender_of, sent_in}
use Rattle.j39_audit.proofs.basis.sent_of.Given as goal

abbrev pub invariant-loop-unit : goal.invariant-loop-unit
invariant-loop-unit l = record {
  size : length l.rows.items ≡ l.unit;
  each : (u : ℕ) → u < l.unit → (g : ℕ) → sent_in l.rows.items u g ≡ is_sender_of l.plan u g;
}
