use Rattle.j39_timing.proofs.Errors.{legal_in_any_order_with_errors, legal_with_errors, units_stay}
use Rattle.j39_timing.proofs.laws.a_bus_with_errors_is_legal.Goals as goal

pub returns : goal.returns
returns c = record {
  legal = legal_with_errors;
  any_order = λ s controllers damaged legal own. legal_in_any_order_with_errors s damaged controllers own legal;
  units = units_stay;
}
