use Rattle.j39_load.proofs.KeptInTime.{kept_in_time, kept_with_errors, kept_with_errors_in_any_order}
use Rattle.j39_load.proofs.laws.kept_plans_are_in_time.Goals as goal

pub returns : goal.returns
returns c = record { sound = kept_in_time; with_errors = kept_with_errors; damaged_in_any_order = kept_with_errors_in_any_order }
