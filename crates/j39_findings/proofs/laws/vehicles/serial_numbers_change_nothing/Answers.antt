use Rattle.j39_findings.proofs.Vehicles.{found_alike, clean_vehicle}
use Rattle.j39_findings.proofs.laws.vehicles.serial_numbers_change_nothing.Goals as goal

pub returns-clause-alike : goal.returns-clause-alike
returns-clause-alike c = found_alike

pub returns-clause-clean : goal.returns-clause-clean
returns-clause-clean c = clean_vehicle
