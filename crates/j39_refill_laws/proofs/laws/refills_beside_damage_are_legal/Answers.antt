use Rattle.j39_refill_laws.proofs.Damaged.{legal_with_damage, units_with_damage}
use Rattle.j39_refill_laws.proofs.laws.refills_beside_damage_are_legal.Goals as goal

pub returns : goal.returns
returns c = record { legal = legal_with_damage; units = units_with_damage }
