use Rattle.j39_refill_laws.proofs.Reached.{reached_with_refill}
use Rattle.j39_refill_laws.proofs.ReachedDamaged.{reached_with_damage}
use Rattle.j39_refill_laws.proofs.laws.a_bound_with_refill_is_reached.Goals as goal

pub returns : goal.returns
returns c = record { frames = reached_with_refill; damaged = reached_with_damage }
