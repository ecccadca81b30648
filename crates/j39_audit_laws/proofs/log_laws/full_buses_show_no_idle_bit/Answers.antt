use Rattle.j39_audit_laws.proofs.LogTimes.{damage_fills}
use Rattle.j39_audit_laws.proofs.log_laws.full_buses_show_no_idle_bit.Goals as goal

pub returns : goal.returns
returns c = damage_fills
