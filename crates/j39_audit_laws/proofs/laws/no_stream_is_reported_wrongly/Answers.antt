use Rattle.j39_audit_laws.proofs.OnLogs.{not_near, not_silent}
use Rattle.j39_audit_laws.proofs.laws.no_stream_is_reported_wrongly.Goals as goal

pub returns : goal.returns
returns c = record { near = not_near; silent = not_silent }
