use Rattle.j39_audit_laws.proofs.KnownSenders.{alone_sends, others_unsure}
use Rattle.j39_audit_laws.proofs.log_laws.senders_are_known_by_claims.Goals as goal

pub returns-clause-alone : goal.returns-clause-alone
returns-clause-alone c = alone_sends

pub returns-clause-others : goal.returns-clause-others
returns-clause-others c = others_unsure
