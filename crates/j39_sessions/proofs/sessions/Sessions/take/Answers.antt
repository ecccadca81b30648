use Rattle.std.proofs.Common.{◌∙◌}
use Rattle.j39_sessions.proofs.Recalled.{fault_recalled, recalled_behind}
use Rattle.j39_sessions.proofs.sessions.Sessions.take.Goals as goal

pub returns-clause-fault : goal.returns-clause-fault
returns-clause-fault c = λ s recalls.
    c.fault_of-fault.ensures ∙ fault_recalled c.args.self.now c.args.frame.now c.role_of-role.result c.key_of-key.result
    c.args.frame.now.ident.sa_range c.args.frame.now.ident.ps_range
    c.role_of-role.ensures c.key_of-key.ensures s recalls

pub returns-clause-sessions : goal.returns-clause-sessions
returns-clause-sessions c = λ s recalls.
    recalled_behind c.args.self.now c.turn.new.self c.args.frame.now c.role_of-role.result c.key_of-key.result
    c.args.frame.now.ident.sa_range c.args.frame.now.ident.ps_range
    c.role_of-role.ensures c.key_of-key.ensures c.in_ok-turn.ensures.here c.in_ok-turn.ensures.others s recalls
