use Rattle.std.proofs.Common.{Bool, sym, subst}
use Rattle.j39_audit.specs.Claiming.{broken_off}
use Rattle.j39_audit.specs.inside.Recalling.{KnowsClaims, settings_of}
use Rattle.j39_audit.proofs.log_steps.take_break.Goals as goal

pub returns-then-broken-clause-known : goal.returns-then-broken-clause-known
returns-then-broken-clause-known c = λ claims knows.
    subst (λ (b : Bool). KnowsClaims (settings_of c.args.basis.now) c.break_off.new.self (broken_off b claims)) (sym c.if-broken.true)
    (c.break_off.ensures claims knows)
