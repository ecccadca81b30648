use Rattle.std.proofs.Common.{◌∙◌}
use Rattle.j39_audit.proofs.Keeping.{kept_closed, kept_none}
use Rattle.j39_audit.proofs.asking.Asking.forget_all.Goals as goal

pub returns-then-self : goal.returns-then-self
returns-then-self c = λ a recalls.
    let forgot = c.forget_each.ensures in
    record { size = forgot.size ∙ recalls.size; asked = kept_none forgot.none; counted = recalls.counted }

pub returns-else-self : goal.returns-else-self
returns-else-self c = λ a recalls. record { size = recalls.size; asked = kept_closed c.if-self.false recalls.asked; counted = recalls.counted }
