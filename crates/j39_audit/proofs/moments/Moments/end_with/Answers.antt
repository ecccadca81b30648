use Rattle.std.proofs.Common.{subst, sym, ◌∙◌}
use Rattle.j39_audit.specs.Moments.{ends_with, pause_ended}
use Rattle.j39_audit.specs.inside.Recalling.{RecallsMoments, settings_of}
use Rattle.j39_audit.proofs.Pausing.{either_same, is_nothing, none_open}
use Rattle.j39_audit.proofs.moments.Moments.end_with.Goals as goal

pub returns-then-is_none-clause-moments : goal.returns-then-is_none-clause-moments
returns-then-is_none-clause-moments c = λ m recalls.
    let s = settings_of c.args.basis.now in
    let nothing = is_nothing c.newest.result c.if-is_none.ensures in
    let none = none_open s c.args.timing c.args.place m (sym (recalls.pauses.newest.places c.args.place) ∙ sym c.newest.ensures ∙ nothing) in
    subst (RecallsMoments c.args.self.now)
    (either_same (ends_with s c.args.unit c.args.place) m (pause_ended s c.args.timing c.args.place m) none) recalls
