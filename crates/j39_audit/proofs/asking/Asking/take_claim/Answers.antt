use Rattle.std.proofs.Common.{ℕ, Option, sym, subst, ◌∙◌}
use Rattle.j39_audit.specs.Asking.{answered}
use Rattle.j39_audit.specs.inside.Recalling.{RecallsAsking, settings_of}
use Rattle.j39_audit.proofs.Keeping.{kept_less}
use Rattle.j39_audit.proofs.asking.Asking.take_claim.Goals as goal

pub returns-in-Some : goal.returns-in-Some
returns-in-Some c = λ a recalls.
    let new = record c.args.self.now { asked = c.forget_at.new.kept } in
    let forgot = c.forget_at.ensures in
    subst (λ (o : Option ℕ). RecallsAsking (settings_of c.args.basis.now) new (answered o a)) (sym c.in-Some.is)
    (record {
      size = forgot.size ∙ recalls.size;
      asked = kept_less c.in-Some.unit forgot.others forgot.size forgot.here recalls.asked;
      counted = recalls.counted;
    })
