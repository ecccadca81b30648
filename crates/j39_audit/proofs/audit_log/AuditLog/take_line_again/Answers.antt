use Rattle.std.proofs.Common.{ℕ, List, Option, ap, ◌∙◌}
use Rattle.std.proofs.lemmas.Result.{IfOk-weaker}
use Rattle.std.specs.Option.{option_copied}
use Rattle.j39_follow.specs.LogLines.{interface_behind}
use Rattle.j39_audit.specs.AuditPasts.{past_again}
use Rattle.j39_audit.specs.inside.Recalling.{settings_of}
use Rattle.j39_audit.proofs.Hearing.{again_interface, follows_still}
use Rattle.j39_audit.proofs.audit_log.AuditLog.take_line_again.Goals as goal

pub returns-clause-again : goal.returns-clause-again
returns-clause-again c =
    IfOk-weaker c.keep_interface.result _ _
    (λ _ kept. λ past recalls.
    let took = c.in_ok-take_taken.ensures.again past recalls in
    let s = settings_of c.take_taken.new.self.basis in
    let named : Option (List ℕ) = option_copied c.args.named in
    record {
      follows = follows_still c.take_taken.new.self (past_again s past.taken c.args.time past) took.follows;
      number_is = took.number_is;
      interface_is = kept
          ∙ ap (λ (i : Option (List ℕ)). interface_behind i named) (took.interface_is ∙ again_interface s past past.taken c.args.time);
      taken_is = took.taken_is;
      again_is = took.again_is;
      frames_are = took.frames_are;
      skipped_are = took.skipped_are;
      bad_are = took.bad_are;
      elsewhere_are = took.elsewhere_are;
    })
    c.keep_interface.ensures
