-- Where strangers may come, no frame is accused of being one's, nor of being nobody's.
use Rattle.std.proofs.Common.{◌≡◌, ◌≢◌, ℕ, ◌<◌, Bool, true, false, if◌then◌else◌, List, Option, Some, None, sym, ◌∙◌, arith}
use Rattle.std.proofs.lemmas.Bool.{cond-true, lt-ltb}
use Rattle.j39_id.specs.Lines.{Line}
use Rattle.j39_audit.specs.AuditText.{look_at, subjects, subject_lines, word_lines}
use Rattle.j39_audit.specs.Claiming.{Knowledge, first_there, has_strangers, is_another_there, is_strange, sender_at, sure_sender}
use Rattle.j39_audit.specs.Settings.{Settings}
use Rattle.j39_audit.specs.declared.mark.Word.TheVariants.{Stranger, Nobody as NobodyThere}
use Rattle.j39_audit.specs.declared.senders.SureSender.TheVariants.{Unit as OfUnit, Nobody, Unknown}
use Rattle.j39_audit_laws.specs.FoundLines.{NobodyIsUnplanned}
use Rattle.j39_audit_laws.specs.OwnPart.{IsNotNamed}
use Rattle.j39_audit_laws.proofs.Own.{none_below, of_frames}

module _ (s : Settings) (some : 0 < s.plan.strangers) where
  come : has_strangers s ≡ true
  come = lt-ltb 0 s.plan.strangers some

  -- that nobody is at an address is never sure
  never_sure : (k : Knowledge) (a : ℕ) → sender_at s k a ≢ Nobody
  unfolding sender_at
  never_sure k a is = go (is_strange s k a) is
    where
      of_unit : (u : ℕ) (b : Bool) → (if b then Unknown else OfUnit u) ≢ Nobody
      of_unit u true e = cc e
      of_unit u false e = cc e

      sure : (o : Option ℕ) → sure_sender s k a o ≢ Nobody
      sure None e = let unknown = sym (cond-true (has_strangers s) Unknown Nobody come) ∙ e in cc unknown
      sure (Some u) e = of_unit u (is_another_there s k a u) e

      go : (b : Bool) → (if b then Unknown else sure_sender s k a (first_there s k a)) ≢ Nobody
      go true e = cc e
      go false e = sure (first_there s k a) e

  module _ (log : List Line) where
    no_stranger : (a : ℕ) → IsNotNamed s log Stranger a
    no_stranger a = of_frames s log Stranger a tt (λ e. cc e) (λ g n claims f packet at marked.
        let (of, none, source, grouped) = marked in omega (arith, some, none))

    not_nobody : (a : ℕ) → IsNotNamed s log NobodyThere a
    not_nobody a = of_frames s log NobodyThere a tt (λ e. cc e) (λ g n claims f packet at marked.
        let (sent, source, grouped) = marked in never_sure _ f.ident.sa sent.sender_is)

pub nobody_is_unplanned : NobodyIsUnplanned
unfolding word_lines
nobody_is_unplanned s log end read some = (
  none_below (subject_lines s (look_at end) Stranger) (λ a. no_stranger s some log a end read) (subjects s Stranger),
  none_below (subject_lines s (look_at end) NobodyThere) (λ a. not_nobody s some log a end read) (subjects s NobodyThere),
)
