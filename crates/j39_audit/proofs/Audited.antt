-- What is written of a log that was read is its text.
use Rattle.std.proofs.Common.{◌≡◌, ℕ, List, Bool, true, false, cond, Option, ap, subst, ◌∙◌}
use Rattle.j39_id.specs.Lines.{lines}
use Rattle.j39_log.specs.declared.line_counts.LineCounts.{LineCounts}
use Rattle.j39_stream.specs.declared.verdict.Verdict.{Verdict}
use Rattle.j39_audit.specs.AuditPasts.{AuditPast}
use Rattle.j39_audit.specs.AuditText.{IsAudit, IsAuditedLog, Look, accusation_count, counts_of, is_of_asking, is_of_broadcasts, is_of_moments, is_of_sessions}
use Rattle.j39_audit.specs.AuditPasts.{log_ended}
use Rattle.j39_audit.specs.AuditText.{look_at, text_by, verdict_by, is_of_load, mark_by_bus}
use Rattle.j39_audit.specs.Counting.{key_of}
use Rattle.j39_audit.specs.Gaps.{quiet_by}
use Rattle.j39_audit.specs.Responses.{AreResponses}
use Rattle.j39_audit.specs.Settings.{AreMoving, Settings}
use Rattle.j39_audit.specs.declared.audit_log.AuditLog.{AuditLog}
use Rattle.j39_audit.specs.declared.by_load.Bound.{Bound}
use Rattle.j39_audit.specs.declared.by_load.Bound.TheVariants.{Bus}
use Rattle.j39_audit.specs.inside.Auditing.{HasAuditedWhole, IsAuditReport, RecallsAudit, tallied}

both : {X : Type 0} {a b c d : X} (test : Bool) → a ≡ b → c ≡ d → cond test a c ≡ cond test b d
both true same other = same
both false same other = other

looks : (log : AuditLog) (past : AuditPast) → RecallsAudit log past → tallied log ≡ look_at past
unfolding tallied
looks log past recalls = λ i m.
    both (is_of_moments m.word) (recalls.follows.moments.counted (key_of m))
    (both (is_of_load m.word) (recalls.follows.by_load.counted (key_of (mark_by_bus m)))
    (both (is_of_asking m.word) (recalls.follows.asking.counted (key_of m))
    (both (is_of_broadcasts m.word) (recalls.follows.broadcasts.counted (key_of m))
    (both (is_of_sessions m.word) (recalls.follows.sessions.counted (key_of m)) (recalls.follows.counted (key_of m)))))) i

counts : (log : AuditLog) (past : AuditPast) → RecallsAudit log past → log.counts ≡ counts_of past
counts log past recalls =
    let make : ℕ → ℕ → ℕ → ℕ → LineCounts = λ f s b e. record { frames = f; skipped = s; bad = b; elsewhere = e } in
    ap (λ (f : ℕ). make f log.counts.skipped log.counts.bad log.counts.elsewhere) recalls.frames_are
    ∙ ap (λ (s : ℕ). make past.frames s log.counts.bad log.counts.elsewhere) recalls.skipped_are
    ∙ ap (λ (b : ℕ). make past.frames past.skipped b log.counts.elsewhere) recalls.bad_are
    ∙ ap (λ (e : ℕ). make past.frames past.skipped past.bad e) recalls.elsewhere_are

audited : (s : Settings) (log : AuditLog) (input text : List ℕ) (verdict : Verdict) → HasAuditedWhole s log (lines input) → IsAuditReport log text verdict
    → IsAuditedLog s input text verdict
audited s log input text verdict has is =
    let past = log_ended s has.past in
    let look = looks log past has.recalls in
    record {
      past = has.past;
      read = has.read;
      text_is = is.text_is ∙ ap (λ (t : Settings). text_by t log.counts log.again (tallied log)) has.settings_are
          ∙ ap (λ (k : LineCounts). text_by s k log.again (tallied log)) (counts log past has.recalls)
          ∙ ap (λ (a : ℕ). text_by s (counts_of past) a (tallied log)) has.recalls.again_is
          ∙ ap (λ (l : Look). text_by s (counts_of past) past.again l) look;
      verdict_is = is.verdict_is ∙ ap (λ (t : Settings). verdict_by (accusation_count t (tallied log))) has.settings_are
          ∙ ap (λ (l : Look). verdict_by (accusation_count s l)) look;
    }

-- where the settings are those of the plan
is_audit : (s : Settings) (quiet : Option ℕ) (input text : List ℕ) (verdict : Verdict) → AreMoving s.plan s.moving → AreResponses s.plan s.responses
    → s.bound ≡ Bus → s.quiet ≡ quiet_by s.plan quiet → IsAuditedLog s input text verdict → IsAudit s.plan s.part s.stamps quiet input text verdict
is_audit s quiet input text verdict moving responses bus is_quiet audited = record {
  moving = s.moving;
  moving_are = moving;
  responses = s.responses;
  responses_are = responses;
  audited = subst (λ (q : ℕ). IsAuditedLog (record s { bound = Bus; quiet = q }) input text verdict) is_quiet
      (subst (λ (b : Bound). IsAuditedLog (record s { bound = b }) input text verdict) bus audited);
}

pub is_audit_of : (s t : Settings) (quiet : Option ℕ) → s ≡ t → AreMoving t.plan t.moving → AreResponses t.plan t.responses → t.bound ≡ Bus
    → t.quiet ≡ quiet_by t.plan quiet → (log : AuditLog) (input text : List ℕ) (verdict : Verdict) → HasAuditedWhole s log (lines input)
    → IsAuditReport log text verdict → IsAudit t.plan t.part t.stamps quiet input text verdict
is_audit_of s t quiet same moving responses bus is_quiet log input text verdict has is =
    is_audit t quiet input text verdict moving responses bus is_quiet
    (subst (λ (r : Settings). IsAuditedLog r input text verdict) same (audited s log input text verdict has is))
