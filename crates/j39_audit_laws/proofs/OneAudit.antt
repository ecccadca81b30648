-- For a plan and a log an audit writes one text.
use Rattle.std.proofs.Common.{◌≡◌, ◌<◌, ◌&&◌, ℕ, zero, suc, Bool, false, not, List, [], ◌∷◌, length, map, get_or, Option, Some, None, inl, inr, refl, sym, ap}
use Rattle.std.proofs.Common.{subst, ◌∙◌, arith}
use Rattle.std.specs.List.{slice_get}
use Rattle.std.proofs.lemmas.Bool.{MatchBool-at_false, MatchBool-at_true, cases_Bool}
use Rattle.j39_id.specs.Lines.{lines}
use Rattle.j39_id.specs.Name.{is_arbitrary}
use Rattle.j39_network.specs.declared.plan.Plan.{Plan}
use Rattle.j39_network.specs.declared.plan.unit_plan.UnitPlan.{UnitPlan}
use Rattle.j39_stream.specs.declared.verdict.Verdict.{Verdict}
use Rattle.j39_audit.specs.AuditPasts.{AuditPast, log_ended, nothing_read}
use Rattle.j39_audit.specs.AuditText.{IsAuditedLog, audit_text, audit_verdict}
use Rattle.j39_audit.specs.Responses.{AreResponsesBy, response}
use Rattle.j39_audit.specs.Gaps.{quiet_by}
use Rattle.j39_audit.specs.Settings.{AreMoving, Settings}
use Rattle.j39_audit.specs.declared.by_load.Bound.TheVariants.{Bus}
use Rattle.j39_load.specs.BusTimes.{timing_of}
use Rattle.j39_load.specs.declared.waits.delay.Delay.{Delay}
use Rattle.j39_load.proofs.OneLoad.{one_asked}
use Rattle.j39_network.specs.declared.plan.timing.Timing.{Timing}
use Rattle.j39_audit_laws.specs.OneAudit.{AuditHasOneText}
use Rattle.j39_audit_laws.proofs.OneReading.{one_log_read}

-- ---- who moves

same_list : (xs ys : List Bool) → length xs ≡ length ys → ((i : ℕ) → i < length xs → get_or xs i false ≡ get_or ys i false) → xs ≡ ys
same_list [] [] long same = refl
same_list [] (y ∷ ys) long same = absurd (omega (arith, long))
same_list (x ∷ xs) [] long same = absurd (omega (arith, long))
same_list (x ∷ xs) (y ∷ ys) long same =
    let head : x ≡ y = same 0 (omega arith) in
    let tail : xs ≡ ys = same_list xs ys (omega (arith, long)) (λ i inside. same (suc i) (omega (arith, inside))) in
    ap (λ (b : Bool). b ∷ xs) head ∙ ap (λ (l : List Bool). y ∷ l) tail

unit_there : (units : List UnitPlan) (u : ℕ) → u < length units → (unit : UnitPlan) × (slice_get units u ≡ Some unit)
unit_there [] u less = absurd (omega (arith, less))
unit_there (p ∷ units) zero less = (p, refl)
unit_there (p ∷ units) (suc u) less = unit_there units u (omega (arith, less))

one_moving : (plan : Plan) (moving other : List Bool) → AreMoving plan moving → AreMoving plan other → moving ≡ other
one_moving plan moving other a b =
    same_list moving other (a.size ∙ sym b.size) (λ u inside.
    let size = a.size in
    let (unit, at) = unit_there plan.units.items u (omega (arith, inside, size)) in
    a.each u unit at ∙ ap (λ (x : Bool). is_arbitrary unit.name && not x) (stay u unit at) ∙ sym (b.each u unit at))
  where
    stay : (u : ℕ) (unit : UnitPlan) → slice_get plan.units.items u ≡ Some unit → a.stays unit ≡ b.stays unit
    stay u unit at = elim (cases_Bool (a.stays unit)) [
      | inl stays ↦ elim (cases_Bool (b.stays unit)) [
        | inl too ↦ stays ∙ sym too
        | inr leaves ↦ absurd (MatchBool-at_false _ _ leaves (b.decides u unit at) (MatchBool-at_true _ _ stays (a.decides u unit at)))
      ]
      | inr leaves ↦ elim (cases_Bool (b.stays unit)) [
        | inl stays ↦ absurd (MatchBool-at_false _ _ leaves (a.decides u unit at) (MatchBool-at_true _ _ stays (b.decides u unit at)))
        | inr too ↦ leaves ∙ sym too
      ]
    ]

-- ---- how long flows take

same_responses : (plan : Plan) (timing : Option Timing) (responses other : List (Option ℕ)) → AreResponsesBy plan timing responses
    → AreResponsesBy plan timing other → responses ≡ other
same_responses plan None responses other a b = a ∙ sym b
same_responses plan (Some timing) responses other (stays, delays, asks, is) (stay, others, ask, are) =
    is ∙ ap (λ (d : List (Option Delay)). map (response timing) d) (one_asked plan timing stays stay delays others asks ask).1 ∙ sym are

-- ---- what is written

one_audited : (s : Settings) (log text other : List ℕ) (verdict outcome : Verdict) → IsAuditedLog s log text verdict → IsAuditedLog s log other outcome
    → (text ≡ other) × (verdict ≡ outcome)
one_audited s log text other verdict outcome a b =
    let past : a.past ≡ b.past = one_log_read s nothing_read (lines log) a.past b.past a.read b.read in (
      a.text_is ∙ ap (λ (p : AuditPast). audit_text s (log_ended s p)) past ∙ sym b.text_is,
      a.verdict_is ∙ ap (λ (p : AuditPast). audit_verdict s (log_ended s p)) past ∙ sym b.verdict_is,
    )

pub one_audit : AuditHasOneText
one_audit plan part stamps quiet log text other verdict outcome a b =
    let by : List Bool → List (Option ℕ) → Settings = λ moving responses.
    record { plan = plan; moving = moving; part = part; stamps = stamps; quiet = quiet_by plan quiet; responses = responses; bound = Bus } in
    one_audited (by b.moving b.responses) log text other verdict outcome
    (subst (λ (r : List (Option ℕ)). IsAuditedLog (by b.moving r) log text verdict)
    (same_responses plan (timing_of plan) a.responses b.responses a.responses_are b.responses_are)
    (subst (λ (m : List Bool). IsAuditedLog (by m a.responses) log text verdict) (one_moving plan a.moving b.moving a.moving_are b.moving_are) a.audited))
    b.audited
