-- One more finding is asked for.
use Rattle.std.proofs.Common.{◌≡◌, ℕ, List, [], ◌∷◌, ◌++◌, true, inl, inr, refl, sym, subst, ap, ◌∙◌}
use Rattle.std.proofs.lemmas.Bool.{false≢true}
use Rattle.j39_variants.specs.declared.line.ProductLine.{ProductLine}
use Rattle.j39_line_findings.specs.Conditions.{conditions_of, meets_any}
use Rattle.j39_line_findings.specs.PossibleVariants.{IsPossible}
use Rattle.j39_line_findings.specs.LineFound.{IsFound}
use Rattle.j39_line_findings.specs.declared.line_finding.LineFinding.{LineFinding}
use Rattle.j39_line_witnesses.specs.FirstMeeting.{IsFirstMeeting, NoneMeets}
use Rattle.j39_line_witnesses.specs.WitnessedFindings.{AreWitnessed, IsFoundBy}
use Rattle.j39_line_witnesses.specs.WitnessLaws.{IsReportedAmong, WitnessedAreExact}
use Rattle.j39_line_witnesses.specs.declared.found.FoundByCondition.{FoundByCondition}

module _ (line : ProductLine) (finding : LineFinding) where
  pub none_more : (findings : List LineFinding) (reported : List FoundByCondition) → NoneMeets line (conditions_of line finding)
      → AreWitnessed line findings reported → AreWitnessed line (findings ++ finding ∷ []) reported
  none_more [] reported none are = inl (none, are)
  none_more (f ∷ findings) reported none are = elim are [
    | inl passed ↦ inl (passed.0, none_more findings reported none passed.1)
    | inr here ↦ inr (here.0, here.1, here.2, here.3, none_more findings here.1 none here.4)
  ]

  pub one_more : (findings : List LineFinding) (reported : List FoundByCondition) (one : FoundByCondition) → IsFoundBy line finding one
      → AreWitnessed line findings reported → AreWitnessed line (findings ++ finding ∷ []) (reported ++ one ∷ [])
  one_more [] reported one is are = inr (one, [], ap (λ (ws : List FoundByCondition). ws ++ one ∷ []) are, is, refl)
  one_more (f ∷ findings) reported one is are = elim are [
    | inl passed ↦ inl (passed.0, one_more findings reported one is passed.1)
    | inr here ↦
        inr (here.0, here.1 ++ one ∷ [], ap (λ (ws : List FoundByCondition). ws ++ one ∷ []) here.2, here.3, one_more findings here.1 one is here.4)
  ]

-- ---- exactly

not_reported : (line : ProductLine) (reported : List FoundByCondition) → reported ≡ [] → (one : FoundByCondition) → IsReportedAmong reported one → ⊥
not_reported line [] none one at = at
not_reported line (w ∷ reported) none one at = cc

sound_of : (line : ProductLine) (findings : List LineFinding) (reported : List FoundByCondition) → AreWitnessed line findings reported
    → (one : FoundByCondition)
    → IsReportedAmong reported one → IsFound findings one.finding × IsFirstMeeting line (conditions_of line one.finding) one.witness.items
sound_of line [] reported are one at = absurd (not_reported line reported are one at)
sound_of line (f ∷ findings) reported are one at = elim are [
  | inl passed ↦ let rest = sound_of line findings reported passed.1 one at in (inr rest.0, rest.1)
  | inr (first, others, is, here, rest) ↦ elim (subst (λ ws. IsReportedAmong ws one) is at) [
    | inl same ↦
        let finding : f ≡ one.finding = sym here.finding_is ∙ ap (λ (w : FoundByCondition). w.finding) same in (
          inl finding,
          subst (λ g. IsFirstMeeting line (conditions_of line g) one.witness.items) finding
              (subst (λ (w : FoundByCondition). IsFirstMeeting line (conditions_of line f) w.witness.items) same here.witness_is),
        )
    | inr behind ↦ let more = sound_of line findings others rest one behind in (inr more.0, more.1)
  ]
]

complete_of : (line : ProductLine) (findings : List LineFinding) (reported : List FoundByCondition) → AreWitnessed line findings reported
    → (finding : LineFinding) → IsFound findings finding → (v : List ℕ) → IsPossible line v → meets_any line v (conditions_of line finding) ≡ true
    → (one : FoundByCondition) × IsReportedAmong reported one × (one.finding ≡ finding)
complete_of line [] reported are finding at v possible meets = absurd at
complete_of line (f ∷ findings) reported are finding at v possible meets = elim are [
  | inl (none, passed) ↦ elim at [
    | inl same ↦
        absurd (false≢true (sym (none v possible) ∙ ap (λ g. meets_any line v (conditions_of line g)) same ∙ meets))
    | inr behind ↦ complete_of line findings reported passed finding behind v possible meets
  ]
  | inr (first, others, is, here, rest) ↦ elim at [
    | inl same ↦ (first, subst (λ ws. IsReportedAmong ws first) (sym is) (inl refl), here.finding_is ∙ same)
    | inr behind ↦
        let more = complete_of line findings others rest finding behind v possible meets in
        (more.0, subst (λ ws. IsReportedAmong ws more.0) (sym is) (inr more.1), more.2)
  ]
]

pub reported_exactly : WitnessedAreExact
reported_exactly line findings reported are = record { sound = sound_of line findings reported are; complete = complete_of line findings reported are }
