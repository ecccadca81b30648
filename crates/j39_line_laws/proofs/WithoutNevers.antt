-- The full variants of a line without its nevers suffice.
use Rattle.std.specs.declared.alloc.Global.{Global}
use Rattle.std.proofs.Common.{◌≡◌, ℕ, Bool, true, false, not, ◌&&◌, ◌||◌, ◌==◌, List, Vec, refl, sym, ◌∙◌, ap, inl, inr, arith}
use Rattle.std.proofs.lemmas.Bool.{cases_Bool, true≢false}
use Rattle.j39_findings.specs.declared.checking.finding.Finding.{Finding}
use Rattle.j39_findings.specs.declared.checking.finding.Finding.TheVariants.{SameName, SameFixedAddress, TooFewAddresses, BadPgn, SamePgn, SignalWidth}
use Rattle.j39_findings.specs.declared.checking.finding.Finding.TheVariants.{SignalOutside, SignalOverlap, FlowToOne, FlowToSelf, FlowRepeated, KeptAddress}
use Rattle.j39_findings.specs.declared.checking.finding.Finding.TheVariants.{PrivateUnsent, RecordOverlap, TextOutside, NeedUnmet, RequestUnanswered}
use Rattle.j39_findings.specs.declared.checking.finding.Finding.TheVariants.{RequestUnheard, AnswerAstray, WhenOutside, RequestRepeated, SilentAddress}
use Rattle.j39_findings.specs.declared.checking.finding.Finding.TheVariants.{SilentInPool, FlowContested}
use Rattle.j39_load.specs.declared.findings.load_finding.LoadFinding.{LoadFinding}
use Rattle.j39_load.specs.declared.findings.load_finding.LoadFinding.TheVariants.{NoPeriod, Overload, LateFlow, NeedTooOld, AskedTooOften}
use Rattle.j39_network.specs.declared.plan.Plan.{Plan}
use Rattle.j39_variants.specs.VariantPlans.{IsVariantPlan}
use Rattle.j39_variants.specs.declared.line.Alternative.{Alternative}
use Rattle.j39_variants.specs.declared.line.ProductLine.{ProductLine}
use Rattle.j39_line_findings.specs.Conditions.{goes_by_conditions}
use Rattle.j39_line_findings.specs.FullVariants.{line_with, nevers_with}
use Rattle.j39_line_findings.specs.InFile.{rank_of}
use Rattle.j39_line_findings.specs.PossibleVariants.{IsPossible}
use Rattle.j39_line_findings.specs.LineFound.{AreVariantFindings, IsFound}
use Rattle.j39_line_findings.specs.There.{IsPresent}
use Rattle.j39_line_findings.specs.FlowEnds.{has_end_in_pool}
use Rattle.j39_line_findings.specs.declared.full.LineNevers.{LineNevers}
use Rattle.j39_line_findings.specs.declared.full.LineNevers.TheVariants.{Kept, LeftOut}
use Rattle.j39_line_findings.specs.declared.line_finding.LineFinding.{LineFinding}
use Rattle.j39_line_findings.specs.declared.line_finding.LineFinding.TheVariants.{OfPlan, OfLoad}
use Rattle.j39_line_findings.specs.declared.rank.Rank.{Rank}
use Rattle.j39_line_findings.specs.declared.there.Present.{Present}
use Rattle.j39_line_laws.specs.FoundOfCovering.{IsAbsentOrFound, is_by_absence}
use Rattle.j39_line_laws.specs.WithoutNevers.{CountNothingWith, FullVariantsCountAll, NeversChangeNothingBuilt}
use Rattle.j39_line_laws.proofs.FoundOfFull.{have_what_is_found}
use Rattle.j39_line_laws.proofs.OldNeeds.{old_found}

-- ---- nothing but what is possible goes by what isn't built

-- of a line that isn't built in other boxes
module _ (line : ProductLine) (nevers : Vec (Vec Alternative Global) Global) (v : List ℕ) where
  abbrev others : ProductLine
  others = record line { nevers = nevers }

  plan_of_others : (plan : Plan) → IsVariantPlan line v plan → IsVariantPlan others v plan
  plan_of_others plan is = grind (arith, is)

  there_in_others : (there : Present) → IsPresent line v there → IsPresent others v there
  there_in_others there is = grind (arith, is)

  findings_of_others : (findings : List LineFinding) → AreVariantFindings line v findings → AreVariantFindings others v findings
  findings_of_others findings are = record {
    there = are.there;
    is_there = there_in_others are.there are.is_there;
    plan = are.plan;
    is_plan = plan_of_others are.plan are.is_plan;
    others = are.others;
    are_others = are.are_others;
    are_all = are.are_all;
  }

module _ (line : ProductLine) (nevers : LineNevers) (v : List ℕ) where
  pub plan_to : (plan : Plan) → IsVariantPlan line v plan → IsVariantPlan (line_with nevers line) v plan
  plan_to = plan_of_others line (nevers_with nevers line.nevers) v

  pub plan_back : (plan : Plan) → IsVariantPlan (line_with nevers line) v plan → IsVariantPlan line v plan
  plan_back = plan_of_others (line_with nevers line) line.nevers v

  pub there_to : (there : Present) → IsPresent line v there → IsPresent (line_with nevers line) v there
  there_to = there_in_others line (nevers_with nevers line.nevers) v

  pub findings_to : (findings : List LineFinding) → AreVariantFindings line v findings → AreVariantFindings (line_with nevers line) v findings
  findings_to = findings_of_others line (nevers_with nevers line.nevers) v

  pub findings_back : (findings : List LineFinding) → AreVariantFindings (line_with nevers line) v findings → AreVariantFindings line v findings
  findings_back = findings_of_others (line_with nevers line) line.nevers v

pub possible_to : (line : ProductLine) (nevers : LineNevers) (v : List ℕ) → IsPossible line v → IsPossible (line_with nevers line) v
possible_to line Kept v is = record { is_variant = is.is_variant; possible = is.possible }
possible_to line LeftOut v is = record { is_variant = is.is_variant; possible = refl }

pub change_nothing : NeversChangeNothingBuilt
change_nothing line nevers v = record {
  plans = plan_back line nevers v;
  plans_too = plan_to line nevers v;
  findings = findings_back line nevers v;
  findings_too = findings_to line nevers v;
  possible = possible_to line nevers v;
}

-- ---- whether a finding counts what is there is reported by its number and its place

abbrev goes_by : ProductLine → Rank → Bool
goes_by line rank = not (((rank.number == 3) || ((rank.number == 17) || ((rank.number == 18) || ((rank.number == 20) || (rank.number == 31)))))
    || ((rank.number == 28) && has_end_in_pool line rank.first))

plan_by_rank : (line : ProductLine) (finding : Finding) → goes_by_conditions line (OfPlan finding) ≡ goes_by line (rank_of (OfPlan finding))
plan_by_rank line (SameName i j) = refl
plan_by_rank line (SameFixedAddress i j) = refl
plan_by_rank line (TooFewAddresses n) = refl
plan_by_rank line (BadPgn g) = refl
plan_by_rank line (SamePgn g h) = refl
plan_by_rank line (SignalWidth g s) = refl
plan_by_rank line (SignalOutside g s) = refl
plan_by_rank line (SignalOverlap g s t) = refl
plan_by_rank line (FlowToOne f) = refl
plan_by_rank line (FlowToSelf f) = refl
plan_by_rank line (FlowRepeated f h) = refl
plan_by_rank line (KeptAddress i) = refl
plan_by_rank line (PrivateUnsent g) = refl
plan_by_rank line (RecordOverlap g s t) = refl
plan_by_rank line (TextOutside g t) = refl
plan_by_rank line (NeedUnmet n) = refl
plan_by_rank line (RequestUnanswered r) = refl
plan_by_rank line (RequestUnheard r) = refl
plan_by_rank line (AnswerAstray r) = refl
plan_by_rank line (WhenOutside g) = refl
plan_by_rank line (RequestRepeated r s) = refl
plan_by_rank line (SilentAddress i j) = refl
plan_by_rank line (SilentInPool i) = refl
plan_by_rank line (FlowContested f) = refl

by_rank : (line : ProductLine) (finding : LineFinding) → goes_by_conditions line finding ≡ goes_by line (rank_of finding)
by_rank line (OfPlan finding) = plan_by_rank line finding
by_rank line (OfLoad (NoPeriod f)) = refl
by_rank line (OfLoad (Overload n)) = refl
by_rank line (OfLoad (LateFlow f)) = refl
by_rank line (OfLoad (NeedTooOld d)) = refl
by_rank line (OfLoad (AskedTooOften f)) = refl

-- what doesn't go by conditions doesn't come by absence, but for ages
pub plan_present : (line : ProductLine) (finding : Finding) → goes_by_conditions line (OfPlan finding) ≡ false → is_by_absence (OfPlan finding) ≡ false
plan_present line (PrivateUnsent g) counts = absurd (true≢false counts)
plan_present line (NeedUnmet n) counts = absurd (true≢false counts)
plan_present line (RequestUnanswered r) counts = absurd (true≢false counts)
plan_present line (RequestUnheard r) counts = absurd (true≢false counts)
plan_present line (AnswerAstray r) counts = absurd (true≢false counts)
plan_present line (SameName i j) counts = refl
plan_present line (SameFixedAddress i j) counts = refl
plan_present line (TooFewAddresses n) counts = refl
plan_present line (BadPgn g) counts = refl
plan_present line (SamePgn g h) counts = refl
plan_present line (SignalWidth g s) counts = refl
plan_present line (SignalOutside g s) counts = refl
plan_present line (SignalOverlap g s t) counts = refl
plan_present line (FlowToOne f) counts = refl
plan_present line (FlowToSelf f) counts = refl
plan_present line (FlowRepeated f h) counts = refl
plan_present line (KeptAddress i) counts = refl
plan_present line (RecordOverlap g s t) counts = refl
plan_present line (TextOutside g t) counts = refl
plan_present line (WhenOutside g) counts = refl
plan_present line (RequestRepeated r s) counts = refl
plan_present line (SilentAddress i j) counts = refl
plan_present line (SilentInPool i) counts = refl
plan_present line (FlowContested f) counts = refl

-- ---- the six

module _ (line : ProductLine) (nevers : LineNevers) (count : CountNothingWith line nevers) (v : List ℕ)
    (possible : IsPossible line v) (here : List LineFinding) (of_here : AreVariantFindings line v here) where
  abbrev bare : ProductLine
  bare = line_with nevers line

  -- one with the same number and place isn't found there
  not_there : (finding : LineFinding) (there : List LineFinding)
      → ((other : LineFinding) → IsFound there other → is_by_absence other ≡ false → goes_by_conditions line other ≡ true)
      → is_by_absence finding ≡ false → IsAbsentOrFound there finding → goes_by_conditions line finding ≡ true
  not_there finding there all present (inl absent) = absurd (true≢false (sym absent ∙ present))
  not_there finding there all present (inr (other, one, also, rank, amount)) =
      by_rank line finding ∙ ap (goes_by line) (sym rank) ∙ sym (by_rank line other) ∙ all other one also

  plan_goes : (finding : Finding) → IsFound here (OfPlan finding) → goes_by_conditions line (OfPlan finding) ≡ false
      → goes_by_conditions line (OfPlan finding) ≡ true
  plan_goes finding one counts =
      let (w, full, covers) = have_what_is_found bare v (possible_to line nevers v possible) here (findings_to line nevers v here of_here) in
      let nothing = count.full w full in
      not_there (OfPlan finding) nothing.findings nothing.none (plan_present line finding counts)
      ((covers nothing.findings (findings_to line nevers w nothing.findings nothing.are_findings)).plans finding one)

  load_goes : (finding : LoadFinding) → IsFound here (OfLoad finding) → is_by_absence (OfLoad finding) ≡ false → goes_by_conditions line (OfLoad finding) ≡ true
  load_goes finding one present =
      let (w, full, covers) = have_what_is_found bare v (possible_to line nevers v possible) here (findings_to line nevers v here of_here) in
      let nothing = count.full w full in
      not_there (OfLoad finding) nothing.findings nothing.none present
      ((covers nothing.findings (findings_to line nevers w nothing.findings nothing.are_findings)).loads nothing.good finding one)

  age_goes : (d : ℕ) → IsFound here (OfLoad (NeedTooOld d)) → goes_by_conditions line (OfLoad (NeedTooOld d)) ≡ true
  age_goes d one =
      let (ages, (w, full, covers)) = old_found bare v (possible_to line nevers v possible) here (findings_to line nevers v here of_here) d one in
      let young = count.of_needs d ages w full in
      absurd (young.none (covers young.findings (findings_to line nevers w young.findings young.are_findings) young.good))

  goes : (finding : LineFinding) → IsFound here finding → goes_by_conditions line finding ≡ true
  goes (OfPlan finding) one = elim (cases_Bool (goes_by_conditions line (OfPlan finding))) [
    | inl is ↦ is
    | inr counts ↦ plan_goes finding one counts
  ]
  goes (OfLoad (NoPeriod f)) one = refl
  goes (OfLoad (Overload n)) one = load_goes (Overload n) one refl
  goes (OfLoad (LateFlow f)) one = load_goes (LateFlow f) one refl
  goes (OfLoad (NeedTooOld d)) one = age_goes d one
  goes (OfLoad (AskedTooOften f)) one = load_goes (AskedTooOften f) one refl

pub count_all : (line : ProductLine) (nevers : LineNevers) → FullVariantsCountAll line nevers
count_all line nevers count v possible here of_here finding one = goes line nevers count v possible here of_here finding one
