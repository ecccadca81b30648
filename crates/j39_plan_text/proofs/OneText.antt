-- Check has one text, and so have addresses, load and show.
use Rattle.std.proofs.Common.{◌≡◌, ℕ, suc, zero, ◌+◌, Bool, cond, codes, count_by, length, List, [], ◌∷◌, ◌++◌, Option, Some, None, inl, inr, Err, refl, subst}
use Rattle.std.proofs.Common.{sym, ap, ◌∙◌}
use Rattle.std.proofs.lemmas.Bool.{cases_Bool}
use Rattle.std.proofs.lemmas.Option.{same_Some}
use Rattle.std.specs.List.{AllZip, slice_get}
use Rattle.j39_network.specs.declared.plan.Plan.{Plan}
use Rattle.j39_network.specs.declared.plan.unit_plan.UnitPlan.{UnitPlan}
use Rattle.j39_plan.specs.PlanErrors.{PlanFault, PlanError}
use Rattle.j39_toml.specs.declared.file_error.FileError.TheVariants as errors
use Rattle.j39_variants.specs.declared.line.ProductLine.{ProductLine}
use Rattle.j39_variants.specs.DescribedLines.{ReadsProductLine, product_line_faults}
use Rattle.j39_toml.specs.FileTrees.{tree_of}
use Rattle.j39_toml.specs.Outcome.{first}
use Rattle.j39_network.specs.declared.plan.timing.Timing.{Timing}
use Rattle.j39_findings.specs.Found.{found}
use Rattle.j39_findings.proofs.FoundLaws.{none_from_clean}
use Rattle.j39_load.specs.BusTimes.{timing_of}
use Rattle.j39_load.specs.declared.waits.delay.Delay.{Delay}
use Rattle.j39_load.specs.declared.findings.load_finding.LoadFinding.{LoadFinding}
use Rattle.j39_load.specs.LoadFindings.{AreLoadFindings, all_findings}
use Rattle.j39_load.specs.Asked.{Asked, asked_of, total_load}
use Rattle.j39_load.proofs.OneLoad.{one_asked, stated_once}
use Rattle.j39_plan_text.specs.AddressesText.{HasOneAddressesReport}
use Rattle.j39_plan_text.proofs.StaysTexts.{StayAlike, stays_text_same}
use Rattle.j39_plan_text.specs.PlanText.{Describes, IsRefusalLine, fault_line}
use Rattle.j39_stream.specs.declared.verdict.Verdict.TheVariants.{Done, Findings, Refused, Unreadable}
use Rattle.j39_plan_text.specs.CheckText.{HasOneRefusal, HasOneReport, IsNotRefused, IsReport, findings_text}
use Rattle.j39_plan_text.specs.LoadLines.{loads_text}
use Rattle.j39_plan_text.specs.ShownLines.{HasOneShowReport}
use Rattle.j39_plan_text.specs.LoadText.{HasOneLoadReport, IsLoadReport, WritesLoads, load_verdict, shows_times, unshown_text}
use Rattle.j39_stream.specs.declared.verdict.Verdict.{Verdict}

-- what is wrong with what a plan asks of its bus is one
pub one_list : (plan : Plan) (timing : Option Timing) (findings others : List LoadFinding) → AreLoadFindings plan timing findings
    → AreLoadFindings plan timing others → findings ≡ others
one_list plan None findings others are more = are ∙ sym more
one_list plan (Some timing) findings others are more =
    let same = one_asked plan timing are.0 more.0 are.1 more.1 are.2 more.2 in
    are.3 ∙ ap (λ (asked : Asked). all_findings plan timing (total_load timing asked) are.1) same.0
    ∙ ap (all_findings plan timing (total_load timing (asked_of timing plan more.0))) same.1 ∙ sym more.3

pub one_report : (plan : Plan) → HasOneReport plan
one_report plan text other Done Done is another = (is.3 ∙ sym another.3, refl)
one_report plan text other Done Findings is another =
    absurd (another.2 (none_from_clean plan is.0, sym (one_list plan (timing_of plan) [] another.0 is.1 another.1)))
one_report plan text other Findings Done is another =
    absurd (is.2 (none_from_clean plan another.0, sym (one_list plan (timing_of plan) [] is.0 another.1 is.1)))
one_report plan text other Findings Findings is another =
    (is.3 ∙ ap (findings_text plan (found plan)) (one_list plan (timing_of plan) is.0 another.0 is.1 another.1) ∙ sym another.3, refl)
one_report plan text other Done Refused is another = absurd another
one_report plan text other Done Unreadable is another = absurd another
one_report plan text other Findings Refused is another = absurd another
one_report plan text other Findings Unreadable is another = absurd another
one_report plan text other Refused another_verdict is another = absurd is
one_report plan text other Unreadable another_verdict is another = absurd is

-- what two trees are refused for that are one
one_fault : {X : Type 0} (faults_of : X → List PlanFault) (s t : X) (f g : PlanFault) → s ≡ t → first (faults_of s) ≡ Some f
    → first (faults_of t) ≡ Some g → f ≡ g
one_fault faults_of s t f g same is another = same_Some _ _ (sym is ∙ (ap (λ x. first (faults_of x)) same ∙ another))

-- two refusals of one file are one
refused_once : (bytes : List ℕ) (e d : PlanError) (text other : List ℕ)
    → ReadsProductLine (Err e) (tree_of bytes) → IsRefusalLine e text → ReadsProductLine (Err d) (tree_of bytes) → IsRefusalLine d other → text ≡ other
refused_once bytes errors.Text errors.Text text other read line again another = line ∙ sym another
refused_once bytes errors.Text (errors.Fault g) text other read line again another = cc (read, again.1)
refused_once bytes (errors.Fault f) errors.Text text other read line again another = cc (read.1, again)
refused_once bytes (errors.Fault f) (errors.Fault g) text other read line again another =
    let same : read.0 ≡ again.0 = same_Some _ _ (sym read.1 ∙ again.1) in
    let fault : f ≡ g = one_fault product_line_faults read.0 again.0 f g same read.2 again.2 in
    line ∙ ap fault_line fault ∙ sym another
refused_once bytes errors.Memory d text other read line again another = absurd line
refused_once bytes errors.Text errors.Memory text other read line again another = absurd another
refused_once bytes (errors.Fault f) errors.Memory text other read line again another = absurd another

pub one_refusal : (bytes : List ℕ) → HasOneRefusal bytes
one_refusal bytes text other is another = refused_once bytes is.0 another.0 text other is.1 is.2 another.1 another.2

-- a tree without faults isn't refused
none_refused : {X : Type 0} (faults_of : X → List PlanFault) (s t : X) (f : PlanFault) → s ≡ t → faults_of s ≡ [] → first (faults_of t) ≡ Some f → ⊥
none_refused faults_of s t f same clean stated =
    let here : faults_of t ≡ [] = ap faults_of (sym same) ∙ clean in
    let none : first [] ≡ Some f = subst (λ (fs : List PlanFault). first fs ≡ Some f) here stated in
    cc none

described_only : (bytes : List ℕ) (line : ProductLine) (e : PlanError) (text : List ℕ)
    → Describes bytes line → ReadsProductLine (Err e) (tree_of bytes) → IsRefusalLine e text → ⊥
described_only bytes stated errors.Text text described read line = cc (described.1, read)
described_only bytes stated (errors.Fault f) text described read line =
    let same : described.0 ≡ read.0 = same_Some _ _ (sym described.1 ∙ read.1) in
    none_refused product_line_faults described.0 read.0 f same described.2.0 read.2
described_only bytes stated errors.Memory text described read line = line

pub not_refused : (bytes : List ℕ) → IsNotRefused bytes
not_refused bytes stated text described refused = described_only bytes stated refused.0 text described refused.1 refused.2

-- ---- addresses

-- each unit, as the two report of it
reported_same : (stays other : UnitPlan → Bool) (units : List UnitPlan)
    → ((u : ℕ) (unit : UnitPlan) → slice_get units u ≡ Some unit → stays unit ≡ other unit) → AllZip (StayAlike stays other) units units
reported_same stays other [] same = tt
reported_same stays other (unit ∷ units) same = (
  record { label = refl; address = refl; standing = sym (same zero unit refl) },
  reported_same stays other units (λ u. same (suc u)),
)

pub one_addresses_report : (plan : Plan) → HasOneAddressesReport plan
one_addresses_report plan text other Done Done is another =
    let units = plan.units.items in
    let same = stays_text_same is.2 another.2 units units
    (reported_same is.2 another.2 units (λ u unit at. stated_once _ _ _ (is.3 u unit at) (another.3 u unit at))) in
    (is.4 ∙ sym same ∙ sym another.4, refl)
one_addresses_report plan text other Done Findings is another = absurd (is.0 another.0.0 another.0.1 another.0.2)
one_addresses_report plan text other Findings Done is another = absurd (another.0 is.0.0 is.0.1 is.0.2)
one_addresses_report plan text other Findings Findings is another = one_report plan text other Findings Findings is.1 another.1
one_addresses_report plan text other Done Refused is another = absurd another
one_addresses_report plan text other Done Unreadable is another = absurd another
one_addresses_report plan text other Findings Refused is another = absurd another
one_addresses_report plan text other Findings Unreadable is another = absurd another
one_addresses_report plan text other Refused another_verdict is another = absurd is
one_addresses_report plan text other Unreadable another_verdict is another = absurd is

-- ---- load

module _ (plan : Plan) (timing : Timing) (stays other : UnitPlan → Bool) (delays others : List (Option Delay))
    (same : asked_of timing plan stays ≡ asked_of timing plan other) (alike : delays ≡ others) (text more : List ℕ) (verdict another : Verdict) where
  abbrev findings_by : Asked → List (Option Delay) → List LoadFinding
  findings_by asked ds = all_findings plan timing (total_load timing asked) ds

  abbrev both : Asked → List (Option Delay) → List ℕ
  both asked ds = loads_text plan timing asked ds ++ unshown_text plan (found plan) (findings_by asked ds)

  abbrev loads_and_rest : (UnitPlan → Bool) → List (Option Delay) → List ℕ
  loads_and_rest who ds = both (asked_of timing plan who) ds

  abbrev ends_by : (UnitPlan → Bool) → List (Option Delay) → Verdict
  ends_by who ds = load_verdict (found plan) (findings_by (asked_of timing plan who) ds)

  one_stated : WritesLoads plan timing stays delays text verdict → WritesLoads plan timing other others more another → (text ≡ more) × (verdict ≡ another)
  one_stated is are = elim (cases_Bool (shows_times (found plan))) [
    | inl shown ↦
        let first : (text ≡ loads_and_rest stays delays) × (verdict ≡ ends_by stays delays) = rw shown at is in
        let second : (more ≡ loads_and_rest other others) × (another ≡ ends_by other others) = rw shown at are in (
          first.0 ∙ ap (λ (asked : Asked). both asked delays) same ∙ ap (both (asked_of timing plan other)) alike ∙ sym second.0,
          first.1 ∙ ap (λ (asked : Asked). load_verdict (found plan) (findings_by asked delays)) same
              ∙ ap (λ (ds : List (Option Delay)). load_verdict (found plan) (findings_by (asked_of timing plan other) ds)) alike ∙ sym second.1,
        )
    | inr hidden ↦
        let first : IsReport plan text verdict = rw hidden at is in
        let second : IsReport plan more another = rw hidden at are in
        one_report plan text more verdict another first second
  ]

one_load_answer : (plan : Plan) (timing : Option Timing) (text other : List ℕ) (verdict another : Verdict)
    → IsLoadReport plan timing text verdict → IsLoadReport plan timing other another → (text ≡ other) × (verdict ≡ another)
one_load_answer plan None text other verdict another is are = (is.0 ∙ sym are.0, is.1 ∙ sym are.1)
one_load_answer plan (Some timing) text other verdict another is are =
    let same = one_asked plan timing is.0 are.0 is.1 are.1 is.2 are.2 in
    one_stated plan timing is.0 are.0 is.1 are.1 same.0 same.1 text other verdict another is.3 are.3

pub one_load_report : (plan : Plan) → HasOneLoadReport plan
one_load_report plan text other verdict another = one_load_answer plan (timing_of plan) text other verdict another

-- ---- show

pub one_show_report : (line : ProductLine) → HasOneShowReport line
one_show_report line text other Done Done is another = (is ∙ sym another, refl)
one_show_report line text other Done Findings is another = absurd another
one_show_report line text other Done Refused is another = absurd another
one_show_report line text other Done Unreadable is another = absurd another
one_show_report line text other Findings another_verdict is another = absurd is
one_show_report line text other Refused another_verdict is another = absurd is
one_show_report line text other Unreadable another_verdict is another = absurd is
