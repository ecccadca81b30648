-- Where only absence is found of the whole, only absence is found of its parts.
use Rattle.std.proofs.Common.{◌≡◌, true, refl}
use Rattle.std.proofs.lemmas.Bool.{false≢true}
use Rattle.j39_findings.specs.Findings.{Holds}
use Rattle.j39_findings.specs.declared.checking.finding.Finding.{Finding}
use Rattle.j39_findings.specs.declared.checking.finding.Finding.TheVariants.{SameName, SameFixedAddress, TooFewAddresses, BadPgn, SamePgn, SignalWidth}
use Rattle.j39_findings.specs.declared.checking.finding.Finding.TheVariants.{SignalOutside, SignalOverlap, FlowToOne, FlowToSelf, FlowRepeated, KeptAddress}
use Rattle.j39_findings.specs.declared.checking.finding.Finding.TheVariants.{PrivateUnsent, RecordOverlap, TextOutside, NeedUnmet, RequestUnanswered}
use Rattle.j39_findings.specs.declared.checking.finding.Finding.TheVariants.{RequestUnheard, AnswerAstray, WhenOutside, RequestRepeated, SilentAddress}
use Rattle.j39_findings.specs.declared.checking.finding.Finding.TheVariants.{SilentInPool, FlowContested}
use Rattle.j39_network.specs.declared.plan.Plan.{Plan}
use Rattle.j39_load.specs.declared.findings.load_finding.LoadFinding.{LoadFinding}
use Rattle.j39_load.specs.declared.findings.load_finding.LoadFinding.TheVariants.{NoPeriod, Overload, LateFlow, NeedTooOld, AskedTooOften}
use Rattle.j39_part_laws.specs.ByAbsence.{comes_by_absence, IsFoundThere, load_comes_by_absence, OnlyAbsenceStays}
use Rattle.j39_part_laws.specs.PlanParts.{HoldsThere, IsPlanPart, Places}
use Rattle.j39_part_laws.proofs.Findings.{holds_there}
use Rattle.j39_part_laws.proofs.LoadFindings.{are_found_there}

module _ (at : Places) (whole : Plan) (only : (finding : Finding) → Holds whole finding → comes_by_absence finding ≡ true) where
  by_absence : (finding : Finding) → HoldsThere at whole finding → comes_by_absence finding ≡ true
  by_absence (SameName i j) found = only (SameName (at.unit i) (at.unit j)) found
  by_absence (SameFixedAddress i j) found = only (SameFixedAddress (at.unit i) (at.unit j)) found
  by_absence (TooFewAddresses n) (m, more, found) = only (TooFewAddresses m) found
  by_absence (BadPgn g) found = only (BadPgn (at.group g)) found
  by_absence (SamePgn g h) found = only (SamePgn (at.group g) (at.group h)) found
  by_absence (SignalWidth g s) found = only (SignalWidth (at.group g) s) found
  by_absence (SignalOutside g s) found = only (SignalOutside (at.group g) s) found
  by_absence (SignalOverlap g s t) found = only (SignalOverlap (at.group g) s t) found
  by_absence (FlowToOne f) found = only (FlowToOne (at.flow f)) found
  by_absence (FlowToSelf f) found = only (FlowToSelf (at.flow f)) found
  by_absence (FlowRepeated f h) found = only (FlowRepeated (at.flow f) (at.flow h)) found
  by_absence (KeptAddress i) found = only (KeptAddress (at.unit i)) found
  by_absence (PrivateUnsent g) found = refl
  by_absence (RecordOverlap g s t) found = only (RecordOverlap (at.group g) s t) found
  by_absence (TextOutside g t) found = only (TextOutside (at.group g) t) found
  by_absence (NeedUnmet n) found = refl
  by_absence (RequestUnanswered r) found = refl
  by_absence (RequestUnheard r) found = refl
  by_absence (AnswerAstray r) found = refl
  by_absence (WhenOutside g) found = only (WhenOutside (at.group g)) found
  by_absence (RequestRepeated r s) found = only (RequestRepeated (at.request r) (at.request s)) found
  by_absence (SilentAddress u v) found = only (SilentAddress (at.unit u) (at.unit v)) found
  by_absence (SilentInPool u) found = only (SilentInPool (at.unit u)) found
  by_absence (FlowContested f) found = only (FlowContested (at.flow f)) found

pub only_absence_stays : (part whole : Plan) → IsPlanPart part whole → OnlyAbsenceStays part whole
only_absence_stays part whole (at, is) here there are are_there only = record {
  plans = λ finding found. by_absence at whole only.plans finding (holds_there at part whole is finding found);
  loads = λ finding found. by_load finding (are_found_there at part whole is
      (λ g bad. false≢true (only.plans (BadPgn g) bad)) here there are are_there finding found);
}
  where
    by_load : (finding : LoadFinding) → IsFoundThere at part there finding → load_comes_by_absence finding ≡ true
    by_load (NoPeriod f) (inside, found) = only.loads (NoPeriod (at.flow f)) found
    by_load (Overload n) (m, more, found) = only.loads (Overload m) found
    by_load (LateFlow f) (inside, found) = only.loads (LateFlow (at.flow f)) found
    by_load (NeedTooOld d) found = refl
    by_load (AskedTooOften f) (inside, found) = only.loads (AskedTooOften (at.flow f)) found
