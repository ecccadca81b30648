-- What is written of the plan of each vehicle is what is written of the plan, where no two units may be one.
use Rattle.std.proofs.Common.{◌≡◌, ◌++◌, ℕ, zero, suc, Bool, true, false, List, [], ◌∷◌, Option, Some, None, Contains, refl, sym, ap, ◌∙◌, subst, inl, inr}
use Rattle.std.specs.Bool.{MatchBool}
use Rattle.std.specs.List.{AllZip, slice_get}
use Rattle.std.proofs.lemmas.Bool.{false≢true}
use Rattle.j39_findings.specs.Findings.{Holds}
use Rattle.j39_findings.specs.Found.{found}
use Rattle.j39_network.specs.Kinds.{AreDistinctUnits, MayHaveName}
use Rattle.j39_network.specs.VehiclePlans.{IsBoxOf, IsVehicleOf}
use Rattle.j39_findings.specs.declared.checking.finding.Finding.{Finding}
use Rattle.j39_network.specs.declared.plan.Plan.{Plan}
use Rattle.j39_network.specs.declared.plan.timing.Timing.{Timing}
use Rattle.j39_network.specs.declared.plan.unit_plan.UnitPlan.{UnitPlan}
use Rattle.j39_findings.proofs.FoundLaws.{are_findings}
use Rattle.j39_findings.proofs.Vehicles.{clean_vehicle, found_alike}
use Rattle.j39_load.specs.BusTimes.{timing_of}
use Rattle.j39_load.specs.declared.waits.delay.Delay.{Delay}
use Rattle.j39_load.specs.declared.findings.load_finding.LoadFinding.{LoadFinding}
use Rattle.j39_load.specs.Asked.{Asked, asked_of, total_load}
use Rattle.j39_load.specs.LoadFindings.{all_findings}
use Rattle.j39_load.proofs.Vehicles.{asks_alike, loads_alike, same_findings, timing_alike}
use Rattle.j39_stream.specs.declared.verdict.Verdict.{Verdict}
use Rattle.j39_stream.specs.declared.verdict.Verdict.TheVariants.{Done, Findings, Refused, Unreadable}
use Rattle.j39_plan_text.specs.AddressesText.{IsAddressesReport, StayingHolds}
use Rattle.j39_plan_text.specs.Certified.{IsCertified}
use Rattle.j39_plan_text.specs.CheckText.{IsReport, findings_text}
use Rattle.j39_plan_text.specs.LoadLines.{loads_text}
use Rattle.j39_plan_text.specs.LoadText.{IsLoadReport, WritesLoads, load_verdict, shows_times, unshown_text}
use Rattle.j39_plan_text.specs.VehicleReports.{AreReportedAlike}
use Rattle.j39_plan_text.proofs.StaysTexts.{StayAlike, stays_text_same}
use Rattle.j39_plan_text.proofs.VehicleTexts.{findings_text_same, loads_text_same, ok_line_same, unshown_text_same}

-- ---- a vehicle of a vehicle is one of its type

box_of_box : (unit box other : UnitPlan) → IsBoxOf unit box → IsBoxOf box other → IsBoxOf unit other
box_of_box unit box other first second = record {
  name = elim second.name.1 [
    | inl same ↦ subst (MayHaveName unit) same first.name
    | inr any ↦ absurd (false≢true (sym first.number ∙ any))
  ];
  number = second.number;
  label = second.label ∙ first.label;
  address = second.address ∙ first.address;
  way = second.way ∙ first.way;
  window = second.window ∙ first.window;
  queue = second.queue ∙ first.queue;
  claims = second.claims ∙ first.claims;
}

boxes_of_boxes : (units boxes others : List UnitPlan) → AllZip IsBoxOf units boxes → AllZip IsBoxOf boxes others → AllZip IsBoxOf units others
boxes_of_boxes [] [] [] first second = tt
boxes_of_boxes [] [] (other ∷ others) first second = absurd second
boxes_of_boxes [] (box ∷ boxes) others first second = absurd first
boxes_of_boxes (unit ∷ units) [] others first second = absurd first
boxes_of_boxes (unit ∷ units) (box ∷ boxes) [] first second = absurd second
boxes_of_boxes (unit ∷ units) (box ∷ boxes) (other ∷ others) first second =
    (box_of_box unit box other first.0 second.0, boxes_of_boxes units boxes others first.1 second.1)

vehicle_of_vehicle : (plan vehicle other : Plan) → IsVehicleOf plan vehicle → IsVehicleOf vehicle other → IsVehicleOf plan other
vehicle_of_vehicle plan vehicle other first second = record {
  boxes = boxes_of_boxes plan.units.items vehicle.units.items other.units.items first.boxes second.boxes;
  keep_free = second.keep_free ∙ first.keep_free;
  strangers = second.strangers ∙ first.strangers;
  live = second.live ∙ first.live;
  timing = second.timing ∙ first.timing;
  groups = second.groups ∙ first.groups;
  flows = second.flows ∙ first.flows;
  needs = second.needs ∙ first.needs;
  requests = second.requests ∙ first.requests;
}

-- ---- reports

-- of each box the same is reported as of its unit
reported_alike_each : (stays stated : UnitPlan → Bool) (units boxes : List UnitPlan) → AllZip IsBoxOf units boxes
    → ((u : ℕ) (unit box : UnitPlan) → slice_get units u ≡ Some unit → slice_get boxes u ≡ Some box → stated box ≡ stays unit)
    → AllZip (StayAlike stays stated) units boxes
reported_alike_each stays stated [] [] all same = tt
reported_alike_each stays stated [] (box ∷ boxes) all same = absurd all
reported_alike_each stays stated (unit ∷ units) [] all same = absurd all
reported_alike_each stays stated (unit ∷ units) (box ∷ boxes) all same = (
  record { label = all.0.label; address = all.0.address; standing = same zero unit box refl refl },
  reported_alike_each stays stated units boxes all.1 (λ u. same (suc u)),
)

module _ (plan vehicle : Plan) (is : IsVehicleOf plan vehicle) (apart : AreDistinctUnits plan) where
  found_is : found vehicle ≡ found plan
  found_is = (found_alike plan vehicle is apart).findings

  holds_there : (finding : Finding) → Holds plan finding → Holds vehicle finding
  holds_there finding holds =
      (are_findings vehicle).sound finding
      (subst (λ (all : List Finding). Contains all finding) (sym found_is) ((are_findings plan).complete finding holds))

  holds_here : (finding : Finding) → Holds vehicle finding → Holds plan finding
  holds_here finding holds =
      (are_findings plan).sound finding
      (subst (λ (all : List Finding). Contains all finding) found_is ((are_findings vehicle).complete finding holds))

  certified : IsCertified plan → IsCertified vehicle
  certified holds = record {
    plan_holds = holds.vehicles_hold vehicle is;
    vehicles_hold = λ other another. holds.vehicles_hold other (vehicle_of_vehicle plan vehicle other is another);
  }

  findings_written : (others : List LoadFinding) → findings_text plan (found plan) others ≡ findings_text vehicle (found vehicle) others
  findings_written others =
      sym (ap (λ (all : List Finding). findings_text vehicle all others) found_is
      ∙ findings_text_same plan vehicle is (found_alike plan vehicle is apart).runs (found plan) others)

  check_alike : (text : List ℕ) (verdict : Verdict) → IsReport plan text verdict → IsReport vehicle text verdict
  check_alike text Done (clean, none, holds, line) = (
    clean_vehicle plan vehicle is clean,
    (loads_alike plan vehicle is apart).findings [] none,
    certified holds,
    line ∙ sym (ok_line_same plan vehicle is),
  )
  check_alike text Findings (others, are, some, lines) = (
    others,
    (loads_alike plan vehicle is apart).findings others are,
    λ none. some (sym found_is ∙ none.0, none.1),
    lines ∙ findings_written others,
  )
  check_alike text Refused report = absurd report
  check_alike text Unreadable report = absurd report

  addresses_alike : StayingHolds vehicle → (text : List ℕ) (verdict : Verdict) → IsAddressesReport plan text verdict → IsAddressesReport vehicle text verdict
  addresses_alike holds text Done (none, held, stays, states, lines) =
      let there = (loads_alike plan vehicle is apart).standing stays states in (
        λ finding of there_holds. none finding of (holds_here finding there_holds),
        holds,
        there.stated,
        there.states,
        lines ∙ sym (stays_text_same stays there.stated plan.units.items vehicle.units.items
            (reported_alike_each stays there.stated plan.units.items vehicle.units.items is.boxes there.same)),
      )
  addresses_alike holds text Findings ((finding, of, there), report) = ((finding, of, holds_there finding there), check_alike text Findings report)
  addresses_alike holds text Refused report = absurd report
  addresses_alike holds text Unreadable report = absurd report

  module _ (timing : Timing) (stays stated : UnitPlan → Bool) (delays : List (Option Delay))
      (same : asked_of timing plan stays ≡ asked_of timing vehicle stated)
      (text : List ℕ) (verdict : Verdict) where
    abbrev others_by : Plan → Asked → List LoadFinding
    others_by p asked = all_findings p timing (total_load timing asked) delays

    others_same : others_by plan (asked_of timing plan stays) ≡ others_by vehicle (asked_of timing vehicle stated)
    others_same =
        same_findings plan vehicle is apart timing (total_load timing (asked_of timing plan stays)) delays
        ∙ ap (others_by vehicle) same

    text_same : (loads_text plan timing (asked_of timing plan stays) delays
        ++ unshown_text plan (found plan) (others_by plan (asked_of timing plan stays)))
        ≡ (loads_text vehicle timing (asked_of timing vehicle stated) delays
        ++ unshown_text vehicle (found vehicle) (others_by vehicle (asked_of timing vehicle stated)))
    text_same =
        let lines = sym (loads_text_same plan vehicle is timing (asked_of timing plan stays) delays)
        ∙ ap (λ (asked : Asked). loads_text vehicle timing asked delays) same in
        let behind = sym (unshown_text_same plan vehicle is (found_alike plan vehicle is apart).runs (found plan) (others_by plan (asked_of timing plan stays)))
        ∙ ap (λ (all : List Finding). unshown_text vehicle all (others_by plan (asked_of timing plan stays))) (sym found_is)
        ∙ ap (unshown_text vehicle (found vehicle)) others_same in
        ap (λ first. first ++ unshown_text plan (found plan) (others_by plan (asked_of timing plan stays))) lines
        ∙ ap (λ second. loads_text vehicle timing (asked_of timing vehicle stated) delays ++ second) behind

    verdict_same : load_verdict (found plan) (others_by plan (asked_of timing plan stays))
        ≡ load_verdict (found vehicle) (others_by vehicle (asked_of timing vehicle stated))
    verdict_same =
        ap (λ (all : List Finding). load_verdict all (others_by plan (asked_of timing plan stays))) (sym found_is)
        ∙ ap (load_verdict (found vehicle)) others_same

    -- what load reports of the vehicle, where times are reported, and where they aren't
    abbrev Stated : Bool → Type 0
    Stated shown = MatchBool shown
        ((text ≡ loads_text vehicle timing (asked_of timing vehicle stated) delays
        ++ unshown_text vehicle (found vehicle) (others_by vehicle (asked_of timing vehicle stated)))
        × (verdict ≡ load_verdict (found vehicle) (others_by vehicle (asked_of timing vehicle stated))))
        (IsReport vehicle text verdict)

    written_alike : WritesLoads plan timing stays delays text verdict → WritesLoads vehicle timing stated delays text verdict
    written_alike states = subst (λ (all : List Finding). Stated (shows_times all)) (sym found_is) (over (shows_times (found plan)) states)
      where
        over : (shown : Bool)
            → MatchBool shown
            ((text ≡ loads_text plan timing (asked_of timing plan stays) delays ++ unshown_text plan (found plan) (others_by plan (asked_of timing plan stays)))
            × (verdict ≡ load_verdict (found plan) (others_by plan (asked_of timing plan stays))))
            (IsReport plan text verdict)
            → Stated shown
        over true (lines, ends) = (lines ∙ text_same, ends ∙ verdict_same)
        over false report = check_alike text verdict report

  load_of_timing : (timing : Option Timing) (text : List ℕ) (verdict : Verdict) → IsLoadReport plan timing text verdict
      → IsLoadReport vehicle timing text verdict
  load_of_timing None text verdict report = report
  load_of_timing (Some timing) text verdict (stays, delays, asks, states) =
      let there = (loads_alike plan vehicle is apart).standing stays asks.standing in
      let same = (loads_alike plan vehicle is apart).asked timing stays there.stated asks.standing there.states in (
        there.stated,
        delays,
        asks_alike plan vehicle is apart timing stays delays asks there.stated there.states,
        written_alike timing stays there.stated delays same text verdict states,
      )

  pub reported_alike : StayingHolds vehicle → AreReportedAlike plan vehicle
  reported_alike holds = record {
    check = check_alike;
    addresses = addresses_alike holds;
    load = λ text verdict report.
        subst (λ (timing : Option Timing). IsLoadReport vehicle timing text verdict) (sym (timing_alike plan vehicle is apart))
        (load_of_timing (timing_of plan) text verdict report);
  }
