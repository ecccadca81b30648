-- By the plan of a type `follow` writes of the log of a vehicle what it writes by the plan of this vehicle, and the serial numbers of boxes.
use Rattle.std.proofs.Common.{◌≡◌, ℕ, ◌%◌, ◌^◌, Bool, false, if◌then◌else◌, List, [], ◌++◌, codes, length, Option, Some, None, refl, sym, ap, subst, arith, ◌∙◌}
use Rattle.std.specs.List.{All, slice_get}
use Rattle.std.specs.Option.{option_map_or}
use Rattle.std.proofs.lemmas.List.Elements.{All-nil}
use Rattle.j39_id.specs.Lines.{lines}
use Rattle.j39_network.specs.Kinds.{AreDistinctUnits}
use Rattle.j39_network.specs.PlannedGroups.{IsFirstRefused, IsSendable}
use Rattle.j39_network.specs.VehiclePlans.{IsVehicleOf}
use Rattle.j39_network.specs.declared.plan.Plan.{Plan}
use Rattle.j39_network.specs.declared.plan.group_plan.GroupPlan.{GroupPlan}
use Rattle.j39_network.specs.declared.plan.unit_plan.UnitPlan.{UnitPlan}
use Rattle.j39_network.proofs.VehicleUnits.{unit_of as unit_there}
use Rattle.j39_log.specs.ReadText.{refused_plan_line}
use Rattle.j39_stream.specs.declared.verdict.Verdict.{Verdict}
use Rattle.j39_stream.specs.declared.verdict.Verdict.TheVariants.{Done, Findings, Refused, Unreadable}
use Rattle.j39_text.specs.Texts.{field}
use Rattle.j39_follow.specs.FollowReports.{identity_text}
use Rattle.j39_follow.specs.FollowText.{FollowedPast, IsFollowText, IsFollowedLog, frames_seen, nothing_followed}
use Rattle.j39_follow.specs.FollowText.{behind_reports}
use Rattle.j39_follow.specs.VehicleLogs.{DifferInNumbers, IsButForNumber, IsLogOfVehicle, IsOfVehicle, TypesStandForVehicles, with_numbers, without_numbers}
use Rattle.j39_follow.specs.Who.{is_of_any, unit_of_name}
use Rattle.j39_follow.proofs.OneText.{one_text}
use Rattle.j39_follow.proofs.Vehicles.Ends.{same_flow_ends, same_group_ends, same_need_ends, same_refused, same_request_ends, same_unit_lines}
use Rattle.j39_follow.proofs.Vehicles.Lines.{lines_alike}
use Rattle.j39_follow.proofs.Vehicles.Parties.{ReportAll}
use Rattle.j39_follow.proofs.Vehicles.Units.{ReportAlike, report_alike}

-- ---- no box of a vehicle is of any serial number

module _ (plan vehicle : Plan) (is : IsVehicleOf plan vehicle) (apart : AreDistinctUnits plan) where
  of_none : (o : Option ℕ) → is_of_any vehicle o ≡ false
  of_none None = refl
  of_none (Some u) = go (slice_get vehicle.units.items u) refl where
    go : (b : Option UnitPlan) → slice_get vehicle.units.items u ≡ b
        → option_map_or (λ (unit : UnitPlan). unit.any_identity) (slice_get vehicle.units.items u) false ≡ false
    go None none = ap (λ (x : Option UnitPlan). option_map_or (λ (unit : UnitPlan). unit.any_identity) x false) none
    go (Some b) there =
        ap (λ (x : Option UnitPlan). option_map_or (λ (unit : UnitPlan). unit.any_identity) x false) there
        ∙ (unit_there plan vehicle is apart u b there).2.number

  no_identity : (name : ℕ) → identity_text vehicle name ≡ []
  unfolding identity_text
  no_identity name = ap (λ (b : Bool). if b then field (codes " identity ") (name % 2 ^ 21) else []) (of_none (unit_of_name vehicle name))

-- ---- behind the reports

same_behind : (G : ℕ → Type 0) (p q : Plan) → ReportAlike G p q → (past : FollowedPast) (units : List ℕ)
    → behind_reports p past units ≡ behind_reports q past units
same_behind G p q same past units =
    rw (
      same_flow_ends G p q same past.sent,
      same_group_ends G p q same past.sent,
      same_request_ends G p q same past.events,
      same_need_ends G p q same past.sent,
    )
    refl

-- ---- a log

module _ (plan vehicle : Plan) (is : IsVehicleOf plan vehicle) (apart : AreDistinctUnits plan) where
  abbrev Given : ℕ → Type 0
  Given = IsOfVehicle plan vehicle

  alike : ReportAlike Given plan vehicle
  alike = report_alike plan vehicle is apart

  followed : (all_frames : Bool) (log numbered alone : List ℕ) (outcome : Verdict) → IsLogOfVehicle plan vehicle all_frames log
      → All IsSendable plan.groups.items
      → IsFollowedLog plan all_frames log numbered → IsFollowText vehicle all_frames log alone outcome
      → (Done ≡ outcome) × DifferInNumbers plan log numbered alone
  followed all_frames log numbered alone outcome given sendable a other =
      let states : ReportAll Given (frames_seen a.past.seen) = given numbered a in
      let all = lines_alike Given plan vehicle alike (no_identity plan vehicle is apart) all_frames
      (lines log) nothing_followed a.past a.reports refl states a.read in
      let units = same_unit_lines Given plan vehicle alike (frames_seen a.past.seen) states 0 plan.units.items vehicle.units.items a.units
      (λ k. ap (slice_get plan.units.items) (omega arith)) (λ k. ap (slice_get vehicle.units.items) (omega arith)) a.units_are in
      let built : IsFollowedLog vehicle all_frames log (without_numbers all.rows ++ behind_reports vehicle a.past a.units) = record {
        past = a.past;
        reports = without_numbers all.rows;
        units = a.units;
        read = all.leads;
        units_are = units;
        text_is = refl;
      } in
      let one = one_text vehicle all_frames log (without_numbers all.rows ++ behind_reports vehicle a.past a.units) alone Done outcome
      (subst (λ (gs : List GroupPlan). All IsSendable gs) (sym is.groups) sendable, built) other in (
        one.1,
        record {
          rows = all.rows;
          ends = behind_reports plan a.past a.units;
          numbered_is = a.text_is ∙ ap (λ (t : List ℕ). t ++ behind_reports plan a.past a.units) all.text_is;
          alone_is =
              sym one.0 ∙ ap (λ (t : List ℕ). without_numbers all.rows ++ t) (sym (same_behind Given plan vehicle alike a.past a.units));
          each = all.each;
          but_for_numbers = all.but_for_numbers;
        },
      )

  refused : (all_frames : Bool) (log numbered alone : List ℕ) (outcome : Verdict) → IsFollowText plan all_frames log numbered Refused
      → IsFollowText vehicle all_frames log alone outcome
      → (Refused ≡ outcome) × DifferInNumbers plan log numbered alone
  unfolding with_numbers without_numbers lines
  refused all_frames log numbered alone outcome a other =
      let one = one_text vehicle all_frames log (refused_plan_line vehicle a.0) alone Refused outcome
      (a.0, subst (λ (gs : List GroupPlan). IsFirstRefused gs a.0) (sym is.groups) a.1, refl, a.3) other in (
        one.1,
        record {
          rows = [];
          ends = numbered;
          numbered_is = refl;
          alone_is = sym one.0 ∙ sym (same_refused Given plan vehicle alike a.0) ∙ sym a.2;
          each = sym (ap (λ (t : List ℕ). length (lines t)) a.3);
          but_for_numbers = All-nil (IsButForNumber plan);
        },
      )

pub types_stand_for_vehicles : TypesStandForVehicles
types_stand_for_vehicles plan vehicle all_frames log numbered alone Done outcome is apart given one other =
    followed plan vehicle is apart all_frames log numbered alone outcome given one.0 one.1 other
types_stand_for_vehicles plan vehicle all_frames log numbered alone Refused outcome is apart given one other =
    refused plan vehicle is apart all_frames log numbered alone outcome one other
types_stand_for_vehicles plan vehicle all_frames log numbered alone Findings outcome is apart given one other = absurd one
types_stand_for_vehicles plan vehicle all_frames log numbered alone Unreadable outcome is apart given one other = absurd one
