-- What the log of a run of a vehicle reports by its own plan it reports by the plan of its type.
use Rattle.std.proofs.Common.{◌≡◌, ℕ, zero, suc, true, false, List, [], ◌∷◌, ◌++◌, map, inl, inr}
use Rattle.std.proofs.Common.{refl, sym, ap, subst, ◌∙◌, arith, append_assoc}
use Rattle.std.specs.FinSet.{FinSet}
use Rattle.std.specs.List.{All, AllByRecursion, AllZip, slice_get}
use Rattle.std.specs.Ordering.{nat_cmp}
use Rattle.std.proofs.lemmas.List.{map-append}
use Rattle.std.proofs.lemmas.List.Elements.{All-cons, All-head, All-nil, All-tail}
use Rattle.j39_id.specs.Pgn.{is_pgn}
use Rattle.j39_id.specs.Services.{is_service}
use Rattle.j39_id.specs.declared.frame.Frame.{Frame}
use Rattle.j39_id.specs.declared.ident.Ident.{Ident}
use Rattle.j39_network.specs.Kinds.{AreDistinctUnits, kind_of_name}
use Rattle.j39_network.specs.VehiclePlans.{IsBoxOf, IsVehicleOf}
use Rattle.j39_network.specs.declared.plan.Plan.{Plan}
use Rattle.j39_network.specs.declared.plan.flow_plan.FlowPlan.{FlowPlan}
use Rattle.j39_network.specs.declared.plan.group_plan.GroupPlan.{GroupPlan}
use Rattle.j39_network.specs.declared.plan.to.To.{To}
use Rattle.j39_network.specs.declared.plan.to.To.TheVariants.{All as ToAll, One as ToOne}
use Rattle.j39_network.specs.declared.plan.unit_plan.UnitPlan.{UnitPlan}
use Rattle.j39_network.specs.declared.steps.Step.{Step}
use Rattle.j39_network.specs.declared.steps.Step.TheVariants.{Up, Down, Give, Ask, Begin, Send, Emit, Take, Lose, LateSender, LateReceiver, Rest}
use Rattle.j39_network.proofs.VehicleUnits.{boxes_apart}
use Rattle.j39_findings.proofs.Vehicles.{clean_vehicle}
use Rattle.j39_findings.proofs.WhoStays.{placed}
use Rattle.j39_run_laws.proofs.Runs.Units.{in_units}
use Rattle.j39_world.specs.declared.flow.Flow.{Flow}
use Rattle.j39_world.specs.Flows.{FlowGoes, flow_of, flows_of}
use Rattle.j39_log_laws.specs.KeepsEnds.{KeepsEnds}
use Rattle.j39_world.specs.Opening.{AreNamesDistinct}
use Rattle.j39_network.specs.PlannedUnits.{planned_unit, unit_at, units_of}
use Rattle.j39_world.specs.Run.{Follows}
use Rattle.j39_world.specs.Sent.{Sent, sent_of}
use Rattle.j39_world.specs.World.{World}
use Rattle.j39_follow.specs.Contests.{frames_of}
use Rattle.j39_follow.specs.VehicleLogs.{IsOfVehicle, ReportOfVehicle}
use Rattle.j39_follow.proofs.Vehicles.Parties.{ReportAll}
use Rattle.j39_follow.proofs.Vehicles.Reports.{same_report}
use Rattle.j39_follow.proofs.Vehicles.Units.{of_box, report_alike, unit_kept}
use Rattle.j39_log_laws.specs.Between.{AreJoined, ComesTo, EachGoesBetweenUnits, GoesToHolder, HasNumberOf, IsBetweenUnits, IsKnownAt, IsOfFlowOrTransport}
use Rattle.j39_log_laws.specs.Between.{IsOfStep, IsSentBy, MessagesGoBetweenHolders, SendsTo, StandsBehind}
use Rattle.j39_log_laws.specs.HolderReports.{HaveOwnNumbers}
use Rattle.j39_log_laws.specs.ReportedFlows.{AreReportedAsBegun, EachClaims, LooksLike, untimed}
use Rattle.j39_log_laws.specs.VehicleRuns.{AreVehiclesReportedAsBegun, FramesReportOfVehicle, VehicleMessagesGoBetweenHolders}
use Rattle.j39_log_laws.proofs.NamesReported.{AreNamed, IsUnitName, ReportsUnit}
use Rattle.j39_log_laws.proofs.ReportedFlows.{frames_untimed}

-- ---- lists

all_split : {X : Type 0} (P : X → Type 0) (xs : List X) (y : X) (ys : List X) → AllByRecursion P (xs ++ y ∷ ys) → P y
all_split P [] y ys all = all.0
all_split P (x ∷ xs) y ys all = all_split P xs y ys all.1

all_front : {X : Type 0} (P : X → Type 0) (xs ys : List X) → AllByRecursion P (xs ++ ys) → AllByRecursion P xs
all_front P [] ys all = tt
all_front P (x ∷ xs) ys all = (all.0, all_front P xs ys all.1)

claims_at : (kept other : FinSet nat_cmp) (units boxes : List UnitPlan) → AllZip IsBoxOf units boxes → (u : ℕ)
    → (unit_at (map (planned_unit other) boxes) u).claims ≡ (unit_at (map (planned_unit kept) units) u).claims
claims_at kept other [] [] all u = refl
claims_at kept other [] (b ∷ boxes) all u = absurd all
claims_at kept other (a ∷ units) [] all u = absurd all
claims_at kept other (a ∷ units) (b ∷ boxes) all zero = all.0.claims
claims_at kept other (a ∷ units) (b ∷ boxes) all (suc u) = claims_at kept other units boxes all.1 u

pub boxes_keep_ends : (plan vehicle : Plan) → IsVehicleOf plan vehicle → KeepsEnds plan → KeepsEnds vehicle
boxes_keep_ends plan vehicle is (inl settled) = inl (is.live ∙ settled)
boxes_keep_ends plan vehicle is (inr clean) = inr (clean_vehicle plan vehicle is clean)

module _ (plan vehicle : Plan) (is : IsVehicleOf plan vehicle) (apart : AreDistinctUnits plan) where
  -- ---- the vehicle's plan

  pub distinct_boxes : AreNamesDistinct (units_of vehicle)
  distinct_boxes i j one =
      let inside = one.inside in
      let below = one.below in
      let a = placed vehicle.keep_free vehicle.units.items i (omega (arith, inside, below)) in
      let b = placed vehicle.keep_free vehicle.units.items j inside in
      let same : a.0.name ≡ b.0.name = sym (ap (λ p. p.name) a.2) ∙ one.same ∙ ap (λ p. p.name) b.2 in
      boxes_apart plan vehicle is apart i j (record {
        first = a.0;
        second = b.0;
        below = below;
        first_is = a.1;
        second_is = b.1;
        related = (ap (λ n. kind_of_name n) same, inl same);
      })

  pub own_boxes : HaveOwnNumbers plan → HaveOwnNumbers vehicle
  own_boxes own = subst (λ (gs : List GroupPlan). All (λ (g : GroupPlan). (is_pgn g.pgn ≡ true) × (is_service g.pgn ≡ false)) gs) (sym is.groups) own

  pub boxes_claim : EachClaims plan → EachClaims vehicle
  boxes_claim all = go plan.units.items vehicle.units.items is.boxes all where
    go : (units boxes : List UnitPlan) → AllZip IsBoxOf units boxes → All (λ (unit : UnitPlan). unit.claims ≡ true) units
        → All (λ (unit : UnitPlan). unit.claims ≡ true) boxes
    go [] [] zip each = All-nil (λ (unit : UnitPlan). unit.claims ≡ true)
    go [] (b ∷ boxes) zip each = absurd zip
    go (a ∷ units) [] zip each = absurd zip
    go (a ∷ units) (b ∷ boxes) zip each =
        All-cons (λ (unit : UnitPlan). unit.claims ≡ true) b boxes
        (zip.0.claims ∙ All-head (λ (unit : UnitPlan). unit.claims ≡ true) a units each)
        (go units boxes zip.1 (All-tail (λ (unit : UnitPlan). unit.claims ≡ true) a units each))

  same_flows : flows_of vehicle ≡ flows_of plan
  same_flows =
      ap (λ (gs : List GroupPlan). map (flow_of gs) vehicle.flows.items) is.groups
      ∙ ap (λ (fs : List FlowPlan). map (flow_of plan.groups.items) fs) is.flows

  -- ---- flows

  flow_goes : (f u : ℕ) (to : To) → FlowGoes vehicle f u to → FlowGoes plan f u to
  flow_goes f u to (flow, at, from, goes) = (flow, sym (ap (λ (fs : List Flow). slice_get fs f) same_flows) ∙ at, from, goes)

  sends_to : (w : World) (u : ℕ) (to : To) → SendsTo vehicle w u to → SendsTo plan w u to
  sends_to w u to (s, session, goes) = (s, session, flow_goes s.flow u to goes)

  sent_by : (w : World) (step : Step) (u : ℕ) (to : To) → IsSentBy vehicle w step u to → IsSentBy plan w step u to
  sent_by w (Begin f bytes) u to by = flow_goes f u to by
  sent_by w (Send f bytes) u to by = flow_goes f u to by
  sent_by w (Emit s) u to (same, sends) = (same, sends_to w s to sends)
  sent_by w (LateSender s) u to (same, sends) = (same, sends_to w s to sends)
  sent_by w (Take s r) u to (same, goes, inl sends) = (same, goes, inl (sends_to w s (ToOne r) sends))
  sent_by w (Take s r) u to (same, goes, inr sends) = (same, goes, inr (sends_to w r (ToOne s) sends))
  sent_by w (LateReceiver s r) u to (same, goes, sends) = (same, goes, sends_to w s (ToOne r) sends)
  sent_by w (Up x) u to by = absurd by
  sent_by w (Down x) u to by = absurd by
  sent_by w (Give x y) u to by = absurd by
  sent_by w (Ask x) u to by = absurd by
  sent_by w (Lose x y) u to by = absurd by
  sent_by w (Rest x) u to by = absurd by

  has_number : (f : ℕ) (i : Ident) → HasNumberOf vehicle f i → HasNumberOf plan f i
  has_number f i (flow, at, number) = (flow, sym (ap (λ (fs : List Flow). slice_get fs f) same_flows) ∙ at, number)

  of_flow : (f : ℕ) (i : Ident) → IsOfFlowOrTransport vehicle f i → IsOfFlowOrTransport plan f i
  of_flow f i (inl number) = inl (has_number f i number)
  of_flow f i (inr transport) = inr transport

  of_step : (step : Step) (i : Ident) → IsOfStep vehicle step i → IsOfStep plan step i
  of_step (Begin f bytes) i of = of_flow f i of
  of_step (Send f bytes) i of = has_number f i of
  of_step (Up x) i of = of
  of_step (Down x) i of = of
  of_step (Give x y) i of = of
  of_step (Ask x) i of = of
  of_step (Emit x) i of = of
  of_step (Take x y) i of = of
  of_step (Lose x y) i of = of
  of_step (LateSender x) i of = of
  of_step (LateReceiver x y) i of = of
  of_step (Rest x) i of = of

  -- ---- who stands behind addresses

  stands : (log : List Frame) (u a : ℕ) → StandsBehind vehicle log u a → StandsBehind plan log u a
  stands log u a behind claims =
      let who = behind (claims_at plan.keep_free vehicle.keep_free plan.units.items vehicle.units.items is.boxes u ∙ claims) in
      (who.0, who.1, unit_kept plan vehicle is apart who.0 u who.2)

  known : (w : World) (log : List Frame) (u a : ℕ) → IsKnownAt vehicle w log u a → IsKnownAt plan w log u a
  known w log u a at = record { on = at.on; holds = at.holds; stated = stands log u a at.stated }

  goes_to : (w : World) (log : List Frame) (to : To) (i : Ident) → GoesToHolder vehicle w log to i → GoesToHolder plan w log to i
  goes_to w log ToAll i goes = goes
  goes_to w log (ToOne v) i (a, at, goes) = (a, known w log v a at, goes)

  pub messages_go_so : (w : World) → MessagesGoBetweenHolders vehicle w → VehicleMessagesGoBetweenHolders plan vehicle w
  messages_go_so w go step after log f follows sent other =
      let (u, to, by, of, source, goes) = go step after log f follows sent other in
      (u, to, sent_by w step u to by, of_step step f.ident of, known w (log ++ f ∷ []) u f.ident.sa source, goes_to w (log ++ f ∷ []) to f.ident goes)

  joined : (u : ℕ) (to : To) (i : Ident) → AreJoined vehicle u to i → AreJoined plan u to i
  joined u to i (inl (f, goes, of)) = inl (f, flow_goes f u to goes, of_flow f i of)
  joined u to i (inr (f, v, one, goes, transport)) = inr (f, v, one, flow_goes f v (ToOne u) goes, transport)

  comes_to : (log : List Frame) (to : To) (i : Ident) → ComesTo vehicle log to i → ComesTo plan log to i
  comes_to log ToAll i comes = comes
  comes_to log (ToOne v) i (inl two) = inl two
  comes_to log (ToOne v) i (inr behind) = inr (stands log v i.ps behind)

  pub each_goes_so : (w : World) → EachGoesBetweenUnits vehicle w → EachGoesBetweenUnits plan w
  each_goes_so w each before f behind e other =
      let b : IsBetweenUnits vehicle (before ++ f ∷ []) f.ident = each before f behind e other in
      record {
        sender = b.sender;
        to = b.to;
        joined = joined b.sender b.to f.ident b.joined;
        comes = stands (before ++ f ∷ []) b.sender f.ident.sa b.comes;
        goes = comes_to (before ++ f ∷ []) b.to f.ident b.goes;
      }

  -- ---- NAMEs

  of_units : (name : ℕ) → IsUnitName vehicle name → IsOfVehicle plan vehicle name
  of_units name (v, unit, same) =
      let b = placed vehicle.keep_free vehicle.units.items v (in_units vehicle v unit) in
      subst (IsOfVehicle plan vehicle) (sym (ap (λ p. p.name) b.2) ∙ same) (of_box plan vehicle is apart v b.0 b.1)

  -- frames whose form was sent by units of the vehicle
  report_so : (log : List Frame) → AllByRecursion (ReportsUnit vehicle) (map sent_of log) → ReportOfVehicle plan vehicle log
  report_so log all before f behind row name are_reported =
      let parted : map sent_of log ≡ map sent_of before ++ sent_of f ∷ map sent_of behind =
      ap (map sent_of) row ∙ map-append sent_of before (f ∷ behind) in
      of_units name (all_split (ReportsUnit vehicle) (map sent_of before) (sent_of f) (map sent_of behind)
      (subst (AllByRecursion (ReportsUnit vehicle)) parted all) f refl name are_reported)

  pub frames_report_so : (w : World) → AreNamed vehicle w → FramesReportOfVehicle plan vehicle w
  frames_report_so w named log of = report_so log (subst (AllByRecursion (ReportsUnit vehicle)) (sym of) named.each)

  -- ---- flows that are reported

  looks_so : (group f other : ℕ) → LooksLike vehicle group f other → LooksLike plan group f other
  looks_so group f other l = record {
    flow = l.flow;
    twin = l.twin;
    flow_is = sym (ap (λ (fs : List FlowPlan). slice_get fs f) is.flows) ∙ l.flow_is;
    twin_is = sym (ap (λ (fs : List FlowPlan). slice_get fs other) is.flows) ∙ l.twin_is;
    flow_group = l.flow_group;
    twin_group = l.twin_group;
    sender = l.sender;
    receivers = elim l.receivers [
      | inl same ↦ inl same
      | inr two ↦ inr (record {
        value = two.value;
        value_is = sym (ap (λ (gs : List GroupPlan). slice_get gs group) is.groups) ∙ two.value_is;
        meets = two.meets;
      })
    ];
  }

  pub reported_so : (w : World) → AreReportedAsBegun vehicle w → ((step : Step) (after : World) → Follows vehicle w step after → AreNamed vehicle after)
      → AreVehiclesReportedAsBegun plan vehicle w
  reported_so w stated named step after log f front group flow text follows sent report =
      let frames : List Frame = log ++ f ∷ [] in
      let sent_so : map sent_of frames ++ sent.later ≡ after.frames =
      ap (λ (t : List Sent). t ++ sent.later) (map-append sent_of log (f ∷ []) ∙ ap (λ (t : List Sent). t ++ sent_of f ∷ []) sent.log_is)
      ∙ append_assoc (w.frames ++ sent.earlier) (sent_of f ∷ []) sent.later ∙ append_assoc w.frames sent.earlier (sent_of f ∷ sent.later) ∙ sym sent.sent in
      let all : AllByRecursion (ReportsUnit vehicle) (map sent_of frames) =
      all_front (ReportsUnit vehicle) (map sent_of frames) sent.later
      (subst (AllByRecursion (ReportsUnit vehicle)) (sym sent_so) (named step after follows).each) in
      let are_reported : ReportAll (IsOfVehicle plan vehicle) (frames_of (untimed frames)) =
      subst (ReportAll (IsOfVehicle plan vehicle)) (sym (frames_untimed frames)) (report_so frames all) in
      let there = same_report (IsOfVehicle plan vehicle) plan vehicle (report_alike plan vehicle is apart)
      (untimed frames) are_reported front _ _ text report in
      let (k, other, begun, found, looks) = stated step after log f front group flow text follows sent there in
      (k, other, begun, found, looks_so group k other looks)
