-- The texts of the plan of each vehicle are those of the plan: no line has a NAME.
use Rattle.std.proofs.Common.{◌≡◌, ℕ, ◌+◌, ◌*◌, codes, List, [], ◌∷◌, ◌++◌, Option, Some, None, refl, ap, ◌∙◌}
use Rattle.std.proofs.lemmas.Slice.Zip.{AllZip-long}
use Rattle.std.specs.List.{slice_get}
use Rattle.std.specs.Option.{option_map_or}
use Rattle.j39_findings.specs.ConflictRuns.{conflict_run}
use Rattle.j39_network.specs.VehiclePlans.{IsBoxOf, IsVehicleOf}
use Rattle.j39_findings.specs.declared.checking.finding.Finding.{Finding}
use Rattle.j39_findings.specs.declared.checking.finding.Finding.TheVariants.{SameName, SameFixedAddress, TooFewAddresses, BadPgn, SamePgn, SignalWidth}
use Rattle.j39_findings.specs.declared.checking.finding.Finding.TheVariants.{SignalOutside, SignalOverlap, FlowToOne, FlowToSelf, FlowRepeated, KeptAddress}
use Rattle.j39_findings.specs.declared.checking.finding.Finding.TheVariants.{PrivateUnsent, RecordOverlap, TextOutside, NeedUnmet}
use Rattle.j39_findings.specs.declared.checking.finding.Finding.TheVariants.{RequestUnanswered, RequestUnheard, AnswerAstray, WhenOutside, RequestRepeated}
use Rattle.j39_findings.specs.declared.checking.finding.Finding.TheVariants.{SilentAddress, SilentInPool, FlowContested}
use Rattle.j39_network.specs.declared.plan.Plan.{Plan}
use Rattle.j39_network.specs.declared.plan.flow_plan.FlowPlan.{FlowPlan}
use Rattle.j39_network.specs.declared.plan.group_plan.GroupPlan.{GroupPlan}
use Rattle.j39_network.specs.declared.plan.need_plan.NeedPlan.{NeedPlan}
use Rattle.j39_network.specs.declared.plan.timing.Bitrate.{Bitrate}
use Rattle.j39_network.specs.declared.plan.timing.Timing.{Timing}
use Rattle.j39_network.specs.declared.plan.to.To.{To}
use Rattle.j39_network.specs.declared.plan.to.To.TheVariants.{All, One}
use Rattle.j39_network.specs.declared.plan.unit_plan.UnitPlan.{UnitPlan}
use Rattle.j39_network.specs.declared.steps.Step.{Step}
use Rattle.j39_network.specs.declared.steps.Step.TheVariants.{Up, Down, Give, Ask, Begin, Send, Emit, Take, Lose, LateSender, LateReceiver, Rest}
use Rattle.j39_network.proofs.VehicleUnits.{AreBoth, both_at}
use Rattle.j39_load.specs.declared.waits.delay.Delay.{Delay}
use Rattle.j39_load.specs.declared.loads.flow_load.FlowLoad.{FlowLoad}
use Rattle.j39_load.specs.declared.findings.load_finding.LoadFinding.{LoadFinding}
use Rattle.j39_load.specs.Asked.{Asked}
use Rattle.j39_load.specs.LineLists.{lines_of_each}
use Rattle.j39_schedule.specs.StepLines.{step_line, step_lines, step_text, step_unit_text}
use Rattle.j39_text.specs.Labels.{group_label, group_pgn, group_selector_end, group_text, need_signal_text, need_text, signal_bits, signal_end, signal_label}
use Rattle.j39_text.specs.Labels.{signals_of, text_end, text_label, texts_of, unit_address, unit_label, units_text}
use Rattle.j39_plan_text.specs.CheckText.{findings_text, listed_text, ok_line}
use Rattle.j39_plan_text.specs.FindingLines.{finding_line, finding_lines, finding_part, finding_report, finding_text, run_lines, signals_text}
use Rattle.j39_plan_text.specs.LoadLines.{age_flow_text, flow_line, flow_text, known_age_text, loads_text, need_line, receiver_text}
use Rattle.j39_plan_text.specs.LoadText.{unshown_found, unshown_lines, unshown_text}

-- the lines of each are those of two ways of reporting that report the same
each_same : {X Y : Type 0} (f g : ℕ → X → List Y) → ((place : ℕ) (x : X) → f place x ≡ g place x) → (place : ℕ) (xs : List X)
    → lines_of_each f place xs ≡ lines_of_each g place xs
unfolding lines_of_each
each_same f g same place [] = refl
each_same f g same place (x ∷ xs) =
    ap (λ line. line ++ lines_of_each f (place + 1) xs) (same place x) ∙ ap (λ lines. g place x ++ lines) (each_same f g same (place + 1) xs)

module _ (plan vehicle : Plan) (is : IsVehicleOf plan vehicle) where
  -- ---- what places name

  units_alike : {X : Type 0} (read : UnitPlan → X) (none : X) → ((unit box : UnitPlan) → IsBoxOf unit box → read box ≡ read unit) → (u : ℕ)
      → option_map_or read (slice_get vehicle.units.items u) none ≡ option_map_or read (slice_get plan.units.items u) none
  units_alike {X} read none same u =
      go (slice_get plan.units.items u) (slice_get vehicle.units.items u) (both_at IsBoxOf plan.units.items vehicle.units.items is.boxes u)
    where
      go : (o p : Option UnitPlan) → AreBoth IsBoxOf o p → option_map_or read p none ≡ option_map_or read o none
      go None None both = refl
      go None (Some box) both = absurd both
      go (Some unit) None both = absurd both
      go (Some unit) (Some box) both = same unit box both

  groups_alike : {X : Type 0} (read : GroupPlan → X) (none : X) → (g : ℕ)
      → option_map_or read (slice_get vehicle.groups.items g) none ≡ option_map_or read (slice_get plan.groups.items g) none
  groups_alike {X} read none g = ap (λ (groups : List GroupPlan). option_map_or read (slice_get groups g) none) is.groups

  unit_label_same : (u : ℕ) → unit_label vehicle u ≡ unit_label plan u
  unfolding unit_label
  unit_label_same = units_alike (λ (unit : UnitPlan). unit.label.bytes) [] (λ unit box of. of.label)

  unit_address_same : (u : ℕ) → unit_address vehicle u ≡ unit_address plan u
  unfolding unit_address
  unit_address_same = units_alike (λ (unit : UnitPlan). unit.address) 0 (λ unit box of. of.address)

  group_label_same : (g : ℕ) → group_label vehicle g ≡ group_label plan g
  unfolding group_label
  group_label_same = groups_alike (λ (group : GroupPlan). group.label.bytes) []

  group_pgn_same : (g : ℕ) → group_pgn vehicle g ≡ group_pgn plan g
  unfolding group_pgn
  group_pgn_same = groups_alike (λ (group : GroupPlan). group.pgn) 0

  signals_same : (g : ℕ) → signals_of vehicle g ≡ signals_of plan g
  unfolding signals_of
  signals_same = groups_alike (λ (group : GroupPlan). group.signals.items) []

  signal_label_same : (g s : ℕ) → signal_label vehicle g s ≡ signal_label plan g s
  unfolding signal_label
  signal_label_same g s = rw (signals_same g) refl

  signal_bits_same : (g s : ℕ) → signal_bits vehicle g s ≡ signal_bits plan g s
  unfolding signal_bits
  signal_bits_same g s = rw (signals_same g) refl

  signal_end_same : (g s : ℕ) → signal_end vehicle g s ≡ signal_end plan g s
  unfolding signal_end
  signal_end_same g s = rw (signals_same g) refl

  texts_same : (g : ℕ) → texts_of vehicle g ≡ texts_of plan g
  unfolding texts_of
  texts_same = groups_alike (λ (group : GroupPlan). group.texts.items) []

  text_label_same : (g t : ℕ) → text_label vehicle g t ≡ text_label plan g t
  unfolding text_label
  text_label_same g t = rw (texts_same g) refl

  text_end_same : (g t : ℕ) → text_end vehicle g t ≡ text_end plan g t
  unfolding text_end
  text_end_same g t = rw (texts_same g) refl

  selector_end_same : (g : ℕ) → group_selector_end vehicle g ≡ group_selector_end plan g
  unfolding group_selector_end
  selector_end_same g = rw (is.groups) refl

  units_text_same : (word : List ℕ) (u v : ℕ) → units_text word vehicle u v ≡ units_text word plan u v
  unfolding units_text
  units_text_same word u v = rw (unit_label_same u, unit_label_same v) refl

  group_text_same : (word : List ℕ) (g : ℕ) → group_text word vehicle g ≡ group_text word plan g
  unfolding group_text
  group_text_same word g = rw (group_label_same g) refl

  -- ---- findings

  signals_text_same : (word : List ℕ) (g s t : ℕ) → signals_text word vehicle g s t ≡ signals_text word plan g s t
  unfolding signals_text
  signals_text_same word g s t = rw (group_label_same g, signal_label_same g s, signal_label_same g t) refl

  finding_text_same : (finding : Finding) → finding_text vehicle finding ≡ finding_text plan finding
  unfolding finding_text
  finding_text_same (SameName i j) = units_text_same (codes "F1 SameName ") i j
  finding_text_same (SameFixedAddress i j) = rw (unit_label_same i, unit_label_same j, unit_address_same i) refl
  finding_text_same (TooFewAddresses n) = refl
  finding_text_same (BadPgn g) = rw (group_label_same g, group_pgn_same g) refl
  finding_text_same (SamePgn g h) = rw (group_label_same g, group_label_same h, group_pgn_same g) refl
  finding_text_same (SignalWidth g s) = rw (group_label_same g, signal_label_same g s, signal_bits_same g s) refl
  finding_text_same (SignalOutside g s) = rw (group_label_same g, signal_label_same g s, signal_end_same g s) refl
  finding_text_same (SignalOverlap g s t) = signals_text_same (codes "F8 SignalOverlap ") g s t
  finding_text_same (FlowToOne f) = refl
  finding_text_same (FlowToSelf f) = refl
  finding_text_same (FlowRepeated f h) = refl
  finding_text_same (KeptAddress i) = rw (unit_label_same i, unit_address_same i) refl
  finding_text_same (PrivateUnsent g) = group_text_same (codes "F13 PrivateUnsent ") g
  finding_text_same (RecordOverlap g s t) = signals_text_same (codes "F14 RecordOverlap ") g s t
  finding_text_same (TextOutside g t) = rw (group_label_same g, text_label_same g t, text_end_same g t) refl
  finding_text_same (NeedUnmet n) = refl
  finding_text_same (RequestUnanswered r) = refl
  finding_text_same (RequestUnheard r) = refl
  finding_text_same (AnswerAstray r) = refl
  finding_text_same (WhenOutside g) = rw (group_label_same g, selector_end_same g) refl
  finding_text_same (RequestRepeated r s) = refl
  finding_text_same (SilentAddress u v) = rw (unit_label_same u, unit_label_same v, unit_address_same u) refl
  finding_text_same (SilentInPool u) = rw (unit_label_same u, unit_address_same u) refl
  finding_text_same (FlowContested f) = refl

  step_unit_same : (word : List ℕ) (u : ℕ) → step_unit_text word vehicle u ≡ step_unit_text word plan u
  unfolding step_unit_text
  step_unit_same word u = rw (unit_label_same u) refl

  step_text_same : (step : Step) → step_text vehicle step ≡ step_text plan step
  unfolding step_text
  step_text_same (Up u) = step_unit_same (codes "up ") u
  step_text_same (Down u) = step_unit_same (codes "down ") u
  step_text_same (Give u v) = units_text_same (codes "give ") u v
  step_text_same (Ask u) = step_unit_same (codes "ask ") u
  step_text_same (Begin f bytes) = refl
  step_text_same (Send f bytes) = refl
  step_text_same (Emit u) = step_unit_same (codes "emit ") u
  step_text_same (Take u v) = units_text_same (codes "take ") u v
  step_text_same (Lose u v) = units_text_same (codes "lose ") u v
  step_text_same (LateSender u) = step_unit_same (codes "late ") u
  step_text_same (LateReceiver u v) = units_text_same (codes "late ") u v
  step_text_same (Rest u) = step_unit_same (codes "rest ") u

  step_lines_same : (steps : List Step) → step_lines vehicle steps ≡ step_lines plan steps
  unfolding step_lines step_line
  step_lines_same [] = refl
  step_lines_same (step ∷ steps) = rw (step_text_same step, step_lines_same steps) refl

  -- the runs are the same
  module _ (runs : (finding : Finding) → conflict_run vehicle finding ≡ conflict_run plan finding) where
    run_lines_same : (finding : Finding) → run_lines vehicle finding ≡ run_lines plan finding
    unfolding run_lines
    run_lines_same finding =
        ap (λ (run : Option (List Step)). option_map_or (step_lines vehicle) run []) (runs finding) ∙ go (conflict_run plan finding)
      where
        go : (run : Option (List Step)) → option_map_or (step_lines vehicle) run [] ≡ option_map_or (step_lines plan) run []
        go None = refl
        go (Some steps) = step_lines_same steps

    part_same : (from below : ℕ) (finding : Finding) → finding_part from below vehicle finding ≡ finding_part from below plan finding
    unfolding finding_part finding_report finding_line
    part_same from below finding = rw (finding_text_same finding, run_lines_same finding) refl

    finding_lines_same : (from below : ℕ) (findings : List Finding) → finding_lines from below vehicle findings ≡ finding_lines from below plan findings
    finding_lines_same from below = each_same (λ _. finding_part from below vehicle) (λ _. finding_part from below plan) (λ _. part_same from below) 0

    pub findings_text_same : (findings : List Finding) (others : List LoadFinding) → findings_text vehicle findings others ≡ findings_text plan findings others
    unfolding findings_text listed_text
    findings_text_same findings others =
        rw (finding_lines_same 1 16 findings, finding_lines_same 19 20 findings, finding_lines_same 21 29 findings) refl

    pub unshown_text_same : (findings : List Finding) (others : List LoadFinding) → unshown_text vehicle findings others ≡ unshown_text plan findings others
    unfolding unshown_text unshown_lines unshown_found
    unshown_text_same findings others =
        rw (finding_lines_same 1 16 findings, finding_lines_same 19 20 findings, finding_lines_same 21 29 findings) refl

  pub ok_line_same : ok_line vehicle ≡ ok_line plan
  unfolding ok_line
  ok_line_same = rw (AllZip-long IsBoxOf plan.units.items vehicle.units.items is.boxes, is.groups, is.flows) refl

  -- ---- the load

  receiver_same : (to : To) → receiver_text vehicle to ≡ receiver_text plan to
  unfolding receiver_text
  receiver_same All = refl
  receiver_same (One v) = unit_label_same v

  flow_line_same : (timing : Timing) (delays : List (Option Delay)) (place : ℕ) (flow : FlowPlan)
      → flow_line vehicle timing delays place flow ≡ flow_line plan timing delays place flow
  unfolding flow_line flow_text
  flow_line_same timing delays place flow = rw (group_label_same flow.group, unit_label_same flow.sender, receiver_same flow.to) refl

  need_signal_same : (need : NeedPlan) → need_signal_text vehicle need ≡ need_signal_text plan need
  unfolding need_signal_text
  need_signal_same need = go need.signal where
    go : (signal : Option ℕ) → option_map_or (λ s. codes " " ++ signal_label vehicle need.group s) signal []
        ≡ option_map_or (λ s. codes " " ++ signal_label plan need.group s) signal []
    go None = refl
    go (Some s) = rw (signal_label_same need.group s) refl

  need_text_same : (place : ℕ) (need : NeedPlan) → need_text vehicle place need ≡ need_text plan place need
  unfolding need_text
  need_text_same place need = rw (unit_label_same need.unit, group_label_same need.group, need_signal_same need) refl

  age_same : (timing : Timing) (delays : List (Option Delay)) (need : NeedPlan) (limit : ℕ)
      → known_age_text vehicle timing delays need limit ≡ known_age_text plan timing delays need limit
  unfolding known_age_text age_flow_text
  age_same timing delays need limit = rw (is.requests, is.flows) refl

  need_line_same : (timing : Timing) (delays : List (Option Delay)) (place : ℕ) (need : NeedPlan)
      → need_line vehicle timing delays place need ≡ need_line plan timing delays place need
  unfolding need_line
  need_line_same timing delays place need = go need.within where
    go : (within : Option ℕ)
        → option_map_or (λ ms. need_text vehicle place need ++ (known_age_text vehicle timing delays need (1000 * ms) ++ 10 ∷ [])) within []
        ≡ option_map_or (λ ms. need_text plan place need ++ (known_age_text plan timing delays need (1000 * ms) ++ 10 ∷ [])) within []
    go None = refl
    go (Some ms) = rw (need_text_same place need, age_same timing delays need (1000 * ms)) refl

  pub loads_text_same : (timing : Timing) (asked : Asked) (delays : List (Option Delay))
      → loads_text vehicle timing asked delays ≡ loads_text plan timing asked delays
  unfolding loads_text
  loads_text_same timing asked delays =
      let flows = ap (lines_of_each (flow_line vehicle timing delays) 0) is.flows
      ∙ each_same (flow_line vehicle timing delays) (flow_line plan timing delays) (flow_line_same timing delays) 0 plan.flows.items in
      let needs = ap (lines_of_each (need_line vehicle timing delays) 0) is.needs
      ∙ each_same (need_line vehicle timing delays) (need_line plan timing delays) (need_line_same timing delays) 0 plan.needs.items in
      rw (flows, needs) refl
