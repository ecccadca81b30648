-- Of a plan without flows and requests nothing is found, unless damaged frames alone are too many for the bus.
use Rattle.std.proofs.Common.{◌≡◌, ◌≢◌, ℕ, suc, ◌+◌, ◌<◌, Bool, if◌then◌else◌, List, [], ◌∷◌, ◌++◌, length, map, inl, inr, Option, Some, None, refl, ap, ◌∙◌}
use Rattle.std.proofs.Common.{arith}
use Rattle.std.proofs.lemmas.Bool.{cases_lt, le-ltb}
use Rattle.j39_network.specs.declared.plan.Plan.{Plan}
use Rattle.j39_network.specs.declared.plan.flow_plan.FlowPlan.{FlowPlan}
use Rattle.j39_network.specs.declared.plan.need_plan.NeedPlan.{NeedPlan}
use Rattle.j39_network.specs.declared.plan.request_plan.RequestPlan.{RequestPlan}
use Rattle.j39_network.specs.declared.plan.timing.Timing.{Timing}
use Rattle.j39_network.specs.declared.plan.unit_plan.UnitPlan.{UnitPlan}
use Rattle.j39_load.specs.declared.waits.delay.Delay.{Delay}
use Rattle.j39_load.specs.declared.findings.load_finding.LoadFinding.{LoadFinding}
use Rattle.j39_load.specs.declared.findings.load_finding.LoadFinding.TheVariants.{Overload}
use Rattle.j39_load.specs.Ages.{old_needs, oldness}
use Rattle.j39_load.specs.Asked.{Asked, asked_by, total_load}
use Rattle.j39_load.specs.Broadcasts.{unit_loads_of}
use Rattle.j39_load.specs.Damage.{load_of_damage}
use Rattle.j39_load.specs.LoadFindings.{flows_asked_too_often, further_findings, load_findings, overload}
use Rattle.j39_load.specs.FlowLoads.{load_of_flow}
use Rattle.j39_load.specs.Loads.{bits_of_second}
use Rattle.j39_load.specs.LiveClaims.{unplanned_end}
use Rattle.j39_load.specs.LineLists.{lines_of_each}
use Rattle.j39_load.specs.RequestLoads.{load_of_request}

-- a list without elements is empty
pub none_of_length : {X : Type 0} (xs : List X) → length xs ≡ 0 → xs ≡ []
none_of_length [] none = refl
none_of_length (x ∷ xs) none = absurd (omega (arith, none))

-- no need is too old that nothing meets
no_old : (timing : Timing) (requests : List RequestPlan) (place : ℕ) (needs : List NeedPlan)
    → lines_of_each (oldness timing requests [] []) place needs ≡ []
unfolding lines_of_each
no_old timing requests place [] = refl
no_old timing requests place (need ∷ needs) = one need.within refl (no_old timing requests (place + 1) needs)
  where
    one : (within : Option ℕ) → need.within ≡ within → lines_of_each (oldness timing requests [] []) (place + 1) needs ≡ []
        → lines_of_each (oldness timing requests [] []) place (need ∷ needs) ≡ []
    one None is rest = rw (is) rest
    one (Some w) is rest = rw (is) rest

-- what these flows and requests ask
abbrev asked_by_both : Timing → Plan → (UnitPlan → Bool) → List FlowPlan → List RequestPlan → Asked
asked_by_both timing plan stays flows requests =
    asked_by (map (load_of_flow timing plan stays) flows)
    (unit_loads_of timing plan.units.items stays (map (load_of_flow timing plan stays) flows))
    (map (load_of_request timing plan.units.items stays) requests) (unplanned_end plan)

by_flows : (timing : Timing) (plan : Plan) (stays : UnitPlan → Bool) (flows : List FlowPlan) (requests : List RequestPlan) (needs : List NeedPlan)
    (delays : List (Option Delay)) → flows ≡ [] → requests ≡ [] → delays ≡ []
    → load_findings timing (total_load timing (asked_by_both timing plan stays flows requests)) delays
    ++ (old_needs timing requests flows delays needs ++ flows_asked_too_often requests flows) ≢ []
    → bits_of_second timing.bitrate < load_of_damage timing
unfolding lines_of_each
by_flows timing plan stays (f ∷ fs) requests needs delays none silent empty some =
    absurd (let one : suc (length fs) ≡ 0 = ap length none in omega arith)
by_flows timing plan stays [] (r ∷ rs) needs delays none silent empty some =
    absurd (let one : suc (length rs) ≡ 0 = ap length silent in omega arith)
by_flows timing plan stays [] [] needs (d ∷ ds) none silent empty some =
    absurd (let one : suc (length ds) ≡ 0 = ap length empty in omega arith)
by_flows timing plan stays [] [] needs [] none silent empty some =
    elim (cases_lt (bits_of_second timing.bitrate) (load_of_damage timing)) [
      | inl full ↦ full
      | inr fits ↦
          let load : ℕ = load_of_damage timing + (0 + (0 + 0)) in
          let over : overload timing load ≡ [] =
          ap (λ (b : Bool). if b then Overload load ∷ [] else []) (le-ltb (bits_of_second timing.bitrate) load (omega arith)) in
          let all : (overload timing load ++ []) ++ (lines_of_each (oldness timing [] [] []) 0 needs ++ []) ≡ [] =
          ap (λ (xs : List LoadFinding). (xs ++ []) ++ (lines_of_each (oldness timing [] [] []) 0 needs ++ [])) over
          ∙ ap (λ (xs : List LoadFinding). xs ++ []) (no_old timing [] 0 needs) in
          absurd (some all)
    ]

pub full_of_damage : (timing : Timing) (plan : Plan) (stays : UnitPlan → Bool) (delays : List (Option Delay)) → length plan.flows.items ≡ 0
    → length plan.requests.items ≡ 0 → length delays ≡ 0
    → load_findings timing (total_load timing (asked_by_both timing plan stays plan.flows.items plan.requests.items)) delays
    ++ further_findings plan timing delays ≢ []
    → bits_of_second timing.bitrate < load_of_damage timing
full_of_damage timing plan stays delays none silent empty some =
    by_flows timing plan stays plan.flows.items plan.requests.items plan.needs.items delays (none_of_length plan.flows.items none)
    (none_of_length plan.requests.items silent) (none_of_length delays empty) some
