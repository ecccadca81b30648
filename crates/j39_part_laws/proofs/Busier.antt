-- A plan asks the same of its bus, however many frames come that aren't planned.
use Rattle.std.proofs.Common.{◌≡◌, ℕ, zero, suc, ◌≤◌, Bool, not, ◌&&◌, if◌then◌else◌, List, [], ◌∷◌, length, map, Option, Some, None, option_map, refl, ap, ◌∙◌}
use Rattle.std.specs.List.{range_with_len, slice_get}
use Rattle.std.specs.Option.{option_and_then}
use Rattle.j39_network.specs.declared.plan.Plan.{Plan}
use Rattle.j39_network.specs.declared.plan.flow_plan.FlowPlan.{FlowPlan}
use Rattle.j39_network.specs.declared.plan.group_plan.GroupPlan.{GroupPlan}
use Rattle.j39_network.specs.declared.plan.pace.Pace.{Pace}
use Rattle.j39_network.specs.declared.plan.request_plan.RequestPlan.{RequestPlan}
use Rattle.j39_network.specs.declared.plan.timing.Timing.{Timing}
use Rattle.j39_network.specs.declared.plan.to.To.{To}
use Rattle.j39_network.specs.declared.plan.to.To.TheVariants.{All as ToAllUnits, One}
use Rattle.j39_network.specs.declared.plan.unit_plan.UnitPlan.{UnitPlan}
use Rattle.j39_load.specs.declared.frames.broadcast.Broadcast.{Broadcast}
use Rattle.j39_load.specs.declared.frames.messages.Messages.{Messages}
use Rattle.j39_load.specs.declared.frames.messages.Messages.TheVariants.{Short, ToAll, ToOne}
use Rattle.j39_load.specs.declared.loads.flow_load.FlowLoad.{FlowLoad}
use Rattle.j39_load.specs.Asked.{asked_by, asked_of}
use Rattle.j39_load.specs.Broadcasts.{broadcasts_by, known_unit_load, unit_loads_of}
use Rattle.j39_load.specs.Loads.{flow_load, has_short, is_always_short, limit_by, load_of_messages, long_messages, single_frames, time_limit}
use Rattle.j39_load.specs.AnswerStreams.{askers_of, frames_for, load_for, messages_for}
use Rattle.j39_load.specs.FlowLoads.{asked_load, load_of_flow, loads_of}
use Rattle.j39_load.specs.declared.frames.flow_frames.FlowFrames.{FlowFrames}
use Rattle.j39_load.specs.LiveClaims.{unplanned_end}
use Rattle.j39_load.specs.RequestLoads.{load_of_request, request_load, request_loads_of}
use Rattle.j39_part_laws.specs.PartLoads.{counting}

map_same : {A B : Type 0} (f g : A → B) → ((x : A) → f x ≡ g x) → (xs : List A) → map f xs ≡ map g xs
map_same f g same [] = refl
map_same f g same (x ∷ xs) = ap (λ y. y ∷ map f xs) (same x) ∙ ap (λ ys. g x ∷ ys) (map_same f g same xs)

module _ (timing : Timing) (unplanned : ℕ) (range : unplanned ≤ 1000) where
  abbrev busy : Timing
  busy = counting timing unplanned range

  same_limit : (period : ℕ) (deadline : Option ℕ) → limit_by busy period deadline ≡ limit_by timing period deadline
  same_limit period None = refl
  same_limit period (Some deadline) = refl

  same_bits : (messages : Messages) (period : ℕ) → load_of_messages busy messages period ≡ load_of_messages timing messages period
  same_bits (Short frames) period = refl
  same_bits (ToOne frames) period = refl
  same_bits (ToAll broadcast) period = refl

  -- also of those for which so many ask
  module _ (pace : Pace) where
    same_frames : (k : ℕ) (frames : FlowFrames) → frames_for busy pace k frames ≡ frames_for timing pace k frames
    same_frames zero frames = refl
    same_frames (suc k) frames = refl

    same_messages : (k : ℕ) (messages : Messages) → messages_for busy pace k messages ≡ messages_for timing pace k messages
    same_messages k (Short frames) = ap Short (same_frames k frames)
    same_messages k (ToOne frames) = ap ToOne (same_frames k frames)
    same_messages zero (ToAll broadcast) = refl
    same_messages (suc k) (ToAll broadcast) = refl

    same_singles : (k : ℕ) (singles : Option FlowFrames) → option_map (frames_for busy pace k) singles ≡ option_map (frames_for timing pace k) singles
    same_singles k None = refl
    same_singles k (Some frames) = ap Some (same_frames k frames)

    abbrev asked_by_these : Messages → Option FlowFrames → FlowLoad → FlowLoad
    asked_by_these messages singles load =
        record { messages = messages; singles = singles; limit = load.limit; bits_per_second = load.bits_per_second }

    same_for : (k : ℕ) (load : FlowLoad) → load_for busy pace k load ≡ load_for timing pace k load
    same_for k load = ap (λ m. asked_by_these m (option_map (frames_for busy pace k) load.singles) load) (same_messages k load.messages)
        ∙ ap (λ s. asked_by_these (messages_for timing pace k load.messages) s load) (same_singles k load.singles)

  module _ (units : List UnitPlan) (stays : UnitPlan → Bool) where
    module _ (flow : FlowPlan) (pace : Pace) (group : GroupPlan) where
      same_long : (to : To) → long_messages busy units stays flow pace group to ≡ long_messages timing units stays flow pace group to
      same_long ToAllUnits = refl
      same_long (One v) = refl

      abbrev chosen : Messages → Messages
      chosen long = if is_always_short group then Short (single_frames timing units stays flow pace group) else long

      abbrev load_by : Messages → ℕ → ℕ → FlowLoad
      load_by long limit bits = record {
        messages = chosen long;
        singles = if not (is_always_short group) && has_short group then Some (single_frames timing units stays flow pace group) else None;
        limit = limit;
        bits_per_second = bits;
      }

      same_flow : flow_load busy units stays flow pace group ≡ flow_load timing units stays flow pace group
      same_flow =
          let long = long_messages timing units stays flow pace group flow.to in
          ap (λ l. load_by l (time_limit busy pace) (load_of_messages busy (chosen l) pace.period)) (same_long flow.to)
          ∙ ap (λ n. load_by long n (load_of_messages busy (chosen long) pace.period)) (same_limit pace.period pace.deadline)
          ∙ ap (λ n. load_by long (time_limit timing pace) n) (same_bits (chosen long) pace.period)

    same_unit : (u : ℕ) (bs : List Broadcast) → known_unit_load busy units stays u bs ≡ known_unit_load timing units stays u bs
    same_unit u [] = refl
    same_unit u (b ∷ bs) = refl

    same_units : (loads : List (Option FlowLoad)) → unit_loads_of busy units stays loads ≡ unit_loads_of timing units stays loads
    same_units [] = refl
    same_units (l ∷ ls) = map_same (λ u. known_unit_load busy units stays u (broadcasts_by u (l ∷ ls)))
        (λ u. known_unit_load timing units stays u (broadcasts_by u (l ∷ ls))) (λ u. same_unit u (broadcasts_by u (l ∷ ls))) (range_with_len 0 (length units))

    same_request : (request : RequestPlan) → load_of_request busy units stays request ≡ load_of_request timing units stays request
    same_request request = go request.period
      where
        go : (period : Option ℕ) → option_map (request_load busy units stays request) period ≡ option_map (request_load timing units stays request) period
        go None = refl
        go (Some period) = refl

  module _ (plan : Plan) (stays : UnitPlan → Bool) where
    same_load_of : (flow : FlowPlan) → load_of_flow busy plan stays flow ≡ load_of_flow timing plan stays flow
    same_load_of flow = go flow.pace
      where
        by : (pace : Pace) (group : Option GroupPlan)
            → option_map (asked_load busy plan.requests.items plan.units.items stays flow pace) group
            ≡ option_map (asked_load timing plan.requests.items plan.units.items stays flow pace) group
        by pace None = refl
        by pace (Some group) = ap Some (
            ap (load_for busy pace (askers_of plan.requests.items flow)) (same_flow plan.units.items stays flow pace group)
            ∙ same_for pace (askers_of plan.requests.items flow) (flow_load timing plan.units.items stays flow pace group))

        go : (pace : Option Pace)
            → option_and_then (λ p. option_map (asked_load busy plan.requests.items plan.units.items stays flow p)
            (slice_get plan.groups.items flow.group)) pace
            ≡ option_and_then (λ p. option_map (asked_load timing plan.requests.items plan.units.items stays flow p)
            (slice_get plan.groups.items flow.group)) pace
        go None = refl
        go (Some pace) = by pace (slice_get plan.groups.items flow.group)

    same_loads : loads_of busy plan stays ≡ loads_of timing plan stays
    same_loads = map_same (load_of_flow busy plan stays) (load_of_flow timing plan stays) same_load_of plan.flows.items

    same_requests : request_loads_of busy plan stays ≡ request_loads_of timing plan stays
    same_requests = map_same (load_of_request busy plan.units.items stays) (load_of_request timing plan.units.items stays)
        (same_request plan.units.items stays) plan.requests.items

    pub same_asked : asked_of busy plan stays ≡ asked_of timing plan stays
    same_asked =
        ap (λ l. asked_by l (unit_loads_of busy plan.units.items stays l) (request_loads_of busy plan stays) (unplanned_end plan)) same_loads
        ∙ ap (λ l. asked_by (loads_of timing plan stays) l (request_loads_of busy plan stays) (unplanned_end plan))
        (same_units plan.units.items stays (loads_of timing plan stays))
        ∙ ap (λ l. asked_by (loads_of timing plan stays) (unit_loads_of timing plan.units.items stays (loads_of timing plan stays)) l (unplanned_end plan))
        same_requests
