-- What is wanted of a unit among all frames of a plan are the broadcasts of its flows.
use Rattle.std.proofs.Common.{◌≡◌, ℕ, Bool, true, false, not, ◌&&◌, if◌then◌else◌, List, [], ◌∷◌, ◌++◌, map, All, Option, Some, None, IfSome}
use Rattle.std.proofs.Common.{refl, ap, ◌∙◌}
use Rattle.std.proofs.lemmas.List.{append-nil}
use Rattle.std.proofs.lemmas.List.Elements.{All-head, All-map, All-tail, filter_map-append}
use Rattle.std.specs.List.{cons_option, filter_map, slice_get}
use Rattle.j39_network.specs.declared.plan.Plan.{Plan}
use Rattle.j39_network.specs.declared.plan.flow_plan.FlowPlan.{FlowPlan}
use Rattle.j39_network.specs.declared.plan.group_plan.GroupPlan.{GroupPlan}
use Rattle.j39_network.specs.declared.plan.pace.Pace.{Pace}
use Rattle.j39_network.specs.declared.plan.timing.Timing.{Timing}
use Rattle.j39_network.specs.declared.plan.to.To.{To}
use Rattle.j39_network.specs.declared.plan.to.To.TheVariants.{All as ToAllUnits, One}
use Rattle.j39_network.specs.declared.plan.unit_plan.UnitPlan.{UnitPlan}
use Rattle.j39_load.specs.declared.frames.broadcast.Broadcast.{Broadcast}
use Rattle.j39_load.specs.declared.frames.flow_frames.FlowFrames.{FlowFrames}
use Rattle.j39_load.specs.declared.frames.messages.Messages.TheVariants.{Short}
use Rattle.j39_load.specs.declared.loads.flow_load.FlowLoad.{FlowLoad}
use Rattle.j39_load.specs.declared.loads.request_load.RequestLoad.{RequestLoad}
use Rattle.j39_load.specs.declared.loads.unit_load.UnitLoad.{UnitLoad}
use Rattle.j39_load.specs.Asked.{announcements_of_unit, asked_of, frames_asked, frames_of_flow, frames_of_request, own_frames, packets_of_unit, singles_of_flow}
use Rattle.j39_load.specs.Broadcasts.{broadcast_by, broadcast_from, broadcasts_by, unit_loads_of}
use Rattle.j39_load.specs.Damage.{damage_frames}
use Rattle.j39_load.specs.Demands.{wanted_by, wants_of}
use Rattle.j39_load.specs.Loads.{has_short, is_always_short, long_messages, single_frames}
use Rattle.j39_load.specs.AnswerStreams.{askers_of, frames_for, messages_for}
use Rattle.std.specs.Option.{option_map}
use Rattle.j39_load.specs.FlowLoads.{load_of_flow, loads_of}
use Rattle.j39_load.specs.RequestLoads.{request_loads_of}
use Rattle.j39_load.proofs.DemandLaws.{wants_with_damage}
use Rattle.j39_load.proofs.EachFrames.{of_requests, of_units}

abbrev WantsNothing : FlowFrames → Type 0
WantsNothing frames = frames.want ≡ None

module _ (u : ℕ) where
  wants_nothing : (o : Option FlowFrames) → IfSome o WantsNothing → wanted_by u o ≡ None
  wants_nothing None none = refl
  wants_nothing (Some frames) none = rw (none) refl

  none_wanted : (xs : List (Option FlowFrames)) → All (λ (o : Option FlowFrames). IfSome o WantsNothing) xs → filter_map (wanted_by u) xs ≡ []
  none_wanted [] each = refl
  none_wanted (x ∷ xs) each =
      ap (λ (o : Option Broadcast). cons_option o (filter_map (wanted_by u) xs))
      (wants_nothing x (All-head (λ (o : Option FlowFrames). IfSome o WantsNothing) x xs each))
      ∙ none_wanted xs (All-tail (λ (o : Option FlowFrames). IfSome o WantsNothing) x xs each)

  module _ (plan : Plan) (timing : Timing) (stays : UnitPlan → Bool) where
    abbrev units : List UnitPlan
    units = plan.units.items

    -- ---- a flow

    abbrev AsWanted : Option FlowLoad → Type 0
    AsWanted load = (wanted_by u (frames_of_flow load) ≡ broadcast_by u load) × (wanted_by u (singles_of_flow load) ≡ None)

    module _ (flow : FlowPlan) (pace : Pace) (group : GroupPlan) (askers : ℕ) where
      long : (to : To) → wanted_by u (own_frames (messages_for timing pace askers (long_messages timing units stays flow pace group to)))
          ≡ broadcast_from u (messages_for timing pace askers (long_messages timing units stays flow pace group to))
      long ToAllUnits = refl
      long (One v) = refl

      by_lengths : (short has : Bool)
          → (wanted_by u (own_frames (messages_for timing pace askers (if short then Short (single_frames timing units stays flow pace group)
          else long_messages timing units stays flow pace group flow.to)))
          ≡ broadcast_from u (messages_for timing pace askers (if short then Short (single_frames timing units stays flow pace group)
          else long_messages timing units stays flow pace group flow.to)))
          × (wanted_by u (option_map (frames_for timing pace askers)
          (if not short && has then Some (single_frames timing units stays flow pace group) else None)) ≡ None)
      by_lengths true has = (refl, refl)
      by_lengths false true = (long flow.to, refl)
      by_lengths false false = (long flow.to, refl)

    of_flow : (flow : FlowPlan) (pace : Option Pace) (group : Option GroupPlan) → flow.pace ≡ pace → slice_get plan.groups.items flow.group ≡ group
        → AsWanted (load_of_flow timing plan stays flow)
    of_flow flow None group paced at = rw (paced) (refl, refl)
    of_flow flow (Some pace) None paced at = rw (paced, at) (refl, refl)
    of_flow flow (Some pace) (Some group) paced at = rw (paced, at)
        (by_lengths flow pace group (askers_of plan.requests.items flow) (is_always_short group) (has_short group))

    one : (flow : FlowPlan) → AsWanted (load_of_flow timing plan stays flow)
    one flow = of_flow flow flow.pace (slice_get plan.groups.items flow.group) refl refl

    -- ---- all flows

    own_wanted : (flows : List FlowPlan) → filter_map (wanted_by u) (map frames_of_flow (map (load_of_flow timing plan stays) flows))
        ≡ broadcasts_by u (map (load_of_flow timing plan stays) flows)
    own_wanted [] = refl
    own_wanted (flow ∷ flows) =
        ap (λ (o : Option Broadcast). cons_option o (filter_map (wanted_by u) (map frames_of_flow (map (load_of_flow timing plan stays) flows)))) (one flow).0
        ∙ ap (λ (bs : List Broadcast). cons_option (broadcast_by u (load_of_flow timing plan stays flow)) bs) (own_wanted flows)

    singles_wanted : (flows : List FlowPlan) → filter_map (wanted_by u) (map singles_of_flow (map (load_of_flow timing plan stays) flows)) ≡ []
    singles_wanted [] = refl
    singles_wanted (flow ∷ flows) =
        ap (λ (o : Option Broadcast). cons_option o (filter_map (wanted_by u) (map singles_of_flow (map (load_of_flow timing plan stays) flows)))) (one flow).1
        ∙ singles_wanted flows

    -- ---- all of it

    abbrev flow_loads : List (Option FlowLoad)
    flow_loads = loads_of timing plan stays

    abbrev unit_loads : List (Option UnitLoad)
    unit_loads = unit_loads_of timing units stays flow_loads

    abbrev request_loads : List (Option RequestLoad)
    request_loads = request_loads_of timing plan stays

    packets_wanted : filter_map (wanted_by u) (map packets_of_unit unit_loads) ≡ []
    packets_wanted = none_wanted (map packets_of_unit unit_loads) (All-map (λ (o : Option FlowFrames). IfSome o WantsNothing) packets_of_unit unit_loads
        (λ k d below. (of_units timing plan stays WantsNothing (λ pgn v gaps place. refl) flow_loads k d below).0))

    announcements_wanted : filter_map (wanted_by u) (map announcements_of_unit unit_loads) ≡ []
    announcements_wanted =
        none_wanted (map announcements_of_unit unit_loads) (All-map (λ (o : Option FlowFrames). IfSome o WantsNothing) announcements_of_unit unit_loads
        (λ k d below. (of_units timing plan stays WantsNothing (λ pgn v gaps place. refl) flow_loads k d below).1))

    requests_wanted : filter_map (wanted_by u) (map frames_of_request request_loads) ≡ []
    requests_wanted = none_wanted (map frames_of_request request_loads)
        (All-map (λ (o : Option FlowFrames). IfSome o WantsNothing) frames_of_request request_loads
        (λ k d below. of_requests timing plan stays WantsNothing (λ request period. refl) k d below))

    -- a list before those of which nothing is wanted
    before : (xs ys : List (Option FlowFrames)) (bs : List Broadcast) → filter_map (wanted_by u) xs ≡ bs → filter_map (wanted_by u) ys ≡ []
        → filter_map (wanted_by u) (xs ++ ys) ≡ bs
    before xs ys bs first none = filter_map-append (wanted_by u) xs ys
        ∙ (ap (λ (zs : List Broadcast). zs ++ filter_map (wanted_by u) ys) first ∙ (ap (λ (zs : List Broadcast). bs ++ zs) none ∙ append-nil bs))

    pub wanted_are_broadcasts : wants_of (frames_asked (asked_of timing plan stays) ++ damage_frames timing) u ≡ broadcasts_by u (loads_of timing plan stays)
    wanted_are_broadcasts =
        wants_with_damage u timing (frames_asked (asked_of timing plan stays))
        ∙ before (map frames_of_flow flow_loads)
        (map singles_of_flow flow_loads ++ (map packets_of_unit unit_loads ++ (map announcements_of_unit unit_loads ++ map frames_of_request request_loads)))
        (broadcasts_by u flow_loads) (own_wanted plan.flows.items)
        (before (map singles_of_flow flow_loads) (map packets_of_unit unit_loads
        ++ (map announcements_of_unit unit_loads ++ map frames_of_request request_loads))
        [] (singles_wanted plan.flows.items)
        (before (map packets_of_unit unit_loads) (map announcements_of_unit unit_loads ++ map frames_of_request request_loads) [] packets_wanted
        (before (map announcements_of_unit unit_loads) (map frames_of_request request_loads) [] announcements_wanted requests_wanted)))
