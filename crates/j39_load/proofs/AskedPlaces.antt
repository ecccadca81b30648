-- What stands at the places of flows and of requests among all frames that a plan asks for.
use Rattle.std.proofs.Common.{◌≡◌, ℕ, ◌+◌, ◌*◌, List, ◌++◌, length, get_or, map, Option, Some, None, option_map, sym, ap, ◌∙◌, arith}
use Rattle.std.proofs.lemmas.List.{get_or-append-add, get_or_append_left, length-map}
use Rattle.std.proofs.lemmas.Option.{get_or_from_slice_get, slice_get-map, slice_get_within}
use Rattle.std.specs.List.{slice_get}
use Rattle.j39_load.specs.declared.frames.flow_frames.FlowFrames.{FlowFrames}
use Rattle.j39_load.specs.declared.loads.flow_load.FlowLoad.{FlowLoad}
use Rattle.j39_load.specs.declared.loads.request_load.RequestLoad.{RequestLoad}
use Rattle.j39_load.specs.declared.loads.unit_load.UnitLoad.{UnitLoad}
use Rattle.j39_load.specs.Asked.{all_frames, announcements_of_unit, frames_of_flow, frames_of_request, own_frames, packets_of_unit, singles_of_flow}

module _ (flows : List (Option FlowLoad)) (units : List (Option UnitLoad)) (requests : List (Option RequestLoad)) where
  -- at a flow's place stand its own frames
  pub flow_read : (f : ℕ) (load : FlowLoad) (frames : FlowFrames) → slice_get flows f ≡ Some (Some load) → own_frames load.messages ≡ Some frames
      → get_or (all_frames flows units requests) f None ≡ Some frames
  flow_read f load frames its own =
      let below = slice_get_within flows f (Some load) its in
      let front : get_or (all_frames flows units requests) f None ≡ get_or (map frames_of_flow flows) f None =
      get_or_append_left (map frames_of_flow flows)
      (map singles_of_flow flows ++ (map packets_of_unit units ++ (map announcements_of_unit units ++ map frames_of_request requests))) None f
      (omega (arith, below, length-map flows frames_of_flow)) in
      let there : get_or (map frames_of_flow flows) f None ≡ frames_of_flow (Some load) =
      get_or_from_slice_get (map frames_of_flow flows) f (frames_of_flow (Some load)) None
      (slice_get-map frames_of_flow flows f ∙ ap (option_map frames_of_flow) its) in
      front ∙ (there ∙ own)

  -- behind the flows stand, in as many places, single frames of those that have long messages too
  pub singles_read : (f : ℕ) (load : FlowLoad) (frames : FlowFrames) → slice_get flows f ≡ Some (Some load) → load.singles ≡ Some frames
      → get_or (all_frames flows units requests) (length flows + f) None ≡ Some frames
  singles_read f load frames its own =
      let below = slice_get_within flows f (Some load) its in
      let there : get_or (map singles_of_flow flows) f None ≡ singles_of_flow (Some load) =
      get_or_from_slice_get (map singles_of_flow flows) f (singles_of_flow (Some load)) None
      (slice_get-map singles_of_flow flows f ∙ ap (option_map singles_of_flow) its) in
      let place : length (map frames_of_flow flows) + f ≡ length flows + f = omega (arith, length-map flows frames_of_flow) in
      ap (λ (k : ℕ). get_or (all_frames flows units requests) k None) (sym place)
      ∙ (get_or-append-add (map frames_of_flow flows)
      (map singles_of_flow flows ++ (map packets_of_unit units ++ (map announcements_of_unit units ++ map frames_of_request requests))) f None
      ∙ (get_or_append_left (map singles_of_flow flows) (map packets_of_unit units
      ++ (map announcements_of_unit units ++ map frames_of_request requests)) None f
      (omega (arith, below, length-map flows singles_of_flow))
      ∙ (there ∙ own)))

  -- behind the lists of flows and units stand those of requests
  pub request_read : (r : ℕ) (load : RequestLoad) → slice_get requests r ≡ Some (Some load)
      → get_or (all_frames flows units requests) (2 * length flows + (2 * length units + r)) None ≡ Some load.frames
  request_read r load its =
      let there : get_or (map frames_of_request requests) r None ≡ frames_of_request (Some load) =
      get_or_from_slice_get (map frames_of_request requests) r (frames_of_request (Some load)) None
      (slice_get-map frames_of_request requests r ∙ ap (option_map frames_of_request) its) in
      let place : length (map frames_of_flow flows) + (length (map singles_of_flow flows)
      + (length (map packets_of_unit units) + (length (map announcements_of_unit units) + r)))
      ≡ 2 * length flows + (2 * length units + r) =
      omega (
        arith,
        length-map flows frames_of_flow,
        length-map flows singles_of_flow,
        length-map units packets_of_unit,
        length-map units announcements_of_unit,
      ) in
      ap (λ (k : ℕ). get_or (all_frames flows units requests) k None) (sym place)
      ∙ (get_or-append-add (map frames_of_flow flows)
      (map singles_of_flow flows ++ (map packets_of_unit units ++ (map announcements_of_unit units ++ map frames_of_request requests)))
      (length (map singles_of_flow flows) + (length (map packets_of_unit units) + (length (map announcements_of_unit units) + r))) None
      ∙ (get_or-append-add (map singles_of_flow flows) (map packets_of_unit units ++ (map announcements_of_unit units ++ map frames_of_request requests))
      (length (map packets_of_unit units) + (length (map announcements_of_unit units) + r)) None
      ∙ (get_or-append-add (map packets_of_unit units) (map announcements_of_unit units ++ map frames_of_request requests)
      (length (map announcements_of_unit units) + r) None
      ∙ (get_or-append-add (map announcements_of_unit units) (map frames_of_request requests) r None
      ∙ there))))
