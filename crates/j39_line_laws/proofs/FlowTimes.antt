-- The times of flows, and the load, are no worse in a variant than in one that covers it.
use Rattle.std.proofs.Common.{◌≡◌, ℕ, ◌<◌, ◌≤◌, Bool, false, List, length, slice_index_or, Option, Some, None, option_map, refl, sym, ◌∙◌, ap, subst, arith}
use Rattle.std.specs.List.{range_with_len, slice_get}
use Rattle.std.specs.Option.{option_map_or}
use Rattle.std.proofs.lemmas.List.{length-map}
use Rattle.std.proofs.lemmas.Option.{get_or_from_slice_get, none-some, same_Some, slice_get_within}
use Rattle.j39_network.specs.declared.plan.Plan.{Plan}
use Rattle.j39_network.specs.declared.plan.timing.Timing.{Timing}
use Rattle.j39_load.specs.Asked.{asked_of, total_load}
use Rattle.j39_load.specs.BusTimes.{timing_of, with_claims}
use Rattle.j39_load.specs.LiveClaims.{unplanned_of}
use Rattle.j39_load.specs.LoadFindings.{AsksOfBus}
use Rattle.j39_load.specs.FlowLoads.{load_of_flow}
use Rattle.j39_load.specs.inside.FewClaims.{few_unplanned}
use Rattle.j39_variants.specs.VariantPlans.{flags, group_places, moved_flow, picked, unit_places}
use Rattle.j39_variants.specs.declared.line.ProductLine.{ProductLine}
use Rattle.j39_part_laws.specs.PartLoads.{HasGoodNumbers}
use Rattle.j39_part_laws.specs.PlanParts.{IsPartAt, Places}
use Rattle.j39_part_laws.proofs.LoadFindings.{delay_there, unplanned_there}
use Rattle.j39_part_laws.proofs.Loads.{ask_no_more}
use Rattle.j39_part_laws.proofs.Places.{value_at}
use Rattle.j39_line_laws.specs.Covering.{IsCoveredBy}
use Rattle.j39_line_laws.proofs.Parts.{at, is_part_at}
use Rattle.j39_line_laws.proofs.Picking.{kept, some_picked}
use Rattle.j39_line_laws.proofs.PlacesInFile.{flow_flags_fewer, flows_flagged, length-range}
use Rattle.j39_line_bounds.specs.LineTimes.{AreVariantTimes, flow_badness, flow_time, is_less_bad, place_in_variant, time_of_flow}
use Rattle.j39_line_bounds.specs.declared.times.FlowTime.TheVariants as flow
use Rattle.j39_line_bounds.specs.declared.times.LineTimes.{LineTimes}
use Rattle.j39_line_laws.proofs.Origins.{one_place_each}
use Rattle.j39_line_laws.proofs.Badness.{flow_no_worse, nothing_less}
use Rattle.j39_line_laws.proofs.BoundPlaces.{found_at, is_found_at, made_at}

module _ (line : ProductLine) (v w : List ℕ) (covered : IsCoveredBy line v w) (times reported : LineTimes) (are : AreVariantTimes line v times)
    (also : AreVariantTimes line w reported) (good : HasGoodNumbers also.plan) where
  abbrev part : Plan
  part = are.plan

  abbrev whole : Plan
  whole = also.plan

  abbrev pub p : Places
  p = at line v w covered

  pub is_part : IsPartAt p part whole
  is_part = is_part_at line v w covered part whole are.is_plan also.is_plan

  -- what is known of the bus of both
  pub record KnowsBus : Type 0 where
    pub timing : Timing
    pub here_is : are.timing ≡ with_claims part timing
    pub there_is : also.timing ≡ with_claims whole timing

  pub bus : KnowsBus
  unfolding timing_of
  bus = go part.timing refl are.timed
    where
      go : (o : Option Timing) → part.timing ≡ o → option_map (with_claims part) o ≡ Some are.timing → KnowsBus
      go None is_o none = absurd (none-some are.timing none)
      go (Some timing) is_o some = record {
        timing = timing;
        here_is = sym (same_Some (with_claims part timing) are.timing some);
        there_is = same_Some also.timing (with_claims whole timing)
            (sym also.timed ∙ ap (option_map (with_claims whole)) (sym is_part.timing ∙ is_o));
      }

  abbrev pub here_timing : Timing
  here_timing = with_claims part bus.timing

  abbrev pub there_timing : Timing
  there_timing = with_claims whole bus.timing

  pub asks_here : AsksOfBus part here_timing are.stays are.delays
  asks_here = subst (λ t. AsksOfBus part t are.stays are.delays) bus.here_is are.asks

  pub asks_there : AsksOfBus whole there_timing also.stays also.delays
  asks_there = subst (λ t. AsksOfBus whole t also.stays also.delays) bus.there_is also.asks

  -- ---- the load

  pub load_no_more : times.load ≤ reported.load
  load_no_more =
      let more = (ask_no_more p part whole is_part good here_timing also.stays are.stays asks_there.standing asks_here.standing (unplanned_of whole bus.timing)
      (few_unplanned whole bus.timing) (unplanned_there p part whole is_part bus.timing)).load in
      let here = are.load ∙ ap (λ t. total_load t (asked_of t part are.stays)) bus.here_is in
      let there = also.load ∙ ap (λ t. total_load t (asked_of t whole also.stays)) bus.there_is in
      subst (λ n. n ≤ reported.load) (sym here) (subst (λ n. total_load here_timing (asked_of here_timing part are.stays) ≤ n) (sym there) more)

  -- ---- flows

  abbrev n : ℕ
  n = length line.plan.flows.items

  abbrev here_flags : List Bool
  here_flags = kept (moved_flow (unit_places line v) (group_places line v)) (flags v line.lists.flows.items) line.plan.flows.items

  abbrev there_flags : List Bool
  there_flags = kept (moved_flow (unit_places line w) (group_places line w)) (flags w line.lists.flows.items) line.plan.flows.items

  here_places : are.there.flows.items ≡ picked here_flags (range_with_len 0 n)
  here_places = are.is_there.has_flows ∙ flows_flagged line v w covered part are.is_plan are.there also.there are.is_there also.is_there v

  there_places : also.there.flows.items ≡ picked there_flags (range_with_len 0 n)
  there_places = also.is_there.has_flows ∙ flows_flagged line v w covered part are.is_plan are.there also.there are.is_there also.is_there w

  reported_here : (f i : ℕ) → place_in_variant are.there.flows.items f ≡ Some i
      → is_less_bad (flow_badness (flow_time also.there.flows.items also.delays f)) (flow_badness (flow_time are.there.flows.items are.delays f)) ≡ false
  reported_here f i is_i =
      let place = ap (λ l. slice_get l i) (sym here_places) ∙ found_at are.there.flows.items i f is_i in
      let (y, made) = made_at (moved_flow (unit_places line v) (group_places line v)) (flags v line.lists.flows.items) line.plan.flows.items
      (range_with_len 0 n)
      (sym (length-range 0 n)) i f place in
      let below = slice_get_within part.flows.items i y (ap (λ l. slice_get l i) are.is_plan.has_flows ∙ made) in
      let count = asks_here.waits.count in
      let flows = length-map part.flows.items (load_of_flow here_timing part are.stays) in
      let (d, at_d) = value_at are.delays i (omega (arith, below, count, flows)) in
      let (e, at_e, no_later, inside) = delay_there p part whole is_part good here_timing (unplanned_of whole bus.timing) (few_unplanned whole bus.timing)
      (unplanned_there p part whole is_part bus.timing) are.stays also.stays are.delays also.delays asks_here asks_there i d at_d in
      let fewer = flow_flags_fewer line v w covered part are.is_plan are.there also.there are.is_there also.is_there in
      let stands = (some_picked here_flags there_flags (range_with_len 0 n) fewer).each i f place in
      let there_at : slice_get (picked there_flags (range_with_len 0 n)) (p.flow i) ≡ Some f = stands.value_is ∙ ap Some (sym stands.meets) in
      let (j, is_j, at_j) = is_found_at also.there.flows.items (p.flow i) f (ap (λ l. slice_get l (p.flow i)) there_places ∙ there_at) in
      let same : j ≡ p.flow i = one_place_each there_flags 0 n j (p.flow i) f (ap (λ l. slice_get l j) (sym there_places) ∙ at_j) there_at in
      let time_here : flow_time are.there.flows.items are.delays f ≡ flow.Reported d =
      ap (λ o. option_map_or (λ k. flow.Reported (slice_index_or are.delays k None)) o flow.NoVariant) is_i
      ∙ ap flow.Reported (get_or_from_slice_get are.delays i d None at_d) in
      let time_there : flow_time also.there.flows.items also.delays f ≡ flow.Reported e =
      ap (λ o. option_map_or (λ k. flow.Reported (slice_index_or also.delays k None)) o flow.NoVariant) (is_j ∙ ap Some same)
      ∙ ap flow.Reported (get_or_from_slice_get also.delays (p.flow i) e None at_e) in
      ap (λ t. is_less_bad (flow_badness t) (flow_badness (flow_time are.there.flows.items are.delays f))) time_there
      ∙ ap (λ t. is_less_bad (flow_badness (flow.Reported e)) (flow_badness t)) time_here ∙ flow_no_worse d e no_later

  pub flow_as_bad : (f : ℕ) → f < n → is_less_bad (flow_badness (time_of_flow reported f)) (flow_badness (time_of_flow times f)) ≡ false
  flow_as_bad f below =
      ap (λ t. is_less_bad (flow_badness t) (flow_badness (time_of_flow times f))) (also.flows f below)
      ∙ ap (λ t. is_less_bad (flow_badness (flow_time also.there.flows.items also.delays f)) (flow_badness t)) (are.flows f below)
      ∙ go (place_in_variant are.there.flows.items f) refl
    where
      go : (o : Option ℕ) → place_in_variant are.there.flows.items f ≡ o
          → is_less_bad (flow_badness (flow_time also.there.flows.items also.delays f)) (flow_badness (flow_time are.there.flows.items are.delays f)) ≡ false
      go None is_o =
          ap (λ o. is_less_bad (flow_badness (flow_time also.there.flows.items also.delays f))
          (flow_badness (option_map_or (λ k. flow.Reported (slice_index_or are.delays k None)) o flow.NoVariant))) is_o
          ∙ nothing_less (flow_badness (flow_time also.there.flows.items also.delays f)).degree
          (flow_badness (flow_time also.there.flows.items also.delays f)).time
      go (Some i) is_o = reported_here f i is_o
