-- What bounds full variants bounds all possible ones.
use Rattle.std.proofs.Common.{ℕ, List, ◌∙◌, ap, inl, inr, arith}
use Rattle.std.proofs.lemmas.Bool.{cases_Bool}
use Rattle.j39_variants.specs.declared.line.ProductLine.{ProductLine}
use Rattle.j39_line_findings.specs.FullVariants.{line_with}
use Rattle.j39_line_findings.specs.MissedNeeds.{is_need_asked_for}
use Rattle.j39_line_findings.specs.declared.full.LineNevers.{LineNevers}
use Rattle.j39_part_laws.proofs.Places.{value_at}
use Rattle.j39_line_bounds.specs.LineTimes.{AreVariantTimes, flow_badness, is_less_bad, need_badness, time_of_flow, time_of_need}
use Rattle.j39_line_bounds.specs.declared.times.LineTimes.{LineTimes}
use Rattle.j39_line_laws.proofs.FoundOfFull.{full_cover}
use Rattle.j39_line_laws.proofs.OldNeeds.{has_full_for_need}
use Rattle.j39_line_laws.proofs.WithoutNevers.{plan_to, possible_to, there_to}
use Rattle.j39_line_laws.specs.TimesOfFull.{FlowsOfFullBoundAll, NeedsOfFullBoundAll}
use Rattle.j39_line_laws.proofs.Badness.{no_worse_through, nothing_less}
use Rattle.j39_line_laws.proofs.FlowTimes.{flow_as_bad, load_no_more}
use Rattle.j39_line_laws.proofs.NeedTimes.{need_as_bad, not_asked}

times_to : (line : ProductLine) (nevers : LineNevers) (v : List ℕ) (times : LineTimes) → AreVariantTimes line v times
    → AreVariantTimes (line_with nevers line) v times
times_to line nevers v times are = record {
  there = are.there;
  is_there = there_to line nevers v are.there are.is_there;
  plan = are.plan;
  is_plan = plan_to line nevers v are.plan are.is_plan;
  timing = are.timing;
  timed = are.timed;
  stays = are.stays;
  delays = are.delays;
  asks = are.asks;
  flow_count = are.flow_count;
  flows = are.flows;
  need_count = are.need_count;
  needs = are.needs;
  load = are.load;
}

pub flows_bound_all : (line : ProductLine) (nevers : LineNevers) → FlowsOfFullBoundAll line nevers
unfolding times_to
flows_bound_all line nevers reported each v possible times are =
    let bare = line_with nevers line in
    let (w, full, covered) = full_cover bare v (possible_to line nevers v possible) in
    let its = each w full in
    let here = times_to line nevers v times are in
    let there = times_to line nevers w its.times its.are_times in
    let load = load_no_more bare v w covered times its.times here there its.good in
    let more = its.no_worse.load in
    record {
      flows = λ f below.
          no_worse_through (flow_badness (time_of_flow reported f)).degree (flow_badness (time_of_flow reported f)).time
          (flow_badness (time_of_flow its.times f)).degree (flow_badness (time_of_flow its.times f)).time
          (flow_badness (time_of_flow times f)).degree (flow_badness (time_of_flow times f)).time (its.no_worse.flows f below)
          (flow_as_bad bare v w covered times its.times here there its.good f below);
      load = omega (arith, load, more);
    }

pub needs_bound_all : (line : ProductLine) (nevers : LineNevers) → NeedsOfFullBoundAll line nevers
unfolding times_to
needs_bound_all line nevers reported d below each v possible times are = elim (cases_Bool (is_need_asked_for line v d)) [
  | inr none ↦
      ap (λ t. is_less_bad (need_badness (time_of_need reported d)) (need_badness t)) (are.needs d below ∙ not_asked line v times are d none)
      ∙ nothing_less (need_badness (time_of_need reported d)).degree (need_badness (time_of_need reported d)).time
  | inl asked ↦
      let bare = line_with nevers line in
      let also = possible_to line nevers v possible in
      let full = has_full_for_need bare v also d asked in
      let its = each full.variant full.full in
      let (x, at_d) = value_at line.plan.needs.items d below in
      no_worse_through (need_badness (time_of_need reported d)).degree (need_badness (time_of_need reported d)).time
      (need_badness (time_of_need its.times d)).degree (need_badness (time_of_need its.times d)).time
      (need_badness (time_of_need times d)).degree (need_badness (time_of_need times d)).time its.no_worse
      (need_as_bad bare v full.variant also.is_variant full.full.possible.is_variant d full.covered full.full.asked x at_d times its.times
      (times_to line nevers v times are) (times_to line nevers full.variant its.times its.are_times) its.good asked below)
]
