-- The fullest variants: those that lack nothing that another one has.
use Rattle.std.specs.declared.alloc.Global.{Global}
use Rattle.std.proofs.Common.{zero-le}
use Rattle.std.specs.Prelude.{◌≡◌, ℕ, ◌==◌, List, [], ◌∷◌, refl, Bool, true, false, ◌&&◌, ◌||◌, not, filter, is_some, length, map, nat_lt, if◌then◌else◌, Option, Some, None, Vec}
use Rattle.std.specs.List.{list_all, range_with_len, slice_get}
use Rattle.std.specs.Option.{option_map_or}
use Rattle.j39_load.specs.LineLists.{lines_of_each}
use Rattle.j39_network.specs.Serving.{meets, serves}
use Rattle.j39_network.specs.declared.plan.flow_plan.FlowPlan.{FlowPlan}
use Rattle.j39_network.specs.declared.plan.need_plan.NeedPlan.{NeedPlan}
use Rattle.j39_variants.specs.declared.line.Alternative.{Alternative}
use Rattle.j39_variants.specs.declared.line.Choice.{Choice}
use Rattle.j39_variants.specs.declared.line.ProductLine.{ProductLine}
use Rattle.j39_line_findings.specs.Boxes.{are_one_answer, do_overlap, flow_admits, is_one_alternative, admits, need_admits, request_admits}
use Rattle.j39_line_findings.specs.declared.full.FullAlternatives.{FullAlternatives}
use Rattle.j39_line_findings.specs.declared.full.LineNevers.{LineNevers}
use Rattle.j39_line_findings.specs.declared.full.LineNevers.TheVariants.{Kept, LeftOut}
use Rattle.j39_line_findings.specs.declared.part.LinePart.TheVariants.{Flow, Need, Request}

-- a line, or the same without its nevers
abbrev pub nevers_with : LineNevers → Vec (Vec Alternative Global) Global → Vec (Vec Alternative Global) Global
nevers_with Kept nevers = nevers
nevers_with LeftOut nevers = record nevers { len = 0; items = []; ok = (refl, zero-le) }

abbrev pub line_with : LineNevers → ProductLine → ProductLine
line_with nevers line = record line { nevers = nevers_with nevers line.nevers }

-- the alternatives of a choice, and of all choices, in order
abbrev pub alternative_at : ℕ → ℕ → Alternative
alternative_at c p = record { choice = c; place = p }

abbrev pub alternatives_of_choice : ℕ → Choice → List Alternative
alternatives_of_choice c choice = map (alternative_at c) (range_with_len 0 (length choice.alternatives.items))

abbrev pub alternatives_of : ProductLine → List Alternative
alternatives_of line = lines_of_each alternatives_of_choice 0 line.choices.items

-- each of these lists that has the first alternative has the second
abbrev pub do_keep : List (Vec Alternative Global) → Alternative → Alternative → Bool
do_keep lists a b = list_all (λ list. not (admits list.items a) || admits list.items b) lists

-- the second covers the first: with it everything is there that is there with the first, and nothing is left unbuilt that isn't
abbrev pub is_covered : ProductLine → Alternative → Alternative → Bool
is_covered line a b =
    do_keep line.lists.units.items a b && (do_keep line.lists.groups.items a b && (do_keep line.lists.flows.items a b
    && (do_keep line.lists.requests.items a b && do_keep line.nevers.items b a)))

-- ---- of a need

-- the flow brings what is needed, whether it is asked for or not
abbrev pub provides : NeedPlan → FlowPlan → Bool
provides need flow = meets [] need (record flow { on_request = false })

-- both alternatives are in the box of the answer of a flow to a request, or none is, where this box meets that of the need
abbrev pub agree_on_answer : ProductLine → List Alternative → ℕ → Alternative → Alternative → ℕ → FlowPlan → ℕ → Bool
agree_on_answer line alternatives d a b f flow r = option_map_or
    (λ request. not (serves request flow) || (not (do_overlap line alternatives (Need d) (Flow f) (Request r))
    || are_one_answer (flow_admits line a f && request_admits line a r) (flow_admits line b f && request_admits line b r)))
    (slice_get line.plan.requests.items r) true

abbrev pub agree_on_sending : ProductLine → List Alternative → ℕ → Alternative → Alternative → ℕ → Bool
agree_on_sending line alternatives d a b f =
    not (do_overlap line alternatives (Need d) (Flow f) (Flow f)) || are_one_answer (flow_admits line a f) (flow_admits line b f)

unfoldable pub agree_on_answers : ProductLine → List Alternative → ℕ → Alternative → Alternative → ℕ → FlowPlan → Bool
agree_on_answers line alternatives d a b f flow = list_all (agree_on_answer line alternatives d a b f flow) (range_with_len 0 (length line.plan.requests.items))

-- alike of a flow that brings what is needed, and of each of its answers where it is only asked for
abbrev pub agree_on_flow : ProductLine → List Alternative → ℕ → Alternative → Alternative → NeedPlan → ℕ → Bool
agree_on_flow line alternatives d a b need f = option_map_or
    (λ flow. not (provides need flow) || (if flow.on_request
    then agree_on_answers line alternatives d a b f flow
    else agree_on_sending line alternatives d a b f))
    (slice_get line.plan.flows.items f) true

unfoldable pub agree_on_flows : ProductLine → List Alternative → ℕ → Alternative → Alternative → NeedPlan → Bool
agree_on_flows line alternatives d a b need = list_all (agree_on_flow line alternatives d a b need) (range_with_len 0 (length line.plan.flows.items))

unfoldable pub agree_on_need : ProductLine → List Alternative → ℕ → Alternative → Alternative → Bool
agree_on_need line alternatives d a b = option_map_or (agree_on_flows line alternatives d a b) (slice_get line.plan.needs.items d) true

-- ---- full alternatives

-- the second covers the first, of a need where there is one
abbrev pub is_covered_for : ProductLine → List Alternative → Option ℕ → Alternative → Alternative → Bool
is_covered_for line alternatives None a b = is_covered line a b
is_covered_for line alternatives (Some d) a b = is_covered line a b && agree_on_need line alternatives d a b

-- the other one doesn't stand in the way of the first: it doesn't cover it, or it is covered by it and stands behind it
abbrev pub does_leave : ProductLine → List Alternative → Option ℕ → Alternative → Alternative → Bool
does_leave line alternatives need b a = not (a.choice == b.choice) || (is_one_alternative a b
    || (not (is_covered_for line alternatives need b a) || (is_covered_for line alternatives need a b && nat_lt b.place a.place)))

-- of these alternatives each other one that covers it is covered by it, and stands behind it
abbrev pub is_full_among : ProductLine → List Alternative → Option ℕ → List Alternative → Alternative → Bool
is_full_among line alternatives need these b = list_all (does_leave line alternatives need b) these

-- of a need those of its box are compared
abbrev pub does_need_admit : ProductLine → Option ℕ → Alternative → Bool
does_need_admit line None a = true
does_need_admit line (Some d) a = need_admits line a d

abbrev pub compared : ProductLine → List Alternative → Option ℕ → List Alternative
compared line alternatives need = filter (does_need_admit line need) alternatives

abbrev pub full_among : ProductLine → List Alternative → Option ℕ → List Alternative → List Alternative
full_among line alternatives need these = filter (is_full_among line alternatives need these) these

abbrev pub full_alternatives : ProductLine → List Alternative → Option ℕ → List Alternative
full_alternatives line alternatives need = full_among line alternatives need (compared line alternatives need)

-- those for a need, where it asks for an age
abbrev pub full_of_need : ProductLine → List Alternative → ℕ → NeedPlan → List Alternative
full_of_need line alternatives d need = if is_some need.within then full_alternatives line alternatives (Some d) else []

-- the full alternatives of a line, and those that are full for each need
pub record AreFullAlternatives (line : ProductLine) (full : FullAlternatives) : Type 0 where
  pub has_all : full.all.items ≡ full_alternatives line (alternatives_of line) None
  pub has_needs : map (λ list. list.items) full.of_needs.items
      ≡ lines_of_each (λ d need. full_of_need line (alternatives_of line) d need ∷ []) 0 line.plan.needs.items
