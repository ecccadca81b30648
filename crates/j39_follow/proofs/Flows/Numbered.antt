-- Groups of a number: what stands outside of their span is none.
use Rattle.std.proofs.Common.{◌≡◌, ◌≤◌, ◌<◌, ◌⊎◌, ℕ, false, List, [], ◌∷◌, inl, arith, sym, ◌∙◌, Some, None, length, get_or, ap}
use Rattle.std.specs.List.{position}
use Rattle.std.proofs.Common.{eq-eqb}
use Rattle.std.proofs.lemmas.Option.{get_or_from_slice_get, slice_get_within}
use Rattle.std.proofs.lemmas.Bool.{false≢true}
use Rattle.j39_network.specs.declared.plan.Plan.{Plan}
use Rattle.j39_network.specs.declared.plan.group_plan.GroupPlan.{GroupPlan}
use Rattle.j39_log.specs.declared.catalog.Span.{Span}
use Rattle.j39_log.specs.GroupSpans.{HasAllOf, IsSpanOf, has_number}
use Rattle.j39_log.proofs.Indexes.{first_place, no_place}
use Rattle.j39_follow.specs.Fits.{MayBeGroup}
use Rattle.j39_follow.specs.declared.flow.sending.Sending.{Sending}

-- a group of another number
unnumbered : (plan : Plan) (pgn : ℕ) (bytes : List ℕ) (sent : Sending) (place : ℕ)
    → ((d : GroupPlan) → place < length plan.groups.items → has_number pgn (get_or plan.groups.items place d) ≡ false)
    → ¬ MayBeGroup plan pgn bytes sent place
unnumbered plan pgn bytes sent place other may =
    let groups = plan.groups.items in
    let within = slice_get_within groups place may.value may.value_is in
    let is = get_or_from_slice_get groups place may.value may.value may.value_is in
    false≢true (sym (other may.value within) ∙ ap (has_number pgn) is ∙ eq-eqb may.value.pgn pgn may.meets.number)

pub not_outside : (plan : Plan) (pgn : ℕ) (bytes : List ℕ) (sent : Sending) (span : Span) → HasAllOf plan.groups.items pgn span → (place : ℕ)
    → (place < span.first) ⊎ (span.end ≤ place) → ¬ MayBeGroup plan pgn bytes sent place
not_outside plan pgn bytes sent span all place out = unnumbered plan pgn bytes sent place (λ d less. all.others place d less out)

pub none_numbered : (plan : Plan) (pgn : ℕ) (bytes : List ℕ) (sent : Sending) → IsSpanOf plan.groups.items pgn None → (place : ℕ)
    → ¬ MayBeGroup plan pgn bytes sent place
none_numbered plan pgn bytes sent none place = unnumbered plan pgn bytes sent place (λ d less. none place d less)

-- ---- the first group of a number

one_of : (groups : List GroupPlan) (n : ℕ) → n < length groups → GroupPlan
one_of [] n less = absurd (omega arith)
one_of (group ∷ groups) n less = group

pub first_of_span : (groups : List GroupPlan) (pgn : ℕ) (span : Span) → HasAllOf groups pgn span → position (has_number pgn) groups ≡ Some span.first
first_of_span groups pgn span all =
    let some = all.some in
    let inside = all.inside in
    let less : span.first < length groups = omega (arith, some, inside) in
    let d = one_of groups span.first less in
    first_place (has_number pgn) span.first groups d less (all.begins d)
    (λ k d below. all.others k d (omega (arith, below, some, inside)) (inl below))

pub no_first : (groups : List GroupPlan) (pgn : ℕ) → IsSpanOf groups pgn None → position (has_number pgn) groups ≡ None
no_first groups pgn none = no_place (has_number pgn) groups none
