-- The list of findings has exactly what holds, in order.
use Rattle.std.proofs.Common.{◌≡◌, ℕ, true, ◌<◌, ◌⊎◌, List, [], ◌∷◌, ◌++◌, Some, Contains, if◌then◌else◌, refl, sym, ap, ◌∙◌, ◌+◌, subst, inl, inr, arith}
use Rattle.std.specs.List.{slice_get}
use Rattle.std.proofs.lemmas.Bool.Decides.{Decides-ltb}
use Rattle.std.proofs.lemmas.List.Elements.{Contains-append_left, Contains-append_right}
use Rattle.j39_signal.specs.Places.{WidthFits, SharesBit}
use Rattle.j39_network.specs.declared.plan.Plan.{Plan}
use Rattle.j39_network.specs.declared.plan.group_plan.GroupPlan.{GroupPlan}
use Rattle.j39_findings.specs.declared.checking.finding.Finding.{Finding}
use Rattle.j39_findings.specs.declared.checking.finding.Finding.TheVariants.{SameName, SameFixedAddress, TooFewAddresses, BadPgn, SamePgn, SignalWidth}
use Rattle.j39_findings.specs.declared.checking.finding.Finding.TheVariants.{SignalOutside, SignalOverlap, FlowToOne, FlowToSelf, FlowRepeated, KeptAddress}
use Rattle.j39_findings.specs.declared.checking.finding.Finding.TheVariants.{PrivateUnsent, RecordOverlap, TextOutside, NeedUnmet, RequestUnanswered}
use Rattle.j39_findings.specs.declared.checking.finding.Finding.TheVariants.{RequestUnheard, AnswerAstray, WhenOutside, RequestRepeated, SilentAddress}
use Rattle.j39_findings.specs.declared.checking.finding.Finding.TheVariants.{SilentInPool, FlowContested}
use Rattle.j39_search.specs.ListPlaces.{in_each, each, pairs}
use Rattle.j39_claim.specs.AddressSets.{free_count}
use Rattle.j39_network.specs.Kinds.{MayBeOne, may_be_one}
use Rattle.j39_findings.specs.Findings.{HaveSameFixedAddress, HasBadPgn, HaveSamePgn, CannotGoToOne, EndsOutside, GoesToItsSender, PrefersKept}
use Rattle.j39_network.specs.PlannedFlows.{AreOneFlow}
use Rattle.j39_findings.specs.Findings.{IsPrivateUnsent, IsOutside, IsUnmet, Holds, IsBefore, AreFindings, Clean, GoesUnanswered, GoesUnheard, IsAnsweredAstray}
use Rattle.j39_findings.specs.Findings.{AskTheSame, HaveSilentAddress, IsSilentInPool, IsFlowContested}
use Rattle.j39_findings.specs.Found.{goes_unanswered, goes_unheard, is_answered_astray, is_selector_outside, ask_the_same, request_findings}
use Rattle.j39_findings.specs.Found.{have_same_fixed_address, needed_addresses, too_few_addresses, unit_findings, has_bad_pgn, have_same_pgn, group_findings}
use Rattle.j39_findings.specs.Found.{width_findings, outside_findings, overlap_findings, signal_findings, cannot_go_to_one, goes_to_its_sender, are_one_flow}
use Rattle.j39_findings.specs.Found.{flow_findings, prefers_kept, kept_findings, is_private_unsent, unsent_findings, group_overlaps, record_findings}
use Rattle.j39_findings.specs.Found.{outside_text_findings, text_findings, is_unmet, need_findings, found, have_silent_address, is_silent_in_pool}
use Rattle.j39_findings.specs.Found.{silent_findings, contested_findings, is_unit_alone, is_contested}
use Rattle.j39_network.specs.PlannedGroups.{IsSelectorInside}
use Rattle.j39_findings.proofs.Meeting.{group_overlaps_of}
use Rattle.j39_search.proofs.Members.{in_each_of, found_if_of, each_of, pairs_of}
use Rattle.j39_search.proofs.Rising.{AllPairs-from_Rises}
use Rattle.j39_network.proofs.Served.{Decides-may_be_one}
use Rattle.j39_findings.proofs.Deciding.{Decides-have_same_fixed_address, Decides-needs_pool_address, Decides-has_bad_pgn}
use Rattle.j39_search.proofs.Deciding.{meeting_pass}
use Rattle.j39_findings.proofs.Deciding.{Decides-have_silent_address, Decides-is_silent_in_pool, Decides-have_same_pgn, Decides-has_other_width}
use Rattle.j39_findings.proofs.Deciding.{Decides-ends_outside, Decides-shares_bit, Decides-cannot_go_to_one, Decides-goes_to_its_sender, Decides-are_one_flow}
use Rattle.j39_findings.proofs.Deciding.{Decides-prefers_kept, Decides-is_private_unsent, Decides-lies_outside, Decides-is_unmet, Decides-goes_unanswered}
use Rattle.j39_findings.proofs.Deciding.{Decides-goes_unheard, Decides-is_answered_astray, Decides-ask_the_same, Decides-is_selector_outside}
use Rattle.j39_search.proofs.Families.{Covers-append}
use Rattle.j39_findings.proofs.Families.{Covers, in_order, units_covered, groups_covered, signals_covered, flows_covered, kept_covered, unsent_covered}
use Rattle.j39_findings.proofs.Families.{records_covered, texts_covered, needs_covered, requests_covered, silent_covered, contested_covered}
use Rattle.j39_findings.proofs.WhoIsAlone.{alone_by_list, Decides-contested}

found_covered : (plan : Plan) → Covers plan 1 28 (found plan)
unfolding found
found_covered plan =
    Covers-append in_order (Holds plan) 1 3 4 28 _ _ (omega arith) (omega arith) (omega arith) (units_covered plan)
    (Covers-append in_order (Holds plan) 4 5 6 28 _ _ (omega arith) (omega arith) (omega arith) (groups_covered plan)
    (Covers-append in_order (Holds plan) 6 8 9 28 _ _ (omega arith) (omega arith) (omega arith) (signals_covered plan)
    (Covers-append in_order (Holds plan) 9 11 12 28 _ _ (omega arith) (omega arith) (omega arith) (flows_covered plan)
    (Covers-append in_order (Holds plan) 12 12 13 28 _ _ (omega arith) (omega arith) (omega arith) (kept_covered plan)
    (Covers-append in_order (Holds plan) 13 13 14 28 _ _ (omega arith) (omega arith) (omega arith) (unsent_covered plan)
    (Covers-append in_order (Holds plan) 14 14 15 28 _ _ (omega arith) (omega arith) (omega arith) (records_covered plan)
    (Covers-append in_order (Holds plan) 15 15 19 28 _ _ (omega arith) (omega arith) (omega arith) (texts_covered plan)
    (Covers-append in_order (Holds plan) 19 19 21 28 _ _ (omega arith) (omega arith) (omega arith) (needs_covered plan)
    (Covers-append in_order (Holds plan) 21 25 26 28 _ _ (omega arith) (omega arith) (omega arith) (requests_covered plan)
    (Covers-append in_order (Holds plan) 26 27 28 28 _ _ (omega arith) (omega arith) (omega arith) (silent_covered plan) (contested_covered plan)))))))))))

in_units : (plan : Plan) (f : Finding) → Contains (unit_findings plan.keep_free plan.strangers plan.units.items) f → Contains (found plan) f
unfolding found
in_units plan f h = Contains-append_left (unit_findings plan.keep_free plan.strangers plan.units.items) _ f h

in_groups : (plan : Plan) (f : Finding) → Contains (group_findings plan.groups.items plan.flows.items) f → Contains (found plan) f
unfolding found
in_groups plan f h =
    Contains-append_right (unit_findings plan.keep_free plan.strangers plan.units.items) _ f
    (Contains-append_left (group_findings plan.groups.items plan.flows.items) _ f h)

in_signals : (plan : Plan) (f : Finding) → Contains (signal_findings plan.groups.items) f → Contains (found plan) f
unfolding found
in_signals plan f h =
    Contains-append_right (unit_findings plan.keep_free plan.strangers plan.units.items) _ f
    (Contains-append_right (group_findings plan.groups.items plan.flows.items) _ f (Contains-append_left (signal_findings plan.groups.items) _ f h))

-- the findings of the flows, and those behind them
abbrev pub rest : Plan → List Finding
rest plan =
    flow_findings plan.groups.items plan.flows.items
    ++ (kept_findings plan.keep_free plan.units.items
    ++ (unsent_findings plan.groups.items plan.flows.items
    ++ (record_findings plan.groups.items ++ (text_findings plan.groups.items
    ++ (need_findings plan.requests.items plan.flows.items plan.needs.items
    ++ (request_findings plan.groups.items plan.flows.items plan.requests.items
    ++ (silent_findings plan.keep_free plan.strangers plan.units.items
    ++ contested_findings plan.live plan.keep_free plan.strangers plan.units.items plan.flows.items)))))))

in_rest : (plan : Plan) (f : Finding) → Contains (rest plan) f → Contains (found plan) f
unfolding found
in_rest plan f h =
    Contains-append_right (unit_findings plan.keep_free plan.strangers plan.units.items) _ f
    (Contains-append_right (group_findings plan.groups.items plan.flows.items) _ f (Contains-append_right (signal_findings plan.groups.items) _ f h))

in_flows : (plan : Plan) (f : Finding) → Contains (flow_findings plan.groups.items plan.flows.items) f → Contains (found plan) f
in_flows plan f h = in_rest plan f (Contains-append_left (flow_findings plan.groups.items plan.flows.items) _ f h)

kept_found : (plan : Plan) (f : Finding) → Contains (each (prefers_kept plan.keep_free) KeptAddress 0 plan.units.items) f → Contains (found plan) f
unfolding kept_findings
kept_found plan f h =
    in_rest plan f (Contains-append_right (flow_findings plan.groups.items plan.flows.items) _ f
    (Contains-append_left (kept_findings plan.keep_free plan.units.items) _ f h))

unsent_found : (plan : Plan) (f : Finding)
    → Contains (each (is_private_unsent plan.groups.items plan.flows.items) PrivateUnsent 0 plan.groups.items) f → Contains (found plan) f
unfolding unsent_findings
unsent_found plan f h =
    in_rest plan f (Contains-append_right (flow_findings plan.groups.items plan.flows.items) _ f
    (Contains-append_right (kept_findings plan.keep_free plan.units.items) _ f
    (Contains-append_left (unsent_findings plan.groups.items plan.flows.items) _ f h)))

record_found : (plan : Plan) (f : Finding) → Contains (in_each group_overlaps 0 plan.groups.items) f → Contains (found plan) f
unfolding record_findings
record_found plan f h =
    in_rest plan f (Contains-append_right (flow_findings plan.groups.items plan.flows.items) _ f
    (Contains-append_right (kept_findings plan.keep_free plan.units.items) _ f
    (Contains-append_right (unsent_findings plan.groups.items plan.flows.items) _ f
    (Contains-append_left (record_findings plan.groups.items) _ f h))))

text_found : (plan : Plan) (f : Finding) → Contains (in_each outside_text_findings 0 plan.groups.items) f → Contains (found plan) f
unfolding text_findings
text_found plan f h =
    in_rest plan f (Contains-append_right (flow_findings plan.groups.items plan.flows.items) _ f
    (Contains-append_right (kept_findings plan.keep_free plan.units.items) _ f
    (Contains-append_right (unsent_findings plan.groups.items plan.flows.items) _ f
    (Contains-append_right (record_findings plan.groups.items) _ f (Contains-append_left (text_findings plan.groups.items) _ f h)))))

need_found : (plan : Plan) (f : Finding)
    → Contains (each (is_unmet plan.requests.items plan.flows.items) NeedUnmet 0 plan.needs.items) f → Contains (found plan) f
unfolding need_findings
need_found plan f h =
    in_rest plan f (Contains-append_right (flow_findings plan.groups.items plan.flows.items) _ f
    (Contains-append_right (kept_findings plan.keep_free plan.units.items) _ f
    (Contains-append_right (unsent_findings plan.groups.items plan.flows.items) _ f
    (Contains-append_right (record_findings plan.groups.items) _ f
    (Contains-append_right (text_findings plan.groups.items) _ f
    (Contains-append_left (need_findings plan.requests.items plan.flows.items plan.needs.items) _ f h))))))

in_requests : (plan : Plan) (f : Finding) → Contains (request_findings plan.groups.items plan.flows.items plan.requests.items) f
    → Contains (found plan) f
in_requests plan f h =
    in_rest plan f (Contains-append_right (flow_findings plan.groups.items plan.flows.items) _ f
    (Contains-append_right (kept_findings plan.keep_free plan.units.items) _ f
    (Contains-append_right (unsent_findings plan.groups.items plan.flows.items) _ f
    (Contains-append_right (record_findings plan.groups.items) _ f
    (Contains-append_right (text_findings plan.groups.items) _ f
    (Contains-append_right (need_findings plan.requests.items plan.flows.items plan.needs.items) _ f
    (Contains-append_left (request_findings plan.groups.items plan.flows.items plan.requests.items) _ f h)))))))

silent_found : (plan : Plan) (f : Finding)
    → Contains (pairs have_silent_address SilentAddress plan.units.items) f
    ⊎ Contains (each (is_silent_in_pool plan.keep_free plan.strangers) SilentInPool 0 plan.units.items) f
    → Contains (found plan) f
unfolding silent_findings
silent_found plan f h =
    let addresses = pairs have_silent_address SilentAddress plan.units.items in
    let in_pool = each (is_silent_in_pool plan.keep_free plan.strangers) SilentInPool 0 plan.units.items in
    in_rest plan f (Contains-append_right (flow_findings plan.groups.items plan.flows.items) _ f
    (Contains-append_right (kept_findings plan.keep_free plan.units.items) _ f
    (Contains-append_right (unsent_findings plan.groups.items plan.flows.items) _ f
    (Contains-append_right (record_findings plan.groups.items) _ f
    (Contains-append_right (text_findings plan.groups.items) _ f
    (Contains-append_right (need_findings plan.requests.items plan.flows.items plan.needs.items) _ f
    (Contains-append_right (request_findings plan.groups.items plan.flows.items plan.requests.items) _ f
    (Contains-append_left (addresses ++ in_pool) _ f
    (elim h [ inl first ↦ Contains-append_left addresses in_pool f first | inr second ↦ Contains-append_right addresses in_pool f second ])))))))))

contested_found : (plan : Plan) → plan.live ≡ true → (f : Finding)
    → Contains (each (is_contested (is_unit_alone plan.keep_free plan.strangers plan.units.items) plan.units.items) FlowContested 0 plan.flows.items) f
    → Contains (found plan) f
unfolding contested_findings
contested_found plan live f h =
    in_rest plan f (Contains-append_right (flow_findings plan.groups.items plan.flows.items) _ f
    (Contains-append_right (kept_findings plan.keep_free plan.units.items) _ f
    (Contains-append_right (unsent_findings plan.groups.items plan.flows.items) _ f
    (Contains-append_right (record_findings plan.groups.items) _ f
    (Contains-append_right (text_findings plan.groups.items) _ f
    (Contains-append_right (need_findings plan.requests.items plan.flows.items plan.needs.items) _ f
    (Contains-append_right (request_findings plan.groups.items plan.flows.items plan.requests.items) _ f
    (Contains-append_right (silent_findings plan.keep_free plan.strangers plan.units.items) _ f (on_live_bus h)))))))))
  where
    on_live_bus : Contains
        (each (is_contested (is_unit_alone plan.keep_free plan.strangers plan.units.items) plan.units.items) FlowContested 0 plan.flows.items) f
        → Contains (contested_findings plan.live plan.keep_free plan.strangers plan.units.items plan.flows.items) f
    on_live_bus h = subst
        (λ b. Contains
        (if b then each (is_contested (is_unit_alone plan.keep_free plan.strangers plan.units.items) plan.units.items) FlowContested 0 plan.flows.items
        else []) f)
        (sym live) h

of_group : (plan : Plan) (find : ℕ → GroupPlan → List Finding) (g : ℕ) (group : GroupPlan) (f : Finding)
    → slice_get plan.groups.items g ≡ Some group
    → Contains (find g group) f → Contains (in_each find 0 plan.groups.items) f
of_group plan find g group f is h = in_each_of find 0 plan.groups.items f g g group (omega arith) is h

-- in one of the three parts of a list
of_three : (xs ys zs : List Finding) (f : Finding) → Contains xs f ⊎ (Contains ys f ⊎ Contains zs f) → Contains (xs ++ (ys ++ zs)) f
of_three xs ys zs f (inl one) = Contains-append_left xs (ys ++ zs) f one
of_three xs ys zs f (inr (inl two)) = Contains-append_right xs (ys ++ zs) f (Contains-append_left ys zs f two)
of_three xs ys zs f (inr (inr three)) = Contains-append_right xs (ys ++ zs) f (Contains-append_right ys zs f three)

-- in one of its four
of_four : (xs ys zs us : List Finding) (f : Finding) → Contains xs f ⊎ (Contains ys f ⊎ (Contains zs f ⊎ Contains us f))
    → Contains (xs ++ (ys ++ (zs ++ us))) f
of_four xs ys zs us f (inl one) = Contains-append_left xs (ys ++ (zs ++ us)) f one
of_four xs ys zs us f (inr more) = Contains-append_right xs (ys ++ (zs ++ us)) f (of_three ys zs us f more)

-- in one of its five
of_five : (xs ys zs us vs : List Finding) (f : Finding)
    → Contains xs f ⊎ (Contains ys f ⊎ (Contains zs f ⊎ (Contains us f ⊎ Contains vs f))) → Contains (xs ++ (ys ++ (zs ++ (us ++ vs)))) f
of_five xs ys zs us vs f (inl one) = Contains-append_left xs (ys ++ (zs ++ (us ++ vs))) f one
of_five xs ys zs us vs f (inr more) = Contains-append_right xs (ys ++ (zs ++ (us ++ vs))) f (of_four ys zs us vs f more)

unit_found : (plan : Plan) (f : Finding)
    → Contains (pairs may_be_one SameName plan.units.items) f
    ⊎ (Contains (pairs have_same_fixed_address SameFixedAddress plan.units.items) f
    ⊎ Contains (too_few_addresses plan.keep_free plan.strangers plan.units.items) f)
    → Contains (found plan) f
unfolding unit_findings
unit_found plan f h =
    let names = pairs may_be_one SameName plan.units.items in
    let addresses = pairs have_same_fixed_address SameFixedAddress plan.units.items in
    in_units plan f (of_three names addresses (too_few_addresses plan.keep_free plan.strangers plan.units.items) f h)

group_found : (plan : Plan) (f : Finding)
    → Contains (each has_bad_pgn BadPgn 0 plan.groups.items) f ⊎ Contains (pairs (have_same_pgn plan.groups.items plan.flows.items) SamePgn plan.groups.items) f
    → Contains (found plan) f
unfolding group_findings
group_found plan f h =
    let bad = each has_bad_pgn BadPgn 0 plan.groups.items in
    let same = pairs (have_same_pgn plan.groups.items plan.flows.items) SamePgn plan.groups.items in
    in_groups plan f (elim h [ inl in_bad ↦ Contains-append_left bad same f in_bad | inr in_same ↦ Contains-append_right bad same f in_same ])

signal_found : (plan : Plan) (f : Finding)
    → Contains (in_each width_findings 0 plan.groups.items) f
    ⊎ (Contains (in_each outside_findings 0 plan.groups.items) f ⊎ Contains (in_each overlap_findings 0 plan.groups.items) f)
    → Contains (found plan) f
unfolding signal_findings
signal_found plan f h =
    let groups = plan.groups.items in
    in_signals plan f (of_three (in_each width_findings 0 groups) (in_each outside_findings 0 groups) (in_each overlap_findings 0 groups) f h)

flow_found : (plan : Plan) (f : Finding)
    → Contains (each (cannot_go_to_one plan.groups.items) FlowToOne 0 plan.flows.items) f
    ⊎ (Contains (each goes_to_its_sender FlowToSelf 0 plan.flows.items) f ⊎ Contains (pairs are_one_flow FlowRepeated plan.flows.items) f)
    → Contains (found plan) f
unfolding flow_findings
flow_found plan f h =
    let flows = plan.flows.items in
    let to_one = each (cannot_go_to_one plan.groups.items) FlowToOne 0 flows in
    in_flows plan f (of_three to_one (each goes_to_its_sender FlowToSelf 0 flows) (pairs are_one_flow FlowRepeated flows) f h)

request_found : (plan : Plan) (f : Finding)
    → Contains (each (goes_unanswered plan.flows.items) RequestUnanswered 0 plan.requests.items) f
    ⊎ (Contains (each (goes_unheard plan.flows.items) RequestUnheard 0 plan.requests.items) f
    ⊎ (Contains (each (is_answered_astray plan.groups.items plan.flows.items) AnswerAstray 0 plan.requests.items) f
    ⊎ (Contains (each is_selector_outside WhenOutside 0 plan.groups.items) f
    ⊎ Contains (pairs (ask_the_same plan.groups.items) RequestRepeated plan.requests.items) f)))
    → Contains (found plan) f
unfolding request_findings
request_found plan f h =
    let groups = plan.groups.items in
    let flows = plan.flows.items in
    let requests = plan.requests.items in
    let unanswered = each (goes_unanswered flows) RequestUnanswered 0 requests in
    let unheard = each (goes_unheard flows) RequestUnheard 0 requests in
    let astray = each (is_answered_astray groups flows) AnswerAstray 0 requests in
    let selectors = each is_selector_outside WhenOutside 0 groups in
    in_requests plan f (of_five unanswered unheard astray selectors (pairs (ask_the_same groups) RequestRepeated requests) f h)

found_of : (plan : Plan) (f : Finding) → Holds plan f → Contains (found plan) f
found_of plan (SameName i j) h = unit_found plan _ (inl (pairs_of MayBeOne Decides-may_be_one SameName plan.units.items i j h))
found_of plan (SameFixedAddress i j) h =
    unit_found plan _ (inr (inl (pairs_of HaveSameFixedAddress Decides-have_same_fixed_address SameFixedAddress plan.units.items i j h)))
found_of plan (TooFewAddresses n) ((m, are, with_strangers), more) =
    let planned = meeting_pass (Decides-needs_pool_address plan.keep_free) plan.units.items m are in
    let needed = needed_addresses plan.keep_free plan.strangers plan.units.items in
    let is : n ≡ needed = with_strangers ∙ ap (λ k. k + plan.strangers) planned in
    let P : ℕ → Type 0 = λ k. Contains (too_few_addresses plan.keep_free plan.strangers plan.units.items) (TooFewAddresses k) in
    let Q : ℕ → Type 0 = λ k. free_count plan.keep_free < k in
    let passes = (Decides-ltb (free_count plan.keep_free) needed).1 (subst Q is more) in
    unit_found plan _ (inr (inr (subst P (sym is) (found_if_of _ (TooFewAddresses needed) passes))))
found_of plan (BadPgn g) h = group_found plan _ (inl (each_of HasBadPgn Decides-has_bad_pgn BadPgn plan.groups.items g h))
found_of plan (SamePgn g k) h =
    group_found plan _ (inr (pairs_of (HaveSamePgn plan.groups.items plan.flows.items)
    (Decides-have_same_pgn plan.groups.items plan.flows.items) SamePgn plan.groups.items g k h))
found_of plan (SignalWidth g s) h =
    signal_found plan _ (inl (of_group plan width_findings g h.value (SignalWidth g s) h.value_is
    (each_of (λ signal. ¬ WidthFits signal) Decides-has_other_width (SignalWidth g) h.value.signals.items s h.meets)))
found_of plan (SignalOutside g s) h =
    signal_found plan _ (inr (inl (of_group plan outside_findings g h.value (SignalOutside g s) h.value_is
    (each_of (EndsOutside h.value) (Decides-ends_outside h.value.length h.value.most) (SignalOutside g) h.value.signals.items s h.meets))))
found_of plan (SignalOverlap g s t) h =
    signal_found plan _ (inr (inr (of_group plan overlap_findings g h.value (SignalOverlap g s t) h.value_is
    (pairs_of SharesBit Decides-shares_bit (SignalOverlap g) h.value.signals.items s t h.meets))))
found_of plan (FlowToOne f) h =
    flow_found plan _ (inl (each_of (CannotGoToOne plan.groups.items) (Decides-cannot_go_to_one plan.groups.items) FlowToOne plan.flows.items f h))
found_of plan (FlowToSelf f) h = flow_found plan _ (inr (inl (each_of GoesToItsSender Decides-goes_to_its_sender FlowToSelf plan.flows.items f h)))
found_of plan (KeptAddress i) h =
    kept_found plan _ (each_of (PrefersKept plan.keep_free) (Decides-prefers_kept plan.keep_free) KeptAddress plan.units.items i h)
found_of plan (PrivateUnsent g) h =
    unsent_found plan _ (each_of (IsPrivateUnsent plan.groups.items plan.flows.items) (Decides-is_private_unsent plan.groups.items plan.flows.items)
    PrivateUnsent plan.groups.items g h)
found_of plan (RecordOverlap g s t) h =
    record_found plan _ (of_group plan group_overlaps g h.value (RecordOverlap g s t) h.value_is (group_overlaps_of g s t h.value h.meets))
found_of plan (TextOutside g t) h =
    text_found plan _ (of_group plan outside_text_findings g h.value (TextOutside g t) h.value_is
    (each_of (IsOutside h.value) (Decides-lies_outside h.value) (TextOutside g) h.value.texts.items t h.meets))
found_of plan (NeedUnmet n) h =
    need_found plan _ (each_of (IsUnmet plan.requests.items plan.flows.items) (Decides-is_unmet plan.requests.items plan.flows.items)
    NeedUnmet plan.needs.items n h)
found_of plan (RequestUnanswered r) h =
    request_found plan _ (inl (each_of (GoesUnanswered plan.flows.items) (Decides-goes_unanswered plan.flows.items) RequestUnanswered
    plan.requests.items r h))
found_of plan (RequestUnheard r) h =
    request_found plan _ (inr (inl (each_of (GoesUnheard plan.flows.items) (Decides-goes_unheard plan.flows.items) RequestUnheard
    plan.requests.items r h)))
found_of plan (AnswerAstray r) h =
    request_found plan _ (inr (inr (inl (each_of (IsAnsweredAstray plan.groups.items plan.flows.items)
    (Decides-is_answered_astray plan.groups.items plan.flows.items) AnswerAstray plan.requests.items r h))))
found_of plan (WhenOutside g) h =
    request_found plan _ (inr (inr (inr (inl (each_of (λ group. ¬ IsSelectorInside group) Decides-is_selector_outside WhenOutside
    plan.groups.items g h)))))
found_of plan (RequestRepeated r s) h =
    request_found plan _ (inr (inr (inr (inr (pairs_of (AskTheSame plan.groups.items) (Decides-ask_the_same plan.groups.items) RequestRepeated
    plan.requests.items r s h)))))
found_of plan (SilentAddress u v) h =
    silent_found plan _ (inl (pairs_of HaveSilentAddress Decides-have_silent_address SilentAddress plan.units.items u v h))
found_of plan (SilentInPool u) h =
    silent_found plan _ (inr (each_of (IsSilentInPool plan.keep_free plan.strangers) (Decides-is_silent_in_pool plan.keep_free plan.strangers) SilentInPool
    plan.units.items u h))
found_of plan (FlowContested f) h =
    let live = h.meets.0 in
    contested_found plan live _ (each_of (IsFlowContested plan) (Decides-contested plan _ (alone_by_list plan) live) FlowContested plan.flows.items f h)
found_of plan (FlowRepeated f k) h = flow_found plan _ (inr (inr (pairs_of AreOneFlow Decides-are_one_flow FlowRepeated plan.flows.items f k h)))

pub are_findings : (plan : Plan) → AreFindings plan (found plan)
are_findings plan = record {
  sound = (found_covered plan).sound;
  complete = found_of plan;
  in_order = AllPairs-from_Rises IsBefore (found plan) (found_covered plan).rises;
}

-- ---- no finding

nil_from_none : (xs : List Finding) → ((f : Finding) → Contains xs f → ⊥) → xs ≡ []
nil_from_none [] h = refl
nil_from_none (x ∷ xs) h = absurd (h x (0, omega arith, refl))

pub clean_from_none : (plan : Plan) → found plan ≡ [] → Clean plan
clean_from_none plan none = λ f h.
    let P : List Finding → Type 0 = λ xs. Contains xs f in
    let in_none = subst P none (found_of plan f h) in
    absurd (omega arith)

pub none_from_clean : (plan : Plan) → Clean plan → found plan ≡ []
none_from_clean plan clean = nil_from_none (found plan) (λ f h. clean f ((found_covered plan).sound f h))
