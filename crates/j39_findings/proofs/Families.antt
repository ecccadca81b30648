-- What each part of the list of findings has: what holds, in order.
use Rattle.std.proofs.Common.{◌≡◌, ℕ, nat_lt, List, [], ◌∷◌, Bool, true, false, if◌then◌else◌, Option, None, Some, Contains, refl, sym}
use Rattle.std.proofs.Common.{subst, inl, inr, arith}
use Rattle.std.specs.List.{count_by}
use Rattle.std.specs.Option.{option_map_or}
use Rattle.j39_signal.specs.declared.signal_parts.SignalParts.{SignalParts}
use Rattle.std.proofs.lemmas.Bool.Decides.{Decides-ltb}
use Rattle.j39_signal.specs.Places.{WidthFits, SharesBit, shares_bit}
use Rattle.j39_network.specs.declared.plan.Plan.{Plan}
use Rattle.j39_network.specs.declared.plan.group_plan.GroupPlan.{GroupPlan}
use Rattle.j39_findings.specs.declared.checking.finding.Finding.{Finding}
use Rattle.j39_findings.specs.declared.checking.finding.Finding.TheVariants.{SameName, SameFixedAddress, TooFewAddresses, BadPgn, SamePgn, SignalWidth}
use Rattle.j39_findings.specs.declared.checking.finding.Finding.TheVariants.{SignalOutside, SignalOverlap, FlowToOne, FlowToSelf, FlowRepeated, KeptAddress}
use Rattle.j39_findings.specs.declared.checking.finding.Finding.TheVariants.{PrivateUnsent, RecordOverlap, TextOutside, NeedUnmet, RequestUnanswered}
use Rattle.j39_findings.specs.declared.checking.finding.Finding.TheVariants.{RequestUnheard, AnswerAstray, WhenOutside, RequestRepeated, SilentAddress}
use Rattle.j39_findings.specs.declared.checking.finding.Finding.TheVariants.{SilentInPool, FlowContested}
use Rattle.j39_search.specs.ListPlaces.{found_if, in_each}
use Rattle.j39_claim.specs.AddressSets.{free_count}
use Rattle.j39_network.specs.Kinds.{MayBeOne}
use Rattle.j39_findings.specs.Findings.{HaveSameFixedAddress, HasBadPgn, HaveSamePgn, CannotGoToOne, EndsOutside, GoesToItsSender, Holds}
use Rattle.j39_network.specs.PlannedFlows.{AreOneFlow}
use Rattle.j39_findings.specs.Findings.{PrefersKept, IsPrivateUnsent, IsOutside, IsUnmet, IsBefore, finding_number, places_of, GoesUnanswered, GoesUnheard}
use Rattle.j39_findings.specs.Findings.{IsAnsweredAstray, AskTheSame, HaveSilentAddress, IsSilentInPool, IsFlowContested}
use Rattle.j39_network.specs.PlannedGroups.{IsSelectorInside}
use Rattle.j39_network.specs.Records.{record_count}
use Rattle.j39_findings.specs.Found.{silent_findings, contested_findings, is_unit_alone, needed_addresses, needs_pool_address, too_few_addresses, unit_findings}
use Rattle.j39_findings.specs.Found.{group_findings, has_other_width, ends_outside, lies_outside, overlap_findings, signal_findings, flow_findings}
use Rattle.j39_findings.specs.Found.{kept_findings, unsent_findings, overlaps_of, group_overlaps, do_records_meet, record_findings, text_findings}
use Rattle.j39_findings.specs.Found.{need_findings, request_findings}
use Rattle.j39_findings.proofs.Meeting.{of_signal_made, of_group_overlaps}
use Rattle.j39_search.proofs.Families.{Covers as CoversPart, Covers-append, Names, Order, before, each_family, each_inside, family, inside_family, made}
use Rattle.j39_search.proofs.Families.{of_first, pairs_family}
use Rattle.j39_search.proofs.Members.{of_found_if, of_pairs}
use Rattle.j39_search.proofs.Rising.{Rises, Rises-found_if, Rises-in_each, Rises-pairs}
use Rattle.j39_network.proofs.Served.{Decides-may_be_one}
use Rattle.j39_findings.proofs.Deciding.{Decides-have_same_fixed_address, Decides-needs_pool_address, Decides-has_bad_pgn}
use Rattle.j39_search.proofs.Deciding.{passing_meet}
use Rattle.j39_findings.proofs.Deciding.{Decides-have_silent_address, Decides-is_silent_in_pool, Decides-have_same_pgn, Decides-has_other_width}
use Rattle.j39_findings.proofs.Deciding.{Decides-ends_outside, Decides-shares_bit, Decides-cannot_go_to_one, Decides-goes_to_its_sender, Decides-are_one_flow}
use Rattle.j39_findings.proofs.Deciding.{Decides-prefers_kept, Decides-is_private_unsent, Decides-lies_outside, Decides-is_unmet, Decides-goes_unanswered}
use Rattle.j39_findings.proofs.Deciding.{Decides-goes_unheard, Decides-is_answered_astray, Decides-ask_the_same, Decides-is_selector_outside}
use Rattle.j39_findings.proofs.WhoIsAlone.{alone_by_list, Decides-contested}

-- the order of findings
abbrev pub in_order : Order Finding
in_order = record { number = finding_number; places = places_of }

-- findings of numbers from low to high that hold of the plan, in order
abbrev pub Covers : Plan → ℕ → ℕ → List Finding → Type 0
Covers plan = CoversPart in_order (Holds plan)

-- ---- units

pub units_covered : (plan : Plan) → Covers plan 1 3 (unit_findings plan.keep_free plan.strangers plan.units.items)
unfolding unit_findings
units_covered plan =
    let kept = plan.keep_free in
    let units = plan.units.items in
    Covers-append in_order (Holds plan) 1 1 2 3 _ _ (omega arith) (omega arith) (omega arith)
    (pairs_family in_order (Holds plan) 1 MayBeOne Decides-may_be_one SameName units (λ i j h. h) (λ i j. record { number = refl; places = refl }))
    (Covers-append in_order (Holds plan) 2 2 3 3 _ _ (omega arith) (omega arith) (omega arith)
    (pairs_family in_order (Holds plan) 2 HaveSameFixedAddress Decides-have_same_fixed_address SameFixedAddress units (λ i j h. h)
    (λ i j. record { number = refl; places = refl }))
    (family in_order (Holds plan) 3 (too_few_addresses kept plan.strangers units)
    (λ f h.
    let needed = needed_addresses kept plan.strangers units in
    let r = of_found_if (nat_lt (free_count kept) needed) (TooFewAddresses needed) f h in
    made in_order (Holds plan) 3 f (TooFewAddresses needed) r.1
    ((count_by (needs_pool_address kept) units, passing_meet (Decides-needs_pool_address kept) units, refl), (Decides-ltb (free_count kept) needed).0 r.0) refl)
    (Rises-found_if IsBefore _ _)))

-- ---- groups

pub groups_covered : (plan : Plan) → Covers plan 4 5 (group_findings plan.groups.items plan.flows.items)
unfolding group_findings
groups_covered plan =
    Covers-append in_order (Holds plan) 4 4 5 5 _ _ (omega arith) (omega arith) (omega arith)
    (each_family in_order (Holds plan) 4 HasBadPgn Decides-has_bad_pgn BadPgn plan.groups.items (λ i h. h) (λ i. record { number = refl; places = refl }))
    (pairs_family in_order (Holds plan) 5 (HaveSamePgn plan.groups.items plan.flows.items)
    (Decides-have_same_pgn plan.groups.items plan.flows.items) SamePgn plan.groups.items
    (λ i j h. h) (λ i j. record { number = refl; places = refl }))

-- ---- signals and texts

overlaps_covered : (plan : Plan) → Covers plan 8 8 (in_each overlap_findings 0 plan.groups.items)
overlaps_covered plan =
    inside_family in_order (Holds plan) 8 overlap_findings plan.groups.items
    (λ g group f is h.
    let r = of_pairs SharesBit Decides-shares_bit (SignalOverlap g) group.signals.items f h in
    subst (Holds plan) (sym r.2) (record { value = group; value_is = is; meets = r.3 }))
    (λ g group f h.
    let r = of_pairs SharesBit Decides-shares_bit (SignalOverlap g) group.signals.items f h in
    of_first in_order 8 g f (SignalOverlap g r.0 r.1) r.2 (record { rest = r.0 ∷ r.1 ∷ []; names = record { number = refl; places = refl } }))
    (λ g group. Rises-pairs IsBefore shares_bit (SignalOverlap g)
    (λ i k l less. inr (refl, inr (refl, inr (refl, inl less)))) (λ i j k l less. inr (refl, inr (refl, inl less))) group.signals.items)

pub signals_covered : (plan : Plan) → Covers plan 6 8 (signal_findings plan.groups.items)
unfolding signal_findings
signals_covered plan =
    Covers-append in_order (Holds plan) 6 6 7 8 _ _ (omega arith) (omega arith) (omega arith)
    (each_inside in_order (Holds plan) 6 plan.groups.items (λ group. group.signals.items) (λ group. has_other_width) (λ group s. ¬ WidthFits s)
    (λ group. Decides-has_other_width) SignalWidth
    (λ g s h. h) (λ g s. record { number = refl; places = refl }))
    (Covers-append in_order (Holds plan) 7 7 8 8 _ _ (omega arith) (omega arith) (omega arith)
    (each_inside in_order (Holds plan) 7 plan.groups.items (λ group. group.signals.items) (λ group. ends_outside group.length group.most) EndsOutside
    (λ group. Decides-ends_outside group.length group.most) SignalOutside (λ g s h. h) (λ g s. record { number = refl; places = refl }))
    (overlaps_covered plan))

-- ---- flows

pub flows_covered : (plan : Plan) → Covers plan 9 11 (flow_findings plan.groups.items plan.flows.items)
unfolding flow_findings
flows_covered plan =
    let groups = plan.groups.items in
    let flows = plan.flows.items in
    Covers-append in_order (Holds plan) 9 9 10 11 _ _ (omega arith) (omega arith) (omega arith)
    (each_family in_order (Holds plan) 9 (CannotGoToOne groups) (Decides-cannot_go_to_one groups) FlowToOne flows (λ i h. h)
    (λ i. record { number = refl; places = refl }))
    (Covers-append in_order (Holds plan) 10 10 11 11 _ _ (omega arith) (omega arith) (omega arith)
    (each_family in_order (Holds plan) 10 GoesToItsSender Decides-goes_to_its_sender FlowToSelf flows (λ i h. h) (λ i. record { number = refl; places = refl }))
    (pairs_family in_order (Holds plan) 11 AreOneFlow Decides-are_one_flow FlowRepeated flows (λ i j h. h) (λ i j. record { number = refl; places = refl })))

-- ---- units at addresses that are kept free

pub kept_covered : (plan : Plan) → Covers plan 12 12 (kept_findings plan.keep_free plan.units.items)
unfolding kept_findings
kept_covered plan =
    each_family in_order (Holds plan) 12 (PrefersKept plan.keep_free) (Decides-prefers_kept plan.keep_free) KeptAddress plan.units.items (λ i h. h)
    (λ i. record { number = refl; places = refl })

-- ---- private groups that nobody sends

pub unsent_covered : (plan : Plan) → Covers plan 13 13 (unsent_findings plan.groups.items plan.flows.items)
unfolding unsent_findings
unsent_covered plan =
    let groups = plan.groups.items in
    let flows = plan.flows.items in
    each_family in_order (Holds plan) 13 (IsPrivateUnsent groups flows) (Decides-is_private_unsent groups flows) PrivateUnsent groups (λ i h. h)
    (λ i. record { number = refl; places = refl })

-- ---- records

rises_if : (b : Bool) (xs : List Finding) → Rises IsBefore xs → Rises IsBefore (if b then xs else [])
rises_if true xs rises = rises
rises_if false xs rises = tt

rises_option : (find : ℕ → List Finding) → ((n : ℕ) → Rises IsBefore (find n)) → (o : Option ℕ) → Rises IsBefore (option_map_or find o [])
rises_option find rises None = tt
rises_option find rises (Some n) = rises n

-- a finding of this group that names the place i behind it
record IsOfSignal (g i : ℕ) (f : Finding) : Type 0 where
  pub rest : List ℕ
  pub names : Names in_order 14 (g ∷ i ∷ rest) f

of_signal_at : (every count g : ℕ) (signals : List SignalParts) (i : ℕ) (first : SignalParts) (f : Finding)
    → Contains (overlaps_of every count g signals i first) f → IsOfSignal g i f
of_signal_at every count g signals i first f h =
    let o = of_signal_made every count g signals i first f h in
    subst (IsOfSignal g i) (sym o.1) (record { rest = o.0 ∷ []; names = record { number = refl; places = refl } })

overlaps_rise : (every count g : ℕ) (signals : List SignalParts) (i : ℕ) (first : SignalParts) → Rises IsBefore (overlaps_of every count g signals i first)
overlaps_rise every count g signals i first =
    rises_if first.repeated _ (Rises-in_each IsBefore (λ t other. found_if (do_records_meet every count i t first other) (RecordOverlap g i t))
    (λ k x. Rises-found_if IsBefore _ _)
    (λ k l x y f h less in_k in_l.
    let a = of_found_if (do_records_meet every count i k first x) (RecordOverlap g i k) f in_k in
    let b = of_found_if (do_records_meet every count i l first y) (RecordOverlap g i l) h in_l in
    let P : Finding → Type 0 = λ u. IsBefore u h in
    let Q : Finding → Type 0 = λ v. IsBefore (RecordOverlap g i k) v in
    subst P (sym a.1) (subst Q (sym b.1) (inr (refl, inr (refl, inr (refl, inl less))))))
    0 signals)

group_rises : (g : ℕ) (group : GroupPlan) → Rises IsBefore (group_overlaps g group)
group_rises g group =
    let signals = group.signals.items in
    let count : ℕ = record_count group group.most in
    rises_option (λ every. in_each (overlaps_of every count g signals) 0 signals)
    (λ every. Rises-in_each IsBefore (overlaps_of every count g signals) (overlaps_rise every count g signals)
    (λ k l x y f h less in_k in_l.
    let a = of_signal_at every count g signals k x f in_k in
    let b = of_signal_at every count g signals l y h in_l in
    before in_order 14 (g ∷ k ∷ a.rest) (g ∷ l ∷ b.rest) f h a.names b.names (inr (refl, inl less)))
    0 signals) group.every

pub records_covered : (plan : Plan) → Covers plan 14 14 (record_findings plan.groups.items)
unfolding record_findings
records_covered plan =
    inside_family in_order (Holds plan) 14 group_overlaps plan.groups.items
    (λ g group f is h.
    let o = of_group_overlaps g group f h in
    subst (Holds plan) (sym o.made) (record { value = group; value_is = is; meets = o.over }))
    (λ g group f h.
    let o = of_group_overlaps g group f h in
    of_first in_order 14 g f (RecordOverlap g o.i o.j) o.made (record { rest = o.i ∷ o.j ∷ []; names = record { number = refl; places = refl } }))
    group_rises

-- ---- texts

pub texts_covered : (plan : Plan) → Covers plan 15 15 (text_findings plan.groups.items)
unfolding text_findings
texts_covered plan =
    each_inside in_order (Holds plan) 15 plan.groups.items (λ group. group.texts.items) lies_outside IsOutside Decides-lies_outside TextOutside (λ g t h. h)
    (λ g t. record { number = refl; places = refl })

-- ---- needs

pub needs_covered : (plan : Plan) → Covers plan 19 19 (need_findings plan.requests.items plan.flows.items plan.needs.items)
unfolding need_findings
needs_covered plan =
    let requests = plan.requests.items in
    let flows = plan.flows.items in
    each_family in_order (Holds plan) 19 (IsUnmet requests flows) (Decides-is_unmet requests flows) NeedUnmet plan.needs.items (λ i h. h)
    (λ i. record { number = refl; places = refl })

-- ---- requests

pub requests_covered : (plan : Plan) → Covers plan 21 25 (request_findings plan.groups.items plan.flows.items plan.requests.items)
unfolding request_findings
requests_covered plan =
    let groups = plan.groups.items in
    let flows = plan.flows.items in
    let requests = plan.requests.items in
    Covers-append in_order (Holds plan) 21 21 22 25 _ _ (omega arith) (omega arith) (omega arith)
    (each_family in_order (Holds plan) 21 (GoesUnanswered flows) (Decides-goes_unanswered flows) RequestUnanswered requests (λ i h. h)
    (λ i. record { number = refl; places = refl }))
    (Covers-append in_order (Holds plan) 22 22 23 25 _ _ (omega arith) (omega arith) (omega arith)
    (each_family in_order (Holds plan) 22 (GoesUnheard flows) (Decides-goes_unheard flows) RequestUnheard requests (λ i h. h)
    (λ i. record { number = refl; places = refl }))
    (Covers-append in_order (Holds plan) 23 23 24 25 _ _ (omega arith) (omega arith) (omega arith)
    (each_family in_order (Holds plan) 23 (IsAnsweredAstray groups flows) (Decides-is_answered_astray groups flows) AnswerAstray requests (λ i h. h)
    (λ i. record { number = refl; places = refl }))
    (Covers-append in_order (Holds plan) 24 24 25 25 _ _ (omega arith) (omega arith) (omega arith)
    (each_family in_order (Holds plan) 24 (λ group. ¬ IsSelectorInside group) Decides-is_selector_outside WhenOutside groups (λ i h. h)
    (λ i. record { number = refl; places = refl }))
    (pairs_family in_order (Holds plan) 25 (AskTheSame groups) (Decides-ask_the_same groups) RequestRepeated requests (λ i j h. h)
    (λ i j. record { number = refl; places = refl })))))

-- ---- units that never claim

pub silent_covered : (plan : Plan) → Covers plan 26 27 (silent_findings plan.keep_free plan.strangers plan.units.items)
unfolding silent_findings
silent_covered plan =
    let kept = plan.keep_free in
    let units = plan.units.items in
    Covers-append in_order (Holds plan) 26 26 27 27 _ _ (omega arith) (omega arith) (omega arith)
    (pairs_family in_order (Holds plan) 26 HaveSilentAddress Decides-have_silent_address SilentAddress units (λ i j h. h)
    (λ i j. record { number = refl; places = refl }))
    (each_family in_order (Holds plan) 27 (IsSilentInPool kept plan.strangers) (Decides-is_silent_in_pool kept plan.strangers) SilentInPool units (λ i h. h)
    (λ i. record { number = refl; places = refl }))

-- ---- ends of flows on a live bus

live_covered : (plan : Plan) (live : Bool) → plan.live ≡ live
    → Covers plan 28 28 (contested_findings live plan.keep_free plan.strangers plan.units.items plan.flows.items)
unfolding contested_findings
live_covered plan true live =
    each_family in_order (Holds plan) 28 (IsFlowContested plan)
    (Decides-contested plan (is_unit_alone plan.keep_free plan.strangers plan.units.items) (alone_by_list plan) live) FlowContested plan.flows.items (λ f h. h)
    (λ f. record { number = refl; places = refl })
live_covered plan false none = family in_order (Holds plan) 28 [] (λ f h. absurd (omega arith)) tt

pub contested_covered : (plan : Plan)
    → Covers plan 28 28 (contested_findings plan.live plan.keep_free plan.strangers plan.units.items plan.flows.items)
contested_covered plan = live_covered plan plan.live refl
