-- What is found of a part is found of the whole.
use Rattle.std.proofs.Common.{◌≡◌, ℕ, ◌+◌, ◌<◌, ◌≤◌, ◌⊎◌, length, refl, sym, ◌∙◌, ap, subst, inl, inr, arith}
use Rattle.std.specs.FinSet.{FinSet}
use Rattle.std.specs.Ordering.{nat_cmp}
use Rattle.std.proofs.lemmas.Bool.{cases_Bool, true≢false}
use Rattle.j39_claim.specs.AddressSets.{free_count}
use Rattle.j39_findings.specs.Findings.{AreSentTogether, AskForOneNumber, AskTheSame, CannotGoToOne, DoReceiversMeet, GoesToItsSender}
use Rattle.j39_findings.specs.Findings.{HasBadPgn, HaveSameFixedAddress, HaveSamePgn, HaveSilentAddress, Holds, IsAloneInPlan, IsFlowContested}
use Rattle.j39_findings.specs.Findings.{IsSilentInPool, PrefersKept}
use Rattle.j39_findings.specs.Found.{needs_pool_address}
use Rattle.j39_findings.proofs.Deciding.{Decides-needs_pool_address}
use Rattle.j39_findings.specs.declared.checking.finding.Finding.{Finding}
use Rattle.j39_findings.specs.declared.checking.finding.Finding.TheVariants.{SameName, SameFixedAddress, TooFewAddresses, BadPgn, SamePgn, SignalWidth}
use Rattle.j39_findings.specs.declared.checking.finding.Finding.TheVariants.{SignalOutside, SignalOverlap, FlowToOne, FlowToSelf, FlowRepeated, KeptAddress}
use Rattle.j39_findings.specs.declared.checking.finding.Finding.TheVariants.{PrivateUnsent, RecordOverlap, TextOutside, NeedUnmet, RequestUnanswered}
use Rattle.j39_findings.specs.declared.checking.finding.Finding.TheVariants.{RequestUnheard, AnswerAstray, WhenOutside, RequestRepeated, SilentAddress}
use Rattle.j39_findings.specs.declared.checking.finding.Finding.TheVariants.{SilentInPool, FlowContested}
use Rattle.j39_network.specs.Kinds.{MayBeOne}
use Rattle.j39_network.specs.PlannedFlows.{AreOneFlow, IsOneFrameToAll, Sends}
use Rattle.j39_network.specs.UnitAddresses.{NeedsPoolAddress}
use Rattle.j39_network.specs.declared.plan.Plan.{Plan}
use Rattle.j39_network.specs.declared.plan.flow_plan.FlowPlan.{FlowPlan}
use Rattle.j39_network.specs.declared.plan.group_plan.GroupPlan.{GroupPlan}
use Rattle.j39_network.specs.declared.plan.request_plan.RequestPlan.{RequestPlan}
use Rattle.j39_network.specs.declared.plan.to.To.TheVariants.{One}
use Rattle.j39_network.specs.declared.plan.unit_plan.UnitPlan.{UnitPlan}
use Rattle.j39_search.specs.ListPlaces.{ValueAt, PairAt}
use Rattle.j39_search.proofs.Members.{all_at}
use Rattle.j39_signal.specs.Places.{SharesBit, WidthFits}
use Rattle.j39_signal.specs.Selectors.{DifferInValue}
use Rattle.j39_part_laws.proofs.Groups.{bad_pgn, may_be_one_frame, one_frame, outside, overlap, records, selector_outside, text_outside, width}
use Rattle.j39_part_laws.specs.PlanParts.{HoldsThere, IsFlowThere, IsGroupThere, IsPartAt, IsRequestThere, IsSame, Places, to_in}
use Rattle.j39_part_laws.proofs.Places.{pair_same, pair_there, value_same, value_there}
use Rattle.j39_part_laws.proofs.Staying.{stay_there}
use Rattle.j39_part_laws.proofs.Sublists.{more_meet, sub_of_some}

module _ (at : Places) (part whole : Plan) (is : IsPartAt at part whole) where
  unit_there : (P : UnitPlan → Type 0) (i : ℕ) → ValueAt P part.units.items i → ValueAt P whole.units.items (at.unit i)
  unit_there = value_same at.unit part.units.items whole.units.items is.units

  units_there : (R : UnitPlan → UnitPlan → Type 0) (i j : ℕ) → PairAt R part.units.items i j → PairAt R whole.units.items (at.unit i) (at.unit j)
  units_there = pair_same at.unit part.units.items whole.units.items is.units

  group_there : (P Q : GroupPlan → Type 0) → ((g h : GroupPlan) → IsGroupThere g h → P g → Q h) → (i : ℕ) → ValueAt P part.groups.items i
      → ValueAt Q whole.groups.items (at.group i)
  group_there = value_there at.group IsGroupThere part.groups.items whole.groups.items is.groups

  -- ---- flows

  flow_there : (P Q : FlowPlan → Type 0) → ((f h : FlowPlan) → IsFlowThere at f h → P f → Q h) → (i : ℕ) → ValueAt P part.flows.items i
      → ValueAt Q whole.flows.items (at.flow i)
  flow_there = value_there at.flow (IsFlowThere at) part.flows.items whole.flows.items is.flows

  -- the group that a flow sends
  sent_there : (P Q : GroupPlan → Type 0) → ((g h : GroupPlan) → IsGroupThere g h → P g → Q h) → (f h : FlowPlan) → IsFlowThere at f h
      → ValueAt P part.groups.items f.group → ValueAt Q whole.groups.items h.group
  sent_there P Q over f h stands sent = subst (ValueAt Q whole.groups.items) (sym stands.group) (group_there P Q over f.group sent)

  pub sends_there : (g x : GroupPlan) → IsGroupThere g x → (f h : FlowPlan) → IsFlowThere at f h → Sends part.groups.items g f → Sends whole.groups.items x h
  sends_there g x same = sent_there (λ sent. sent.label.bytes ≡ g.label.bytes) (λ sent. sent.label.bytes ≡ x.label.bytes)
      (λ sent there one label. one.label ∙ label ∙ sym same.label)

  to_one_there : (f h : FlowPlan) → IsFlowThere at f h → CannotGoToOne part.groups.items f → CannotGoToOne whole.groups.items h
  to_one_there f h stands ((receiver, to), sent) = (
    (at.unit receiver, stands.to ∙ ap (to_in at) to),
    sent_there IsOneFrameToAll IsOneFrameToAll one_frame f h stands sent,
  )

  to_self_there : (f h : FlowPlan) → IsFlowThere at f h → GoesToItsSender f → GoesToItsSender h
  to_self_there f h stands to = stands.to ∙ ap (to_in at) to ∙ ap One (sym stands.sender)

  one_flow_there : (f k x y : FlowPlan) → IsFlowThere at f x → IsFlowThere at k y → AreOneFlow f k → AreOneFlow x y
  one_flow_there f k x y one other (group, sender, to) = (
    one.group ∙ ap at.group group ∙ sym other.group,
    one.sender ∙ ap at.unit sender ∙ sym other.sender,
    one.to ∙ ap (to_in at) to ∙ sym other.to,
  )

  module _ (g h v w : GroupPlan) (same : IsGroupThere g v) (also : IsGroupThere h w) where
    pub receivers_there : (f k x y : FlowPlan) → IsFlowThere at f x → IsFlowThere at k y → DoReceiversMeet g h f k → DoReceiversMeet v w x y
    receivers_there f k x y one other (inl to) = inl (one.to ∙ ap (to_in at) to)
    receivers_there f k x y one other (inr (inl to)) = inr (inl (other.to ∙ ap (to_in at) to))
    receivers_there f k x y one other (inr (inr (inl equal))) = inr (inr (inl (one.to ∙ ap (to_in at) equal ∙ sym other.to)))
    receivers_there f k x y one other (inr (inr (inr short))) = inr (inr (inr (may_be_one_frame g v same short.0, may_be_one_frame h w also short.1)))

    together_there : AreSentTogether part.groups.items part.flows.items g h → AreSentTogether whole.groups.items whole.flows.items v w
    together_there (i, sent) = (
      at.flow i,
      flow_there _ _ (λ f x one ((sends, (j, both_sent)) : Sends part.groups.items g f × ((j : ℕ) × _)). (
        sends_there g v same f x one sends,
        (
          at.flow j,
          flow_there _ _ (λ k y other both.
              (other.sender ∙ ap at.unit both.0 ∙ sym one.sender, sends_there h w also k y other both.1, receivers_there f k x y one other both.2)) j both_sent,
        ),
      )) i sent,
    )

    differ_there : ¬ DifferInValue g.when h.when → ¬ DifferInValue v.when w.when
    differ_there alike = rw (same.when, also.when) alike

    same_pgn_there : HaveSamePgn part.groups.items part.flows.items g h → HaveSamePgn whole.groups.items whole.flows.items v w
    same_pgn_there (number, alike, which) = (
      same.pgn ∙ number ∙ sym also.pgn,
      differ_there alike,
      elim which [
        | inl public ↦ inl (same.private ∙ public)
        | inr (inl public) ↦ inr (inl (also.private ∙ public))
        | inr (inr together) ↦ inr (inr (together_there together))
      ],
    )

  -- ---- requests

  one_number_there : (r s x y : RequestPlan) → IsRequestThere at r x → IsRequestThere at s y → AskForOneNumber part.groups.items r s
      → AskForOneNumber whole.groups.items x y
  one_number_there r s x y one other asked =
      subst (ValueAt (λ g. ValueAt (λ h. g.pgn ≡ h.pgn) whole.groups.items y.group) whole.groups.items) (sym one.group)
      (group_there (λ g. ValueAt (λ h. g.pgn ≡ h.pgn) part.groups.items s.group) (λ g. ValueAt (λ h. g.pgn ≡ h.pgn) whole.groups.items y.group)
      (λ g v same found. subst (ValueAt (λ h. v.pgn ≡ h.pgn) whole.groups.items) (sym other.group)
      (group_there (λ h. g.pgn ≡ h.pgn) (λ h. v.pgn ≡ h.pgn) (λ h w also number. same.pgn ∙ number ∙ sym also.pgn) s.group found)) r.group asked)

  ask_the_same_there : (r s x y : RequestPlan) → IsRequestThere at r x → IsRequestThere at s y → AskTheSame part.groups.items r s
      → AskTheSame whole.groups.items x y
  ask_the_same_there r s x y one other (number, sender, to) = (
    one_number_there r s x y one other number,
    one.sender ∙ ap at.unit sender ∙ sym other.sender,
    one.to ∙ ap (to_in at) to ∙ sym other.to,
  )

  -- ---- addresses

  needs_or_not : (kept : FinSet nat_cmp) (unit : UnitPlan) → NeedsPoolAddress kept unit ⊎ ¬ NeedsPoolAddress kept unit
  needs_or_not kept unit = elim (cases_Bool (needs_pool_address kept unit)) [
    | inl needs ↦ inl ((Decides-needs_pool_address kept unit).0 needs)
    | inr none ↦ inr (λ needs. true≢false (sym ((Decides-needs_pool_address kept unit).1 needs) ∙ none))
  ]

  too_few_there : (n : ℕ) → Holds part (TooFewAddresses n) → (m : ℕ) × (n ≤ m) × Holds whole (TooFewAddresses m)
  too_few_there n ((m, many, sum), few) =
      let more = more_meet IsSame (NeedsPoolAddress part.keep_free) (NeedsPoolAddress whole.keep_free)
      (λ x y same needs. subst (λ kept. NeedsPoolAddress kept y) is.keep_free (subst (NeedsPoolAddress part.keep_free) same needs))
      (needs_or_not whole.keep_free)
      part.units.items whole.units.items (sub_of_some at.unit IsSame part.units.items whole.units.items is.units) m many in
      let below = more.1 in
      let strangers = is.strangers in
      let free = ap free_count is.keep_free in
      (more.0 + whole.strangers, omega (arith, sum, below, strangers), ((more.0, more.2, refl), omega (arith, sum, below, strangers, few, free)))

  -- ---- who is alone

  contested_there : (f : ℕ) → ValueAt (IsFlowContested part) part.flows.items f → ValueAt (IsFlowContested whole) whole.flows.items (at.flow f)
  contested_there f found =
      let flow = found.value in
      let there = is.flows.each f flow found.value_is in
      let alone = (stay_there at part whole is).alone in
      let sender = all_at (λ (h : FlowPlan). h.sender < length part.units.items) part.flows.items part.flow_senders f flow found.value_is in
      let receiver = all_at (λ (h : FlowPlan). (r : ℕ) → h.to ≡ One r
      → r < length part.units.items) part.flows.items part.flow_receivers f flow found.value_is in
      record {
        value = there.value;
        value_is = there.value_is;
        meets = (
          sym is.live ∙ found.meets.0,
          elim found.meets.1 [
            | inl not_sender ↦
                inl (λ whole_alone. not_sender (alone flow.sender sender (subst (IsAloneInPlan whole) there.meets.sender whole_alone)))
            | inr (r, to, not_receiver) ↦
                inr (at.unit r, there.meets.to ∙ ap (to_in at) to, λ whole_alone. not_receiver (alone r (receiver r to) whole_alone))
          ],
        );
      }

  -- ---- all

  pub holds_there : (finding : Finding) → Holds part finding → HoldsThere at whole finding
  holds_there (SameName i j) found = units_there MayBeOne i j found
  holds_there (SameFixedAddress i j) found = units_there HaveSameFixedAddress i j found
  holds_there (TooFewAddresses n) found = too_few_there n found
  holds_there (BadPgn g) found = group_there HasBadPgn HasBadPgn bad_pgn g found
  holds_there (SamePgn g h) found = pair_there at.group IsGroupThere part.groups.items whole.groups.items is.groups
      (HaveSamePgn part.groups.items part.flows.items) (HaveSamePgn whole.groups.items whole.flows.items)
      (λ x y z w one other. same_pgn_there x y z w one other) g h found
  holds_there (SignalWidth g s) found = group_there _ _ (λ x y same. width x y same s (λ signal. ¬ WidthFits signal)) g found
  holds_there (SignalOutside g s) found = group_there _ _ (λ x y same. outside x y same s) g found
  holds_there (SignalOverlap g s t) found = group_there _ _ (λ x y same. overlap x y same s t SharesBit) g found
  holds_there (FlowToOne f) found = flow_there _ _ to_one_there f found
  holds_there (FlowToSelf f) found = flow_there _ _ to_self_there f found
  holds_there (FlowRepeated f h) found = pair_there at.flow (IsFlowThere at) part.flows.items whole.flows.items is.flows AreOneFlow AreOneFlow
      (λ x y z w one other. one_flow_there x y z w one other) f h found
  holds_there (KeptAddress i) found = subst (λ kept. ValueAt (PrefersKept kept) whole.units.items (at.unit i)) is.keep_free
      (unit_there (PrefersKept part.keep_free) i found)
  holds_there (PrivateUnsent g) found = tt
  holds_there (RecordOverlap g s t) found = group_there _ _ (λ x y same. records x y same s t) g found
  holds_there (TextOutside g t) found = group_there _ _ (λ x y same. text_outside x y same t) g found
  holds_there (NeedUnmet n) found = tt
  holds_there (RequestUnanswered r) found = tt
  holds_there (RequestUnheard r) found = tt
  holds_there (AnswerAstray r) found = tt
  holds_there (WhenOutside g) found = group_there _ _ selector_outside g found
  holds_there (RequestRepeated r s) found = pair_there at.request (IsRequestThere at) part.requests.items whole.requests.items is.requests
      (AskTheSame part.groups.items) (AskTheSame whole.groups.items) (λ x y z w one other. ask_the_same_there x y z w one other) r s found
  holds_there (SilentAddress u v) found = units_there HaveSilentAddress u v found
  holds_there (SilentInPool u) found = subst (λ n. ValueAt (IsSilentInPool whole.keep_free n) whole.units.items (at.unit u)) is.strangers
      (subst (λ kept. ValueAt (IsSilentInPool kept part.strangers) whole.units.items (at.unit u)) is.keep_free
      (unit_there (IsSilentInPool part.keep_free part.strangers) u found))
  holds_there (FlowContested f) found = contested_there f found
