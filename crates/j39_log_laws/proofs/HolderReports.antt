-- Each step keeps that the frames report who holds what.
use Rattle.std.proofs.Common.{◌≡◌, ◌≢◌, ◌⊎◌, ℕ, suc, zero, ◌<◌, ◌^◌, ◌&&◌, cond, eqb, true, false, List, [], ◌∷◌, ◌++◌, length, map, get_or, Option, Some, None}
use Rattle.std.proofs.Common.{inl, inr, refl, sym, ap, subst, ◌∙◌, arith}
use Rattle.std.specs.List.{AllByRecursion, Contains, slice_get}
use Rattle.std.specs.Option.{option_map, option_map_or}
use Rattle.std.proofs.lemmas.Bool.{MatchBool-at_true, and_parts, cases_Bool, cases_eq, cond-false, cond_both, eqb-true, ne_eqb, not-false, true≢false}
use Rattle.std.proofs.lemmas.List.{append-nil}
use Rattle.std.proofs.lemmas.Option.{get_or_from_slice_get, slice_get-map, slice_get_within, same_Some}
use Rattle.j39_id.specs.Addresses.{null_address}
use Rattle.j39_id.specs.Pgn.{is_pgn}
use Rattle.j39_id.specs.Services.{is_service}
use Rattle.j39_id.specs.declared.frame.Frame.{Frame}
use Rattle.j39_claim.specs.declared.item.Item.{Item}
use Rattle.j39_claim.specs.declared.item.Item.TheVariants.{AddressClaimed, Request}
use Rattle.j39_claim.specs.declared.item.Say.{Say}
use Rattle.j39_claim.specs.declared.item.Say.TheVariants.{Claim}
use Rattle.j39_claim.specs.ClaimRule.{ClaimState, PlannedUnit, Reacts, claim_of, off, said_by, started}
use Rattle.j39_tp.specs.Sender as sender
use Rattle.j39_tp.specs.declared.packet.Packet.{Packet}
use Rattle.j39_tp.specs.declared.packet.Packet.TheVariants.{Rts, Cts, EndAck, Bam, Abort, Dt}
use Rattle.j39_network.specs.declared.plan.Plan.{Plan}
use Rattle.j39_network.specs.declared.plan.flow_plan.FlowPlan.{FlowPlan}
use Rattle.j39_network.specs.declared.plan.group_plan.GroupPlan.{GroupPlan}
use Rattle.j39_network.specs.declared.plan.to.To.{To}
use Rattle.j39_network.specs.declared.plan.to.To.TheVariants.{All, One}
use Rattle.j39_network.specs.declared.steps.Step.{Step}
use Rattle.j39_network.specs.declared.steps.Step.TheVariants.{Up, Down, Give, Ask, Begin, Send, Emit, Take, Lose, LateSender, LateReceiver, Rest}
use Rattle.j39_world.specs.declared.flow.Flow.{Flow}
use Rattle.j39_world.specs.declared.wired.Wired.{Wired}
use Rattle.j39_world.specs.declared.wired.Wired.TheVariants as wired
use Rattle.j39_world.specs.SwitchingOff.{switched_off}
use Rattle.j39_world.specs.ClaimSteps.{GivenFrom, answer_items, asked as asks, asking_items, first_items, heard_and_answered, switched_on, sent_to_others}
use Rattle.j39_world.specs.ClaimSteps.{without_lists_to}
use Rattle.j39_world.specs.Flows.{dest_of, flow_of, flows_of, is_short, windows_of}
use Rattle.j39_world.specs.Opening.{AreNamesDistinct}
use Rattle.j39_network.specs.PlannedUnits.{unit_at, units_of}
use Rattle.j39_world.specs.Run.{StepsTo, count_of, refusal}
use Rattle.j39_world.specs.Sent.{Sent, frame_of, sent_of, source_of}
use Rattle.j39_world.specs.SentTransfers.{address_of, destination_of, group_of, packet_frame, short_frame}
use Rattle.j39_world.specs.Sound.{IsQuiet}
use Rattle.j39_world.specs.SoundPlan.{Always, IsSending}
use Rattle.j39_network.specs.Staying.{IsAloneThere}
use Rattle.j39_findings.specs.Findings.{Clean}
use Rattle.j39_world.specs.TransferSteps.{BeginsAt, SendsAt, LostFrom, TakenFrom, first_frame}
use Rattle.j39_world.specs.World.{Stations, Undelivered, World, changed, changed_pair}
use Rattle.j39_run_laws.proofs.Addresses.CleanUnits.{names_in_range}
use Rattle.j39_run_laws.proofs.Addresses.SentToOthers.{still, stated}
use Rattle.j39_run_laws.proofs.Transfers.LiveEnds.{undisturbed_on}
use Rattle.j39_run_laws.proofs.Transfers.SoundRuns.{delivered_while}
use Rattle.j39_run_laws.proofs.Runs.Always.{IsPreserved, always}
use Rattle.j39_run_laws.proofs.Runs.Changed.{changed_elsewhere, changed_here, pair_elsewhere}
use Rattle.j39_run_laws.proofs.Runs.ClaimInvariants.{asking_said, claim_steps_keep, first_said}
use Rattle.j39_run_laws.proofs.Runs.Conditions.{is_unit, none_refuses, units_known}
use Rattle.j39_run_laws.proofs.Runs.Units.{in_units, names_differ}
use Rattle.j39_follow.specs.Holders.{HoldsByFrames}
use Rattle.j39_log_laws.specs.HolderReports.{EachIsReported, FramesReportHolders, HaveOwnNumbers, IsStillToHear, IsHolderReported}
use Rattle.j39_log_laws.proofs.Identifiers.{IsOther, carries_none, planned_other}
use Rattle.j39_log_laws.proofs.Logs.{IsItemInRange, HoldsNothing, asked, claimed, others, silent_keep, split, holds_nothing}
use Rattle.j39_log_laws.proofs.Standing.{AreStanding, HoldsAddress, at_first, preferred_below, said_held, source_below, standing_keeps, turn, turned_any}

-- ---- frames of transfers

pub packet_group : (p : Packet) → IsOther (group_of p)
packet_group (Rts size limit pgn) = management
  where
    management : IsOther 60416
    management = record { range = omega arith; low = λ _. refl; unlike = λ (e : 60416 ≡ 60928). absurd (omega (arith, e)) }
packet_group (Cts count first pgn) = record { range = omega arith; low = λ _. refl; unlike = λ (e : 60416 ≡ 60928). absurd (omega (arith, e)) }
packet_group (EndAck size pgn) = record { range = omega arith; low = λ _. refl; unlike = λ (e : 60416 ≡ 60928). absurd (omega (arith, e)) }
packet_group (Bam size pgn) = record { range = omega arith; low = λ _. refl; unlike = λ (e : 60416 ≡ 60928). absurd (omega (arith, e)) }
packet_group (Abort reason pgn) = record { range = omega arith; low = λ _. refl; unlike = λ (e : 60416 ≡ 60928). absurd (omega (arith, e)) }
packet_group (Dt number chunk) = record { range = omega arith; low = λ _. refl; unlike = λ (e : 60160 ≡ 60928). absurd (omega (arith, e)) }

packet_silent : (f : Frame) (d s : ℕ) (p : Packet) → d < 256 → s < 256 → sent_of f ≡ packet_frame d s p → HoldsNothing f
packet_silent f d s p less_d less_s e =
    holds_nothing f (carries_none f 7 (group_of p) d s (packet_group p) less_d less_s (ap (λ (x : Sent). x.identifier) e))

short_silent : (f : Frame) (d s : ℕ) (flow : Flow) (bytes : List ℕ) → IsOther flow.pgn → d < 256 → s < 256 → sent_of f ≡ short_frame d s flow bytes
    → HoldsNothing f
short_silent f d s flow bytes other less_d less_s e =
    holds_nothing f (carries_none f flow.priority flow.pgn d s other less_d less_s (ap (λ (x : Sent). x.identifier) e))

packets_silent : (d s : ℕ) → d < 256 → s < 256 → (packets : List Packet) (more : List Frame) → map sent_of more ≡ map (packet_frame d s) packets
    → AllByRecursion HoldsNothing more
packets_silent d s less_d less_s packets [] e = tt
packets_silent d s less_d less_s [] (f ∷ more) e = absurd (cc e)
packets_silent d s less_d less_s (p ∷ packets) (f ∷ more) e =
    let head : sent_of f ≡ packet_frame d s p = cc in
    let tail : map sent_of more ≡ map (packet_frame d s) packets = cc in
    (packet_silent f d s p less_d less_s head, packets_silent d s less_d less_s packets more tail)

one_silent : (frame : Sent) → ((f : Frame) → sent_of f ≡ frame → HoldsNothing f) → (more : List Frame) → map sent_of more ≡ frame ∷ []
    → AllByRecursion HoldsNothing more
one_silent frame silent [] e = tt
one_silent frame silent (f ∷ []) e = (silent f (cc), tt)
one_silent frame silent (f ∷ g ∷ more) e = absurd (cc e)

-- ---- the groups of flows

no_flow : {A : Type 0} (x : Flow) → None ≡ Some x → A
no_flow x e = absurd (cc e)

pub flow_other : (plan : Plan) → HaveOwnNumbers plan → (k : ℕ) (flow : Flow) → slice_get (flows_of plan) k ≡ Some flow → IsOther flow.pgn
flow_other plan own k flow at =
    let groups = plan.groups.items in
    let mapped : option_map (flow_of groups) (slice_get plan.flows.items k) ≡ Some flow = sym (slice_get-map (flow_of groups) plan.flows.items k) ∙ at in
    of_flow groups (slice_get plan.flows.items k) mapped
  where
    of_group : (o : Option GroupPlan) (g : ℕ) → slice_get plan.groups.items g ≡ o → IsOther (option_map_or (λ (x : GroupPlan). x.pgn) o 0)
    of_group None g at = record { range = omega arith; low = λ _. refl; unlike = λ (e : 0 ≡ 60928). absurd (omega (arith, e)) }
    of_group (Some group) g at =
        let valid = own g group (slice_get_within plan.groups.items g group at) in
        let is : get_or plan.groups.items g group ≡ group = get_or_from_slice_get plan.groups.items g group group at in
        let here = subst (λ (x : GroupPlan). (is_pgn x.pgn ≡ true) × (is_service x.pgn ≡ false)) is valid in
        planned_other group.pgn here.0 here.1

    of_flow : (groups : List GroupPlan) (o : Option FlowPlan) → option_map (flow_of plan.groups.items) o ≡ Some flow → IsOther flow.pgn
    of_flow groups None e = no_flow flow e
    of_flow groups (Some x) e =
        subst (λ (y : Flow). IsOther y.pgn) (same_Some (flow_of plan.groups.items x) flow e) (of_group (slice_get plan.groups.items x.group) x.group refl)

-- ---- what units say is an address

-- what a unit says first
pub first_below : (p : PlannedUnit) → p.preferred < null_address → AllByRecursion IsItemInRange (first_items p)
first_below p less = elim (p.claims) as (λ b. AllByRecursion IsItemInRange (answer_items (cond b (Some (Claim p.preferred)) None))) [
  | true ↦ (less, tt)
  | false ↦ tt
]

-- what one says that asks
pub asking_below : (p : PlannedUnit) (say : Say) → IsItemInRange (AddressClaimed say) → AllByRecursion IsItemInRange (asking_items (said_by p say))
asking_below p say less = elim (p.claims) as (λ b. AllByRecursion IsItemInRange (asking_items (cond b (Some say) None))) [
  | true ↦ (tt, (less, tt))
  | false ↦ tt
]

-- ---- in each world

in_rest : (x y : Item) (xs : List Item) → Contains (x ∷ xs) y → x ≢ y → Contains xs y
in_rest x y xs (zero, inside, is) other = absurd (other is)
in_rest x y xs (suc k, inside, is) other = (k, omega arith, is)

pub record AreReported (plan : Plan) (w : World) : Type 0 where
  pub standing : AreStanding plan w.stations w.claims
  pub are_reported : FramesReportHolders plan w

module _ (plan : Plan) (distinct : AreNamesDistinct (units_of plan)) (own : HaveOwnNumbers plan) (w : World) (inv : AreReported plan w) where
  abbrev units : List PlannedUnit
  units = units_of plan

  abbrev name : ℕ → ℕ
  name u = (unit_at units u).name

  range : (u : ℕ) → is_unit plan u ≡ true → name u < 2 ^ 64
  range u unit = names_in_range plan u (in_units plan u unit)

  destination_below : (to : To) → destination_of w.stations to < 256
  destination_below All = omega arith
  destination_below (One v) = source_below (w.stations v) (inv.standing.1 v)

  -- a step that reports nothing of addresses
  silent_step : (more : List Sent) (new : List Sent) → new ≡ w.frames ++ more
      → ((tail : List Frame) → map sent_of tail ≡ more → AllByRecursion HoldsNothing tail)
      → (log : List Frame) → map sent_of log ≡ new → (u a : ℕ) → (unit_at units u).claims ≡ true → (w.stations u).on ≡ true
      → (w.stations u).address ≡ Some a
      → HoldsByFrames log (name u) a ⊎ IsStillToHear w.claims u a
  silent_step more new is silent log e u a claims on address =
      let s = split sent_of log w.frames more (e ∙ is) in
      elim (inv.are_reported s.0 s.3 u a claims on address) [
        | inl holds ↦ inl (subst (λ (l : List Frame). HoldsByFrames l (name u) a) (sym s.2) (silent_keep s.0 s.1 (name u) a (silent s.1 s.4) holds))
        | inr hears ↦ inr hears
      ]

  -- another unit than the one that reports
  module _ (v : ℕ) (unit_v : is_unit plan v ≡ true) (held : Option ℕ) (source : source_of held < 256) (stations : Stations) (mid : Undelivered)
      (items : List Item) (all : AllByRecursion IsItemInRange items) where
    other_unit : (log : List Frame) → map sent_of log ≡ w.frames ++ map (frame_of (name v) held) items → (x a : ℕ) → x ≢ v
        → (unit_at units x).claims ≡ true → (stations x).on ≡ true → (w.stations x).on ≡ true → (w.stations x).address ≡ Some a
        → ((y : ℕ) → Contains (w.claims y x) (AddressClaimed (Claim a)) → Contains (mid y x) (AddressClaimed (Claim a)))
        → HoldsByFrames log (name x) a ⊎ IsStillToHear (sent_to_others stations mid v items) x a
    other_unit log e x a other claims on was_on address kept =
        let s = split sent_of log w.frames (map (frame_of (name v) held) items) e in
        let unit_x = inv.standing.0 x was_on in
        let apart = names_differ units distinct x v (in_units plan x unit_x) (in_units plan v unit_v) other in
        elim (inv.are_reported s.0 s.3 x a claims was_on address) [
          | inl holds ↦
              elim (others (name v) (range v unit_v) held source s.0 s.1 items (name x) a apart all s.4 holds) [
                | inl keeps ↦ inl (subst (λ (l : List Frame). HoldsByFrames l (name x) a) (sym s.2) keeps)
                | inr claim ↦ inr (v, stated stations mid v items x (AddressClaimed (Claim a)) on other claim)
              ]
          | inr (y, claim) ↦ inr (y, still stations mid v items y x (AddressClaimed (Claim a)) (kept y claim))
        ]

  -- ---- the steps of units that claim addresses

  abbrev start : ℕ → ClaimState
  start u = started (unit_at units u)

  up_reports : (u : ℕ) → is_unit plan u ≡ true → FramesReportHolders plan (switched_on units w u)
  up_reports u unit log e x a claims on address =
      let now : Stations = changed w.stations u (start u) in
      let less = preferred_below plan u unit in
      let held : Option ℕ = (now u).address in
      let source : source_of held < 256 =
      subst (λ (s : ClaimState). source_of s.address < 256) (sym (changed_here w.stations u (start u))) (omega (arith, less)) in
      let items : List Item = first_items (unit_at units u) in
      elim (cases_eq x u) [
        | inl same ↦
            let here : (now x).address ≡ Some (unit_at units u).preferred =
            ap (λ (k : ℕ). (now k).address) same ∙ ap (λ (s : ClaimState). s.address) (changed_here w.stations u (start u)) in
            let is : (unit_at units u).preferred ≡ a = same_Some (unit_at units u).preferred a (sym here ∙ address) in
            let s = split sent_of log w.frames (map (frame_of (name u) held) items) e in
            let claiming : (unit_at units u).claims ≡ true = ap (λ (k : ℕ). (unit_at units k).claims) (sym same) ∙ claims in
            let frames : map sent_of s.1 ≡ frame_of (name u) held (AddressClaimed (Claim (unit_at units u).preferred)) ∷ [] =
            s.4 ∙ ap (map (frame_of (name u) held)) (first_said (unit_at units u) claiming) in
            inl (subst (λ (k : ℕ). HoldsByFrames log (name k) a) (sym same)
            (subst (λ (k : ℕ). HoldsByFrames log (name u) k) is
            (subst (λ (l : List Frame). HoldsByFrames l (name u) (unit_at units u).preferred) (sym s.2)
            (claimed (name u) (range u unit) held source s.0 s.1 (unit_at units u).preferred less frames))))
        | inr other ↦
            let before : now x ≡ w.stations x = changed_elsewhere w.stations u (start u) x other in
            other_unit u unit held source now (without_lists_to u w.claims) items (first_below (unit_at units u) less) log e x a other claims on
            (sym (ap (λ (s : ClaimState). s.on) before) ∙ on) (sym (ap (λ (s : ClaimState). s.address) before) ∙ address)
            (λ y claim. subst (λ (xs : List Item). Contains xs (AddressClaimed (Claim a)))
            (sym (cond-false (eqb x u) [] (w.claims y x) (ne_eqb x u other))) claim)
      ]

  down_reports : (u : ℕ) → FramesReportHolders plan (switched_off w u)
  down_reports u log e x a claims on address =
      elim (cases_eq x u) [
        | inl same ↦
            let here : (changed w.stations u off x).on ≡ false =
            ap (λ (k : ℕ). (changed w.stations u off k).on) same ∙ ap (λ (s : ClaimState). s.on) (changed_here w.stations u off) in
            absurd (true≢false (sym on ∙ here))
        | inr other ↦
            let before : changed w.stations u off x ≡ w.stations x = changed_elsewhere w.stations u off x other in
            elim (inv.are_reported log e x a claims (sym (ap (λ (s : ClaimState). s.on) before) ∙ on)
            (sym (ap (λ (s : ClaimState). s.address) before) ∙ address)) [
              | inl holds ↦ inl holds
              | inr (y, claim) ↦
                  inr (
                    y,
                    subst (λ (xs : List Item). Contains xs (AddressClaimed (Claim a)))
                        (sym (cond-false (eqb x u) [] (w.claims y x) (ne_eqb x u other))) claim,
                  )
            ]
      ]

  item_below : (o : Option ℕ) → ((a : ℕ) → o ≡ Some a → a < null_address) → IsItemInRange (AddressClaimed (claim_of o))
  item_below None below = tt
  item_below (Some a) below = below a refl

  ask_reports : (u : ℕ) → is_unit plan u ≡ true → FramesReportHolders plan (asks units w u)
  ask_reports u unit log e x a claims on address =
      let held : Option ℕ = (w.stations u).address in
      let below = inv.standing.1 u in
      let source = source_below (w.stations u) below in
      let items : List Item = asking_items (said_by (unit_at units u) (claim_of held)) in
      elim (cases_eq x u) [
        | inl same ↦
            let here : held ≡ Some a = ap (λ (k : ℕ). (w.stations k).address) (sym same) ∙ address in
            let s = split sent_of log w.frames (map (frame_of (name u) held) items) e in
            let frames : map sent_of s.1 ≡ frame_of (name u) held Request ∷ frame_of (name u) held (AddressClaimed (Claim a)) ∷ [] =
            s.4 ∙ ap (map (frame_of (name u) held)) (asking_said (unit_at units u) (claim_of held)
            (ap (λ (k : ℕ). (unit_at units k).claims) (sym same) ∙ claims))
            ∙ ap (λ (o : Option ℕ). frame_of (name u) held Request ∷ frame_of (name u) held (AddressClaimed (claim_of o)) ∷ []) here in
            inl (subst (λ (k : ℕ). HoldsByFrames log (name k) a) (sym same)
            (subst (λ (l : List Frame). HoldsByFrames l (name u) a) (sym s.2)
            (asked (name u) (range u unit) held source s.0 s.1 Request a (below a here) frames)))
        | inr other ↦
            other_unit u unit held source w.stations w.claims items (asking_below (unit_at units u) (claim_of held) (item_below held below)) log e x a other
            claims on on address (λ y claim. claim)
      ]

  module _ (u v : ℕ) (unit_v : is_unit plan v ≡ true) (item : Item) (rest : List Item) (list : w.claims u v ≡ item ∷ rest) (says : Option Say)
      (new : ClaimState) (reacts : Reacts (unit_at units v) (w.stations v) (name u) item says new) (on_v : (w.stations v).on ≡ true)
      (below : HoldsAddress new) where
    abbrev now : Stations
    now = changed w.stations v new

    abbrev mid : Undelivered
    mid = changed_pair w.claims u v rest

    abbrev held : Option ℕ
    held = (now v).address

    abbrev items : List Item
    items = answer_items says

    held_is : held ≡ new.address
    held_is = ap (λ (s : ClaimState). s.address) (changed_here w.stations v new)

    source : source_of held < 256
    source = subst (λ (o : Option ℕ). source_of o < 256) (sym held_is) (source_below new below)

    kept_list : (x a : ℕ) → item ≢ AddressClaimed (Claim a) → Contains (w.claims x v) (AddressClaimed (Claim a)) → Contains (mid x v) (AddressClaimed (Claim a))
    kept_list x a unlike had =
        cond_both (eqb x u && eqb v v) rest (w.claims x v) (λ xs. Contains xs (AddressClaimed (Claim a)))
        (λ both. let same : x ≡ u = eqb-true x u (and_parts (eqb x u) (eqb v v) both).0 in
        in_rest item (AddressClaimed (Claim a)) rest (subst (λ xs. Contains xs (AddressClaimed (Claim a))) (ap (λ k. w.claims k v) same ∙ list) had) unlike)
        (λ _. had)

    items_below : AllByRecursion IsItemInRange items
    items_below = elim (said_held (unit_at units v) (w.stations v) (name u) item says new reacts) [
      | inl silent ↦ subst (λ (o : Option Say). AllByRecursion IsItemInRange (answer_items o)) (sym silent) tt
      | inr said ↦ subst (λ (o : Option Say). AllByRecursion IsItemInRange (answer_items o)) (sym said) (item_below new.address below, tt)
    ]

    -- the unit that heard, which claims
    itself : (unit_at units v).claims ≡ true → (log : List Frame) → map sent_of log ≡ w.frames ++ map (frame_of (name v) held) items → (a : ℕ)
        → new.address ≡ Some a
        → HoldsByFrames log (name v) a ⊎ IsStillToHear (sent_to_others now mid v items) v a
    itself claims log e a address = elim (turn (unit_at units v) (w.stations v) (name u) item says new (MatchBool-at_true _ _ claims reacts)) [
      | inl silent ↦
          let none : map sent_of log ≡ w.frames =
          e ∙ ap (λ (o : Option Say). w.frames ++ map (frame_of (name v) held) (answer_items o)) silent.0 ∙ append-nil w.frames in
          let was : (w.stations v).address ≡ Some a = sym silent.1 ∙ address in
          elim (inv.are_reported log none v a claims on_v was) [
            | inl holds ↦ inl holds
            | inr (y, claim) ↦ inr (y, still now mid v items y v (AddressClaimed (Claim a)) (kept_list y a (silent.2 a was) claim))
          ]
      | inr said ↦
          let says_it : says ≡ Some (Claim a) = said.0 ∙ ap (λ (o : Option ℕ). Some (claim_of o)) address in
          let s = split sent_of log w.frames (map (frame_of (name v) held) items) e in
          let frames : map sent_of s.1 ≡ frame_of (name v) held (AddressClaimed (Claim a)) ∷ [] =
          s.4 ∙ ap (λ (o : Option Say). map (frame_of (name v) held) (answer_items o)) says_it in
          inl (subst (λ (l : List Frame). HoldsByFrames l (name v) a) (sym s.2)
          (claimed (name v) (range v unit_v) held source s.0 s.1 a (below a address) frames))
    ]

    give_reports : FramesReportHolders plan (heard_and_answered units w u v rest says new)
    give_reports log e x a claims on address = elim (cases_eq x v) [
      | inl same ↦
          let here : new.address ≡ Some a = sym held_is ∙ ap (λ (k : ℕ). (now k).address) (sym same) ∙ address in
          subst (λ (k : ℕ). HoldsByFrames log (name k) a ⊎ IsStillToHear (sent_to_others now mid v items) k a) (sym same)
          (itself (ap (λ (k : ℕ). (unit_at units k).claims) (sym same) ∙ claims) log e a here)
      | inr other ↦
          let before : now x ≡ w.stations x = changed_elsewhere w.stations v new x other in
          other_unit v unit_v held source now mid items items_below log e x a other claims on
          (sym (ap (λ (s : ClaimState). s.on) before) ∙ on) (sym (ap (λ (s : ClaimState). s.address) before) ∙ address)
          (λ y claim. subst (λ (xs : List Item). Contains xs (AddressClaimed (Claim a)))
          (sym (pair_elsewhere w.claims u v rest y x (λ _ same. other same))) claim)
    ]

  -- ---- each step

  step_reports : (step : Step) → refusal plan w step ≡ None → (new : World) → StepsTo plan w step new → FramesReportHolders plan new
  step_reports (Up u) allowed new e =
      let (known, more) = none_refuses plan w (Up u) allowed in
      subst (FramesReportHolders plan) (sym e) (up_reports u (not-false _ known))
  step_reports (Down u) allowed new e = subst (FramesReportHolders plan) (sym e) (down_reports u)
  step_reports (Give u v) allowed new leads =
      let (known, (on, more)) = none_refuses plan w (Give u v) allowed in
      let both = units_known plan u v known in
      give_from u v both.0 both.1 (not-false _ on) (w.claims u v) refl new leads
    where
      give_from : (u v : ℕ) → is_unit plan u ≡ true → is_unit plan v ≡ true → (w.stations v).on ≡ true → (list : List Item) → w.claims u v ≡ list
          → (new : World) → GivenFrom units w u v list new → FramesReportHolders plan new
      give_from u v unit_u unit_v on [] is new never = absurd never
      give_from u v unit_u unit_v on (item ∷ rest) is new (says, s, reacts, e) =
          subst (FramesReportHolders plan) (sym e)
          (give_reports u v unit_v item rest is says s reacts on (turned_any (unit_at units v) (w.stations v) (name u) item says s reacts (inv.standing.1 v)))
  step_reports (Ask u) allowed new e =
      let (known, more) = none_refuses plan w (Ask u) allowed in
      subst (FramesReportHolders plan) (sym e) (ask_reports u (not-false _ known))
  step_reports (Begin f bytes) allowed new leads = begin_reports (slice_get (flows_of plan) f) refl new leads
    where
      first_silent : (flow : Flow) → IsOther flow.pgn → (bytes : List ℕ) → (frame : Frame) → sent_of frame ≡ first_frame w.stations flow bytes
          → HoldsNothing frame
      first_silent flow other bytes frame e = elim (cases_Bool (is_short (length bytes))) [
        | inl short ↦
            short_silent frame (destination_of w.stations flow.to) (address_of w.stations flow.sender) flow bytes other (destination_below flow.to)
            (source_below (w.stations flow.sender) (inv.standing.1 flow.sender)) (e ∙ rw short refl)
        | inr long ↦
            packet_silent frame (destination_of w.stations flow.to) (address_of w.stations flow.sender)
            (sender.announcement (dest_of flow.to) flow.pgn (length bytes)) (destination_below flow.to)
            (source_below (w.stations flow.sender) (inv.standing.1 flow.sender)) (e ∙ rw long refl)
      ]

      begin_reports : (o : Option Flow) → slice_get (flows_of plan) f ≡ o → (new : World) → BeginsAt (count_of plan) w f o bytes.items new
          → FramesReportHolders plan new
      begin_reports None is new never = absurd never
      begin_reports (Some flow) is new e =
          subst (FramesReportHolders plan) (sym e)
          (silent_step (first_frame w.stations flow bytes.items ∷ []) _ refl
          (one_silent (first_frame w.stations flow bytes.items) (first_silent flow (flow_other plan own f flow is) bytes.items)))
  step_reports (Send f bytes) allowed new leads = send_reports (slice_get (flows_of plan) f) refl new leads
    where
      send_reports : (o : Option Flow) → slice_get (flows_of plan) f ≡ o → (new : World) → SendsAt (count_of plan) w f o bytes.items new
          → FramesReportHolders plan new
      send_reports None is new never = absurd never
      send_reports (Some flow) is new e =
          let d : ℕ = destination_of w.stations flow.to in
          let s : ℕ = address_of w.stations flow.sender in
          subst (FramesReportHolders plan) (sym e)
          (silent_step (short_frame d s flow bytes.items ∷ []) _ refl
          (one_silent (short_frame d s flow bytes.items) (λ frame at. short_silent frame d s flow bytes.items (flow_other plan own f flow is)
          (destination_below flow.to) (source_below (w.stations flow.sender) (inv.standing.1 flow.sender)) at)))
  step_reports (Emit u) allowed new (s, p, session, next, e) =
      subst (FramesReportHolders plan) (sym e)
      (silent_step (packet_frame (destination_of w.stations s.to) (address_of w.stations u) p ∷ []) _ refl
      (one_silent _ (λ f is. packet_silent f (destination_of w.stations s.to) (address_of w.stations u) p (destination_below s.to)
      (source_below (w.stations u) (inv.standing.1 u)) is)))
  step_reports (Take u v) allowed new leads = take_reports (w.wire u v) new leads
    where
      take_reports : (list : List Wired) → (new : World) → TakenFrom (windows_of plan) w u v list new → FramesReportHolders plan new
      take_reports [] new never = absurd never
      take_reports (wired.Short bytes ∷ rest) new e = subst (FramesReportHolders plan) (sym e) inv.are_reported
      take_reports (wired.Alone k bytes ∷ rest) new e = subst (FramesReportHolders plan) (sym e) inv.are_reported
      take_reports (wired.Packet p ∷ rest) new (reports, reported, e) =
          subst (FramesReportHolders plan) (sym e)
          (silent_step _ _ refl (packets_silent (address_of w.stations u) (address_of w.stations v) (source_below (w.stations u) (inv.standing.1 u))
          (source_below (w.stations v) (inv.standing.1 v)) _))
  step_reports (Lose u v) allowed new leads = lose_reports (w.wire u v) new leads
    where
      lose_reports : (list : List Wired) → (new : World) → LostFrom w u v list new → FramesReportHolders plan new
      lose_reports [] new never = absurd never
      lose_reports (item ∷ rest) new e = subst (FramesReportHolders plan) (sym e) inv.are_reported
  step_reports (LateSender u) allowed new (s, p, session, packet, e) =
      subst (FramesReportHolders plan) (sym e)
      (silent_step (packet_frame (destination_of w.stations s.to) (address_of w.stations u) p ∷ []) _ refl
      (one_silent _ (λ f is. packet_silent f (destination_of w.stations s.to) (address_of w.stations u) p (destination_below s.to)
      (source_below (w.stations u) (inv.standing.1 u)) is)))
  step_reports (LateReceiver u v) allowed new e =
      subst (FramesReportHolders plan) (sym e)
      (silent_step _ _ refl (packets_silent (address_of w.stations u) (address_of w.stations v) (source_below (w.stations u) (inv.standing.1 u))
      (source_below (w.stations v) (inv.standing.1 v)) _))
  step_reports (Rest u) allowed new e = subst (FramesReportHolders plan) (sym e) inv.are_reported

pub reported_keep : (plan : Plan) → AreNamesDistinct (units_of plan) → HaveOwnNumbers plan → IsPreserved plan (AreReported plan)
reported_keep plan distinct own w inv step allowed new leads = record {
  standing = claim_steps_keep plan (AreStanding plan) (standing_keeps plan) w inv.standing step allowed new leads;
  are_reported = step_reports plan distinct own w inv step allowed new leads;
}

pub all_stated : (plan : Plan) → AreNamesDistinct (units_of plan) → HaveOwnNumbers plan → Always plan (AreReported plan)
all_stated plan distinct own =
    always plan (AreReported plan)
    (record { standing = at_first plan; are_reported = λ log is u a claims on. absurd (true≢false (sym on)) })
    (reported_keep plan distinct own)

pub frames_report : (plan : Plan) → AreNamesDistinct (units_of plan) → HaveOwnNumbers plan → Always plan (FramesReportHolders plan)
frames_report plan distinct own steps w run = (all_stated plan distinct own steps w run).are_reported

pub quiet_frames_report : (plan : Plan) → AreNamesDistinct (units_of plan) → HaveOwnNumbers plan
    → Always plan (λ w. IsQuiet w.claims → EachIsReported plan w)
quiet_frames_report plan distinct own steps w run quiet log is u a claims on address =
    elim (frames_report plan distinct own steps w run log is u a claims on address) [
      | inl holds ↦ holds
      | inr (v, claim) ↦ absurd ((quiet v u).0 a claim)
    ]

-- of a plan that isn't live nothing is undelivered while a message is sent
pub sent_frames_report : (plan : Plan) → plan.live ≡ false → AreNamesDistinct (units_of plan) → HaveOwnNumbers plan
    → Always plan (λ w. IsSending w → EachIsReported plan w)
sent_frames_report plan quiet distinct own steps w run sends log of u a claims on address =
    elim (frames_report plan distinct own steps w run log of u a claims on address) [
      | inl holds ↦ holds
      | inr (v, claim) ↦
          let none : w.claims v u ≡ [] = delivered_while plan quiet steps w run sends v u in
          absurd (nothing_there (subst (λ (xs : List Item). Contains xs (AddressClaimed (Claim a))) none claim))
    ]
  where
    nothing_there : Contains [] (AddressClaimed (Claim a)) → ⊥
    nothing_there (k, inside, at) = absurd (omega (arith, inside))

-- of a plan without findings no claim is undelivered of an address at which a unit is alone
pub alone_frames_report : (plan : Plan) → Clean plan → AreNamesDistinct (units_of plan) → HaveOwnNumbers plan
    → Always plan (λ w. (u : ℕ) → IsAloneThere plan.keep_free (units_of plan) u → IsHolderReported plan w u)
alone_frames_report plan clean distinct own steps w run u alone log of a claims on address =
    elim (frames_report plan distinct own steps w run log of u a claims on address) [
      | inl holds ↦ holds
      | inr (v, claim) ↦
          let is = undisturbed_on plan clean steps w run u alone on in
          let same : a ≡ (unit_at (units_of plan) u).preferred = same_Some a (unit_at (units_of plan) u).preferred (sym address ∙ is.held) in
          absurd (is.unclaimed v (subst (λ (k : ℕ). Contains (w.claims v u) (AddressClaimed (Claim k))) same claim))
    ]
