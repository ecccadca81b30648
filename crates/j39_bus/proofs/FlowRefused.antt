-- Why nothing is sent by a flow, and what is known of one by which something may be sent.
use Rattle.std.proofs.Common.{◌≡◌, ℕ, zero, suc, ◌<◌, ◌≤◌, inl, inr, Bool, true, ◌==◌, nat_le, List, [], ◌∷◌, length, get_or, refl, sym, ap, ◌∙◌}
use Rattle.std.proofs.Common.{subst, arith, Option, Some, None}
use Rattle.std.proofs.lemmas.Bool.{and_parts, cases_Bool, eqb-true, leb-true, not-false, true≢false}
use Rattle.std.proofs.lemmas.Option.{slice_get_past}
use Rattle.std.specs.List.{list_all, range_with_len, slice_get}
use Rattle.j39_id.specs.FirstFault.{first_fault}
use Rattle.j39_id.specs.Limits.{message_bytes}
use Rattle.j39_bus.specs.Queued.{IsTable, pair_in}
use Rattle.j39_bus.specs.declared.network.Network.{Network}
use Rattle.j39_bus.specs.BusState.{Histories, nowhere}
use Rattle.j39_world.specs.Flows.{has_length}
use Rattle.j39_world.specs.declared.flow.Flow.{Flow}
use Rattle.j39_bus.specs.inside.Network.{IsNetwork, world_in}
use Rattle.j39_world.specs.Run.{begin_refusal, begin_refusals, is_nothing_undelivered, send_refusal, send_refusals}
use Rattle.j39_world.specs.declared.step_error.StepError.{StepError}
use Rattle.j39_world.proofs.Refusals.{NoneHold, none_hold}
use Rattle.j39_bus.specs.inside.KeptMessages.{IsFlow}
use Rattle.j39_bus.proofs.Opened.{got}
use Rattle.j39_bus.proofs.Outside.{each_list}
use Rattle.j39_bus.proofs.Rested.{all_below}

-- it is sent by a flow alone
pub flow_inside : (of : Option Flow → Option StepError) → ¬ (of None ≡ None) → (flows : List Flow) (f : ℕ) → of (slice_get flows f) ≡ None → f < length flows
flow_inside of refused [] f allowed = absurd (refused allowed)
flow_inside of refused (x ∷ flows) zero allowed = omega arith
flow_inside of refused (x ∷ flows) (suc f) allowed = let less : f < length flows = flow_inside of refused flows f allowed in omega (arith, less)

-- the refusal of a message that is begun, and that of a frame that is sent alone
abbrev pub refused_begun : Network → List ℕ → Histories → Option Flow → Option StepError
refused_begun net bytes h flow = begin_refusal net.live (length net.claimers.items) (world_in h net) flow bytes

abbrev pub refused_alone : Network → List ℕ → Histories → Option Flow → Option StepError
refused_alone net bytes h flow = send_refusal net.live (length net.claimers.items) (world_in h net) flow bytes

-- by the flow at a place, and where there is none
module _ (net : Network) (f : ℕ) (flows : List Flow) (are : flows ≡ net.flows.items) (of : Histories → Option Flow → Option StepError) where
  pub refused_by_flow : (flow : Flow) → f < length flows → flow ≡ get_or flows f flow → (cause : Option StepError)
      → ((h : Histories) → cause ≡ of h (Some flow))
      → (h : Histories) → of h (slice_get net.flows.items f) ≡ cause
  refused_by_flow flow inside at cause is h =
      ap (of h) (got net.flows.items f flow (omega (arith, inside, ap length are)) (at ∙ ap (λ fs. get_or fs f flow) are)) ∙ sym (is h)

  pub refused_past_flows : length flows ≤ f → (h : Histories) → of h (slice_get net.flows.items f) ≡ of h None
  refused_past_flows past h = ap (of h) (slice_get_past net.flows.items f (omega (arith, past, ap length are)))

-- whether anything is undelivered
pub settled_by : {X : Type 0} (n : ℕ) (lists : List (List (List X))) → IsTable n lists → (b : Bool)
    → (b ≡ true → (u v : ℕ) → pair_in lists u v ≡ []) × (((u v : ℕ) → pair_in lists u v ≡ []) → b ≡ true)
    → is_nothing_undelivered n (pair_in lists) ≡ b
settled_by {X} n lists table b (none, all) = elim (cases_Bool b) [
  | inl empty ↦ nothing (none empty) ∙ sym empty
  | inr filled ↦ elim (cases_Bool (is_nothing_undelivered n (pair_in lists))) [
    | inl nothing_there ↦ absurd (true≢false
        (sym (all (λ u v. is_none (pair_in lists u v) (each_list (λ xs. length xs == 0) refl n lists table nothing_there u v))) ∙ filled))
    | inr something ↦ something ∙ sym filled
  ]
]
  where
    nothing : ((u v : ℕ) → pair_in lists u v ≡ []) → is_nothing_undelivered n (pair_in lists) ≡ true
    nothing empty = all_below (λ u. list_all (λ v. length (pair_in lists u v) == 0) (range_with_len 0 n)) n
        (λ u below. all_below (λ v. length (pair_in lists u v) == 0) n (λ v less. ap (λ (xs : List X). length xs == 0) (empty u v)))

    is_none : (xs : List X) → (length xs == 0) ≡ true → xs ≡ []
    is_none [] is = refl
    is_none (x ∷ xs) is = let e : length (x ∷ xs) ≡ 0 = eqb-true (length (x ∷ xs)) 0 is in absurd (omega (arith, e))

-- ---- what may be sent by the flow at a place

item_at : {X : Type 0} (xs : List X) (i : ℕ) → i < length xs → (x : X) × (x ≡ get_or xs i x)
item_at [] i inside = absurd (omega arith)
item_at (x ∷ xs) zero inside = (x, refl)
item_at (x ∷ xs) (suc i) inside = item_at xs i (omega arith)

module _ (net : Network) (well : IsNetwork net) (f : ℕ) (inside : f < length net.flows.items) (bytes : List ℕ) where
  -- none of the refusals holds
  none_of_flow : (table : Option Flow → List (StepError × Bool)) → first_fault (table (slice_get net.flows.items f)) ≡ None
      → (flow : Flow) × IsFlow (length net.claimers.items) flow × NoneHold (table (Some flow))
  none_of_flow table allowed =
      let (flow, at) = item_at net.flows.items f inside in (
        flow,
        subst (IsFlow (length net.claimers.items)) (sym at) (well.traffic.flows f flow inside),
        none_hold (table (Some flow)) (ap (λ (o : Option Flow). first_fault (table o)) (sym (got net.flows.items f flow inside at)) ∙ allowed),
      )

  -- what is begun is as long as a flow's messages are
  pub is_in_length : ((h : Histories) → refused_begun net bytes h (slice_get net.flows.items f) ≡ None)
      → length bytes ≤ message_bytes
  is_in_length allowed =
      let (flow, form, none) = none_of_flow (λ o. begin_refusals net.live (length net.claimers.items) (world_in nowhere net) o bytes) (allowed nowhere) in
      let (sendable, (on, (stated, (addressed, (free, (fits, rest)))))) = none in
      let most : length bytes ≤ flow.most = leb-true (length bytes) flow.most (and_parts (nat_le flow.length (length bytes)) _ (not-false _ fits)).1 in
      omega (arith, most, form.length)

  -- and what is sent alone fits in a frame
  pub is_short_enough : ((h : Histories) → refused_alone net bytes h (slice_get net.flows.items f) ≡ None)
      → length bytes ≤ 8
  is_short_enough allowed =
      let (flow, form, none) = none_of_flow (λ o. send_refusals net.live (length net.claimers.items) (world_in nowhere net) o bytes) (allowed nowhere) in
      let (sendable, (on, (stated, (addressed, (free, (fits, rest)))))) = none in
      leb-true (length bytes) 8 (and_parts (has_length flow (length bytes)) (nat_le (length bytes) 8) (not-false _ fits)).1
