-- What the steps of units that claim addresses keep holds in every world of every run.
use Rattle.std.proofs.Common.{◌≡◌, ℕ, Bool, true, false, cond, ◌&&◌, eqb, List, [], ◌∷◌, ◌++◌, append-nil, inl, inr, refl, sym, ap, ◌∙◌, subst, Option, Some}
use Rattle.std.proofs.Common.{None}
use Rattle.std.proofs.lemmas.Bool.{MatchBool-at_false, MatchBool-at_true, cases_Bool, cases_eq, not-false}
use Rattle.std.specs.List.{slice_get}
use Rattle.j39_claim.specs.declared.item.Say.{Say}
use Rattle.j39_claim.specs.declared.item.Say.TheVariants.{Claim}
use Rattle.j39_claim.specs.declared.item.Item.{Item}
use Rattle.j39_claim.specs.declared.item.Item.TheVariants.{AddressClaimed, Request}
use Rattle.j39_claim.specs.ClaimRule.{PlannedUnit, ClaimState, Answers, claim_of, off, said_by, started}
use Rattle.j39_network.specs.declared.plan.Plan.{Plan}
use Rattle.j39_network.specs.declared.steps.Step.TheVariants.{Up, Down, Give, Ask, Begin, Send, Emit, Take, Lose, LateSender, LateReceiver, Rest}
use Rattle.j39_world.specs.declared.wired.Wired.{Wired}
use Rattle.j39_world.specs.declared.wired.Wired.TheVariants as wired
use Rattle.j39_network.specs.PlannedUnits.{units_of, unit_at}
use Rattle.j39_world.specs.Flows.{flows_of, windows_of}
use Rattle.j39_world.specs.declared.flow.Flow.{Flow}
use Rattle.j39_world.specs.World.{World, Stations, Undelivered, changed, changed_pair, is_other_on}
use Rattle.j39_world.specs.ClaimSteps.{GivenFrom, asking_items, sent_to_others, without_lists_to, answer_items, first_items}
use Rattle.j39_world.specs.TransferSteps.{BeginsAt, SendsAt, TakenFrom, LostFrom}
use Rattle.j39_world.specs.Run.{count_of}
use Rattle.j39_run_laws.proofs.Runs.Always.{IsPreserved}
use Rattle.j39_run_laws.proofs.Runs.Changed.{changed_here, changed_elsewhere}
use Rattle.j39_run_laws.proofs.Runs.Conditions.{is_unit, none_refuses, units_known}

-- a property of what units are and what is undelivered between them
abbrev pub ClaimProperty : Type 1
ClaimProperty = Stations → Undelivered → Type 0

-- v is then this, and has sent all others its answer
abbrev pub stations_given : Stations → ℕ → ClaimState → Stations
stations_given stations v new = changed stations v new

abbrev pub claims_given : Stations → Undelivered → ℕ → ℕ → List Item → Option Say → ClaimState → Undelivered
claims_given stations claims u v rest says new = sent_to_others (changed stations v new) (changed_pair claims u v rest) v (answer_items says)

-- the unit claims, or doesn't
abbrev pub claims_at : Plan → ℕ → Bool
claims_at plan u = (unit_at (units_of plan) u).claims

-- each step that changes these keeps it
pub record IsKeptByClaimSteps (plan : Plan) (Holds : ClaimProperty) : Type 0 where
  pub switched_on : (stations : Stations) (claims : Undelivered) → Holds stations claims → (u : ℕ) → is_unit plan u ≡ true
      → claims_at plan u ≡ true
      → let p : PlannedUnit = unit_at (units_of plan) u in
      let new : Stations = changed stations u (started p) in
      Holds new (sent_to_others new (without_lists_to u claims) u (AddressClaimed (Claim p.preferred) ∷ []))
  -- one that doesn't claim says nothing
  pub switched_on_silently : (stations : Stations) (claims : Undelivered) → Holds stations claims → (u : ℕ) → is_unit plan u ≡ true
      → claims_at plan u ≡ false → Holds (changed stations u (started (unit_at (units_of plan) u))) (without_lists_to u claims)
  pub switched_off : (stations : Stations) (claims : Undelivered) → Holds stations claims → (u : ℕ)
      → Holds (changed stations u off) (without_lists_to u claims)
  pub asked : (stations : Stations) (claims : Undelivered) → Holds stations claims → (u : ℕ) → is_unit plan u ≡ true → claims_at plan u ≡ true
      → (stations u).on ≡ true → Holds stations (sent_to_others stations claims u (Request ∷ AddressClaimed (claim_of (stations u).address) ∷ []))
  pub given : (stations : Stations) (claims : Undelivered) → Holds stations claims
      → (u v : ℕ) → is_unit plan u ≡ true → is_unit plan v ≡ true → (stations v).on ≡ true
      → claims_at plan v ≡ true → (item : Item) (rest : List Item) → claims u v ≡ item ∷ rest
      → (says : Option Say) (new : ClaimState) → Answers (unit_at (units_of plan) v) (stations v) (unit_at (units_of plan) u).name item says new
      → Holds (stations_given stations v new) (claims_given stations claims u v rest says new)
  -- one that doesn't claim does nothing
  pub passed_over : (stations : Stations) (claims : Undelivered) → Holds stations claims
      → (u v : ℕ) → is_unit plan u ≡ true → is_unit plan v ≡ true → (stations v).on ≡ true
      → claims_at plan v ≡ false → (item : Item) (rest : List Item) → claims u v ≡ item ∷ rest
      → Holds stations (changed_pair claims u v rest)

-- ---- who sends nothing

pub stated_nothing : (stations : Stations) (claims : Undelivered) (u : ℕ) → sent_to_others stations claims u [] ≡ claims
stated_nothing stations claims u = λ i s t. same (eqb s u && is_other_on stations u t) (claims s t) i
  where
    same : (b : Bool) (xs : List Item) → cond b (xs ++ []) xs ≡ xs
    same true xs = append-nil xs
    same false xs = refl

pub still : (stations : Stations) (v : ℕ) → changed stations v (stations v) ≡ stations
still stations v = λ i x. at x i
  where
    at : (x : ℕ) → changed stations v (stations v) x ≡ stations x
    at x = elim (cases_eq x v) [
      | inl same ↦ ap (changed stations v (stations v)) same ∙ changed_here stations v (stations v) ∙ ap stations (sym same)
      | inr other ↦ changed_elsewhere stations v (stations v) x other
    ]

-- what holds where v has heard an item and does nothing
pub when_passed : (P : ClaimProperty) (stations : Stations) (claims : Undelivered) (u v : ℕ) (rest : List Item) (says : Option Say) (s : ClaimState)
    → says ≡ None → s ≡ stations v → P stations (changed_pair claims u v rest)
    → P (stations_given stations v s) (claims_given stations claims u v rest says s)
when_passed P stations claims u v rest says s silent same here =
    let left : Undelivered = changed_pair claims u v rest in
    let by_claims : P stations (sent_to_others stations left v []) = subst (P stations) (sym (stated_nothing stations left v)) here in
    let by_stations : P (changed stations v (stations v)) (sent_to_others (changed stations v (stations v)) left v []) =
    subst (λ f. P f (sent_to_others f left v [])) (sym (still stations v)) by_claims in
    let by_state : P (changed stations v s) (sent_to_others (changed stations v s) left v []) =
    subst (λ t. P (changed stations v t) (sent_to_others (changed stations v t) left v [])) (sym same) by_stations in
    subst (λ o. P (changed stations v s) (sent_to_others (changed stations v s) left v (answer_items o))) (sym silent) by_state

-- what a unit says first, where it claims and where it doesn't
pub first_said : (c : PlannedUnit) → c.claims ≡ true → first_items c ≡ AddressClaimed (Claim c.preferred) ∷ []
first_said c claims = ap (λ b. answer_items (cond b (Some (Claim c.preferred)) None)) claims

pub first_silent : (c : PlannedUnit) → c.claims ≡ false → first_items c ≡ []
first_silent c silent = ap (λ b. answer_items (cond b (Some (Claim c.preferred)) None)) silent

-- what one says that asks
pub asking_said : (c : PlannedUnit) (say : Say) → c.claims ≡ true → asking_items (said_by c say) ≡ Request ∷ AddressClaimed say ∷ []
asking_said c say claims = ap (λ b. asking_items (cond b (Some say) None)) claims

pub asking_silent : (c : PlannedUnit) (say : Say) → c.claims ≡ false → asking_items (said_by c say) ≡ []
asking_silent c say silent = ap (λ b. asking_items (cond b (Some say) None)) silent

module _ (plan : Plan) (Holds : ClaimProperty) (keeps : IsKeptByClaimSteps plan Holds) where
  abbrev pub HoldsIn : World → Type 0
  HoldsIn w = Holds w.stations w.claims

  given_from : (w : World) → HoldsIn w → (u v : ℕ) → is_unit plan u ≡ true → is_unit plan v ≡ true → (w.stations v).on ≡ true
      → (list : List Item) → w.claims u v ≡ list → (new : World) → GivenFrom (units_of plan) w u v list new → HoldsIn new
  given_from w here u v unit_u unit_v on [] is new never = absurd never
  given_from w here u v unit_u unit_v on (item ∷ rest) is new (says, s, reacts, e) =
      elim (cases_Bool (claims_at plan v)) [
        | inl claims ↦
            subst HoldsIn (sym e) (keeps.given w.stations w.claims here u v unit_u unit_v on claims item rest is says s (MatchBool-at_true _ _ claims reacts))
        | inr silent ↦
            let nothing = MatchBool-at_false _ _ silent reacts in
            subst HoldsIn (sym e) (when_passed Holds w.stations w.claims u v rest says s nothing.0 nothing.1
            (keeps.passed_over w.stations w.claims here u v unit_u unit_v on silent item rest is))
      ]

  -- ---- a unit is switched on, or asks

  up_from : (w : World) → HoldsIn w → (u : ℕ) → is_unit plan u ≡ true
      → let new : Stations = changed w.stations u (started (unit_at (units_of plan) u)) in
      Holds new (sent_to_others new (without_lists_to u w.claims) u (first_items (unit_at (units_of plan) u)))
  up_from w here u unit =
      let p : PlannedUnit = unit_at (units_of plan) u in
      let new : Stations = changed w.stations u (started p) in
      let Stated_of : List Item → Type 0 = λ items. Holds new (sent_to_others new (without_lists_to u w.claims) u items) in
      elim (cases_Bool (claims_at plan u)) [
        | inl claims ↦ subst Stated_of (sym (first_said p claims)) (keeps.switched_on w.stations w.claims here u unit claims)
        | inr silent ↦
            subst Stated_of (sym (first_silent p silent)) (subst (Holds new) (sym (stated_nothing new (without_lists_to u w.claims) u))
            (keeps.switched_on_silently w.stations w.claims here u unit silent))
      ]

  ask_from : (w : World) → HoldsIn w → (u : ℕ) → is_unit plan u ≡ true → (w.stations u).on ≡ true
      → Holds w.stations (sent_to_others w.stations w.claims u (asking_items (said_by (unit_at (units_of plan) u) (claim_of (w.stations u).address))))
  ask_from w here u unit on =
      let p : PlannedUnit = unit_at (units_of plan) u in
      let say : Say = claim_of (w.stations u).address in
      let Stated_of : List Item → Type 0 = λ items. Holds w.stations (sent_to_others w.stations w.claims u items) in
      elim (cases_Bool (claims_at plan u)) [
        | inl claims ↦ subst Stated_of (sym (asking_said p say claims)) (keeps.asked w.stations w.claims here u unit claims on)
        | inr silent ↦ subst Stated_of (sym (asking_silent p say silent)) (subst (Holds w.stations) (sym (stated_nothing w.stations w.claims u)) here)
      ]

  -- ---- the steps of transfers change no state, and nothing of what claimers have sent each other

  begun : (w : World) → HoldsIn w → (count f : ℕ) (flow : Option Flow) (bytes : List ℕ) (new : World) → BeginsAt count w f flow bytes new → HoldsIn new
  begun w here count f None bytes new never = absurd never
  begun w here count f (Some flow) bytes new e = subst HoldsIn (sym e) here

  sent : (w : World) → HoldsIn w → (count f : ℕ) (flow : Option Flow) (bytes : List ℕ) (new : World) → SendsAt count w f flow bytes new → HoldsIn new
  sent w here count f None bytes new never = absurd never
  sent w here count f (Some flow) bytes new e = subst HoldsIn (sym e) here

  taken : (w : World) → HoldsIn w → (windows : List ℕ) (u v : ℕ) (items : List Wired) (new : World) → TakenFrom windows w u v items new → HoldsIn new
  taken w here windows u v [] new never = absurd never
  taken w here windows u v (wired.Short bytes ∷ rest) new e = subst HoldsIn (sym e) here
  taken w here windows u v (wired.Packet p ∷ rest) new (reports, reported, e) = subst HoldsIn (sym e) here
  taken w here windows u v (wired.Alone f bytes ∷ rest) new e = subst HoldsIn (sym e) here

  lost : (w : World) → HoldsIn w → (u v : ℕ) (items : List Wired) (new : World) → LostFrom w u v items new → HoldsIn new
  lost w here u v [] new never = absurd never
  lost w here u v (item ∷ rest) new e = subst HoldsIn (sym e) here

  -- ---- each step

  pub claim_steps_keep : IsPreserved plan HoldsIn
  claim_steps_keep w here (Up u) allowed new e =
      let (known, more) = none_refuses plan w (Up u) allowed in
      subst HoldsIn (sym e) (up_from w here u (not-false _ known))
  claim_steps_keep w here (Down u) allowed new e = subst HoldsIn (sym e) (keeps.switched_off w.stations w.claims here u)
  claim_steps_keep w here (Give u v) allowed new leads =
      let (known, (on, more)) = none_refuses plan w (Give u v) allowed in
      let units = units_known plan u v known in
      given_from w here u v units.0 units.1 (not-false _ on) (w.claims u v) refl new leads
  claim_steps_keep w here (Ask u) allowed new e =
      let (known, (on, more)) = none_refuses plan w (Ask u) allowed in
      subst HoldsIn (sym e) (ask_from w here u (not-false _ known) (not-false _ on))
  claim_steps_keep w here (Begin f bytes) allowed new leads = begun w here (count_of plan) f (slice_get (flows_of plan) f) bytes.items new leads
  claim_steps_keep w here (Send f bytes) allowed new leads = sent w here (count_of plan) f (slice_get (flows_of plan) f) bytes.items new leads
  claim_steps_keep w here (Emit u) allowed new (s, p, session, next, e) = subst HoldsIn (sym e) here
  claim_steps_keep w here (Take u v) allowed new leads = taken w here (windows_of plan) u v (w.wire u v) new leads
  claim_steps_keep w here (Lose u v) allowed new leads = lost w here u v (w.wire u v) new leads
  claim_steps_keep w here (LateSender u) allowed new (s, p, session, packet, e) = subst HoldsIn (sym e) here
  claim_steps_keep w here (LateReceiver u v) allowed new e = subst HoldsIn (sym e) here
  claim_steps_keep w here (Rest u) allowed new e = subst HoldsIn (sym e) here
