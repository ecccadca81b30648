-- Units alone are on and send, and, of a plan that isn't live, no claim is sent while a message is.
use Rattle.std.proofs.Common.{◌≡◌, ◌≢◌, ℕ, suc, arith, Bool, true, false, not, ◌&&◌, ◌==◌, ltb, List, [], ◌∷◌, length, refl, sym, subst, Option, Some, None}
use Rattle.std.proofs.lemmas.Bool.{eqb-true, and_parts, not-false}
use Rattle.std.specs.List.{list_all, range_with_len}
use Rattle.std.specs.Option.{is_some}
use Rattle.j39_claim.specs.declared.item.Item.{Item}
use Rattle.j39_network.specs.declared.plan.Plan.{Plan}
use Rattle.j39_network.specs.declared.plan.to.To.{To}
use Rattle.j39_network.specs.declared.plan.to.To.TheVariants.{One}
use Rattle.j39_world.specs.Run.{both, count_of, is_nothing_undelivered}
use Rattle.j39_run_laws.proofs.Runs.Conditions.{is_unit}
use Rattle.j39_world.specs.Transfers.{Outgoing, Sessions, is_among}
use Rattle.j39_world.specs.World.{Stations, Undelivered, changed, changed_pair}
use Rattle.j39_run_laws.proofs.Runs.Changed.{changed_each, pair_each}
use Rattle.j39_run_laws.proofs.Runs.SwitchedOff.{unless_live}
use Rattle.j39_run_laws.proofs.Runs.Units.{AreUnitsOn, AreBetweenUnits, units_all}

-- a unit sends, to other units, and to the one alone where it sends to one and that one is on still
pub record IsPlanned (plan : Plan) (u : ℕ) (to : To) (targets : List ℕ) : Type 0 where
  pub unit : is_unit plan u ≡ true
  pub others : (v : ℕ) → is_among targets v ≡ true → (is_unit plan v ≡ true) × (v ≢ u)
  pub one : (v x : ℕ) → to ≡ One v → is_among targets x ≡ true → x ≡ v

abbrev pub PlannedAt : Plan → ℕ → Option Outgoing → Type 0
PlannedAt plan u None = Unit {0}
PlannedAt plan u (Some s) = IsPlanned plan u s.to s.targets

-- nothing is undelivered while it is sent
abbrev pub DeliveredBefore : Undelivered → Option Outgoing → Type 0
DeliveredBefore claims None = Unit {0}
DeliveredBefore claims (Some o) = (s t : ℕ) → claims s t ≡ []

pub record IsOrderly (plan : Plan) (stations : Stations) (claims : Undelivered) (sessions : Sessions) : Type 0 where
  pub units : AreUnitsOn plan stations
  pub between : AreBetweenUnits plan claims
  pub planned : (u : ℕ) → PlannedAt plan u (sessions u)
  pub delivered : plan.live ≡ false → (u : ℕ) → DeliveredBefore claims (sessions u)

empty_list : {X : Type 0} (xs : List X) → (length xs == 0) ≡ true → xs ≡ []
empty_list [] e = refl
empty_list (x ∷ xs) e = let zero_is : suc (length xs) ≡ 0 = eqb-true (suc (length xs)) 0 e in absurd (omega arith)

-- nothing is undelivered between two units
pub nothing_between : {X : Type 0} (plan : Plan) (lists : ℕ → ℕ → List X) → is_nothing_undelivered (count_of plan) lists ≡ true → (s t : ℕ)
    → is_unit plan s ≡ true → is_unit plan t ≡ true → lists s t ≡ []
nothing_between plan lists none s t unit_s unit_t =
    let is_empty : ℕ → ℕ → Bool = λ x y. length (lists x y) == 0 in
    let of_s = units_all plan (λ x. list_all (is_empty x) (range_with_len 0 (count_of plan))) none s unit_s in
    empty_list (lists s t) (units_all plan (is_empty s) of_s t unit_t)

module _ (plan : Plan) (stations : Stations) (claims : Undelivered) (sessions : Sessions) (o : IsOrderly plan stations claims sessions) where
  -- ---- no message is sent

  none_open : (u : ℕ) (s : Option Outgoing) → sessions u ≡ s → ((v : ℕ) → is_unit plan v ≡ true → not (is_some (sessions v)) ≡ true) → s ≡ None
  none_open u None e closed = refl
  none_open u (Some s) e closed =
      let p : IsPlanned plan u s.to s.targets = subst (PlannedAt plan u) e (o.planned u) in
      let open_is : not (is_some (Some s)) ≡ true = subst (λ (x : Option Outgoing). not (is_some x) ≡ true) e (closed u p.unit) in
      absurd (cc open_is)

  pub none_sends : ((v : ℕ) → is_unit plan v ≡ true → not (is_some (sessions v)) ≡ true) → (u : ℕ) → sessions u ≡ None
  none_sends closed u = none_open u (sessions u) refl closed

  none_while : plan.live ≡ false → (u : ℕ) (s : Option Outgoing) → sessions u ≡ s → (x y : ℕ) → ltb 0 (length (claims x y)) ≡ true → s ≡ None
  none_while quiet u None e x y some = refl
  none_while quiet u (Some s) e x y some =
      let all : DeliveredBefore claims (Some s) = subst (DeliveredBefore claims) e (o.delivered quiet u) in
      let empty : claims x y ≡ [] = all x y in
      let open_is : ltb 0 (length {A = Item} []) ≡ true = subst (λ (items : List Item). ltb 0 (length items) ≡ true) empty some in
      absurd (cc open_is)

  pub none_sends_while : plan.live ≡ false → (x y : ℕ) → ltb 0 (length (claims x y)) ≡ true → (u : ℕ) → sessions u ≡ None
  none_sends_while quiet x y some u = none_while quiet u (sessions u) refl x y some

  -- ---- what units claim, while no message is sent, unless the plan is live

  pub claims_keep : (plan.live ≡ false → (u : ℕ) → sessions u ≡ None) → (new : Stations) → AreUnitsOn plan new → (more : Undelivered)
      → AreBetweenUnits plan more
      → IsOrderly plan new more sessions
  claims_keep none new on more between = record {
    units = on;
    between = between;
    planned = o.planned;
    delivered = λ quiet u. subst (DeliveredBefore more) (sym (none quiet u)) tt;
  }

  pub less_between : (u v : ℕ) (rest : List Item) → is_unit plan u ≡ true → is_unit plan v ≡ true → AreBetweenUnits plan (changed_pair claims u v rest)
  less_between u v rest unit_u unit_v = pair_each (λ s t (xs : List Item). both (is_unit plan) s t ≡ false → xs ≡ []) claims u v rest
      (λ outside. absurd (let inside : both (is_unit plan) u v ≡ true = rw (unit_u, unit_v) refl in cc (inside, outside))) o.between

  -- ---- what a unit sends

  pub sessions_keep : (u : ℕ) (s : Option Outgoing) → PlannedAt plan u s → (plan.live ≡ false → DeliveredBefore claims s)
      → IsOrderly plan stations claims (changed sessions u s)
  sessions_keep u s planned delivered = record {
    units = o.units;
    between = o.between;
    planned = changed_each (PlannedAt plan) sessions u s planned o.planned;
    delivered = λ quiet. changed_each (λ _ x. DeliveredBefore claims x) sessions u s (delivered quiet) (o.delivered quiet);
  }

  -- nothing is undelivered at all, where nothing is between units
  pub all_delivered : is_nothing_undelivered (count_of plan) claims ≡ true → (s t : ℕ) → claims s t ≡ []
  all_delivered none s t =
      elim (both (is_unit plan) s t) as (λ b. both (is_unit plan) s t ≡ b → claims s t ≡ []) [
        | false ↦ λ outside. o.between s t outside
        | true ↦ λ inside.
            let units = and_parts (is_unit plan s) (is_unit plan t) inside in
            nothing_between plan claims none s t units.0 units.1
      ] refl

  -- so it is where a plan that isn't live refuses no Begin and no Send for what is undelivered
  pub delivered_at : (not plan.live && not (is_nothing_undelivered (count_of plan) claims)) ≡ false → plan.live ≡ false → (s t : ℕ) → claims s t ≡ []
  delivered_at stated quiet = all_delivered (not-false _ (unless_live plan.live (not (is_nothing_undelivered (count_of plan) claims)) quiet stated))
