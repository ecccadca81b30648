-- What changes of a network keep of its form.
use Rattle.std.proofs.Common.{◌≡◌, ℕ, ◌<◌, ◌≤◌, Bool, true, false, not, ◌&&◌, eqb, List, length, get_or, set, refl, sym, ap, ◌∙◌, subst, arith, inl, inr}
use Rattle.std.proofs.Common.{Option}
use Rattle.std.proofs.Math.ListN.{length-set}
use Rattle.std.proofs.lemmas.Bool.{cases_eq, eq-eqb, ne_eqb, cond-true, cond-false, true≢false}
use Rattle.std.specs.Option.{is_some}
use Rattle.std.specs.Ordering.{nat_cmp}
use Rattle.std.specs.FinMap.{empty, get, get-empty}
use Rattle.j39_claim.specs.declared.item.Say.{Say}
use Rattle.j39_claim.specs.declared.item.Item.{Item}
use Rattle.j39_claim.specs.ClaimRule.{ClaimState}
use Rattle.j39_claim.specs.ClaimerValue.{ClaimerValue}
use Rattle.j39_bus.specs.Stations.{absent_unit, station_at}
use Rattle.j39_world.specs.World.{changed, is_other_on}
use Rattle.j39_bus.specs.inside.Network.{has_unit_named, IsWellFormed, HasAnswered}
use Rattle.j39_bus.specs.Queued.{IsTable}
use Rattle.j39_bus.proofs.Room.{named-set, noted_then}
use Rattle.std.proofs.lemmas.List.{get_or_past}
use Rattle.j39_bus.proofs.Worlds.{any_default, station_set}

-- a unit that has noted only units' NAMEs takes the place of another
well_set : (cs : List ClaimerValue) (lists : List (List (List Item))) → IsWellFormed cs lists → (v : ℕ) → v < length cs → (c : ClaimerValue)
    → c.planned ≡ (get_or cs v absent_unit).planned
    → ((n : ℕ) → is_some (get c.state.notes n) ≡ true → has_unit_named cs n ≡ true)
    → (left : List (List (List Item))) → IsTable (length cs) left → IsWellFormed (set cs v c) left
well_set cs lists well v inside c same notes left table = record {
  few = omega (arith, length-set cs v c, well.few);
  table = subst (λ (n : ℕ). IsTable n left) (sym (length-set cs v c)) table;
  notes = λ x n h. named-set cs v c n same ∙ old x n (sym (ap (λ (s : ClaimState). is_some (get s.notes n)) (station_set cs v c x inside)) ∙ h);
}
  where
    old : (x n : ℕ) → is_some (get (changed (station_at cs) v c.state x).notes n) ≡ true → has_unit_named cs n ≡ true
    old x n h = elim (cases_eq x v) [
      | inl is ↦ notes n (sym (ap (λ (s : ClaimState). is_some (get s.notes n)) (cond-true (eqb x v) c.state (station_at cs x) (eq-eqb x v is))) ∙ h)
      | inr other ↦ well.notes x n (sym (ap (λ (s : ClaimState). is_some (get s.notes n)) (cond-false (eqb x v) c.state (station_at cs x) (ne_eqb x v other)))
          ∙ h)
    ]

-- a unit sends to the others
pub well_stated : (cs : List ClaimerValue) (lists : List (List (List Item))) → IsWellFormed cs lists
    → (same : List ClaimerValue) (more : List (List (List Item))) → same ≡ cs → IsTable (length cs) more → IsWellFormed same more
well_stated cs lists well same more same_is table =
    subst (λ (l : List ClaimerValue). IsWellFormed l more) (sym same_is) (record { few = well.few; table = table; notes = well.notes })

-- a unit is switched on
pub well_on : (cs : List ClaimerValue) (lists : List (List (List Item))) → IsWellFormed cs lists → (u : ℕ) → u < length cs → (c : ClaimerValue)
    → c.planned ≡ (get_or cs u absent_unit).planned
    → c.state.notes ≡ empty → (left : List (List (List Item))) → IsTable (length lists) left → IsWellFormed (set cs u c) left
well_on cs lists well u inside c same none left table =
    well_set cs lists well u inside c same (λ n h. absurd (true≢false (sym h ∙ ap is_some (ap (λ m. get m n) none ∙ get-empty nat_cmp n)))) left
    (subst (λ (n : ℕ). IsTable n left) well.table.rows table)

-- a unit has heard an item under one of the NAMEs
pub well_heard : (cs : List ClaimerValue) (lists : List (List (List Item))) → IsWellFormed cs lists → (v : ℕ) → v < length cs → (name : ℕ)
    → has_unit_named cs name ≡ true
    → (item : Item) (says : Option Say) (new : List ClaimerValue) → HasAnswered cs v name item says new
    → (left : List (List (List Item))) → IsTable (length lists) left → IsWellFormed new left
well_heard cs lists well v inside name is_one item says new (s, is, answers) left table =
    subst (λ (l : List ClaimerValue). IsWellFormed l left) (sym is)
    (well_set cs lists well v inside (record (get_or cs v absent_unit) { state = s }) refl
    (λ n h. elim (noted_then (get_or cs v absent_unit).planned (station_at cs v) name item says s answers n h) [
      | inl same ↦ rw same is_one
      | inr old ↦ well.notes v n old
    ]) left (subst (λ (n : ℕ). IsTable n left) well.table.rows table))

-- whether a unit that was looked at hears another
pub hears_as : (cs : List ClaimerValue) (u k : ℕ) (c : ClaimerValue) → k < length cs → c ≡ get_or cs k c → (a b : Bool) → c.state.on ≡ a → eqb k u ≡ b
    → is_other_on (station_at cs) u k ≡ (a && not b)
hears_as cs u k c inside at a b on same = λ i. (ap (λ (x : ClaimerValue). x.state.on) (sym (at ∙ any_default cs k c absent_unit inside)) ∙ on) i && not (same i)

-- absent_unit hears at a place with no unit
pub hears_none : (cs : List ClaimerValue) (u k : ℕ) → length cs ≤ k → is_other_on (station_at cs) u k ≡ false
hears_none cs u k past = ap (λ (c : ClaimerValue). c.state.on && not (eqb k u)) (get_or_past cs k absent_unit (omega (arith, past)))
