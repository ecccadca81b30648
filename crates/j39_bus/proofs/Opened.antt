-- A new bus stands for the first world.
use Rattle.std.proofs.Common.{◌≡◌, ℕ, zero, suc, ◌+◌, ◌<◌, ◌≤◌, List, [], ◌∷◌, ◌++◌, length, map, take, get_or, replicate, refl, sym}
use Rattle.std.proofs.Common.{ap, ◌∙◌, subst, arith, true, false, Option, Some, None}
use Rattle.std.proofs.lemmas.Bool.{false≢true, true≢false}
use Rattle.std.proofs.lemmas.Option.{same_Some}
use Rattle.std.proofs.lemmas.List.{length-replicate, map_more}
use Rattle.std.specs.List.{slice_get}
use Rattle.std.specs.Option.{is_some}
use Rattle.std.specs.Ordering.{nat_cmp}
use Rattle.std.specs.FinMap.{get, get-empty}
use Rattle.std.specs.FinSet.{FinSet}
use Rattle.j39_claim.specs.ClaimRule.{PlannedUnit, ClaimState, off}
use Rattle.j39_claim.specs.ClaimerValue.{ClaimerValue}
use Rattle.j39_network.specs.Kinds.{MayBeOne, MayBeOneAt, may_be_one}
use Rattle.j39_network.specs.declared.plan.Plan.{Plan}
use Rattle.j39_network.specs.declared.plan.unit_plan.UnitPlan.{UnitPlan}
use Rattle.j39_network.proofs.Served.{Decides-may_be_one}
use Rattle.j39_claim.specs.declared.item.Item.{Item}
use Rattle.j39_network.specs.PlannedUnits.{planned_unit}
use Rattle.j39_world.specs.Transfers.{Outgoing}
use Rattle.j39_bus.specs.BusState.{session_at}
use Rattle.j39_bus.specs.Stations.{unstarted, station_at}
use Rattle.j39_bus.specs.inside.Network.{IsWellFormed, planned_units}
use Rattle.j39_bus.specs.inside.KeptMessages.{AreSessions}
use Rattle.j39_bus.proofs.ChangedSessions.{none_some}
use Rattle.j39_bus.specs.Queued.{IsTable}

pub station_unstarted : (kept : FinSet nat_cmp) (units : List UnitPlan) (u : ℕ) → station_at (map (unstarted kept) units) u ≡ off
station_unstarted kept [] u = refl
station_unstarted kept (p ∷ units) zero = refl
station_unstarted kept (p ∷ units) (suc u) = station_unstarted kept units u

pub planned_units-unstarted : (kept : FinSet nat_cmp) (units : List UnitPlan) → planned_units (map (unstarted kept) units) ≡ map (planned_unit kept) units
planned_units-unstarted kept [] = refl
planned_units-unstarted kept (p ∷ units) = ap (λ (cs : List PlannedUnit). planned_unit kept p ∷ cs) (planned_units-unstarted kept units)

length-unstarted : (kept : FinSet nat_cmp) (units : List UnitPlan) → length (map (unstarted kept) units) ≡ length units
length-unstarted kept [] = refl
length-unstarted kept (p ∷ units) = omega (arith, length-unstarted kept units)

pub length_opened : (kept : FinSet nat_cmp) (units : List UnitPlan) (cs : List ClaimerValue) → cs ≡ map (unstarted kept) units → length cs ≡ length units
length_opened kept units cs is = ap length is ∙ length-unstarted kept units

-- units that are not started
pub well_opened : (kept : FinSet nat_cmp) (units : List UnitPlan) → length units ≤ 128 → (cs : List ClaimerValue) (lists : List (List (List Item)))
    → cs ≡ map (unstarted kept) units → IsTable (length units) lists → IsWellFormed cs lists
well_opened kept units few cs lists cs_is table = record {
  few = omega (arith, length_opened kept units cs cs_is, few);
  table = subst (λ (n : ℕ). IsTable n lists) (sym (length_opened kept units cs cs_is)) table;
  notes = λ v n h. absurd (true≢false
      (sym h ∙ ap is_some (ap (λ (s : ClaimState). get s.notes n) (ap (λ (l : List ClaimerValue). station_at l v) cs_is ∙ station_unstarted kept units v)
      ∙ get-empty nat_cmp n)));
}

-- one more of what is made of each
pub mapped_more : {X Y : Type 0} (f : X → Y) (xs : List X) (k : ℕ) (x : X) → k < length xs → (old new : List Y) (y : Y) → new ≡ old ++ y ∷ []
    → old ≡ map f (take k xs) → y ≡ f (get_or xs k x) → new ≡ map f (take (k + 1) xs)
mapped_more f xs k x inside old new y added was is = added ∙ (λ i. was i ++ is i ∷ []) ∙ sym (map_more f xs k x inside)

-- one more of the same
pub replicate_more : {X : Type 0} (n : ℕ) (x : X) → replicate n x ++ x ∷ [] ≡ replicate (suc n) x
replicate_more zero x = refl
replicate_more (suc n) x = ap (λ xs. x ∷ xs) (replicate_more n x)

-- no unit sends anything
pub none_sent : (n u : ℕ) → session_at (replicate n None) u ≡ None
none_sent zero u = refl
none_sent (suc n) zero = refl
none_sent (suc n) (suc u) = none_sent n u

pub sessions_first : (n : ℕ) (list : List (Option Outgoing)) → list ≡ replicate n None → AreSessions n list
sessions_first n list is = record {
  count = ap length is ∙ length-replicate n None;
  each = λ u s at. absurd (none_some s (sym (ap (λ l. session_at l u) is ∙ none_sent n u) ∙ at));
}

-- the value at a place
pub got : {X : Type 0} (xs : List X) (i : ℕ) (x : X) → i < length xs → x ≡ get_or xs i x → slice_get xs i ≡ Some x
got [] i x inside is = absurd (omega arith)
got (y ∷ xs) zero x inside is = ap Some (sym is)
got (y ∷ xs) (suc i) x inside is = got xs i x (omega arith) is

-- ---- units that may be one

pub one_at : (plan : Plan) (i j : ℕ) (u v : UnitPlan) → i < j → slice_get plan.units.items i ≡ Some u → slice_get plan.units.items j ≡ Some v
    → may_be_one u v ≡ true → MayBeOneAt plan i j
one_at plan i j u v below first second one =
    record { first = u; second = v; below = below; first_is = first; second_is = second; related = (Decides-may_be_one u v).0 one }

pub not_one_at : (plan : Plan) (i j : ℕ) (u v : UnitPlan) → slice_get plan.units.items i ≡ Some u → slice_get plan.units.items j ≡ Some v
    → may_be_one u v ≡ false → ¬ MayBeOneAt plan i j
not_one_at plan i j u v first second none pair =
    let P : UnitPlan → Type 0 = λ x. MayBeOne x pair.second in
    let Q : UnitPlan → Type 0 = λ y. MayBeOne u y in
    let one : MayBeOne u pair.second = subst P (same_Some _ _ (sym pair.first_is ∙ first)) pair.related in
    let both : MayBeOne u v = subst Q (same_Some _ _ (sym pair.second_is ∙ second)) one in
    false≢true (sym none ∙ (Decides-may_be_one u v).1 both)
