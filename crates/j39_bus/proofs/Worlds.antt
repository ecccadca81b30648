-- The world of a network after each change of it.
use Rattle.std.proofs.Common.{◌≡◌, ℕ, zero, suc, ◌<◌, Bool, true, false, cond, not, ◌&&◌, eqb, List, [], ◌∷◌, ◌++◌, length, get_or, set, refl, ap, ◌∙◌}
use Rattle.std.proofs.Common.{arith, inl, inr, get_or-set_other, get_or-set_same}
use Rattle.std.proofs.lemmas.Bool.{cases_eq, eq-eqb, ne_eqb}
use Rattle.j39_claim.specs.declared.item.Item.{Item}
use Rattle.j39_claim.specs.ClaimRule.{PlannedUnit}
use Rattle.j39_claim.specs.ClaimerValue.{ClaimerValue}
use Rattle.j39_network.specs.PlannedUnits.{unit_at}
use Rattle.j39_world.specs.Sent.{Sent, frame_of}
use Rattle.j39_world.specs.World.{World, Undelivered, changed}
use Rattle.j39_world.specs.ClaimSteps.{send_to_others}
use Rattle.j39_bus.specs.Stations.{absent_unit, station_at}
use Rattle.j39_bus.specs.inside.Network.{planned_units}

pub append_nil : {X : Type 0} (xs : List X) → xs ++ [] ≡ xs
append_nil [] = refl
append_nil (x ∷ xs) = ap (λ zs. x ∷ zs) (append_nil xs)

pub any_default : {X : Type 0} (xs : List X) (i : ℕ) (d e : X) → i < length xs → get_or xs i d ≡ get_or xs i e
any_default [] i d e inside = absurd (omega arith)
any_default (x ∷ xs) zero d e inside = refl
any_default (x ∷ xs) (suc i) d e inside = any_default xs i d e (omega arith)

pub unit_at-planned_units : (cs : List ClaimerValue) (u : ℕ) → unit_at (planned_units cs) u ≡ (get_or cs u absent_unit).planned
unit_at-planned_units [] u = refl
unit_at-planned_units (c ∷ cs) zero = refl
unit_at-planned_units (c ∷ cs) (suc u) = unit_at-planned_units cs u

-- a world with these units, undelivered items and frames
abbrev pub world : World → List ClaimerValue → Undelivered → List Sent → World
world b cs claims fs = record b { stations = station_at cs; claims = claims; frames = fs }

-- one unit's state is another
pub at_set : (cs : List ClaimerValue) (v : ℕ) (c : ClaimerValue) (x : ℕ) → v < length cs
    → get_or (set cs v c) x absent_unit ≡ cond (eqb x v) c (get_or cs x absent_unit)
at_set cs v c x inside = elim (cases_eq x v) [
  | inl same ↦ rw (same, eq-eqb v v refl, get_or-set_same)
  | inr other ↦ rw (ne_eqb x v other, get_or-set_other)
]

pub station_set : (cs : List ClaimerValue) (v : ℕ) (c : ClaimerValue) (x : ℕ) → v < length cs → station_at (set cs v c) x ≡ changed (station_at cs) v c.state x
station_set cs v c x inside = ap (λ (e : ClaimerValue). e.state) (at_set cs v c x inside) ∙ out (eqb x v)
  where
    out : (b : Bool) → (cond b c (get_or cs x absent_unit)).state ≡ cond b c.state (get_or cs x absent_unit).state
    out true = refl
    out false = refl

-- a unit that has changed claims as before
pub planned_units-set : (cs : List ClaimerValue) (v : ℕ) (c : ClaimerValue) → c.planned ≡ (get_or cs v absent_unit).planned
    → planned_units (set cs v c) ≡ planned_units cs
planned_units-set [] v c same = refl
planned_units-set (d ∷ cs) zero c same = ap (λ (x : PlannedUnit). x ∷ planned_units cs) same
planned_units-set (d ∷ cs) (suc v) c same = ap (λ (xs : List PlannedUnit). d.planned ∷ xs) (planned_units-set cs v c same)

-- once one unit is another
pub world_set : (b : World) (cs : List ClaimerValue) (claims : Undelivered) (fs : List Sent) (u : ℕ) (c : ClaimerValue) → u < length cs
    → world b (set cs u c) claims fs ≡ record b { stations = changed (station_at cs) u c.state; claims = claims; frames = fs }
world_set b cs claims fs u c inside = λ i. record b { stations = λ x. station_set cs u c x inside i; claims = claims; frames = fs }

-- to send nothing changes nothing
pub stated_nothing : (units : List PlannedUnit) (w : World) (u : ℕ) → send_to_others units w u [] ≡ w
stated_nothing units w u = λ i. record w {
  claims = λ s t. either (eqb s u && ((w.stations t).on && not (eqb t u))) (w.claims s t) i;
  frames = append_nil w.frames i;
}
  where
    either : (b : Bool) (xs : List Item) → cond b (xs ++ []) xs ≡ xs
    either true xs = append_nil xs
    either false xs = refl

-- to send two items is to send one after the other
pub stated_twice : (units : List PlannedUnit) (w : World) (u : ℕ) (x y : Item) → send_to_others units (send_to_others units w u (x ∷ [])) u
    (y ∷ []) ≡ send_to_others units w u (x ∷ y ∷ [])
stated_twice units w u x y = λ i. record w {
  claims = λ s t. both (eqb s u && ((w.stations t).on && not (eqb t u))) (w.claims s t) i;
  frames = appended w.frames (frame_of (unit_at units u).name (w.stations u).address x) (frame_of (unit_at units u).name (w.stations u).address y) i;
}
  where
    appended : {X : Type 0} (xs : List X) (a b : X) → (xs ++ a ∷ []) ++ b ∷ [] ≡ xs ++ a ∷ b ∷ []
    appended [] a b = refl
    appended (z ∷ xs) a b = ap (λ zs. z ∷ zs) (appended xs a b)

    both : (c : Bool) (xs : List Item) → cond c (cond c (xs ++ x ∷ []) xs ++ y ∷ []) (cond c (xs ++ x ∷ []) xs) ≡ cond c (xs ++ x ∷ y ∷ []) xs
    both true xs = appended xs x y
    both false xs = refl
