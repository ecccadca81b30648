-- Delays of one bus after another.
use Rattle.std.proofs.Common.{◌≡◌, ℕ, zero, suc, ◌+◌, ◌<◌, List, [], ◌∷◌, ◌++◌, length, Option, Some, refl, sym, ap, ◌∙◌, subst, inl, inr, arith}
use Rattle.std.specs.List.{slice_get}
use Rattle.std.specs.Option.{option_map_or}
use Rattle.std.specs.declared.alloc.Global.{Global}
use Rattle.std.specs.declared.vec.Vec.{Vec}
use Rattle.std.proofs.lemmas.Bool.{cases_lt}
use Rattle.std.proofs.lemmas.List.{length-append}
use Rattle.std.proofs.lemmas.Option.{same_Some, slice_get_within}
use Rattle.j39_load.specs.BusTimes.{timing_of}
use Rattle.j39_vehicle_times.specs.BusDelays.{AreDelays, AreDelaysOn}
use Rattle.j39_load.specs.declared.waits.delay.Delay.{Delay}
use Rattle.j39_vehicle.specs.declared.vehicle.Vehicle.{Vehicle}
use Rattle.j39_vehicle.specs.declared.vehicle.bus_plan.BusPlan.{BusPlan}
use Rattle.j39_vehicle_times.specs.declared.bus_delays.Delays.{Delays}

abbrev pub Stated : Type 0
Stated = Vec (Option Delay) Global

abbrev pub stated_at : List Stated → ℕ → List (Option Delay)
stated_at stated b = option_map_or (λ (t : Stated). t.items) (slice_get stated b) []

-- those of the first buses
pub record AreSoFar (buses : List BusPlan) (stated : List Stated) : Type 0 where
  pub each : (b : ℕ) (bus : BusPlan) → b < length stated → slice_get buses b ≡ Some bus → AreDelaysOn bus.plan (timing_of bus.plan) (stated_at stated b)

pub none_stated : (buses : List BusPlan) (stated : List Stated) → stated ≡ [] → AreSoFar buses stated
none_stated buses stated none = record { each = λ b bus less is. let over = ap length none in absurd (omega arith) }

-- those of all buses
pub all_stated : (v : Vehicle) (delays : Delays) → length delays.of_buses.items ≡ length v.buses.items → AreSoFar v.buses.items delays.of_buses.items
    → AreDelays v delays
all_stated v delays count stated = record {
  count = count;
  each = λ b bus is. let less = slice_get_within v.buses.items b bus is in stated.each b bus (omega arith) is;
}

kept_at : {A : Type 0} (xs : List A) (y : A) (b : ℕ) → b < length xs → slice_get (xs ++ y ∷ []) b ≡ slice_get xs b
kept_at [] y b less = absurd (omega arith)
kept_at (x ∷ xs) y zero less = refl
kept_at (x ∷ xs) y (suc b) less = kept_at xs y b (omega arith)

added_at : {A : Type 0} (xs : List A) (y : A) → slice_get (xs ++ y ∷ []) (length xs) ≡ Some y
added_at [] y = refl
added_at (x ∷ xs) y = added_at xs y

pub length_more : {A : Type 0} (xs : List A) (y : A) → length (xs ++ y ∷ []) ≡ length xs + 1
length_more xs y = length-append xs (y ∷ [])

pub one_more : (buses : List BusPlan) (stated : List Stated) (next : Stated) (bus : BusPlan) → AreSoFar buses stated
    → slice_get buses (length stated) ≡ Some bus
    → AreDelaysOn bus.plan (timing_of bus.plan) next.items → AreSoFar buses (stated ++ next ∷ [])
one_more buses stated next bus before is on = record {
  each = λ b other less at. elim (cases_lt b (length stated)) [
    | inl within ↦
        subst (AreDelaysOn other.plan (timing_of other.plan))
        (sym (ap (λ (o : Option Stated). option_map_or (λ (t : Stated). t.items) o []) (kept_at stated next b within))) (before.each b other within at)
    | inr over ↦
        let more : b < length (stated ++ next ∷ []) = less in
        let now : b ≡ length stated = omega (arith, length_more stated next) in
        let same : bus ≡ other = same_Some _ _ (sym is ∙ ap (slice_get buses) (sym now) ∙ at) in
        let there : stated_at (stated ++ next ∷ []) b ≡ next.items =
        ap (λ n. stated_at (stated ++ next ∷ []) n) now ∙ ap (λ (o : Option Stated). option_map_or (λ (t : Stated). t.items) o []) (added_at stated next) in
        subst (AreDelaysOn other.plan (timing_of other.plan)) (sym there)
        (subst (λ (x : BusPlan). AreDelaysOn x.plan (timing_of x.plan) next.items) same on)
  ];
}
