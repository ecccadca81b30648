-- What the tables of a vehicle report.
use Rattle.std.proofs.Common.{◌≡◌, ℕ, zero, suc, ◌+◌, ◌<◌, ◌≤◌, ◌==◌, ◌⊎◌, ◌&&◌, List, [], ◌∷◌, ◌++◌, Bool, true, false, None, length, refl, sym, ◌∙◌, ap, inl}
use Rattle.std.proofs.Common.{inr, arith}
use Rattle.std.specs.declared.alloc.Global.{Global}
use Rattle.std.specs.declared.vec.Vec.{Vec}
use Rattle.std.specs.List.{find, slice_get}
use Rattle.std.specs.Option.{option_map_or}
use Rattle.std.proofs.lemmas.Bool.{cases_lt, eqb-true}
use Rattle.std.proofs.lemmas.List.{nil_from_length}
use Rattle.std.proofs.lemmas.Option.{slice_get_past}
use Rattle.j39_search.specs.ListPlaces.{each, in_each}
use Rattle.j39_vehicle.specs.declared.vehicle.Vehicle.{Vehicle}
use Rattle.j39_vehicle.specs.declared.vehicle.forward.Forward.{Forward}
use Rattle.j39_vehicle_findings.specs.declared.point.FlowAt.{FlowAt}
use Rattle.j39_vehicle_findings.specs.declared.point.Point.{Point}
use Rattle.j39_vehicle_findings.specs.Buses.{flows_on}
use Rattle.j39_vehicle_findings.specs.ForwardEnds.{output_flows}
use Rattle.j39_vehicle_findings.specs.ForwardTests.{feeds, is_output}
use Rattle.j39_vehicle_findings.specs.PathTables.{carries_at, feeders, row_at, row_of}
use Rattle.j39_vehicle_findings.specs.Traces.{carries, next_forward}
use Rattle.j39_vehicle_findings.proofs.PassingLemmas.{find_passing}

-- ---- rows that are added

-- what stands at a place, where one more value stands at the end
at_push : {A B : Type 0} (f : A → B) (d : B) (xs : List A) (x : A) (i : ℕ) → i < length (xs ++ x ∷ [])
    → ((i < length xs) × (option_map_or f (slice_get (xs ++ x ∷ []) i) d ≡ option_map_or f (slice_get xs i) d))
    ⊎ ((i ≡ length xs) × (option_map_or f (slice_get (xs ++ x ∷ []) i) d ≡ f x))
at_push f d [] x zero less = inr (refl, refl)
at_push f d [] x (suc i) less = absurd (omega arith)
at_push f d (y ∷ ys) x zero less = inl (omega arith, refl)
at_push f d (y ∷ ys) x (suc i) less = elim (at_push f d ys x i (omega arith)) [
  | inl (inside, same) ↦ inl (omega arith, same)
  | inr (at, same) ↦ inr (ap suc at, same)
]

pub one_more_row : (v : Vehicle) (bus : ℕ) (rows : List (Vec ℕ Global)) (row : Vec ℕ Global)
    → ((f : ℕ) → f < length rows → row_at rows f ≡ feeders v (record { bus = bus; flow = f }))
    → row.items ≡ feeders v (record { bus = bus; flow = length rows })
    → (f : ℕ) → f < length (rows ++ row ∷ []) → row_at (rows ++ row ∷ []) f ≡ feeders v (record { bus = bus; flow = f })
one_more_row v bus rows row each is f less = elim (at_push (λ r. r.items) [] rows row f less) [
  | inl (inside, same) ↦ same ∙ each f inside
  | inr (at, same) ↦ same ∙ is ∙ ap (λ n. feeders v (record { bus = bus; flow = n })) (sym at)
]

pub one_more_bus : (v : Vehicle) (buses : List (Vec (Vec ℕ Global) Global)) (rows : Vec (Vec ℕ Global) Global)
    → ((at : FlowAt) → at.bus < length buses → row_of buses at ≡ feeders v at)
    → ((flow : ℕ) → row_at rows.items flow ≡ feeders v (record { bus = length buses; flow = flow }))
    → (at : FlowAt) → at.bus < length (buses ++ rows ∷ []) → row_of (buses ++ rows ∷ []) at ≡ feeders v at
one_more_bus v buses rows each is at less = elim (at_push (λ rs. row_at rs.items at.flow) [] buses rows at.bus less) [
  | inl (inside, same) ↦ same ∙ each at inside
  | inr (last, same) ↦ same ∙ is at.flow ∙ ap (λ n. feeders v (record { bus = n; flow = at.flow })) (sym last)
]

-- ---- flows that aren't there

none_pass : {A B : Type 0} (test : A → Bool) (make : ℕ → B) (i : ℕ) (xs : List A) → ((x : A) → test x ≡ false) → each test make i xs ≡ []
unfolding each in_each
none_pass test make i [] fails = refl
none_pass test make i (x ∷ xs) fails = rw (fails x) (none_pass test make (i + 1) xs fails)

past_feeds : (v : Vehicle) (at : FlowAt) (n : Forward) (b : Bool) → n.output.bus == at.bus ≡ b
    → length (flows_on v.buses.items at.bus) ≤ at.flow → (b && option_map_or (is_output n) (slice_get (output_flows v n) at.flow) false) ≡ false
past_feeds v at n false is past = refl
past_feeds v at n true is past =
    let same : n.output.bus ≡ at.bus = eqb-true n.output.bus at.bus is in
    let none : slice_get (output_flows v n) at.flow ≡ None =
    ap (λ k. slice_get (flows_on v.buses.items k) at.flow) same ∙ slice_get_past (flows_on v.buses.items at.bus) at.flow past in
    ap (λ o. option_map_or (is_output n) o false) none

pub nothing_feeds : (v : Vehicle) (at : FlowAt) → length (flows_on v.buses.items at.bus) ≤ at.flow → feeders v at ≡ []
nothing_feeds v at past = none_pass (feeds v at) (λ n. n) 0 v.forwards.items (λ n. past_feeds v at n (n.output.bus == at.bus) refl past)

pub all_rows : (v : Vehicle) (bus : ℕ) (rows : List (Vec ℕ Global)) → length (flows_on v.buses.items bus) ≤ length rows
    → ((f : ℕ) → f < length rows → row_at rows f ≡ feeders v (record { bus = bus; flow = f }))
    → (f : ℕ) → row_at rows f ≡ feeders v (record { bus = bus; flow = f })
all_rows v bus rows long each f = elim (cases_lt f (length rows)) [
  | inl inside ↦ each f inside
  | inr past ↦
      let none : row_at rows f ≡ [] = ap (λ o. option_map_or (λ r. r.items) o []) (slice_get_past rows f past) in
      none ∙ sym (nothing_feeds v (record { bus = bus; flow = f }) (omega arith))
]

pub all_buses : (v : Vehicle) (buses : List (Vec (Vec ℕ Global) Global)) → length v.buses.items ≤ length buses
    → ((at : FlowAt) → at.bus < length buses → row_of buses at ≡ feeders v at) → (at : FlowAt) → row_of buses at ≡ feeders v at
all_buses v buses long each at = elim (cases_lt at.bus (length buses)) [
  | inl inside ↦ each at inside
  | inr past ↦
      let none : row_of buses at ≡ [] = ap (λ o. option_map_or (λ rs. row_at rs.items at.flow) o []) (slice_get_past buses at.bus past) in
      let no_flows : flows_on v.buses.items at.bus ≡ [] =
      ap (λ o. option_map_or (λ bus. bus.plan.flows.items) o []) (slice_get_past v.buses.items at.bus (omega arith)) in
      let few : length (flows_on v.buses.items at.bus) ≤ at.flow = rw no_flows (omega arith) in
      none ∙ sym (nothing_feeds v at few)
]

-- without forwards no flow is fed
pub none_feed : (v : Vehicle) (at : FlowAt) → length v.forwards.items ≡ 0 → feeders v at ≡ []
unfolding each in_each
none_feed v at none = rw (nil_from_length v.forwards.items none) refl

-- ---- traces

-- the trace goes on by the first of those that feed the flow that carries the signal
pub next_by_feeders : (v : Vehicle) (p : Point) → find (carries_at v p.signal) (feeders v p.at) ≡ next_forward v p
next_by_feeders v p =
    find_passing (feeds v p.at) (carries p.signal) (carries_at v p.signal) v.forwards.items
    (λ k x is. ap (λ o. option_map_or (carries p.signal) o false) is)
