-- The forwards that follow one another, as a graph.
use Rattle.std.proofs.Common.{◌≡◌, ℕ, ◌+◌, ◌<◌, List, [], ◌∷◌, ◌++◌, Bool, false, Option, Some, None, Contains, Decides, length, length-append, inl, inr, refl}
use Rattle.std.proofs.Common.{sym, ◌∙◌, ap, subst, arith}
use Rattle.std.specs.List.{slice_get, slice_index_or}
use Rattle.std.specs.Option.{option_map, option_map_or, unwrap_or}
use Rattle.std.proofs.lemmas.Bool.{cases_lt}
use Rattle.std.proofs.lemmas.List.{get_or-append-add, get_or_append_left, length-map}
use Rattle.std.proofs.lemmas.Option.{slice_get-map, slice_get_within}
use Rattle.j39_vehicle.specs.declared.vehicle.Vehicle.{Vehicle}
use Rattle.j39_vehicle.specs.declared.vehicle.forward.Forward.{Forward}
use Rattle.j39_vehicle_findings.specs.ForwardEnds.{ComesAfter, FollowsAt, IsFollowedBy, at_once, later}
use Rattle.j39_vehicle_findings.specs.Loops.{AreFollowers, followers}
use Rattle.j39_vehicle_findings.specs.PathTables.{row_at}
use Rattle.j39_vehicle_findings.specs.inside.Spreading.{IsOneStep, IsWayTo, Rows, StayInside, further, straight}
use Rattle.j39_vehicle_findings.proofs.Deciding.{Decides-is_followed}
use Rattle.j39_vehicle_findings.proofs.PassingLemmas.{of_passing, passing_of}

or_map : {A B : Type 0} (f : A → B) (o : Option A) (d : B) → option_map_or f o d ≡ unwrap_or (option_map f o) d
or_map f None d = refl
or_map f (Some x) d = refl

row_is : (v : Vehicle) (rows : Rows) (n : ℕ) → AreFollowers v rows → row_at rows n ≡ option_map_or (followers v) (slice_get v.forwards.items n) []
row_is v rows n are =
    let same : option_map (λ row. row.items) (slice_get rows n) ≡ option_map (followers v) (slice_get v.forwards.items n) =
    sym (slice_get-map (λ row. row.items) rows n) ∙ ap (λ xs. slice_get xs n) are ∙ slice_get-map (followers v) v.forwards.items n in
    or_map (λ row. row.items) (slice_get rows n) [] ∙ ap (λ o. unwrap_or o []) same ∙ sym (or_map (followers v) (slice_get v.forwards.items n) [])

follows_in : (v : Vehicle) (n m : ℕ) (o : Option Forward) → slice_get v.forwards.items n ≡ o → Contains (option_map_or (followers v) o []) m
    → FollowsAt v n m
follows_in v n m None is h = absurd (omega arith)
follows_in v n m (Some first) is h =
    let there = of_passing (IsFollowedBy v first) (Decides-is_followed v first) v.forwards.items m h in
    record { first = first; first_is = is; second = there.value; second_is = there.value_is; followed = there.meets }

leads_follows : (v : Vehicle) (rows : Rows) (n m : ℕ) → AreFollowers v rows → IsOneStep rows n m → FollowsAt v n m
leads_follows v rows n m are h =
    follows_in v n m (slice_get v.forwards.items n) refl (subst (λ xs. Contains xs m) (row_is v rows n are) h)

follows_leads : (v : Vehicle) (rows : Rows) (n m : ℕ) → AreFollowers v rows → FollowsAt v n m → IsOneStep rows n m
follows_leads v rows n m are f =
    let among : Contains (followers v f.first) m =
    passing_of (IsFollowedBy v f.first) (Decides-is_followed v f.first) v.forwards.items m
    (record { value = f.second; value_is = f.second_is; meets = f.followed }) in
    let row : row_at rows n ≡ followers v f.first = row_is v rows n are ∙ ap (λ o. option_map_or (followers v) o []) f.first_is in
    subst (λ xs. Contains xs m) (sym row) among

pub followers_inside : (v : Vehicle) (rows : Rows) → AreFollowers v rows → StayInside rows
followers_inside v rows are n m h =
    let f = leads_follows v rows n m are h in
    let within : m < length v.forwards.items = slice_get_within v.forwards.items m f.second f.second_is in
    let long : length rows ≡ length v.forwards.items =
    sym (length-map rows (λ row. row.items)) ∙ ap length are ∙ length-map v.forwards.items (followers v) in
    rw long within

comes_after : (v : Vehicle) (rows : Rows) (n : ℕ) → AreFollowers v rows → {m : ℕ} → IsWayTo rows n m → ComesAfter v n m
comes_after v rows n are (straight m h) = at_once m (leads_follows v rows n m are h)
comes_after v rows n are (further k m before h) = later k m (comes_after v rows n are before) (leads_follows v rows k m are h)

leads_on : (v : Vehicle) (rows : Rows) (n : ℕ) → AreFollowers v rows → {m : ℕ} → ComesAfter v n m → IsWayTo rows n m
leads_on v rows n are (at_once m f) = straight m (follows_leads v rows n m are f)
leads_on v rows n are (later k m before f) = further k m (leads_on v rows n are before) (follows_leads v rows k m are f)

-- a search of the graph answers whether a forward comes after itself
pub graph_states : (v : Vehicle) (rows : Rows) (n : ℕ) (flag : Bool) → AreFollowers v rows → Decides flag (IsWayTo rows n n)
    → Decides flag (ComesAfter v n n)
graph_states v rows n flag are decides = (λ e. comes_after v rows n are (decides.0 e), λ h. decides.1 (leads_on v rows n are h))

-- what is reported of the forwards so far, and of the next one
pub one_more_flag : (v : Vehicle) (flags : List Bool) (flag : Bool) (place : ℕ) → length flags ≡ place
    → ((n : ℕ) → n < length flags → Decides (slice_index_or flags n false) (ComesAfter v n n)) → Decides flag (ComesAfter v place place)
    → (n : ℕ) → n < length (flags ++ flag ∷ []) → Decides (slice_index_or (flags ++ flag ∷ []) n false) (ComesAfter v n n)
one_more_flag v flags flag place long each last n less = elim (cases_lt n (length flags)) [
  | inl inside ↦
      let same : slice_index_or (flags ++ flag ∷ []) n false ≡ slice_index_or flags n false = get_or_append_left flags (flag ∷ []) false n inside in
      rw same (each n inside)
  | inr past ↦
      let longer : length (flags ++ flag ∷ []) ≡ length flags + 1 = length-append flags (flag ∷ []) in
      let at : n ≡ length flags + 0 = omega (arith, longer) in
      let here : n ≡ place = omega (arith, longer) in
      let same : slice_index_or (flags ++ flag ∷ []) n false ≡ flag =
      ap (λ i. slice_index_or (flags ++ flag ∷ []) i false) at ∙ get_or-append-add flags (flag ∷ []) 0 false in
      rw (same, here) last
]
