-- What contracts see of the queues between units.
use Rattle.std.specs.Prelude.{◌≡◌, ℕ, ◌<◌, ◌≤◌, cond, ◌&&◌, ◌||◌, nat_eq, List, [], length, slice_index_or, refl}
use Rattle.std.specs.Coded.{Coded, code_by, coded×, coded_ℕ, coded_list}

-- of each unit to each: the items, the oldest first, and how many more there is room for
pub record Queued (X : Type 0) : Type 0 where
  pub lists : List (List (List X))
  pub rooms : List (List ℕ)

-- a table is stored as the pair of its fields
abbrev pub queued_code : {X : Type 0} → Coded X → Coded (Queued X)
queued_code {X} code =
    code_by (List (List (List X)) × List (List ℕ)) (coded× (coded_list (coded_list (coded_list code))) (coded_list (coded_list coded_ℕ)))
    (λ q. (q.lists, q.rooms)) (λ p. record { lists = p.0; rooms = p.1 }) (λ _. refl)

-- so many rows of so many
pub record IsTable {X : Type 0} (n : ℕ) (lists : List (List X)) : Type 0 where
  pub rows : length lists ≡ n
  pub columns : (u : ℕ) → u < n → length (slice_index_or lists u []) ≡ n

-- what the first unit has for the second
abbrev pub pair_in : {X : Type 0} → List (List (List X)) → ℕ → ℕ → List X
pair_in lists u v = slice_index_or (slice_index_or lists u []) v []

-- for how many more items there is room
abbrev pub room_at : {X : Type 0} → Queued X → ℕ → ℕ → ℕ
room_at q u v = slice_index_or (slice_index_or q.rooms u []) v 0

-- at least as much room as before
abbrev pub KeepsRoom : {X : Type 0} → Queued X → Queued X → Type 0
KeepsRoom old new = (u v : ℕ) → room_at old u v ≤ room_at new u v

-- this for a pair of units, the same as before for each other
abbrev pub changed_in : {X : Type 0} → (ℕ → ℕ → X) → ℕ → ℕ → X → ℕ → ℕ → X
changed_in f u v x s t = cond (nat_eq s u && nat_eq t v) x (f s t)

-- nothing for one unit, the same as before for each other
abbrev pub without_column : {X : Type 0} → ℕ → (ℕ → ℕ → List X) → ℕ → ℕ → List X
without_column v f s t = cond (nat_eq t v) [] (f s t)

-- nothing for one unit and nothing from it, the same as before between others
abbrev pub without_unit : {X : Type 0} → ℕ → (ℕ → ℕ → List X) → ℕ → ℕ → List X
without_unit u f s t = cond (nat_eq s u || nat_eq t u) [] (f s t)

-- one for a pair of units, and none for each other
abbrev pub one_at : ℕ → ℕ → ℕ → ℕ → ℕ
one_at u v = changed_in (λ s t. 0) u v 1
