-- A search for all places of a graph that are reached from one: which are reached so far, and which of these wait until those are reached
-- to which they lead. A row has the places to which one leads.
use Rattle.std.specs.Prelude.{◌≡◌, ℕ, ◌+◌, ◌<◌, ◌⊎◌, List, [], ◌∷◌, ◌++◌, Bool, true, false, not, Contains, length}
use Rattle.std.specs.List.{count_by, slice_index_or, slice_set}
use Rattle.std.specs.declared.alloc.Global.{Global}
use Rattle.std.specs.declared.vec.Vec.{Vec}
use Rattle.j39_vehicle_findings.specs.PathTables.{row_at}

-- ---- the graph

abbrev pub Rows : Type 0
Rows = List (Vec ℕ Global)

abbrev pub IsOneStep : Rows → ℕ → ℕ → Type 0
IsOneStep rows n m = Contains (row_at rows n) m

-- one place leads to another over any number of places between
pub data IsWayTo (rows : Rows) (n : ℕ) : ℕ → Type 0 where
  straight : (m : ℕ) → IsOneStep rows n m → IsWayTo rows n m
  further : (k m : ℕ) → IsWayTo rows n k → IsOneStep rows k m → IsWayTo rows n m

-- each place to which one leads has a row
abbrev pub StayInside : Rows → Type 0
StayInside rows = (n m : ℕ) → IsOneStep rows n m → m < length rows

-- ---- the search

abbrev pub IsReached : List Bool → ℕ → Type 0
IsReached reached m = slice_index_or reached m false ≡ true

-- a place that isn't reached yet is reached then, and waits
abbrev pub ReachesOne : ℕ → List Bool → List ℕ → List Bool → List ℕ → Type 0
ReachesOne next old waiting new waiting_then =
    ((slice_index_or old next false ≡ false) × (new ≡ slice_set old next true) × (waiting_then ≡ waiting ++ next ∷ []))
    ⊎ (IsReached old next × (new ≡ old) × (waiting_then ≡ waiting))

-- these places are reached beside those that were before, and those wait that weren't
pub record Spreads (places : List ℕ) (old : List Bool) (waiting : List ℕ) (new : List Bool) (waiting_then : List ℕ) : Type 0 where
  pub count : length new ≡ length old
  pub kept : (m : ℕ) → IsReached old m → IsReached new m
  pub sound : (m : ℕ) → IsReached new m → IsReached old m ⊎ Contains places m
  pub all : (m : ℕ) → Contains places m → IsReached new m
  pub more : List ℕ
  pub waits : waiting_then ≡ waiting ++ more
  pub stated : (m : ℕ) → IsReached new m → IsReached old m ⊎ Contains more m
  pub those : (m : ℕ) → Contains more m → IsReached new m
  pub left : count_by not new + length more ≡ count_by not old

-- the start leads to what is reached, and where that leads to is reached or it waits
pub record IsSpread (rows : Rows) (start : ℕ) (reached : List Bool) (waiting : List ℕ) : Type 0 where
  pub count : length reached ≡ length rows
  pub sound : (m : ℕ) → IsReached reached m → IsWayTo rows start m
  pub first : (m : ℕ) → IsOneStep rows start m → IsReached reached m
  pub closed : (k : ℕ) → IsReached reached k → Contains waiting k ⊎ ((m : ℕ) → IsOneStep rows k m → IsReached reached m)
  pub those : (m : ℕ) → Contains waiting m → IsReached reached m
