-- The rows of queues, and what is seen of them.
use Rattle.std.specs.Prelude.{◌≡◌, ℕ, ◌-◌, List, [], ◌∷◌, length, map}
use Rattle.std.specs.List.{sum_by}
use Rattle.std.specs.VecDeque.{deque_len, deque_capacity}
use Rattle.std.specs.declared.alloc.Global.{Global}
use Rattle.std.specs.declared.vec.Vec.{Vec}
use Rattle.std.specs.declared.collections.VecDeque.{VecDeque}
use Rattle.j39_bus.specs.Queued.{IsTable}

abbrev pub Queue : Type 0 → Type 0
Queue X = VecDeque X Global

abbrev pub Row : Type 0 → Type 0
Row X = Vec (Queue X) Global

module _ {X : Type 0} where
  abbrev pub items : Queue X → List X
  items q = q.items

  -- how many more items a queue has room for
  abbrev pub room_of : Queue X → ℕ
  room_of q = deque_capacity q - deque_len q

  abbrev pub cells : Row X → List (Queue X)
  cells r = r.items

  abbrev pub lists_of : List (Row X) → List (List (List X))
  lists_of rows = map (λ (r : Row X). map items r.items) rows

  abbrev pub rooms_of : List (Row X) → List (List ℕ)
  rooms_of rows = map (λ (r : Row X). map room_of r.items) rows

  -- one for a list that has something
  abbrev pub one_if_some : List X → ℕ
  one_if_some [] = 0
  one_if_some (x ∷ xs) = 1

  -- how many lists have something
  abbrev pub filled_in : List (List X) → ℕ
  filled_in lists = sum_by one_if_some lists

-- rows of queues between each two of as many units as there are rows, with how many of each row hold something
pub record IsKept {X : Type 0} (rows : List (Row X)) (filled : List ℕ) : Type 0 where
  pub table : IsTable (length rows) (lists_of rows)
  pub counts : filled ≡ map filled_in (lists_of rows)
