-- Rows of receivers of which one receiver is another.
use Rattle.std.proofs.Common.{◌≡◌, ℕ, zero, suc, ◌<◌, ◌&&◌, eqb, replicate, List, [], ◌∷◌, length, map, get_or, set, refl, sym, ap, ◌∙◌, subst, arith, inl}
use Rattle.std.proofs.Common.{inr, None}
use Rattle.std.proofs.lemmas.List.{get_or-map, length-map, length-replicate, map-set}
use Rattle.std.proofs.Math.ListN.{length-set}
use Rattle.std.proofs.Math.Path.{transport}
use Rattle.std.proofs.Math.Seq.{map-set_same}
use Rattle.std.proofs.lemmas.Bool.{and_parts, cases_Bool, eqb-true}
use Rattle.std.specs.Vec.{with_item}
use Rattle.j39_bus.specs.Queued.{IsTable}
use Rattle.j39_bus.proofs.Tables.{cell_is, row_is, tabled_set, with_cell_at, with_cell_columns}
use Rattle.j39_world.specs.Flows.{window_at}
use Rattle.j39_world.specs.World.{changed_pair}
use Rattle.j39_bus.specs.BusState.{Holding, ReceiverTable, closed, holding_at}
use Rattle.j39_bus.specs.inside.Receivers.{AnswersWithWindow, IsReceivers, ReceiverRow, ReceiverSlot, holding_of, holdings_of, slot_at}
use Rattle.j39_bus.proofs.Worlds.{any_default}

abbrev pub slots : ReceiverRow → List ReceiverSlot
slots r = r.items

length-holdings : (rows : List ReceiverRow) → length (holdings_of rows) ≡ length rows
length-holdings rows = length-map rows (λ (r : ReceiverRow). map holding_of r.items)

-- rows that are seen so are a table of as many as there are windows
pub table_seen : (windows : List ℕ) (rows : List ReceiverRow) (was : ReceiverTable) → record { windows = windows; holdings = holdings_of rows } ≡ was
    → IsReceivers windows rows → IsTable (length was.windows) was.holdings
table_seen windows rows was is well = transport (λ i. IsTable (length (is i).windows) (is i).holdings) well.table

-- what is seen of rows is known, and they are a table
module _ (windows : List ℕ) (rows : List ReceiverRow) (was : ReceiverTable) (is : record { windows = windows; holdings = holdings_of rows } ≡ was)
    (well : IsReceivers windows rows)
    (v u : ℕ) (below_v : v < length was.windows) (below_u : u < length was.windows) where
  pub windows_are : windows ≡ was.windows
  windows_are = ap (λ (t : ReceiverTable). t.windows) is

  count : length rows ≡ length windows
  count = sym (length-holdings rows) ∙ well.table.rows

  in_windows : v < length windows
  in_windows = omega (arith, below_v, ap length windows_are)

  pub window_is : (window : ℕ) → window ≡ get_or windows v window → window ≡ window_at windows v
  window_is window at = at ∙ any_default windows v window 1 in_windows

  pub in_v : v < length rows
  in_v = omega (arith, in_windows, count)

  module _ (row : ReceiverRow) (at_v : row ≡ get_or rows v row) where
    row_count : length row.items ≡ length windows
    row_count = sym (length-map row.items holding_of) ∙ sym (ap length (row_is slots holding_of rows v row in_v at_v)) ∙ well.table.columns v in_windows

    pub in_u : u < length row.items
    in_u = omega (arith, row_count, below_u, ap length windows_are)

    module _ (slot : ReceiverSlot) (at_u : slot ≡ get_or row.items u slot) where
      pub holding_is : holding_of slot ≡ holding_at was.holdings v u
      holding_is = sym (cell_is slots holding_of rows v u row slot closed in_v at_v in_u at_u) ∙ ap (λ (t : ReceiverTable). holding_at t.holdings v u) is

      slot_is : slot_at rows v u ≡ slot
      slot_is = ap (λ (l : List ReceiverSlot). get_or l u None) (get_or-map slots rows v row [] in_v ∙ ap slots (sym at_v)) ∙ default row.items u in_u at_u
        where
          default : (l : List ReceiverSlot) (k : ℕ) → k < length l → slot ≡ get_or l k slot → get_or l k None ≡ slot
          default [] k inside at = absurd (omega arith)
          default (x ∷ l) zero inside at = sym at
          default (x ∷ l) (suc k) inside at = default l k (omega arith) at

      pub answers_here : AnswersWithWindow (window_at windows v) slot
      answers_here = subst (AnswersWithWindow (window_at windows v)) slot_is (well.answering v u)

      -- once it is another one
      module _ (new : ReceiverSlot) where
        abbrev pub after : List ReceiverRow
        after = set rows v (with_item row u new)

        tabled : holdings_of after ≡ set (holdings_of rows) v (set (get_or (holdings_of rows) v []) u (holding_of new))
        tabled = tabled_set slots holding_of closed rows v u row (with_item row u new) new in_v at_v refl

        seen_v : v < length (holdings_of rows)
        seen_v = omega (arith, in_v, length-holdings rows)

        seen_u : u < length (get_or (holdings_of rows) v [])
        seen_u = omega (arith, in_u, ap length (row_is slots holding_of rows v row in_v at_v), length-map row.items holding_of)

        pub holdings_after : (x : Holding) → holding_of new ≡ x → holding_at (holdings_of after) ≡ changed_pair (holding_at was.holdings) v u x
        holdings_after x new_is = λ i s t. at s t i
          where
            at : (s t : ℕ) → holding_at (holdings_of after) s t ≡ changed_pair (holding_at was.holdings) v u x s t
            at s t =
                ap (λ (l : List (List Holding)). holding_at l s t) tabled ∙ with_cell_at closed (holdings_of rows) v u (holding_of new) seen_v seen_u s t
                ∙ (λ i. changed_pair (holding_at (is i).holdings) v u (new_is i) s t)

        pub table_same : holding_of new ≡ holding_of slot → record { windows = windows; holdings = holdings_of after } ≡ was
        table_same same =
            (λ i. record {
              windows = windows;
              holdings = map-set_same (λ (r : ReceiverRow). map holding_of r.items) rows v (with_item row u new) row
                  (within ∙ ap (λ (r : ReceiverRow). map holding_of r.items) at_v) i;
            }) ∙ is
          where
            within : map holding_of (set row.items u new) ≡ map holding_of row.items
            within = map-set_same holding_of row.items u new slot (same ∙ ap holding_of at_u)

        pub receivers_after : AnswersWithWindow (window_at windows v) new → IsReceivers windows after
        receivers_after answers = record {
          table = record {
            rows = length-holdings after ∙ length-set rows v (with_item row u new) ∙ count;
            columns = λ s inside.
                ap (λ (l : List (List Holding)). length (get_or l s [])) tabled
                ∙ with_cell_columns closed (holdings_of rows) v u (holding_of new) seen_v s ∙ well.table.columns s inside;
          };
          lets_some = well.lets_some;
          answering = λ s t. subst (AnswersWithWindow (window_at windows s)) (sym (at s t)) (either s t);
        }
          where
            at : (s t : ℕ) → slot_at after s t ≡ changed_pair (slot_at rows) v u new s t
            at s t =
                ap (λ (l : List (List ReceiverSlot)). get_or (get_or l s []) t None) (slots_set rows)
                ∙ with_cell_at None (map slots rows) v u new (omega (arith, in_v, length-map rows slots))
                (omega (arith, in_u, ap length (get_or-map slots rows v row [] in_v ∙ ap slots (sym at_v)))) s t
              where
                slots_set : (l : List ReceiverRow) → map slots (set rows v (with_item row u new)) ≡ set (map slots rows) v
                    (set (get_or (map slots rows) v []) u new)
                slots_set l = map-set slots rows v (with_item row u new)
                    ∙ ap (λ (r : List ReceiverSlot). set (map slots rows) v (set r u new)) (sym (get_or-map slots rows v row [] in_v ∙ ap slots (sym at_v)))

            either : (s t : ℕ) → AnswersWithWindow (window_at windows s) (changed_pair (slot_at rows) v u new s t)
            either s t = elim (cases_Bool (eqb s v && eqb t u)) [
              | inl both ↦ rw (both, eqb-true s v (and_parts (eqb s v) (eqb t u) both).0) answers
              | inr other ↦ rw other (well.answering s t)
            ]

-- ---- no receiver yet

abbrev pub none_in : ℕ → List ReceiverSlot
none_in n = replicate n None

map-replicate : {X Y : Type 0} (f : X → Y) (n : ℕ) (x : X) → map f (replicate n x) ≡ replicate n (f x)
map-replicate f zero x = refl
map-replicate f (suc n) x = ap (λ ys. f x ∷ ys) (map-replicate f n x)

pub rows_first : (n : ℕ) (rows : List ReceiverRow) → map slots rows ≡ replicate n (none_in n) → holdings_of rows ≡ replicate n (replicate n closed)
rows_first n rows are = sym (seen rows) ∙ ap (map (map holding_of)) are ∙ map-replicate (map holding_of) n (none_in n)
    ∙ ap (replicate n) (map-replicate holding_of n None)
  where
    seen : (rows : List ReceiverRow) → map (map holding_of) (map slots rows) ≡ holdings_of rows
    seen [] = refl
    seen (r ∷ rows) = ap (λ (l : List (List Holding)). map holding_of r.items ∷ l) (seen rows)

pub get_same : {X : Type 0} (n k : ℕ) (x : X) → get_or (replicate n x) k x ≡ x
get_same zero k x = refl
get_same (suc n) zero x = refl
get_same (suc n) (suc k) x = get_same n k x

get_row : {X : Type 0} (n k : ℕ) (x : X) (m t : ℕ) → get_or (get_or (replicate n (replicate m x)) k []) t x ≡ x
get_row zero k x m t = refl
get_row (suc n) zero x m t = get_same m t x
get_row (suc n) (suc k) x m t = get_row n k x m t

length_row : {X : Type 0} (n k m : ℕ) (x : X) → k < n → length (get_or (replicate n (replicate m x)) k []) ≡ m
length_row zero k m x inside = absurd (omega arith)
length_row (suc n) zero m x inside = length-replicate m x
length_row (suc n) (suc k) m x inside = length_row n k m x (omega arith)

pub closed_first : (n : ℕ) (rows : List ReceiverRow) → map slots rows ≡ replicate n (none_in n) → (v u : ℕ) → holding_at (holdings_of rows) v u ≡ closed
closed_first n rows are v u = ap (λ (l : List (List Holding)). holding_at l v u) (rows_first n rows are) ∙ get_row n v closed n u

pub receivers_first : (windows : List ℕ) (rows : List ReceiverRow) → ((v : ℕ) → 0 < window_at windows v)
    → map slots rows ≡ replicate (length windows) (none_in (length windows)) → IsReceivers windows rows
receivers_first windows rows positive are =
    let n : ℕ = length windows in
    record {
      table = record {
        rows = ap length (rows_first n rows are) ∙ length-replicate n (replicate n closed);
        columns = λ s inside. ap (λ (l : List (List Holding)). length (get_or l s [])) (rows_first n rows are) ∙ length_row n s n closed inside;
      };
      lets_some = positive;
      answering = λ v u. subst (AnswersWithWindow (window_at windows v))
          (sym (ap (λ (l : List (List ReceiverSlot)). get_or (get_or l v []) u None) are ∙ get_row n v None n u)) tt;
    }
