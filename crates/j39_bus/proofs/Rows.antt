-- Rows of queues of which one queue is another.
use Rattle.std.proofs.Common.{◌≡◌, ℕ, zero, suc, ◌++◌, ◌+◌, ◌<◌, ◌≤◌, cond, ◌&&◌, Bool, replicate, true, false, eqb, subst, Result, Ok, Err, OnOk, OnErr}
use Rattle.std.proofs.Common.{List, [], ◌∷◌, length, map, get_or, set, refl, sym, ap, ◌∙◌, arith, inl, inr, vec_len}
use Rattle.std.proofs.lemmas.List.{get_or-map, get_or-replicate, length-map, length-replicate, map-set}
use Rattle.std.proofs.lemmas.List.Sums.{get_or-le-sum_by, sum_by-cons, sum_by-set}
use Rattle.std.specs.List.{list_all}
use Rattle.std.proofs.Math.ListN.{length-set}
use Rattle.std.proofs.Math.Seq.{map-set_same}
use Rattle.std.proofs.lemmas.Bool.{cases_Bool, and_from, and_parts, eqb-true, eq-eqb}
use Rattle.std.specs.Vec.{with_item}
use Rattle.j39_bus.specs.Queued.{IsTable, KeepsRoom, Queued, pair_in, room_at, changed_in}
use Rattle.j39_bus.specs.inside.Rows.{IsKept, Queue, Row, cells, filled_in, items, lists_of, one_if_some, room_of, rooms_of}
use Rattle.j39_bus.proofs.Tables.{cell_is, row_is, tabled_set, with_cell_at, with_cell_columns}

-- what contracts see of them
abbrev pub seen : {X : Type 0} → List (Row X) → Queued X
seen rows = record { lists = lists_of rows; rooms = rooms_of rows }

pub length-lists : {X : Type 0} (rows : List (Row X)) → length (lists_of rows) ≡ length rows
length-lists {X} rows = length-map rows (λ (r : Row X). map items r.items)

length-rooms : {X : Type 0} (rows : List (Row X)) → length (rooms_of rows) ≡ length rows
length-rooms {X} rows = length-map rows (λ (r : Row X). map room_of r.items)

-- what is seen of rows is known, and they are a table
module _ {X : Type 0} (rows : List (Row X)) (was : Queued X) (is : seen rows ≡ was) (table : IsTable (length rows) (lists_of rows)) where
  pub count_is : length rows ≡ length was.lists
  count_is = sym (length-lists rows) ∙ ap (λ (q : Queued X). length q.lists) is

  pub table_is : IsTable (length was.lists) was.lists
  table_is = subst (λ (n : ℕ). IsTable n was.lists) count_is (subst (λ (q : Queued X). IsTable (length rows) q.lists) is table)

  module _ (u v : ℕ) (below_u : u < length was.lists) (below_v : v < length was.lists) (row : Row X) (at_u : row ≡ get_or rows u row) where
    in_u : u < length rows
    in_u = omega (arith, below_u, count_is)

    -- a row has a queue for each unit
    row_count : length row.items ≡ length rows
    row_count = sym (length-map row.items items) ∙ sym (ap length (row_is cells items rows u row in_u at_u)) ∙ table.columns u in_u

    pub in_row : v < vec_len row
    in_row = omega (arith, row_count, row.ok.0, below_v, count_is)

    module _ (q : Queue X) (at_v : q ≡ get_or row.items v q) where
      in_items : v < length row.items
      in_items = omega (arith, row_count, below_v, count_is)

      list_here : pair_in (lists_of rows) u v ≡ q.items
      list_here = cell_is cells items rows u v row q [] in_u at_u in_items at_v

      pub list_is : pair_in was.lists u v ≡ q.items
      list_is = ap (λ (p : Queued X). pair_in p.lists u v) (sym is) ∙ list_here

      -- so many others of the row hold something
      pub beside_is : (n : ℕ) → n + one_if_some (pair_in was.lists u v) ≡ filled_in (get_or was.lists u [])
          → n + one_if_some q.items ≡ filled_in (map items row.items)
      beside_is n counted = ap (λ (xs : List X). n + one_if_some xs) (sym list_is) ∙ (counted
          ∙ ap (λ (p : Queued X). filled_in (get_or p.lists u [])) (sym is) ∙ ap filled_in (row_is cells items rows u row in_u at_u))

      room_here : room_at (seen rows) u v ≡ room_of q
      room_here = cell_is cells room_of rows u v row q 0 in_u at_u in_items at_v

      pub room_is : room_at was u v ≡ room_of q
      room_is = ap (λ (p : Queued X). room_at p u v) (sym is) ∙ room_here

      -- once it is another queue
      module _ (new : Queue X) where
        abbrev pub after : List (Row X)
        after = set rows u (with_item row v new)

        pub lists_after : (xs : List X) → new.items ≡ xs → pair_in (lists_of after) ≡ changed_in (pair_in was.lists) u v xs
        lists_after xs items_are = λ i s t. at s t i
          where
            at : (s t : ℕ) → pair_in (lists_of after) s t ≡ changed_in (pair_in was.lists) u v xs s t
            at s t =
                ap (λ (ls : List (List (List X))). pair_in ls s t) (tabled_set cells items [] rows u v row (with_item row v new) new in_u at_u refl)
                ∙ with_cell_at [] (lists_of rows) u v new.items (omega (arith, in_u, length-lists rows))
                (omega (arith, in_items, ap length (row_is cells items rows u row in_u at_u), length-map row.items items)) s t
                ∙ (λ i. changed_in (pair_in (is i).lists) u v (items_are i) s t)

        table_here : IsTable (length rows) (lists_of after)
        table_here = record {
          rows = length-lists after ∙ length-set rows u (with_item row v new);
          columns = λ s inside.
              ap (λ (ls : List (List (List X))). length (get_or ls s [])) (tabled_set cells items [] rows u v row (with_item row v new) new in_u at_u refl)
              ∙ with_cell_columns [] (lists_of rows) u v new.items (omega (arith, in_u, length-lists rows)) s ∙ table.columns s inside;
        }

        pub table_after : IsTable (length was.lists) (lists_of after)
        table_after = subst (λ (n : ℕ). IsTable n (lists_of after)) count_is table_here

        own_table_after : IsTable (length after) (lists_of after)
        own_table_after = subst (λ (n : ℕ). IsTable n (lists_of after)) (sym (length-set rows u (with_item row v new))) table_here

        lists_stay : new.items ≡ q.items → lists_of after ≡ lists_of rows
        lists_stay same =
            map-set_same (λ (r : Row X). map items r.items) rows u (with_item row v new) row (within ∙ ap (λ (r : Row X). map items r.items) at_u)
          where
            within : map items (set row.items v new) ≡ map items row.items
            within = map-set_same items row.items v new q (same ∙ ap items at_v)

        -- nothing that is seen changes where the items stay
        pub lists_same : new.items ≡ q.items → lists_of after ≡ was.lists
        lists_same same = lists_stay same ∙ ap (λ (p : Queued X). p.lists) is

        -- how many of the row hold something then
        pub row_after : filled_in (map items (set row.items v new)) + one_if_some q.items ≡ filled_in (map items row.items) + one_if_some new.items
        row_after =
            let at : get_or (map items row.items) v [] ≡ q.items = get_or-map items row.items v q [] in_items ∙ ap items (sym at_v) in
            omega (
              arith,
              sum_by-set one_if_some (map items row.items) v new.items [] (omega (arith, in_items, length-map row.items items)),
              ap one_if_some at,
              ap filled_in (map-set items row.items v new),
            )

        -- no more than there are, and the queue is one of those that did
        pub row_bounds : (filled_in (map items (set row.items v new)) ≤ length row.items) × (one_if_some q.items ≤ filled_in (map items row.items))
        row_bounds = (
          omega (arith, at_most (map items (set row.items v new)), length-map (set row.items v new) items, length-set row.items v new),
          omega (arith, row_after_none, at_most_one q.items),
        )
          where
            at_most_one : (xs : List X) → one_if_some xs ≤ 1
            at_most_one [] = omega arith
            at_most_one (x ∷ xs) = omega arith

            at_most : (ls : List (List X)) → filled_in ls ≤ length ls
            at_most [] = omega arith
            at_most (l ∷ ls) = omega (arith, sum_by-cons one_if_some l ls, at_most_one l, at_most ls)

            row_after_none : one_if_some q.items ≤ filled_in (map items row.items)
            row_after_none =
                let at : get_or (map items row.items) v [] ≡ q.items = get_or-map items row.items v q [] in_items ∙ ap items (sym at_v) in
                let part = get_or-le-sum_by one_if_some (map items row.items) v [] (omega (arith, in_items, length-map row.items items)) in
                omega (arith, part, ap one_if_some at)

        module _ (counts : List ℕ) (counts_are : counts ≡ map filled_in (lists_of rows)) where
          pub count_of : (d : ℕ) → get_or counts u d ≡ filled_in (map items row.items)
          count_of d =
              ap (λ ns. get_or ns u d) counts_are
              ∙ get_or-map filled_in (lists_of rows) u [] d (omega (arith, in_u, length-lists rows))
              ∙ ap filled_in (row_is cells items rows u row in_u at_u)

          pub kept_after : (n : ℕ) → n + one_if_some q.items ≡ filled_in (map items row.items) + one_if_some new.items → IsKept after (set counts u n)
          kept_after n is_n = record {
            table = own_table_after;
            counts =
                (let same : n ≡ filled_in (map items (set row.items v new)) = omega (arith, is_n, row_after) in λ i. set (counts_are i) u (same i))
                ∙ sym (map-set filled_in (lists_of rows) u (map items (set row.items v new)))
                ∙ ap (map filled_in) (sym (map-set (λ (r : Row X). map items r.items) rows u (with_item row v new)));
          }

        -- where the items stay
        pub kept_same : (counts : List ℕ) → counts ≡ map filled_in (lists_of rows) → new.items ≡ q.items → IsKept after counts
        kept_same counts counts_are same = record {
          table = own_table_after;
          counts = counts_are ∙ ap (map filled_in) (sym (lists_stay same));
        }

        rooms_at : (s t : ℕ) → room_at (seen after) s t ≡ cond (eqb s u && eqb t v) (room_of new) (room_at was s t)
        rooms_at s t =
            ap (λ (rs : List (List ℕ)). get_or (get_or rs s []) t 0) (tabled_set cells room_of 0 rows u v row (with_item row v new) new in_u at_u refl)
            ∙ with_cell_at 0 (rooms_of rows) u v (room_of new) (omega (arith, in_u, length-rooms rows))
            (omega (arith, in_items, ap length (row_is cells room_of rows u row in_u at_u), length-map row.items room_of)) s t
            ∙ ap (λ (p : Queued X). cond (eqb s u && eqb t v) (room_of new) (room_at p s t)) is

        pub room_after : room_at (seen after) u v ≡ room_of new
        room_after = rooms_at u v ∙ (rw (eq-eqb u u refl, eq-eqb v v refl) refl)

        room_elsewhere : (s t : ℕ) → (eqb s u && eqb t v) ≡ false → room_at (seen after) s t ≡ room_at was s t
        room_elsewhere s t other = rooms_at s t ∙ (rw other refl)

        -- where the queue has room for at most so many less
        pub room_left : (less : ℕ) → room_of q ≤ room_of new + less → (s t : ℕ)
            → room_at was s t ≤ room_at (seen after) s t + changed_in (λ a b. 0) u v less s t
        room_left less enough s t = elim (cases_Bool (eqb s u && eqb t v)) [
          | inl here ↦
              let (same_s, same_t) = and_parts (eqb s u) (eqb t v) here in
              rw (here, eqb-true s u same_s, eqb-true t v same_t) (omega (arith, room_after, room_is))
          | inr other ↦ rw other (omega (arith, room_elsewhere s t other))
        ]

        pub room_kept : room_of q ≤ room_of new → KeepsRoom was (seen after)
        room_kept more s t = elim (cases_Bool (eqb s u && eqb t v)) [
          | inl here ↦
              let (same_s, same_t) = and_parts (eqb s u) (eqb t v) here in
              rw (eqb-true s u same_s, eqb-true t v same_t) (omega (arith, room_after, room_is))
          | inr other ↦ omega (arith, room_elsewhere s t other)
        ]

-- a list has something once an item has joined it
pub some_pushed : {X : Type 0} (xs : List X) (x : X) → one_if_some (xs ++ x ∷ []) ≡ 1
some_pushed [] x = refl
some_pushed (y ∷ xs) x = refl

-- no list has anything where none is counted
pub none_filled : {X : Type 0} (ls : List (List X)) (v : ℕ) → filled_in ls ≡ 0 → get_or ls v [] ≡ []
none_filled [] v none = refl
none_filled ([] ∷ ls) zero none = refl
none_filled ((x ∷ xs) ∷ ls) zero none = absurd (omega (arith, none, sum_by-cons one_if_some (x ∷ xs) ls))
none_filled (l ∷ ls) (suc v) none = none_filled ls v (omega (arith, none, sum_by-cons one_if_some l ls))

pub all_filled : {X : Type 0} (ls : List (List X)) → ((v : ℕ) → get_or ls v [] ≡ []) → filled_in ls ≡ 0
all_filled [] none = refl
all_filled (l ∷ ls) none = omega (arith, sum_by-cons one_if_some l ls, ap one_if_some (none 0), all_filled ls (λ v. none (suc v)))

none_counted : {X : Type 0} (rows : List (List (List X))) (u v : ℕ) → list_all (λ n. eqb n 0) (map filled_in rows) ≡ true → pair_in rows u v ≡ []
none_counted [] u v all = refl
none_counted (r ∷ rows) zero v all = none_filled r v
    (eqb-true (filled_in r) 0 (and_parts (eqb (filled_in r) 0) (list_all (λ n. eqb n 0) (map filled_in rows)) all).0)
none_counted (r ∷ rows) (suc u) v all = none_counted rows u v (and_parts (eqb (filled_in r) 0) (list_all (λ n. eqb n 0) (map filled_in rows)) all).1

all_counted : {X : Type 0} (rows : List (List (List X))) → ((u v : ℕ) → pair_in rows u v ≡ []) → list_all (λ n. eqb n 0) (map filled_in rows) ≡ true
all_counted [] none = refl
all_counted (r ∷ rows) none =
    and_from (eqb (filled_in r) 0) (list_all (λ n. eqb n 0) (map filled_in rows)) (eq-eqb (filled_in r) 0 (all_filled r (none 0)))
    (all_counted rows (λ u. none (suc u)))

-- nothing is anywhere exactly where nothing is counted
pub nothing_counted : {X : Type 0} (rows : List (Row X)) (was : Queued X) → seen rows ≡ was → (counts : List ℕ) → counts ≡ map filled_in (lists_of rows)
    → (b : Bool) → b ≡ list_all (λ n. eqb n 0) counts
    → (b ≡ true → (u v : ℕ) → pair_in was.lists u v ≡ []) × (((u v : ℕ) → pair_in was.lists u v ≡ []) → b ≡ true)
nothing_counted {X} rows was is counts counts_are b tested =
    let all : b ≡ list_all (λ n. eqb n 0) (map filled_in (lists_of rows)) = tested ∙ ap (list_all (λ n. eqb n 0)) counts_are in (
      λ yes u v. ap (λ (p : Queued X). pair_in p.lists u v) (sym is) ∙ none_counted (lists_of rows) u v (sym all ∙ yes),
      λ none. all ∙ all_counted (lists_of rows) (λ u v. ap (λ (p : Queued X). pair_in p.lists u v) is ∙ none u v),
    )

zero_row : (X : Type 0) (k : ℕ) → filled_in {X = X} (replicate k []) ≡ 0
zero_row X zero = refl
zero_row X (suc k) = omega (arith, sum_by-cons (one_if_some {X = X}) [] (replicate k []), zero_row X k)

zero_rows : (X : Type 0) (n k : ℕ) → map (filled_in {X = X}) (replicate k (replicate n [])) ≡ replicate k 0
zero_rows X n zero = refl
zero_rows X n (suc k) = λ i. zero_row X n i ∷ zero_rows X n k i

-- of so many empty rows
pub kept_empty : {X : Type 0} (n : ℕ) (rows : List (Row X)) (counts : List ℕ) → lists_of rows ≡ replicate n (replicate n []) → counts ≡ replicate n 0
    → IsKept rows counts
kept_empty {X} n rows counts rows_are counts_are = record {
  table = subst (λ (k : ℕ). IsTable k (lists_of rows)) (sym (ap length rows_are ∙ length-replicate n (replicate n [])) ∙ length-lists rows) (record {
    rows = ap length rows_are ∙ length-replicate n (replicate n []);
    columns = λ u inside.
        ap (λ (ls : List (List (List X))). length (get_or ls u [])) rows_are
        ∙ ap (λ (l : List (List X)). length l) (get_or-replicate n u (replicate n []) [] inside) ∙ length-replicate n [];
  });
  counts = counts_are ∙ sym (ap (map filled_in) rows_are ∙ zero_rows X n n);
}

-- room that was made
pub enough : {X E Y : Type 0} (r : Result X E) (q : Queue Y) (room k : ℕ) → OnOk r (q.len + k ≤ q.cap) → room ≡ room_of q → OnOk r (k ≤ room)
enough {X = X} {E = E} r q room k h is = elim r as (λ (r : Result X E). OnOk r (q.len + k ≤ q.cap) → OnOk r (k ≤ room)) [
  | Ok x ↦ λ fits. omega (arith, fits, is)
  | Err e ↦ λ _. tt
] h

-- where there was no room for so many, there is less
pub wanting : {X E Y : Type 0} (r : Result X E) (q : Queue Y) (room k : ℕ) → OnErr r (q.cap < q.len + k) → q.len ≤ q.cap → room ≡ room_of q → OnErr r (room < k)
wanting {X = X} {E = E} r q room k h fits is = elim r as (λ (r : Result X E). OnErr r (q.cap < q.len + k) → OnErr r (room < k)) [
  | Ok x ↦ λ _. tt
  | Err e ↦ λ short. omega (arith, short, fits, is)
] h
