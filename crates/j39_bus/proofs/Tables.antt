-- Tables of which one place is another, and what is seen of rows of cells.
use Rattle.std.proofs.Common.{◌≡◌, ℕ, ◌<◌, cond, ◌&&◌, eqb, List, [], length, map, get_or, set, refl, sym, ap, ◌∙◌, inl, inr, get_or-set_other, get_or-set_same}
use Rattle.std.proofs.Math.ListN.{length-set}
use Rattle.std.proofs.lemmas.List.{get_or-map, map-set}
use Rattle.std.proofs.lemmas.Bool.{cases_eq, eq-eqb, ne_eqb}

-- a table with another value at a place, and what stands at each place
module _ {Y : Type 0} (d : Y) (table : List (List Y)) (u v : ℕ) (y : Y) where
  abbrev pub with_cell : List (List Y)
  with_cell = set table u (set (get_or table u []) v y)

  module _ (in_u : u < length table) where
    at_row : (s : ℕ) → get_or with_cell s [] ≡ cond (eqb s u) (set (get_or table u []) v y) (get_or table s [])
    at_row s = elim (cases_eq s u) [
      | inl same ↦ rw (same, eq-eqb u u refl, get_or-set_same)
      | inr other ↦ rw (ne_eqb s u other, get_or-set_other)
    ]

    -- it is a table of as many
    pub with_cell_columns : (s : ℕ) → length (get_or with_cell s []) ≡ length (get_or table s [])
    with_cell_columns s = ap length (at_row s) ∙ elim (cases_eq s u) [
      | inl same ↦ rw (same, eq-eqb u u refl) (length-set (get_or table u []) v y)
      | inr other ↦ rw (ne_eqb s u other) refl
    ]

    module _ (in_v : v < length (get_or table u [])) where
      at_column : (t : ℕ) → get_or (set (get_or table u []) v y) t d ≡ cond (eqb t v) y (get_or (get_or table u []) t d)
      at_column t = elim (cases_eq t v) [
        | inl same ↦ rw (same, eq-eqb v v refl, get_or-set_same)
        | inr other ↦ rw (ne_eqb t v other, get_or-set_other)
      ]

      pub with_cell_at : (s t : ℕ) → get_or (get_or with_cell s []) t d ≡ cond (eqb s u && eqb t v) y (get_or (get_or table s []) t d)
      with_cell_at s t = ap (λ (r : List Y). get_or r t d) (at_row s) ∙ elim (cases_eq s u) [
        | inl same ↦ rw (same, eq-eqb u u refl) (at_column t)
        | inr other ↦ rw (ne_eqb s u other) refl
      ]

-- rows of cells, and what is seen of each
module _ {R Q Y : Type 0} (cells : R → List Q) (view : Q → Y) where
  abbrev pub tabled : List R → List (List Y)
  tabled rows = map (λ r. map view (cells r)) rows

  pub row_is : (rows : List R) (u : ℕ) (row : R) → u < length rows → row ≡ get_or rows u row → get_or (tabled rows) u [] ≡ map view (cells row)
  row_is rows u row inside is = get_or-map (λ r. map view (cells r)) rows u row [] inside ∙ ap (λ r. map view (cells r)) (sym is)

  pub cell_is : (rows : List R) (u v : ℕ) (row : R) (q : Q) (d : Y) → u < length rows → row ≡ get_or rows u row → v < length (cells row)
      → q ≡ get_or (cells row) v q → get_or (get_or (tabled rows) u []) v d ≡ view q
  cell_is rows u v row q d in_u row_at in_v q_at =
      ap (λ (r : List Y). get_or r v d) (row_is rows u row in_u row_at) ∙ get_or-map view (cells row) v q d in_v ∙ ap view (sym q_at)

  pub tabled_set : (d : Y) (rows : List R) (u v : ℕ) (row new : R) (q : Q) → u < length rows → row ≡ get_or rows u row → cells new ≡ set (cells row) v q
      → tabled (set rows u new) ≡ with_cell d (tabled rows) u v (view q)
  tabled_set d rows u v row new q in_u row_at new_is =
      map-set (λ r. map view (cells r)) rows u new
      ∙ ap (λ (r : List Y). set (tabled rows) u r)
      (ap (map view) new_is ∙ map-set view (cells row) v q ∙ ap (λ (r : List Y). set r v (view q)) (sym (row_is rows u row in_u row_at)))
