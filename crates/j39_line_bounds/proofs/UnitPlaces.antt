-- Places of units in the plans of variants.
use Rattle.std.proofs.Common.{◌≡◌, ℕ, zero, suc, ◌+◌, List, [], ◌∷◌, Bool, true, false, Some, None, length, refl, sym, ap, ◌∙◌}
use Rattle.std.specs.declared.alloc.Global.{Global}
use Rattle.std.specs.Prelude.{Vec}
use Rattle.std.proofs.lemmas.Bool.{false≢true, true≢false}
use Rattle.std.proofs.lemmas.List.{length-map}
use Rattle.std.proofs.lemmas.Option.{none-some}
use Rattle.std.specs.List.{slice_get}
use Rattle.j39_network.specs.PlannedUnits.{units_of}
use Rattle.j39_network.specs.declared.plan.Plan.{Plan}
use Rattle.j39_network.specs.declared.plan.unit_plan.UnitPlan.{UnitPlan}
use Rattle.j39_variants.proofs.Places.{place_same}
use Rattle.j39_variants.specs.VariantPlans.{IsVariantPlan, flag_at, flags, place_at, places}
use Rattle.j39_variants.specs.Variants.{is_in}
use Rattle.j39_variants.specs.declared.line.Alternative.{Alternative}
use Rattle.j39_variants.specs.declared.line.ProductLine.{ProductLine}
use Rattle.j39_line_findings.specs.MissedNeeds.{is_in_at, is_unit_there}
use Rattle.j39_line_bounds.specs.LineStandings.{HasPlace, HasLineUnit, LacksUnit}

-- ---- by flags

placed : (bs : List Bool) (n u : ℕ) → flag_at bs u ≡ true → (p : ℕ) × (place_at (places n bs) u ≡ Some p)
placed [] n u is = absurd (false≢true is)
placed (true ∷ bs) n zero is = (n, refl)
placed (true ∷ bs) n (suc u) is = placed bs (n + 1) u is
placed (false ∷ bs) n zero is = absurd (false≢true is)
placed (false ∷ bs) n (suc u) is = placed bs n u is

unplaced : (bs : List Bool) (n u : ℕ) → flag_at bs u ≡ false → place_at (places n bs) u ≡ None
unplaced [] n u is = refl
unplaced (true ∷ bs) n zero is = absurd (true≢false is)
unplaced (true ∷ bs) n (suc u) is = unplaced bs (n + 1) u is
unplaced (false ∷ bs) n zero is = refl
unplaced (false ∷ bs) n (suc u) is = unplaced bs n u is

flagged : (v : List ℕ) (lists : List (Vec Alternative Global)) (u : ℕ) → flag_at (flags v lists) u ≡ is_in_at v lists u
flagged v [] u = refl
flagged v (list ∷ lists) zero = refl
flagged v (list ∷ lists) (suc u) = flagged v lists u

-- ---- of a line's units

module _ (line : ProductLine) (v : List ℕ) (u : ℕ) where
  pub is_there : is_unit_there line v u ≡ true → HasLineUnit line v u
  is_there is = placed (flags v line.lists.units.items) 0 u (flagged v line.lists.units.items u ∙ is)

  pub is_lacking : is_unit_there line v u ≡ false → LacksUnit line v u
  is_lacking is = unplaced (flags v line.lists.units.items) 0 u (flagged v line.lists.units.items u ∙ is)

  pub not_both : (A : Type 0) → LacksUnit line v u → (p : ℕ) → HasPlace line v u p → A
  not_both A lacks p has = absurd (none-some p (sym lacks ∙ has))

  -- what stands at its place in the plan of the variant is what stands in the file
  pub same_unit : (plan : Plan) (p : ℕ) → IsVariantPlan line v plan → HasPlace line v u p
      → slice_get plan.units.items p ≡ slice_get line.plan.units.items u
  same_unit plan p is has =
      let flags_of = length-map line.lists.units.items (λ list. is_in v list.items) in
      let same = line.unit_lists in
      let count : length (flags v line.lists.units.items) ≡ length line.plan.units.items = flags_of ∙ same in
      ap (λ (us : List UnitPlan). slice_get us p) is.has_units
      ∙ place_same (flags v line.lists.units.items) line.plan.units.items u p count has

-- ---- plans of one variant have the same units

pub same_units : (line : ProductLine) (v : List ℕ) (p q : Plan) → IsVariantPlan line v p → IsVariantPlan line v q → units_of p ≡ units_of q
same_units line v p q of_p of_q = rw (of_p.has_keep_free, of_p.has_units, of_q.has_keep_free, of_q.has_units) refl

pub same_strangers : (line : ProductLine) (v : List ℕ) (p q : Plan) → IsVariantPlan line v p → IsVariantPlan line v q → p.strangers ≡ q.strangers
same_strangers line v p q of_p of_q = of_p.has_strangers ∙ sym of_q.has_strangers
