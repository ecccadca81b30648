-- A unit that stays in each full variant that has it stays in each possible one that does.
use Rattle.std.proofs.Common.{◌≡◌, ℕ, List, slice_index_or, Option, Some, None, refl, sym, ◌∙◌, arith}
use Rattle.std.specs.List.{slice_get}
use Rattle.std.proofs.lemmas.Option.{none-some, slice_get_within}
use Rattle.j39_network.specs.declared.plan.Plan.{Plan}
use Rattle.j39_network.specs.declared.plan.unit_plan.UnitPlan.{UnitPlan}
use Rattle.j39_variants.specs.VariantPlans.{IsVariantPlan, place_at, unit_places}
use Rattle.j39_variants.specs.declared.line.ProductLine.{ProductLine}
use Rattle.j39_line_findings.specs.FullVariants.{line_with}
use Rattle.j39_line_findings.specs.declared.full.LineNevers.{LineNevers}
use Rattle.j39_line_bounds.specs.LineStandings.{AreLineStandings, AreStandingsAmong, IsLineStanding, IsStandingAmong, LacksUnit, StaysIn}
use Rattle.j39_line_bounds.specs.declared.standing.LineStanding.{LineStanding}
use Rattle.j39_line_bounds.specs.declared.standing.LineStanding.TheVariants.{NoVariant, Stays, MayMove}
use Rattle.j39_line_bounds.proofs.UnitPlaces.{same_unit}
use Rattle.j39_part_laws.proofs.Places.{value_at}
use Rattle.j39_part_laws.proofs.Staying.{stay_there}
use Rattle.j39_line_laws.specs.Covering.{IsCoveredBy}
use Rattle.j39_line_laws.proofs.Parts.{at, is_part_at, unit_place, units_there}
use Rattle.j39_line_laws.proofs.VariantsExist.{some_plan}
use Rattle.j39_line_laws.specs.FoundOfFull.{IsPossibleFull}
use Rattle.j39_line_laws.specs.StayingOfFull.{FullVariantsReportOfUnits, FullVariantsReportWhoStays}
use Rattle.j39_line_laws.proofs.FoundOfFull.{full_cover}
use Rattle.j39_line_laws.proofs.WithoutNevers.{plan_back, plan_to, possible_to}

module _ (line : ProductLine) (u : ℕ) (unit : UnitPlan) (at_u : slice_get line.plan.units.items u ≡ Some unit) (v w : List ℕ)
    (covered : IsCoveredBy line v w) where
  stays_too : (whole : Plan) → IsVariantPlan line w whole → StaysIn line w u → StaysIn line v u
  stays_too whole is_whole stays part place is_part has =
      let there = units_there line v w covered u place has in
      let beside = stays whole (unit_place line v w covered place) is_whole there in
      let inside = slice_get_within part.units.items place unit (same_unit line v u part place is_part has ∙ at_u) in
      (stay_there (at line v w covered) part whole (is_part_at line v w covered part whole is_part is_whole)).beside place inside beside

  lacks_too : LacksUnit line w u → LacksUnit line v u
  lacks_too lacks = go (place_at (unit_places line v) u) refl
    where
      go : (o : Option ℕ) → place_at (unit_places line v) u ≡ o → place_at (unit_places line v) u ≡ None
      go None is_o = is_o
      go (Some p) is_o = absurd (none-some (unit_place line v w covered p) (sym lacks ∙ units_there line v w covered u p is_o))

module _ (line : ProductLine) where
  module _ (u : ℕ) (unit : UnitPlan) (at_u : slice_get line.plan.units.items u ≡ Some unit) where
    standing_too : (standing : LineStanding) → IsStandingAmong (IsPossibleFull line) line u standing → IsLineStanding line u standing
    standing_too NoVariant lacks = λ v possible.
        let (w, full, covered) = full_cover line v possible in
        lacks_too line u unit at_u v w covered (lacks w full)
    standing_too Stays ((w, full, has), stays) = (
      (w, full.possible, has),
      λ v possible.
          let (x, also, covered) = full_cover line v possible in
          let (whole, is_whole) = some_plan line x in
          stays_too line u unit at_u v x covered whole is_whole (stays x also),
    )
    standing_too MayMove (w, full, moves) = (w, full.possible, moves)

  standings_too : (standings : List LineStanding) → AreStandingsAmong (IsPossibleFull line) line standings → AreLineStandings line standings
  standings_too standings are = record {
    count = are.count;
    each = λ u below.
        let count = are.count in
        let (unit, at_u) = value_at line.plan.units.items u (omega (arith, below, count)) in
        standing_too u unit at_u (slice_index_or standings u NoVariant) (are.each u below);
  }

pub report_who_stays : (line : ProductLine) → FullVariantsReportWhoStays line
report_who_stays line standings are = standings_too line standings are

-- ---- with or without what isn't built

stay_to : (line : ProductLine) (nevers : LineNevers) (v : List ℕ) (u : ℕ) → StaysIn line v u → StaysIn (line_with nevers line) v u
stay_to line nevers v u stays plan place is = stays plan place (plan_back line nevers v plan is)

stay_back : (line : ProductLine) (nevers : LineNevers) (v : List ℕ) (u : ℕ) → StaysIn (line_with nevers line) v u → StaysIn line v u
stay_back line nevers v u stays plan place is = stays plan place (plan_to line nevers v plan is)

pub report_of_units : (line : ProductLine) (nevers : LineNevers) → FullVariantsReportOfUnits line nevers
report_of_units line nevers u below =
    let bare = line_with nevers line in
    let (unit, at_u) = value_at line.plan.units.items u below in
    record {
      stays = λ each v possible.
          let (w, full, covered) = full_cover bare v (possible_to line nevers v possible) in
          let (whole, is_whole) = some_plan bare w in
          stay_back line nevers v u (stays_too bare u unit at_u v w covered whole is_whole (stay_to line nevers w u (each w full)));
      lacks = λ each v possible.
          let (w, full, covered) = full_cover bare v (possible_to line nevers v possible) in
          lacks_too bare u unit at_u v w covered (each w full);
    }
