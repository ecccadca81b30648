-- What is too old in a possible variant is found of one that is full for the need.
use Rattle.std.proofs.Common.{◌≡◌, ℕ, true, false, ◌&&◌, List, Contains, Option, Some, None, is_some, refl, sym, ◌∙◌, ap, subst}
use Rattle.std.specs.List.{slice_get}
use Rattle.std.specs.Option.{option_map_or}
use Rattle.std.proofs.lemmas.Bool.{and_from, and_parts}
use Rattle.j39_findings.specs.declared.checking.finding.Finding.TheVariants.{BadPgn}
use Rattle.j39_load.specs.declared.findings.load_finding.LoadFinding.{LoadFinding}
use Rattle.j39_load.specs.declared.findings.load_finding.LoadFinding.TheVariants.{NoPeriod, Overload, LateFlow, NeedTooOld, AskedTooOften}
use Rattle.j39_network.specs.declared.plan.need_plan.NeedPlan.{NeedPlan}
use Rattle.j39_variants.specs.VariantPlans.{group_places, moved_from, place_at, unit_places}
use Rattle.j39_variants.specs.declared.line.ProductLine.{ProductLine}
use Rattle.j39_line_findings.specs.InFile.{load_finding_in_file}
use Rattle.j39_line_findings.specs.PossibleVariants.{IsPossible}
use Rattle.j39_line_findings.specs.LineFound.{AreVariantFindings, IsFound}
use Rattle.j39_line_findings.specs.MissedNeeds.{is_group_there, is_need_asked_for, is_sender_there, is_source_there}
use Rattle.j39_line_findings.specs.There.{place_in_file}
use Rattle.j39_line_findings.specs.declared.line_finding.LineFinding.{LineFinding}
use Rattle.j39_line_findings.specs.declared.line_finding.LineFinding.TheVariants.{OfLoad}
use Rattle.j39_part_laws.specs.PartLoads.{HasGoodNumbers}
use Rattle.j39_line_findings.specs.declared.part.LinePart.TheVariants.{Need}
use Rattle.j39_line_laws.specs.Covering.{IsCoveredBy}
use Rattle.j39_line_laws.proofs.FoundOfCovering.{in_load, of_load_reported, of_plan_reported}
use Rattle.j39_line_laws.proofs.FullCovers.{has_full_cover_for}
use Rattle.j39_line_laws.proofs.Possible.{possible_too}
use Rattle.j39_line_laws.specs.OldNeeds.{AsksForAge, EachHasFullForNeed, HasNoBadNumber, IsPossibleFullFor, OldNeedsAreFoundOfFull}
use Rattle.j39_line_laws.specs.OldNeeds.{OldNeedsReportedOfFullAreReportedOfAll}
use Rattle.j39_line_laws.proofs.InBoxes.{part_by, part_lets}
use Rattle.j39_line_laws.proofs.NeedsInPlan.{need_in_plan, need_of_file}
use Rattle.j39_line_laws.proofs.PlacedTests.{need_of}
use Rattle.j39_line_laws.proofs.Sources.{group_too, meets_back, meets_too, unit_too}
use Rattle.j39_line_laws.proofs.TooOld.{covered_by, old_need, old_there}

-- each possible variant in which a need is asked for is covered by one that is full for it
pub has_full_for_need : (line : ProductLine) → EachHasFullForNeed line
has_full_for_need line v possible d asked =
    let (w, is_variant, full, covered, in_box) = has_full_cover_for line (Some d) v possible.is_variant (part_lets line v possible.is_variant (Need d) asked) in
    let by = covered_by line d v w covered in
    let also = possible_too line v w possible.is_variant is_variant by possible.possible in
    let asked_there = part_by line v w possible.is_variant is_variant (Need d) in_box asked in
    record {
      variant = w;
      full = record { possible = record { is_variant = is_variant; possible = also }; full = full; asked = asked_there };
      covered = covered;
      sources = record {
        to = λ need at_d f its. meets_too line v w by need f its;
        back = λ need at_d f its. meets_back line v w possible.is_variant is_variant d covered asked_there need at_d f its;
      };
    }

-- ---- what is found of the load of a variant

module _ (line : ProductLine) (v : List ℕ) (here : List LineFinding) (of_here : AreVariantFindings line v here) where
  -- where something old is reported at a place of the file, it is reported at its place in the plan
  pub old_in_plan : (d : ℕ) → IsFound here (OfLoad (NeedTooOld d)) → (k : ℕ) × Contains of_here.others (NeedTooOld k)
      × (place_in_file of_here.there.needs.items k ≡ d)
  old_in_plan d one = let (x, among, is) = in_load line v here of_here (NeedTooOld d) one in go x among is
    where
      go : (x : LoadFinding) → Contains of_here.others x → load_finding_in_file of_here.there x ≡ NeedTooOld d
          → (k : ℕ) × Contains of_here.others (NeedTooOld k) × (place_in_file of_here.there.needs.items k ≡ d)
      go (NoPeriod f) among is = absurd (no_period (place_in_file of_here.there.flows.items f) is)
        where
          no_period : (i : ℕ) → NoPeriod i ≡ NeedTooOld d → ⊥
          no_period i same = cc
      go (Overload n) among is = cc
      go (LateFlow f) among is = absurd (not_late (place_in_file of_here.there.flows.items f) is)
        where
          not_late : (i : ℕ) → LateFlow i ≡ NeedTooOld d → ⊥
          not_late i same = cc
      go (AskedTooOften f) among is = absurd (not_asked (place_in_file of_here.there.flows.items f) is)
        where
          not_asked : (i : ℕ) → AskedTooOften i ≡ NeedTooOld d → ⊥
          not_asked i same = cc
      go (NeedTooOld k) among is = (k, among, old_same (place_in_file of_here.there.needs.items k) is)
        where
          old_same : (i : ℕ) → NeedTooOld i ≡ NeedTooOld d → i ≡ d
          old_same i same = cc

  pub reported_in_file : (k : ℕ) → Contains of_here.others (NeedTooOld k) → IsFound here (OfLoad (NeedTooOld (place_in_file of_here.there.needs.items k)))
  reported_in_file k = of_load_reported line v here of_here (NeedTooOld k)

  -- no bad number of a group holds where none is found
  pub good_numbers : HasNoBadNumber here → HasGoodNumbers of_here.plan
  good_numbers none g bad = none (place_in_file of_here.there.groups.items g) (of_plan_reported line v here of_here (BadPgn g) bad)

-- ---- of a possible variant, and of the one that is full for the need

pub source_too : (line : ProductLine) (v w : List ℕ) → IsCoveredBy line v w → (d : ℕ) → is_source_there line v d ≡ true → is_source_there line w d ≡ true
source_too line v w covered d there = go (slice_get line.plan.needs.items d) there
  where
    sender : (o : Option ℕ) → is_sender_there line v o ≡ true → is_sender_there line w o ≡ true
    sender None is = refl
    sender (Some u) is = unit_too line v w covered u is

    go : (o : Option NeedPlan) → option_map_or (λ need. is_group_there line v need.group && is_sender_there line v need.from) o false ≡ true
        → option_map_or (λ need. is_group_there line w need.group && is_sender_there line w need.from) o false ≡ true
    go None none = none
    go (Some need) is =
        let (group, from) = and_parts (is_group_there line v need.group) (is_sender_there line v need.from) is in
        and_from _ _ (group_too line v w covered need.group group) (sender need.from from)

module _ (line : ProductLine) (v : List ℕ) (possible : IsPossible line v) (here : List LineFinding) (of_here : AreVariantFindings line v here) where
  reported_at_place : (w : List ℕ) (there : List LineFinding) (of_there : AreVariantFindings line w there) (l d : ℕ)
      → place_in_file of_there.there.needs.items l ≡ d → Contains of_there.others (NeedTooOld l) → IsFound there (OfLoad (NeedTooOld d))
  reported_at_place w there of_there l d place old = subst (λ n. IsFound there (OfLoad (NeedTooOld n))) place (reported_in_file line w there of_there l old)

  old_at : (k : ℕ) → Contains of_here.others (NeedTooOld k) → (d : ℕ) → place_in_file of_here.there.needs.items k ≡ d → AsksForAge line d
      × ((w : List ℕ) × IsPossibleFullFor line d w
      × ((there : List LineFinding) → AreVariantFindings line w there → HasNoBadNumber there → IsFound there (OfLoad (NeedTooOld d))))
  old_at k among d place =
      let (e, at_e, ages) = old_need of_here.plan of_here.others of_here.are_others k among in
      let its = need_of_file line v of_here.there of_here.is_there of_here.plan of_here.is_plan k e at_e in
      let at_d : slice_get line.plan.needs.items d ≡ Some its.need = ap (slice_get line.plan.needs.items) (sym place) ∙ its.need_is in
      let asked : is_need_asked_for line v d ≡ true = ap (is_need_asked_for line v) (sym place) ∙ its.asked in
      let source : is_source_there line v d ≡ true = ap (is_source_there line v) (sym place) ∙ its.source in
      let parts = need_of its.need (place_at (unit_places line v) its.need.unit) (place_at (group_places line v) its.need.group)
      (moved_from (unit_places line v) its.need.from) e its.made in
      let full = has_full_for_need line v possible d asked in
      let w = full.variant in
      let by = covered_by line d v w full.covered in (
        (its.need, at_d, ap is_some (sym parts.within) ∙ ages),
        (
          w,
          full.full,
          λ there of_there none.
              let also = need_in_plan line w of_there.there of_there.is_there of_there.plan of_there.is_plan d its.need at_d full.full.asked
              (source_too line v w by d source) in
              let those = need_of its.need (place_at (unit_places line w) its.need.unit) (place_at (group_places line w) its.need.group)
              (moved_from (unit_places line w) its.need.from) also.value also.made in
              let old = old_there line v w possible.is_variant full.full.possible.is_variant d full.covered full.full.asked of_here.there of_there.there of_here.is_there
              of_there.is_there of_here.plan of_there.plan of_here.is_plan of_there.is_plan its.need at_d e also.value its.made also.made
              (good_numbers line w there of_there none) k also.k at_e also.at (those.within ∙ sym parts.within) of_here.others of_there.others among
              of_here.are_others of_there.are_others in
              reported_at_place w there of_there also.k d also.place old,
        ),
      )

pub old_found : (line : ProductLine) → OldNeedsAreFoundOfFull line
old_found line v possible here of_here d one =
    let (k, among, place) = old_in_plan line v here of_here d one in
    old_at line v possible here of_here k among d place

pub old_reported : (line : ProductLine) → OldNeedsReportedOfFullAreReportedOfAll line
old_reported line reported each v possible here of_here d one =
    let (ages, (w, full, found_there)) = old_found line v possible here of_here d one in
    let (there, of_there, none, reports) = each d ages w full in
    reports (found_there there of_there none)
