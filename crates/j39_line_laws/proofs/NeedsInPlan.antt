-- The needs of a variant's plan, and their places in the file.
use Rattle.std.proofs.Common.{◌≡◌, ℕ, ◌+◌, Bool, true, List, length, Option, Some, None, is_some, unwrap_or, refl, sym, ◌∙◌, ap, arith}
use Rattle.std.specs.List.{range_with_len, slice_get}
use Rattle.std.proofs.lemmas.Bool.{and_from, and_parts}
use Rattle.std.proofs.lemmas.List.{length-map}
use Rattle.j39_network.specs.declared.plan.Plan.{Plan}
use Rattle.j39_network.specs.declared.plan.need_plan.NeedPlan.{NeedPlan}
use Rattle.j39_variants.specs.declared.line.ProductLine.{ProductLine}
use Rattle.j39_variants.specs.VariantPlans.{flag_at, flags, group_places, IsVariantPlan, moved_need, picked, unit_places}
use Rattle.j39_variants.specs.Variants.{is_in}
use Rattle.j39_line_findings.specs.MissedNeeds.{is_need_asked_for, is_source_there}
use Rattle.j39_line_findings.specs.There.{is_need_there, IsPresent, place_in_file, places_of_those}
use Rattle.j39_line_findings.specs.declared.there.Present.{Present}
use Rattle.j39_part_laws.proofs.Places.{value_at}
use Rattle.j39_line_laws.proofs.Filtering.{kept_at, length-kept}
use Rattle.j39_line_laws.proofs.NeedsThere.{need_test}
use Rattle.j39_line_laws.proofs.Picking.{kept}
use Rattle.j39_line_laws.proofs.PlacesInFile.{flagged}
use Rattle.j39_line_laws.proofs.Origins.{comes_from, one_place_each, stands_at}

module _ (line : ProductLine) (v : List ℕ) where
  abbrev pub move_need : NeedPlan → Option NeedPlan
  move_need = moved_need (unit_places line v) (group_places line v)

  abbrev need_flags : List Bool
  need_flags = kept move_need (flags v line.lists.needs.items) line.plan.needs.items

  need_count : length (flags v line.lists.needs.items) ≡ length line.plan.needs.items
  need_count = length-map line.lists.needs.items (λ list. is_in v list.items) ∙ line.need_lists

  needs_flagged : places_of_those (is_need_there line v) (length line.plan.needs.items) ≡ picked need_flags (range_with_len 0 (length line.plan.needs.items))
  needs_flagged = flagged (is_need_there line v) need_flags (length line.plan.needs.items)
      (length-kept move_need (flags v line.lists.needs.items) line.plan.needs.items need_count)
      (λ k below. let (d, at_d) = value_at line.plan.needs.items k below in
      need_test line v k d at_d ∙ sym (kept_at move_need (flags v line.lists.needs.items) line.plan.needs.items k d need_count at_d))

  -- no need stands twice
  pub one_need_place : (there : Present) → IsPresent line v there → (i j d : ℕ) → slice_get there.needs.items i ≡ Some d
      → slice_get there.needs.items j ≡ Some d → i ≡ j
  one_need_place there is_there i j d at_i at_j =
      let same = is_there.has_needs ∙ needs_flagged in
      one_place_each need_flags 0 (length line.plan.needs.items) i j d (ap (λ l. slice_get l i) (sym same) ∙ at_i) (ap (λ l. slice_get l j) (sym same) ∙ at_j)

  module _ (there : Present) (is_there : IsPresent line v there) (plan : Plan) (is : IsVariantPlan line v plan) where
    file_place : (k d : ℕ) → slice_get (picked need_flags (range_with_len 0 (length line.plan.needs.items))) k ≡ Some (0 + d)
        → place_in_file there.needs.items k ≡ d
    file_place k d at_k =
        ap (λ l. place_in_file l k) (is_there.has_needs ∙ needs_flagged) ∙ ap (λ o. unwrap_or o 0) at_k ∙ (let e : 0 + d ≡ d = omega arith in e)

    -- a need of the plan is one of the file that is asked for
    pub record IsNeedOfFile (k : ℕ) (e : NeedPlan) : Type 0 where
      pub need : NeedPlan
      pub need_is : slice_get line.plan.needs.items (place_in_file there.needs.items k) ≡ Some need
      pub made : move_need need ≡ Some e
      pub asked : is_need_asked_for line v (place_in_file there.needs.items k) ≡ true
      pub source : is_source_there line v (place_in_file there.needs.items k) ≡ true

    pub need_of_file : (k : ℕ) (e : NeedPlan) → slice_get plan.needs.items k ≡ Some e → IsNeedOfFile k e
    need_of_file k e at_k =
        let its = comes_from move_need (flags v line.lists.needs.items) line.plan.needs.items 0 k e (ap (λ l. slice_get l k) (sym is.has_needs) ∙ at_k) in
        let place = file_place k its.k its.place in
        let both = need_test line v its.k its.value its.value_is ∙ and_from _ _ its.flagged (ap is_some its.made) in
        let (asked, source) = and_parts (is_need_asked_for line v its.k) (is_source_there line v its.k) both in
        record {
          need = its.value;
          need_is = ap (slice_get line.plan.needs.items) place ∙ its.value_is;
          made = its.made;
          asked = ap (is_need_asked_for line v) place ∙ asked;
          source = ap (is_source_there line v) place ∙ source;
        }

    -- and one of the file that is asked for, and whose source is there, stands in the plan
    pub record IsNeedInPlan (d : ℕ) (need : NeedPlan) : Type 0 where
      pub k : ℕ
      pub value : NeedPlan
      pub at : slice_get plan.needs.items k ≡ Some value
      pub made : move_need need ≡ Some value
      pub place : place_in_file there.needs.items k ≡ d
      pub stands : slice_get there.needs.items k ≡ Some d

    pub need_in_plan : (d : ℕ) (need : NeedPlan) → slice_get line.plan.needs.items d ≡ Some need → is_need_asked_for line v d ≡ true
        → is_source_there line v d ≡ true
        → IsNeedInPlan d need
    need_in_plan d need at_d asked source =
        let both = sym (need_test line v d need at_d) ∙ and_from _ _ asked source in
        let (flag, some) = and_parts (flag_at (flags v line.lists.needs.items) d) (is_some (move_need need)) both in
        go (move_need need) refl flag some
      where
        go : (o : Option NeedPlan) → move_need need ≡ o → flag_at (flags v line.lists.needs.items) d ≡ true → is_some o ≡ true → IsNeedInPlan d need
        go None is_o flag none = cc
        go (Some e) is_o flag some =
            let its = stands_at move_need (flags v line.lists.needs.items) line.plan.needs.items 0 d need e at_d flag is_o in
            record {
              k = its.j;
              value = e;
              at = ap (λ l. slice_get l its.j) is.has_needs ∙ its.at;
              made = is_o;
              place = file_place its.j d its.place;
              stands = ap (λ l. slice_get l its.j) (is_there.has_needs ∙ needs_flagged) ∙ its.place ∙ ap Some (let e : 0 + d ≡ d = omega arith in e);
            }
