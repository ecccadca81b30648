-- Which needs of the file are in the plan of a variant.
use Rattle.std.proofs.Common.{◌≡◌, ℕ, Bool, true, false, ◌&&◌, List, Option, Some, None, is_some, option_map, refl, sym, ◌∙◌, ap}
use Rattle.std.specs.List.{slice_get}
use Rattle.std.specs.Option.{option_map_or}
use Rattle.j39_network.specs.declared.plan.need_plan.NeedPlan.{NeedPlan}
use Rattle.j39_variants.specs.declared.line.ProductLine.{ProductLine}
use Rattle.j39_variants.specs.VariantPlans.{flag_at, flags, group_places, moved_from, moved_need, need_between, place_at, unit_places}
use Rattle.j39_line_findings.specs.MissedNeeds.{is_group_there, is_in_at, is_sender_there, is_unit_there}
use Rattle.j39_line_findings.specs.There.{is_need_there}
use Rattle.j39_line_laws.proofs.Filtering.{some_place, test_in}

together : (a b c d : Bool) → ((a && b) && (c && d)) ≡ (a && (b && (c && d)))
together false b c d = refl
together true b c d = refl

some_need : (d : NeedPlan) (u g : Option ℕ) (s : Option (Option ℕ)) → is_some (need_between d u g s) ≡ (is_some u && (is_some g && is_some s))
some_need d None g s = refl
some_need d (Some u) None s = refl
some_need d (Some u) (Some g) None = refl
some_need d (Some u) (Some g) (Some s) = refl

module _ (line : ProductLine) (v : List ℕ) where
  some_sender : (o : Option ℕ) → is_some (moved_from (unit_places line v) o) ≡ is_sender_there line v o
  some_sender None = refl
  some_sender (Some u) = mapped (place_at (unit_places line v) u) ∙ some_place v line.lists.units.items 0 u
    where
      mapped : (o : Option ℕ) → is_some (option_map Some o) ≡ is_some o
      mapped None = refl
      mapped (Some p) = refl

  pub need_test : (k : ℕ) (need : NeedPlan) → slice_get line.plan.needs.items k ≡ Some need
      → is_need_there line v k ≡ (flag_at (flags v line.lists.needs.items) k && is_some (moved_need (unit_places line v) (group_places line v) need))
  need_test k need at =
      let all : is_some (moved_need (unit_places line v) (group_places line v) need)
      ≡ (is_unit_there line v need.unit && (is_group_there line v need.group && is_sender_there line v need.from)) =
      some_need need (place_at (unit_places line v) need.unit) (place_at (group_places line v) need.group) (moved_from (unit_places line v) need.from)
      ∙ ap (λ b. b && (is_some (place_at (group_places line v) need.group) && is_some (moved_from (unit_places line v) need.from)))
      (some_place v line.lists.units.items 0 need.unit)
      ∙ ap (λ b. is_unit_there line v need.unit && (b && is_some (moved_from (unit_places line v) need.from)))
      (some_place v line.lists.groups.items 0 need.group)
      ∙ ap (λ b. is_unit_there line v need.unit && (is_group_there line v need.group && b)) (some_sender need.from) in
      ap (λ o. option_map_or (λ (x : NeedPlan). is_in_at v line.lists.needs.items k && is_unit_there line v x.unit) o false
      && option_map_or (λ (x : NeedPlan). is_group_there line v x.group && is_sender_there line v x.from) o false) at
      ∙ together (is_in_at v line.lists.needs.items k) (is_unit_there line v need.unit) (is_group_there line v need.group) (is_sender_there line v need.from)
      ∙ ap (λ b. is_in_at v line.lists.needs.items k && b) (sym all)
      ∙ ap (λ b. b && is_some (moved_need (unit_places line v) (group_places line v) need)) (test_in v line.lists.needs.items k)
