-- The signals of a group that a need names.
use Rattle.std.proofs.Common.{◌≡◌, ℕ, List, [], map, Option, Some, None, option_map, unwrap_or, refl, ◌∙◌, ap}
use Rattle.std.specs.List.{slice_get}
use Rattle.std.proofs.lemmas.Option.{slice_get-map}
use Rattle.j39_network.specs.declared.plan.group_plan.GroupPlan.{GroupPlan}
use Rattle.j39_plan.specs.NeedTables.{signal_texts, signals_at}

-- the labels of the signals of a group
abbrev pub texts_of : GroupPlan → List (List ℕ)
texts_of group = map (λ s. s.label.bytes) group.signals.items

in_one : (found : Option GroupPlan) → unwrap_or (option_map texts_of found) [] ≡ signal_texts found
in_one None = refl
in_one (Some group) = refl

pub signals_found : (groups : List GroupPlan) (g : ℕ)
    → signals_at (map (λ group. map (λ s. s.label.bytes) group.signals.items) groups) (Some g) ≡ signal_texts (slice_get groups g)
signals_found groups g = ap (λ (found : Option (List (List ℕ))). unwrap_or found []) (slice_get-map texts_of groups g) ∙ in_one (slice_get groups g)
