-- What is true of the needs of a plan that was read.
use Rattle.std.proofs.Common.{◌≡◌, ℕ, ◌<◌, ◌≤◌, arith, List, [], ◌∷◌, length, map, Option, Some, None, option_map, unwrap_or, All, refl, sym, ◌∙◌}
use Rattle.std.specs.Option.{option_map_or}
use Rattle.std.proofs.lemmas.Option.{slice_get-map}
use Rattle.std.specs.List.{slice_get}
use Rattle.std.proofs.lemmas.List.{length-map}
use Rattle.toml.specs.Data.{Data, Items, no_items, item, Members}
use Rattle.j39_network.specs.NeedPlaces.{signal_count}
use Rattle.j39_network.specs.PlanLimits.{need_limit}
use Rattle.j39_network.specs.declared.plan.unit_plan.UnitPlan.{UnitPlan}
use Rattle.j39_network.specs.declared.plan.group_plan.GroupPlan.{GroupPlan}
use Rattle.j39_network.specs.declared.plan.need_plan.NeedPlan.{NeedPlan}
use Rattle.j39_plan.specs.declared.reading.version.Version.{Version}
use Rattle.j39_plan.specs.declared.reading.version.Version.TheVariants.{First, Second, Third, Fourth}
use Rattle.j39_toml.specs.InOrder.{Each, inside}
use Rattle.j39_plan.specs.LabelsSeen.{label_in}
use Rattle.j39_plan.specs.Schema.{tables_of}
use Rattle.j39_toml.specs.Rules.{items_count}
use Rattle.j39_plan.specs.SignalTables.{IsSignalOf}
use Rattle.j39_plan.specs.GroupTables.{IsGroupOf, signal_rule}
use Rattle.j39_plan.specs.declared.reading.key.Key.TheVariants as key
use Rattle.j39_plan.specs.PlanFaults.{need_tables_of}
use Rattle.j39_plan.specs.NeedTables.{IsNeedOf, signals_at, signals_of_groups}
use Rattle.j39_plan.proofs.NoFaults.{All-from_Each, labels_stated, tables_count}
use Rattle.j39_plan.proofs.ReadPlans.{group_texts, unit_texts, placed}

-- the labels of the signals of each group
abbrev pub signals_texts : List GroupPlan → List (List (List ℕ))
signals_texts = map (λ g. map (λ s. s.label.bytes) g.signals.items)

-- those of groups that were read are those of the file
pub signals_texts_stated : (version : Version) (ds : Items) (gs : List GroupPlan) → Each (IsGroupOf version) ds gs → signals_texts gs ≡ signals_of_groups ds
unfolding Each signals_of_groups
signals_texts_stated version no_items [] each = refl
signals_texts_stated version no_items (g ∷ gs) each = absurd each
signals_texts_stated version (item d ds) [] each = absurd each
signals_texts_stated version (item d ds) (g ∷ gs) each =
    rw (
      labels_stated (IsSignalOf version) label_in (λ s. s.label.bytes) (λ e s is. is.has_label)
          (tables_of signal_rule (inside d)) g.signals.items each.0.has_signals,
      signals_texts_stated version ds gs each.1,
    )

pub needs_count : (version : Version) (ms : Members) → items_count (need_tables_of version ms) ≤ need_limit
needs_count Fourth ms = tables_count key.Need need_limit ms
needs_count First ms = omega arith
needs_count Second ms = omega arith
needs_count Third ms = omega arith

-- what a table reports is a need of one of these units for one of these groups
abbrev pub IsAmong : List GroupPlan → List UnitPlan → Data → NeedPlan → Type 0
IsAmong gs us = IsNeedOf (group_texts gs) (signals_texts gs) (unit_texts us)

pub need_senders : (gs : List GroupPlan) (us : List UnitPlan) (ds : Items) (ns : List NeedPlan) → Each (IsAmong gs us) ds ns
    → All (λ n. (u : ℕ) → n.from ≡ Some u → u < length us) ns
need_senders gs us = All-from_Each (IsAmong gs us) (λ n. (u : ℕ) → n.from ≡ Some u → u < length us)
    (λ d n is u one. rw length-map at (placed (unit_texts us) _ u (sym is.has_from ∙ one)))

count_in : (found : Option GroupPlan)
    → length (unwrap_or (option_map (λ (x : GroupPlan). map (λ s. s.label.bytes) x.signals.items) found) [])
    ≡ option_map_or (λ group. length group.signals.items) found 0
count_in None = refl
count_in (Some group) = length-map group.signals.items (λ s. s.label.bytes)

count_at : (gs : List GroupPlan) (g : ℕ) → length (signals_at (signals_texts gs) (Some g)) ≡ signal_count gs g
count_at gs g = rw (slice_get-map (λ (x : GroupPlan). map (λ s. s.label.bytes) x.signals.items) gs g) (count_in (slice_get gs g))

pub need_signals : (gs : List GroupPlan) (us : List UnitPlan) (ds : Items) (ns : List NeedPlan) → Each (IsAmong gs us) ds ns
    → All (λ n. (s : ℕ) → n.signal ≡ Some s → s < signal_count gs n.group) ns
need_signals gs us = All-from_Each (IsAmong gs us) (λ n. (s : ℕ) → n.signal ≡ Some s → s < signal_count gs n.group)
    (λ d n is s one. rw (count_at gs n.group) at (placed (signals_at (signals_texts gs) (Some n.group)) _ s (sym is.has_signal ∙ one)))
