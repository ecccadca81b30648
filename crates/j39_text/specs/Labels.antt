-- What a place of a plan names; nothing past the last.
use Rattle.std.specs.Prelude.{ℕ, List, [], ◌++◌, codes}
use Rattle.std.specs.List.{slice_get}
use Rattle.std.specs.Option.{option_map_or}
use Rattle.j39_signal.specs.declared.signal_parts.SignalParts.{SignalParts}
use Rattle.j39_signal.specs.Places.{end_of}
use Rattle.j39_signal.specs.Selectors.{selector_end}
use Rattle.j39_network.specs.declared.plan.Plan.{Plan}
use Rattle.j39_network.specs.declared.plan.unit_plan.UnitPlan.{UnitPlan}
use Rattle.j39_network.specs.declared.plan.group_plan.GroupPlan.{GroupPlan}
use Rattle.j39_network.specs.declared.plan.need_plan.NeedPlan.{NeedPlan}
use Rattle.j39_network.specs.declared.plan.text_plan.TextPlan.{TextPlan}
use Rattle.j39_network.specs.TextPlaces.{last_byte}
use Rattle.j39_text.specs.Texts.{labels_text, place_field}

unfoldable pub unit_label : Plan → ℕ → List ℕ
unit_label plan i = option_map_or (λ (unit : UnitPlan). unit.label.bytes) (slice_get plan.units.items i) []

unfoldable pub unit_address : Plan → ℕ → ℕ
unit_address plan i = option_map_or (λ (unit : UnitPlan). unit.address) (slice_get plan.units.items i) 0

unfoldable pub group_label : Plan → ℕ → List ℕ
group_label plan g = option_map_or (λ (group : GroupPlan). group.label.bytes) (slice_get plan.groups.items g) []

unfoldable pub group_pgn : Plan → ℕ → ℕ
group_pgn plan g = option_map_or (λ (group : GroupPlan). group.pgn) (slice_get plan.groups.items g) 0

unfoldable pub signals_of : Plan → ℕ → List SignalParts
signals_of plan g = option_map_or (λ (group : GroupPlan). group.signals.items) (slice_get plan.groups.items g) []

unfoldable pub signal_label : Plan → ℕ → ℕ → List ℕ
signal_label plan g s = option_map_or (λ (signal : SignalParts). signal.label.bytes) (slice_get (signals_of plan g) s) []

unfoldable pub signal_bits : Plan → ℕ → ℕ → ℕ
signal_bits plan g s = option_map_or (λ (signal : SignalParts). signal.bits) (slice_get (signals_of plan g) s) 0

-- the first place after the signal
unfoldable pub signal_end : Plan → ℕ → ℕ → ℕ
signal_end plan g s = option_map_or end_of (slice_get (signals_of plan g) s) 0

unfoldable pub texts_of : Plan → ℕ → List TextPlan
texts_of plan g = option_map_or (λ (group : GroupPlan). group.texts.items) (slice_get plan.groups.items g) []

unfoldable pub text_label : Plan → ℕ → ℕ → List ℕ
text_label plan g t = option_map_or (λ (text : TextPlan). text.label.bytes) (slice_get (texts_of plan g) t) []

-- the last byte of the text
unfoldable pub text_end : Plan → ℕ → ℕ → ℕ
text_end plan g t = option_map_or last_byte (slice_get (texts_of plan g) t) 0

-- the first place behind the bits of the group's selector
unfoldable pub group_selector_end : Plan → ℕ → ℕ
group_selector_end plan g = option_map_or (λ (group : GroupPlan). option_map_or selector_end group.when 0) (slice_get plan.groups.items g) 0

-- a word, and two units
unfoldable pub units_text : List ℕ → Plan → ℕ → ℕ → List ℕ
units_text word plan i j = labels_text word (unit_label plan i) (unit_label plan j)

-- a word, and a group
unfoldable pub group_text : List ℕ → Plan → ℕ → List ℕ
group_text word plan g = word ++ group_label plan g

-- the signal that a need names, if it names one
unfoldable pub need_signal_text : Plan → NeedPlan → List ℕ
need_signal_text plan need = option_map_or (λ s. codes " " ++ signal_label plan need.group s) need.signal []

-- a need: its place, its unit, its group, and its signal where it names one
unfoldable pub need_text : Plan → ℕ → NeedPlan → List ℕ
need_text plan place need = place_field (codes "need ") place ++ (codes " " ++ (unit_label plan need.unit
    ++ (codes " " ++ (group_label plan need.group ++ need_signal_text plan need))))
