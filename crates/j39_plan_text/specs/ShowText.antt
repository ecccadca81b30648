-- The text that the show command writes for a plan file: each value of the plan that it describes, those too that it leaves to their defaults,
-- one a line, behind the table and the key that it has in a file.
use Rattle.std.specs.Prelude.{◌≡◌, ℕ, zero, suc, ◌+◌, ◌/◌, ◌%◌, ◌==◌, Bool, true, false, if◌then◌else◌, List, [], ◌∷◌, ◌++◌, codes, decimal, Option, Some, None}
use Rattle.std.specs.Fmt.{signed_decimal}
use Rattle.std.specs.FinSet.{FinSet, contains}
use Rattle.std.specs.List.{slice_get}
use Rattle.std.specs.Option.{option_map_or}
use Rattle.std.specs.Ordering.{nat_cmp}
use Rattle.j39_id.specs.Name.{fields_of}
use Rattle.j39_id.specs.declared.name_fields.NameFields.{NameFields}
use Rattle.j39_signal.specs.declared.signal_parts.SignalParts.{SignalParts}
use Rattle.j39_signal.specs.declared.kind.Kind.{Kind}
use Rattle.j39_signal.specs.declared.kind.Kind.TheVariants as kinds
use Rattle.j39_signal.specs.declared.selector.Selector.{Selector}
use Rattle.j39_network.specs.declared.plan.Plan.{Plan}
use Rattle.j39_network.specs.declared.plan.flow_plan.FlowPlan.{FlowPlan}
use Rattle.j39_network.specs.declared.plan.group_plan.GroupPlan.{GroupPlan}
use Rattle.j39_network.specs.declared.plan.meaning.Meaning.{Meaning}
use Rattle.j39_network.specs.declared.plan.meaning.ValueName.{ValueName}
use Rattle.j39_network.specs.declared.plan.need_plan.NeedPlan.{NeedPlan}
use Rattle.j39_network.specs.declared.plan.pace.Pace.{Pace}
use Rattle.j39_network.specs.declared.plan.queue.Queue.{Queue}
use Rattle.j39_network.specs.declared.plan.queue.Queue.TheVariants as queues
use Rattle.j39_network.specs.declared.plan.request_plan.RequestPlan.{RequestPlan}
use Rattle.j39_network.specs.declared.plan.text_plan.TextPlan.{TextPlan}
use Rattle.j39_network.specs.declared.plan.timing.ErrorRate.{ErrorRate}
use Rattle.j39_network.specs.declared.plan.timing.Timing.{Timing}
use Rattle.j39_network.specs.declared.plan.to.To.{To}
use Rattle.j39_network.specs.declared.plan.to.To.TheVariants.{All, One}
use Rattle.j39_network.specs.declared.plan.unit_plan.UnitPlan.{UnitPlan}
use Rattle.j39_network.specs.declared.plan.way.Way.{Way}
use Rattle.j39_network.specs.declared.plan.way.Way.TheVariants.{Lowest, Upward}
use Rattle.j39_load.specs.LineLists.{lines_of_each}
use Rattle.j39_plan.specs.Words.{word_of}
use Rattle.j39_plan.specs.declared.reading.key.Key.{Key}
use Rattle.j39_plan.specs.declared.reading.key.Key.TheVariants as key
use Rattle.j39_plan.specs.declared.reading.place.Table.{Table}
use Rattle.j39_plan.specs.declared.reading.place.Table.TheVariants as at
use Rattle.j39_text.specs.Labels.{group_label, signal_label, unit_label}
use Rattle.j39_stream.specs.declared.verdict.Verdict.{Verdict}
use Rattle.j39_stream.specs.declared.verdict.Verdict.TheVariants.{Done, Findings, Refused, Unreadable}
use Rattle.j39_plan_text.specs.PlanText.{table_text}
use Rattle.j39_load.specs.Loads.{bits_of_second}

-- ---- a value

-- the table and the key, as a refusal names them
unfoldable pub value_front : Table → Key → List ℕ
value_front table key = table_text table ++ (codes " " ++ (word_of key ++ codes " "))

-- and the value
unfoldable pub value_line : Table → Key → List ℕ → List ℕ
value_line table key value = value_front table key ++ (value ++ 10 ∷ [])

-- what a plan doesn't have isn't written
unfoldable pub optional_line : {X : Type 0} → (X → List ℕ) → Table → Key → Option X → List ℕ
optional_line text table key None = []
optional_line text table key (Some x) = value_line table key (text x)

unfoldable pub truth_line : Table → Key → Bool → List ℕ
truth_line table key true = value_line table key (codes "true")
truth_line table key false = value_line table key (codes "false")

-- nor an empty text
unfoldable pub text_value_line : Table → Key → List ℕ → List ℕ
text_value_line table key [] = []
text_value_line table key (b ∷ bytes) = value_line table key (b ∷ bytes)

-- ---- the top

unfoldable pub kept_line : FinSet nat_cmp → ℕ → List ℕ
kept_line kept address = if contains kept address then value_line at.Top key.KeepFree (decimal address) else []

-- of so many addresses from 128 on
unfoldable pub kept_lines : FinSet nat_cmp → ℕ → List ℕ
kept_lines kept zero = []
kept_lines kept (suc n) = kept_lines kept n ++ kept_line kept (128 + n)

unfoldable pub error_lines : Option ErrorRate → List ℕ
error_lines None = []
error_lines (Some errors) =
    value_line at.TimingErrors key.Count (decimal errors.count) ++ value_line at.TimingErrors key.Every (decimal errors.every)

-- the gaps between packets of long messages to all, and how far clocks are from true time
unfoldable pub gap_lines : Timing → List ℕ
gap_lines t = value_line at.Timing key.BroadcastGap (decimal t.broadcast_gap)
    ++ (value_line at.Timing key.BroadcastGapMost (decimal t.broadcast_gap_most) ++ value_line at.Timing key.Drift (decimal t.drift))

unfoldable pub known_timing_lines : Timing → List ℕ
known_timing_lines t =
    value_line at.Timing key.Bitrate (decimal (bits_of_second t.bitrate)) ++ (value_line at.Timing key.Unplanned (decimal t.unplanned)
    ++ (value_line at.Timing key.UnplannedPriority (decimal t.unplanned_priority)
    ++ (value_line at.Timing key.TransportPriority (decimal t.transport_priority)
    ++ (gap_lines t ++ error_lines t.errors))))

unfoldable pub timing_lines : Option Timing → List ℕ
timing_lines None = []
timing_lines (Some timing) = known_timing_lines timing

-- ---- units

abbrev pub chooser_text : Way → List ℕ
chooser_text Lowest = codes "lowest"
chooser_text Upward = codes "upward"

abbrev pub queue_text : Queue → List ℕ
queue_text queues.Priority = codes "priority"
queue_text queues.Any = codes "any"

-- a unit of any serial number has no line of it
abbrev pub identity_lines : Table → Bool → ℕ → List ℕ
identity_lines table any identity = if any then [] else value_line table key.Identity (decimal identity)

-- the fields of a NAME, from the lowest up, in two parts
unfoldable pub lower_name_lines : Table → Bool → NameFields → List ℕ
lower_name_lines table any f =
    identity_lines table any f.identity ++ (value_line table key.Manufacturer (decimal f.manufacturer)
    ++ (value_line table key.Ecu (decimal f.ecu) ++ (value_line table key.FunctionInstance (decimal f.function_instance)
    ++ value_line table key.Function (decimal f.function))))

unfoldable pub upper_name_lines : Table → NameFields → List ℕ
upper_name_lines table f =
    value_line table key.System (decimal f.system) ++ (value_line table key.SystemInstance (decimal f.system_instance)
    ++ (value_line table key.Industry (decimal f.industry) ++ truth_line table key.Arbitrary (f.arbitrary == 1)))

unfoldable pub name_field_lines : Table → Bool → NameFields → List ℕ
name_field_lines table any f = lower_name_lines table any f ++ upper_name_lines table f

-- how it chooses addresses and what it grants and offers
unfoldable pub unit_way_lines : Table → UnitPlan → List ℕ
unit_way_lines table unit =
    value_line table key.Chooser (chooser_text unit.way)
    ++ (value_line table key.Window (decimal unit.window) ++ value_line table key.Queue (queue_text unit.queue))

unfoldable pub unit_value_lines : ℕ → UnitPlan → List ℕ
unit_value_lines u unit =
    value_line (at.Unit u) key.Label unit.label.bytes ++ (value_line (at.Unit u) key.Address (decimal unit.address)
    ++ (unit_way_lines (at.Unit u) unit
    ++ (name_field_lines (at.UnitName u) unit.any_identity (fields_of unit.name) ++ truth_line (at.Unit u) key.Claims unit.claims)))

-- ---- groups

abbrev pub kind_text : Kind → List ℕ
kind_text kinds.Measured = codes "measured"
kind_text kinds.Discrete = codes "discrete"
kind_text kinds.Raw = codes "raw"
kind_text kinds.States = codes "states"
kind_text kinds.Signed = codes "signed"
kind_text kinds.Dtc = codes "dtc"

-- a raw number and its name
unfoldable pub name_of_value_line : Table → ValueName → List ℕ
name_of_value_line table value = value_line table key.Values (decimal value.raw ++ (codes " " ++ value.name.bytes))

unfoldable pub signal_meaning_lines : Table → Option Meaning → List ℕ
signal_meaning_lines table None = []
signal_meaning_lines table (Some meaning) =
    optional_line decimal table key.Spn meaning.spn ++ lines_of_each (λ _ value. name_of_value_line table value) 0 meaning.values.items

-- where its bits are; bytes and bits are counted from 1
unfoldable pub signal_place_lines : Table → SignalParts → List ℕ
signal_place_lines table s =
    value_line table key.Label s.label.bytes ++ (value_line table key.Byte (decimal (s.start / 8 + 1))
    ++ (value_line table key.Bit (decimal (s.start % 8 + 1)) ++ (value_line table key.Bits (decimal s.bits)
    ++ value_line table key.Kind (kind_text s.kind))))

-- what its raw numbers are worth
unfoldable pub signal_scale_lines : Table → SignalParts → List ℕ
signal_scale_lines table s =
    value_line table key.Step (decimal s.step) ++ (value_line table key.Per (decimal s.per)
    ++ (value_line table key.Offset (signed_decimal s.offset)
    ++ (text_value_line table key.Unit s.unit.bytes ++ (truth_line table key.Repeated s.repeated ++ truth_line table key.Optional s.optional))))

unfoldable pub signal_value_lines : Table → SignalParts → List ℕ
signal_value_lines table s = signal_place_lines table s ++ signal_scale_lines table s

unfoldable pub signal_at_lines : ℕ → GroupPlan → ℕ → SignalParts → List ℕ
signal_at_lines g group s signal =
    signal_value_lines (at.Signal g s) signal ++ signal_meaning_lines (at.Signal g s) (slice_get group.meanings.items s)

unfoldable pub planned_text_lines : ℕ → ℕ → TextPlan → List ℕ
planned_text_lines g t text =
    value_line (at.Text g t) key.Label text.label.bytes
    ++ (value_line (at.Text g t) key.Byte (decimal text.byte) ++ optional_line decimal (at.Text g t) key.Bytes text.bytes)

unfoldable pub group_head_lines : Table → GroupPlan → List ℕ
group_head_lines table group =
    value_line table key.Label group.label.bytes ++ (value_line table key.Pgn (decimal group.pgn)
    ++ (value_line table key.Priority (decimal group.priority) ++ value_line table key.Length (decimal group.length)))

unfoldable pub group_form_lines : Table → GroupPlan → List ℕ
group_form_lines table group =
    truth_line table key.Private group.private
    ++ (value_line table key.Most (decimal group.most) ++ optional_line decimal table key.Every group.every)

-- the bits that report a group's messages, if any do, by the table that they have in it
unfoldable pub when_lines : Table → Option Selector → List ℕ
when_lines table None = []
when_lines table (Some w) =
    value_line table key.Byte (decimal (w.start / 8 + 1)) ++ (value_line table key.Bit (decimal (w.start % 8 + 1))
    ++ (value_line table key.Bits (decimal w.bits) ++ value_line table key.Value (decimal w.value)))

-- a group, with its signals and its texts
unfoldable pub group_lines : ℕ → GroupPlan → List ℕ
group_lines g group =
    group_head_lines (at.Group g) group ++ (group_form_lines (at.Group g) group ++ (when_lines (at.GroupWhen g) group.when
    ++ (lines_of_each (signal_at_lines g group) 0 group.signals.items ++ lines_of_each (planned_text_lines g) 0 group.texts.items)))

-- ---- flows, needs and requests

-- to all, or to a unit
unfoldable pub receivers_text : Plan → To → List ℕ
receivers_text plan All = codes "all"
receivers_text plan (One u) = unit_label plan u

-- a deadline that isn't written in the file isn't written here
unfoldable pub pace_lines : Table → Option Pace → List ℕ
pace_lines table None = []
pace_lines table (Some pace) =
    value_line table key.Period (decimal pace.period)
    ++ (optional_line decimal table key.Deadline pace.deadline ++ value_line table key.Jitter (decimal pace.jitter))

unfoldable pub flow_lines : Plan → ℕ → FlowPlan → List ℕ
flow_lines plan f flow =
    value_line (at.Flow f) key.Group (group_label plan flow.group) ++ (value_line (at.Flow f) key.From (unit_label plan flow.sender)
    ++ (value_line (at.Flow f) key.To (receivers_text plan flow.to) ++ (pace_lines (at.Flow f) flow.pace
    ++ (optional_line decimal (at.Flow f) key.Pause flow.pause ++ truth_line (at.Flow f) key.OnRequest flow.on_request))))

unfoldable pub need_signal_line : Plan → Table → NeedPlan → List ℕ
need_signal_line plan table need = option_map_or (λ s. value_line table key.Signal (signal_label plan need.group s)) need.signal []

unfoldable pub need_from_line : Plan → Table → NeedPlan → List ℕ
need_from_line plan table need = option_map_or (λ u. value_line table key.From (unit_label plan u)) need.from []

unfoldable pub need_lines : Plan → ℕ → NeedPlan → List ℕ
need_lines plan n need =
    value_line (at.Need n) key.Unit (unit_label plan need.unit) ++ (value_line (at.Need n) key.Group (group_label plan need.group)
    ++ (need_signal_line plan (at.Need n) need ++ (need_from_line plan (at.Need n) need ++ optional_line decimal (at.Need n) key.Within need.within)))

unfoldable pub request_lines : Plan → ℕ → RequestPlan → List ℕ
request_lines plan r request =
    value_line (at.Request r) key.Group (group_label plan request.group) ++ (value_line (at.Request r) key.From (unit_label plan request.sender)
    ++ (value_line (at.Request r) key.To (receivers_text plan request.to) ++ optional_line decimal (at.Request r) key.Period request.period))

-- ---- all of it

unfoldable pub top_lines : Plan → List ℕ
top_lines plan =
    kept_lines plan.keep_free 120 ++ (value_line at.Top key.Strangers (decimal plan.strangers)
    ++ (truth_line at.Top key.Live plan.live ++ timing_lines plan.timing))

unfoldable pub show_text : Plan → List ℕ
show_text plan =
    top_lines plan ++ (lines_of_each unit_value_lines 0 plan.units.items ++ (lines_of_each group_lines 0 plan.groups.items
    ++ (lines_of_each (flow_lines plan) 0 plan.flows.items ++ (lines_of_each (need_lines plan) 0 plan.needs.items
    ++ lines_of_each (request_lines plan) 0 plan.requests.items))))
