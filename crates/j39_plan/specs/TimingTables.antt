-- The table of the bus itself, which is known since the third version. Since the fourth more of it is.
use Rattle.std.specs.Prelude.{◌≡◌, ℕ, ◌==◌, if◌then◌else◌, List, [], ◌∷◌, ◌++◌, Option, Some, None}
use Rattle.std.specs.Option.{option_map_or}
use Rattle.toml.specs.Data.{Members}
use Rattle.j39_network.specs.declared.plan.timing.Bitrate.{Bitrate}
use Rattle.j39_network.specs.declared.plan.timing.Bitrate.TheVariants.{Kbit125, Kbit250, Kbit500, Mbit1}
use Rattle.j39_network.specs.declared.plan.timing.ErrorRate.{ErrorRate}
use Rattle.j39_network.specs.declared.plan.timing.Timing.{Timing}
use Rattle.j39_plan.specs.Words.{word_of}
use Rattle.j39_plan.specs.declared.reading.key.Key.TheVariants as key
use Rattle.j39_plan.specs.declared.reading.place.Table.TheVariants as at
use Rattle.j39_plan.specs.PlanErrors.{PlanFault}
use Rattle.j39_plan.specs.Schema.{PlanRule, number, bitrate, optional_table, table_of}
use Rattle.j39_toml.specs.Rules.{number_of}
use Rattle.j39_toml.specs.TableFaults.{table_faults}
use Rattle.j39_plan.specs.Since.{Since, since, is_known, known, rules_of, versioned_faults}
use Rattle.j39_plan.specs.declared.reading.version.Version.{Version}
use Rattle.j39_plan.specs.declared.reading.version.Version.TheVariants.{Third, Fourth}

-- ---- damaged frames

abbrev pub count_rule : PlanRule
count_rule = number key.Count 1 100 None

abbrev pub error_window_rule : PlanRule
error_window_rule = number key.Every 1 65535 None

abbrev pub error_rules : List PlanRule
error_rules = count_rule ∷ error_window_rule ∷ []

-- how many frames are damaged at most, as a table reports it
pub record DescribesErrorRate (ms : Members) (rate : ErrorRate) : Type 0 where
  pub has_count : rate.count ≡ number_of count_rule ms
  pub has_every : rate.every ≡ number_of error_window_rule ms

-- where there is a table of it
abbrev pub DescribesErrors : Option Members → Option ErrorRate → Type 0
DescribesErrors None None = Unit {0}
DescribesErrors (Some ms) (Some rate) = DescribesErrorRate ms rate
DescribesErrors _ _ = ⊥

unfoldable pub error_table_faults : Members → List PlanFault
error_table_faults ms = table_faults word_of at.TimingErrors error_rules ms

-- ---- the bus

-- since the fourth version more bitrates are known
abbrev pub bitrate_rule : Version → PlanRule
bitrate_rule version = bitrate key.Bitrate (is_known Fourth version)

abbrev pub unplanned_rule : PlanRule
unplanned_rule = number key.Unplanned 0 1000 None

abbrev pub unplanned_priority_rule : PlanRule
unplanned_priority_rule = number key.UnplannedPriority 0 6 (Some 6)

abbrev pub transport_priority_rule : PlanRule
transport_priority_rule = number key.TransportPriority 0 7 (Some 7)

-- from one frame of a long message to all to the next, in milliseconds
abbrev pub gap_rule : PlanRule
gap_rule = number key.BroadcastGap 10 200 (Some 50)

-- at most as many as this, and not fewer than at least
abbrev pub gap_most_rule : ℕ → PlanRule
gap_most_rule gap = number key.BroadcastGapMost gap 750 (Some 200)

-- how far a clock may be from true time, in parts in a million
abbrev pub drift_rule : PlanRule
drift_rule = number key.Drift 0 20000 (Some 0)

abbrev pub errors_rule : PlanRule
errors_rule = optional_table key.Errors

-- behind what isn't planned
abbrev pub later_timing_rules : Members → List Since
later_timing_rules ms =
    since Fourth unplanned_priority_rule
    ∷ since Fourth transport_priority_rule
    ∷ since Fourth gap_rule
    ∷ since Fourth (gap_most_rule (number_of gap_rule ms))
    ∷ since Fourth drift_rule
    ∷ since Fourth errors_rule
    ∷ []

abbrev pub timing_rules : Version → Members → List Since
timing_rules version ms =
    since Third (bitrate_rule version)
    ∷ since Third unplanned_rule
    ∷ later_timing_rules ms

-- in the third version the bus has these keys
abbrev pub OlderTimingRules : Type 0
OlderTimingRules = (ms : Members) → rules_of (known Third (timing_rules Third ms)) ≡ bitrate_rule Third ∷ unplanned_rule ∷ []

abbrev pub bitrate_of : ℕ → Bitrate
bitrate_of bits = if bits == 125000 then Kbit125 else if bits == 500000 then Kbit500 else if bits == 1000000 then Mbit1 else Kbit250

-- what a version that doesn't know these keys takes as given
abbrev pub unplanned_priority_of : Version → Members → ℕ
unplanned_priority_of version ms = if is_known Fourth version then number_of unplanned_priority_rule ms else 6

abbrev pub transport_priority_of : Version → Members → ℕ
transport_priority_of version ms = if is_known Fourth version then number_of transport_priority_rule ms else 7

abbrev pub gap_of : Version → Members → ℕ
gap_of version ms = if is_known Fourth version then number_of gap_rule ms else 50

abbrev pub gap_most_of : Version → Members → ℕ
gap_most_of version ms = if is_known Fourth version then number_of (gap_most_rule (number_of gap_rule ms)) ms else 200

abbrev pub drift_of : Version → Members → ℕ
drift_of version ms = if is_known Fourth version then number_of drift_rule ms else 0

abbrev pub errors_table : Version → Members → Option Members
errors_table version ms = if is_known Fourth version then table_of errors_rule ms else None

-- what a table reports of the bus
pub record DescribesBus (version : Version) (ms : Members) (timing : Timing) : Type 0 where
  pub has_bitrate : timing.bitrate ≡ bitrate_of (number_of (bitrate_rule version) ms)
  pub has_unplanned : timing.unplanned ≡ number_of unplanned_rule ms
  pub has_unplanned_priority : timing.unplanned_priority ≡ unplanned_priority_of version ms
  pub has_transport_priority : timing.transport_priority ≡ transport_priority_of version ms
  pub has_gap : timing.broadcast_gap ≡ gap_of version ms
  pub has_gap_most : timing.broadcast_gap_most ≡ gap_most_of version ms
  pub has_drift : timing.drift ≡ drift_of version ms
  pub has_errors : DescribesErrors (errors_table version ms) timing.errors

-- what is known of the bus, where there is a table of it
abbrev pub DescribesTiming : Version → Option Members → Option Timing → Type 0
DescribesTiming version None None = Unit {0}
DescribesTiming version (Some ms) (Some timing) = DescribesBus version ms timing
DescribesTiming _ _ _ = ⊥

-- the faults of the table, and then those of the table of errors
unfoldable pub timing_table_faults : Version → Members → List PlanFault
timing_table_faults version ms =
    versioned_faults at.Timing version (timing_rules version ms) ms ++ option_map_or error_table_faults (errors_table version ms) []
