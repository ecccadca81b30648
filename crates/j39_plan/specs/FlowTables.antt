-- The tables of flows. Since the third version it is known how often a flow is sent, since the fourth also how far behind its releases, for how long it
-- is silent, and whether it is sent on request alone.
use Rattle.std.specs.Prelude.{◌≡◌, ℕ, ◌-◌, List, [], ◌∷◌, ◌++◌, Bool, false, ◌&&◌, ◌||◌, if◌then◌else◌, Option}
use Rattle.std.specs.Prelude.{Some, None, IfSome, option_map, option_and_then, codes, is_some, position}
use Rattle.std.specs.Str.{bytes_eq}
use Rattle.std.specs.Option.{option_map_or}
use Rattle.toml.specs.Data.{Data, Members, as_table}
use Rattle.j39_network.specs.declared.plan.to.To.{To}
use Rattle.j39_network.specs.declared.plan.to.To.TheVariants.{All, One}
use Rattle.j39_network.specs.declared.plan.flow_plan.FlowPlan.{FlowPlan}
use Rattle.j39_network.specs.declared.plan.pace.Pace.{Pace}
use Rattle.j39_toml.specs.declared.cause.Cause.TheVariants.{UnknownLabel}
use Rattle.j39_plan.specs.declared.reading.key.Key.{Key}
use Rattle.j39_plan.specs.declared.reading.key.Key.TheVariants as key
use Rattle.j39_plan.specs.declared.reading.place.Table.{Table}
use Rattle.j39_plan.specs.declared.reading.place.Table.TheVariants as at
use Rattle.j39_plan.specs.PlanErrors.{PlanFault}
use Rattle.j39_plan.specs.declared.reading.text_kind.TextKind.TheVariants as texts
use Rattle.j39_plan.specs.Schema.{PlanRule, has_key, text, number, optional, flag, found_text, given_number}
use Rattle.j39_toml.specs.Rules.{rule_of, natural_in, number_of, flag_of}
use Rattle.j39_plan.specs.Words.{word_of}
use Rattle.j39_toml.specs.TableFaults.{table_only_faults, fault}
use Rattle.j39_plan.specs.Since.{Since, since, is_known, known, rules_of, faults_beside, with_key}
use Rattle.j39_plan.specs.declared.reading.version.Version.{Version}
use Rattle.j39_plan.specs.declared.reading.version.Version.TheVariants.{First, Third, Fourth}
use Rattle.j39_toml.specs.InOrder.{inside}

abbrev pub group_rule : PlanRule
group_rule = text key.Group texts.Any None

abbrev pub from_rule : PlanRule
from_rule = text key.From texts.Any None

abbrev pub to_rule : PlanRule
to_rule = text key.To texts.Any None

-- two messages of the flow are so many milliseconds apart at least
abbrev pub period_of : Bool → PlanRule
period_of asked = rule_of word_of key.Period (natural_in 1 65535) asked

-- a deadline asks for a period, and so does a jitter in a version that knows it
abbrev pub asks_for_period : Version → Members → Bool
asks_for_period version ms = (is_known Fourth version && has_key key.Jitter ms) || has_key key.Deadline ms

abbrev pub period_rule : Version → Members → PlanRule
period_rule version ms = period_of (asks_for_period version ms)

abbrev pub deadline_rule : PlanRule
deadline_rule = optional key.Deadline 1 65535

-- a message is queued at most so many milliseconds after its release: fewer than its period has
abbrev pub jitter_most : Option ℕ → ℕ
jitter_most None = 65535
jitter_most (Some period) = period - 1

abbrev pub jitter_rule : Option ℕ → PlanRule
jitter_rule period = number key.Jitter 0 (jitter_most period) (Some 0)

-- a flow is silent for so many milliseconds at most: for as many as its period has at least
abbrev pub pause_least : Option ℕ → ℕ
pause_least None = 1
pause_least (Some period) = period

abbrev pub pause_rule : Option ℕ → PlanRule
pause_rule period = optional key.Pause (pause_least period) 65535

-- whether a flow is sent only as the answer to a request
abbrev pub on_request_rule : PlanRule
on_request_rule = flag key.OnRequest false

-- the period: none in a version that doesn't know it
abbrev pub given_period : Version → Members → Option ℕ
given_period version ms = if is_known Third version then given_number (period_rule version ms) ms else None

-- and the deadline
abbrev pub given_deadline : Version → Members → Option ℕ
given_deadline version ms = if is_known Third version then given_number deadline_rule ms else None

-- behind the deadline, by the period
abbrev pub later_pace_rules : Option ℕ → List Since
later_pace_rules period =
    since Fourth (jitter_rule period)
    ∷ since Fourth (pause_rule period)
    ∷ since Fourth on_request_rule
    ∷ []

abbrev pub pace_rules : Version → Members → List Since
pace_rules version ms =
    since Third (period_rule version ms)
    ∷ since Third deadline_rule
    ∷ later_pace_rules (given_period version ms)

abbrev pub flow_rules : Version → Members → List Since
flow_rules version ms =
    since First group_rule
    ∷ since First from_rule
    ∷ since First to_rule
    ∷ pace_rules version ms

-- before the third version a flow has these keys, and in the third these
abbrev pub SecondFlowRules : Type 0
SecondFlowRules = (version : Version) (ms : Members) → is_known Third version ≡ false
    → rules_of (known version (flow_rules version ms)) ≡ group_rule ∷ from_rule ∷ to_rule ∷ []

pub record OlderFlowRules : Type 0 where
  pub second : SecondFlowRules
  pub third : (ms : Members) → rules_of (known Third (flow_rules Third ms))
      ≡ group_rule ∷ from_rule ∷ to_rule ∷ period_of (has_key key.Deadline ms) ∷ deadline_rule ∷ []

-- the place of a label among others
unfoldable pub place_of : List (List ℕ) → List ℕ → Option ℕ
place_of labels label = position (λ l. bytes_eq l label) labels

-- the receivers that a word names, by the labels of the units
unfoldable pub receivers : List (List ℕ) → List ℕ → Option To
receivers units word = if bytes_eq word (codes "all") then Some All else option_map One (place_of units word)

-- the jitter and the pause, by the period: none in a version that doesn't know them, where no flow is sent on request alone
abbrev pub jitter_of : Version → Option ℕ → Members → ℕ
jitter_of version period ms = if is_known Fourth version then number_of (jitter_rule period) ms else 0

abbrev pub pause_of : Version → Option ℕ → Members → Option ℕ
pause_of version period ms = if is_known Fourth version then given_number (pause_rule period) ms else None

abbrev pub on_request_of : Version → Members → Bool
on_request_of version ms = if is_known Fourth version then flag_of on_request_rule ms else false

-- how often a flow is sent, where its table says it
pub record DescribesPace (version : Version) (ms : Members) (pace : Option Pace) : Type 0 where
  pub has_period : option_map (λ p. p.period) pace ≡ given_period version ms
  pub has_deadline : IfSome pace (λ p. p.deadline ≡ given_deadline version ms)
  pub has_jitter : IfSome pace (λ p. p.jitter ≡ jitter_of version (given_period version ms) ms)

-- the flow that a table reports, by the labels of the groups and of the units
pub record DescribesFlow (version : Version) (groups units : List (List ℕ)) (ms : Members) (f : FlowPlan) : Type 0 where
  pub has_group : option_and_then (place_of groups) (found_text group_rule ms) ≡ Some f.group
  pub has_sender : option_and_then (place_of units) (found_text from_rule ms) ≡ Some f.sender
  pub has_receivers : option_and_then (receivers units) (found_text to_rule ms) ≡ Some f.to
  pub has_pace : DescribesPace version ms f.pace
  pub has_pause : f.pause ≡ pause_of version (given_period version ms) ms
  pub has_on_request : f.on_request ≡ on_request_of version ms

abbrev pub IsFlowOf : Version → List (List ℕ) → List (List ℕ) → Data → FlowPlan → Type 0
IsFlowOf version groups units d f = DescribesFlow version groups units (inside d) f

-- a text that names nothing
abbrev pub unknown_label : {X : Type 0} → Table → Key → Option X → List PlanFault
unknown_label at key found = if is_some found then [] else fault UnknownLabel at (Some key) ∷ []

unfoldable pub place_faults : Table → Key → List (List ℕ) → Option (List ℕ) → List PlanFault
place_faults at key labels None = []
place_faults at key labels (Some t) = unknown_label at key (place_of labels t)

unfoldable pub receiver_faults : Table → List (List ℕ) → Option (List ℕ) → List PlanFault
receiver_faults at units None = []
receiver_faults at units (Some t) = unknown_label at key.To (receivers units t)

unfoldable pub flow_table_faults : Version → List (List ℕ) → List (List ℕ) → ℕ → Members → List PlanFault
flow_table_faults version groups units i ms = faults_beside with_key (at.Flow i) version (flow_rules version ms) ms
    ++ (place_faults (at.Flow i) key.Group groups (found_text group_rule ms)
    ++ (place_faults (at.Flow i) key.From units (found_text from_rule ms)
    ++ receiver_faults (at.Flow i) units (found_text to_rule ms)))

-- the faults of the i-th flow, by the labels of the groups and of the units
unfoldable pub flow_faults : Version → List (List ℕ) → List (List ℕ) → ℕ → Data → List PlanFault
flow_faults version groups units i d =
    table_only_faults (at.Flow i) d ++ option_map_or (flow_table_faults version groups units i) (as_table d) []
