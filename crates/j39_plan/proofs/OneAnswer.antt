-- Reading a file gives one answer.
use Rattle.std.proofs.Common.{◌≡◌, ◌≢◌, ℕ, List, [], ◌∷◌, Option, Some, None, Result, Ok, Err, option_and_then, refl, sym, ap, subst, ◌∙◌}
use Rattle.std.specs.List.{AllZip}
use Rattle.std.proofs.lemmas.Option.{same_Some, none-some}
use Rattle.toml.specs.Data.{Data, Items, no_items, item, Members, no_members, member}
use Rattle.j39_signal.specs.declared.signal_parts.SignalParts.{SignalParts}
use Rattle.j39_network.specs.declared.plan.Plan.{Plan}
use Rattle.j39_network.specs.declared.plan.unit_plan.UnitPlan.{UnitPlan}
use Rattle.j39_network.specs.declared.plan.group_plan.GroupPlan.{GroupPlan}
use Rattle.j39_network.specs.declared.plan.flow_plan.FlowPlan.{FlowPlan}
use Rattle.j39_network.specs.declared.plan.meaning.Meaning.{Meaning}
use Rattle.j39_network.specs.declared.plan.meaning.ValueName.{ValueName}
use Rattle.j39_network.specs.declared.plan.text_plan.TextPlan.{TextPlan}
use Rattle.j39_network.specs.declared.plan.need_plan.NeedPlan.{NeedPlan}
use Rattle.j39_network.specs.declared.plan.request_plan.RequestPlan.{RequestPlan}
use Rattle.j39_network.specs.declared.plan.pace.Pace.{Pace}
use Rattle.j39_network.specs.declared.plan.timing.ErrorRate.{ErrorRate}
use Rattle.j39_network.specs.declared.plan.timing.Timing.{Timing}
use Rattle.j39_plan.specs.declared.reading.version.Version.{Version}
use Rattle.j39_plan.specs.PlanErrors.{PlanFault, PlanError}
use Rattle.j39_toml.specs.declared.file_error.FileError.TheVariants as errors
use Rattle.j39_toml.specs.InOrder.{Each, inside}
use Rattle.j39_toml.specs.Outcome.{first}
use Rattle.j39_plan.specs.UnitTables.{IsUnitOf}
use Rattle.j39_signal.specs.declared.selector.Selector.{Selector}
use Rattle.j39_plan.specs.SelectorTables.{DescribesWhen, when_table}
use Rattle.j39_plan.specs.SignalTables.{IsMeaningOf, IsSignalOf}
use Rattle.j39_plan.specs.MeaningTables.{AreValueNames, name_table}
use Rattle.j39_plan.specs.TextTables.{IsTextOf}
use Rattle.j39_plan.specs.GroupTables.{IsGroupOf, signal_rule, text_tables_of}
use Rattle.j39_plan.specs.FlowTables.{IsFlowOf, DescribesPace, place_of}
use Rattle.j39_plan.specs.NeedTables.{IsNeedOf, need_signal_rule, signals_at}
use Rattle.j39_plan.specs.RequestTables.{IsRequestOf}
use Rattle.j39_plan.specs.TimingTables.{DescribesBus, DescribesErrors, DescribesTiming, errors_table}
use Rattle.j39_plan.specs.Schema.{tables_of, found_text}
use Rattle.j39_plan.specs.PlanFaults.{faults, units_rule, groups_rule, flows_rule, timing_table, need_tables, request_tables, unit_labels, group_labels}
use Rattle.j39_plan.specs.PlanFaults.{group_signals, version_of}
use Rattle.j39_plan.specs.Described.{DescribesPlan, Described, Reads}
use Rattle.j39_plan.specs.OnePlan.{AreOneUnit, AreOneSelector, AreOneSignal, AreOneValueName, AreOneMeaning, AreOneText, AreOneGroup, AreOneErrorRate}
use Rattle.j39_plan.specs.OnePlan.{AreOneBus, AreOneTiming, AreOnePace, AreOneFlowPlan, AreOneNeed, AreOneRequest, AreOnePlan, AreOneAnswer}

-- what elements report is one, where what each reports is
one_each : {T : Type 0} (Is : Data → T → Type 0) (One : T → T → Type 0) (one : (d : Data) (x y : T) → Is d x → Is d y → One x y)
    → (ds : Items) (xs ys : List T) → Each Is ds xs → Each Is ds ys → AllZip One xs ys
unfolding Each
one_each Is One one no_items [] [] a b = tt
one_each Is One one no_items [] (y ∷ ys) a b = absurd b
one_each Is One one no_items (x ∷ xs) ys a b = absurd a
one_each Is One one (item d ds) [] ys a b = absurd a
one_each Is One one (item d ds) (x ∷ xs) [] a b = absurd b
one_each Is One one (item d ds) (x ∷ xs) (y ∷ ys) a b = (one d x y a.0 b.0, one_each Is One one ds xs ys a.1 b.1)

one_unit : (version : Version) (d : Data) (u v : UnitPlan) → IsUnitOf version d u → IsUnitOf version d v → AreOneUnit u v
one_unit version d u v a b = record {
  labels = a.has_label ∙ sym b.has_label;
  addresses = a.has_address ∙ sym b.has_address;
  names = a.has_name ∙ sym b.has_name;
  numbers = a.has_number ∙ sym b.has_number;
  ways = a.has_way ∙ sym b.has_way;
  windows = a.has_window ∙ sym b.has_window;
  queues = a.has_queue ∙ sym b.has_queue;
  claims = a.has_claims ∙ sym b.has_claims;
}

one_signal : (version : Version) (d : Data) (s t : SignalParts) → IsSignalOf version d s → IsSignalOf version d t → AreOneSignal s t
one_signal version d s t a b = record {
  labels = a.has_label ∙ sym b.has_label;
  starts = a.has_start ∙ sym b.has_start;
  widths = a.has_bits ∙ sym b.has_bits;
  kinds = a.has_kind ∙ sym b.has_kind;
  steps = a.has_step ∙ sym b.has_step;
  offsets = a.has_offset ∙ sym b.has_offset;
  pers = a.has_per ∙ sym b.has_per;
  units = a.has_unit ∙ sym b.has_unit;
  repetitions = a.has_repeated ∙ sym b.has_repeated;
  options = a.has_optional ∙ sym b.has_optional;
}

one_text : (d : Data) (t u : TextPlan) → IsTextOf d t → IsTextOf d u → AreOneText t u
one_text d t u a b = record {
  labels = a.has_label ∙ sym b.has_label;
  places = a.has_byte ∙ sym b.has_byte;
  lengths = a.has_bytes ∙ sym b.has_bytes;
}

one_names : (ms : Members) (xs ys : List ValueName) → AreValueNames ms xs → AreValueNames ms ys → AllZip AreOneValueName xs ys
unfolding AreValueNames
one_names no_members [] [] a b = tt
one_names no_members [] (y ∷ ys) a b = absurd b
one_names no_members (x ∷ xs) ys a b = absurd a
one_names (member k d ms) [] ys a b = absurd a
one_names (member k d ms) (x ∷ xs) [] a b = absurd b
one_names (member k d ms) (x ∷ xs) (y ∷ ys) a b =
    (record { raws = a.0 ∙ sym b.0; names = same_Some _ _ (sym a.1 ∙ b.1) }, one_names ms xs ys a.2 b.2)

one_meaning : (version : Version) (d : Data) (m n : Meaning) → IsMeaningOf version d m → IsMeaningOf version d n → AreOneMeaning m n
one_meaning version d m n a b = record {
  spns = a.has_spn ∙ sym b.has_spn;
  values = one_names (name_table version (inside d)) m.values.items n.values.items a.has_values b.has_values;
}

one_selector : (found : Option Members) (v w : Option Selector) → DescribesWhen found v → DescribesWhen found w → AreOneSelector v w
one_selector None None None a b = tt
one_selector None None (Some w) a b = absurd b
one_selector None (Some v) w a b = absurd a
one_selector (Some ms) None w a b = absurd a
one_selector (Some ms) (Some v) None a b = absurd b
one_selector (Some ms) (Some v) (Some w) a b = (a.has_start ∙ sym b.has_start, a.has_bits ∙ sym b.has_bits, a.has_value ∙ sym b.has_value)

one_group : (version : Version) (d : Data) (g h : GroupPlan) → IsGroupOf version d g → IsGroupOf version d h → AreOneGroup g h
one_group version d g h a b = record {
  labels = a.has_label ∙ sym b.has_label;
  pgns = a.has_pgn ∙ sym b.has_pgn;
  priorities = a.has_priority ∙ sym b.has_priority;
  lengths = a.has_length ∙ sym b.has_length;
  privates = a.has_private ∙ sym b.has_private;
  mosts = a.has_most ∙ sym b.has_most;
  everys = a.has_every ∙ sym b.has_every;
  whens = one_selector (when_table version (inside d)) g.when h.when a.has_when b.has_when;
  signals = one_each (IsSignalOf version) AreOneSignal (one_signal version) (tables_of signal_rule (inside d)) _ _ a.has_signals b.has_signals;
  meanings = one_each (IsMeaningOf version) AreOneMeaning (one_meaning version) (tables_of signal_rule (inside d)) _ _ a.has_meanings b.has_meanings;
  texts = one_each IsTextOf AreOneText one_text (text_tables_of version (inside d)) _ _ a.has_texts b.has_texts;
}

one_errors : (tree : Option Members) (e f : Option ErrorRate) → DescribesErrors tree e → DescribesErrors tree f → AreOneErrorRate e f
one_errors None None None a b = tt
one_errors None None (Some f) a b = absurd b
one_errors None (Some e) f a b = absurd a
one_errors (Some ms) None f a b = absurd a
one_errors (Some ms) (Some e) None a b = absurd b
one_errors (Some ms) (Some e) (Some f) a b = (a.has_count ∙ sym b.has_count, a.has_every ∙ sym b.has_every)

one_bus : (version : Version) (ms : Members) (t u : Timing) → DescribesBus version ms t → DescribesBus version ms u → AreOneBus t u
one_bus version ms t u a b = record {
  bitrates = a.has_bitrate ∙ sym b.has_bitrate;
  unplanned = a.has_unplanned ∙ sym b.has_unplanned;
  unplanned_priorities = a.has_unplanned_priority ∙ sym b.has_unplanned_priority;
  transport_priorities = a.has_transport_priority ∙ sym b.has_transport_priority;
  gaps = a.has_gap ∙ sym b.has_gap;
  gaps_most = a.has_gap_most ∙ sym b.has_gap_most;
  drifts = a.has_drift ∙ sym b.has_drift;
  errors = one_errors (errors_table version ms) t.errors u.errors a.has_errors b.has_errors;
}

one_timing : (version : Version) (tree : Option Members) (t u : Option Timing) → DescribesTiming version tree t → DescribesTiming version tree u
    → AreOneTiming t u
one_timing version None None None a b = tt
one_timing version None None (Some u) a b = absurd b
one_timing version None (Some t) u a b = absurd a
one_timing version (Some ms) None u a b = absurd a
one_timing version (Some ms) (Some t) None a b = absurd b
one_timing version (Some ms) (Some t) (Some u) a b = one_bus version ms t u a b

one_pace : (version : Version) (ms : Members) (p q : Option Pace) → DescribesPace version ms p → DescribesPace version ms q → AreOnePace p q
one_pace version ms None None a b = tt
one_pace version ms None (Some q) a b = absurd (none-some _ (a.has_period ∙ sym b.has_period))
one_pace version ms (Some p) None a b = absurd (none-some _ (b.has_period ∙ sym a.has_period))
one_pace version ms (Some p) (Some q) a b =
    (same_Some _ _ (a.has_period ∙ sym b.has_period), a.has_deadline ∙ sym b.has_deadline, a.has_jitter ∙ sym b.has_jitter)

one_flow : (version : Version) (groups units : List (List ℕ)) (d : Data) (f h : FlowPlan)
    → IsFlowOf version groups units d f → IsFlowOf version groups units d h → AreOneFlowPlan f h
one_flow version groups units d f h a b = record {
  flows = (
    same_Some _ _ (sym a.has_group ∙ b.has_group),
    same_Some _ _ (sym a.has_sender ∙ b.has_sender),
    same_Some _ _ (sym a.has_receivers ∙ b.has_receivers),
  );
  paces = one_pace version (inside d) f.pace h.pace a.has_pace b.has_pace;
  pauses = a.has_pause ∙ sym b.has_pause;
  answers = a.has_on_request ∙ sym b.has_on_request;
}

one_need : (groups : List (List ℕ)) (signals : List (List (List ℕ))) (units : List (List ℕ)) (d : Data) (m n : NeedPlan)
    → IsNeedOf groups signals units d m → IsNeedOf groups signals units d n → AreOneNeed m n
one_need groups signals units d m n a b =
    let same : m.group ≡ n.group = same_Some _ _ (sym a.has_group ∙ b.has_group) in
    record {
      units = same_Some _ _ (sym a.has_unit ∙ b.has_unit);
      groups = same;
      signals =
          a.has_signal ∙ ap (λ g. option_and_then (place_of (signals_at signals (Some g))) (found_text need_signal_rule (inside d))) same ∙ sym b.has_signal;
      senders = a.has_from ∙ sym b.has_from;
      ages = a.has_within ∙ sym b.has_within;
    }

one_request : (groups units : List (List ℕ)) (d : Data) (r s : RequestPlan) → IsRequestOf groups units d r → IsRequestOf groups units d s → AreOneRequest r s
one_request groups units d r s a b = record {
  groups = same_Some _ _ (sym a.has_group ∙ b.has_group);
  senders = same_Some _ _ (sym a.has_sender ∙ b.has_sender);
  receivers = same_Some _ _ (sym a.has_receivers ∙ b.has_receivers);
  periods = a.has_period ∙ sym b.has_period;
}

one_plan : (tree : Members) (p q : Plan) → DescribesPlan tree p → DescribesPlan tree q → AreOnePlan p q
one_plan tree p q a b = record {
  keep_free = a.has_keep_free ∙ sym b.has_keep_free;
  strangers = a.has_strangers ∙ sym b.has_strangers;
  live = a.has_live ∙ sym b.has_live;
  timing = one_timing (version_of tree) (timing_table tree) p.timing q.timing a.has_timing b.has_timing;
  units = one_each (IsUnitOf (version_of tree)) AreOneUnit (one_unit (version_of tree)) (tables_of units_rule tree) _ _ a.has_units b.has_units;
  groups = one_each (IsGroupOf (version_of tree)) AreOneGroup (one_group (version_of tree)) (tables_of groups_rule tree) _ _ a.has_groups b.has_groups;
  flows = one_each (IsFlowOf (version_of tree) (group_labels tree) (unit_labels tree)) AreOneFlowPlan
      (one_flow (version_of tree) (group_labels tree) (unit_labels tree)) (tables_of flows_rule tree) _ _ a.has_flows b.has_flows;
  needs = one_each (IsNeedOf (group_labels tree) (group_signals tree) (unit_labels tree)) AreOneNeed
      (one_need (group_labels tree) (group_signals tree) (unit_labels tree)) (need_tables tree) _ _ a.has_needs b.has_needs;
  requests = one_each (IsRequestOf (group_labels tree) (unit_labels tree)) AreOneRequest
      (one_request (group_labels tree) (unit_labels tree)) (request_tables tree) _ _ a.has_requests b.has_requests;
}

-- a tree without faults has no first one
no_first : (fs : List PlanFault) (f : PlanFault) → fs ≡ [] → first fs ≢ Some f
no_first fs f none is = cc

-- what a tree is read as, with the tree
tree_is : {tree : Option Members} (s t : Members) → tree ≡ Some s → tree ≡ Some t → s ≡ t
tree_is s t a b = same_Some _ _ (sym a ∙ b)

-- a plan that another tree describes, which is this one
described_at : (s t : Members) (p : Plan) → t ≡ s → Described t p → Described s p
described_at s t p same is = subst (λ (x : Members). Described x p) same is

first_at : (s t : Members) (f : PlanFault) → t ≡ s → first (faults t) ≡ Some f → first (faults s) ≡ Some f
first_at s t f same is = subst (λ (x : Members). first (faults x) ≡ Some f) same is

pub one_answer : (tree : Option Members) (one other : Result Plan PlanError) → one ≢ Err errors.Memory → other ≢ Err errors.Memory
    → Reads one tree → Reads other tree → AreOneAnswer one other
one_answer tree (Ok p) (Ok q) m n (s, is_s, a) (t, is_t, b) = one_plan s p q a.1 (described_at s t q (tree_is t s is_t is_s) b).1
one_answer tree (Ok p) (Err errors.Text) m n (s, is_s, a) b = absurd (none-some _ (sym b ∙ is_s))
one_answer tree (Ok p) (Err (errors.Fault f)) m n (s, is_s, a) (t, is_t, b) = absurd (no_first (faults s) f a.0 (first_at s t f (tree_is t s is_t is_s) b))
one_answer tree (Ok p) (Err errors.Memory) m n a b = absurd (n refl)
one_answer tree (Err errors.Text) (Ok q) m n a (t, is_t, b) = absurd (none-some _ (sym a ∙ is_t))
one_answer tree (Err errors.Text) (Err errors.Text) m n a b = refl
one_answer tree (Err errors.Text) (Err (errors.Fault f)) m n a (t, is_t, b) = absurd (none-some _ (sym a ∙ is_t))
one_answer tree (Err errors.Text) (Err errors.Memory) m n a b = absurd (n refl)
one_answer tree (Err (errors.Fault f)) (Ok q) m n (s, is_s, a) (t, is_t, b) = absurd (no_first (faults t) f b.0 (first_at t s f (tree_is s t is_s is_t) a))
one_answer tree (Err (errors.Fault f)) (Err errors.Text) m n (s, is_s, a) b = absurd (none-some _ (sym b ∙ is_s))
one_answer tree (Err (errors.Fault f)) (Err (errors.Fault g)) m n (s, is_s, a) (t, is_t, b) =
    ap errors.Fault (same_Some _ _ (sym a ∙ first_at s t g (tree_is t s is_t is_s) b))
one_answer tree (Err (errors.Fault f)) (Err errors.Memory) m n a b = absurd (n refl)
one_answer tree (Err errors.Memory) other m n a b = absurd (m refl)
