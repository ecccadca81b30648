-- A group in whose table nothing stands that one of two versions knows and the other doesn't is the same in both.
use Rattle.std.proofs.Common.{◌≡◌, ◌≤◌, ℕ, pos, negsuc, ltb, Bool, true, false, ◌||◌, if◌then◌else◌, List, [], ◌∷◌, ◌++◌, Option, Some, None, unwrap_or, refl}
use Rattle.std.proofs.Common.{ap, subst, arith, ◌∙◌}
use Rattle.std.specs.Option.{option_map_or, option_and_then}
use Rattle.std.proofs.lemmas.Bool.{le-ltb, ltb-false, or_parts}
use Rattle.toml.specs.Data.{Data, string, integer, float, boolean, datetime, array, table, no_items, Members, as_integer}
use Rattle.j39_id.specs.Limits.{message_bytes}
use Rattle.j39_network.specs.declared.plan.group_plan.GroupPlan.{GroupPlan}
use Rattle.j39_plan.specs.declared.reading.version.Version.{Version}
use Rattle.j39_plan.specs.declared.reading.version.Version.TheVariants.{Third, Fourth}
use Rattle.j39_plan.specs.declared.reading.key.Key.{Key}
use Rattle.j39_plan.specs.declared.reading.key.Key.TheVariants as key
use Rattle.j39_toml.specs.declared.cause.Cause.TheVariants.{Range}
use Rattle.j39_plan.specs.declared.reading.place.Table.{Table}
use Rattle.j39_plan.specs.declared.reading.place.Table.TheVariants as at
use Rattle.j39_plan.specs.declared.reading.text_kind.TextKind.TheVariants as texts
use Rattle.j39_plan.specs.Schema.{number, given_number, table_of, tables_of}
use Rattle.j39_toml.specs.Rules.{natural, standing, number_of, flag_of, number_found, table_found, array_found, truth, integer_in, array_up_to}
use Rattle.j39_toml.specs.TableFaults.{fault, standing_cause, key_faults}
use Rattle.j39_plan.specs.Since.{keys_of, known_faults, with_key}
use Rattle.j39_toml.specs.InOrder.{inside, Each}
use Rattle.j39_toml.specs.Outcome.{first}
use Rattle.j39_plan.specs.LabelsSeen.{label_in, label_rule, repeated_faults}
use Rattle.j39_plan.specs.SelectorTables.{when_rule, when_table, DescribesWhen}
use Rattle.j39_plan.specs.SignalTables.{signal_faults, IsMeaningOf, IsSignalOf}
use Rattle.j39_plan.specs.TextTables.{IsTextOf}
use Rattle.j39_plan.specs.GroupTables.{pgn_rule, priority_rule, length_rule, private_rule, most_rule, every_rule}
use Rattle.j39_plan.specs.GroupTables.{every_of, signal_rule, text_rule, text_tables_of}
use Rattle.j39_plan.specs.GroupTables.{has_records, later_rules, first_rules, inner_rules, group_rules, signals_faults, texts_faults, group_keys_faults}
use Rattle.j39_plan.specs.GroupTables.{group_table_faults, group_faults, IsGroupOf}
use Rattle.j39_plan.specs.Versions.{EachTable}
use Rattle.j39_plan.proofs.Absent.{lacked, Alike, alike_both, alike_behind, alike_each, element_alike, each_stated}
use Rattle.j39_plan.proofs.ChangedKeys.{Differ, LacksChanged, AreFree, never, same_value, unknown_same, rules_same}
use Rattle.j39_plan.proofs.SignalVersions.{KeepsSignal, signal_alike, signal_stated, meaning_stated}

-- nothing stands in the table that one of the versions alone knows
pub record KeepsGroup (changed : Version → Bool) (ms : Members) : Type 0 where
  pub keys : LacksChanged changed (keys_of (group_rules ms) ++ with_key) ms
  pub signals : EachTable (KeepsSignal changed) (tables_of signal_rule ms)

-- ---- what stands at its keys

not_private : {changed : Version → Bool} (ms : Members) → KeepsGroup changed ms → changed Third ≡ true → flag_of private_rule ms ≡ false
unfolding flag_of
not_private ms keeps is = rw (lacked key.Private ms (keeps.keys.1.1.1.1.0 is))

most_is : {changed : Version → Bool} (length : ℕ) (ms : Members) → KeepsGroup changed ms → changed Third ≡ true → number_of (most_rule length) ms ≡ length
unfolding number_of
most_is length ms keeps is = rw (lacked key.Most ms (keeps.keys.1.1.1.1.1.0 is))

no_every : {changed : Version → Bool} (ms : Members) → KeepsGroup changed ms → changed Third ≡ true → given_number every_rule ms ≡ None
unfolding number_found
no_every ms keeps is = rw (lacked key.Every ms (keeps.keys.1.1.1.1.1.1.0 is))

no_when : {changed : Version → Bool} (ms : Members) → KeepsGroup changed ms → changed Fourth ≡ true → table_of when_rule ms ≡ None
unfolding table_found
no_when ms keeps is = rw (lacked key.When ms (keeps.keys.1.1.1.1.1.1.1.0 is))

no_texts : {changed : Version → Bool} (ms : Members) → KeepsGroup changed ms → changed Third ≡ true → tables_of text_rule ms ≡ no_items
unfolding tables_of array_found array_up_to
no_texts ms keeps is = rw (lacked key.Text ms (keeps.keys.1.1.1.1.1.1.1.1.1.0 is))

every_same : {changed : Version → Bool} {one other : Version} → Differ changed one other → (ms : Members) → KeepsGroup changed ms
    → every_of one ms ≡ every_of other ms
every_same apart ms keeps = same_value apart Third (given_number every_rule ms) None (no_every ms keeps)

when_same : {changed : Version → Bool} {one other : Version} → Differ changed one other → (ms : Members) → KeepsGroup changed ms
    → when_table one ms ≡ when_table other ms
when_same apart ms keeps = same_value apart Fourth (table_of when_rule ms) None (no_when ms keeps)

texts_same : {changed : Version → Bool} {one other : Version} → Differ changed one other → (ms : Members) → KeepsGroup changed ms
    → text_tables_of one ms ≡ text_tables_of other ms
texts_same apart ms keeps = same_value apart Third (tables_of text_rule ms) no_items (no_texts ms keeps)

-- ---- the length: at most that of a message, where it is no fault

no_cause : (is : Bool) (at : Table) (k : Key) → option_map_or (λ cause. fault cause at (Some k) ∷ []) (if is then Some Range else None) [] ≡ [] → is ≡ false
no_cause true at k none = cc
no_cause false at k none = refl

-- a number that is no fault is at most the greatest of its range
at_most : (low high : ℕ) (at : Table) (k : Key) (found : Option Data)
    → option_map_or (λ cause. fault cause at (Some k) ∷ []) (standing_cause (number k low high None) found) [] ≡ []
    → natural (unwrap_or (option_and_then as_integer found) (pos 0)) ≤ high
unfolding integer_in
at_most low high at k None none = cc
at_most low high at k (Some (integer (pos n))) none = ltb-false high n (or_parts (ltb n low) (ltb high n) (no_cause (ltb n low || ltb high n) at k none)).1
at_most low high at k (Some (integer (negsuc n))) none = omega arith
at_most low high at k (Some (string t)) none = cc
at_most low high at k (Some (float x)) none = cc
at_most low high at k (Some (boolean x)) none = cc
at_most low high at k (Some (datetime x)) none = cc
at_most low high at k (Some (array ds)) none = cc
at_most low high at k (Some (table ms)) none = cc

length_at_most : (at : Table) (ms : Members) → key_faults at ms length_rule ≡ [] → number_of length_rule ms ≤ message_bytes
unfolding key_faults number_of
length_at_most at ms none = at_most 1 message_bytes at key.Length (standing length_rule ms) none

most_free : (length : ℕ) → length ≤ message_bytes → standing_cause (most_rule length) (most_rule length).default ≡ None
unfolding integer_in
most_free length few = rw (le-ltb length length (omega arith), le-ltb message_bytes length few) refl

-- ---- the keys

later_free : (changed : Version → Bool) (length : ℕ) → length ≤ message_bytes → AreFree changed (later_rules length)
unfolding truth
later_free changed length few = (λ is. (refl, refl), (λ is. (refl, most_free length few), (λ is. (refl, refl), (λ is. (refl, refl), tt))))

inner_free : {changed : Version → Bool} {one other : Version} → Differ changed one other → AreFree changed inner_rules
inner_free apart = (never apart, (λ is. (refl, refl), tt))

first_alike : {changed : Version → Bool} {one other : Version} → Differ changed one other → (at : Table) (ms : Members) → KeepsGroup changed ms
    → Alike (known_faults at one ms (first_rules ms)) (known_faults at other ms (first_rules ms))
first_alike {changed} apart at ms keeps =
    let length = number_of length_rule ms in
    alike_both (key_faults at ms label_rule) _ (key_faults at ms label_rule) _ refl
    (alike_both (key_faults at ms pgn_rule) _ (key_faults at ms pgn_rule) _ refl
    (alike_both (key_faults at ms priority_rule) _ (key_faults at ms priority_rule) _ refl
    (alike_behind (key_faults at ms length_rule) _ _ (λ none. ap first
    (rules_same apart at ms (later_rules length) (keys_of inner_rules ++ with_key) keeps.keys.1.1.1.1
    (later_free changed length (length_at_most at ms none)))))))

keys_alike : {changed : Version → Bool} {one other : Version} → Differ changed one other → (g : ℕ) (ms : Members) → KeepsGroup changed ms
    → Alike (group_keys_faults one g ms) (group_keys_faults other g ms)
keys_alike {changed} {one} {other} apart g ms keeps =
    alike_both _ _ _ _ (ap first (unknown_same apart (at.Group g) (keys_of (group_rules ms) ++ with_key) ms keeps.keys))
    (alike_both _ _ _ _ (first_alike apart (at.Group g) ms keeps)
    (rw (
      when_same apart ms keeps,
      rules_same apart (at.Group g) ms inner_rules with_key keeps.keys.1.1.1.1.1.1.1.1 (inner_free apart),
    ) refl))

signals_alike : {changed : Version → Bool} {one other : Version} → Differ changed one other → (g : ℕ) (ms : Members) → KeepsGroup changed ms
    → Alike (signals_faults one g ms) (signals_faults other g ms)
signals_alike {changed} {one} {other} apart g ms keeps =
    let records = has_records other ms in
    rw (every_same apart ms keeps)
    (alike_each (KeepsSignal changed) (signal_faults one records g) (signal_faults other records g) (signal_alike apart records g)
    label_in 0 [] (tables_of signal_rule ms) keeps.signals)

texts_alike : {changed : Version → Bool} {one other : Version} → Differ changed one other → (g : ℕ) (ms : Members) → KeepsGroup changed ms
    → Alike (texts_faults one g ms) (texts_faults other g ms)
texts_alike apart g ms keeps = rw (texts_same apart ms keeps) refl

table_alike : {changed : Version → Bool} {one other : Version} → Differ changed one other → (g : ℕ) (ms : Members) → KeepsGroup changed ms
    → Alike (group_table_faults one g ms) (group_table_faults other g ms)
unfolding group_table_faults
table_alike apart g ms keeps =
    alike_both _ _ _ _ (keys_alike apart g ms keeps) (alike_both _ _ _ _ (signals_alike apart g ms keeps) (texts_alike apart g ms keeps))

pub group_alike : {changed : Version → Bool} {one other : Version} → Differ changed one other → (g : ℕ) (seen : List (List ℕ)) (d : Data)
    → KeepsGroup changed (inside d) → Alike (group_faults one g seen d) (group_faults other g seen d)
unfolding group_faults
group_alike {changed} {one} {other} apart g seen d keeps =
    element_alike (at.Group g) d (group_table_faults one g) (group_table_faults other g) (repeated_faults (at.Group g) texts.Label seen (label_in d))
    (table_alike apart g (inside d) keeps)

-- ---- what is reported

pub group_reported : {changed : Version → Bool} {one other : Version} → Differ changed one other → (d : Data) (g : GroupPlan)
    → KeepsGroup changed (inside d) → IsGroupOf one d g → IsGroupOf other d g
group_reported {changed} {one} {other} apart d g keeps stated =
    let ms = inside d in
    let length = number_of length_rule ms in
    record {
      has_label = stated.has_label;
      has_pgn = stated.has_pgn;
      has_priority = stated.has_priority;
      has_length = stated.has_length;
      has_private = stated.has_private ∙ same_value apart Third (flag_of private_rule ms) false (not_private ms keeps);
      has_most = stated.has_most ∙ same_value apart Third (number_of (most_rule length) ms) length (most_is length ms keeps);
      has_every = stated.has_every ∙ every_same apart ms keeps;
      has_when = subst (λ t. DescribesWhen t g.when) (when_same apart ms keeps) stated.has_when;
      has_signals = each_stated (KeepsSignal changed) (IsSignalOf one) (IsSignalOf other) (signal_stated apart) (tables_of signal_rule ms)
          g.signals.items keeps.signals stated.has_signals;
      has_meanings = each_stated (KeepsSignal changed) (IsMeaningOf one) (IsMeaningOf other) (meaning_stated apart) (tables_of signal_rule ms)
          g.meanings.items keeps.signals stated.has_meanings;
      has_texts = subst (λ ds. Each IsTextOf ds g.texts.items) (texts_same apart ms keeps) stated.has_texts;
    }
