-- A bus in whose table nothing stands that one of two versions knows and the other doesn't is the same in both, where both know such tables.
use Rattle.std.proofs.Common.{◌≡◌, ◌≢◌, ℕ, pos, Bool, true, false, [], Option, Some, None, unwrap_or, refl, ap, subst, sym, ◌∙◌}
use Rattle.std.specs.Option.{option_and_then}
use Rattle.std.proofs.lemmas.Bool.{ne_eqb, false≢true}
use Rattle.toml.specs.Data.{Data, string, integer, float, boolean, datetime, array, table, Members, as_integer}
use Rattle.j39_network.specs.declared.plan.timing.Timing.{Timing}
use Rattle.j39_plan.specs.declared.reading.version.Version.{Version}
use Rattle.j39_plan.specs.declared.reading.version.Version.TheVariants.{Third, Fourth}
use Rattle.j39_plan.specs.declared.reading.key.Key.TheVariants as key
use Rattle.j39_plan.specs.declared.reading.place.Table.TheVariants as at
use Rattle.j39_plan.specs.Schema.{bitrate, table_of}
use Rattle.j39_toml.specs.Rules.{natural, standing, number_of, table_found, integer_in}
use Rattle.j39_plan.specs.ValueCauses.{is_bitrate, bitrate_of_bus}
use Rattle.j39_toml.specs.TableFaults.{standing_cause, key_faults}
use Rattle.j39_plan.specs.Since.{keys_of}
use Rattle.j39_plan.specs.TimingTables.{bitrate_of, bitrate_rule, unplanned_priority_rule, transport_priority_rule, gap_rule}
use Rattle.j39_plan.specs.TimingTables.{gap_most_rule, drift_rule, errors_rule}
use Rattle.j39_plan.specs.TimingTables.{timing_rules, errors_table, timing_table_faults, DescribesErrors, DescribesBus}
use Rattle.j39_plan.proofs.Absent.{lacked}
use Rattle.j39_plan.proofs.ChangedKeys.{Differ, LacksChanged, AreFree, same_by, same_value, table_same}

-- nothing stands in the table that one of the versions alone knows
pub record KeepsBus (changed : Version → Bool) (ms : Members) : Type 0 where
  pub keys : LacksChanged changed (keys_of (timing_rules Third ms)) ms
  pub not_slowest : changed Fourth ≡ true → number_of (bitrate_rule Fourth) ms ≢ 125000
  pub not_fastest : changed Fourth ≡ true → number_of (bitrate_rule Fourth) ms ≢ 1000000

-- ---- the bitrate

bitrate_takes : (n : ℕ) → n ≢ 125000 → n ≢ 1000000 → is_bitrate true n ≡ is_bitrate false n
bitrate_takes n not_slowest not_fastest = rw (ne_eqb n 125000 not_slowest, ne_eqb n 1000000 not_fastest)

bitrate_cause : (found : Option Data) → natural (unwrap_or (option_and_then as_integer found) (pos 0)) ≢ 125000
    → natural (unwrap_or (option_and_then as_integer found) (pos 0)) ≢ 1000000
    → standing_cause (bitrate_rule Fourth) found ≡ standing_cause (bitrate_rule Third) found
unfolding bitrate_of_bus
bitrate_cause None a b = refl
bitrate_cause (Some (integer z)) a b = rw (bitrate_takes (natural z) a b)
bitrate_cause (Some (string s)) a b = refl
bitrate_cause (Some (float x)) a b = refl
bitrate_cause (Some (boolean x)) a b = refl
bitrate_cause (Some (datetime x)) a b = refl
bitrate_cause (Some (array ds)) a b = refl
bitrate_cause (Some (table ms)) a b = refl

bitrate_faults : (ms : Members) → number_of (bitrate_rule Fourth) ms ≢ 125000 → number_of (bitrate_rule Fourth) ms ≢ 1000000
    → key_faults at.Timing ms (bitrate_rule Fourth) ≡ key_faults at.Timing ms (bitrate_rule Third)
unfolding key_faults number_of
bitrate_faults ms not_slowest not_fastest = rw (bitrate_cause (standing (bitrate_rule Fourth) ms) not_slowest not_fastest)

bitrate_same : {changed : Version → Bool} {one other : Version} → Differ changed one other → (ms : Members) → KeepsBus changed ms
    → key_faults at.Timing ms (bitrate_rule one) ≡ key_faults at.Timing ms (bitrate_rule other)
bitrate_same apart ms keeps =
    same_by apart Fourth (λ more. key_faults at.Timing ms (bitrate key.Bitrate more)) (λ is. bitrate_faults ms (keeps.not_slowest is) (keeps.not_fastest is))

bitrate_stated : (one other : Version) (ms : Members) → number_of (bitrate_rule one) ms ≡ number_of (bitrate_rule other) ms
unfolding number_of
bitrate_stated one other ms = refl

-- ---- what is taken as given

gap_is : {changed : Version → Bool} (ms : Members) → KeepsBus changed ms → changed Fourth ≡ true → number_of gap_rule ms ≡ 50
unfolding number_of
gap_is ms keeps is = rw (lacked key.BroadcastGap ms (keeps.keys.1.1.1.1.0 is))

record Given (ms : Members) : Type 0 where
  unplanned_priority : number_of unplanned_priority_rule ms ≡ 6
  transport_priority : number_of transport_priority_rule ms ≡ 7
  gap_most : number_of (gap_most_rule (number_of gap_rule ms)) ms ≡ 200
  drift : number_of drift_rule ms ≡ 0
  errors : table_of errors_rule ms ≡ None

given : {changed : Version → Bool} (ms : Members) → KeepsBus changed ms → changed Fourth ≡ true → Given ms
unfolding number_of table_found
given ms keeps is = record {
  unplanned_priority = rw (lacked key.UnplannedPriority ms (keeps.keys.1.1.0 is));
  transport_priority = rw (lacked key.TransportPriority ms (keeps.keys.1.1.1.0 is));
  gap_most = rw (lacked key.BroadcastGapMost ms (keeps.keys.1.1.1.1.1.0 is));
  drift = rw (lacked key.Drift ms (keeps.keys.1.1.1.1.1.1.0 is));
  errors = rw (lacked key.Errors ms (keeps.keys.1.1.1.1.1.1.1.0 is));
}

errors_same : {changed : Version → Bool} {one other : Version} → Differ changed one other → (ms : Members) → KeepsBus changed ms
    → errors_table one ms ≡ errors_table other ms
errors_same apart ms keeps = same_value apart Fourth (table_of errors_rule ms) None (λ is. (given ms keeps is).errors)

-- ---- the table

free : {changed : Version → Bool} (version : Version) (ms : Members) → changed Third ≡ false → KeepsBus changed ms
    → AreFree changed (timing_rules version ms)
unfolding integer_in
free version ms known keeps = (
  λ is. absurd (false≢true (sym known ∙ is)),
  (
    λ is. absurd (false≢true (sym known ∙ is)),
    (
      λ is. (refl, refl),
      (
        λ is. (refl, refl),
        (
          λ is. (refl, refl),
          (
            λ is. (refl, rw (gap_is ms keeps is) refl),
            (
              λ is. (refl, refl),
              (
                λ is. (refl, refl),
                tt,
              ),
            ),
          ),
        ),
      ),
    ),
  ),
)

pub bus_alike : {changed : Version → Bool} {one other : Version} → Differ changed one other → changed Third ≡ false → (ms : Members)
    → KeepsBus changed ms → timing_table_faults one ms ≡ timing_table_faults other ms
unfolding timing_table_faults
bus_alike {changed} {one} {other} apart known ms keeps =
    rw (
      bitrate_same apart ms keeps,
      table_same apart [] at.Timing (timing_rules other ms) ms keeps.keys (free other ms known keeps),
      errors_same apart ms keeps,
    ) refl

pub bus_stated : {changed : Version → Bool} {one other : Version} → Differ changed one other → (ms : Members) → KeepsBus changed ms
    → (t : Timing) → DescribesBus one ms t → DescribesBus other ms t
bus_stated {changed} {one} {other} apart ms keeps t stated = record {
  has_bitrate = stated.has_bitrate ∙ ap bitrate_of (bitrate_stated one other ms);
  has_unplanned = stated.has_unplanned;
  has_unplanned_priority = stated.has_unplanned_priority
      ∙ same_value apart Fourth (number_of unplanned_priority_rule ms) 6 (λ is. (given ms keeps is).unplanned_priority);
  has_transport_priority = stated.has_transport_priority
      ∙ same_value apart Fourth (number_of transport_priority_rule ms) 7 (λ is. (given ms keeps is).transport_priority);
  has_gap = stated.has_gap ∙ same_value apart Fourth (number_of gap_rule ms) 50 (gap_is ms keeps);
  has_gap_most = stated.has_gap_most
      ∙ same_value apart Fourth (number_of (gap_most_rule (number_of gap_rule ms)) ms) 200 (λ is. (given ms keeps is).gap_most);
  has_drift = stated.has_drift ∙ same_value apart Fourth (number_of drift_rule ms) 0 (λ is. (given ms keeps is).drift);
  has_errors = subst (λ found. DescribesErrors found t.errors) (errors_same apart ms keeps) stated.has_errors;
}
