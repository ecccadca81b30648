-- A flow in whose table nothing stands that one of two versions knows and the other doesn't is the same in both.
use Rattle.std.proofs.Common.{◌≡◌, ℕ, Bool, true, false, not, ◌&&◌, ◌||◌, List, ◌++◌, Option, None, IfSome, refl, sym, ap, subst, ◌∙◌}
use Rattle.std.proofs.Common.{arith, inl, inr}
use Rattle.std.proofs.lemmas.Bool.{le-ltb, cases_Bool, false≢true}
use Rattle.toml.specs.Data.{Data, Members}
use Rattle.j39_network.specs.declared.plan.flow_plan.FlowPlan.{FlowPlan}
use Rattle.j39_plan.specs.declared.reading.version.Version.{Version}
use Rattle.j39_plan.specs.declared.reading.version.Version.TheVariants.{First, Third, Fourth}
use Rattle.j39_plan.specs.declared.reading.key.Key.TheVariants as key
use Rattle.j39_plan.specs.declared.reading.place.Table.TheVariants as at
use Rattle.j39_plan.specs.Schema.{has_key, given_number}
use Rattle.j39_toml.specs.Rules.{number_of, flag_of, number_found, integer_in, truth}
use Rattle.j39_toml.specs.TableFaults.{standing_cause}
use Rattle.j39_plan.specs.Since.{is_known, keys_of, with_key}
use Rattle.j39_toml.specs.InOrder.{inside}
use Rattle.j39_toml.specs.Outcome.{first}
use Rattle.j39_plan.specs.FlowTables.{asks_for_period, period_of, given_period, deadline_rule, jitter_rule, jitter_most, jitter_of}
use Rattle.j39_plan.specs.FlowTables.{pause_rule, pause_of, on_request_rule, flow_rules, flow_table_faults, flow_faults, IsFlowOf}
use Rattle.j39_plan.proofs.Absent.{lacked, Alike, alike_both, alike_inside}
use Rattle.j39_plan.proofs.ChangedKeys.{Differ, differ, LacksChanged, AreFree, never, same_by, same_value, table_same}
use Rattle.j39_plan.proofs.OlderVersions.{known_on}

-- nothing stands in the table that one of the versions alone knows
pub record KeepsFlow (changed : Version → Bool) (ms : Members) : Type 0 where
  pub keys : LacksChanged changed (keys_of (flow_rules First ms) ++ with_key) ms

no_period : {changed : Version → Bool} (ms : Members) → KeepsFlow changed ms → changed Third ≡ true → given_number (period_of false) ms ≡ None
unfolding number_found
no_period ms keeps is = rw (lacked key.Period ms (keeps.keys.1.1.1.0 is))

no_deadline : {changed : Version → Bool} (ms : Members) → KeepsFlow changed ms → changed Third ≡ true → given_number deadline_rule ms ≡ None
unfolding number_found
no_deadline ms keeps is = rw (lacked key.Deadline ms (keeps.keys.1.1.1.1.0 is))

no_jitter : {changed : Version → Bool} (ms : Members) (period : Option ℕ) → KeepsFlow changed ms → changed Fourth ≡ true
    → number_of (jitter_rule period) ms ≡ 0
unfolding number_of
no_jitter ms period keeps is = rw (lacked key.Jitter ms (keeps.keys.1.1.1.1.1.0 is))

no_pause : {changed : Version → Bool} (ms : Members) (period : Option ℕ) → KeepsFlow changed ms → changed Fourth ≡ true
    → given_number (pause_rule period) ms ≡ None
unfolding number_found
no_pause ms period keeps is = rw (lacked key.Pause ms (keeps.keys.1.1.1.1.1.1.0 is))

not_on_request : {changed : Version → Bool} (ms : Members) → KeepsFlow changed ms → changed Fourth ≡ true → flag_of on_request_rule ms ≡ false
unfolding flag_of
not_on_request ms keeps is = rw (lacked key.OnRequest ms (keeps.keys.1.1.1.1.1.1.1.0 is))

-- ---- the period

asks_same : {changed : Version → Bool} {one other : Version} → Differ changed one other → (ms : Members) → KeepsFlow changed ms
    → asks_for_period one ms ≡ asks_for_period other ms
asks_same apart ms keeps =
    same_by apart Fourth (λ knows. (knows && has_key key.Jitter ms) || has_key key.Deadline ms) (λ is. rw (keeps.keys.1.1.1.1.1.0 is) refl)

-- where one of two versions alone knows periods, no other knows jitters
later_apart : (a b c e : Bool) → (c ≡ true → a ≡ true) → (e ≡ true → b ≡ true) → differ a b ≡ true → c ≡ true → differ c e ≡ true
later_apart a b true true one other apart is = absurd (false≢true (rw (one refl, other refl) at apart))
later_apart a b true false one other apart is = refl
later_apart a b false e one other apart is = cc

no_question : {changed : Version → Bool} {one other : Version} → Differ changed one other → (ms : Members) → KeepsFlow changed ms → changed Third ≡ true
    → asks_for_period one ms ≡ false
no_question {changed} {one} {other} apart ms keeps is =
    rw (keeps.keys.1.1.1.1.0 is) (elim (cases_Bool (is_known Fourth one)) [
      | inl knows ↦
          let also : differ (is_known Fourth one) (is_known Fourth other) ≡ true =
          later_apart (is_known Third one) (is_known Third other) (is_known Fourth one) (is_known Fourth other)
          (λ later. known_on Third Fourth one later refl) (λ later. known_on Third Fourth other later refl) (apart Third ∙ is) knows in
          rw (keeps.keys.1.1.1.1.1.0 (sym (apart Fourth) ∙ also), knows) refl
      | inr not ↦ rw not refl
    ])

period_same : {changed : Version → Bool} {one other : Version} → Differ changed one other → (ms : Members) → KeepsFlow changed ms
    → given_period one ms ≡ given_period other ms
unfolding number_found
period_same apart ms keeps = same_value apart Third (given_number (period_of false) ms) None (no_period ms keeps)

-- ---- the flow

jitter_free : (period : Option ℕ) → standing_cause (jitter_rule period) (jitter_rule period).default ≡ None
unfolding integer_in
jitter_free period = rw (le-ltb (jitter_most period) 0 (omega arith)) refl

free : {changed : Version → Bool} {one other : Version} → Differ changed one other → (ms : Members) → KeepsFlow changed ms
    → AreFree changed (flow_rules one ms)
unfolding truth
free {changed} {one} apart ms keeps = (
  never apart,
  (
    never apart,
    (
      never apart,
      (
        λ is. (refl, rw (no_question apart ms keeps is) refl),
        (
          λ is. (refl, refl),
          (
            λ is. (refl, jitter_free (given_period one ms)),
            (
              λ is. (refl, refl),
              (
                λ is. (refl, refl),
                tt,
              ),
            ),
          ),
        ),
      ),
    ),
  ),
)

table_alike : {changed : Version → Bool} {one other : Version} → Differ changed one other → (groups units : List (List ℕ)) (i : ℕ) (ms : Members)
    → KeepsFlow changed ms → flow_table_faults one groups units i ms ≡ flow_table_faults other groups units i ms
unfolding flow_table_faults
table_alike {changed} {one} {other} apart groups units i ms keeps =
    rw (
      table_same apart with_key (at.Flow i) (flow_rules one ms) ms keeps.keys (free apart ms keeps),
      asks_same apart ms keeps,
      period_same apart ms keeps,
    ) refl

pub flow_alike : {changed : Version → Bool} {one other : Version} → Differ changed one other → (groups units : List (List ℕ)) (i : ℕ) (d : Data)
    → KeepsFlow changed (inside d) → Alike (flow_faults one groups units i d) (flow_faults other groups units i d)
unfolding flow_faults
flow_alike {changed} {one} {other} apart groups units i d keeps =
    alike_both _ _ _ _ refl
    (alike_inside (flow_table_faults one groups units i) (flow_table_faults other groups units i) d
    (ap first (table_alike apart groups units i (inside d) keeps)))

jitter_same : {changed : Version → Bool} {one other : Version} → Differ changed one other → (ms : Members) → KeepsFlow changed ms
    → jitter_of one (given_period one ms) ms ≡ jitter_of other (given_period other ms) ms
jitter_same {changed} {one} {other} apart ms keeps =
    ap (λ period. jitter_of one period ms) (period_same apart ms keeps)
    ∙ same_value apart Fourth (number_of (jitter_rule (given_period other ms)) ms) 0 (no_jitter ms (given_period other ms) keeps)

pause_same : {changed : Version → Bool} {one other : Version} → Differ changed one other → (ms : Members) → KeepsFlow changed ms
    → pause_of one (given_period one ms) ms ≡ pause_of other (given_period other ms) ms
pause_same {changed} {one} {other} apart ms keeps =
    ap (λ period. pause_of one period ms) (period_same apart ms keeps)
    ∙ same_value apart Fourth (given_number (pause_rule (given_period other ms)) ms) None (no_pause ms (given_period other ms) keeps)

pub flow_stated : {changed : Version → Bool} {one other : Version} → Differ changed one other → (groups units : List (List ℕ)) (d : Data) (f : FlowPlan)
    → KeepsFlow changed (inside d) → IsFlowOf one groups units d f → IsFlowOf other groups units d f
flow_stated apart groups units d f keeps stated = record {
  has_group = stated.has_group;
  has_sender = stated.has_sender;
  has_receivers = stated.has_receivers;
  has_pace = record {
    has_period = stated.has_pace.has_period ∙ period_same apart (inside d) keeps;
    has_deadline = subst (λ n. IfSome f.pace (λ p. p.deadline ≡ n))
        (same_value apart Third (given_number deadline_rule (inside d)) None (no_deadline (inside d) keeps)) stated.has_pace.has_deadline;
    has_jitter = subst (λ n. IfSome f.pace (λ p. p.jitter ≡ n)) (jitter_same apart (inside d) keeps) stated.has_pace.has_jitter;
  };
  has_pause = stated.has_pause ∙ pause_same apart (inside d) keeps;
  has_on_request = stated.has_on_request
      ∙ same_value apart Fourth (flag_of on_request_rule (inside d)) false (not_on_request (inside d) keeps);
}
