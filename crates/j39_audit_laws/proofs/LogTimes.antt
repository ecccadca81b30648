-- Where a log breaks off, where a bit was idle, and which broadcasts count.
use Rattle.std.proofs.Common.{◌≡◌, ℕ, suc, ◌+◌, ◌*◌, ◌<◌, ◌≤◌, ◌&&◌, ◌||◌, ◌∷◌, All, List, Bool, true, false, not, max}
use Rattle.std.proofs.Common.{Option, Some, None, if◌then◌else◌, inl, inr, refl, sym, ap, ◌∙◌, subst, arith}
use Rattle.std.specs.List.{list_any, slice_get}
use Rattle.std.specs.Option.{option_map_or}
use Rattle.std.specs.Prelude.{is_none, nat_le, nat_lt}
use Rattle.std.proofs.Math.Nat.{max-eq_left, max-eq_right}
use Rattle.std.proofs.lemmas.Bool.{and_from, and_parts, cases_lt, cond-false, cond-true, false_from_ne_true, leb-true, lt-ltb, ltb-true}
use Rattle.std.proofs.lemmas.Bool.{not-true, or_cases, or_left, true≢false}
use Rattle.std.proofs.lemmas.List.Elements.{All-cons, All-weaker}
use Rattle.std.proofs.lemmas.Option.{none-some}
use Rattle.j39_network.specs.declared.plan.flow_plan.FlowPlan.{FlowPlan}
use Rattle.j39_network.specs.declared.plan.pace.Pace.{Pace}
use Rattle.j39_network.specs.declared.plan.timing.ErrorRate.{ErrorRate}
use Rattle.j39_network.specs.declared.plan.timing.Timing.{Timing}
use Rattle.j39_follow.specs.LogLines.{moment_of}
use Rattle.j39_audit.specs.BegunBroadcasts.{is_paced, is_unpaced}
use Rattle.j39_audit.specs.Breaks.{clock_time}
use Rattle.j39_audit.specs.Moments.{bit_us, is_apart, leaves_idle}
use Rattle.j39_audit.specs.SentMessages.{is_fit}
use Rattle.j39_audit.specs.Settings.{logger_error}
use Rattle.j39_audit_laws.specs.LogTimes.{BreaksAreByNumbers, BroadcastsArePlanned, DamageMayFillAll, IsGreatest, IsPacedByThePlan, NewestIsGreatest}
use Rattle.j39_audit_laws.specs.LogTimes.{TimesBegin, TimesNeedTiming}
use Rattle.j39_audit_laws.proofs.Planned.{any_at, any_found}

-- ---- breaks

or_right : (a b : Bool) → b ≡ true → (a || b) ≡ true
or_right true b is = refl
or_right false b is = is

pub breaks_so : BreaksAreByNumbers
breaks_so stamps newest time = (
  λ is. elim (or_cases (nat_lt (time + 2 * stamps) newest) (nat_lt (newest + 1000000) time) is) [
    | inl back ↦ inr (ltb-true (time + 2 * stamps) newest back)
    | inr far ↦ inl (ltb-true (newest + 1000000) time far)
  ],
  λ is. elim is [
    | inl far ↦ or_right (nat_lt (time + 2 * stamps) newest) (nat_lt (newest + 1000000) time) (lt-ltb (newest + 1000000) time far)
    | inr back ↦ or_left (nat_lt (time + 2 * stamps) newest) (nat_lt (newest + 1000000) time) (lt-ltb (time + 2 * stamps) newest back)
  ],
)

greater : (times : List ℕ) (newest time : ℕ) → IsGreatest times newest → IsGreatest (time ∷ times) (max newest time)
greater times newest time is = elim (cases_lt newest time) [
  | inl below ↦ subst (IsGreatest (time ∷ times)) (sym (max-eq_right {n = newest} {m = time} (omega (arith, below)))) (record {
    among = (0, time, omega arith, refl, refl);
    greatest = All-cons (λ t. t ≤ time) time times (omega arith)
        (All-weaker (λ t. t ≤ newest) (λ t. t ≤ time) (λ t less. omega (arith, less, below)) times is.greatest);
  })
  | inr above ↦ subst (IsGreatest (time ∷ times)) (sym (max-eq_left {n = newest} {m = time} (omega (arith, above)))) (record {
    among = (suc is.among.0, is.among.1, omega (arith, is.among.2), is.among.3, is.among.4);
    greatest = All-cons (λ t. t ≤ newest) time times (omega (arith, above)) is.greatest;
  })
]

pub newest_greatest : NewestIsGreatest
newest_greatest stamps newest time times is = record {
  anew = λ back. ap Some (cond-true (nat_lt (time + 2 * stamps) newest) time (max newest time) (lt-ltb (time + 2 * stamps) newest back));
  more = λ on.
      let goes_on : nat_lt (time + 2 * stamps) newest ≡ false =
      false_from_ne_true (nat_lt (time + 2 * stamps) newest) (λ back. less (ltb-true (time + 2 * stamps) newest back) on) in
      (max newest time, ap Some (cond-false (nat_lt (time + 2 * stamps) newest) time (max newest time) goes_on), greater times newest time is);
}
  where
    less : time + 2 * stamps < newest → newest ≤ time + 2 * stamps → ⊥
    less back on = omega (arith, back, on)

pub times_begin : TimesBegin
times_begin stamps None time = (refl, refl)
times_begin stamps (Some newest) time = (refl, refl)

pub timing_needed : TimesNeedTiming
timing_needed plan text none = cond-true (is_none plan.timing) None (clock_time (moment_of text)) (ap is_none none)

-- ---- idle bits

none_idle : (a b c d : Bool) → c ≡ false → (a && (b && (c && d))) ≡ false
none_idle false b c d is = refl
none_idle true false c d is = refl
none_idle true true false d is = refl
none_idle true true true d is = absurd (true≢false is)

-- the damaged frames of the time of one `every`, and one more, take no longer
abbrev leaves_room : Timing → ErrorRate → Bool
leaves_room t e = nat_le (bit_us t.bitrate * (192 * (e.count + 1)) * (1000000 + t.drift)) (1000 * e.every * 1000000)

pub damage_fills : DamageMayFillAll
damage_fills s t e gap bytes time before its full =
    none_idle (not s.part) (not gap) (leaves_idle t) (is_apart (logger_error s) t bytes time before) filled
  where
    none : leaves_room t e ≡ true → ⊥
    none is =
        let some = leb-true (bit_us t.bitrate * (192 * (e.count + 1)) * (1000000 + t.drift)) (1000 * e.every * 1000000) is in omega (arith, some, full)

    filled : leaves_idle t ≡ false
    filled = ap (λ o. option_map_or (leaves_room t) o true) its ∙ false_from_ne_true (leaves_room t e) none

-- ---- broadcasts

where_some : {X : Type 0} (b : Bool) (x y : X) → (if b then Some x else None) ≡ Some y → b ≡ true
where_some true x y is = refl
where_some false x y is = absurd (none-some y is)

pub broadcasts_planned : BroadcastsArePlanned
unfolding is_paced
broadcasts_planned s k m moment line one begun =
    let (fit, unpaced) = and_parts (list_any (is_fit s k m) s.plan.flows.items) (not (list_any (is_unpaced s k m) s.plan.flows.items))
    (where_some (is_paced s k m) _ one begun) in
    paced fit (not-true (list_any (is_unpaced s k m) s.plan.flows.items) unpaced)
  where
    paced : list_any (is_fit s k m) s.plan.flows.items ≡ true → list_any (is_unpaced s k m) s.plan.flows.items ≡ false → IsPacedByThePlan s k m
    paced some none = record {
      some = any_found (is_fit s k m) s.plan.flows.items some;
      each = λ n flow at fit. its n flow at fit flow.pace refl;
    }
      where
        its : (n : ℕ) (flow : FlowPlan) → slice_get s.plan.flows.items n ≡ Some flow → is_fit s k m flow ≡ true → (o : Option Pace) → flow.pace ≡ o
            → (pace : Pace) × (flow.pace ≡ Some pace)
        its n flow at fit (Some pace) is = (pace, is)
        its n flow at fit None is =
            let unpaced : is_unpaced s k m flow ≡ true = and_from (is_fit s k m flow) (is_none flow.pace) fit (ap is_none is) in
            absurd (true≢false (sym (any_at (is_unpaced s k m) s.plan.flows.items n flow at unpaced) ∙ none))
