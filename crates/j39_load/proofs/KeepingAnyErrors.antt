-- A bus with damaged frames and units that keep no order that keeps to a plan in the plan's own words keeps the premises of its delays.
use Rattle.std.proofs.Common.{◌≡◌, ℕ, ◌+◌, ◌<◌, ◌≤◌, ◌⊎◌, Bool, true, false, cond, List, length, get_or, unwrap_or, Option, None}
use Rattle.std.proofs.Common.{sym, ap, ◌∙◌, subst, inl, inr, arith}
use Rattle.std.proofs.lemmas.Bool.{le-ltb, lt-ltb, true≢false}
use Rattle.std.proofs.lemmas.List.{get_or_past}
use Rattle.j39_findings.specs.Findings.{Clean}
use Rattle.j39_findings.specs.Standing.{DecidesWhoStays}
use Rattle.j39_network.specs.declared.plan.Plan.{Plan}
use Rattle.j39_network.specs.declared.plan.timing.ErrorRate.{ErrorRate}
use Rattle.j39_network.specs.declared.plan.timing.Timing.{Timing}
use Rattle.j39_network.specs.declared.plan.unit_plan.UnitPlan.{UnitPlan}
use Rattle.j39_load.specs.declared.frames.flow_frames.FlowFrames.{FlowFrames}
use Rattle.j39_load.specs.AnyQueues.{are_of_unit, is_of_queue_group, keep_order, leasts_of, with_unplanned}
use Rattle.j39_load.specs.KeepsErrors.{KeepsErrors, KeepsErrorsInAnyOrder}
use Rattle.j39_load.specs.KeepsPlan.{IsSingleFlow, KeepsQueues, KeepsToPlan, origins_of, source_place}
use Rattle.j39_load.specs.LiveClaims.{unplanned_end}
use Rattle.j39_load.specs.PlannedFrames.{AreFramesInAnyOrder, KeepToQueueGroup, queue_group_of, no_frames, planned_at}
use Rattle.j39_load.specs.SentFrames.{FrameSources, Held}
use Rattle.j39_load.proofs.DamagedPlaces.{IsDamage, IsFrame, own_with, shift}
use Rattle.j39_load.proofs.KeepingAnyOrder.{any_of, keeps_any}
use Rattle.j39_load.proofs.KeepingErrors.{above_zero, asks, is_planned, keeps_with_errors, kinds, longest_with, of, w}
use Rattle.j39_load.proofs.KeepingPlan.{keeps_premises}
use Rattle.j39_timing.specs.AnyOrder.{Controllers}
use Rattle.j39_timing.specs.Errors.{Damaged, IsBusWithErrors, damage_ordered}
use Rattle.j39_timing.specs.TimedFrames.{Schedule}

module _ (plan : Plan) (timing : Timing) (stays : UnitPlan → Bool) (states : DecidesWhoStays plan stays) (clean : Clean plan) (s : Schedule) (d : Damaged)
    (bus : IsBusWithErrors s d) (planned : ℕ → Bool) (sent : FrameSources) (held : Held) (keeps : KeepsToPlan plan timing s planned sent held)
    (rate : ErrorRate) (errors : KeepsErrors timing rate s d planned sent) (controllers : Controllers)
    (queues : KeepsQueues plan timing s controllers planned sent)
    (more : KeepsErrorsInAnyOrder plan timing s controllers d planned sent) (i : ℕ) (single : IsSingleFlow plan i) where
  abbrev all : List (Option FlowFrames)
  all = asks plan timing stays states clean s d bus planned sent held keeps rate errors

  abbrev ends : ℕ
  ends = unplanned_end plan

  abbrev bus_with : Schedule
  bus_with = w plan timing stays states clean s d bus planned sent held keeps rate errors

  abbrev is_foreseen : ℕ → Bool
  is_foreseen = is_planned plan timing stays states clean s d bus planned sent held keeps rate errors

  -- without damage
  before : AreFramesInAnyOrder timing ends all s controllers planned (origins_of plan sent) i
  before = keeps_any plan timing stays states clean s bus.queued_first planned sent held keeps controllers queues i
      (keeps_premises plan timing stays states clean s bus.queued_first planned sent held keeps i single)

  its_kind : (p : ℕ) → p < bus_with.count → IsFrame plan s d planned sent rate (length all) p
      ⊎ IsDamage plan s d planned sent rate (length all) p
  its_kind p in_p = kinds plan timing stays states clean s d bus planned sent held keeps rate errors p in_p

  -- what comes of damage stands behind all that the plan asks for
  behind_all : (p : ℕ) → IsDamage plan s d planned sent rate (length all) p
      → planned_at all ((of plan timing stays states clean s d bus planned sent held keeps rate errors).source p) ≡ no_frames
  behind_all p at = ap (λ (o : Option FlowFrames). unwrap_or o no_frames)
      (ap (λ (j : ℕ). get_or all j None) at.source ∙ get_or_past all (length all + shift at.error) None (omega arith))

  same_unit : (p : ℕ) → p < s.count → (damage_ordered s controllers more.own).unit p ≡ controllers.unit p
  same_unit p below = ap (λ (b : Bool). cond b (controllers.unit p) more.own) (lt-ltb p s.count below)

  own_unit : (p : ℕ) → s.count ≤ p → (damage_ordered s controllers more.own).unit p ≡ more.own
  own_unit p past = ap (λ (b : Bool). cond b (controllers.unit p) more.own) (le-ltb p s.count past)

  -- queue groups are as they were
  module _ (around : FlowFrames) (level : ℕ) (kept : KeepToQueueGroup timing ends s planned (origins_of plan sent)
      (queue_group_of timing ends all around level)) where
    abbrev has : ℕ → Bool
    has = (queue_group_of timing ends all around level).has

    never : (p : ℕ) → IsDamage plan s d planned sent rate (length all) p
        → has ((of plan timing stays states clean s d bus planned sent held keeps rate errors).source p) ≡ true → ⊥
    never p at is = true≢false (sym is ∙ gone (planned_at all ((of plan timing stays states clean s d bus planned sent held keeps rate errors).source p))
        (behind_all p at))
      where
        gone : (x : FlowFrames) → x ≡ no_frames → is_of_queue_group (leasts_of all) (with_unplanned timing ends around) level x ≡ false
        gone x same = ap (is_of_queue_group (leasts_of all) (with_unplanned timing ends around) level) same

    queue_group_with : KeepToQueueGroup timing ends bus_with is_foreseen (of plan timing stays states clean s d bus planned sent held keeps rate errors)
        (queue_group_of timing ends all around level)
    queue_group_with = record {
      identifiers = λ p in_p isnt seen. elim (its_kind p in_p) [
        | inl at ↦ let ident = at.frame.ident in let queued = at.frame.queued in
            let few = kept.identifiers p at.frame.below (sym at.plans ∙ isnt) (omega (arith, seen, queued)) in omega (arith, ident, few)
        | inr at ↦ absurd (true≢false (sym (ap (λ (b : Bool). cond b (planned p) true) (le-ltb p s.count at.behind)) ∙ isnt))
      ];
      own_identifiers = own_with plan s d planned sent rate (length all) has never
          (above_zero plan timing stays states clean s d bus planned sent held keeps rate errors) kept.own_identifiers bus
          (longest_with plan timing stays states clean s d bus planned sent held keeps rate errors);
      few_unplanned = λ p from to in_p is of_it seen waits queue_group. elim (its_kind p in_p) [
        | inr damage ↦ absurd (never p damage of_it)
        | inl one ↦
            let any = any_of plan timing stays states clean s bus.queued_first planned sent held keeps controllers queues around level p one.frame.below
            (sym one.plans ∙ is) (subst (λ (j : ℕ). has j ≡ true) one.source of_it) in
            more.few_unplanned p from to any.place any.unit one.frame.below (sym one.plans ∙ is) any.takes any.at any.any seen waits
            (λ t behind up. let (q, in_q, is_q, with_it, wait) = queue_group t behind up in (q, in_q, is_q, wait))
      ];
    }

  pub keeps_any_with_errors : i < length all
      → AreFramesInAnyOrder timing ends all bus_with (damage_ordered s controllers more.own) is_foreseen
      (of plan timing stays states clean s d bus planned sent held keeps rate errors) i
  keeps_any_with_errors flow = record {
    known = keeps_with_errors plan timing stays states clean s d bus planned sent held keeps rate errors i flow single;
    of_unit = λ p in_p is un. elim (its_kind p in_p) [
      | inl at ↦
          let stated = before.of_unit p at.frame.below (sym at.plans ∙ is) (sym (ap controllers.keeps_order (same_unit p at.frame.below)) ∙ un) in
          subst (λ (j : ℕ). are_of_unit (planned_at all j) ((damage_ordered s controllers more.own).unit p) ≡ true) (sym at.source)
          (subst (λ (u : ℕ). are_of_unit (planned_at all (source_place plan (sent.source p))) u ≡ true) (sym (same_unit p at.frame.below)) stated)
      | inr at ↦ absurd (true≢false (sym more.in_order ∙ (sym (ap controllers.keeps_order (own_unit p at.behind)) ∙ un)))
    ];
    to_last = λ p in_p is unordered. elim (its_kind p in_p) [
      | inl at ↦
          let ident = at.frame.ident in
          let last = before.to_last p at.frame.below (sym at.plans ∙ is) (subst (λ (j : ℕ). keep_order (planned_at all j) ≡ false) at.source unordered) in
          let its = ap (λ (j : ℕ). (planned_at all j).last_ident) at.source in
          omega (arith, ident, last, its)
      | inr at ↦ absurd (true≢false (sym (ap keep_order (behind_all p at)) ∙ unordered))
    ];
    queue_groups = λ j level goes unordered is_level. queue_group_with (planned_at all j) level (before.queue_groups j level goes unordered is_level);
  }
