-- On a bus that keeps to a plan in the plan's own words the long messages to all of a unit come in turn.
use Rattle.std.proofs.Common.{◌≡◌, ℕ, ◌<◌, ◌≤◌, ◌⊎◌, Bool, true, false, not, ◌||◌, eqb, Option, None}
use Rattle.std.proofs.Common.{refl, sym, ap, ◌∙◌, subst, inl, inr, arith}
use Rattle.std.proofs.lemmas.Bool.{and_parts, cases_Bool, eq-eqb, eqb-true, false≢true, or_cases, or_left}
use Rattle.std.proofs.lemmas.List.{length-map}
use Rattle.j39_id.specs.Ident.{identifier_of}
use Rattle.j39_findings.specs.Findings.{Clean}
use Rattle.j39_findings.specs.Standing.{DecidesWhoStays}
use Rattle.j39_network.specs.declared.plan.Plan.{Plan}
use Rattle.j39_network.specs.declared.plan.timing.Timing.{Timing}
use Rattle.j39_network.specs.declared.plan.unit_plan.UnitPlan.{UnitPlan}
use Rattle.j39_load.specs.declared.frames.flow_frames.FlowFrames.{FlowFrames}
use Rattle.j39_load.specs.AnyQueues.{keep_order}
use Rattle.j39_load.specs.Asked.{asked_of, frames_asked}
use Rattle.j39_load.specs.Delays.{announcements_place, packets_place}
use Rattle.j39_load.specs.KeepsBroadcasts.{IsMessageToAll, KeepsTurns}
use Rattle.j39_load.specs.KeepsPlan.{KeepsQueues, KeepsToPlan, origins_of, source_place}
use Rattle.j39_load.specs.FlowLoads.{load_of_flow}
use Rattle.j39_load.specs.LiveClaims.{unplanned_end}
use Rattle.j39_load.specs.PlannedFrames.{ComeInAnyOrder, ComeInTurn, planned_at}
use Rattle.j39_load.specs.SentFrames.{FrameSources, HasTime, Held, IsBroadcastFrame, IsFrameOf, IsToAllBy, Source}
use Rattle.j39_load.specs.SentFrames.{Single, First, InSession, Asking, Announcing, Carrying}
use Rattle.j39_load.specs.Twins.{are_twins, is_same}
use Rattle.j39_load.proofs.KeepingAnyOrder.{keeps_any}
use Rattle.j39_load.proofs.KnownFrames.{own_if_timed}
use Rattle.j39_load.proofs.KeepingSources.{of_announcements, of_packets}
use Rattle.j39_load.proofs.KeepingPlan.{premises_at}
use Rattle.j39_load.proofs.PlacedFrames.{all, announcing_read, carrying_read, same_units, traffic, unit_asks}
use Rattle.j39_load.proofs.SharedIdentifiers.{broadcast_made, broadcast_or_part, no_broadcast, of_first, of_single, one_sends, part_made, request_made}
use Rattle.j39_load.proofs.SharedIdentifiers.{request_or_broadcast}
use Rattle.j39_load.proofs.StreamsBefore.{with_damage}
use Rattle.j39_timing.specs.AnyOrder.{Controllers, IsLegalInAnyOrder}
use Rattle.j39_timing.specs.TimedFrames.{Schedule, IsLegal}
use Rattle.j39_timing.specs.Traffic.{AreQueuedBehind, AreSteady, IsQueuedAt, may_share}

-- frames without a number have no twins
none_first : (n : Option ℕ) → is_same None n ≡ false
none_first n = refl

no_twin : (a b : FlowFrames) → a.twin_ident ≡ None → are_twins a b ≡ true → ⊥
no_twin a b none twin =
    false≢true (sym (ap (λ (n : Option ℕ). is_same n b.twin_ident) none)
    ∙ (and_parts (is_same a.twin_ident b.twin_ident) (keep_order b || not (keep_order a)) twin).0)

-- a frame of a unit's long messages to all, of this group number
abbrev IsNumbered : ℕ → ℕ → Source → Type 0
IsNumbered number u (Single f) = ⊥
IsNumbered number u (First f) = ⊥
IsNumbered number u (InSession f part) = ⊥
IsNumbered number u (Asking r) = ⊥
IsNumbered number u (Announcing v m) = (number ≡ 60416) × (u ≡ v)
IsNumbered number u (Carrying v m k) = (number ≡ 60160) × (u ≡ v)

numbered_timed : (number u : ℕ) (x : Source) → IsNumbered number u x → HasTime x
numbered_timed number u (Single f) is = absurd is
numbered_timed number u (First f) is = absurd is
numbered_timed number u (InSession f part) is = absurd is
numbered_timed number u (Asking r) is = absurd is
numbered_timed number u (Announcing v m) is = tt
numbered_timed number u (Carrying v m k) is = tt

numbered_by : (number u : ℕ) (x : Source) → IsNumbered number u x → IsToAllBy u x
numbered_by number u (Single f) is = absurd is
numbered_by number u (First f) is = absurd is
numbered_by number u (InSession f part) is = absurd is
numbered_by number u (Asking r) is = absurd is
numbered_by number u (Announcing v m) is = sym is.1
numbered_by number u (Carrying v m k) is = sym is.1

module _ (plan : Plan) (timing : Timing) (stays : UnitPlan → Bool) (states : DecidesWhoStays plan stays) (clean : Clean plan) (s : Schedule)
    (queued_first : (p : ℕ) → p < s.count → s.queued p ≤ s.start p) (planned : ℕ → Bool) (sent : FrameSources) (held : Held)
    (keeps : KeepsToPlan plan timing s planned sent held) (turns : KeepsTurns s planned sent held) where
  -- what has such a number has this identifier
  ident_of : (number u : ℕ) (x : Source) (release p t : ℕ) → IsNumbered number u x → IsFrameOf plan timing s held sent.broadcasts x release p → IsQueuedAt s p t
      → s.ident p ≡ identifier_of timing.transport_priority number 255 (held.address t u)
  ident_of number u (Single f) release p t is one queued = absurd is
  ident_of number u (First f) release p t is one queued = absurd is
  ident_of number u (InSession f part) release p t is one queued = absurd is
  ident_of number u (Asking r) release p t is one queued = absurd is
  ident_of number u (Announcing v m) release p t is one queued = one.identifier t queued
      ∙ (ap (λ (n : ℕ). identifier_of timing.transport_priority n 255 (held.address t v)) (sym is.0)
      ∙ ap (λ (w : ℕ). identifier_of timing.transport_priority number 255 (held.address t w)) (sym is.1))
  ident_of number u (Carrying v m k) release p t is one queued = one.0.identifier t queued
      ∙ (ap (λ (n : ℕ). identifier_of timing.transport_priority n 255 (held.address t v)) (sym is.0)
      ∙ ap (λ (w : ℕ). identifier_of timing.transport_priority number 255 (held.address t w)) (sym is.1))

  -- what has the identifier of such a frame is of the same unit, and has the same number
  shared : (number u m release p other q t : ℕ) (y : Source) → (number ≡ 60416) ⊎ (number ≡ 60160)
      → IsBroadcastFrame timing s held sent.broadcasts number u m release p → IsFrameOf plan timing s held sent.broadcasts y other q
      → IsQueuedAt s p t → IsQueuedAt s q t → s.ident p ≡ s.ident q → IsNumbered number u y
  shared number u m release p other q t (Single g) either one two at_p at_q same =
      absurd (no_broadcast plan timing clean s held t (keeps.held_apart t) g q (of_single plan timing clean s held t (keeps.held_apart t) g other q two at_q)
      (s.ident p) number u either
      (broadcast_made plan timing clean s held t (keeps.held_apart t) sent.broadcasts number u m release p either one at_p) (sym same))
  shared number u m release p other q t (First g) either one two at_p at_q same =
      absurd (no_broadcast plan timing clean s held t (keeps.held_apart t) g q (of_first plan timing clean s held t (keeps.held_apart t) g other q two at_q)
      (s.ident p) number u either
      (broadcast_made plan timing clean s held t (keeps.held_apart t) sent.broadcasts number u m release p either one at_p) (sym same))
  shared number u m release p other q t (InSession g part) either one two at_p at_q same =
      absurd (broadcast_or_part plan clean (held.named t) (held.address t) (keeps.held_apart t) (s.ident p) (s.ident q) u two.flow.sender two.receiver number
      (broadcast_made plan timing clean s held t (keeps.held_apart t) sent.broadcasts number u m release p either one at_p)
      (part_made plan timing clean s held t (keeps.held_apart t) g part other q two at_q) same)
  shared number u m release p other q t (Asking r) either one two at_p at_q same =
      absurd (request_or_broadcast plan clean (held.named t) (held.address t) (keeps.held_apart t) (s.ident q)
      (s.ident p) two.asked.sender u number two.asked.to either
      (request_made plan timing clean s held t (keeps.held_apart t) r other q two at_q)
      (broadcast_made plan timing clean s held t (keeps.held_apart t) sent.broadcasts number u m release p either one at_p) (sym same))
  shared number u m release p other q t (Announcing v w) either one two at_p at_q same =
      one_sends plan clean (held.named t) (held.address t) (keeps.held_apart t) (s.ident p) (s.ident q) u v number 60416
      (broadcast_made plan timing clean s held t (keeps.held_apart t) sent.broadcasts number u m release p either one at_p)
      (broadcast_made plan timing clean s held t (keeps.held_apart t) sent.broadcasts 60416 v w other q (inl refl) two at_q) same
  shared number u m release p other q t (Carrying v w k) either one two at_p at_q same =
      one_sends plan clean (held.named t) (held.address t) (keeps.held_apart t) (s.ident p) (s.ident q) u v number 60160
      (broadcast_made plan timing clean s held t (keeps.held_apart t) sent.broadcasts number u m release p either one at_p)
      (broadcast_made plan timing clean s held t (keeps.held_apart t) sent.broadcasts 60160 v w other q (inr refl) two.0 at_q) same

  -- a place at which such frames stand alone
  module _ (number u i : ℕ) (none : (planned_at (all plan timing stays) i).twin_ident ≡ None)
      (there : (x : Source) → IsNumbered number u x → source_place plan x ≡ i)
      (only : (p : ℕ) → p < s.count → planned p ≡ true → source_place plan (sent.source p) ≡ i
      → (m : ℕ) × IsNumbered number u (sent.source p) × IsBroadcastFrame timing s held sent.broadcasts number u m (sent.release p) p)
      (either : (number ≡ 60416) ⊎ (number ≡ 60160)) where
    at_place_of : (j : ℕ) → may_share (traffic plan timing stays) i j ≡ true → j ≡ i
    at_place_of j shares = elim (or_cases (eqb j i) (are_twins (planned_at (all plan timing stays) i) (planned_at (all plan timing stays) j)) shares) [
      | inl same ↦ eqb-true j i same
      | inr twin ↦ absurd (no_twin (planned_at (all plan timing stays) i) (planned_at (all plan timing stays) j) none twin)
    ]

    own : (p q t : ℕ) → p < s.count → q < s.count → t < s.now → planned p ≡ true
        → may_share (traffic plan timing stays) i (source_place plan (sent.source p)) ≡ true → IsQueuedAt s p t → IsQueuedAt s q t → s.ident p ≡ s.ident q
        → (planned q ≡ true) × (may_share (traffic plan timing stays) i (source_place plan (sent.source q)) ≡ true)
    own p q t in_p in_q seen is_p shares at_p at_q same =
        let (m, is, one) = only p in_p is_p (at_place_of (source_place plan (sent.source p)) shares) in
        elim (cases_Bool (planned q)) [
          | inl is_q ↦
              let place = there (sent.source q) (shared number u m (sent.release p) p (sent.release q) q t (sent.source q) either one
              (keeps.frames q in_q is_q) at_p at_q same) in
              (is_q, or_left _ _ (eq-eqb (source_place plan (sent.source q)) i place))
          | inr not_q ↦ absurd (keeps.others_identifier p q t in_p in_q seen is_p
              (own_if_timed (sent.source p) (numbered_timed number u (sent.source p) is)) not_q at_p at_q same)
        ]

    behind : AreQueuedBehind s planned (origins_of plan sent) i
    behind p q in_p in_q other is_p is_q place_p place_q =
        let (m, first, one) = only p in_p is_p place_p in
        let (n, second, two) = only q in_q is_q place_q in
        turns.one_by_one p q u in_p in_q other is_p is_q (numbered_by number u (sent.source p) first) (numbered_by number u (sent.source q) second)

    steady : AreSteady s planned (origins_of plan sent) i
    steady p q in_p in_q is_p is_q place_p place_q before waits =
        let (m, first, one) = only p in_p is_p place_p in
        let (n, second, two) = only q in_q is_q place_q in
        let same = turns.steady p q u in_p in_q is_p is_q (numbered_by number u (sent.source p) first)
        (numbered_by number u (sent.source q) second) before waits in
        let ready_p = queued_first p in_p in
        let ready_q = queued_first q in_q in
        ident_of number u (sent.source p) (sent.release p) p (s.queued p) first (keeps.frames p in_p is_p) (omega arith, ready_p)
        ∙ (ap (identifier_of timing.transport_priority number 255) same
        ∙ sym (ident_of number u (sent.source q) (sent.release q) q (s.queued q) second (keeps.frames q in_q is_q) (omega arith, ready_q)))

    in_turn : ComeInTurn timing (frames_asked (asked_of timing plan stays)) s planned (origins_of plan sent) i
    in_turn = record {
      known = premises_at plan timing stays states clean s queued_first planned sent held keeps i
          (λ p in_p is place. numbered_timed number u (sent.source p) (only p in_p is place).1) own;
      behind = behind;
      steady = steady;
    }

    in_any_turn : (controllers : Controllers) → KeepsQueues plan timing s controllers planned sent
        → ComeInAnyOrder timing (unplanned_end plan) (frames_asked (asked_of timing plan stays)) s controllers planned (origins_of plan sent) i
    in_any_turn controllers queues = record {
      known = keeps_any plan timing stays states clean s queued_first planned sent held keeps controllers queues i in_turn.known;
      behind = λ ordered. behind;
      steady = λ ordered. steady;
    }

  -- ---- the two places of a unit

  module _ (u m : ℕ) (below : m < sent.broadcasts.count u) where
    abbrev message : IsMessageToAll plan timing sent.broadcasts u m
    message = keeps.broadcasts.messages u m below

    no_twins_at : (j : ℕ) (frames : FlowFrames) → frames.twin_ident ≡ None → (planned_at (all plan timing stays) j ≡ frames)
        → (planned_at (all plan timing stays) j).twin_ident ≡ None
    no_twins_at j frames none is = ap (λ (x : FlowFrames). x.twin_ident) is ∙ none

    packets_none : (planned_at (all plan timing stays) (source_place plan (Carrying u m 0))).twin_ident ≡ None
    packets_none = no_twins_at (source_place plan (Carrying u m 0)) (unit_asks plan timing stays sent.broadcasts u m message).packets refl
        (with_damage timing (frames_asked (asked_of timing plan stays)) (source_place plan (Carrying u m 0))
        (unit_asks plan timing stays sent.broadcasts u m message).packets (carrying_read plan timing stays sent.broadcasts u m message 0))

    announcements_none : (planned_at (all plan timing stays) (source_place plan (Announcing u m))).twin_ident ≡ None
    announcements_none = no_twins_at (source_place plan (Announcing u m)) (unit_asks plan timing stays sent.broadcasts u m message).announcements refl
        (with_damage timing (frames_asked (asked_of timing plan stays)) (source_place plan (Announcing u m))
        (unit_asks plan timing stays sent.broadcasts u m message).announcements (announcing_read plan timing stays sent.broadcasts u m message))

    packets_there : (x : Source) → IsNumbered 60160 u x → source_place plan x ≡ source_place plan (Carrying u m 0)
    packets_there (Single f) is = absurd is
    packets_there (First f) is = absurd is
    packets_there (InSession f part) is = absurd is
    packets_there (Asking r) is = absurd is
    packets_there (Announcing v n) is = absurd (let number = is.0 in omega (arith, number))
    packets_there (Carrying v n k) is = ap (λ (w : ℕ). source_place plan (Carrying w 0 0)) (sym is.1)

    announcements_there : (x : Source) → IsNumbered 60416 u x → source_place plan x ≡ source_place plan (Announcing u m)
    announcements_there (Single f) is = absurd is
    announcements_there (First f) is = absurd is
    announcements_there (InSession f part) is = absurd is
    announcements_there (Asking r) is = absurd is
    announcements_there (Announcing v n) is = ap (λ (w : ℕ). source_place plan (Announcing w 0)) (sym is.1)
    announcements_there (Carrying v n k) is = absurd (let number = is.0 in omega (arith, number))

    packets_only : (p : ℕ) → p < s.count → planned p ≡ true → source_place plan (sent.source p) ≡ source_place plan (Carrying u m 0)
        → (n : ℕ) × IsNumbered 60160 u (sent.source p) × IsBroadcastFrame timing s held sent.broadcasts 60160 u n (sent.release p) p
    packets_only p in_p is place =
        let (n, k, source) = of_packets plan timing stays s held sent.broadcasts keeps.broadcasts.messages (sent.source p) u m 0 (sent.release p) p
        (keeps.frames p in_p is) below place in
        let one = subst (λ (x : Source). IsFrameOf plan timing s held sent.broadcasts x (sent.release p) p) source (keeps.frames p in_p is) in
        (n, subst (IsNumbered 60160 u) (sym source) (refl, refl), one.0)

    announcements_only : (p : ℕ) → p < s.count → planned p ≡ true → source_place plan (sent.source p) ≡ source_place plan (Announcing u m)
        → (n : ℕ) × IsNumbered 60416 u (sent.source p) × IsBroadcastFrame timing s held sent.broadcasts 60416 u n (sent.release p) p
    announcements_only p in_p is place =
        let (n, source) = of_announcements plan timing stays s held sent.broadcasts keeps.broadcasts.messages (sent.source p) u m (sent.release p) p
        (keeps.frames p in_p is) below place in
        let one = subst (λ (x : Source). IsFrameOf plan timing s held sent.broadcasts x (sent.release p) p) source (keeps.frames p in_p is) in
        (n, subst (IsNumbered 60416 u) (sym source) (refl, refl), one)

    at_packets : packets_place (asked_of timing plan stays) u ≡ source_place plan (Carrying u m 0)
    at_packets = let flows = length-map plan.flows.items (load_of_flow timing plan stays) in omega (arith, flows)

    at_announcements : announcements_place (asked_of timing plan stays) u ≡ source_place plan (Announcing u m)
    at_announcements =
        let stated = same_units plan timing stays in
        let flows = length-map plan.flows.items (load_of_flow timing plan stays) in
        omega (arith, stated, flows)

    pub packets_in_turn : ComeInTurn timing (frames_asked (asked_of timing plan stays)) s planned (origins_of plan sent)
        (packets_place (asked_of timing plan stays) u)
    packets_in_turn = subst (ComeInTurn timing (frames_asked (asked_of timing plan stays)) s planned (origins_of plan sent)) (sym at_packets)
        (in_turn 60160 u (source_place plan (Carrying u m 0)) packets_none packets_there packets_only (inr refl))

    pub announcements_in_turn : ComeInTurn timing (frames_asked (asked_of timing plan stays)) s planned (origins_of plan sent)
        (announcements_place (asked_of timing plan stays) u)
    announcements_in_turn = subst (ComeInTurn timing (frames_asked (asked_of timing plan stays)) s planned (origins_of plan sent)) (sym at_announcements)
        (in_turn 60416 u (source_place plan (Announcing u m)) announcements_none announcements_there announcements_only (inl refl))

    module _ (controllers : Controllers) (queues : KeepsQueues plan timing s controllers planned sent) where
      pub packets_in_any_turn : ComeInAnyOrder timing (unplanned_end plan) (frames_asked (asked_of timing plan stays)) s controllers planned
          (origins_of plan sent)
          (packets_place (asked_of timing plan stays) u)
      packets_in_any_turn =
          subst (ComeInAnyOrder timing (unplanned_end plan) (frames_asked (asked_of timing plan stays)) s controllers planned (origins_of plan sent))
          (sym at_packets)
          (in_any_turn 60160 u (source_place plan (Carrying u m 0)) packets_none packets_there packets_only (inr refl) controllers queues)

      pub announcements_in_any_turn : ComeInAnyOrder timing (unplanned_end plan) (frames_asked (asked_of timing plan stays)) s controllers planned
          (origins_of plan sent)
          (announcements_place (asked_of timing plan stays) u)
      announcements_in_any_turn =
          subst (ComeInAnyOrder timing (unplanned_end plan) (frames_asked (asked_of timing plan stays)) s controllers planned (origins_of plan sent))
          (sym at_announcements)
          (in_any_turn 60416 u (source_place plan (Announcing u m)) announcements_none announcements_there announcements_only (inl refl) controllers queues)

-- ---- plans

pub broadcasts_in_order : (plan : Plan) (timing : Timing) (stays : UnitPlan → Bool) → Clean plan → DecidesWhoStays plan stays
    → (s : Schedule) (planned : ℕ → Bool) (sent : FrameSources) (held : Held) (u m : ℕ) → m < sent.broadcasts.count u → IsLegal s
    → KeepsToPlan plan timing s planned sent held → KeepsTurns s planned sent held
    → ComeInTurn timing (frames_asked (asked_of timing plan stays)) s planned (origins_of plan sent) (announcements_place (asked_of timing plan stays) u)
    × ComeInTurn timing (frames_asked (asked_of timing plan stays)) s planned (origins_of plan sent) (packets_place (asked_of timing plan stays) u)
broadcasts_in_order plan timing stays clean states s planned sent held u m below legal keeps turns = (
  announcements_in_turn plan timing stays states clean s legal.queued_first planned sent held keeps turns u m below,
  packets_in_turn plan timing stays states clean s legal.queued_first planned sent held keeps turns u m below,
)

pub broadcasts_in_any_order : (plan : Plan) (timing : Timing) (stays : UnitPlan → Bool) → Clean plan → DecidesWhoStays plan stays
    → (s : Schedule) (controllers : Controllers) (planned : ℕ → Bool) (sent : FrameSources) (held : Held) (u m : ℕ) → m < sent.broadcasts.count u
    → IsLegalInAnyOrder s controllers → KeepsToPlan plan timing s planned sent held → KeepsQueues plan timing s controllers planned sent
    → KeepsTurns s planned sent held
    → ComeInAnyOrder timing (unplanned_end plan) (frames_asked (asked_of timing plan stays)) s controllers planned (origins_of plan sent)
    (announcements_place (asked_of timing plan stays) u)
    × ComeInAnyOrder timing (unplanned_end plan) (frames_asked (asked_of timing plan stays)) s controllers planned (origins_of plan sent)
    (packets_place (asked_of timing plan stays) u)
broadcasts_in_any_order plan timing stays clean states s controllers planned sent held u m below legal keeps queues turns = (
  announcements_in_any_turn plan timing stays states clean s legal.queued_first planned sent held keeps turns u m below controllers queues,
  packets_in_any_turn plan timing stays states clean s legal.queued_first planned sent held keeps turns u m below controllers queues,
)
