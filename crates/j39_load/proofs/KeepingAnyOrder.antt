-- A bus with units that keep no order that keeps to a plan in the plan's own words keeps the premises of its delays.
use Rattle.std.proofs.Common.{◌≡◌, ℕ, ◌<◌, ◌≤◌, Bool, true, false, ◌||◌, List, unwrap_or, Option}
use Rattle.std.proofs.Common.{ap, arith, inl, inr, refl, subst, sym, ◌∙◌}
use Rattle.std.proofs.lemmas.Bool.{cases_Bool, true≢false}
use Rattle.std.proofs.lemmas.Option.{slice_get_cases}
use Rattle.std.specs.Option.{option_map_or}
use Rattle.j39_findings.specs.Findings.{Clean}
use Rattle.j39_findings.specs.Standing.{DecidesWhoStays}
use Rattle.j39_network.specs.declared.plan.Plan.{Plan}
use Rattle.j39_network.specs.declared.plan.flow_plan.FlowPlan.{FlowPlan}
use Rattle.j39_network.specs.declared.plan.group_plan.GroupPlan.{GroupPlan}
use Rattle.j39_network.specs.declared.plan.timing.Timing.{Timing}
use Rattle.j39_network.specs.declared.plan.unit_plan.UnitPlan.{UnitPlan}
use Rattle.j39_load.specs.declared.frames.flow_frames.FlowFrames.{FlowFrames}
use Rattle.j39_load.specs.AnyQueues.{are_of_unit, is_member, is_of_queue_group, leasts_of, with_unplanned}
use Rattle.j39_load.specs.Asked.{asked_of, frames_asked}
use Rattle.j39_load.specs.KeepsPlan.{IsSingleFlow, KeepsQueues, KeepsToPlan, origins_of, source_place}
use Rattle.j39_load.specs.LiveClaims.{unplanned_end}
use Rattle.j39_load.specs.Loads.{any_unit}
use Rattle.j39_load.specs.PlannedFrames.{AreFramesInAnyOrder, AreFramesOfPlan, KeepToQueueGroup, queue_group_of, no_frames, planned_at}
use Rattle.j39_load.specs.SentFrames.{FrameSources, Held, IsFirstFrame, IsFrameOf, IsRequestFrame, IsSessionFrame, IsSingleFrame, Part, Source}
use Rattle.j39_load.specs.SentFrames.{Single, First, InSession, Asking, Announcing, Carrying}
use Rattle.j39_load.proofs.KnownFrames.{IsKnown, TakesAny, any_known, queue_cases}
use Rattle.j39_load.proofs.PlacedFrames.{first_read, read, request_frames_read, session_read}
use Rattle.j39_load.proofs.KeepingPlan.{keeps_premises, of_source}
use Rattle.j39_load.proofs.SharedIdentifiers.{IsGroupFrame, broadcast_made, broadcast_or_part, no_broadcast, no_part, no_request, of_first, of_single, one_asks}
use Rattle.j39_load.proofs.SharedIdentifiers.{one_sender, one_sends}
use Rattle.j39_load.proofs.SharedIdentifiers.{part_made, parts_between, request_made, request_or_broadcast, request_or_part}
use Rattle.j39_timing.specs.AnyOrder.{Controllers, IsLegalInAnyOrder, IsUnordered}
use Rattle.j39_timing.specs.TimedFrames.{Schedule}
use Rattle.j39_timing.specs.Traffic.{IsQueuedAt}

module _ (plan : Plan) (timing : Timing) (stays : UnitPlan → Bool) (states : DecidesWhoStays plan stays) (clean : Clean plan) (s : Schedule)
    (queued_first : (p : ℕ) → p < s.count → s.queued p ≤ s.start p) (planned : ℕ → Bool) (sent : FrameSources) (held : Held)
    (keeps : KeepsToPlan plan timing s planned sent held) (controllers : Controllers) (queues : KeepsQueues plan timing s controllers planned sent) where
  abbrev asks : List (Option FlowFrames)
  asks = frames_asked (asked_of timing plan stays)

  abbrev ends : ℕ
  ends = unplanned_end plan

  -- ---- what is reported of a planned frame

  module _ (p : ℕ) (in_p : p < s.count) (is : planned p ≡ true) where
    one : IsKnown plan timing stays s (sent.source p) (sent.release p) p
    one = of_source plan timing stays states clean s queued_first planned sent held keeps p in_p is

    asked_there : planned_at asks (source_place plan (sent.source p)) ≡ one.frames
    asked_there = ap (λ (o : Option FlowFrames). unwrap_or o no_frames) one.read

    of_unit_stated : IsUnordered controllers p → are_of_unit one.frames (controllers.unit p) ≡ true
    of_unit_stated un =
        let from = queues.sender p one.of_units.sender in_p is one.of_units.sends in
        elim (slice_get_cases plan.units.items one.of_units.sender).1 [
          | inl (unit, below, at, same) ↦ elim (queue_cases unit.queue) [
            | inl first ↦
                absurd (true≢false (sym (queues.order one.of_units.sender unit at first) ∙ (ap controllers.keeps_order (sym from) ∙ un)))
            | inr any ↦
                subst (λ (u : ℕ). are_of_unit one.frames u ≡ true) (sym from)
                (one.of_units.of_sender (any_known plan.units.items one.of_units.sender unit at any))
          ]
          | inr (past, none) ↦ absurd (let below = one.of_units.planned in omega (arith, past, below))
        ]

  -- ---- queue groups: what waits in one work-conserving queue (Davis, Navet, 2012), but of several units

  module _ (around : FlowFrames) (level : ℕ) where
    abbrev member : ℕ → Bool
    member = is_member (leasts_of asks) (with_unplanned timing ends around) level

    abbrev has : ℕ → Bool
    has = (queue_group_of timing ends asks around level).has

    abbrev is_of : FlowFrames → Bool
    is_of x = is_of_queue_group (leasts_of asks) (with_unplanned timing ends around) level x

    -- a unit of the queue group
    abbrev counts : ℕ → Bool
    counts u = option_map_or member (any_unit plan.units.items u) false

    -- at the place of a source stand these frames
    at_single : (f release p : ℕ) (x : IsSingleFrame plan timing s held f release p) → has f ≡ (counts x.flow.sender || false)
    at_single f release p x = ap (λ (o : Option FlowFrames). is_of (unwrap_or o no_frames))
        (read plan timing stays f x.flow x.pace x.group x.its x.paced x.of x.short)

    at_first : (f release p : ℕ) (x : IsFirstFrame plan timing s held f release p) → has (source_place plan (First f)) ≡ (counts x.flow.sender || false)
    at_first f release p x = ap (λ (o : Option FlowFrames). is_of (unwrap_or o no_frames))
        (first_read plan timing stays f x.flow x.pace x.group x.its x.paced x.of x.short x.long)

    at_session : (f : ℕ) (part : Part) (release p : ℕ) (x : IsSessionFrame plan timing s held f part release p)
        → has f ≡ (counts x.flow.sender || counts x.receiver)
    at_session f part release p x = ap (λ (o : Option FlowFrames). is_of (unwrap_or o no_frames))
        (session_read plan timing stays f x.flow x.pace x.group x.its x.paced x.of x.receiver x.long x.to_one)

    at_request : (r release p : ℕ) (x : IsRequestFrame plan s held r release p) → has (source_place plan (Asking r)) ≡ (counts x.asked.sender || false)
    at_request r release p x = ap (λ (o : Option FlowFrames). is_of (unwrap_or o no_frames))
        (request_frames_read plan timing stays r x.asked x.ms x.its x.paced)

    abbrev IsMadeOf : ℕ → ℕ → ℕ → FlowPlan → GroupPlan → Type 0
    IsMadeOf f p t flow group = IsGroupFrame plan timing clean s held t (keeps.held_apart t) f p flow group

    single_made : (f release p t : ℕ) (x : IsSingleFrame plan timing s held f release p) → IsQueuedAt s p t → IsMadeOf f p t x.flow x.group
    single_made f release p t x queued = of_single plan timing clean s held t (keeps.held_apart t) f release p x queued

    first_made : (f release p t : ℕ) (x : IsFirstFrame plan timing s held f release p) → IsQueuedAt s p t → IsMadeOf f p t x.flow x.group
    first_made f release p t x queued = of_first plan timing clean s held t (keeps.held_apart t) f release p x queued

    -- two messages of one frame are of one unit
    of_sender : {a b : Bool} {flow other : FlowPlan} {group second : GroupPlan} (f g p q t : ℕ) → IsMadeOf f p t flow group → IsMadeOf g q t other second
        → s.ident p ≡ s.ident q → a ≡ (counts flow.sender || false) → b ≡ (counts other.sender || false) → a ≡ true → b ≡ true
    of_sender f g p q t x y same at_x at_y is =
        at_y
        ∙ subst (λ (u : ℕ). (counts u || false) ≡ true) (one_sender plan timing clean s held t (keeps.held_apart t) f g p q x y same) (sym at_x ∙ is)

    -- of two frames with one identifier both are of the queue group, or none is
    both_of : (a b : Source) (release other p q t : ℕ) → IsFrameOf plan timing s held sent.broadcasts a release p
        → IsFrameOf plan timing s held sent.broadcasts b other q
        → IsQueuedAt s p t → IsQueuedAt s q t → s.ident p ≡ s.ident q → has (source_place plan a) ≡ true → has (source_place plan b) ≡ true
    both_of (Single f) (Single g) release other p q t x y at_p at_q same is =
        of_sender f g p q t (single_made f release p t x at_p) (single_made g other q t y at_q) same (at_single f release p x) (at_single g other q y) is
    both_of (Single f) (First g) release other p q t x y at_p at_q same is =
        of_sender f g p q t (single_made f release p t x at_p) (first_made g other q t y at_q) same (at_single f release p x) (at_first g other q y) is
    both_of (First f) (Single g) release other p q t x y at_p at_q same is =
        of_sender f g p q t (first_made f release p t x at_p) (single_made g other q t y at_q) same (at_first f release p x) (at_single g other q y) is
    both_of (First f) (First g) release other p q t x y at_p at_q same is =
        of_sender f g p q t (first_made f release p t x at_p) (first_made g other q t y at_q) same (at_first f release p x) (at_first g other q y) is
    both_of (First f) (InSession g part) release other p q t x y at_p at_q same is =
        absurd (no_part plan timing clean s held t (keeps.held_apart t) f p (first_made f release p t x at_p) (s.ident q) y.flow.sender y.receiver
        (part_made plan timing clean s held t (keeps.held_apart t) g part other q y at_q) same)
    both_of (First f) (Asking r) release other p q t x y at_p at_q same is =
        absurd (no_request plan timing clean s held t (keeps.held_apart t) f p (first_made f release p t x at_p) (s.ident q) y.asked.sender y.asked.to
        (request_made plan timing clean s held t (keeps.held_apart t) r other q y at_q) same)
    both_of (First f) (Announcing u m) release other p q t x y at_p at_q same is =
        absurd (no_broadcast plan timing clean s held t (keeps.held_apart t) f p (first_made f release p t x at_p) (s.ident q) 60416 u (inl refl)
        (broadcast_made plan timing clean s held t (keeps.held_apart t) sent.broadcasts 60416 u m other q (inl refl) y at_q) same)
    both_of (First f) (Carrying u m i) release other p q t x y at_p at_q same is =
        absurd (no_broadcast plan timing clean s held t (keeps.held_apart t) f p (first_made f release p t x at_p) (s.ident q) 60160 u (inr refl)
        (broadcast_made plan timing clean s held t (keeps.held_apart t) sent.broadcasts 60160 u m other q (inr refl) y.0 at_q) same)
    both_of (InSession f part) (First g) release other p q t x y at_p at_q same is =
        absurd (no_part plan timing clean s held t (keeps.held_apart t) g q (first_made g other q t y at_q) (s.ident p) x.flow.sender x.receiver
        (part_made plan timing clean s held t (keeps.held_apart t) f part release p x at_p) (sym same))
    both_of (Asking r) (First g) release other p q t x y at_p at_q same is =
        absurd (no_request plan timing clean s held t (keeps.held_apart t) g q (first_made g other q t y at_q) (s.ident p) x.asked.sender x.asked.to
        (request_made plan timing clean s held t (keeps.held_apart t) r release p x at_p) (sym same))
    both_of (Announcing u m) (First g) release other p q t x y at_p at_q same is =
        absurd (no_broadcast plan timing clean s held t (keeps.held_apart t) g q (first_made g other q t y at_q) (s.ident p) 60416 u (inl refl)
        (broadcast_made plan timing clean s held t (keeps.held_apart t) sent.broadcasts 60416 u m release p (inl refl) x at_p) (sym same))
    both_of (Carrying u m i) (First g) release other p q t x y at_p at_q same is =
        absurd (no_broadcast plan timing clean s held t (keeps.held_apart t) g q (first_made g other q t y at_q) (s.ident p) 60160 u (inr refl)
        (broadcast_made plan timing clean s held t (keeps.held_apart t) sent.broadcasts 60160 u m release p (inr refl) x.0 at_p) (sym same))
    both_of (Single f) (InSession g part) release other p q t x y at_p at_q same is =
        absurd (no_part plan timing clean s held t (keeps.held_apart t) f p (single_made f release p t x at_p) (s.ident q) y.flow.sender y.receiver
        (part_made plan timing clean s held t (keeps.held_apart t) g part other q y at_q) same)
    both_of (Single f) (Asking r) release other p q t x y at_p at_q same is =
        absurd (no_request plan timing clean s held t (keeps.held_apart t) f p (single_made f release p t x at_p) (s.ident q) y.asked.sender y.asked.to
        (request_made plan timing clean s held t (keeps.held_apart t) r other q y at_q) same)
    both_of (InSession f part) (Single g) release other p q t x y at_p at_q same is =
        absurd (no_part plan timing clean s held t (keeps.held_apart t) g q (single_made g other q t y at_q) (s.ident p) x.flow.sender x.receiver
        (part_made plan timing clean s held t (keeps.held_apart t) f part release p x at_p) (sym same))
    both_of (InSession f a) (InSession g b) release other p q t x y at_p at_q same is =
        at_session g b other q y
        ∙ parts_between plan clean (held.named t) (held.address t) (keeps.held_apart t) counts (s.ident p)
        (s.ident q) x.flow.sender x.receiver y.flow.sender y.receiver
        (part_made plan timing clean s held t (keeps.held_apart t) f a release p x at_p)
        (part_made plan timing clean s held t (keeps.held_apart t) g b other q y at_q) same (sym (at_session f a release p x) ∙ is)
    both_of (InSession f part) (Asking r) release other p q t x y at_p at_q same is =
        absurd (request_or_part plan clean (held.named t) (held.address t) (keeps.held_apart t) (s.ident q)
        (s.ident p) y.asked.sender x.flow.sender x.receiver y.asked.to
        (request_made plan timing clean s held t (keeps.held_apart t) r other q y at_q)
        (part_made plan timing clean s held t (keeps.held_apart t) f part release p x at_p) (sym same))
    both_of (Asking r) (Single g) release other p q t x y at_p at_q same is =
        absurd (no_request plan timing clean s held t (keeps.held_apart t) g q (single_made g other q t y at_q) (s.ident p) x.asked.sender x.asked.to
        (request_made plan timing clean s held t (keeps.held_apart t) r release p x at_p) (sym same))
    both_of (Asking r) (InSession g part) release other p q t x y at_p at_q same is =
        absurd (request_or_part plan clean (held.named t) (held.address t) (keeps.held_apart t) (s.ident p)
        (s.ident q) x.asked.sender y.flow.sender y.receiver x.asked.to
        (request_made plan timing clean s held t (keeps.held_apart t) r release p x at_p)
        (part_made plan timing clean s held t (keeps.held_apart t) g part other q y at_q) same)
    both_of (Asking r) (Asking k) release other p q t x y at_p at_q same is =
        at_request k other q y
        ∙ subst (λ (u : ℕ). (counts u || false) ≡ true)
        (one_asks plan clean (held.named t) (held.address t) (keeps.held_apart t) (s.ident p) (s.ident q) x.asked.sender y.asked.sender x.asked.to y.asked.to
        (request_made plan timing clean s held t (keeps.held_apart t) r release p x at_p)
        (request_made plan timing clean s held t (keeps.held_apart t) k other q y at_q) same) (sym (at_request r release p x) ∙ is)
    both_of (Single f) (Announcing u m) release other p q t x y at_p at_q same is =
        absurd (no_broadcast plan timing clean s held t (keeps.held_apart t) f p (single_made f release p t x at_p) (s.ident q) 60416 u (inl refl)
        (broadcast_made plan timing clean s held t (keeps.held_apart t) sent.broadcasts 60416 u m other q (inl refl) y at_q) same)
    both_of (InSession f part) (Announcing u m) release other p q t x y at_p at_q same is =
        absurd (broadcast_or_part plan clean (held.named t) (held.address t) (keeps.held_apart t) (s.ident q) (s.ident p) u x.flow.sender x.receiver 60416
        (broadcast_made plan timing clean s held t (keeps.held_apart t) sent.broadcasts 60416 u m other q (inl refl) y at_q)
        (part_made plan timing clean s held t (keeps.held_apart t) f part release p x at_p) (sym same))
    both_of (Asking r) (Announcing u m) release other p q t x y at_p at_q same is =
        absurd (request_or_broadcast plan clean (held.named t) (held.address t) (keeps.held_apart t) (s.ident p) (s.ident q) x.asked.sender u 60416 x.asked.to
        (inl refl)
        (request_made plan timing clean s held t (keeps.held_apart t) r release p x at_p)
        (broadcast_made plan timing clean s held t (keeps.held_apart t) sent.broadcasts 60416 u m other q (inl refl) y at_q) same)
    both_of (Announcing u m) (Single g) release other p q t x y at_p at_q same is =
        absurd (no_broadcast plan timing clean s held t (keeps.held_apart t) g q (single_made g other q t y at_q) (s.ident p) 60416 u (inl refl)
        (broadcast_made plan timing clean s held t (keeps.held_apart t) sent.broadcasts 60416 u m release p (inl refl) x at_p) (sym same))
    both_of (Announcing u m) (InSession g part) release other p q t x y at_p at_q same is =
        absurd (broadcast_or_part plan clean (held.named t) (held.address t) (keeps.held_apart t) (s.ident p) (s.ident q) u y.flow.sender y.receiver 60416
        (broadcast_made plan timing clean s held t (keeps.held_apart t) sent.broadcasts 60416 u m release p (inl refl) x at_p)
        (part_made plan timing clean s held t (keeps.held_apart t) g part other q y at_q) same)
    both_of (Announcing u m) (Asking r) release other p q t x y at_p at_q same is =
        absurd (request_or_broadcast plan clean (held.named t) (held.address t) (keeps.held_apart t) (s.ident q) (s.ident p) y.asked.sender u 60416 y.asked.to
        (inl refl)
        (request_made plan timing clean s held t (keeps.held_apart t) r other q y at_q)
        (broadcast_made plan timing clean s held t (keeps.held_apart t) sent.broadcasts 60416 u m release p (inl refl) x at_p) (sym same))
    both_of (Single f) (Carrying u m i) release other p q t x y at_p at_q same is =
        absurd (no_broadcast plan timing clean s held t (keeps.held_apart t) f p (single_made f release p t x at_p) (s.ident q) 60160 u (inr refl)
        (broadcast_made plan timing clean s held t (keeps.held_apart t) sent.broadcasts 60160 u m other q (inr refl) y.0 at_q) same)
    both_of (InSession f part) (Carrying u m i) release other p q t x y at_p at_q same is =
        absurd (broadcast_or_part plan clean (held.named t) (held.address t) (keeps.held_apart t) (s.ident q) (s.ident p) u x.flow.sender x.receiver 60160
        (broadcast_made plan timing clean s held t (keeps.held_apart t) sent.broadcasts 60160 u m other q (inr refl) y.0 at_q)
        (part_made plan timing clean s held t (keeps.held_apart t) f part release p x at_p) (sym same))
    both_of (Asking r) (Carrying u m i) release other p q t x y at_p at_q same is =
        absurd (request_or_broadcast plan clean (held.named t) (held.address t) (keeps.held_apart t) (s.ident p) (s.ident q) x.asked.sender u 60160 x.asked.to
        (inr refl)
        (request_made plan timing clean s held t (keeps.held_apart t) r release p x at_p)
        (broadcast_made plan timing clean s held t (keeps.held_apart t) sent.broadcasts 60160 u m other q (inr refl) y.0 at_q) same)
    both_of (Carrying u m i) (Single g) release other p q t x y at_p at_q same is =
        absurd (no_broadcast plan timing clean s held t (keeps.held_apart t) g q (single_made g other q t y at_q) (s.ident p) 60160 u (inr refl)
        (broadcast_made plan timing clean s held t (keeps.held_apart t) sent.broadcasts 60160 u m release p (inr refl) x.0 at_p) (sym same))
    both_of (Carrying u m i) (InSession g part) release other p q t x y at_p at_q same is =
        absurd (broadcast_or_part plan clean (held.named t) (held.address t) (keeps.held_apart t) (s.ident p) (s.ident q) u y.flow.sender y.receiver 60160
        (broadcast_made plan timing clean s held t (keeps.held_apart t) sent.broadcasts 60160 u m release p (inr refl) x.0 at_p)
        (part_made plan timing clean s held t (keeps.held_apart t) g part other q y at_q) same)
    both_of (Carrying u m i) (Asking r) release other p q t x y at_p at_q same is =
        absurd (request_or_broadcast plan clean (held.named t) (held.address t) (keeps.held_apart t) (s.ident q) (s.ident p) y.asked.sender u 60160 y.asked.to
        (inr refl)
        (request_made plan timing clean s held t (keeps.held_apart t) r other q y at_q)
        (broadcast_made plan timing clean s held t (keeps.held_apart t) sent.broadcasts 60160 u m release p (inr refl) x.0 at_p) (sym same))
    both_of (Announcing u m) (Announcing v w) release other p q t x y at_p at_q same is =
        subst (λ (z : ℕ). has (source_place plan (Announcing z 0)) ≡ true)
        (one_sends plan clean (held.named t) (held.address t) (keeps.held_apart t) (s.ident p) (s.ident q) u v 60416 60416
        (broadcast_made plan timing clean s held t (keeps.held_apart t) sent.broadcasts 60416 u m release p (inl refl) x at_p)
        (broadcast_made plan timing clean s held t (keeps.held_apart t) sent.broadcasts 60416 v w other q (inl refl) y at_q) same).1 is
    both_of (Announcing u m) (Carrying v w j) release other p q t x y at_p at_q same is =
        absurd (let number = (one_sends plan clean (held.named t) (held.address t) (keeps.held_apart t) (s.ident p) (s.ident q) u v 60416 60160
        (broadcast_made plan timing clean s held t (keeps.held_apart t) sent.broadcasts 60416 u m release p (inl refl) x at_p)
        (broadcast_made plan timing clean s held t (keeps.held_apart t) sent.broadcasts 60160 v w other q (inr refl) y.0 at_q) same).0 in omega (arith, number))
    both_of (Carrying u m i) (Announcing v w) release other p q t x y at_p at_q same is =
        absurd (let number = (one_sends plan clean (held.named t) (held.address t) (keeps.held_apart t) (s.ident p) (s.ident q) u v 60160 60416
        (broadcast_made plan timing clean s held t (keeps.held_apart t) sent.broadcasts 60160 u m release p (inr refl) x.0 at_p)
        (broadcast_made plan timing clean s held t (keeps.held_apart t) sent.broadcasts 60416 v w other q (inl refl) y at_q) same).0 in omega (arith, number))
    both_of (Carrying u m i) (Carrying v w j) release other p q t x y at_p at_q same is =
        subst (λ (z : ℕ). has (source_place plan (Carrying z 0 0)) ≡ true)
        (one_sends plan clean (held.named t) (held.address t) (keeps.held_apart t) (s.ident p) (s.ident q) u v 60160 60160
        (broadcast_made plan timing clean s held t (keeps.held_apart t) sent.broadcasts 60160 u m release p (inr refl) x.0 at_p)
        (broadcast_made plan timing clean s held t (keeps.held_apart t) sent.broadcasts 60160 v w other q (inr refl) y.0 at_q) same).1 is

    -- a unit without order takes part in each message of the queue group
    pub any_of : (p : ℕ) (in_p : p < s.count) (is : planned p ≡ true) → has (source_place plan (sent.source p)) ≡ true → TakesAny plan (sent.source p)
    any_of p in_p is of_it = (one p in_p is).of_units.of_any member (subst (λ (f : FlowFrames). is_of f ≡ true) (asked_there p in_p is) of_it)

    queue_group_kept : KeepToQueueGroup timing ends s planned (origins_of plan sent) (queue_group_of timing ends asks around level)
    queue_group_kept = record {
      identifiers = λ p in_p isnt seen. queues.identifiers p in_p isnt;
      own_identifiers = λ p q t in_p in_q seen is_p of_it at_p at_q same. elim (cases_Bool (planned q)) [
        | inl is_q ↦ (
          is_q,
          both_of (sent.source p) (sent.source q) (sent.release p) (sent.release q) p q t (keeps.frames p in_p is_p)
              (keeps.frames q in_q is_q) at_p at_q same of_it,
        )
        | inr not_q ↦
            let any = any_of p in_p is_p of_it in
            absurd (queues.others_apart p q t any.place any.unit in_p in_q seen is_p not_q any.takes any.at any.any at_p at_q same)
      ];
      few_unplanned = λ p from to in_p is of_it seen waits queue_group.
          let any = any_of p in_p is of_it in
          queues.few_unplanned p from to any.place any.unit in_p is any.takes any.at any.any seen waits
          (λ t behind up. let (q, in_q, is_q, with_it, wait) = queue_group t behind up in (q, in_q, is_q, wait));
    }

  pub keeps_any : (i : ℕ) → AreFramesOfPlan timing asks s planned (origins_of plan sent) i
      → AreFramesInAnyOrder timing ends asks s controllers planned (origins_of plan sent) i
  keeps_any i known = record {
    known = known;
    of_unit = λ p in_p is un.
        subst (λ (f : FlowFrames). are_of_unit f (controllers.unit p) ≡ true) (sym (asked_there p in_p is)) (of_unit_stated p in_p is un);
    to_last = λ p in_p is kept. subst (λ (f : FlowFrames). s.ident p ≤ f.last_ident) (sym (asked_there p in_p is)) (one p in_p is).between.1;
    queue_groups = λ j level goes kept is_level. queue_group_kept (planned_at asks j) level;
  }

pub keeps_in_any_order : (plan : Plan) (timing : Timing) (stays : UnitPlan → Bool) → Clean plan → DecidesWhoStays plan stays
    → (s : Schedule) (controllers : Controllers) (planned : ℕ → Bool) (sent : FrameSources) (held : Held) (i : ℕ) → IsSingleFlow plan i
    → IsLegalInAnyOrder s controllers → KeepsToPlan plan timing s planned sent held → KeepsQueues plan timing s controllers planned sent
    → AreFramesInAnyOrder timing (unplanned_end plan) (frames_asked (asked_of timing plan stays)) s controllers planned (origins_of plan sent) i
keeps_in_any_order plan timing stays clean states s controllers planned sent held i single legal keeps queues =
    keeps_any plan timing stays states clean s legal.queued_first planned sent held keeps controllers queues i
    (keeps_premises plan timing stays states clean s legal.queued_first planned sent held keeps i single)
