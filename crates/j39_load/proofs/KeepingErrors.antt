-- A bus with damaged frames that keeps to a plan in the plan's own words keeps the premises of its delays.
use Rattle.std.proofs.Common.{◌≡◌, ◌≢◌, ℕ, ◌+◌, ◌*◌, ◌/◌, ◌%◌, ◌<◌, ◌≤◌, ◌⊎◌, Bool, true, false, cond, not, ◌&&◌, ◌||◌, List, ◌++◌, length, get_or, map}
use Rattle.std.proofs.Common.{unwrap_or, Option, Some, None, ◌^◌, if◌then◌else◌}
use Rattle.std.proofs.Common.{refl, sym, ap, ◌∙◌, subst, inl, inr, arith}
use Rattle.std.proofs.Math.Nat.{div-add-mod, mod-lt, mul-le-mul_left}
use Rattle.std.proofs.lemmas.Bool.{cases_eq, cases_lt, le-ltb, ne_eqb, true≢false}
use Rattle.std.proofs.lemmas.Option.{slice_get_within}
use Rattle.std.proofs.lemmas.List.{get_or-append-add, length-append, length-map}
use Rattle.j39_id.specs.Ident.{identifier_of}
use Rattle.j39_id.specs.Pgn.{is_pdu2}
use Rattle.j39_findings.specs.Findings.{Clean}
use Rattle.j39_findings.specs.declared.checking.finding.Finding.TheVariants.{FlowToSelf}
use Rattle.j39_network.specs.declared.plan.to.To.{To}
use Rattle.j39_network.specs.declared.plan.to.To.TheVariants.{All as ToAll, One}
use Rattle.j39_network.specs.declared.plan.Plan.{Plan}
use Rattle.j39_network.specs.declared.plan.timing.ErrorRate.{ErrorRate}
use Rattle.j39_network.specs.declared.plan.flow_plan.FlowPlan.{FlowPlan}
use Rattle.j39_network.specs.declared.plan.group_plan.GroupPlan.{GroupPlan}
use Rattle.j39_network.specs.declared.plan.timing.Timing.{Timing}
use Rattle.j39_network.specs.declared.plan.unit_plan.UnitPlan.{UnitPlan}
use Rattle.j39_load.specs.declared.frames.flow_frames.FlowFrames.{FlowFrames}
use Rattle.j39_load.specs.AnyQueues.{keep_order}
use Rattle.j39_load.specs.Asked.{announcements_of_unit, asked_of, frames_asked, frames_of_flow, frames_of_request, packets_of_unit, singles_of_flow}
use Rattle.j39_load.specs.Damage.{damage_frames, damage_stream, first_frames}
use Rattle.j39_load.specs.KeepsErrors.{KeepsErrors, origins_with, planned_with}
use Rattle.j39_load.specs.KeepsPlan.{IsSingleFlow, KeepsToPlan, origins_of, source_place}
use Rattle.j39_load.specs.Loads.{bits_inside, destination_at}
use Rattle.j39_load.specs.FlowLoads.{load_of_flow}
use Rattle.j39_load.specs.PlannedFrames.{AreFramesOfPlan, no_frames, planned_at}
use Rattle.j39_load.specs.SentFrames.{FrameSources, Announcing, Carrying, HasTime, Held, IsBroadcastFrame, IsFrameOf, Part, Single, First, InSession}
use Rattle.j39_load.specs.SentFrames.{Asking, Source, goes_to, part_identifier}
use Rattle.j39_load.specs.SentFrames.{RequestToSend, Packet, ClearToSend, EndAcknowledged}
use Rattle.j39_findings.specs.Standing.{DecidesWhoStays}
use Rattle.j39_load.specs.Twins.{is_same}
use Rattle.j39_load.proofs.Attempts.{a_window_apart}
use Rattle.j39_load.proofs.DamagedPlaces.{IsDamage, IsFrame, frame_at, own_with, place, shift, width}
use Rattle.j39_load.proofs.DamagedPlaces as places
use Rattle.j39_load.proofs.KeepingBroadcasts.{IsCopy, as_wanted}
use Rattle.j39_load.proofs.KnownFrames.{IsBelowGreatest, inside_asked}
use Rattle.j39_load.proofs.PlacedFrames.{traffic}
use Rattle.j39_load.proofs.KeepingPlan.{at_its_place, keeps_stream, longest_of, of_flow, of_source, of_streams, own_identifier, stated_stream}
use Rattle.j39_load.proofs.SharedIdentifiers.{IsGroupFrame, of_first, of_single}
use Rattle.j39_timing.specs.Errors.{Damaged, IsBusWithErrors, IsLegalWithErrors, with_errors}
use Rattle.j39_timing.proofs.ErrorFrames.{frame_at as frame_there}
use Rattle.j39_timing.specs.FrameStreams.{Origins, AreOfStreams, KeepsStream}
use Rattle.j39_timing.specs.TimedFrames.{Schedule}
use Rattle.j39_timing.specs.Waits.{IsSpaced}
use Rattle.j39_timing.specs.declared.stream.Stream.{Stream}
use Rattle.j39_timing.specs.Traffic.{IsQueuedAt, IsStreamInTime, may_share}

-- of two places with one turn the later one is a window on at least
next_turn : (e f n : ℕ) → e % n ≡ f % n → e < f → e + n ≤ f
next_turn e f n same less =
    let first : n * (e / n) + e % n ≡ e = div-add-mod e n in
    let second : n * (f / n) + f % n ≡ f = div-add-mod f n in
    elim (cases_lt (e / n) (f / n)) [
      | inl above ↦
          let most : n * (e / n + 1) ≤ n * (f / n) = mul-le-mul_left n (omega (arith, above)) in
          omega (arith, first, second, same, most)
      | inr below ↦ absurd (let most : n * (f / n) ≤ n * (e / n) = mul-le-mul_left n below in omega (arith, first, second, same, most, less))
    ]

-- the identifier 0 is one from 0 to 0
zero_parts : (priority pgn destination source : ℕ) → identifier_of priority pgn destination source ≡ 0 → (destination ≡ 0) × (source ≡ 0)
zero_parts priority pgn destination source none = go (is_pdu2 pgn) refl none
  where
    go : (b : Bool) → is_pdu2 pgn ≡ b → priority * 2 ^ 26 + pgn * 2 ^ 8 + (if b then 0 else destination * 2 ^ 8) + source ≡ 0
        → (destination ≡ 0) × (source ≡ 0)
    go true is zero =
        let number : pgn ≡ 0 = omega (arith, zero) in
        absurd (true≢false (sym is ∙ ap is_pdu2 number))
    go false is zero = (omega (arith, zero), omega (arith, zero))

module _ (plan : Plan) (timing : Timing) (stays : UnitPlan → Bool) (states : DecidesWhoStays plan stays) (clean : Clean plan) (s : Schedule) (d : Damaged)
    (bus : IsBusWithErrors s d) (planned : ℕ → Bool) (sent : FrameSources) (held : Held) (keeps : KeepsToPlan plan timing s planned sent held)
    (rate : ErrorRate) (errors : KeepsErrors timing rate s d planned sent) where
  abbrev pub asks : List (Option FlowFrames)
  asks = frames_asked (asked_of timing plan stays)

  abbrev pub streams : List (Option FlowFrames)
  streams = asks ++ damage_frames timing

  abbrev pub w : Schedule
  w = with_errors s d

  abbrev pub of : Origins
  of = origins_with plan s d rate (length asks) sent

  abbrev pub is_planned : ℕ → Bool
  is_planned = planned_with s planned

  -- a frame as it was, or an attempt or the error frame behind it
  abbrev pub IsFrameOfPlan : ℕ → Type 0
  IsFrameOfPlan p = IsFrame plan s d planned sent rate (length asks) p

  abbrev pub IsDamageOf : ℕ → Type 0
  IsDamageOf p = IsDamage plan s d planned sent rate (length asks) p

  pub longest_with : (p : ℕ) → p < s.count → s.bits p ≤ 160
  longest_with = longest_of plan timing stays states clean s bus.queued_first planned sent held keeps

  pub kinds : (p : ℕ) → p < w.count → IsFrameOfPlan p ⊎ IsDamageOf p
  kinds p below = places.kinds plan s d planned sent rate (length asks) bus longest_with p below

  -- ---- the streams of damage

  damage_read : (error : Bool) → planned_at streams (length asks + shift error) ≡ first_frames (damage_stream timing rate (width error))
  damage_read error = ap (λ (o : Option FlowFrames). unwrap_or o no_frames) (get_or-append-add asks (damage_frames timing) (shift error) None ∙ by error)
    where
      by : (b : Bool) → get_or (damage_frames timing) (shift b) None ≡ Some (first_frames (damage_stream timing rate (width b)))
      by true = rw (errors.stated) refl
      by false = rw (errors.stated) refl

  two_behind : length streams ≡ length asks + 2
  two_behind = length-append asks (damage_frames timing) ∙ ap (λ (n : ℕ). length asks + n) two
    where
      two : length (damage_frames timing) ≡ 2
      two = rw (errors.stated) refl

  source_inside : (p : ℕ) → p < s.count → planned p ≡ true → source_place plan (sent.source p) < length asks
  source_inside p in_p is = inside_asked plan timing stays s (sent.source p) (sent.release p) p
      (of_source plan timing stays states clean s bus.queued_first planned sent held keeps p in_p is)

  frame_keeps : (p : ℕ) → IsFrameOfPlan p → planned p ≡ true → KeepsStream w (length streams) (λ j. (planned_at streams j).stream) of p
  frame_keeps p at is =
      let known = keeps_stream plan timing stays states clean s bus.queued_first planned sent held keeps p at.frame.below is in
      let stream = ap (λ (j : ℕ). (planned_at streams j).stream) at.source in
      let source = at.source in
      let bits = at.frame.bits in
      let queued = at.frame.queued in
      let turn = at.turn in
      let since = at.since in
      let inside = known.known in
      let few = known.bits_at_most in
      let turns = known.turns in
      let first = known.release_first in
      let late = known.jitter_at_most in
      let its_bits = ap (λ (j : ℕ). (planned_at streams j).stream.bits) at.source in
      let its_frames = ap (λ (j : ℕ). (planned_at streams j).stream.frames) at.source in
      let its_jitter = ap (λ (j : ℕ). (planned_at streams j).stream.jitter) at.source in
      record {
        known = omega (arith, source, inside);
        bits_at_most = omega (arith, bits, few, its_bits);
        turns = omega (arith, turn, turns, its_frames);
        release_first = omega (arith, since, queued, first);
        jitter_at_most = omega (arith, since, queued, late, its_jitter);
      }

  damage_keeps : (p : ℕ) → IsDamageOf p → KeepsStream w (length streams) (λ j. (planned_at streams j).stream) of p
  damage_keeps p at =
      let here : planned_at streams (of.source p) ≡ first_frames (damage_stream timing rate (width at.error)) =
      ap (planned_at streams) at.source ∙ damage_read at.error in
      let bits = at.bits in
      let queued = at.queued in
      let since = at.since in
      let turn = at.turn in
      let some = rate.count_positive in
      let turns : at.attempt % rate.count < rate.count = mod-lt at.attempt (omega (arith, some)) in
      record {
        known = let source = at.source in let size = two_behind in let few = one_or_two at.error in omega (arith, source, size, few);
        bits_at_most = subst (λ (f : FlowFrames). w.bits p ≤ f.stream.bits) (sym here) bits;
        turns = subst (λ (f : FlowFrames). of.turn p < f.stream.frames) (sym here) (omega (arith, turn, turns));
        release_first = omega (arith, since, queued);
        jitter_at_most = subst (λ (f : FlowFrames). w.queued p ≤ of.since p + f.stream.jitter) (sym here) (omega (arith, since, queued));
      }
    where
      one_or_two : (b : Bool) → shift b < 2
      one_or_two true = omega arith
      one_or_two false = omega arith

  -- ---- releases apart

  far : (e f : ℕ) → f < d.count → e < f → e % rate.count ≡ f % rate.count → d.begin e + bits_inside timing rate.every ≤ d.begin f
  far e f below less same =
      let next = next_turn e f rate.count same less in
      let window = a_window_apart timing rate.every rate.count d errors.in_order errors.seldom e (omega (arith, next, below)) in
      let later = errors.in_order (e + rate.count) f next below in
      omega (arith, window, later)

  same_shift : (a b : Bool) → shift a ≡ shift b → a ≡ b
  same_shift true true same = refl
  same_shift false false same = refl
  same_shift true false same = absurd (omega (arith, same))
  same_shift false true same = absurd (omega (arith, same))

  period : ℕ → ℕ
  period p = (planned_at streams (of.source p)).stream.period

  damage_period : (p : ℕ) → IsDamageOf p → period p ≡ bits_inside timing rate.every
  unfolding period
  damage_period p at = ap (λ (f : FlowFrames). f.stream.period) (ap (planned_at streams) at.source ∙ damage_read at.error)

  AreApart : ℕ → ℕ → Type 0
  AreApart p q = (of.since p + period p ≤ of.since q) ⊎ (of.since q + period p ≤ of.since p)

  damage_apart : (p q : ℕ) → IsDamageOf p → IsDamageOf q → p ≢ q → of.source p ≡ of.source q → of.turn p ≡ of.turn q → AreApart p q
  unfolding AreApart
  damage_apart p q at_p at_q other source turn =
      let shifts : shift at_p.error ≡ shift at_q.error =
      let one = at_p.source in
      let two = at_q.source in
      omega (arith, one, two, source) in
      let kind = same_shift at_p.error at_q.error shifts in
      let turns : at_p.attempt % rate.count ≡ at_q.attempt % rate.count = sym at_p.turn ∙ (turn ∙ at_q.turn) in
      let since_p = at_p.since in
      let since_q = at_q.since in
      let window = damage_period p at_p in
      elim (cases_eq at_p.attempt at_q.attempt) [
        | inl same ↦ absurd (other (at_p.is ∙ (ap (λ (b : Bool). place s d b at_p.attempt) kind ∙ (ap (place s d at_q.error) same ∙ sym at_q.is))))
        | inr differ ↦ elim (cases_lt at_p.attempt at_q.attempt) [
          | inl less ↦ inl (let behind = far at_p.attempt at_q.attempt at_q.below less turns in omega (arith, behind, since_p, since_q, window))
          | inr more ↦
              inr (let behind = far at_q.attempt at_p.attempt at_p.below (omega (arith, more, differ)) (sym turns) in
              omega (arith, behind, since_p, since_q, window))
        ]
      ]

  frames_apart : (p q : ℕ) → IsFrameOfPlan p → IsFrameOfPlan q → p ≢ q → planned p ≡ true → planned q ≡ true → of.source p ≡ of.source q
      → of.turn p ≡ of.turn q → IsSpaced (planned_at streams (of.source p)).stream → AreApart p q
  unfolding AreApart period
  frames_apart p q at_p at_q other is_p is_q source turn paced =
      let since_p = at_p.since in
      let since_q = at_q.since in
      let its = ap (λ (j : ℕ). (planned_at streams j).stream.period) at_p.source in
      elim ((of_streams plan timing stays states clean s bus.queued_first planned sent held keeps).spaced p q at_p.frame.below at_q.frame.below other is_p is_q
      (sym at_p.source ∙ (source ∙ at_q.source)) (sym at_p.turn ∙ (turn ∙ at_q.turn))
      (subst (λ (j : ℕ). IsSpaced (planned_at streams j).stream) at_p.source paced)) [
        | inl before ↦ inl (omega (arith, before, since_p, since_q, its))
        | inr after ↦ inr (omega (arith, after, since_p, since_q, its))
      ]

  apart_sources : (p q : ℕ) → IsFrameOfPlan p → planned p ≡ true → IsDamageOf q → of.source p ≡ of.source q → ⊥
  apart_sources p q at_p is at_q same =
      let one = at_p.source in
      let two = at_q.source in
      let below = source_inside p at_p.frame.below is in
      omega (arith, one, two, below, same)

  streams_with : AreOfStreams w (λ p. is_planned p ≡ true) (length streams) (λ j. (planned_at streams j).stream) of
  unfolding AreApart period
  streams_with = record {
    keeps = λ p in_p is. elim (kinds p in_p) [
      | inl at ↦ frame_keeps p at (sym at.plans ∙ is)
      | inr at ↦ damage_keeps p at
    ];
    spaced = λ p q in_p in_q other is_p is_q source turn paced. elim (kinds p in_p) [
      | inl at_p ↦ elim (kinds q in_q) [
        | inl at_q ↦ frames_apart p q at_p at_q other (sym at_p.plans ∙ is_p) (sym at_q.plans ∙ is_q) source turn paced
        | inr at_q ↦ absurd (apart_sources p q at_p (sym at_p.plans ∙ is_p) at_q source)
      ]
      | inr at_p ↦ elim (kinds q in_q) [
        | inl at_q ↦ absurd (apart_sources q p at_q (sym at_q.plans ∙ is_q) at_p (sym source))
        | inr at_q ↦ damage_apart p q at_p at_q other source turn
      ]
    ];
  }

  -- ---- identifiers

  -- no unit sends to itself, so no frame has the identifier 0
  group_above_zero : {flow : FlowPlan} {group : GroupPlan} (f p t : ℕ) → IsGroupFrame plan timing clean s held t (keeps.held_apart t) f p flow group
      → s.ident p ≡ 0 → ⊥
  group_above_zero {flow} {group} f p t one none =
      let (there, here) = zero_parts group.priority group.pgn (destination_at (held.address t) flow.to) (held.address t flow.sender)
      (sym one.is ∙ none) in
      to_itself flow.to refl there here
    where
      to_itself : (to : To) → flow.to ≡ to → destination_at (held.address t) to ≡ 0 → held.address t flow.sender ≡ 0 → ⊥
      to_itself ToAll is there here = omega (arith, there)
      to_itself (One v) is there here = elim (cases_eq v flow.sender) [
        | inl same ↦ clean (FlowToSelf f) (record { value = flow; value_is = one.sends.its; meets = is ∙ ap One same })
        | inr other ↦ (keeps.held_apart t).apart v flow.sender other (one.sends.receiver v is) one.sends.sender (there ∙ sym here)
      ]

  part_above_zero : (part : Part) (from to : ℕ) → 0 < part_identifier timing part from to
  part_above_zero RequestToSend from to = omega arith
  part_above_zero (Packet k) from to = omega arith
  part_above_zero (ClearToSend k) from to = omega arith
  part_above_zero EndAcknowledged from to = omega arith

  broadcast_above_zero : (number u m release p : ℕ) → s.queued p ≤ s.start p → IsBroadcastFrame timing s held sent.broadcasts number u m release p
      → 0 < number → is_pdu2 number ≡ false → 0 < s.ident p
  broadcast_above_zero number u m release p ready one some pdu1 =
      let is = one.identifier (s.queued p) (omega arith, ready) in
      let parts : s.ident p ≡ timing.transport_priority * 2 ^ 26 + number * 2 ^ 8 + 255 * 2 ^ 8 + held.address (s.queued p) u =
      is ∙ ap (λ (b : Bool). timing.transport_priority * 2 ^ 26 + number * 2 ^ 8 + (if b then 0 else 255 * 2 ^ 8) + held.address (s.queued p) u) pdu1 in
      omega (arith, parts, some)

  above_zero_of : (source : Source) (release p : ℕ) → s.queued p ≤ s.start p → IsFrameOf plan timing s held sent.broadcasts source release p → 0 < s.ident p
  above_zero_of (Single f) release p ready one = elim (cases_lt 0 (s.ident p)) [
    | inl some ↦ some
    | inr none ↦ absurd (group_above_zero f p (s.queued p)
        (of_single plan timing clean s held (s.queued p) (keeps.held_apart (s.queued p)) f release p one (omega arith, ready)) (omega (arith, none)))
  ]
  above_zero_of (First f) release p ready one = elim (cases_lt 0 (s.ident p)) [
    | inl some ↦ some
    | inr none ↦ absurd (group_above_zero f p (s.queued p)
        (of_first plan timing clean s held (s.queued p) (keeps.held_apart (s.queued p)) f release p one (omega arith, ready)) (omega (arith, none)))
  ]
  above_zero_of (InSession f part) release p ready one =
      let is = one.identifier (s.queued p) (omega arith, ready) in
      let some = part_above_zero part (held.address (s.queued p) one.flow.sender) (held.address (s.queued p) one.receiver) in
      omega (arith, is, some)
  above_zero_of (Asking r) release p ready one =
      let is : s.ident p ≡ 6 * 2 ^ 26 + 59904 * 2 ^ 8 + goes_to (held.address (s.queued p)) one.asked.to * 2 ^ 8 + held.address (s.queued p) one.asked.sender =
      one.identifier (s.queued p) (omega arith, ready) in
      omega (arith, is)
  above_zero_of (Announcing u m) release p ready one = broadcast_above_zero 60416 u m release p ready one (omega arith) refl
  above_zero_of (Carrying u m k) release p ready one = broadcast_above_zero 60160 u m release p ready one.0 (omega arith) refl

  pub above_zero : (p : ℕ) → p < s.count → planned p ≡ true → 0 < s.ident p
  above_zero p in_p is = above_zero_of (sent.source p) (sent.release p) p (bus.queued_first p in_p) (keeps.frames p in_p is)

  not_shared : (i : ℕ) → i < length asks → (error : Bool) → may_share (traffic plan timing stays) i (length asks + shift error) ≡ false
  not_shared i below error = rw (ne_eqb (length asks + shift error) i (λ same. omega (arith, same, below)), damage_read error)
      (go (planned_at streams i).twin_ident)
    where
      go : (n : Option ℕ) → (is_same n None && (true || not (keep_order (planned_at streams i)))) ≡ false
      go None = refl
      go (Some m) = refl

  module _ (i : ℕ) (flow : i < length asks) (single : IsSingleFlow plan i) where
    damage_never : (p : ℕ) → IsDamageOf p → of.source p ≡ i → ⊥
    damage_never p at same = let source = at.source in omega (arith, source, same, flow)

    shared : (p q t : ℕ) → p < w.count → q < w.count → t < w.now → is_planned p ≡ true → may_share (traffic plan timing stays) i (of.source p) ≡ true
        → IsQueuedAt w p t → IsQueuedAt w q t → w.ident p ≡ w.ident q
        → (is_planned q ≡ true) × (may_share (traffic plan timing stays) i (of.source q) ≡ true)
    shared = own_with plan s d planned sent rate (length asks) (may_share (traffic plan timing stays) i)
        (λ p damage shares. true≢false (sym shares ∙ (ap (may_share (traffic plan timing stays) i) damage.source ∙ not_shared i flow damage.error))) above_zero
        (own_identifier plan timing stays states clean s bus.queued_first planned sent held keeps i single) bus longest_with

    -- a planned frame lies at its place, at or above the least identifier that is reported there
    least_with : (p : ℕ) (at : IsFrameOfPlan p) → planned p ≡ true → (planned_at streams (of.source p)).least_ident ≤ w.ident p
    least_with p at is =
        let low = (of_source plan timing stays states clean s bus.queued_first planned sent held keeps p at.frame.below is).between.0 in
        let its = ap
        (planned_at streams) at.source ∙ at_its_place plan timing stays states clean s bus.queued_first planned sent held keeps p at.frame.below is in
        let least = ap (λ (f : FlowFrames). f.least_ident) its in
        let ident = at.frame.ident in
        omega (arith, low, least, ident)

    -- and a single frame at or below the greatest
    its_source : (p : ℕ) (at : IsFrameOfPlan p) → planned p ≡ true → of.source p ≡ i → sent.source p ≡ Single i
    its_source p at is place =
        of_flow plan timing stays states clean s bus.queued_first planned sent held keeps i single p at.frame.below is (sym at.source ∙ place)

    greatest_with : (p : ℕ) (at : IsFrameOfPlan p) → planned p ≡ true → of.source p ≡ i → w.ident p ≤ (planned_at streams (of.source p)).greatest_ident
    greatest_with p at is place =
        let known = of_source plan timing stays states clean s bus.queued_first planned sent held keeps p at.frame.below is in
        let high : s.ident p ≤ known.frames.greatest_ident =
        subst (λ (x : Source). IsBelowGreatest x (s.ident p) known.frames.greatest_ident) (its_source p at is place) known.greatest in
        let its = ap
        (planned_at streams) at.source ∙ at_its_place plan timing stays states clean s bus.queued_first planned sent held keeps p at.frame.below is in
        let greatest = ap (λ (f : FlowFrames). f.greatest_ident) its in
        let ident = at.frame.ident in
        omega (arith, high, greatest, ident)

    -- what isn't of damage is a frame as it was
    copies : (p : ℕ) → p < w.count → is_planned p ≡ true → (planned_at streams (of.source p)).stream.wanted ≡ None ⊎ IsCopy plan s planned sent w of p
    copies p in_p is = elim (kinds p in_p) [
      | inl at ↦ inr (record { below = at.frame.below; is = sym at.plans ∙ is; place = at.source; since = at.since; queued = at.frame.queued })
      | inr at ↦ inl (ap (λ (f : FlowFrames). f.stream.wanted) (ap (planned_at streams) at.source ∙ damage_read at.error))
    ]

    pub keeps_with_errors : AreFramesOfPlan timing asks w is_planned of i
    keeps_with_errors = record {
      longest_at_most = λ p in_p. elim (kinds p in_p) [
        | inl at ↦ let bits = at.frame.bits in let few = longest_with p at.frame.below in omega (arith, bits, few)
        | inr at ↦ let bits = at.bits in let few = narrow at.error in omega (arith, bits, few)
      ];
      of_streams = streams_with;
      as_wanted = as_wanted plan timing stays s planned sent held keeps.frames keeps.broadcasts keeps.answers w is_planned of copies
          (stated_stream plan timing stays states clean s bus.queued_first planned sent held keeps);
      from_least = λ p in_p is. elim (kinds p in_p) [
        | inl at ↦ least_with p at (sym at.plans ∙ is)
        | inr at ↦ let none = ap (λ (f : FlowFrames). f.least_ident) (ap (planned_at streams) at.source ∙ damage_read at.error) in omega (arith, none)
      ];
      to_greatest = λ p in_p is source. elim (kinds p in_p) [
        | inl at ↦ subst (λ (j : ℕ). w.ident p ≤ (planned_at streams j).greatest_ident) source (greatest_with p at (sym at.plans ∙ is) source)
        | inr at ↦ absurd (damage_never p at source)
      ];
      own_identifier = shared;
      urgency_of_others = λ p in_p other. elim (kinds p in_p) [
        | inl at ↦ let ident = at.frame.ident in let low = keeps.others_priority p at.frame.below (sym at.plans ∙ other) in omega (arith, ident, low)
        | inr at ↦ absurd (true≢false (sym (ap (λ (b : Bool). cond b (planned p) true) (le-ltb p s.count at.behind)) ∙ other))
      ];
      few_others = λ p from to in_p is source seen waits wait. elim (kinds p in_p) [
        | inl at ↦ errors.few_others p from to at.frame.below (sym at.plans ∙ is)
            (subst HasTime (sym (its_source p at (sym at.plans ∙ is) source)) tt) seen waits wait
        | inr at ↦ absurd (damage_never p at source)
      ];
    }
      where
        narrow : (b : Bool) → width b ≤ 160
        narrow true = omega arith
        narrow false = omega arith

  -- what is in time among all is so among the frames
  pub frames_in_time : (i : ℕ) (stream : Stream) (wait : ℕ) → (i < length asks → IsStreamInTime w is_planned of i stream wait)
      → IsStreamInTime s planned (origins_of plan sent) i stream wait
  frames_in_time i stream wait stated p in_p is source seen =
      let at = frame_at plan s d planned sent rate (length asks) p (frame_there s d p in_p) in
      let flow : i < length asks = subst (λ (j : ℕ). j < length asks) source (source_inside p in_p is) in
      let since = at.since in
      let start = at.frame.start in
      let queued = at.frame.queued in
      let bits = at.frame.bits in
      let (begun, ended) = stated flow p (omega (arith, in_p)) (at.plans ∙ is) (at.source ∙ source) (omega (arith, since, seen)) in
      (omega (arith, begun, start, queued), omega (arith, ended, start, bits, since))

-- the flows stand at the first places
pub keeps_damaged : (plan : Plan) (timing : Timing) (stays : UnitPlan → Bool) → Clean plan → DecidesWhoStays plan stays
    → (s : Schedule) (d : Damaged) (planned : ℕ → Bool) (sent : FrameSources) (held : Held) (rate : ErrorRate) (i : ℕ) → IsLegalWithErrors s d
    → KeepsToPlan plan timing s planned sent held → KeepsErrors timing rate s d planned sent → IsSingleFlow plan i
    → AreFramesOfPlan timing (frames_asked (asked_of timing plan stays)) (with_errors s d) (planned_with s planned)
    (origins_with plan s d rate (length (frames_asked (asked_of timing plan stays))) sent) i
keeps_damaged plan timing stays clean states s d planned sent held rate i legal keeps errors single =
    keeps_with_errors plan timing stays states clean s d legal.bus planned sent held keeps rate errors i
    (let asked = asked_of timing plan stays in
    let flows = length-map asked.flows frames_of_flow in
    let loads = length-map plan.flows.items (load_of_flow timing plan stays) in
    let first = length-append (map frames_of_flow asked.flows) (map singles_of_flow asked.flows
    ++ (map packets_of_unit asked.units ++ (map announcements_of_unit asked.units ++ map frames_of_request asked.requests))) in
    let below = slice_get_within plan.flows.items i single.flow single.its in
    omega (arith, below, flows, loads, first)) single
