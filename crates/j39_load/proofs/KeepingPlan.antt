-- A bus that keeps to a plan in the plan's own words keeps the premises of its delays.
use Rattle.std.proofs.Common.{◌≡◌, ◌≢◌, ℕ, ◌+◌, ◌<◌, ◌≤◌, ◌⊎◌, Bool, true, eqb, length, get_or, None, Option, Some, ◌*◌}
use Rattle.std.proofs.Common.{refl, sym, ap, ◌∙◌, subst, inl, inr, arith}
use Rattle.std.proofs.Math.Nat.{mul-le-mul_right}
use Rattle.std.proofs.lemmas.Bool.{cases_Bool, cases_eq, cases_lt, eq-eqb, eqb-true, or_cases, or_left, or_right}
use Rattle.std.proofs.lemmas.Option.{same_Some, slice_get_within}
use Rattle.std.specs.List.{slice_get}
use Rattle.j39_findings.specs.Findings.{Clean}
use Rattle.j39_findings.specs.Standing.{DecidesWhoStays}
use Rattle.j39_network.specs.declared.plan.Plan.{Plan}
use Rattle.j39_network.specs.declared.plan.flow_plan.FlowPlan.{FlowPlan}
use Rattle.j39_network.specs.declared.plan.group_plan.GroupPlan.{GroupPlan}
use Rattle.j39_network.specs.declared.plan.timing.Timing.{Timing}
use Rattle.j39_network.specs.declared.plan.unit_plan.UnitPlan.{UnitPlan}
use Rattle.j39_signal.specs.declared.selector.Selector.{Selector}
use Rattle.j39_load.specs.declared.frames.flow_frames.FlowFrames.{FlowFrames}
use Rattle.j39_load.specs.Asked.{asked_of, frames_asked}
use Rattle.j39_load.specs.Broadcasts.{broadcasts_by, least_packets}
use Rattle.j39_load.specs.Loads.{bits_at_least}
use Rattle.j39_load.specs.KeepsPlan.{source_turn, IsSingleFlow, KeepsToPlan, origins_of, source_place, units_stated}
use Rattle.j39_load.specs.PlannedFrames.{AreFramesOfPlan, planned_at}
use Rattle.j39_load.specs.SentFrames.{FrameSources, HasOwnIdentifier, HasTime, Held, IsFirstFrame, IsFrameOf, IsSessionFrame, IsSingleFrame, Part, Source}
use Rattle.j39_load.specs.SentFrames.{Single, First, InSession, Asking, Announcing, Carrying}
use Rattle.j39_load.specs.Twins.{are_twins}
use Rattle.j39_load.proofs.KeepingBroadcasts.{as_wanted as as_wanted_of}
use Rattle.j39_load.proofs.KeepingFrames.{known}
use Rattle.j39_load.proofs.KnownFrames.{IsBelowGreatest, IsKnown, IsPaced, IsPacedBy, here, inside, short}
use Rattle.j39_load.proofs.KeepingSources.{HasPace, of_announcements, of_packets, one_source}
use Rattle.j39_load.proofs.PlacedFrames.{all, announcing_read, asked, carrying_read, fewest, first_read, in_request, in_session, own, read, request_frames_read}
use Rattle.j39_load.proofs.PlacedFrames.{session_read, traffic, unit_asks}
use Rattle.j39_load.proofs.Milliseconds.{behind_bits, gaps_bits}
use Rattle.j39_load.proofs.SharedIdentifiers.{AreAlike, IsGroupFrame, broadcast_made, firsts_alike, never_twin, no_broadcast, no_part, no_request, of_first}
use Rattle.j39_load.proofs.SharedIdentifiers.{of_single}
use Rattle.j39_load.proofs.SharedIdentifiers.{one_or_alike, own_twin, part_made, request_made, same_twin, single_or_first}
use Rattle.j39_load.proofs.StreamsBefore.{with_damage}
use Rattle.j39_timing.specs.FrameStreams.{AreOfStreams, KeepsStream}
use Rattle.j39_timing.specs.TimedFrames.{Schedule, IsLegal}
use Rattle.j39_timing.specs.declared.stream.Stream.{Stream}
use Rattle.j39_timing.specs.Traffic.{AreAsWanted, IsQueuedAt, may_share}
use Rattle.j39_timing.specs.Waits.{IsSpaced}

module _ (plan : Plan) (timing : Timing) (stays : UnitPlan → Bool) (states : DecidesWhoStays plan stays) (clean : Clean plan) (s : Schedule)
    (queued_first : (p : ℕ) → p < s.count → s.queued p ≤ s.start p) (planned : ℕ → Bool) (sent : FrameSources) (held : Held)
    (keeps : KeepsToPlan plan timing s planned sent held) where
  -- ---- a planned frame

  module _ (p : ℕ) (in_p : p < s.count) (is : planned p ≡ true) where
    pub of_source : IsKnown plan timing stays s (sent.source p) (sent.release p) p
    of_source =
        known plan timing stays states s held keeps.held_by_plan keeps.held_apart sent.broadcasts keeps.broadcasts.messages (sent.source p) (sent.release p) p
        (queued_first p in_p)
        (keeps.frames p in_p is)

    pub at_its_place : planned_at (all plan timing stays) (source_place plan (sent.source p)) ≡ of_source.frames
    at_its_place = here plan timing stays s (sent.source p) (sent.release p) p of_source

    pub keeps_stream : KeepsStream s (traffic plan timing stays).count (traffic plan timing stays).stream (origins_of plan sent) p
    keeps_stream = record {
      known = inside plan timing stays s (sent.source p) (sent.release p) p of_source;
      bits_at_most = subst (λ (f : FlowFrames). s.bits p ≤ f.stream.bits) (sym at_its_place) of_source.bits_at_most;
      turns = subst (λ (f : FlowFrames). (origins_of plan sent).turn p < f.stream.frames) (sym at_its_place) of_source.turns;
      release_first = of_source.release_first;
      jitter_at_most = subst (λ (f : FlowFrames). s.queued p ≤ sent.release p + f.stream.jitter) (sym at_its_place) of_source.jitter_at_most;
    }

  -- no frame is longer, whether planned or not
  pub longest_of : (p : ℕ) → p < s.count → s.bits p ≤ 160
  longest_of p in_p = elim (cases_Bool (planned p)) [
    | inl is ↦ short plan timing stays s (sent.source p) (sent.release p) p (of_source p in_p is)
    | inr other ↦ keeps.others_length p in_p other
  ]

  -- ---- streams

  -- of one source, but of long messages to all, the releases are a period apart
  by_pace : (p q : ℕ) → p < s.count → q < s.count → p ≢ q → planned p ≡ true → planned q ≡ true → sent.source p ≡ sent.source q → (stream : Stream)
      → IsPacedBy plan timing stays (sent.source p) stream → IsSpaced stream
      → (sent.release p + stream.period ≤ sent.release q) ⊎ (sent.release q + stream.period ≤ sent.release p)
  by_pace p q in_p in_q other is_p is_q one stream stated spaced =
      let period = stated.period in
      elim (keeps.apart p q stated.ms in_p in_q other is_p is_q one (stated.every spaced)) [
        | inl before ↦ inl (let bits = behind_bits timing stated.ms (sent.release p) (sent.release q) before in omega (arith, bits, period))
        | inr after ↦ inr (let bits = behind_bits timing stated.ms (sent.release q) (sent.release p) after in omega (arith, bits, period))
      ]

  module _ (p q : ℕ) (in_p : p < s.count) (in_q : q < s.count) (other : p ≢ q) (is_p : planned p ≡ true) (is_q : planned q ≡ true) where
    frame_p : IsFrameOf plan timing s held sent.broadcasts (sent.source p) (sent.release p) p
    frame_p = keeps.frames p in_p is_p

    frame_q : IsFrameOf plan timing s held sent.broadcasts (sent.source q) (sent.release q) q
    frame_q = keeps.frames q in_q is_q

    -- announcements of a unit
    announced_apart : (u m n : ℕ) → sent.source p ≡ Announcing u m → sent.source q ≡ Announcing u n → (stream : Stream)
        → IsPaced plan timing stays (Announcing u m) stream → (sent.release p + stream.period ≤ sent.release q)
        ⊎ (sent.release q + stream.period ≤ sent.release p)
    announced_apart u m n first second stream paced =
        let one = subst (λ (x : Source). IsFrameOf plan timing s held sent.broadcasts x (sent.release p) p) first frame_p in
        let two = subst (λ (x : Source). IsFrameOf plan timing s held sent.broadcasts x (sent.release q) q) second frame_q in
        let period = ap (λ (x : Stream). x.period) paced in
        let at_p = keeps.broadcasts.announced p u m in_p is_p first in
        let at_q = keeps.broadcasts.announced q u n in_q is_q second in
        let release_p = one.at_once in
        let release_q = two.at_once in
        elim (cases_eq m n) [
          | inl same ↦ absurd (other (keeps.broadcasts.once p q u m in_p in_q is_p is_q first (second ∙ ap (λ (k : ℕ). Announcing u k) (sym same))))
          | inr differ ↦ elim (cases_lt m n) [
            | inl less ↦
                let gap = gaps_bits timing (sent.broadcasts.packets u m) timing.broadcast_gap (sent.broadcasts.announced u m) (sent.broadcasts.announced u n)
                (keeps.broadcasts.in_turn u m n less two.known) in
                let few : least_packets (broadcasts_by u (asked plan timing stays).flows) * bits_at_least timing timing.broadcast_gap
                ≤ sent.broadcasts.packets u m * bits_at_least timing timing.broadcast_gap =
                mul-le-mul_right (bits_at_least timing timing.broadcast_gap)
                (fewest plan timing stays sent.broadcasts u m (keeps.broadcasts.messages u m one.known)) in
                inl (omega (arith, gap, few, period, at_p, at_q, release_p, release_q))
            | inr more ↦
                let gap = gaps_bits timing (sent.broadcasts.packets u n) timing.broadcast_gap (sent.broadcasts.announced u n) (sent.broadcasts.announced u m)
                (keeps.broadcasts.in_turn u n m (omega (arith, more, differ)) one.known) in
                let few : least_packets (broadcasts_by u (asked plan timing stays).flows) * bits_at_least timing timing.broadcast_gap
                ≤ sent.broadcasts.packets u n * bits_at_least timing timing.broadcast_gap =
                mul-le-mul_right (bits_at_least timing timing.broadcast_gap)
                (fewest plan timing stays sent.broadcasts u n (keeps.broadcasts.messages u n two.known)) in
                inr (omega (arith, gap, few, period, at_p, at_q, release_p, release_q))
          ]
        ]

    -- packets of a unit
    carried_apart : (u m n j k : ℕ) → sent.source p ≡ Carrying u m j → sent.source q ≡ Carrying u n k → (stream : Stream)
        → IsPaced plan timing stays (Carrying u m j) stream → (sent.release p + stream.period ≤ sent.release q)
        ⊎ (sent.release q + stream.period ≤ sent.release p)
    carried_apart u m n j k first second stream paced =
        let one = subst (λ (x : Source). IsFrameOf plan timing s held sent.broadcasts x (sent.release p) p) first frame_p in
        let two = subst (λ (x : Source). IsFrameOf plan timing s held sent.broadcasts x (sent.release q) q) second frame_q in
        let period = ap (λ (x : Stream). x.period) paced in
        let release_p = one.0.at_once in
        let release_q = two.0.at_once in
        elim (keeps.broadcasts.gaps p q u m n j k in_p in_q other is_p is_q first second) [
          | inl before ↦
              inl (let gap = behind_bits timing timing.broadcast_gap (s.queued p) (s.queued q) before in omega (arith, gap, period, release_p, release_q))
          | inr after ↦
              inr (let gap = behind_bits timing timing.broadcast_gap (s.queued q) (s.queued p) after in omega (arith, gap, period, release_p, release_q))
        ]

    -- of what comes by its own pace
    alike : (x : Source) → HasPace plan timing stays x → sent.source p ≡ x → source_place plan x ≡ source_place plan (sent.source q)
        → source_turn plan x ≡ source_turn plan (sent.source q)
        → (stream : Stream) → IsPacedBy plan timing stays x stream → IsSpaced stream → (sent.release p + stream.period ≤ sent.release q)
        ⊎ (sent.release q + stream.period ≤ sent.release p)
    alike x pace first place turn stream paced spaced =
        let one : x ≡ sent.source q =
        one_source plan timing stays s held sent.broadcasts keeps.broadcasts.messages x (sent.source q) (sent.release p) (sent.release q) p q pace
        (subst (λ (y : Source). IsFrameOf plan timing s held sent.broadcasts y (sent.release p) p) first frame_p) frame_q place turn in
        by_pace p q in_p in_q other is_p is_q (first ∙ one) stream (subst (λ (y : Source). IsPacedBy plan timing stays y stream) (sym first) paced) spaced

    by_source : (x : Source) → sent.source p ≡ x → source_place plan x ≡ source_place plan (sent.source q)
        → source_turn plan x ≡ source_turn plan (sent.source q) → (stream : Stream)
        → IsPaced plan timing stays x stream → IsSpaced stream
        → (sent.release p + stream.period ≤ sent.release q) ⊎ (sent.release q + stream.period ≤ sent.release p)
    by_source (Single f) first place turn stream paced spaced = alike (Single f) tt first place turn stream paced spaced
    by_source (First f) first place turn stream paced spaced = alike (First f) tt first place turn stream paced spaced
    by_source (InSession f part) first place turn stream paced spaced = alike (InSession f part) tt first place turn stream paced spaced
    by_source (Asking r) first place turn stream paced spaced = alike (Asking r) tt first place turn stream paced spaced
    by_source (Announcing u m) first place turn stream paced spaced =
        let one = subst (λ (x : Source). IsFrameOf plan timing s held sent.broadcasts x (sent.release p) p) first frame_p in
        let (n, second) = of_announcements plan timing stays s held sent.broadcasts keeps.broadcasts.messages (sent.source q) u m
        (sent.release q) q frame_q one.known
        (sym place) in
        announced_apart u m n first second stream paced
    by_source (Carrying u m j) first place turn stream paced spaced =
        let one = subst (λ (x : Source). IsFrameOf plan timing s held sent.broadcasts x (sent.release p) p) first frame_p in
        let (n, k, second) = of_packets plan timing stays s held sent.broadcasts keeps.broadcasts.messages (sent.source q) u m j
        (sent.release q) q frame_q one.0.known
        (sym place) in
        carried_apart u m n j k first second stream paced

  pub stated_stream : (p : ℕ) → p < s.count → planned p ≡ true
      → IsPaced plan timing stays (sent.source p) ((traffic plan timing stays).stream (source_place plan (sent.source p)))
  stated_stream p in_p is = subst (λ (f : FlowFrames). IsPaced plan timing stays (sent.source p) f.stream) (sym (at_its_place p in_p is))
      (of_source p in_p is).paced

  pub of_streams : AreOfStreams s (λ p. planned p ≡ true) (traffic plan timing stays).count (traffic plan timing stays).stream (origins_of plan sent)
  of_streams = record {
    keeps = λ p in_p is. keeps_stream p in_p is;
    spaced = λ p q in_p in_q other is_p is_q place turn spaced.
        by_source p q in_p in_q other is_p is_q (sent.source p) refl place turn ((traffic plan timing stays).stream (source_place plan (sent.source p)))
        (stated_stream p in_p is_p) spaced;
  }

  -- ---- what is wanted

  pub as_wanted : AreAsWanted s planned (origins_of plan sent) (traffic plan timing stays).demands (traffic plan timing stays).stream
  as_wanted = as_wanted_of plan timing stays s planned sent held keeps.frames keeps.broadcasts keeps.answers s planned (origins_of plan sent)
      (λ p in_p is. inr (record { below = in_p; is = is; place = refl; since = refl; queued = refl })) stated_stream

  -- ---- identifiers

  twins_share : (i f h : ℕ) → AreAlike (planned_at (all plan timing stays) f) (planned_at (all plan timing stays) h)
      → may_share (traffic plan timing stays) i f ≡ true → may_share (traffic plan timing stays) i h ≡ true
  twins_share i f h are shares = or_right (eqb h i) (are_twins (planned_at (all plan timing stays) i) (planned_at (all plan timing stays) h))
      (elim (or_cases (eqb f i) (are_twins (planned_at (all plan timing stays) i) (planned_at (all plan timing stays) f)) shares) [
        | inl same ↦
            subst (λ (k : ℕ). are_twins (planned_at (all plan timing stays) k) (planned_at (all plan timing stays) h) ≡ true) (eqb-true f i same)
            (own_twin (planned_at (all plan timing stays) f) (planned_at (all plan timing stays) h) are)
        | inr twin ↦ same_twin (planned_at (all plan timing stays) i) (planned_at (all plan timing stays) f) (planned_at (all plan timing stays) h) are twin
      ])

  -- at the place of a single frame stand its flow's frames
  pub there : (f release p : ℕ) (one : IsSingleFrame plan timing s held f release p)
      → planned_at (all plan timing stays) f ≡ own plan timing stays f one.flow one.pace one.group one.its one.paced one.of
  there f release p one = with_damage timing (frames_asked (asked_of timing plan stays)) f
      (own plan timing stays f one.flow one.pace one.group one.its one.paced one.of)
      (read plan timing stays f one.flow one.pace one.group one.its one.paced one.of one.short)

  -- and behind the flows those of one with long messages
  pub behind : (f release p : ℕ) (one : IsFirstFrame plan timing s held f release p)
      → planned_at (all plan timing stays) (source_place plan (First f)) ≡ own plan timing stays f one.flow one.pace one.group one.its one.paced one.of
  behind f release p one = with_damage timing (frames_asked (asked_of timing plan stays)) (source_place plan (First f))
      (own plan timing stays f one.flow one.pace one.group one.its one.paced one.of)
      (first_read plan timing stays f one.flow one.pace one.group one.its one.paced one.of one.short one.long)

  -- ---- all of it

  below_greatest : (x : Source) (a b : ℕ) → HasTime x → IsBelowGreatest x a b → a ≤ b
  below_greatest (Single f) a b timed below = below
  below_greatest (First f) a b timed below = absurd timed
  below_greatest (InSession f part) a b timed below = absurd timed
  below_greatest (Asking r) a b timed below = absurd timed
  below_greatest (Announcing u m) a b timed below = below
  below_greatest (Carrying u m k) a b timed below = below

  -- of frames at a place of which times are promised
  pub premises_at : (i : ℕ) → ((p : ℕ) → p < s.count → planned p ≡ true → source_place plan (sent.source p) ≡ i → HasTime (sent.source p))
      → ((p q t : ℕ) → p < s.count → q < s.count → t < s.now → planned p ≡ true
      → may_share (traffic plan timing stays) i (source_place plan (sent.source p)) ≡ true → IsQueuedAt s p t → IsQueuedAt s q t → s.ident p ≡ s.ident q
      → (planned q ≡ true) × (may_share (traffic plan timing stays) i (source_place plan (sent.source q)) ≡ true))
      → AreFramesOfPlan timing (frames_asked (asked_of timing plan stays)) s planned (origins_of plan sent) i
  premises_at i timed own = record {
    longest_at_most = longest_of;
    of_streams = of_streams;
    as_wanted = as_wanted;
    from_least = λ p in_p is. subst (λ (f : FlowFrames). f.least_ident ≤ s.ident p) (sym (at_its_place p in_p is)) (of_source p in_p is).between.0;
    to_greatest = λ p in_p is place. subst (λ (k : ℕ). s.ident p ≤ (planned_at (all plan timing stays) k).greatest_ident) place
        (subst (λ (f : FlowFrames). s.ident p ≤ f.greatest_ident) (sym (at_its_place p in_p is))
        (below_greatest (sent.source p) (s.ident p) (of_source p in_p is).frames.greatest_ident (timed p in_p is place) (of_source p in_p is).greatest));
    own_identifier = own;
    urgency_of_others = keeps.others_priority;
    few_others = λ p from to in_p is place seen waits wait. keeps.few_others p from to in_p is (timed p in_p is place) seen waits wait;
  }

  -- ---- of flows each message of which goes in one frame

  module _ (i : ℕ) (single : IsSingleFlow plan i) where
    -- no frame of a long message is of the flow, or of a twin
    no_session : (f : ℕ) (part : Part) (release p : ℕ) → IsSessionFrame plan timing s held f part release p → may_share (traffic plan timing stays) i f ≡ true
        → ⊥
    no_session f part release p one shares =
        elim (or_cases (eqb f i) (are_twins (planned_at (all plan timing stays) i) (planned_at (all plan timing stays) f)) shares) [
          | inl same ↦
              let place : f ≡ i = eqb-true f i same in
              let flow : one.flow ≡ single.flow = same_Some _ _ (sym one.its ∙ (ap (slice_get plan.flows.items) place ∙ single.its)) in
              let group : one.group ≡ single.group =
              same_Some _ _ (sym one.of ∙ (ap (λ (g : FlowPlan). slice_get plan.groups.items g.group) flow ∙ single.of)) in
              let most : one.group.most ≡ single.group.most = ap (λ (g : GroupPlan). g.most) group in
              let short = single.short in
              let long = one.long in
              omega (arith, most, short, long)
          | inr twin ↦
              let frames = in_session plan timing stays f one.flow one.pace one.group one.its one.paced one.of one.receiver in
              let its = with_damage timing (frames_asked (asked_of timing plan stays)) f frames
              (session_read plan timing stays f one.flow one.pace one.group one.its one.paced one.of one.receiver one.long one.to_one) in
              never_twin (planned_at (all plan timing stays) i) (planned_at (all plan timing stays) f) (ap (λ (x : FlowFrames). x.twin_ident) its) twin
        ]

    -- and no request
    no_asking : (r release p : ℕ) → IsFrameOf plan timing s held sent.broadcasts (Asking r) release p → may_share (traffic plan timing stays) i
        (source_place plan (Asking r)) ≡ true → ⊥
    no_asking r release p one shares =
        elim (or_cases (eqb (source_place plan (Asking r)) i) (are_twins (planned_at (all plan timing stays) i)
        (planned_at (all plan timing stays) (source_place plan (Asking r)))) shares) [
          | inl same ↦
              let place : source_place plan (Asking r) ≡ i = eqb-true (source_place plan (Asking r)) i same in
              let below = slice_get_within plan.flows.items i single.flow single.its in
              omega (arith, place, below)
          | inr twin ↦
              let its = with_damage timing (frames_asked (asked_of timing plan stays)) (source_place plan (Asking r))
              (in_request plan timing stays r one.asked one.ms one.its one.paced)
              (request_frames_read plan timing stays r one.asked one.ms one.its one.paced) in
              never_twin (planned_at (all plan timing stays) i) (planned_at (all plan timing stays) (source_place plan (Asking r)))
              (ap (λ (x : FlowFrames). x.twin_ident) its) twin
        ]

    -- and no frame that stands behind the flows and has no twins
    no_unit : (frames : FlowFrames) (j more : ℕ) → get_or (frames_asked (asked_of timing plan stays)) j None ≡ Some frames → frames.twin_ident ≡ None
        → j ≡ 2 * length plan.flows.items + more → may_share (traffic plan timing stays) i j ≡ true → ⊥
    no_unit frames j more at none behind shares =
        elim (or_cases (eqb j i) (are_twins (planned_at (all plan timing stays) i) (planned_at (all plan timing stays) j)) shares) [
          | inl same ↦
              let place : j ≡ i = eqb-true j i same in
              let below = slice_get_within plan.flows.items i single.flow single.its in
              omega (arith, place, below, behind)
          | inr twin ↦
              let its = with_damage timing (frames_asked (asked_of timing plan stays)) j frames at in
              never_twin (planned_at (all plan timing stays) i) (planned_at (all plan timing stays) j) (ap (λ (x : FlowFrames). x.twin_ident) its ∙ none) twin
        ]

    -- so it is a single one, or one of a flow with long messages too
    pub of_one_frame : (source : Source) (release p : ℕ) → IsFrameOf plan timing s held sent.broadcasts source release p
        → may_share (traffic plan timing stays) i (source_place plan source) ≡ true → (f : ℕ) × ((source ≡ Single f) ⊎ (source ≡ First f))
    of_one_frame (Single f) release p one shares = (f, inl refl)
    of_one_frame (First f) release p one shares = (f, inr refl)
    of_one_frame (InSession f part) release p one shares = absurd (no_session f part release p one shares)
    of_one_frame (Asking r) release p one shares = absurd (no_asking r release p one shares)
    of_one_frame (Announcing u m) release p one shares = absurd (no_unit
        (unit_asks plan timing stays sent.broadcasts u m (keeps.broadcasts.messages u m one.known)).announcements
        (source_place plan (Announcing u m)) (units_stated plan.flows.items plan.units.items + u)
        (announcing_read plan timing stays sent.broadcasts u m (keeps.broadcasts.messages u m one.known)) refl refl shares)
    of_one_frame (Carrying u m k) release p one shares = absurd (no_unit
        (unit_asks plan timing stays sent.broadcasts u m (keeps.broadcasts.messages u m one.0.known)).packets
        (source_place plan (Carrying u m k)) u (carrying_read plan timing stays sent.broadcasts u m
        (keeps.broadcasts.messages u m one.0.known) k) refl refl shares)

    -- what has the identifier of a message of one frame is one too
    no_other : {flow : FlowPlan} {group : GroupPlan} (f p q t other : ℕ) (second : Source)
        → IsGroupFrame plan timing clean s held t (keeps.held_apart t) f p flow group
        → IsFrameOf plan timing s held sent.broadcasts second other q → IsQueuedAt s q t → s.ident p ≡ s.ident q
        → (g : ℕ) × ((second ≡ Single g) ⊎ (second ≡ First g))
    no_other f p q t other (Single g) one two at_q same = (g, inl refl)
    no_other f p q t other (First g) one two at_q same = (g, inr refl)
    no_other f p q t other (InSession g part) one two at_q same =
        absurd (no_part plan timing clean s held t (keeps.held_apart t) f p one (s.ident q) two.flow.sender two.receiver
        (part_made plan timing clean s held t (keeps.held_apart t) g part other q two at_q) same)
    no_other f p q t other (Asking r) one two at_q same =
        absurd (no_request plan timing clean s held t (keeps.held_apart t) f p one (s.ident q) two.asked.sender two.asked.to
        (request_made plan timing clean s held t (keeps.held_apart t) r other q two at_q) same)
    no_other f p q t other (Announcing u m) one two at_q same =
        absurd (no_broadcast plan timing clean s held t (keeps.held_apart t) f p one (s.ident q) 60416 u (inl refl)
        (broadcast_made plan timing clean s held t (keeps.held_apart t) sent.broadcasts 60416 u m other q (inl refl) two at_q) same)
    no_other f p q t other (Carrying u m k) one two at_q same =
        absurd (no_broadcast plan timing clean s held t (keeps.held_apart t) f p one (s.ident q) 60160 u (inr refl)
        (broadcast_made plan timing clean s held t (keeps.held_apart t) sent.broadcasts 60160 u m other q (inr refl) two.0 at_q) same)

    abbrev Shares : ℕ → Type 0
    Shares j = may_share (traffic plan timing stays) i j ≡ true

    alike_share : (j k : ℕ) (x y : FlowFrames) → planned_at (all plan timing stays) j ≡ x → planned_at (all plan timing stays) k ≡ y → AreAlike x y → Shares j
        → Shares k
    alike_share j k x y at_j at_k are = twins_share i j k
        (subst (λ (z : FlowFrames). AreAlike z (planned_at (all plan timing stays) k)) (sym at_j) (subst (AreAlike x) (sym at_k) are))

    swapped : (x y : FlowFrames) → AreAlike x y → AreAlike y x
    swapped x y are = record { number = are.number; first = are.second; second = are.first; senders = sym are.senders; receivers = sym are.receivers }

    -- of a single frame, or the first of a longer one
    by_kind : (other q : ℕ) (second : Source) → (g : ℕ) × ((second ≡ Single g) ⊎ (second ≡ First g))
        → IsFrameOf plan timing s held sent.broadcasts second other q
        → ((g : ℕ) → IsSingleFrame plan timing s held g other q → Shares g)
        → ((g : ℕ) → IsFirstFrame plan timing s held g other q → Shares (source_place plan (First g))) → Shares (source_place plan second)
    by_kind other q second (g, either) two by_single by_first = elim either [
      | inl is ↦
          subst (λ (x : Source). Shares (source_place plan x)) (sym is)
          (by_single g (subst (λ (x : Source). IsFrameOf plan timing s held sent.broadcasts x other q) is two))
      | inr is ↦
          subst (λ (x : Source). Shares (source_place plan x)) (sym is)
          (by_first g (subst (λ (x : Source). IsFrameOf plan timing s held sent.broadcasts x other q) is two))
    ]

    -- such a single frame is of the flow or a twin too
    shared_by : (f release p other q t : ℕ) (second : Source) → IsSingleFrame plan timing s held f release p
        → IsFrameOf plan timing s held sent.broadcasts second other q
        → IsQueuedAt s p t → IsQueuedAt s q t → s.ident p ≡ s.ident q → Shares f → Shares (source_place plan second)
    shared_by f release p other q t second one two at_p at_q same shares =
        by_kind other q second (no_other f p q t other second (of_single plan timing clean s held t
        (keeps.held_apart t) f release p one at_p) two at_q same) two
        by_single by_first
      where
        by_single : (g : ℕ) → IsSingleFrame plan timing s held g other q → Shares g
        by_single g two = elim (one_or_alike plan timing clean s held t (keeps.held_apart t) stays f g release other p q one two at_p at_q same) [
          | inl one_flow ↦ subst Shares one_flow shares
          | inr are ↦ alike_share f g (own plan timing stays f one.flow one.pace one.group one.its one.paced one.of)
              (own plan timing stays g two.flow two.pace two.group two.its two.paced two.of) (there f release p one) (there g other q two) are shares
        ]

        by_first : (g : ℕ) → IsFirstFrame plan timing s held g other q → Shares (source_place plan (First g))
        by_first g two = alike_share f (source_place plan (First g)) (own plan timing stays f one.flow one.pace one.group one.its one.paced one.of)
            (own plan timing stays g two.flow two.pace two.group two.its two.paced two.of) (there f release p one) (behind g other q two)
            (single_or_first plan timing clean s held t (keeps.held_apart t) stays f g release other p q one two at_p at_q same) shares

    -- and so is one of a flow with long messages, where it is a twin
    first_shared_by : (f release p other q t : ℕ) (second : Source) → IsFirstFrame plan timing s held f release p
        → IsFrameOf plan timing s held sent.broadcasts second other q → IsQueuedAt s p t → IsQueuedAt s q t → s.ident p ≡ s.ident q
        → Shares (source_place plan (First f)) → Shares (source_place plan second)
    first_shared_by f release p other q t second one two at_p at_q same shares =
        by_kind other q second (no_other f p q t other second (of_first plan timing clean s held t (keeps.held_apart t) f release p one at_p) two at_q same) two
        by_single by_first
      where
        its : FlowFrames
        its = own plan timing stays f one.flow one.pace one.group one.its one.paced one.of

        by_single : (g : ℕ) → IsSingleFrame plan timing s held g other q → Shares g
        by_single g two =
            let frames = own plan timing stays g two.flow two.pace two.group two.its two.paced two.of in
            alike_share (source_place plan (First f)) g its frames (behind f release p one) (there g other q two)
            (swapped frames its (single_or_first plan timing clean s held t (keeps.held_apart t) stays g f other release q p two one at_q at_p
            (sym same))) shares

        is_stated : (v : Option Selector) → one.group.when ≡ v → (w : Selector) × (one.group.when ≡ Some w)
        is_stated (Some w) is = (w, is)
        is_stated None is = absurd (elim (or_cases (eqb (source_place plan (First f)) i)
            (are_twins (planned_at (all plan timing stays) i) (planned_at (all plan timing stays) (source_place plan (First f)))) shares) [
              | inl same ↦
                  let place : source_place plan (First f) ≡ i = eqb-true (source_place plan (First f)) i same in
                  let below = slice_get_within plan.flows.items i single.flow single.its in
                  omega (arith, place, below)
              | inr twin ↦
                  let none : its.twin_ident ≡ None = rw (is) refl in
                  never_twin (planned_at (all plan timing stays) i) (planned_at (all plan timing stays) (source_place plan (First f)))
                  (ap (λ (x : FlowFrames). x.twin_ident) (behind f release p one) ∙ none) twin
            ])

        by_first : (g : ℕ) → IsFirstFrame plan timing s held g other q → Shares (source_place plan (First g))
        by_first g two =
            let (w, stated) = is_stated one.group.when refl in
            alike_share (source_place plan (First f)) (source_place plan (First g)) its
            (own plan timing stays g two.flow two.pace two.group two.its two.paced two.of)
            (behind f release p one) (behind g other q two)
            (firsts_alike plan timing clean s held t (keeps.held_apart t) stays f g release other p q one two at_p at_q same w stated) shares

    pub own_identifier : (p q t : ℕ) → p < s.count → q < s.count → t < s.now → planned p ≡ true
        → Shares (source_place plan (sent.source p)) → IsQueuedAt s p t → IsQueuedAt s q t → s.ident p ≡ s.ident q
        → (planned q ≡ true) × Shares (source_place plan (sent.source q))
    own_identifier p q t in_p in_q seen is_p shares at_p at_q same =
        let frame = keeps.frames p in_p is_p in
        let (f, either) = of_one_frame (sent.source p) (sent.release p) p frame shares in
        elim (cases_Bool (planned q)) [
          | inl is_q ↦ elim either [
            | inl source ↦ (
              is_q,
              shared_by f (sent.release p) p (sent.release q) q t (sent.source q)
                  (subst (λ (x : Source). IsFrameOf plan timing s held sent.broadcasts x (sent.release p) p) source frame)
                  (keeps.frames q in_q is_q) at_p at_q same
                  (subst (λ (x : Source). Shares (source_place plan x)) source shares),
            )
            | inr source ↦ (
              is_q,
              first_shared_by f (sent.release p) p (sent.release q) q t (sent.source q)
                  (subst (λ (x : Source). IsFrameOf plan timing s held sent.broadcasts x (sent.release p) p) source frame)
                  (keeps.frames q in_q is_q) at_p at_q same
                  (subst (λ (x : Source). Shares (source_place plan x)) source shares),
            )
          ]
          | inr not_q ↦ absurd (keeps.others_identifier p q t in_p in_q seen is_p (has_own (sent.source p) f either) not_q at_p at_q same)
        ]
      where
        has_own : (source : Source) (f : ℕ) → (source ≡ Single f) ⊎ (source ≡ First f) → HasOwnIdentifier source
        has_own source f (inl is) = subst HasOwnIdentifier (sym is) tt
        has_own source f (inr is) = subst HasOwnIdentifier (sym is) tt

    -- a frame at this place is one of the flow
    pub of_flow : (p : ℕ) (in_p : p < s.count) (is : planned p ≡ true) → source_place plan (sent.source p) ≡ i → sent.source p ≡ Single i
    of_flow p in_p is place =
        let shares : Shares (source_place plan (sent.source p)) = or_left _ _ (eq-eqb (source_place plan (sent.source p)) i place) in
        let (f, either) = of_one_frame (sent.source p) (sent.release p) p (keeps.frames p in_p is) shares in
        elim either [
          | inl source ↦ source ∙ ap Single (sym (ap (source_place plan) source) ∙ place)
          | inr source ↦ absurd (
              let there : source_place plan (First f) ≡ i = sym (ap (source_place plan) source) ∙ place in
              let below = slice_get_within plan.flows.items i single.flow single.its in
              omega (arith, there, below))
        ]

    pub keeps_premises : AreFramesOfPlan timing (frames_asked (asked_of timing plan stays)) s planned (origins_of plan sent) i
    keeps_premises = premises_at i (λ p in_p is place. subst HasTime (sym (of_flow p in_p is place)) tt) own_identifier

pub keeps_in_order : (plan : Plan) (timing : Timing) (stays : UnitPlan → Bool) → Clean plan → DecidesWhoStays plan stays
    → (s : Schedule) (planned : ℕ → Bool) (sent : FrameSources) (held : Held) (i : ℕ) → IsSingleFlow plan i → IsLegal s
    → KeepsToPlan plan timing s planned sent held → AreFramesOfPlan timing (frames_asked (asked_of timing plan stays)) s planned (origins_of plan sent) i
keeps_in_order plan timing stays clean states s planned sent held i single legal keeps =
    keeps_premises plan timing stays states clean s legal.queued_first planned sent held keeps i single
