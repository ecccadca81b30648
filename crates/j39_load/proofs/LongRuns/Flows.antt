-- What is queued of a flow or a request in a long time.
use Rattle.std.proofs.Common.{◌≡◌, ℕ, zero, suc, ◌+◌, ◌*◌, ◌<◌, ◌≤◌, Bool, true}
use Rattle.std.proofs.Common.{get_or, if◌then◌else◌, Option, Some, None}
use Rattle.std.proofs.Common.{refl, sym, ap, ◌∙◌, subst, inl, inr, arith}
use Rattle.std.proofs.lemmas.Bool.{cases_lt, le-leb, lt-leb}
use Rattle.std.proofs.lemmas.Option.{get_or_from_slice_get, none-some, same_Some}
use Rattle.std.specs.Option.{option_map_or}
use Rattle.j39_findings.specs.Findings.{Clean}
use Rattle.j39_findings.specs.Standing.{DecidesWhoStays}
use Rattle.j39_network.specs.declared.plan.Plan.{Plan}
use Rattle.j39_network.specs.declared.plan.pace.Pace.{Pace}
use Rattle.j39_network.specs.declared.plan.timing.Timing.{Timing}
use Rattle.j39_network.specs.declared.plan.to.To.{To}
use Rattle.j39_network.specs.declared.plan.unit_plan.UnitPlan.{UnitPlan}
use Rattle.j39_load.specs.declared.frames.flow_frames.FlowFrames.{FlowFrames}
use Rattle.j39_load.specs.declared.frames.messages.Messages.TheVariants.{Short}
use Rattle.j39_load.specs.declared.loads.flow_load.FlowLoad.{FlowLoad}
use Rattle.j39_load.specs.declared.loads.request_load.RequestLoad.{RequestLoad}
use Rattle.j39_load.specs.AnswerStreams.{answers_want, askers_of, frames_for}
use Rattle.j39_load.specs.Asked.{frames_asked}
use Rattle.j39_load.specs.KeepsPlan.{KeepsToPlan, source_place}
use Rattle.j39_load.specs.Loads.{bits_at_least, bits_of_ms, load_of, load_of_messages, long_messages, packet_frames, single_frames}
use Rattle.j39_load.specs.LongRuns.{seconds}
use Rattle.j39_load.specs.PlannedFrames.{planned_at}
use Rattle.j39_load.specs.SentFrames.{FrameSources, Held, IsRequestFrame, IsSessionFrame, IsSingleFrame, Source, Single, First, InSession, Asking, Announcing}
use Rattle.j39_load.specs.SentFrames.{Carrying}
use Rattle.j39_load.proofs.KeepingPlan.{there}
use Rattle.j39_load.proofs.LongRuns.Rates.{IsRate, load_is_rate}
use Rattle.j39_load.proofs.Milliseconds.{some_bits}
use Rattle.j39_load.proofs.PlacedFrames.{asked, at_place, in_request, in_session, load, own, request_asks, request_at, request_frames_read}
use Rattle.j39_load.proofs.PlacedFrames.{session_read}
use Rattle.j39_load.proofs.StreamsBefore.{with_damage}
use Rattle.j39_timing.specs.TimedFrames.{Schedule}
use Rattle.j39_timing.specs.declared.wants.Want.{Want}
use Rattle.j39_timing.proofs.Demands.{spaced_unwanted}
use Rattle.j39_tp.specs.Chunks.{packets_of}
use Rattle.j39_load.proofs.LongRuns.Frames.{Counts, IsAskedAlike, at_rate, bits_at, frame_of, index, kind, more_at, some_counts, whole}

-- as many messages of a flow are asked for as its pace has
asked_alike : (timing : Timing) (pace : Pace) (frames : FlowFrames) (k : ℕ) → frames.stream.wanted ≡ None
    → frames.stream.period ≡ bits_at_least timing pace.period
    → IsAskedAlike (frames_for timing pace k frames).stream
asked_alike timing pace frames zero none period want is = absurd (none-some want (sym (spaced_unwanted (frames_for timing pace 0 frames).stream none) ∙ is))
asked_alike timing pace frames (suc more) none period want is =
    let same : answers_want timing pace frames.stream.frames more ≡ want = same_Some (answers_want timing pace frames.stream.frames more) want is in (
      sym (ap (λ (w : Want). w.frames) same),
      sym (ap (λ (w : Want). w.period) same) ∙ sym period,
    )

module _ (plan : Plan) (timing : Timing) (stays : UnitPlan → Bool) where
  abbrev pub rate_of_flow : Option FlowLoad → ℕ
  rate_of_flow load = option_map_or (λ (l : FlowLoad). l.bits_per_second) load 0

  abbrev pub rate_of_request : Option RequestLoad → ℕ
  rate_of_request load = option_map_or (λ (l : RequestLoad). l.bits_per_second) load 0

module _ (plan : Plan) (timing : Timing) (stays : UnitPlan → Bool) (states : DecidesWhoStays plan stays) (clean : Clean plan) (s : Schedule)
    (queued_first : (p : ℕ) → p < s.count → s.queued p ≤ s.start p) (planned : ℕ → Bool) (sent : FrameSources) (held : Held)
    (keeps : KeepsToPlan plan timing s planned sent held) (from wait n : ℕ) (span : wait + 1 ≡ bits_of_ms timing (seconds n)) (agree : timing.drift ≡ 0) where
  abbrev place : ℕ → ℕ
  place p = source_place plan (sent.source p)

  abbrev bits : ℕ → ℕ → ℕ
  bits = bits_at plan timing stays states clean s queued_first planned sent held keeps from wait n span agree

  abbrev IsCounted : ℕ → ℕ → ℕ → Type 0
  IsCounted = Counts plan timing stays states clean s queued_first planned sent held keeps from wait n span agree

  -- ---- a flow

  -- at its place are the frames of all its messages
  pub flow_bits : (i : ℕ) → bits 0 i ≤ n * rate_of_flow plan timing stays (get_or (asked plan timing stays).flows i None) + more_at plan timing stays i
  flow_bits i = elim (cases_lt 0 (bits 0 i)) [
    | inr none ↦ omega (arith, none)
    | inl some ↦
        let (p, in_p, x) = some_counts plan timing stays states clean s queued_first planned sent held keeps from wait n span agree 0 i some in
        rated p in_p x.is (sent.source p) refl x.its_kind x.its_index
  ]
    where
      its_place : (x : Source) → kind x ≡ 0 → index x ≡ i → source_place plan x ≡ i
      its_place (Single f) is at = at
      its_place (First f) is at = absurd (omega (arith, is))
      its_place (InSession f part) is at = at
      its_place (Asking r) is at = absurd (omega (arith, is))
      its_place (Announcing u m) is at = absurd (omega (arith, is))
      its_place (Carrying u m k) is at = absurd (omega (arith, is))

      one_place : (p : ℕ) → p < s.count → IsCounted 0 i p → place p ≡ i
      one_place p in_p x = its_place (sent.source p) x.its_kind x.its_index

      Rated : Type 0
      Rated = bits 0 i ≤ n * rate_of_flow plan timing stays (get_or (asked plan timing stays).flows i None) + more_at plan timing stays i

      of_frames : (frames : FlowFrames) (ms : ℕ) (load : FlowLoad) → planned_at (whole plan timing stays) i ≡ frames → 1 ≤ ms
          → frames.stream.period ≡ bits_at_least timing ms → IsAskedAlike frames.stream → load.bits_per_second ≡ load_of timing frames.stream ms
          → get_or (asked plan timing stays).flows i None ≡ Some load → Rated
      of_frames frames ms load there some period alike rate its =
          let positive_period : 0 < frames.stream.period = (let bits = some_bits timing ms some in omega (arith, bits, period)) in
          at_rate plan timing stays states clean s queued_first planned sent held keeps from wait n span agree 0 i i
          (rate_of_flow plan timing stays (get_or (asked plan timing stays).flows i None)) one_place
          (subst (λ (f : FlowFrames). 0 < f.stream.period) (sym there) positive_period)
          (subst (λ (f : FlowFrames). IsAskedAlike f.stream) (sym there) alike)
          (subst (λ (f : FlowFrames). IsRate timing (f.stream.frames * f.stream.bits) f.stream.period
          (rate_of_flow plan timing stays (get_or (asked plan timing stays).flows i None)))
          (sym there)
          (subst (λ (x : ℕ). IsRate timing (frames.stream.frames * frames.stream.bits) frames.stream.period x)
          (sym (ap (rate_of_flow plan timing stays) its ∙ rate)) (load_is_rate timing agree frames.stream ms some period)))

      rated : (p : ℕ) → p < s.count → planned p ≡ true → (x : Source) → sent.source p ≡ x → kind x ≡ 0 → index x ≡ i → Rated
      rated p in_p is (Single f) at of_kind place =
          let one = subst (λ (g : ℕ). IsSingleFrame plan timing s held g (sent.release p) p) place
          (frame_of plan timing stays states clean s queued_first planned sent held keeps from wait n span agree p in_p is (Single f) at) in
          let asks = load plan timing stays i one.flow one.pace one.group one.its one.paced one.of in
          let frames = own plan timing stays i one.flow one.pace one.group one.its one.paced one.of in
          of_frames frames one.pace.period asks
          (there plan timing stays states clean s queued_first planned sent held keeps i (sent.release p) p one) one.pace.period_positive refl
          (asked_alike timing one.pace (single_frames timing plan.units.items stays one.flow one.pace one.group)
          (askers_of plan.requests.items one.flow) refl refl)
          (ap (λ (b : Bool). load_of_messages timing (if b then Short (single_frames timing plan.units.items stays one.flow one.pace one.group)
          else long_messages timing plan.units.items stays one.flow one.pace one.group one.flow.to) one.pace.period) (le-leb one.group.most 8 one.short))
          (get_or_from_slice_get (asked plan timing stays).flows i (Some asks) None
          (at_place plan timing stays i one.flow one.pace one.group one.its one.paced one.of))
      rated p in_p is (First f) at of_kind place = absurd (omega (arith, of_kind))
      rated p in_p is (InSession f part) at of_kind place =
          let one = subst (λ (g : ℕ). IsSessionFrame plan timing s held g part (sent.release p) p) place
          (frame_of plan timing stays states clean s queued_first planned sent held keeps from wait n span agree p in_p is (InSession f part) at) in
          let asks = load plan timing stays i one.flow one.pace one.group one.its one.paced one.of in
          let frames = in_session plan timing stays i one.flow one.pace one.group one.its one.paced one.of one.receiver in
          of_frames frames one.pace.period asks
          (with_damage timing (frames_asked (asked plan timing stays)) i frames
          (session_read plan timing stays i one.flow one.pace one.group one.its one.paced one.of one.receiver one.long one.to_one)) one.pace.period_positive refl
          (asked_alike timing one.pace (packet_frames timing plan.units.items stays one.flow one.receiver one.pace (packets_of one.group.most))
          (askers_of plan.requests.items one.flow) refl refl)
          (ap (λ (b : Bool). load_of_messages timing (if b then Short (single_frames timing plan.units.items stays one.flow one.pace one.group)
          else long_messages timing plan.units.items stays one.flow one.pace one.group one.flow.to) one.pace.period) (lt-leb one.group.most 8 one.long)
          ∙ ap (λ (to : To). load_of_messages timing (long_messages timing plan.units.items stays one.flow one.pace one.group to) one.pace.period) one.to_one)
          (get_or_from_slice_get (asked plan timing stays).flows i (Some asks) None
          (at_place plan timing stays i one.flow one.pace one.group one.its one.paced one.of))
      rated p in_p is (Asking r) at of_kind place = absurd (omega (arith, of_kind))
      rated p in_p is (Announcing u m) at of_kind place = absurd (omega (arith, of_kind))
      rated p in_p is (Carrying u m k) at of_kind place = absurd (omega (arith, of_kind))

  -- ---- a request

  abbrev request_place : ℕ → ℕ
  request_place r = source_place plan (Asking r)

  pub request_bits : (r : ℕ) → bits 1 r
      ≤ n * rate_of_request plan timing stays (get_or (asked plan timing stays).requests r None) + more_at plan timing stays (request_place r)
  request_bits r = elim (cases_lt 0 (bits 1 r)) [
    | inr none ↦ omega (arith, none)
    | inl some ↦
        let (p, in_p, x) = some_counts plan timing stays states clean s queued_first planned sent held keeps from wait n span agree 1 r some in
        rated p in_p x.is (sent.source p) refl x.its_kind x.its_index
  ]
    where
      its_place : (x : Source) → kind x ≡ 1 → index x ≡ r → source_place plan x ≡ request_place r
      its_place (Single f) is at = absurd (omega (arith, is))
      its_place (First f) is at = absurd (omega (arith, is))
      its_place (InSession f part) is at = absurd (omega (arith, is))
      its_place (Asking q) is at = ap request_place at
      its_place (Announcing u m) is at = absurd (omega (arith, is))
      its_place (Carrying u m k) is at = absurd (omega (arith, is))

      one_place : (p : ℕ) → p < s.count → IsCounted 1 r p → place p ≡ request_place r
      one_place p in_p x = its_place (sent.source p) x.its_kind x.its_index

      rate : ℕ
      rate = rate_of_request plan timing stays (get_or (asked plan timing stays).requests r None)

      rated : (p : ℕ) → p < s.count → planned p ≡ true → (x : Source) → sent.source p ≡ x → kind x ≡ 1 → index x ≡ r
          → bits 1 r ≤ n * rate + more_at plan timing stays (request_place r)
      rated p in_p is (Single f) at of_kind place = absurd (omega (arith, of_kind))
      rated p in_p is (First f) at of_kind place = absurd (omega (arith, of_kind))
      rated p in_p is (InSession f part) at of_kind place = absurd (omega (arith, of_kind))
      rated p in_p is (Asking q) at of_kind place =
          let one = subst (λ (g : ℕ). IsRequestFrame plan s held g (sent.release p) p) place
          (frame_of plan timing stays states clean s queued_first planned sent held keeps from wait n span agree p in_p is (Asking q) at) in
          let some : 1 ≤ one.ms = one.asked.period_positive one.ms one.paced in
          let frames = in_request plan timing stays r one.asked one.ms one.its one.paced in
          let its : get_or (asked plan timing stays).requests r None ≡ Some (request_asks plan timing stays r one.asked one.ms one.its one.paced) =
          get_or_from_slice_get (asked plan timing stays).requests r (Some (request_asks plan timing stays r one.asked one.ms one.its one.paced)) None
          (request_at plan timing stays r one.asked one.ms one.its one.paced) in
          let at_its_place : planned_at (whole plan timing stays) (request_place r) ≡ frames =
          with_damage timing (frames_asked (asked plan timing stays)) (request_place r) frames
          (request_frames_read plan timing stays r one.asked one.ms one.its one.paced) in
          at_rate plan timing stays states clean s queued_first planned sent held keeps from wait n span agree 1 r (request_place r) rate one_place
          (subst (λ (f : FlowFrames). 0 < f.stream.period) (sym at_its_place) (some_bits timing one.ms some))
          (subst (λ (f : FlowFrames). IsAskedAlike f.stream) (sym at_its_place) (λ want is. absurd (none-some want is)))
          (subst (λ (f : FlowFrames). IsRate timing (f.stream.frames * f.stream.bits) f.stream.period rate) (sym at_its_place)
          (subst (λ (x : ℕ). IsRate timing (frames.stream.frames * frames.stream.bits) frames.stream.period x)
          (sym (ap (rate_of_request plan timing stays) its))
          (load_is_rate timing agree frames.stream one.ms some refl)))
      rated p in_p is (Announcing u m) at of_kind place = absurd (omega (arith, of_kind))
      rated p in_p is (Carrying u m k) at of_kind place = absurd (omega (arith, of_kind))
