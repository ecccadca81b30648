-- What a frame of a log does by load to a flow of which a message came, and none since.
use Rattle.std.proofs.Common.{◌≡◌, ◌≢◌, ◌⊎◌, ℕ, ◌+◌, ◌<◌, ◌≤◌, ◌==◌, ◌||◌, ◌++◌, [], List, Bool, true, false, not, cond, length}
use Rattle.std.proofs.Common.{inl, inr, refl, sym, ap, ◌∙◌, subst, arith, Option, Some, None}
use Rattle.std.specs.Prelude.{Contains, nat_lt, slice_index_or}
use Rattle.std.specs.List.{slice_get}
use Rattle.std.specs.Option.{option_and_then, option_map}
use Rattle.std.proofs.lemmas.Bool.{and_parts, cases_Bool, cases_eq, cond-false, cond-true, cond_both, eq-eqb, lt-ltb, ne_eqb, not-true, true≢false}
use Rattle.std.proofs.lemmas.List.{get_or_default}
use Rattle.std.proofs.lemmas.Option.{none-some, option_and_then_some, same_Some}
use Rattle.j39_id.specs.Ident.{pgn_of}
use Rattle.j39_id.specs.declared.frame.Frame.{Frame}
use Rattle.j39_network.specs.declared.plan.flow_plan.FlowPlan.{FlowPlan}
use Rattle.j39_network.specs.declared.plan.group_plan.GroupPlan.{GroupPlan}
use Rattle.j39_network.specs.declared.plan.pace.Pace.{Pace}
use Rattle.j39_network.specs.declared.plan.timing.Timing.{Timing}
use Rattle.j39_network.specs.declared.plan.to.To.TheVariants.{One as ToOne}
use Rattle.j39_audit.specs.Counting.{Noted}
use Rattle.j39_audit.specs.Looking.{is_single}
use Rattle.j39_audit.specs.MessageStreams.{asked_stream, nothing_sighted, sighted_behind, flow_pace, flow_pause, flow_pause_of, flow_stream, group_in_flow}
use Rattle.j39_audit.specs.MessageStreams.{is_in_stream, paced_stream, request_period, request_priority, sent_within, shows_silence, sighted_stream, stream_pause}
use Rattle.j39_audit.specs.Moments.{Moments, all_pauses_ended, begun_anew, earliest_end, listed_pauses_ended, long_before, lower_bound, moment_window}
use Rattle.j39_audit.specs.Moments.{moments_behind, newest_moment, silent_noted, with_counted, with_deviating, with_ending, with_frame_of, with_message}
use Rattle.j39_audit.specs.Moments.{with_moment, with_pause, with_stream, with_time, with_message_of}
use Rattle.j39_audit.specs.Pauses.{stands_for, unclear_behind}
use Rattle.j39_audit.specs.QueueTimes.{queue_time_of}
use Rattle.j39_audit.specs.Settings.{Settings, by_load as judged_by_load, logger_error, response_of, units_planned}
use Rattle.j39_audit.specs.Silence.{lag, latest_next, lies_behind, within_pause}
use Rattle.j39_audit.specs.declared.pauses.Ending.{Ending}
use Rattle.j39_audit.specs.declared.pauses.LastFrame.{LastFrame}
use Rattle.j39_audit.specs.declared.pauses.Newest.{Newest}
use Rattle.j39_audit.specs.declared.streams.FlowPause.{FlowPause}
use Rattle.j39_audit.specs.declared.streams.MessageStream.{MessageStream}
use Rattle.j39_audit.specs.declared.tally.Sighting.{Sighting}
use Rattle.j39_audit.specs.declared.window.Window.{Window}
use Rattle.j39_audit_laws.specs.SilentFlows.{IsEndOfFlow}
use Rattle.j39_audit_laws.proofs.Hits.{In, in_left}
use Rattle.j39_audit_laws.proofs.PauseSteps.{AreOthers, AreShown, EndsIt, IsOpen, IsSame, IsStated, Keeps, Watched, all_keep, all_stated, bound, claimed}
use Rattle.j39_audit_laws.proofs.PauseSteps.{ending_keeps, lags_since, listed, listed_keep, same_more, same_open, same_shown, stated_by, reported_on}
use Rattle.j39_audit_laws.proofs.QueueTimes.{queued_in_jitter, sent_in_jitter, unanswering}
use Rattle.j39_run_laws.proofs.Addresses.CleanEnds.{flow_at}

module _ (plain : Settings) (w : Watched (judged_by_load plain)) where
  abbrev s : Settings
  s = judged_by_load plain

  abbrev t : Timing
  t = w.timing

  abbrev n : ℕ
  n = w.place

  -- ---- streams

  of_pause : (x : FlowPause) (flow : FlowPlan) (group : GroupPlan) (pace : Pace) (pause : ℕ) → flow_pause_of s t n flow group pace pause ≡ Some x
      → (x.slack ≡ response_of s n) × (flow.on_request ≡ false)
  of_pause x flow group pace pause e = elim (cases_Bool (shows_silence s flow group)) [
    | inl shows ↦ (
      sym (ap (λ (y : FlowPause). y.slack) (same_Some _ x (sym (cond-true (shows_silence s flow group) _ None shows) ∙ e))),
      not-true flow.on_request (and_parts (not flow.on_request) _ (and_parts (not s.part) _ shows).1).0,
    )
    | inr other ↦ absurd (none-some x (sym (cond-false (shows_silence s flow group) _ None other) ∙ e))
  ]

  record HasPause (x : FlowPause) : Type 0 where
    slack : x.slack ≡ response_of s n
    pace : Pace
    paced : w.flow.pace ≡ Some pace
    unasked : w.flow.on_request ≡ false

  pause_parts : (x : FlowPause) → flow_pause s t n ≡ Some x → HasPause x
  unfolding flow_pause
  pause_parts x e =
      option_and_then_some _ (slice_get s.plan.flows.items n) x e (λ flow at e1.
      option_and_then_some _ flow.pause x e1 (λ pause _ e2.
      option_and_then_some _ flow.pace x e2 (λ pace paced e3.
      option_and_then_some _ (slice_get s.plan.groups.items flow.group) x e3 (λ group _ e4.
      let same : flow ≡ w.flow = same_Some flow w.flow (sym at ∙ w.flow_is) in
      let is = of_pause x flow group pace pause e4 in
      record {
        slack = is.0;
        pace = pace;
        paced = subst (λ (y : FlowPlan). y.pace ≡ Some pace) same paced;
        unasked = subst (λ (y : FlowPlan). y.on_request ≡ false) same is.1;
      }))))

  -- it answers nothing, so its messages are queued within the jitter
  its_time : (pace : Pace) → w.flow.pace ≡ Some pace → queue_time_of s.plan n ≡ Some pace.jitter
  its_time pace paced = queued_in_jitter s.plan w.flow n pace w.flow_is paced (unanswering s.plan w.flow (pause_parts w.pause w.pause_is).unasked)

  record IsStreamOf (k : ℕ) (x : MessageStream) : Type 0 where
    subject : x.mark.subject ≡ k
    pause : x.pause ≡ stream_pause s t k
    slack : k ≡ n → x.slack ≡ response_of s k

  of_stream : (f : Frame) (k : ℕ) (group : GroupPlan) (pace : Pace) (time : ℕ) (x : MessageStream) → (k ≡ n → time ≡ pace.jitter)
      → paced_stream s t f k group pace time (stream_pause s t k) ≡ Some x → IsStreamOf k x
  of_stream f k group pace time x of_time e =
      let test : Bool = is_in_stream group (is_single (pgn_of f.ident)) in
      elim (cases_Bool test) [
        | inl inside ↦
            let same = same_Some _ x (sym (cond-true test _ None inside) ∙ e) in
            record {
              subject = sym (ap (λ (y : MessageStream). y.mark.subject) same);
              pause = sym (ap (λ (y : MessageStream). y.pause) same);
              slack = λ is. sym (ap (λ (y : MessageStream). y.slack) same) ∙ ap (sent_within s t k pace) (of_time is) ∙ sent_in_jitter s t k pace;
            }
        | inr other ↦ absurd (none-some x (sym (cond-false test _ None other) ∙ e))
      ]

  stream_parts : (f : Frame) (k : ℕ) (x : MessageStream) → flow_stream s t f k ≡ Some x → IsStreamOf k x
  unfolding flow_stream
  stream_parts f k x e =
      option_and_then_some _ (flow_pace s k) x e (λ pace paced e1.
      option_and_then_some _ (group_in_flow s k) x e1 (λ group _ e2.
      option_and_then_some _ (queue_time_of s.plan k) x e2 (λ time queued e3.
      of_stream f k group pace time x (λ same. same_Some time pace.jitter
      (sym queued ∙ ap (queue_time_of s.plan) same
      ∙ its_time pace (sym (ap (λ (o : Option FlowPlan). option_and_then (λ (y : FlowPlan). y.pace) o) w.flow_is) ∙ ap (flow_pace s) (sym same) ∙ paced))) e3)))

  its_pause : stream_pause s t n ≡ Some w.pause.pause
  unfolding stream_pause
  its_pause = ap (λ (o : Option FlowPause). option_map (λ (x : FlowPause). x.pause) o) w.pause_is

  pub has_stream : (f : Frame) (group : GroupPlan) → slice_get s.plan.groups.items w.flow.group ≡ Some group
      → is_in_stream group (is_single (pgn_of f.ident)) ≡ true → flow_stream s t f n ≢ None
  unfolding flow_stream
  has_stream f group at sort none =
      let parts = pause_parts w.pause w.pause_is in
      let pace : Pace = parts.pace in
      let paced = parts.paced in
      let of_pace : flow_pace s n ≡ Some pace = ap (λ (o : Option FlowPlan). option_and_then (λ (x : FlowPlan). x.pace) o) w.flow_is ∙ paced in
      let of_group : group_in_flow s n ≡ Some group =
      ap (λ (o : Option FlowPlan). option_and_then (λ (x : FlowPlan). slice_get s.plan.groups.items x.group) o) w.flow_is ∙ at in
      let stream : Option MessageStream = paced_stream s t f n group pace pace.jitter (stream_pause s t n) in
      let of : Pace → GroupPlan → Option MessageStream =
      λ p g. option_and_then (λ (ms : ℕ). paced_stream s t f n g p ms (stream_pause s t n)) (queue_time_of s.plan n) in
      let is : flow_stream s t f n ≡ stream =
      ap (λ (o : Option Pace). option_and_then (λ (p : Pace). option_and_then (of p) (group_in_flow s n)) o) of_pace
      ∙ ap (λ (o : Option GroupPlan). option_and_then (of pace) o) of_group
      ∙ ap (λ (o : Option ℕ). option_and_then (λ (ms : ℕ). paced_stream s t f n group pace ms (stream_pause s t n)) o) (its_time pace paced) in
      none-some _ (sym none ∙ is ∙ cond-true (is_in_stream group (is_single (pgn_of f.ident))) _ None sort)

  asked_parts : (f : Frame) (k : ℕ) (x : MessageStream) → asked_stream s t f k ≡ Some x → x.pause ≡ None
  unfolding asked_stream
  asked_parts f k x e =
      option_and_then_some _ (request_period s k) x e (λ period _ e1. elim (cases_Bool (f.ident.priority == request_priority)) [
        | inl asks ↦ sym (ap (λ (y : MessageStream). y.pause) (same_Some _ x (sym (cond-true (f.ident.priority == request_priority) _ None asks) ∙ e1)))
        | inr other ↦ absurd (none-some x (sym (cond-false (f.ident.priority == request_priority) _ None other) ∙ e1))
      ])

  -- ---- a message

  -- the frame is none of its stream
  abbrev pub IsUnseen : Frame → Option ℕ → Type 0
  IsUnseen f flow = flow ≡ Some n → flow_stream s t f n ≡ None

  module _ (time line : ℕ) (besides : Bool) (m : Moments) where
    -- a message that may have been sent besides those of its stream leaves more, and any leaves this
    record IsBefore (inner : Moments) : Type 0 where
      newest : inner.newest ≡ m.newest
      last : inner.last ≡ m.last
      since : inner.since ≡ m.since
      keeps : Keeps m inner

    one_before : (d : Bool) (x : MessageStream) (window : Window) → IsBefore (with_message_of d x window line m)
    one_before true x window = record { newest = refl; last = refl; since = refl; keeps = λ note is. is }
    one_before false x window = record { newest = refl; last = refl; since = refl; keeps = λ note is. in_left note m.untimely _ is }

    abbrev window_of : MessageStream → Window
    window_of x = moment_window s x.slack time m.since

    abbrev inner_of : MessageStream → Moments
    inner_of x = with_message_of besides x (window_of x) line m

    abbrev behind : MessageStream → Moments
    behind x = with_stream s time line besides (Some x) m

    pub stream_keeps : (o : Option MessageStream) → Keeps m (with_stream s time line besides o m)
    stream_keeps None note is = is
    stream_keeps (Some x) note is =
        let inner : Moments = inner_of x in
        let before : In note inner.untimely = (one_before besides x (window_of x)).keeps note is in
        elim (x.pause) as (λ o. In note (with_pause o x.mark.subject (window_of x) line inner).untimely) [
          | None ↦ before
          | Some pause ↦ in_left note inner.untimely _ before
        ]

    same_stream : (x : MessageStream) (o : Option ℕ) → (o ≡ None) ⊎ (x.mark.subject ≢ n)
        → IsSame s w m (with_pause o x.mark.subject (window_of x) line (inner_of x))
    same_stream x None other =
        let is = one_before besides x (window_of x) in
        record { newest = ap (λ (g : ℕ → Option Newest). g n) is.newest; last = λ u end. ap (λ (g : ℕ → Option LastFrame). g u) is.last; since = is.since }
    same_stream x (Some pause) (inl none) = absurd (none-some pause (sym none))
    same_stream x (Some pause) (inr other) =
        let is = one_before besides x (window_of x) in
        let inner : Moments = inner_of x in
        record {
          newest = cond-false (x.mark.subject == n) _ (inner.newest n) (ne_eqb x.mark.subject n other) ∙ ap (λ (g : ℕ → Option Newest). g n) is.newest;
          last = λ u end. ap (λ (g : ℕ → Option LastFrame). g u) is.last;
          since = is.since;
        }

    stated_stream : (x : MessageStream) (since : ℕ) → IsStreamOf n x → IsOpen s w m → m.since ≡ Some since → bound s w < since → IsStated s w (behind x)
    stated_stream x since of is since_is late =
        let window : Window = window_of x in
        let inner : Moments = inner_of x in
        let newest_is : inner.newest n ≡ Some is.newest =
        ap (λ (g : ℕ → Option Newest). g n) (one_before besides x window).newest ∙ is.newest_is in
        let slack : x.slack ≡ w.pause.slack = of.slack refl ∙ sym (pause_parts w.pause w.pause_is).slack in
        let lagging = lags_since s w is.newest.moment m.since since since_is is.moment late in
        let lower : window.lower ≡ lower_bound w.pause.slack m.since = ap (λ (o : Option ℕ). lower_bound o m.since) slack in
        let by : lag w.pause.pause (newest_moment (inner.newest n)) window.lower ≡ Some lagging.0 =
        ap (λ (o : Option Newest). lag w.pause.pause (newest_moment o) window.lower) newest_is
        ∙ ap (λ (o : Option ℕ). lag w.pause.pause (Some is.newest.moment) o) lower ∙ lagging.1 in
        let new : Moments = with_pause (Some w.pause.pause) n window line inner in
        let stated : IsStated s w new =
        stated_by s w inner new is.newest (lag w.pause.pause (newest_moment (inner.newest n)) window.lower) lagging.0
        (ap (λ (o : Option Newest). new_notes inner o (lag w.pause.pause (newest_moment (inner.newest n)) window.lower)) newest_is) by in
        subst (λ (k : ℕ). IsStated s w (with_pause x.pause k window line inner)) (sym of.subject)
        (subst (λ (o : Option ℕ). IsStated s w (with_pause o n window line inner)) (sym (of.pause ∙ its_pause)) stated)
      where
        new_notes : Moments → Option Newest → Option ℕ → List Noted
        new_notes inner o by = inner.untimely ++ silent_noted n o by

    pub with_messages_of : (f : Frame) (flow request : Option ℕ) (since : ℕ) → IsOpen s w m → m.since ≡ Some since → (flow ≡ Some n → bound s w < since)
        → (IsSame s w m (with_stream s time line besides (sighted_stream s t f flow request) m) × IsUnseen f flow)
        ⊎ IsStated s w (with_stream s time line besides (sighted_stream s t f flow request) m)
    with_messages_of f None None since is since_is late =
        inl (record { newest = refl; last = λ u end. refl; since = refl }, λ e. absurd (none-some n e))
    with_messages_of f None (Some r) since is since_is late =
        elim (asked_stream s t f r) as (λ o. asked_stream s t f r ≡ o → (IsSame s w m (with_stream s time line besides o m) × IsUnseen f None)
        ⊎ IsStated s w (with_stream s time line besides o m)) [
          | None ↦ λ _. inl (record { newest = refl; last = λ u end. refl; since = refl }, λ e. absurd (none-some n e))
          | Some x ↦ λ at. inl (same_stream x x.pause (inl (asked_parts f r x at)), λ e. absurd (none-some n e))
        ] refl
    with_messages_of f (Some k) request since is since_is late =
        elim (flow_stream s t f k) as (λ o. flow_stream s t f k ≡ o → (IsSame s w m (with_stream s time line besides o m) × IsUnseen f (Some k))
        ⊎ IsStated s w (with_stream s time line besides o m)) [
          | None ↦ λ at. inl (
            record { newest = refl; last = λ u end. refl; since = refl },
            λ e. subst (λ (i : ℕ). flow_stream s t f i ≡ None) (same_Some k n e) at,
          )
          | Some x ↦ λ at.
              let of = stream_parts f k x at in
              elim (cases_eq k n) [
                | inl same ↦ inr (stated_stream x since (subst (λ (i : ℕ). IsStreamOf i x) same of) is since_is (late (ap Some same)))
                | inr other ↦ inl (same_stream x x.pause (inr (λ e. other (sym of.subject ∙ e))), λ e. absurd (other (same_Some k n e)))
              ]
        ] refl

  -- ---- a frame that counts

  pub counted_keeps : (unit : Option ℕ) (line : ℕ) (m : Moments) → Keeps m (with_counted s unit line m)
  counted_keeps None line m note is = is
  counted_keeps (Some u) line m note is = elim (nat_lt u (units_planned s)) as (λ b. In note (cond b (with_frame_of u line m) m).untimely) [
    | true ↦ is
    | false ↦ is
  ]

  -- behind a frame of this line: it counts for an end, or it doesn't
  abbrev IsLast : Option ℕ → ℕ → ℕ → Moments → Moments → Type 0
  IsLast unit line since m new = (u : ℕ) → IsEndOfFlow w.flow u
      → ((unit ≢ Some u) × (new.last u ≡ m.last u)) ⊎ (new.last u ≡ Some (record { line = line; since = Some since }))

  end_inside : (u : ℕ) → IsEndOfFlow w.flow u → u < units_planned s
  end_inside u (inl sender) =
      let less = flow_at (λ (f : FlowPlan). f.sender < length s.plan.units.items) s.plan s.plan.flow_senders n w.flow w.flow_is in
      subst (λ (v : ℕ). v < units_planned s) sender less
  end_inside u (inr to) =
      flow_at (λ (f : FlowPlan). (r : ℕ) → f.to ≡ ToOne r → r < length s.plan.units.items) s.plan s.plan.flow_receivers n w.flow w.flow_is u to

  counts : (unit : Option ℕ) (line since : ℕ) (m : Moments) → IsOpen s w m → m.since ≡ Some since
      → IsOpen s w (with_counted s unit line m) × IsLast unit line since m (with_counted s unit line m)
  counts None line since m is since_is = (is, λ u end. inl (λ e. none-some u e, refl))
  counts (Some v) line since m is since_is = (
    elim (nat_lt v (units_planned s)) as (λ b. IsOpen s w (cond b (with_frame_of v line m) m)) [
      | true ↦ record { newest = is.newest; newest_is = is.newest_is; moment = is.moment; line = is.line }
      | false ↦ is
    ],
    λ u end. elim (cases_eq v u) [
      | inl same ↦
          let less : v < units_planned s = subst (λ (x : ℕ). x < units_planned s) (sym same) (end_inside u end) in
          let here : with_counted s (Some v) line m ≡ with_frame_of v line m = cond-true (nat_lt v (units_planned s)) (with_frame_of v line m) m
          (lt-ltb v (units_planned s) less) in
          inr (ap (λ (x : Moments). x.last u) here
          ∙ cond-true (v == u) (Some (record { line = line; since = m.since })) (m.last u) (eq-eqb v u same)
          ∙ ap (λ (o : Option ℕ). frame_of line o) since_is)
      | inr other ↦ inl (
        λ e. other (same_Some v u e),
        elim (nat_lt v (units_planned s)) as (λ b. (cond b (with_frame_of v line m) m).last u ≡ m.last u) [
          | true ↦ cond-false (v == u) (Some (record { line = line; since = m.since })) (m.last u) (ne_eqb v u other)
          | false ↦ refl
        ],
      )
    ],
  )
    where
      frame_of : ℕ → Option ℕ → Option LastFrame
      frame_of line o = Some (record { line = line; since = o })

  -- ---- a frame

  module _ (gap anew : Bool) (time : Option ℕ) (f : Frame) (line : ℕ) (noted : List Noted) (ending : Ending) where
    abbrev sighting : Sighting
    sighting = sighted_behind nothing_sighted noted

    abbrev unclear : List ℕ
    unclear = unclear_behind [] noted

    abbrev with_frame : Moments → Moments
    with_frame m = moments_behind s gap anew time f line noted ending m

    -- behind what begins anew there
    abbrev with_rest : Option Timing → Option ℕ → Moments → Moments
    with_rest timing τ m = with_time s timing gap τ f line sighting unclear ending m

    rest_keeps : (timing : Option Timing) (τ : Option ℕ) (m : Moments) → Keeps m (with_rest timing τ m)
    rest_keeps None τ m note is = is
    rest_keeps (Some x) None m note is = is
    rest_keeps (Some x) (Some τ) m note is =
        let a : Moments = with_moment s x gap (length f.payload.items) τ m in
        let b : Moments = with_ending s x ending a in
        let c : Moments = with_deviating s sighting.deviating sighting.unit (listed_pauses_ended s x unclear (length unclear) b) in
        let d : Moments = with_stream s τ line sighting.besides (sighted_stream s x f sighting.flow sighting.request) c in
        counted_keeps sighting.unit line d note
        (stream_keeps τ line sighting.besides c (sighted_stream s x f sighting.flow sighting.request) note
        (listed_keep s x unclear (length unclear) b note (ending_keeps s x ending a note is)))

    begun_keeps : (m : Moments) → Keeps m (begun_anew s anew gap m)
    begun_keeps m note is = elim anew as (λ a. In note (cond a (record (all_pauses_ended s m) { before = None; since = None; earliest = λ key. None })
        (cond gap (all_pauses_ended s m) m)).untimely) [
          | true ↦ all_keep s m note is
          | false ↦ elim gap as (λ b. In note (cond b (all_pauses_ended s m) m).untimely) [ true ↦ all_keep s m note is | false ↦ is ]
        ]

    pub frame_keeps : (m : Moments) → Keeps m (with_frame m)
    unfolding moments_behind
    frame_keeps m note is = rest_keeps s.plan.timing time (begun_anew s anew gap m) note (begun_keeps m note is)

    -- a message of the flow is its newest one
    module _ (τ : ℕ) (time_is : time ≡ Some τ) (seen : sighting.flow ≡ Some n) (some : flow_stream s t f n ≢ None)
        (fits : τ + long_before + logger_error s ≤ w.upper) (here : line ≡ w.first) where
      by_upper : (pause : ℕ) (latest : Option ℕ) (window : Window) → latest_next pause latest window ≤ window.upper
      unfolding within_pause
      by_upper pause latest window =
          cond_both (lies_behind pause latest window.lower) window.upper (within_pause pause latest window.upper) (λ x. x ≤ window.upper)
          (λ _. omega arith) (λ _. (elim latest as (λ o. within_pause pause o window.upper ≤ window.upper) [
            | None ↦ omega arith
            | Some l ↦ omega arith
          ]))

      is_newest : (d : Bool) (m : Moments) (x : MessageStream) → flow_stream s t f n ≡ Some x → IsOpen s w (with_stream s τ line d (Some x) m)
      is_newest d m x at =
          let of = stream_parts f n x at in
          let window : Window = moment_window s x.slack τ m.since in
          let inner : Moments = with_message_of d x window line m in
          let newest : Newest = record { moment = latest_next w.pause.pause (newest_moment (inner.newest n)) window; line = line } in
          let least = by_upper w.pause.pause (newest_moment (inner.newest n)) window in
          let is : IsOpen s w (with_pause (Some w.pause.pause) n window line inner) = record {
            newest = newest;
            newest_is = cond-true (n == n) (Some newest) (inner.newest n) (eq-eqb n n refl);
            moment = omega (arith, least, fits);
            line = here;
          } in
          subst (λ (k : ℕ). IsOpen s w (with_pause x.pause k window line inner)) (sym of.subject)
          (subst (λ (o : Option ℕ). IsOpen s w (with_pause o n window line inner)) (sym (of.pause ∙ its_pause)) is)

      counted_open : (unit : Option ℕ) (m : Moments) → IsOpen s w m → IsOpen s w (with_counted s unit line m)
      counted_open None m is = is
      counted_open (Some v) m is = elim (nat_lt v (units_planned s)) as (λ b. IsOpen s w (cond b (with_frame_of v line m) m)) [
        | true ↦ record { newest = is.newest; newest_is = is.newest_is; moment = is.moment; line = is.line }
        | false ↦ is
      ]

      after_all : (m : Moments) → IsOpen s w (with_rest (Some t) (Some τ) m)
      after_all m =
          let c : Moments = with_deviating s sighting.deviating sighting.unit
          (listed_pauses_ended s t unclear (length unclear) (with_ending s t ending (with_moment s t gap (length f.payload.items) τ m))) in
          let stream : sighted_stream s t f sighting.flow sighting.request ≡ flow_stream s t f n =
          ap (λ (o : Option ℕ). sighted_stream s t f o sighting.request) seen in
          counted_open sighting.unit (with_stream s τ line sighting.besides (sighted_stream s t f sighting.flow sighting.request) c)
          (subst (λ (o : Option MessageStream). IsOpen s w (with_stream s τ line sighting.besides o c)) (sym stream)
          (elim (flow_stream s t f n) as (λ o. flow_stream s t f n ≡ o → IsOpen s w (with_stream s τ line sighting.besides o c)) [
            | None ↦ λ none. absurd (some none)
            | Some x ↦ λ at. is_newest sighting.besides c x at
          ] refl))

      pub opens : (m : Moments) → IsOpen s w (with_frame m)
      unfolding moments_behind
      opens m =
          let start : Moments = begun_anew s anew gap m in
          subst (λ (o : Option Timing). IsOpen s w (with_rest o time start)) (sym w.timed)
          (subst (λ (o : Option ℕ). IsOpen s w (with_rest (Some t) o start)) (sym time_is) (after_all start))

    -- the pause ends there
    abbrev pub EndsThere : Type 0
    EndsThere = ((anew || gap) ≡ true) ⊎ (EndsIt s w ending ⊎ Contains unclear n)

    -- the flow stays as it was, and the frame is no message of it
    pub record IsStill (m new : Moments) : Type 0 where
      pub opened : IsOpen s w new
      pub moment : ℕ
      pub moment_is : time ≡ Some moment
      pub last : IsLast sighting.unit line (earliest_end s moment) m new
      pub unended : ¬ EndsThere
      pub unseen : IsUnseen f sighting.flow

    module _ (m : Moments) (is : IsOpen s w m) (timeless : time ≡ None → anew ≡ true)
        (shown : EndsThere → AreShown s w m)
        (unstood : stands_for s.plan sighting.deviating sighting.unit n ≡ false)
        (late : sighting.flow ≡ Some n → (τ : ℕ) → time ≡ Some τ → bound s w < earliest_end s τ) where
      contained : (i : ℕ) → i < length unclear → slice_index_or unclear i 0 ≡ n → Contains unclear n
      contained i less at = (i, less, get_or_default unclear i n 0 less ∙ at)

      not_contained : AreOthers s w unclear (length unclear) → ¬ Contains unclear n
      not_contained others (i, less, at) = others i less (get_or_default unclear i 0 n less ∙ at)

      abbrev Goes : Moments → Type 0
      Goes new = IsStill m new ⊎ IsStated s w new

      on_time : (τ : ℕ) → time ≡ Some τ → (anew || gap) ≡ false → Goes (with_rest (Some t) (Some τ) m)
      on_time τ at begun =
          let a : Moments = with_moment s t gap (length f.payload.items) τ m in
          let b : Moments = with_ending s t ending a in
          let c : Moments = listed_pauses_ended s t unclear (length unclear) b in
          let e : Moments = with_deviating s sighting.deviating sighting.unit c in
          let d : Moments = with_stream s τ line sighting.besides (sighted_stream s t f sighting.flow sighting.request) e in
          let same_e : IsSame s w c e = record {
            newest = cond-false (stands_for s.plan sighting.deviating sighting.unit n) None (c.newest n) unstood;
            last = λ u end. refl;
            since = refl;
          } in
          let opened : IsOpen s w a = record { newest = is.newest; newest_is = is.newest_is; moment = is.moment; line = is.line } in
          elim (claimed s w ending a opened (λ ends. shown (inr (inl ends)))) [
            | inr stated ↦ inr (reported_on s w b (with_counted s sighting.unit line d) (λ note in_b.
                counted_keeps sighting.unit line d note (stream_keeps τ line sighting.besides e (sighted_stream s t f sighting.flow sighting.request) note
                (listed_keep s t unclear (length unclear) b note in_b))) stated)
            | inl (same_b, unended) ↦
                elim (listed s w unclear b (same_open s w a b same_b opened)
                (λ i less here. same_shown s w a b same_b (shown (inr (inr (contained i less here))))) (length unclear) (omega arith)) [
                  | inr stated ↦ inr (reported_on s w c (with_counted s sighting.unit line d) (λ note in_c.
                      counted_keeps sighting.unit line d note (stream_keeps τ line sighting.besides e
                      (sighted_stream s t f sighting.flow sighting.request) note in_c)) stated)
                  | inl (same_c, others) ↦
                      let both : IsSame s w a e = same_more s w a c e (same_more s w a b c same_b same_c) same_e in
                      elim (with_messages_of τ line sighting.besides e f sighting.flow sighting.request (earliest_end s τ)
                      (same_open s w a e both opened) both.since
                      (λ seen. late seen τ at)) [
                        | inr stated ↦ inr (reported_on s w d (with_counted s sighting.unit line d) (counted_keeps sighting.unit line d) stated)
                        | inl (same_d, unseen) ↦
                            let all : IsSame s w a d = same_more s w a e d both same_d in
                            let end = counts sighting.unit line (earliest_end s τ) d (same_open s w a d all opened) all.since in
                            inl (record {
                              opened = end.0;
                              moment = τ;
                              moment_is = at;
                              last = λ u its. elim (end.1 u its) [ inl old ↦ inl (old.0, old.1 ∙ all.last u its) | inr new ↦ inr new ];
                              unended = λ ends. elim ends [
                                | inl first ↦ absurd (true≢false (sym first ∙ begun))
                                | inr (inl claim) ↦ unended claim
                                | inr (inr some) ↦ not_contained others some
                              ];
                              unseen = unseen;
                            })
                      ]
                ]
          ]

      pub frame_goes : Goes (with_frame m)
      unfolding moments_behind
      frame_goes = elim (cases_Bool anew) [
        | inl begins ↦
            let all : Moments = all_pauses_ended s m in
            let stated = all_stated s w m is (shown (inl (ap (λ (b : Bool). b || gap) begins))) in
            let start : Moments = begun_anew s anew gap m in
            let here : start ≡ record all { before = None; since = None; earliest = λ key. None } =
            cond-true anew (record all { before = None; since = None; earliest = λ key. None }) (cond gap (all_pauses_ended s m) m) begins in
            let reported_there : IsStated s w start =
            subst (IsStated s w) (sym here) (record { note = stated.note; noted = stated.noted; mark_is = stated.mark_is }) in
            inr (reported_on s w start (with_frame m) (rest_keeps s.plan.timing time start) reported_there)
        | inr on ↦
            let start : Moments = begun_anew s anew gap m in
            let goes_on : start ≡ cond gap (all_pauses_ended s m) m =
            cond-false anew (record (all_pauses_ended s m) { before = None; since = None; earliest = λ key. None }) (cond gap (all_pauses_ended s m) m) on in
            elim (cases_Bool gap) [
              | inl ends ↦
                  let both : (anew || gap) ≡ true = ap (λ (b : Bool). b || gap) on ∙ ends in
                  let here : start ≡ all_pauses_ended s m = goes_on ∙ cond-true gap (all_pauses_ended s m) m ends in
                  inr (reported_on s w start (with_frame m) (rest_keeps s.plan.timing time start)
                  (subst (IsStated s w) (sym here) (all_stated s w m is (shown (inl both)))))
              | inr still ↦
                  let none : (anew || gap) ≡ false = ap (λ (b : Bool). b || gap) on ∙ still in
                  let here : start ≡ m = goes_on ∙ cond-false gap (all_pauses_ended s m) m still in
                  subst (λ (x : Moments). Goes (with_rest s.plan.timing time x)) (sym here)
                  (subst (λ (o : Option Timing). Goes (with_rest o time m)) (sym w.timed)
                  (elim (time) as (λ o. time ≡ o → Goes (with_rest (Some t) o m)) [
                    | None ↦ λ none_there. absurd (true≢false (sym (timeless none_there) ∙ on))
                    | Some τ ↦ λ at. on_time τ at none
                  ] refl))
            ]
      ]
