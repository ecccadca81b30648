-- What a line of a log does to the messages of one flow that are too near.
use Rattle.std.proofs.Common.{◌≡◌, ◌⊎◌, ℕ, zero, suc, ◌==◌, ◌&&◌, ◌++◌, ◌∷◌, [], List, Bool, true, false, cond, length, nat_eq, ◌≢◌}
use Rattle.std.proofs.Common.{inl, inr, refl, sym, ap, ◌∙◌, subst, arith, Option, Some, None}
use Rattle.std.specs.Prelude.{nat_lt, slice_index_or}
use Rattle.std.specs.Option.{option_map_or}
use Rattle.std.proofs.lemmas.Bool.{and_from, cases_Bool, cases_eq, cond-false, cond-true, eq-eqb, false_from_ne_true, true≢false}
use Rattle.std.proofs.lemmas.List.{append-nil}
use Rattle.std.proofs.lemmas.Option.{none-some, option_and_then_some, same_Some}
use Rattle.j39_id.specs.Ident.{pgn_of}
use Rattle.j39_id.specs.Lines.{Line}
use Rattle.j39_id.specs.declared.frame.Frame.{Frame}
use Rattle.j39_network.specs.declared.plan.group_plan.GroupPlan.{GroupPlan}
use Rattle.j39_network.specs.declared.plan.pace.Pace.{Pace}
use Rattle.j39_network.specs.declared.plan.timing.Timing.{Timing}
use Rattle.j39_audit.specs.AuditPasts.{claims_before, gap_before, noted_newly}
use Rattle.j39_audit.specs.Claiming.{knowledge}
use Rattle.j39_audit.specs.Counting.{Key, Noted, is_same_key, key_of}
use Rattle.j39_audit.specs.Looking.{is_single}
use Rattle.j39_audit.specs.MessageStreams.{asked_stream, flow_pace, flow_stream, group_in_flow, is_in_stream, nothing_sighted, paced_stream, request_period}
use Rattle.j39_audit.specs.MessageStreams.{request_priority, sighted_behind, sighted_stream, stream_mark, stream_pause}
use Rattle.j39_audit.specs.QueueTimes.{queue_time_of}
use Rattle.j39_audit.specs.Moments.{Moments, all_pauses_ended, begins_anew, begun_anew, ends_with, listed_pauses_ended, moment_window, moments_behind}
use Rattle.j39_audit.specs.Moments.{near_noted, pause_ended, pauses_dropped, pauses_ended, silence_behind, silent_noted, since_behind, with_counted}
use Rattle.j39_audit.specs.Moments.{with_deviating, with_ending, with_frame_of, with_message, with_moment, with_pause, with_stream, with_time}
use Rattle.j39_audit.specs.Near.{candidate, earliest_next, excess}
use Rattle.j39_audit.specs.Pauses.{ending_of, unclear_behind}
use Rattle.j39_audit.specs.Settings.{Settings}
use Rattle.j39_audit.specs.declared.mark.Mark.{Mark}
use Rattle.j39_audit.specs.declared.mark.Word.TheVariants.{NearFlow, NearRequest}
use Rattle.j39_audit.specs.declared.mark.Word.{Word}
use Rattle.j39_audit.specs.declared.mark.Word.TheVariants.{SilentFlow}
use Rattle.j39_audit.specs.declared.pauses.Ending.{Ending}
use Rattle.j39_audit.specs.declared.pauses.Ending.TheVariants.{Nothing, OfUnit, OfAll}
use Rattle.j39_audit.specs.declared.pauses.Newest.{Newest}
use Rattle.j39_audit.specs.declared.streams.MessageStream.{MessageStream}
use Rattle.j39_audit.specs.declared.tally.Sighting.{Sighting}
use Rattle.j39_audit.specs.declared.window.Window.{Window}
use Rattle.j39_audit.proofs.Counted.{same_keys}
use Rattle.j39_audit_laws.specs.PauseLines.{FrameLine, time_there}
use Rattle.j39_audit_laws.proofs.Hits.{HaveWords, hits, hits_both, no_hits, same_mark}

-- a frame of this line: whether a gap ends just before it and times begin anew, what is noted of it, and which pauses end at it
pub record FrameThere : Type 0 where
  pub gap : Bool
  pub anew : Bool
  pub f : Frame
  pub line : ℕ
  pub notes : List Noted
  pub ending : Ending

-- as a log has it
abbrev pub frame_there : {s : Settings} {log : List Line} {number : ℕ} → FrameLine s log number → FrameThere
frame_there {s} l = record {
  gap = gap_before s l.at.past (time_there l);
  anew = begins_anew s.stamps l.at.past.newest (time_there l);
  f = l.f;
  line = l.at.past.number;
  notes = noted_newly s l.at.past (time_there l) l.f l.packet;
  ending = ending_of s (knowledge s (claims_before s l.at.past (time_there l))) l.f;
}

module _ (b : Settings) (t : Timing) (timed : b.plan.timing ≡ Some t) (n : ℕ) where
  abbrev pub mark : Mark
  mark = stream_mark NearFlow n

  abbrev pub key : Key
  key = key_of mark

  -- nothing of it changed
  pub record IsAsNear (a c : Moments) : Type 0 where
    pub earliest : c.earliest key ≡ a.earliest key
    pub noted : hits mark c.untimely ≡ hits mark a.untimely
    pub since : c.since ≡ a.since
    pub before : c.before ≡ a.before

  near_itself : (m : Moments) → IsAsNear m m
  near_itself m = record { earliest = refl; noted = refl; since = refl; before = refl }

  pub near_more : (a c d : Moments) → IsAsNear a c → IsAsNear c d → IsAsNear a d
  near_more a c d one other = record {
    earliest = other.earliest ∙ one.earliest;
    noted = other.noted ∙ one.noted;
    since = other.since ∙ one.since;
    before = other.before ∙ one.before;
  }

  -- ---- notes of another word

  abbrev is_silence : Word → Bool
  is_silence SilentFlow = true
  is_silence _ = false

  silent_words : (k : ℕ) (o : Option Newest) (by : Option ℕ) → HaveWords is_silence (silent_noted k o by)
  silent_words k None by = tt
  silent_words k (Some x) None = tt
  silent_words k (Some x) (Some by) = (refl, tt)

  with_silence : (xs : List Noted) (k : ℕ) (o : Option Newest) (by : Option ℕ) → hits mark (xs ++ silent_noted k o by) ≡ hits mark xs
  with_silence xs k o by =
      hits_both mark xs (silent_noted k o by)
      ∙ ap (λ (l : List Noted). hits mark xs ++ l) (no_hits mark is_silence refl (silent_noted k o by) (silent_words k o by)) ∙ append-nil (hits mark xs)

  -- ---- pauses that end

  ended_near : (k : ℕ) (m : Moments) → IsAsNear m (pause_ended b t k m)
  ended_near k m = record {
    earliest = refl;
    noted = with_silence m.untimely k (m.newest k) (silence_behind b t k (m.newest k) m.last);
    since = refl;
    before = refl;
  }

  pauses_near : (unit : Option ℕ) (c : ℕ) (m : Moments) → IsAsNear m (pauses_ended b t unit c m)
  unfolding pauses_ended
  pauses_near unit zero m = near_itself m
  pauses_near unit (suc c) m =
      let inner : Moments = pauses_ended b t unit c m in
      let before = pauses_near unit c m in
      elim (ends_with b unit c) as (λ e. IsAsNear m (cond e (pause_ended b t c inner) inner)) [
        | true ↦ near_more m inner (pause_ended b t c inner) before (ended_near c inner)
        | false ↦ before
      ]

  listed_near : (ns : List ℕ) (c : ℕ) (m : Moments) → IsAsNear m (listed_pauses_ended b t ns c m)
  unfolding listed_pauses_ended
  listed_near ns zero m = near_itself m
  listed_near ns (suc c) m =
      let inner : Moments = listed_pauses_ended b t ns c m in
      near_more m inner (pause_ended b t (slice_index_or ns c 0) inner) (listed_near ns c m) (ended_near (slice_index_or ns c 0) inner)

  pub all_near : (m : Moments) → IsAsNear m (all_pauses_ended b m)
  unfolding all_pauses_ended
  all_near m =
      let c : ℕ = length b.plan.flows.items in
      let ended = pauses_near None c m in
      subst (λ (o : Option Timing). IsAsNear m (option_map_or (λ (x : Timing). pauses_dropped (pauses_ended b x None c m)) o m)) (sym timed)
      (record { earliest = ended.earliest; noted = ended.noted; since = ended.since; before = ended.before })

  ending_near : (e : Ending) (m : Moments) → IsAsNear m (with_ending b t e m)
  ending_near Nothing m = near_itself m
  ending_near OfAll m = all_near m
  ending_near (OfUnit u) m =
      let ended = pauses_near (Some u) (length b.plan.flows.items) m in
      record { earliest = ended.earliest; noted = ended.noted; since = ended.since; before = ended.before }

  deviating_near : (group unit : Option ℕ) (a m : Moments) → IsAsNear a m → IsAsNear a (with_deviating b group unit m)
  deviating_near group unit a m as_near = record { earliest = as_near.earliest; noted = as_near.noted; since = as_near.since; before = as_near.before }

  counted_near : (unit : Option ℕ) (line : ℕ) (m : Moments) → IsAsNear m (with_counted b unit line m)
  counted_near None line m = near_itself m
  counted_near (Some u) line m = elim (nat_lt u (length b.plan.units.items)) as (λ c. IsAsNear m (cond c (with_frame_of u line m) m)) [
    | true ↦ record { earliest = refl; noted = refl; since = refl; before = refl }
    | false ↦ near_itself m
  ]

  pause_near : (o : Option ℕ) (k : ℕ) (window : Window) (line : ℕ) (m : Moments) → IsAsNear m (with_pause o k window line m)
  pause_near None k window line m = near_itself m
  pause_near (Some pause) k window line m = record { earliest = refl; noted = with_silence m.untimely k (m.newest k) _; since = refl; before = refl }

  -- ---- messages

  -- of another stream
  pub other_message : (x : MessageStream) (window : Window) (line : ℕ) (m : Moments) → x.mark ≢ mark → IsAsNear m (with_message x window line m)
  other_message x window line m other =
      let by : Option ℕ = excess (candidate x.step (m.earliest (key_of x.mark)) window) window.upper in
      let apart : is_same_key (key_of x.mark) key ≡ false =
      false_from_ne_true (is_same_key (key_of x.mark) key) (λ is. other (same_mark x.mark mark (same_keys (key_of x.mark) key is))) in
      record {
        earliest = cond-false (is_same_key (key_of x.mark) key) (earliest_next x.step (m.earliest (key_of x.mark)) window) (m.earliest key) apart;
        noted = hits_both mark m.untimely (near_noted x line by)
            ∙ ap (λ (l : List Noted). hits mark m.untimely ++ l) (none_of x line by apart) ∙ append-nil (hits mark m.untimely);
        since = refl;
        before = refl;
      }
    where
      none_of : (x : MessageStream) (line : ℕ) (by : Option ℕ) → is_same_key (key_of x.mark) key ≡ false → hits mark (near_noted x line by) ≡ []
      none_of x line None apart = refl
      none_of x line (Some d) apart = ap (λ (e : Bool). cond e (record { mark = x.mark; line = line; detail = d } ∷ []) []) apart

  of_flow : (f : Frame) (k : ℕ) (x : MessageStream) → flow_stream b t f k ≡ Some x → x.mark ≡ stream_mark NearFlow k
  unfolding flow_stream
  of_flow f k x e =
      option_and_then_some _ (flow_pace b k) x e (λ pace _ e1. option_and_then_some _ (group_in_flow b k) x e1 (λ group _ e2.
      option_and_then_some _ (queue_time_of b.plan k) x e2 (λ time _ e3. paced group pace time e3)))
    where
      paced : (group : GroupPlan) (pace : Pace) (time : ℕ) → paced_stream b t f k group pace time (stream_pause b t k) ≡ Some x
          → x.mark ≡ stream_mark NearFlow k
      paced group pace time is = elim (cases_Bool (is_in_stream group (is_single (pgn_of f.ident)))) [
        | inl inside ↦ sym (ap (λ (y : MessageStream). y.mark) (same_Some _ x
            (sym (cond-true (is_in_stream group (is_single (pgn_of f.ident))) _ None inside) ∙ is)))
        | inr other ↦ absurd (none-some x (sym (cond-false (is_in_stream group (is_single (pgn_of f.ident))) _ None other) ∙ is))
      ]

  of_request : (f : Frame) (k : ℕ) (x : MessageStream) → asked_stream b t f k ≡ Some x → x.mark ≡ stream_mark NearRequest k
  unfolding asked_stream
  of_request f k x e =
      option_and_then_some _ (request_period b k) x e (λ period _ e1. elim (cases_Bool (f.ident.priority == request_priority)) [
        | inl asks ↦ sym (ap (λ (y : MessageStream). y.mark) (same_Some _ x (sym (cond-true (f.ident.priority == request_priority) _ None asks) ∙ e1)))
        | inr other ↦ absurd (none-some x (sym (cond-false (f.ident.priority == request_priority) _ None other) ∙ e1))
      ])

  -- a message of the flow, of the stream that it has by this frame
  pub record IsMessageThere (f : Frame) (time : ℕ) (m new : Moments) : Type 0 where
    pub stream : MessageStream
    pub stream_is : flow_stream b t f n ≡ Some stream
    pub earliest : new.earliest key ≡ earliest_next stream.step (m.earliest key) (moment_window b stream.slack time m.since)
    pub noted : excess (candidate stream.step (m.earliest key) (moment_window b stream.slack time m.since)) (moment_window b stream.slack time m.since).upper
        ≡ None
        → hits mark new.untimely ≡ hits mark m.untimely
    pub since : new.since ≡ m.since
    pub before : new.before ≡ m.before

  its_message : (f : Frame) (time line : ℕ) (m : Moments) (x : MessageStream) → flow_stream b t f n ≡ Some x
      → IsMessageThere f time m (with_stream b time line false (Some x) m)
  its_message f time line m x at =
      let window : Window = moment_window b x.slack time m.since in
      let inner : Moments = with_message x window line m in
      let same : key_of x.mark ≡ key = ap key_of (of_flow f n x at) in
      let paused = pause_near x.pause x.mark.subject window line inner in
      let here : is_same_key (key_of x.mark) key ≡ true = ap (λ (k : Key). is_same_key k key) same ∙ its_own in
      record {
        stream = x;
        stream_is = at;
        earliest = paused.earliest
            ∙ cond-true (is_same_key (key_of x.mark) key) (earliest_next x.step (m.earliest (key_of x.mark)) window) (m.earliest key) here
            ∙ ap (λ (k : Key). earliest_next x.step (m.earliest k) window) same;
        noted = λ fits. paused.noted
            ∙ ap (λ (o : Option ℕ). hits mark (m.untimely ++ near_noted x line o))
            (ap (λ (k : Key). excess (candidate x.step (m.earliest k) window) window.upper) same ∙ fits)
            ∙ ap (hits mark) (append-nil m.untimely);
        since = paused.since;
        before = paused.before;
      }
    where
      its_own : is_same_key key key ≡ true
      its_own =
          and_from (nat_eq key.0 key.0 && nat_eq key.1 key.1) (nat_eq key.2 key.2)
          (and_from (nat_eq key.0 key.0) (nat_eq key.1 key.1) (eq-eqb key.0 key.0 refl) (eq-eqb key.1 key.1 refl)) (eq-eqb key.2 key.2 refl)

  -- what was asked for by none of the plan's requests leaves it
  besides_stream : (time line : ℕ) (m : Moments) (x : MessageStream) → IsAsNear m (with_stream b time line true (Some x) m)
  besides_stream time line m x = pause_near x.pause x.mark.subject (moment_window b x.slack time m.since) line m

  other_stream : (time line : ℕ) (besides : Bool) (m : Moments) (x : MessageStream) → x.mark ≢ mark → IsAsNear m (with_stream b time line besides (Some x) m)
  other_stream time line true m x other = besides_stream time line m x
  other_stream time line false m x other =
      let window : Window = moment_window b x.slack time m.since in
      near_more m (with_message x window line m) (with_stream b time line false (Some x) m) (other_message x window line m other)
      (pause_near x.pause x.mark.subject window line (with_message x window line m))

  streams : (f : Frame) (time line : ℕ) (besides : Bool) (m : Moments) (flow request : Option ℕ)
      → IsAsNear m (with_stream b time line besides (sighted_stream b t f flow request) m)
      ⊎ ((flow ≡ Some n) × IsMessageThere f time m (with_stream b time line besides (sighted_stream b t f flow request) m))
  streams f time line besides m None None = inl (near_itself m)
  streams f time line besides m None (Some r) =
      elim (asked_stream b t f r) as (λ o. asked_stream b t f r ≡ o → IsAsNear m (with_stream b time line besides o m)
      ⊎ ((None ≡ Some n) × IsMessageThere f time m (with_stream b time line besides o m))) [
        | None ↦ λ _. inl (near_itself m)
        | Some x ↦ λ at. inl (other_stream time line besides m x (λ e. asked_other r (sym (of_request f r x at) ∙ e)))
      ] refl
    where
      asked_other : (r : ℕ) → stream_mark NearRequest r ≢ mark
      asked_other r e = (let never : 16 ≡ 15 = ap (λ (k : Mark). (key_of k).0) e in absurd (omega (arith, never)))
  streams f time line besides m (Some k) request =
      elim (flow_stream b t f k) as (λ o. flow_stream b t f k ≡ o → IsAsNear m (with_stream b time line besides o m)
      ⊎ ((Some k ≡ Some n) × IsMessageThere f time m (with_stream b time line besides o m))) [
        | None ↦ λ _. inl (near_itself m)
        | Some x ↦ λ at. elim (cases_eq k n) [
          | inl same ↦ elim besides as (λ d. IsAsNear m (with_stream b time line d (Some x) m)
              ⊎ ((Some k ≡ Some n) × IsMessageThere f time m (with_stream b time line d (Some x) m))) [
                | true ↦ inl (besides_stream time line m x)
                | false ↦ inr (ap Some same, its_message f time line m x (subst (λ (i : ℕ). flow_stream b t f i ≡ Some x) same at))
              ]
          | inr other ↦ inl (other_stream time line besides m x (λ e. other (ap (λ (y : Mark). y.subject) (sym (of_flow f k x at) ∙ e))))
        ]
      ] refl

  -- ---- a frame

  module _ (there : FrameThere) where
    abbrev gap : Bool
    gap = there.gap

    abbrev anew : Bool
    anew = there.anew

    abbrev f : Frame
    f = there.f

    abbrev line : ℕ
    line = there.line

    abbrev notes : List Noted
    notes = there.notes

    abbrev ending : Ending
    ending = there.ending

    abbrev sighting : Sighting
    sighting = sighted_behind nothing_sighted notes

    abbrev unclear : List ℕ
    unclear = unclear_behind [] notes

    -- the earliest moment before it: none where times begin anew
    abbrev pub begun : Moments → Option ℕ
    begun m = cond anew None (m.earliest key)

    begins : (m : Moments) → ((begun_anew b anew gap m).earliest key ≡ begun m) × (hits mark (begun_anew b anew gap m).untimely ≡ hits mark m.untimely)
    begins m = elim anew as (λ a. ((cond a (record (all_pauses_ended b m) { before = None; since = None; earliest = λ key. None })
        (cond gap (all_pauses_ended b m) m)).earliest key ≡ cond a None (m.earliest key))
        × (hits mark (cond a (record (all_pauses_ended b m) { before = None; since = None; earliest = λ key. None })
        (cond gap (all_pauses_ended b m) m)).untimely ≡ hits mark m.untimely)) [
          | true ↦ (refl, (all_near m).noted)
          | false ↦ elim gap as (λ c. ((cond c (all_pauses_ended b m) m).earliest key ≡ m.earliest key)
              × (hits mark (cond c (all_pauses_ended b m) m).untimely ≡ hits mark m.untimely)) [
                | true ↦ ((all_near m).earliest, (all_near m).noted)
                | false ↦ (refl, refl)
              ]
        ]

    -- a frame of this time is a message of the flow, by its bounds, or it changes nothing of it
    pub record IsNearFrame (time : ℕ) (m new : Moments) : Type 0 where
      pub seen : sighting.flow ≡ Some n
      pub stream : MessageStream
      pub stream_is : flow_stream b t f n ≡ Some stream
      pub earliest : new.earliest key ≡ earliest_next stream.step (begun m) (moment_window b stream.slack time new.since)
      pub noted : excess (candidate stream.step (begun m) (moment_window b stream.slack time new.since)) (moment_window b stream.slack time new.since).upper
          ≡ None
          → hits mark new.untimely ≡ hits mark m.untimely

    pub record IsOtherFrame (m new : Moments) : Type 0 where
      pub earliest : new.earliest key ≡ begun m
      pub noted : hits mark new.untimely ≡ hits mark m.untimely

    -- and since when it holds what comes
    abbrev pub HoldsSince : ℕ → Moments → Moments → Type 0
    HoldsSince time m new =
        (new.since ≡ since_behind b t gap (length f.payload.items) time (begun_anew b anew gap m).before (begun_anew b anew gap m).since)
        × (new.before ≡ Some time)

    pub timed_frame : (time : ℕ) (m : Moments) → HoldsSince time m (moments_behind b gap anew (Some time) f line notes ending m)
        × (IsOtherFrame m (moments_behind b gap anew (Some time) f line notes ending m)
        ⊎ IsNearFrame time m (moments_behind b gap anew (Some time) f line notes ending m))
    unfolding moments_behind
    timed_frame time m =
        let start : Moments = begun_anew b anew gap m in
        let first : Moments = with_moment b t gap (length f.payload.items) time start in
        let second : Moments = with_ending b t ending first in
        let third : Moments = with_deviating b sighting.deviating sighting.unit (listed_pauses_ended b t unclear (length unclear) second) in
        let fourth : Moments = with_stream b time line sighting.besides (sighted_stream b t f sighting.flow sighting.request) third in
        let fifth : Moments = with_counted b sighting.unit line fourth in
        let before : IsAsNear first third = deviating_near sighting.deviating sighting.unit first (listed_pauses_ended b t unclear (length unclear) second)
        (near_more first second (listed_pauses_ended b t unclear (length unclear) second) (ending_near ending first)
        (listed_near unclear (length unclear) second)) in
        let behind : IsAsNear fourth fifth = counted_near sighting.unit line fourth in
        let was = begins m in
        let from : third.earliest key ≡ begun m = before.earliest ∙ was.0 in
        let kept : hits mark third.untimely ≡ hits mark m.untimely = before.noted ∙ was.1 in
        let goes : HoldsSince time m fifth × (IsOtherFrame m fifth ⊎ IsNearFrame time m fifth) =
        elim (streams f time line sighting.besides third sighting.flow sighting.request) [
          | inl same ↦ (
            (behind.since ∙ same.since ∙ before.since, behind.before ∙ same.before ∙ before.before),
            inl (record {
              earliest = behind.earliest ∙ same.earliest ∙ from;
              noted = behind.noted ∙ same.noted ∙ kept;
            }),
          )
          | inr (seen, is) ↦
              let since : third.since ≡ fifth.since = sym (behind.since ∙ is.since) in
              let slack : Option ℕ = is.stream.slack in
              let step : ℕ = is.stream.step in (
                (behind.since ∙ is.since ∙ before.since, behind.before ∙ is.before ∙ before.before),
                inr (record {
                  seen = seen;
                  stream = is.stream;
                  stream_is = is.stream_is;
                  earliest = behind.earliest ∙ is.earliest
                      ∙ ap (λ (o : Option ℕ). earliest_next step o (moment_window b slack time third.since)) from
                      ∙ ap (λ (o : Option ℕ). earliest_next step (begun m) (moment_window b slack time o)) since;
                  noted = λ fits. behind.noted ∙ is.noted
                      (ap (λ (o : Option ℕ). excess (candidate step o (moment_window b slack time third.since))
                      (moment_window b slack time third.since).upper) from
                      ∙ ap (λ (o : Option ℕ). excess (candidate step (begun m) (moment_window b slack time o))
                      (moment_window b slack time o).upper) since ∙ fits)
                      ∙ kept;
                }),
              )
        ] in
        subst (λ (o : Option Timing). HoldsSince time m (with_time b o gap (Some time) f line sighting unclear ending start)
        × (IsOtherFrame m (with_time b o gap (Some time) f line sighting unclear ending start)
        ⊎ IsNearFrame time m (with_time b o gap (Some time) f line sighting unclear ending start))) (sym timed) goes

    -- and so does one without a time
    pub timeless_frame : (m : Moments) → IsOtherFrame m (moments_behind b gap anew None f line notes ending m)
    unfolding moments_behind
    timeless_frame m =
        let was = begins m in
        subst (λ (o : Option Timing). IsOtherFrame m (with_time b o gap None f line sighting unclear ending (begun_anew b anew gap m))) (sym timed)
        (record { earliest = was.0; noted = was.1 })

    -- where times begin anew, nothing is known any more
    pub timeless_marks : (m : Moments) → anew ≡ true → ((moments_behind b gap anew None f line notes ending m).before ≡ None)
        × ((moments_behind b gap anew None f line notes ending m).since ≡ None)
    unfolding moments_behind
    timeless_marks m is =
        let start : Moments = begun_anew b anew gap m in
        let none : (start.before ≡ None) × (start.since ≡ None) =
        elim anew as (λ a. a ≡ true → ((cond a (record (all_pauses_ended b m) { before = None; since = None; earliest = λ key. None })
        (cond gap (all_pauses_ended b m) m)).before ≡ None) × ((cond a (record (all_pauses_ended b m) { before = None; since = None; earliest = λ key. None })
        (cond gap (all_pauses_ended b m) m)).since ≡ None)) [
          | true ↦ λ _. (refl, refl)
          | false ↦ λ e. absurd (true≢false (sym e))
        ] is in
        subst (λ (o : Option Timing). ((with_time b o gap None f line sighting unclear ending start).before ≡ None)
        × ((with_time b o gap None f line sighting unclear ending start).since ≡ None)) (sym timed) none

    -- and else it is what it was
    pub goes_on : (m : Moments) → anew ≡ false → ((begun_anew b anew gap m).before ≡ m.before) × ((begun_anew b anew gap m).since ≡ m.since)
    goes_on m is =
        elim anew as (λ a. a ≡ false → ((cond a (record (all_pauses_ended b m) { before = None; since = None; earliest = λ key. None })
        (cond gap (all_pauses_ended b m) m)).before ≡ m.before) × ((cond a
        (record (all_pauses_ended b m) { before = None; since = None; earliest = λ key. None })
        (cond gap (all_pauses_ended b m) m)).since ≡ m.since)) [
          | true ↦ λ e. absurd (true≢false e)
          | false ↦ λ _. elim gap as (λ c. ((cond c (all_pauses_ended b m) m).before ≡ m.before) × ((cond c (all_pauses_ended b m) m).since ≡ m.since)) [
            | true ↦ ((all_near m).before, (all_near m).since)
            | false ↦ (refl, refl)
          ]
        ] is

    pub begun_marks : (m : Moments) → anew ≡ true → ((begun_anew b anew gap m).before ≡ None) × ((begun_anew b anew gap m).since ≡ None)
    begun_marks m is =
        elim anew as (λ a. a ≡ true → ((cond a (record (all_pauses_ended b m) { before = None; since = None; earliest = λ key. None })
        (cond gap (all_pauses_ended b m) m)).before ≡ None) × ((cond a (record (all_pauses_ended b m) { before = None; since = None; earliest = λ key. None })
        (cond gap (all_pauses_ended b m) m)).since ≡ None)) [
          | true ↦ λ _. (refl, refl)
          | false ↦ λ e. absurd (true≢false (sym e))
        ] is
