-- Buses on which each message that comes only as an answer answers one request of the flow's first one, at its own release: these keep to what is asked of
-- answers.
use Rattle.std.proofs.Common.{◌≡◌, ℕ, zero, suc, ◌+◌, ◌-◌, ◌*◌, ◌<◌, ◌≤◌, Bool, true, false, not, ◌&&◌, eqb, cond, if◌then◌else◌, List, [], ◌∷◌, length, get_or}
use Rattle.std.proofs.Common.{Option, Some, None, is_some, refl, sym, ap, ◌∙◌, subst, arith}
use Rattle.std.proofs.Math.Nat.{mul-le-mul_right}
use Rattle.std.proofs.lemmas.Bool.{and_parts, false≢true}
use Rattle.std.proofs.lemmas.Option.{none-some, same_Some}
use Rattle.std.specs.List.{cons_option, slice_get}
use Rattle.std.specs.Option.{option_map_or}
use Rattle.j39_network.specs.Serving.{serves}
use Rattle.j39_network.specs.declared.plan.Plan.{Plan}
use Rattle.j39_network.specs.declared.plan.flow_plan.FlowPlan.{FlowPlan}
use Rattle.j39_network.specs.declared.plan.pace.Pace.{Pace}
use Rattle.j39_network.specs.declared.plan.request_plan.RequestPlan.{RequestPlan}
use Rattle.j39_network.specs.declared.plan.timing.Timing.{Timing}
use Rattle.j39_load.specs.AnswerStreams.{answered_within}
use Rattle.j39_load.specs.AskedFlows.{asked_every, asking_periods, is_answering, is_asked_too_often}
use Rattle.j39_load.specs.KeepsAnswers.{AnswerRequests, Answered, IsAnswering, IsAskedEvery, IsFrameOfFlow, IsOfFlow, KeepsAnswers, answered_in}
use Rattle.j39_load.specs.KeepsBroadcasts.{KeepsBroadcasts}
use Rattle.j39_load.specs.SentFrames.{FrameSources, Held, IsFrameOf, IsMsBehind, IsWithinUnitMs, Source}
use Rattle.j39_load.specs.SentFrames.{Single, First, InSession, Asking, Announcing, Carrying}
use Rattle.j39_load.specs.Clocks.{longest_million}
use Rattle.j39_load.proofs.Milliseconds.{in_ms_behind}
use Rattle.j39_timing.specs.Rounds.{all_planned}
use Rattle.j39_timing.specs.TimedFrames.{Schedule}

-- ---- who asks first

-- the place of the first request that asks for the flow, and its period
abbrev pub first_asking : List RequestPlan → FlowPlan → ℕ
first_asking [] flow = 0
first_asking (request ∷ requests) flow = cond (is_some (asked_every flow request)) 0 (suc (first_asking requests flow))

abbrev pub first_period : List RequestPlan → FlowPlan → ℕ
first_period requests flow = get_or (asking_periods requests flow) 0 0

-- a request at a place asks for the flow each so many milliseconds
abbrev AsksAt : List RequestPlan → FlowPlan → ℕ → ℕ → Type 0
AsksAt requests flow r ms = (asked : RequestPlan) × (slice_get requests r ≡ Some asked) × (asked_every flow asked ≡ Some ms)

first_asks : (requests : List RequestPlan) (flow : FlowPlan) → 0 < length (asking_periods requests flow)
    → AsksAt requests flow (first_asking requests flow) (first_period requests flow)
first_asks [] flow some = absurd (omega (arith, some))
first_asks (request ∷ requests) flow some = go (λ rest. first_asks requests flow rest) (asked_every flow request) refl some
  where
    go : (0 < length (asking_periods requests flow) → AsksAt requests flow (first_asking requests flow) (first_period requests flow))
        → (o : Option ℕ) → asked_every flow request ≡ o → 0 < length (cons_option o (asking_periods requests flow))
        → AsksAt (request ∷ requests) flow (cond (is_some o) 0 (suc (first_asking requests flow))) (get_or (cons_option o (asking_periods requests flow)) 0 0)
    go later None none rest = let (asked, at, every) = later rest in (asked, at, every)
    go later (Some ms) is rest = (request, refl, is)

served_where_asked : (flow : FlowPlan) (asked : RequestPlan) (ms : ℕ) → asked_every flow asked ≡ Some ms → (serves asked flow ≡ true) × (asked.period ≡ Some ms)
served_where_asked flow asked ms is = go (serves asked flow) refl is
  where
    go : (b : Bool) → serves asked flow ≡ b → (if b then asked.period else None) ≡ Some ms → (serves asked flow ≡ true) × (asked.period ≡ Some ms)
    go true served every = (served, every)
    go false served none = absurd (none-some ms none)

some_ask : (requests : List RequestPlan) (flow : FlowPlan) → is_answering requests flow ≡ true → 0 < length (asking_periods requests flow)
some_ask requests flow is =
    go (length (asking_periods requests flow))
    (and_parts (is_some flow.pace) (not (eqb (length (asking_periods requests flow)) 0))
    (and_parts flow.on_request (is_some flow.pace && not (eqb (length (asking_periods requests flow)) 0)) is).1).1
  where
    go : (n : ℕ) → not (eqb n 0) ≡ true → 0 < n
    go zero none = absurd (false≢true none)
    go (suc n) some = omega arith

-- more milliseconds are more
longer_ms : (timing : Timing) (ms more a b : ℕ) → ms ≤ more → IsWithinUnitMs timing ms a b → IsWithinUnitMs timing more a b
longer_ms timing ms more a b less within =
    let times : 1000 * ms * longest_million timing ≤ 1000 * more * longest_million timing =
    mul-le-mul_right (longest_million timing) (omega (arith, less)) in
    omega (arith, within, times)

module _ (plan : Plan) where
  abbrev pub first_of_flow : ℕ → ℕ
  first_of_flow f = option_map_or (first_asking plan.requests.items) (slice_get plan.flows.items f) 0

  -- which request is answered
  abbrev pub request_of : Source → ℕ
  request_of (Single f) = first_of_flow f
  request_of (First f) = first_of_flow f
  request_of (InSession f part) = first_of_flow f
  request_of (Asking r) = 0
  request_of (Announcing u m) = 0
  request_of (Carrying u m k) = 0

  its_request : (f : ℕ) (flow : FlowPlan) (x : Source) → slice_get plan.flows.items f ≡ Some flow → IsOfFlow f x
      → request_of x ≡ first_asking plan.requests.items flow
  its_request f flow (Single g) its is = ap first_of_flow is ∙ ap (λ (o : Option FlowPlan). option_map_or (first_asking plan.requests.items) o 0) its
  its_request f flow (First g) its is = ap first_of_flow is ∙ ap (λ (o : Option FlowPlan). option_map_or (first_asking plan.requests.items) o 0) its
  its_request f flow (InSession g part) its is = ap first_of_flow is ∙ ap (λ (o : Option FlowPlan). option_map_or (first_asking plan.requests.items) o 0) its
  its_request f flow (Asking r) its is = absurd is
  its_request f flow (Announcing u m) its is = absurd is
  its_request f flow (Carrying u m k) its is = absurd is

  first_is : (f : ℕ) (answering : IsAnswering plan f) → IsAskedEvery plan answering.flow (first_asking plan.requests.items answering.flow)
      (first_period plan.requests.items answering.flow)
  first_is f answering =
      let (asked, at, every) = first_asks plan.requests.items answering.flow (some_ask plan.requests.items answering.flow answering.answers) in
      let (served, period) = served_where_asked answering.flow asked (first_period plan.requests.items answering.flow) every in
      record { asked = asked; its = at; served = served; period = period }

  -- the period of a request that is the first one
  same_every : (flow : FlowPlan) (r ms : ℕ) → r ≡ first_asking plan.requests.items flow → (f : ℕ) (answering : IsAnswering plan f) → answering.flow ≡ flow
      → IsAskedEvery plan flow r ms → ms ≡ first_period plan.requests.items flow
  same_every flow r ms first f answering same every =
      let (asked, at, is) = first_asks plan.requests.items flow (subst (λ (x : FlowPlan). 0 < length (asking_periods plan.requests.items x)) same
      (some_ask plan.requests.items answering.flow answering.answers)) in
      let one : every.asked ≡ asked = same_Some _ _ (sym every.its ∙ (ap (slice_get plan.requests.items) first ∙ at)) in
      let period = (served_where_asked flow asked (first_period plan.requests.items flow) is).1 in
      same_Some _ _ (sym every.period ∙ (ap (λ (x : RequestPlan). x.period) one ∙ period))

-- ---- all of it

module _ (plan : Plan) (timing : Timing) (s : Schedule) (sent : FrameSources) (held : Held)
    (frames : (p : ℕ) → p < s.count → IsFrameOf plan timing s held sent.broadcasts (sent.source p) (sent.release p) p)
    (broadcasts : KeepsBroadcasts plan timing s all_planned sent) (number : ℕ → ℕ)
    (few : (p f : ℕ) (answering : IsAnswering plan f) → p < s.count → IsOfFlow f (sent.source p)
    → is_asked_too_often plan.requests.items answering.flow ≡ false)
    (once : (p q : ℕ) → p < s.count → q < s.count → sent.source p ≡ sent.source q → number p ≡ number q → p ≡ q)
    (apart : (p q f : ℕ) (answering : IsAnswering plan f) → p < s.count → q < s.count → IsOfFlow f (sent.source p) → IsOfFlow f (sent.source q)
    → number p ≤ number q
    → IsMsBehind timing ((number q - number p) * first_period plan.requests.items answering.flow) (sent.release p) (sent.release q))
    (few_messages : (u m f : ℕ) (answering : IsAnswering plan f) → m < sent.broadcasts.count u → sent.broadcasts.flow u m ≡ f
    → is_asked_too_often plan.requests.items answering.flow ≡ false)
    (one_message : (u m : ℕ) → m < sent.broadcasts.count u → m ≡ 0) where
  abbrev of_frame : ℕ → Answered
  of_frame p = record { request = request_of plan (sent.source p); number = number p; moment = sent.release p }

  abbrev of_message : ℕ → ℕ → Answered
  of_message u m = record { request = first_of_flow plan (sent.broadcasts.flow u m); number = 0; moment = sent.broadcasts.release u m }

  released : (x : Source) (release p f : ℕ) → IsOfFlow f x → IsFrameOf plan timing s held sent.broadcasts x release p → release ≤ s.queued p
  released (Single g) release p f is one = one.release_first
  released (First g) release p f is one = one.release_first
  released (InSession g part) release p f is one = one.release_first
  released (Asking r) release p f is one = absurd is
  released (Announcing u m) release p f is one = absurd is
  released (Carrying u m k) release p f is one = absurd is

  same_pace : (f g : ℕ) (answering : IsAnswering plan f) (flow : FlowPlan) (pace : Pace) → g ≡ f → slice_get plan.flows.items g ≡ Some flow
      → flow.pace ≡ Some pace
      → pace ≡ answering.pace
  same_pace f g answering flow pace same its paced =
      let one : flow ≡ answering.flow = same_Some _ _ (sym its ∙ (ap (slice_get plan.flows.items) same ∙ answering.its)) in
      same_Some _ _ (sym paced ∙ (ap (λ (x : FlowPlan). x.pace) one ∙ answering.paced))

  soon : (x : Source) (release p f : ℕ) (answering : IsAnswering plan f) → IsOfFlow f x → IsFrameOf plan timing s held sent.broadcasts x release p
      → IsWithinUnitMs timing (answered_in answering.pace x) release (s.queued p)
  soon (Single g) release p f answering is one =
      let pace = same_pace f g answering one.flow one.pace is one.its one.paced in
      longer_ms timing one.pace.jitter (answered_within answering.pace) release (s.queued p)
      (let same = ap (λ (x : Pace). x.jitter) pace in omega (arith, same)) one.jitter_at_most
  soon (First g) release p f answering is one =
      let pace = same_pace f g answering one.flow one.pace is one.its one.paced in
      longer_ms timing one.pace.jitter (answered_within answering.pace) release (s.queued p)
      (let same = ap (λ (x : Pace). x.jitter) pace in omega (arith, same)) one.jitter_at_most
  soon (InSession g part) release p f answering is one =
      let pace = same_pace f g answering one.flow one.pace is one.its one.paced in
      longer_ms timing (one.pace.period + one.pace.jitter) (answering.pace.period + answered_within answering.pace) release (s.queued p)
      (let jitter = ap (λ (x : Pace). x.jitter) pace in let period = ap (λ (x : Pace). x.period) pace in omega (arith, jitter, period)) one.jitter_at_most
  soon (Asking r) release p f answering is one = absurd is
  soon (Announcing u m) release p f answering is one = absurd is
  soon (Carrying u m k) release p f answering is one = absurd is

  frames_answer : (f : ℕ) (answering : IsAnswering plan f) → AnswerRequests plan timing answering.flow (IsFrameOfFlow s all_planned sent f)
      (λ p q. sent.source p ≡ sent.source q) (λ p. answered_in answering.pace (sent.source p)) s.queued of_frame
  frames_answer f answering = record {
    few = λ p is. few p f answering is.0 is.2;
    asked = λ p is. (
      first_period plan.requests.items answering.flow,
      subst (λ (r : ℕ). IsAskedEvery plan answering.flow r (first_period plan.requests.items answering.flow))
          (sym (its_request plan f answering.flow (sent.source p) answering.its is.2)) (first_is plan f answering),
    );
    moment_first = λ p is. released (sent.source p) (sent.release p) p f is.2 (frames p is.0);
    in_time = λ p is. soon (sent.source p) (sent.release p) p f answering is.2 (frames p is.0);
    once = λ p q is_p is_q same one. once p q is_p.0 is_q.0 same one.1;
    apart = λ p q ms is_p is_q same order every.
        let first = its_request plan f answering.flow (sent.source p) answering.its is_p.2 in
        let period = same_every plan answering.flow (request_of plan (sent.source p)) ms first f answering refl every in
        subst (λ (x : ℕ). IsMsBehind timing ((number q - number p) * x) (sent.release p) (sent.release q)) (sym period)
        (apart p q f answering is_p.0 is_q.0 is_p.2 is_q.2 order);
  }

  messages_answer : (u f : ℕ) (answering : IsAnswering plan f) → AnswerRequests plan timing answering.flow
      (λ m. (m < sent.broadcasts.count u) × (sent.broadcasts.flow u m ≡ f))
      (λ m n. Unit {0}) (λ m. answered_within answering.pace) (sent.broadcasts.wanted u) (of_message u)
  messages_answer u f answering = record {
    few = λ m is. few_messages u m f answering is.0 is.1;
    asked = λ m is. (
      first_period plan.requests.items answering.flow,
      subst (λ (r : ℕ). IsAskedEvery plan answering.flow r (first_period plan.requests.items answering.flow)) (sym (request_is m is.1))
          (first_is plan f answering),
    );
    moment_first = λ m is. (broadcasts.messages u m is.0).release_first;
    in_time = λ m is.
        let one = broadcasts.messages u m is.0 in
        let pace = same_pace f (sent.broadcasts.flow u m) answering one.flow one.pace is.1 one.its one.paced in
        longer_ms timing one.pace.jitter (answered_within answering.pace) (sent.broadcasts.release u m) (sent.broadcasts.wanted u m)
        (let same = ap (λ (x : Pace). x.jitter) pace in omega (arith, same)) one.jitter_at_most;
    once = λ m n is_m is_n same one. one_message u m is_m.0 ∙ sym (one_message u n is_n.0);
    apart = λ m n ms is_m is_n same order every.
        let release : sent.broadcasts.release u m ≡ sent.broadcasts.release u n =
        ap (sent.broadcasts.release u) (one_message u m is_m.0 ∙ sym (one_message u n is_n.0)) in
        let nothing : 0 ≡ 0 * ms = omega arith in
        subst (λ (x : ℕ). IsMsBehind timing x (sent.broadcasts.release u m) (sent.broadcasts.release u n)) nothing
        (in_ms_behind timing 0 (sent.broadcasts.release u m) (sent.broadcasts.release u n) (omega (arith, release)));
  }
    where
      request_is : (m : ℕ) → sent.broadcasts.flow u m ≡ f → first_of_flow plan (sent.broadcasts.flow u m) ≡ first_asking plan.requests.items answering.flow
      request_is m is = ap (first_of_flow plan) is ∙ ap (λ (o : Option FlowPlan). option_map_or (first_asking plan.requests.items) o 0) answering.its

  pub answers_given : KeepsAnswers plan timing s all_planned sent
  answers_given = record { of_frame = of_frame; of_message = of_message; frames = frames_answer; messages = messages_answer }
