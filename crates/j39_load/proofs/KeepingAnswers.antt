-- On a bus that keeps to a plan in the plan's own words messages that come only as answers are no more than are asked for.
use Rattle.std.proofs.Common.{◌≡◌, ℕ, zero, suc, ◌+◌, ◌-◌, ◌*◌, ◌<◌, ◌≤◌, Bool, true, false, not, ◌&&◌, eqb, if◌then◌else◌, List, [], ◌∷◌, length, get_or}
use Rattle.std.proofs.Common.{ltb, Option, Some, None, is_some, refl, sym, ap, ◌∙◌, subst, inl, inr, arith}
use Rattle.std.proofs.Math.Nat.{mul-le-mul_right}
use Rattle.std.proofs.lemmas.Bool.{and_parts, both_ways, cases_lt, lt-ltb, ne_eqb, true≢false}
use Rattle.std.proofs.lemmas.Option.{none-some, same_Some}
use Rattle.std.specs.List.{cons_option, filter_map, slice_get}
use Rattle.std.specs.Option.{option_map_or}
use Rattle.j39_network.specs.Serving.{serves}
use Rattle.j39_network.specs.declared.plan.Plan.{Plan}
use Rattle.j39_network.specs.declared.plan.flow_plan.FlowPlan.{FlowPlan}
use Rattle.j39_network.specs.declared.plan.pace.Pace.{Pace}
use Rattle.j39_network.specs.declared.plan.request_plan.RequestPlan.{RequestPlan}
use Rattle.j39_network.specs.declared.plan.timing.Bitrate.{Bitrate}
use Rattle.j39_network.specs.declared.plan.timing.Bitrate.TheVariants.{Kbit125, Kbit250, Kbit500, Mbit1}
use Rattle.j39_network.specs.declared.plan.timing.Timing.{Timing}
use Rattle.j39_load.specs.AnswerStreams.{askers_of}
use Rattle.j39_load.specs.AskedFlows.{asked_every, asked_parts, asking_periods, is_answering, is_more_than_one, whole_parts}
use Rattle.j39_load.specs.AskingTimes.{bit_parts, ms_parts, requesters_each}
use Rattle.j39_load.specs.Clocks.{bit_time, longest_million, shortest_million}
use Rattle.j39_load.specs.KeepsAnswers.{AnswerRequests, Answered, IsAskedEvery}
use Rattle.j39_load.specs.SentFrames.{IsWithinUnitMs}
use Rattle.j39_load.proofs.AnswerTimes.{ask_no_oftener}
use Rattle.j39_load.specs.Loads.{bits_at_least}
use Rattle.j39_load.proofs.Milliseconds.{behind_bits, some_fast, some_slow}
use Rattle.j39_timing.specs.AnsweredRequests.{AreAnswers, AskNoOftenerThan, RequestsAnswered}

-- ---- places among what a list's items give

abbrev behind : {B : Type 0} → Option B → ℕ → ℕ
behind None n = n
behind (Some b) n = suc n

module _ {A B : Type 0} (f : A → Option B) where
  -- the place of an item's among them
  abbrev pub spot : List A → ℕ → ℕ
  spot [] i = 0
  spot (x ∷ xs) zero = 0
  spot (x ∷ xs) (suc i) = behind (f x) (spot xs i)

  given : (xs : List A) (i : ℕ) (a : A) (b d : B) → slice_get xs i ≡ Some a → f a ≡ Some b
      → (spot xs i < length (filter_map f xs)) × (get_or (filter_map f xs) (spot xs i) d ≡ b)
  given [] i a b d at is = absurd (none-some a at)
  given (x ∷ xs) zero a b d at is =
      let first : f x ≡ Some b = ap f (same_Some x a at) ∙ is in
      subst (λ (o : Option B). (0 < length (cons_option o (filter_map f xs))) × (get_or (cons_option o (filter_map f xs)) 0 d ≡ b)) (sym first)
      (omega arith, refl)
  given (x ∷ xs) (suc i) a b d at is = go (f x) (given xs i a b d at is)
    where
      go : (o : Option B) → (spot xs i < length (filter_map f xs)) × (get_or (filter_map f xs) (spot xs i) d ≡ b)
          → (behind o (spot xs i) < length (cons_option o (filter_map f xs))) × (get_or (cons_option o (filter_map f xs)) (behind o (spot xs i)) d ≡ b)
      go None (below, is) = (below, is)
      go (Some c) (below, is) = (omega (arith, below), is)

  pub at_spot : (xs : List A) (i : ℕ) (a : A) (b d : B) → slice_get xs i ≡ Some a → f a ≡ Some b
      → (spot xs i < length (filter_map f xs)) × (get_or (filter_map f xs) (spot xs i) d ≡ b)
  at_spot = given

  some_behind : (o : Option B) (b : B) (n : ℕ) → o ≡ Some b → 0 ≡ behind o n → ⊥
  some_behind None b n is same = none-some b is
  some_behind (Some c) b n is same = omega (arith, same)

  one_behind : (o : Option B) (m n : ℕ) → behind o m ≡ behind o n → m ≡ n
  one_behind None m n same = same
  one_behind (Some b) m n same = omega (arith, same)

  -- two items that give something have two places
  pub one_spot : (xs : List A) (i j : ℕ) (a c : A) (b d : B) → slice_get xs i ≡ Some a → f a ≡ Some b → slice_get xs j ≡ Some c → f c ≡ Some d
      → spot xs i ≡ spot xs j → i ≡ j
  one_spot [] i j a c b d at_i is_i at_j is_j same = absurd (none-some a at_i)
  one_spot (x ∷ xs) zero zero a c b d at_i is_i at_j is_j same = refl
  one_spot (x ∷ xs) zero (suc j) a c b d at_i is_i at_j is_j same =
      absurd (some_behind (f x) b (spot xs j) (ap f (same_Some x a at_i) ∙ is_i) same)
  one_spot (x ∷ xs) (suc i) zero a c b d at_i is_i at_j is_j same =
      absurd (some_behind (f x) d (spot xs i) (ap f (same_Some x c at_j) ∙ is_j) (sym same))
  one_spot (x ∷ xs) (suc i) (suc j) a c b d at_i is_i at_j is_j same =
      ap suc (one_spot xs i j a c b d at_i is_i at_j is_j (one_behind (f x) (spot xs i) (spot xs j) same))

-- ---- periods of requests

-- each of them is some time
pub some_parts : (requests : List RequestPlan) (flow : FlowPlan) → 0 < whole_parts (asking_periods requests flow)
unfolding whole_parts
some_parts [] flow = omega arith
some_parts (request ∷ requests) flow = go (serves request flow) request.period refl (some_parts requests flow)
  where
    one_more : (ms n : ℕ) → 1 ≤ ms → 0 < n → 0 < ms * n
    one_more ms n some rest = let more : 1 * n ≤ ms * n = mul-le-mul_right n some in omega (arith, more, rest)

    go : (b : Bool) (period : Option ℕ) → request.period ≡ period → 0 < whole_parts (asking_periods requests flow)
        → 0 < whole_parts (cons_option (if b then period else None) (asking_periods requests flow))
    go false period is rest = rest
    go true None is rest = rest
    go true (Some ms) is rest = one_more ms (whole_parts (asking_periods requests flow)) (request.period_positive ms is) rest

-- ---- a flow that comes only as an answer

-- how many ask for it
pub some_askers : (requests : List RequestPlan) (flow : FlowPlan) → is_answering requests flow ≡ true
    → askers_of requests flow ≡ length (asking_periods requests flow)
some_askers requests flow is =
    let on = (and_parts flow.on_request (is_some flow.pace && not (eqb (length (asking_periods requests flow)) 0)) is).0 in
    ap (λ (b : Bool). if b then length (asking_periods requests flow) else 0) on

-- one of which it is so at least
pub none_where_unasked : (requests : List RequestPlan) (flow : FlowPlan) (pace : Pace) → flow.pace ≡ Some pace → is_answering requests flow ≡ false
    → askers_of requests flow ≡ 0
none_where_unasked requests flow pace paced isnt =
    go flow.on_request (length (asking_periods requests flow)) (ap
    (λ (o : Option Pace). flow.on_request && (is_some o && not (eqb (length (asking_periods requests flow)) 0))) (sym paced) ∙ isnt)
  where
    go : (b : Bool) (n : ℕ) → b && (true && not (eqb n 0)) ≡ false → (if b then n else 0) ≡ 0
    go false n none = refl
    go true zero none = refl
    go true (suc n) none = absurd (true≢false (sym (ap not (ne_eqb (suc n) 0 (λ same. omega (arith, same)))) ∙ none))

pub unasked_where_none : (requests : List RequestPlan) (flow : FlowPlan) → askers_of requests flow ≡ 0 → is_answering requests flow ≡ false
unasked_where_none requests flow none = go flow.on_request (is_some flow.pace) (length (asking_periods requests flow)) none
  where
    go : (b some : Bool) (n : ℕ) → (if b then n else 0) ≡ 0 → b && (some && not (eqb n 0)) ≡ false
    go false some n none = refl
    go true false n none = refl
    go true true n none = ap (λ (k : ℕ). not (eqb k 0)) none

pub asked_where_some : (requests : List RequestPlan) (flow : FlowPlan) (pace : Pace) (k : ℕ) → flow.pace ≡ Some pace → askers_of requests flow ≡ suc k
    → is_answering requests flow ≡ true
asked_where_some requests flow pace k paced some =
    ap (λ (o : Option Pace). flow.on_request && (is_some o && not (eqb (length (asking_periods requests flow)) 0))) paced
    ∙ go flow.on_request (length (asking_periods requests flow)) some
  where
    go : (b : Bool) (n : ℕ) → (if b then n else 0) ≡ suc k → b && (true && not (eqb n 0)) ≡ true
    go false n is = absurd (omega (arith, is))
    go true n is = ap (λ (m : ℕ). not (eqb m 0)) is ∙ ap not (ne_eqb (suc k) 0 (λ same. omega (arith, same)))

-- ---- its answers

-- what is asked of messages holds of fewer of them
pub narrowed : (plan : Plan) (timing : Timing) (flow : FlowPlan) (Is Those : ℕ → Type 0) (AreAlike : ℕ → ℕ → Type 0) (within at there : ℕ → ℕ)
    (of : ℕ → Answered)
    → ((m : ℕ) → Those m → Is m) → ((m : ℕ) → Those m → there m ≡ at m) → AnswerRequests plan timing flow Is AreAlike within at of
    → AnswerRequests plan timing flow Those AreAlike within there of
narrowed plan timing flow Is Those AreAlike within at there of some same kept = record {
  few = λ m is. kept.few m (some m is);
  asked = λ m is. kept.asked m (some m is);
  moment_first = λ m is. let first = kept.moment_first m (some m is) in let one = same m is in omega (arith, first, one);
  in_time = λ m is. subst (IsWithinUnitMs timing (within m) (of m).moment) (sym (same m is)) (kept.in_time m (some m is));
  once = λ m n is_m is_n alike one. kept.once m n (some m is_m) (some n is_n) alike one;
  apart = λ m n ms is_m is_n one order every. kept.apart m n ms (some m is_m) (some n is_n) one order every;
}

module _ (plan : Plan) (timing : Timing) (flow : FlowPlan) (Is : ℕ → Type 0) (AreAlike : ℕ → ℕ → Type 0) (within at : ℕ → ℕ) (of : ℕ → Answered)
    (kept : AnswerRequests plan timing flow Is AreAlike within at of) where
  abbrev requests : List RequestPlan
  requests = plan.requests.items

  abbrev periods : List ℕ
  periods = asking_periods requests flow

  every_is : (r ms : ℕ) (it : IsAskedEvery plan flow r ms) → asked_every flow it.asked ≡ Some ms
  every_is r ms it = ap (λ (b : Bool). if b then it.asked.period else None) it.served ∙ it.period

  abbrev its_spot : ℕ → ℕ
  its_spot m = spot (asked_every flow) requests (of m).request

  abbrev pub answered : (ℕ → ℕ) → RequestsAnswered
  answered part = record { requester = λ m. its_spot m; number = λ m. (of m).number; moment = λ m. (of m).moment; part = part }

  -- by the clocks of the units that ask, in parts of a bit
  in_parts : (a b n ms bit long slow : ℕ) → a * bit * long + 1000 * (n * ms) * slow < (b + 1) * bit * long
      → a * (bit * long) + n * (1000 * ms * slow) < (b + 1) * (bit * long)
  in_parts a b n ms bit long slow behind =
      let first : a * bit * long ≡ a * (bit * long) = grind arith in
      let more : 1000 * (n * ms) * slow ≡ n * (1000 * ms * slow) = grind arith in
      let last : (b + 1) * bit * long ≡ (b + 1) * (bit * long) = grind arith in
      omega (arith, behind, first, more, last)

  -- so they are answers, so many bits behind their requests at most
  pub are_answers : (part : ℕ → ℕ) (late frames : ℕ) → ((m : ℕ) → Is m → at m ≤ (of m).moment + late) → ((m : ℕ) → Is m → part m < frames)
      → ((m n : ℕ) → Is m → Is n → part m ≡ part n → AreAlike m n)
      → AreAnswers Is at late frames (requesters_each timing periods) (answered part)
  are_answers part late frames in_bits parts alike = record {
    known = λ m is.
        let (ms, it) = kept.asked m is in
        (at_spot (asked_every flow) requests (of m).request it.asked ms 0 it.its (every_is (of m).request ms it)).0;
    moment_first = kept.moment_first;
    late_at_most = in_bits;
    parts = parts;
    once = λ m n is_m is_n requester number same.
        kept.once m n is_m is_n (alike m n is_m is_n same) (one_request m n is_m is_n requester, number);
    apart = λ m n is_m is_n requester order.
        let (ms, it) = kept.asked m is_m in
        let far = kept.apart m n ms is_m is_n (one_request m n is_m is_n requester) order it in
        let pace : get_or periods (its_spot m) 1 ≡ ms =
        (at_spot (asked_every flow) requests (of m).request it.asked ms 1 it.its (every_is (of m).request ms it)).1 in
        subst (λ (x : ℕ). (of m).moment * bit_parts timing + ((of n).number - (of m).number) * ms_parts timing x < ((of n).moment + 1) * bit_parts timing)
        (sym pace)
        (in_parts (of m).moment (of n).moment ((of n).number - (of m).number) ms (bit_time timing.bitrate) (longest_million timing)
        (shortest_million timing) far);
  }
    where
      one_request : (m n : ℕ) → Is m → Is n → its_spot m ≡ its_spot n → (of m).request ≡ (of n).request
      one_request m n is_m is_n same =
          let (ms, it) = kept.asked m is_m in
          let (other, its) = kept.asked n is_n in
          one_spot (asked_every flow) requests (of m).request (of n).request it.asked its.asked ms other it.its (every_is (of m).request ms it) its.its
          (every_is (of n).request other its) same

  -- they ask no oftener than the flow's period lets
  pub no_oftener : (pace : Pace) → flow.pace ≡ Some pace → is_answering requests flow ≡ true → (m : ℕ) → Is m
      → AskNoOftenerThan (requesters_each timing periods) (ms_parts timing pace.period)
  no_oftener pace paced answers m is = ask_no_oftener timing pace.period periods (some_parts requests flow) (some_slow timing)
      (ap (λ (o : Option Pace). option_map_or (λ (p : Pace). is_more_than_one p.period periods) o false) (sym paced)
      ∙ (ap (λ (b : Bool). b && option_map_or (λ (p : Pace). is_more_than_one p.period periods) flow.pace false) (sym answers) ∙ kept.few m is))

  -- ---- where one request asks for it

  module _ (pace : Pace) (paced : flow.pace ≡ Some pace) (is_asked : is_answering requests flow ≡ true) (single : length periods ≡ 1) where
    one_spot_alone : (m : ℕ) → Is m → its_spot m ≡ 0
    one_spot_alone m is =
        let (ms, it) = kept.asked m is in
        let below = (at_spot (asked_every flow) requests (of m).request it.asked ms 0 it.its (every_is (of m).request ms it)).0 in
        omega (arith, below, single)

    same_request : (m n : ℕ) → Is m → Is n → (of m).request ≡ (of n).request
    same_request m n is_m is_n =
        let (ms, it) = kept.asked m is_m in
        let (other, its) = kept.asked n is_n in
        one_spot (asked_every flow) requests (of m).request (of n).request it.asked its.asked ms other it.its (every_is (of m).request ms it) its.its
        (every_is (of n).request other its) (one_spot_alone m is_m ∙ sym (one_spot_alone n is_n))

    -- its period is the flow's, or longer
    longer : (xs : List ℕ) → length xs ≡ 1 → is_more_than_one pace.period xs ≡ false → pace.period ≤ get_or xs 0 1
    unfolding whole_parts asked_parts
    longer [] size few = absurd (omega (arith, size))
    longer (x ∷ []) size few = elim (cases_lt (x * 1) (pace.period * 1 + x * 0)) [
      | inr within ↦ omega (arith, within)
      | inl more ↦ absurd (both_ways (ltb (x * 1) (pace.period * 1 + x * 0)) few (lt-ltb (x * 1) (pace.period * 1 + x * 0) more))
    ]
    longer (x ∷ (y ∷ xs)) size few = absurd (omega (arith, size))

    not_more : (m : ℕ) → Is m → is_more_than_one pace.period periods ≡ false
    not_more m is = ap (λ (o : Option Pace). option_map_or (λ (p : Pace). is_more_than_one p.period periods) o false) (sym paced)
        ∙ (ap (λ (b : Bool). b && option_map_or (λ (p : Pace). is_more_than_one p.period periods) flow.pace false) (sym is_asked) ∙ kept.few m is)

    in_periods : (a b d ms per long slow : ℕ) → 1 ≤ d → pace.period ≤ ms → a * per * long + 1000 * (d * ms) * slow < (b + 1) * per * long
        → a * per * long + 1000 * pace.period * slow < (b + 1) * per * long
    in_periods a b d ms per long slow some few behind =
        let more : 1 * ms ≤ d * ms = mul-le-mul_right ms some in
        let times : pace.period * (1000 * slow) ≤ d * ms * (1000 * slow) = mul-le-mul_right (1000 * slow) (omega (arith, more, few)) in
        let left : 1000 * pace.period * slow ≡ pace.period * (1000 * slow) = grind arith in
        let right : 1000 * (d * ms) * slow ≡ d * ms * (1000 * slow) = grind arith in
        omega (arith, behind, times, left, right)

    -- so a period lies between the moments of two
    pub moments_apart : (m n : ℕ) → Is m → Is n → (of m).number < (of n).number → (of m).moment + bits_at_least timing pace.period ≤ (of n).moment
    moments_apart m n is_m is_n less =
        let (ms, it) = kept.asked m is_m in
        let far = kept.apart m n ms is_m is_n (same_request m n is_m is_n) (omega (arith, less)) it in
        let its = (at_spot (asked_every flow) requests (of m).request it.asked ms 1 it.its (every_is (of m).request ms it)).1 in
        let first = one_spot_alone m is_m in
        let here : get_or periods 0 1 ≡ ms = subst (λ (k : ℕ). get_or periods k 1 ≡ ms) first its in
        let long = longer periods single (not_more m is_m) in
        behind_bits timing pace.period (of m).moment (of n).moment
        (in_periods (of m).moment (of n).moment ((of n).number - (of m).number) ms (bit_time timing.bitrate) (longest_million timing) (shortest_million timing)
        (omega (arith, less)) (omega (arith, here, long)) far)

    -- and none answers what another one does
    pub numbers_differ : (m n : ℕ) → Is m → Is n → AreAlike m n → (of m).number ≡ (of n).number → m ≡ n
    numbers_differ m n is_m is_n alike number = kept.once m n is_m is_n alike (same_request m n is_m is_n, number)

-- a bit has some parts
pub some_bit : (timing : Timing) → 0 < bit_parts timing
some_bit timing = go timing.bitrate
  where
    open_time : (n long : ℕ) → 1 ≤ n → 0 < long → 0 < n * long
    open_time n long one some = let more : 1 * long ≤ n * long = mul-le-mul_right long one in omega (arith, more, some)

    go : (bitrate : Bitrate) → 0 < bit_time bitrate * longest_million timing
    go Kbit125 = open_time 8 (longest_million timing) (omega arith) (some_fast timing)
    go Kbit250 = open_time 4 (longest_million timing) (omega arith) (some_fast timing)
    go Kbit500 = open_time 2 (longest_million timing) (omega arith) (some_fast timing)
    go Mbit1 = open_time 1 (longest_million timing) (omega arith) (some_fast timing)
