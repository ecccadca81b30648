-- What a flow of a part asks of the bus it asks in the whole.
use Rattle.std.proofs.Common.{◌≡◌, ℕ, zero, suc, ◌+◌, ◌*◌, ◌^◌, ◌%◌, ◌<◌, ◌≤◌, Bool, true, false, not, ◌&&◌, if◌then◌else◌}
use Rattle.std.proofs.Math.Nat.{mul-le-mul_right}
use Rattle.std.proofs.Common.{List, [], ◌∷◌, length, Option, Some, None, option_map, refl, sym, ◌∙◌, ap, subst, inl, inr, arith}
use Rattle.std.specs.Int.{div_ceil}
use Rattle.std.specs.List.{slice_get}
use Rattle.std.proofs.lemmas.Bool.{cases_eq, cases_lt}
use Rattle.std.proofs.lemmas.Option.{none-some, same_Some}
use Rattle.j39_id.specs.Ident.{identifier_of}
use Rattle.j39_id.specs.Pgn.{IsPgn, pf_of}
use Rattle.j39_findings.specs.Findings.{HasBadPgn}
use Rattle.j39_findings.specs.Standing.{DecidesWhoStays}
use Rattle.j39_network.specs.declared.plan.Plan.{Plan}
use Rattle.j39_network.specs.declared.plan.flow_plan.FlowPlan.{FlowPlan}
use Rattle.j39_network.specs.declared.plan.group_plan.GroupPlan.{GroupPlan}
use Rattle.j39_network.specs.declared.plan.pace.Pace.{Pace}
use Rattle.j39_network.specs.declared.plan.timing.Timing.{Timing}
use Rattle.j39_network.specs.declared.plan.to.To.{To}
use Rattle.j39_network.specs.declared.plan.to.To.TheVariants.{All as ToAllUnits, One}
use Rattle.j39_network.specs.declared.plan.unit_plan.UnitPlan.{UnitPlan}
use Rattle.j39_search.proofs.Members.{all_at}
use Rattle.j39_signal.specs.declared.selector.Selector.{Selector}
use Rattle.j39_load.specs.declared.frames.broadcast.Broadcast.{Broadcast}
use Rattle.j39_load.specs.declared.frames.flow_frames.FlowFrames.{FlowFrames}
use Rattle.j39_load.specs.declared.frames.messages.Messages.{Messages}
use Rattle.j39_load.specs.declared.frames.messages.Messages.TheVariants.{Short, ToAll, ToOne}
use Rattle.j39_load.specs.declared.loads.flow_load.FlowLoad.{FlowLoad}
use Rattle.std.specs.Option.{option_and_then}
use Rattle.j39_load.specs.Asked.{frames_of_flow, own_frames, singles_of_flow, wanting}
use Rattle.j39_load.specs.Loads.{any_unit, bits_at_least, bits_at_most, broadcast_of, destination_at, flow_load, greatest_address, group_ident, has_short}
use Rattle.j39_load.specs.Loads.{is_always_short, least_address}
use Rattle.j39_load.specs.Loads.{bits_a_second, bits_of_ms, bits_per_ms, load_of, load_of_messages, long_messages, messages_of, of_unit, packet_frames}
use Rattle.j39_load.specs.Loads.{single_frames, singles_of, twin_ident}
use Rattle.j39_load.specs.AnswerStreams.{answered_within, askers_of, broadcast_for, frames_for, late_for, load_for, messages_for, wanted_for}
use Rattle.j39_load.specs.AskedFlows.{asking_periods}
use Rattle.j39_load.specs.Clocks.{longest_million, shortest_million}
use Rattle.j39_load.specs.FlowLoads.{asked_load, load_of_flow}
use Rattle.j39_timing.specs.declared.stream.Stream.{Stream}
use Rattle.j39_tp.specs.Chunks.{packets_of}
use Rattle.j39_part_laws.specs.PlanParts.{IsFlowThere, IsPartAt, IsSame, Places, to_in}
use Rattle.j39_part_laws.specs.Sublists.{IsSub}
use Rattle.j39_part_laws.specs.PartLoads.{HasGoodNumbers}
use Rattle.j39_load.proofs.Milliseconds.{some_bits, some_slow}
use Rattle.j39_part_laws.proofs.AskedMore.{periods_there}
use Rattle.j39_part_laws.proofs.Shares.{ceil-mono}
use Rattle.j39_part_laws.proofs.Frames.{AreAtOnePace, AreBroadcast, AreFrames, WantedAlike}
use Rattle.j39_part_laws.proofs.Groups.{bad_pgn, same_load}
use Rattle.j39_part_laws.proofs.Places.{value_at}
use Rattle.j39_part_laws.proofs.PlanFrames.{any_few, any_in, AreTwinNumbers, greatest_ident_in, greatest_in, ident-mono, IsAmong, least_ident_in, unit_at_place}
use Rattle.j39_part_laws.proofs.PlanFrames.{there_too}

abbrev pub Alike : Places → FlowFrames → FlowFrames → Type 0
Alike at = AreFrames at.unit (AreTwinNumbers at)

abbrev pub SinglesAlike : Places → Option FlowFrames → Option FlowFrames → Type 0
SinglesAlike at None y = Unit {0}
SinglesAlike at (Some x) None = ⊥
SinglesAlike at (Some x) (Some y) = Alike at x y × AreAtOnePace x.stream y.stream

abbrev pub MessagesAlike : Places → Messages → Messages → Type 0
MessagesAlike at (Short x) (Short y) = Alike at x y × AreAtOnePace x.stream y.stream
MessagesAlike at (ToOne x) (ToOne y) = Alike at x y × AreAtOnePace x.stream y.stream
MessagesAlike at (ToAll b) (ToAll c) = AreBroadcast at.unit b c
MessagesAlike at _ _ = ⊥

-- of frames for which nobody asks yet, of this pace
pub record AreBare (timing : Timing) (pace : Pace) (stream : Stream) : Type 0 where
  pub some : 1 ≤ stream.frames
  pub unwanted : stream.wanted ≡ None
  pub period : stream.period ≡ bits_at_least timing pace.period

abbrev BareAlike : Timing → Pace → Places → Messages → Messages → Type 0
BareAlike timing pace at (Short x) (Short y) = Alike at x y × AreAtOnePace x.stream y.stream × AreBare timing pace x.stream × AreBare timing pace y.stream
BareAlike timing pace at (ToOne x) (ToOne y) = Alike at x y × AreAtOnePace x.stream y.stream × AreBare timing pace x.stream × AreBare timing pace y.stream
BareAlike timing pace at (ToAll b) (ToAll c) = AreBroadcast at.unit b c × (b.jitter ≡ bits_at_most timing pace.jitter)
BareAlike timing pace at _ _ = ⊥

pub record LoadAlike (at : Places) (l k : FlowLoad) : Type 0 where
  pub messages : MessagesAlike at l.messages k.messages
  pub singles : SinglesAlike at l.singles k.singles
  pub limit : l.limit ≡ k.limit
  pub bits : l.bits_per_second ≡ k.bits_per_second

abbrev pub LoadsAlike : Places → Option FlowLoad → Option FlowLoad → Type 0
LoadsAlike at None None = Unit {0}
LoadsAlike at None (Some k) = ⊥
LoadsAlike at (Some l) None = ⊥
LoadsAlike at (Some l) (Some k) = LoadAlike at l k

-- a load goes by the pace
same_load_of : (timing : Timing) (x y : Stream) → AreAtOnePace x y → (period : ℕ) → load_of timing x period ≡ load_of timing y period
same_load_of timing x y one period =
    ap (λ (n : ℕ). bits_a_second timing (n * x.bits) period) one.frames ∙ ap (λ (n : ℕ). bits_a_second timing (y.frames * n) period) one.bits

-- ---- more ask for them in the whole

-- more milliseconds have more bits
most_mono : (timing : Timing) (ms more : ℕ) → ms ≤ more → bits_at_most timing ms ≤ bits_at_most timing more
most_mono timing ms more less =
    let times : ms * bits_per_ms timing.bitrate ≤ more * bits_per_ms timing.bitrate = mul-le-mul_right (bits_per_ms timing.bitrate) less in
    ceil-mono (bits_of_ms timing ms * longest_million timing) (bits_of_ms timing more * longest_million timing) (shortest_million timing)
    (shortest_million timing)
    (mul-le-mul_right (longest_million timing) times) (some_slow timing) (omega arith)

module _ (timing : Timing) (pace : Pace) (at : Places) where
  wanted_more : (x y : Stream) → AreBare timing pace x → AreBare timing pace y → x.frames ≤ y.frames → (k n : ℕ) → k ≤ n
      → WantedAlike at.unit x.frames x.period (wanted_for timing pace k x) (wanted_for timing pace n y)
  wanted_more x y bare bare_there frames zero zero less = rw (bare.unwanted, bare_there.unwanted) tt
  wanted_more x y bare bare_there frames zero (suc n) less =
      rw (bare.unwanted)
      (let some = bare_there.some in
      let period = bare.period in
      let positive = some_bits timing pace.period pace.period_positive in
      record { some = omega (arith, some); frames_most = frames; positive = positive; period_most = omega (arith, period) })
  wanted_more x y bare bare_there frames (suc k) zero less = absurd (omega (arith, less))
  wanted_more x y bare bare_there frames (suc k) (suc n) less = record {
    frames = frames;
    positive = some_bits timing pace.period pace.period_positive;
    period = omega arith;
    jitter = omega arith;
    more = omega (arith, less);
  }

  frames_more : (x y : FlowFrames) → Alike at x y → AreBare timing pace x.stream → AreBare timing pace y.stream → (k n : ℕ) → k ≤ n
      → Alike at (frames_for timing pace k x) (frames_for timing pace n y)
  frames_more x y alike bare bare_there k n less = record {
    frames = alike.frames;
    bits = alike.bits;
    positive = alike.positive;
    period = alike.period;
    wanted = wanted_more x.stream y.stream bare bare_there alike.frames k n less;
    least = alike.least;
    greatest = alike.greatest;
    last = alike.last;
    sender = alike.sender;
    receiver = alike.receiver;
    few_sender = alike.few_sender;
    few_receiver = alike.few_receiver;
    twin = alike.twin;
    want = alike.want;
  }

  same_pace : (x y : FlowFrames) (k n : ℕ) → AreAtOnePace x.stream y.stream
      → AreAtOnePace (frames_for timing pace k x).stream (frames_for timing pace n y).stream
  same_pace x y k n one = record { frames = one.frames; period = one.period; bits = one.bits; jitter = one.jitter }

  late_more : (k n : ℕ) → k ≤ n → late_for timing pace k ≤ late_for timing pace n
  late_more zero zero less = omega arith
  late_more zero (suc n) less = most_mono timing pace.jitter (answered_within pace) (omega arith)
  late_more (suc k) zero less = absurd (omega (arith, less))
  late_more (suc k) (suc n) less = omega arith

  jitter_soon : (n : ℕ) → bits_at_most timing pace.jitter ≤ late_for timing pace n
  jitter_soon zero = omega arith
  jitter_soon (suc n) = most_mono timing pace.jitter (answered_within pace) (omega arith)

  broadcast_more : (b c : Broadcast) → AreBroadcast at.unit b c → b.jitter ≡ bits_at_most timing pace.jitter → (k n : ℕ) → k ≤ n
      → AreBroadcast at.unit (broadcast_for timing pace k b) (broadcast_for timing pace n c)
  broadcast_more b c alike jitter k n less = record {
    sender = alike.sender;
    packets = alike.packets;
    least_packets = alike.least_packets;
    has_short = alike.has_short;
    period = alike.period;
    apart = alike.apart;
    jitter = alike.jitter;
    late = late_more k n less;
    jitter_late = let soon = jitter_soon n in omega (arith, jitter, soon);
    askers = less;
    deadline = alike.deadline;
    positive = alike.positive;
  }

  messages_more : (a b : Messages) → BareAlike timing pace at a b → (k n : ℕ) → k ≤ n → MessagesAlike at (messages_for timing pace k a)
      (messages_for timing pace n b)
  messages_more (Short x) (Short y) (alike, one, bare, bare_there) k n less = (frames_more x y alike bare bare_there k n less, same_pace x y k n one)
  messages_more (ToOne x) (ToOne y) (alike, one, bare, bare_there) k n less = (frames_more x y alike bare bare_there k n less, same_pace x y k n one)
  messages_more (ToAll b) (ToAll c) (alike, jitter) k n less = broadcast_more b c alike jitter k n less
  messages_more (Short x) (ToOne y) alike k n less = absurd alike
  messages_more (Short x) (ToAll c) alike k n less = absurd alike
  messages_more (ToOne x) (Short y) alike k n less = absurd alike
  messages_more (ToOne x) (ToAll c) alike k n less = absurd alike
  messages_more (ToAll b) (Short y) alike k n less = absurd alike
  messages_more (ToAll b) (ToOne y) alike k n less = absurd alike

-- as many of the part's requests ask for a flow in the whole, or more
askers_more : (at : Places) (part whole : Plan) → IsPartAt at part whole → (flow there : FlowPlan) → IsFlowThere at flow there
    → askers_of part.requests.items flow ≤ askers_of whole.requests.items there
askers_more at part whole is flow there stands = rw (stands.on_request) (by flow.on_request)
  where
    few : (xs ys : List ℕ) → IsSub IsSame xs ys → length xs ≤ length ys
    few [] ys sub = omega arith
    few (x ∷ xs) [] sub = absurd sub
    few (x ∷ xs) (y ∷ ys) (inl (stands_there, left)) = let rest = few xs ys left in omega (arith, rest)
    few (x ∷ xs) (y ∷ ys) (inr later) = let rest = few (x ∷ xs) ys later in omega (arith, rest)

    by : (b : Bool) → (if b then length (asking_periods part.requests.items flow) else 0)
        ≤ (if b then length (asking_periods whole.requests.items there) else 0)
    by false = omega arith
    by true = few (asking_periods part.requests.items flow) (asking_periods whole.requests.items there)
        (periods_there at part whole is flow there stands)

module _ (at : Places) (part whole : Plan) (is : IsPartAt at part whole) (good : HasGoodNumbers whole) (stays reported : UnitPlan → Bool)
    (decides : DecidesWhoStays whole stays) (reports_who : DecidesWhoStays part reported) (timing : Timing) where
  abbrev us : List UnitPlan
  us = part.units.items

  abbrev ws : List UnitPlan
  ws = whole.units.items

  number_of : (g : ℕ) (group : GroupPlan) → slice_get part.groups.items g ≡ Some group
      → (group.pgn < 131072) × (pf_of group.pgn < 240 → group.pgn % 256 ≡ 0)
  number_of g group here =
      let there = is.groups.each g group here in
      let none : ¬ HasBadPgn group = λ bad. good (at.group g)
      (record { value = there.value; value_is = there.value_is; meets = bad_pgn group there.value there.meets bad }) in (
        elim (cases_lt group.pgn 131072) [ inl below ↦ below | inr above ↦ absurd (none (inl (inr (inl above)))) ],
        λ pdu1. elim (cases_eq (group.pgn % 256) 0) [
          | inl low ↦ low
          | inr other ↦ absurd (none (inl (inl (λ (pgn : IsPgn group.pgn). other (pgn.low pdu1)))))
        ],
      )

  among_flow : (i : ℕ) (flow : FlowPlan) → slice_get part.flows.items i ≡ Some flow → IsAmong (length us) flow.to flow.sender
  among_flow i flow here = record {
    sender_in = all_at (λ (f : FlowPlan). f.sender < length us) part.flows.items part.flow_senders i flow here;
    receiver_in = all_at (λ (f : FlowPlan). (r : ℕ) → f.to ≡ One r → r < length us) part.flows.items part.flow_receivers i flow here;
  }

  among_few : (to : To) (u : ℕ) → IsAmong (length us) to u → IsAmong 128 to u
  among_few to u among =
      let few = part.unit_count in
      record {
        sender_in = let below = among.sender_in in omega (arith, below, few);
        receiver_in = λ v is. let below = among.receiver_in v is in omega (arith, below, few);
      }

  -- a flow, and the one that it is in the whole
  module _ (flow there : FlowPlan) (stands : IsFlowThere at flow there) (among : IsAmong (length us) flow.to flow.sender) (pace : Pace) (group : GroupPlan)
      (page : group.pgn < 131072) (low : pf_of group.pgn < 240 → group.pgn % 256 ≡ 0) where
    flow_twin : (m : ℕ) → twin_ident group flow ≡ Some m → (n : ℕ) × (twin_ident group there ≡ Some n) × AreTwinNumbers at m n
    flow_twin m = go group.when
      where
        go : (w : Option Selector) → option_map (λ _. group_ident (λ u. u) group flow) w ≡ Some m
            → (n : ℕ) × (option_map (λ _. group_ident (λ u. u) group there) w ≡ Some n) × AreTwinNumbers at m n
        go None its = absurd (none-some m its)
        go (Some s) its = (
          group_ident (λ u. u) group there,
          refl,
          record {
            priority = group.priority;
            pgn = group.pgn;
            to = flow.to;
            sender = flow.sender;
            page = page;
            low = low;
            among = among_few flow.to flow.sender among;
            first = sym (same_Some (group_ident (λ u. u) group flow) m its);
            second = ap (λ t. identifier_of group.priority group.pgn (destination_at (λ u. u) t) there.sender) stands.to
                ∙ ap (λ s. identifier_of group.priority group.pgn (destination_at (λ u. u) (to_in at flow.to)) s) stands.sender;
          },
        )

    sender_any : any_unit ws there.sender ≡ option_map at.unit (any_unit us flow.sender)
    sender_any = ap (any_unit ws) stands.sender ∙ any_in at part whole is stays reported decides reports_who flow.sender among.sender_in

    least_ident : (priority pgn : ℕ) → identifier_of priority pgn (destination_at (of_unit ws (least_address stays)) there.to)
        (of_unit ws (least_address stays) there.sender)
        ≤ identifier_of priority pgn (destination_at (of_unit us (least_address reported)) flow.to) (of_unit us (least_address reported) flow.sender)
    least_ident priority pgn = rw (stands.to, stands.sender)
        (least_ident_in at part whole is stays reported decides reports_who priority pgn flow.sender flow.to among)

    greatest_ident : (priority pgn : ℕ)
        → identifier_of priority pgn (destination_at (of_unit us (greatest_address reported)) flow.to) (of_unit us (greatest_address reported) flow.sender)
        ≤ identifier_of priority pgn (destination_at (of_unit ws (greatest_address stays)) there.to) (of_unit ws (greatest_address stays) there.sender)
    greatest_ident priority pgn = rw (stands.to, stands.sender)
        (greatest_ident_in at part whole is stays reported decides reports_who priority pgn flow.sender flow.to among)

    single_alike : Alike at (single_frames timing us reported flow pace group) (single_frames timing ws stays there pace group)
    single_alike = record {
      frames = omega arith;
      bits = refl;
      positive = some_bits timing pace.period pace.period_positive;
      period = omega arith;
      wanted = tt;
      least = least_ident group.priority group.pgn;
      greatest = greatest_ident group.priority group.pgn;
      last = greatest_ident group.priority group.pgn;
      sender = sender_any;
      receiver = refl;
      few_sender = any_few at part whole is stays reported decides reports_who flow.sender among.sender_in;
      few_receiver = λ u its. absurd (none-some u its);
      twin = flow_twin;
      want = tt;
    }

    -- long messages to one unit
    module _ (v : ℕ) (in_units : v < length us) (packets : ℕ) where
      same_window : of_unit us (λ unit. unit.window) v ≡ of_unit ws (λ unit. unit.window) (at.unit v)
      same_window =
          let (unit, here) = unit_at_place at part whole is stays reported decides reports_who v in_units in
          rw (here, there_too at part whole is stays reported decides reports_who v unit here) refl

      packets_same : (packet_frames timing us reported flow v pace packets).stream ≡ (packet_frames timing ws stays there (at.unit v) pace packets).stream
      packets_same = ap (λ w. record {
        frames = 2 + packets + div_ceil packets w;
        period = bits_at_least timing pace.period;
        bits = (packet_frames timing us reported flow v pace packets).stream.bits;
        jitter = bits_at_most timing pace.period + bits_at_most timing pace.jitter;
        wanted = None;
      }) same_window

      session_last : (packet_frames timing us reported flow v pace packets).last_ident
          ≤ (packet_frames timing ws stays there (at.unit v) pace packets).last_ident
      session_last =
          let receiver = greatest_in at part whole is stays reported decides reports_who v in_units in
          let sender : of_unit us (greatest_address reported) flow.sender ≤ of_unit ws (greatest_address stays) there.sender =
          rw (stands.sender) (greatest_in at part whole is stays reported decides reports_who flow.sender among.sender_in) in
          let asks = ident-mono timing.transport_priority 60416 _ _ _ _ receiver sender in
          let answers = ident-mono timing.transport_priority 60416 _ _ _ _ sender receiver in
          omega (arith, asks, answers)

      packets_alike : Alike at (packet_frames timing us reported flow v pace packets) (packet_frames timing ws stays there (at.unit v) pace packets)
      packets_alike = record {
        frames = let same = ap (λ (s : _). s.frames) packets_same in omega (arith, same);
        bits = refl;
        positive = some_bits timing pace.period pace.period_positive;
        period = omega arith;
        wanted = tt;
        least = least_ident timing.transport_priority 60160;
        greatest = greatest_ident timing.transport_priority 60160;
        last = session_last;
        sender = sender_any;
        receiver = any_in at part whole is stays reported decides reports_who v in_units;
        few_sender = any_few at part whole is stays reported decides reports_who flow.sender among.sender_in;
        few_receiver = any_few at part whole is stays reported decides reports_who v in_units;
        twin = λ m its. absurd (none-some m its);
        want = tt;
      }

    broadcast_alike : AreBroadcast at.unit (broadcast_of timing flow pace group) (broadcast_of timing there pace group)
    broadcast_alike = record {
      sender = stands.sender;
      packets = refl;
      least_packets = refl;
      has_short = refl;
      period = refl;
      apart = refl;
      jitter = refl;
      late = omega arith;
      jitter_late = omega arith;
      askers = omega arith;
      deadline = refl;
      positive = some_bits timing pace.period pace.period_positive;
    }

    single_bare : (units : List UnitPlan) (who : UnitPlan → Bool) (one : FlowPlan) → AreBare timing pace (single_frames timing units who one pace group).stream
    single_bare units who one = record { some = omega arith; unwanted = refl; period = refl }

    packets_bare : (units : List UnitPlan) (who : UnitPlan → Bool) (one : FlowPlan) (v packets : ℕ)
        → AreBare timing pace (packet_frames timing units who one v pace packets).stream
    packets_bare units who one v packets = record { some = omega arith; unwanted = refl; period = refl }

    one_pace : (x y : Stream) → x ≡ y → AreAtOnePace x y
    one_pace x y same = record {
      frames = ap (λ (s : Stream). s.frames) same;
      period = ap (λ (s : Stream). s.period) same;
      bits = ap (λ (s : Stream). s.bits) same;
      jitter = ap (λ (s : Stream). s.jitter) same;
    }

    long_alike : (to : To) → ((v : ℕ) → to ≡ One v → v < length us)
        → BareAlike timing pace at (long_messages timing us reported flow pace group to) (long_messages timing ws stays there pace group (to_in at to))
    long_alike ToAllUnits known = (broadcast_alike, refl)
    long_alike (One v) known = (
      packets_alike v (known v refl) (packets_of group.most),
      one_pace _ _ (packets_same v (known v refl) (packets_of group.most)),
      packets_bare us reported flow v (packets_of group.most),
      packets_bare ws stays there (at.unit v) (packets_of group.most),
    )

    singles_bare : Alike at (single_frames timing us reported flow pace group) (single_frames timing ws stays there pace group)
        × AreAtOnePace (single_frames timing us reported flow pace group).stream (single_frames timing ws stays there pace group).stream
        × AreBare timing pace (single_frames timing us reported flow pace group).stream
        × AreBare timing pace (single_frames timing ws stays there pace group).stream
    singles_bare = (single_alike, one_pace _ _ refl, single_bare us reported flow, single_bare ws stays there)

    messages_alike : BareAlike timing pace at (messages_of timing us reported flow pace group) (messages_of timing ws stays there pace group)
    messages_alike = elim (is_always_short group) as (λ b. BareAlike timing pace at
        (if b then Short (single_frames timing us reported flow pace group) else long_messages timing us reported flow pace group flow.to)
        (if b then Short (single_frames timing ws stays there pace group) else long_messages timing ws stays there pace group there.to)) [
          | true ↦ singles_bare
          | false ↦ subst (λ t. BareAlike timing pace at (long_messages timing us reported flow pace group flow.to)
              (long_messages timing ws stays there pace group t))
              (sym stands.to) (long_alike flow.to among.receiver_in)
        ]

    -- how many ask for it, in the part and in the whole
    module _ (k n : ℕ) (less : k ≤ n) where
      singles_alike : SinglesAlike at (option_map (frames_for timing pace k) (singles_of timing us reported flow pace group))
          (option_map (frames_for timing pace n) (singles_of timing ws stays there pace group))
      singles_alike = elim (not (is_always_short group) && has_short group) as (λ b. SinglesAlike at
          (option_map (frames_for timing pace k) (if b then Some (single_frames timing us reported flow pace group) else None))
          (option_map (frames_for timing pace n) (if b then Some (single_frames timing ws stays there pace group) else None))) [
            | true ↦ (
              frames_more timing pace at _ _ single_alike (single_bare us reported flow) (single_bare ws stays there) k n less,
              same_pace timing pace at (single_frames timing us reported flow pace group) (single_frames timing ws stays there pace group) k n
                  (one_pace _ _ refl),
            )
            | false ↦ tt
          ]

      load_same : (a b : Messages) → BareAlike timing pace at a b → (period : ℕ) → load_of_messages timing a period ≡ load_of_messages timing b period
      load_same (Short x) (Short y) (alike, one, bare, bare_there) period = same_load_of timing x.stream y.stream one period
      load_same (ToOne x) (ToOne y) (alike, one, bare, bare_there) period = same_load_of timing x.stream y.stream one period
      load_same (Short x) (ToOne y) alike period = absurd alike
      load_same (Short x) (ToAll c) alike period = absurd alike
      load_same (ToOne x) (Short y) alike period = absurd alike
      load_same (ToOne x) (ToAll c) alike period = absurd alike
      load_same (ToAll b) (Short y) alike period = absurd alike
      load_same (ToAll b) (ToOne y) alike period = absurd alike
      load_same (ToAll b) (ToAll c) alike period = refl

      load_alike : LoadAlike at (load_for timing pace k (flow_load timing us reported flow pace group))
          (load_for timing pace n (flow_load timing ws stays there pace group))
      load_alike = record {
        messages = messages_more timing pace at (messages_of timing us reported flow pace group)
            (messages_of timing ws stays there pace group) messages_alike k n less;
        singles = singles_alike;
        limit = refl;
        bits = load_same (messages_of timing us reported flow pace group) (messages_of timing ws stays there pace group) messages_alike pace.period;
      }

  group_is : (i : ℕ) (flow : FlowPlan) → slice_get part.flows.items i ≡ Some flow → (group : GroupPlan) × (slice_get part.groups.items flow.group ≡ Some group)
  group_is i flow here = value_at part.groups.items flow.group
      (all_at (λ (f : FlowPlan). f.group < length part.groups.items) part.flows.items part.flow_groups i flow here)

  pub flow_alike : (i : ℕ) (flow there : FlowPlan) → slice_get part.flows.items i ≡ Some flow → IsFlowThere at flow there
      → LoadsAlike at (load_of_flow timing part reported flow) (load_of_flow timing whole stays there)
  flow_alike i flow there here stands = go flow.pace refl
    where
      go : (pace : Option Pace) → flow.pace ≡ pace → LoadsAlike at (load_of_flow timing part reported flow) (load_of_flow timing whole stays there)
      go None none = rw (stands.pace, none) tt
      go (Some pace) paced =
          let (group, sent) = group_is i flow here in
          let other = is.groups.each flow.group group sent in
          let number = number_of flow.group group sent in
          let here_is : load_of_flow timing part reported flow ≡ Some (asked_load timing part.requests.items us reported flow pace group) =
          ap (option_and_then (λ (p : Pace). option_map (asked_load timing part.requests.items us reported flow p)
          (slice_get part.groups.items flow.group))) paced
          ∙ ap (option_map (asked_load timing part.requests.items us reported flow pace)) sent in
          let there_is : load_of_flow timing whole stays there ≡ Some (asked_load timing whole.requests.items ws stays there pace other.value) =
          ap (option_and_then (λ (p : Pace). option_map (asked_load timing whole.requests.items ws stays there p) (slice_get whole.groups.items there.group)))
          (stands.pace ∙ paced)
          ∙ ap (option_map (asked_load timing whole.requests.items ws stays there pace)) (ap (slice_get whole.groups.items) stands.group ∙ other.value_is) in
          subst (λ (x : Option FlowLoad). LoadsAlike at x (load_of_flow timing whole stays there)) (sym here_is)
          (subst (λ (y : Option FlowLoad). LoadsAlike at (Some (asked_load timing part.requests.items us reported flow pace group)) y) (sym there_is)
          (subst (λ (l : FlowLoad). LoadAlike at (load_for timing pace (askers_of part.requests.items flow) (flow_load timing us reported flow pace group))
          (load_for timing pace (askers_of whole.requests.items there) l)) (same_load group other.value other.meets timing ws stays there pace)
          (load_alike flow there stands (among_flow i flow here) pace group number.0 number.1 (askers_of part.requests.items flow)
          (askers_of whole.requests.items there) (askers_more at part whole is flow there stands))))

  -- the unit of a long message to all is one of the part's
  pub flow_sender : (i : ℕ) (flow : FlowPlan) → slice_get part.flows.items i ≡ Some flow → (l : FlowLoad) → load_of_flow timing part reported flow ≡ Some l
      → (b : Broadcast) → l.messages ≡ ToAll b → b.sender < length us
  flow_sender i flow here l is_l b to_all = go flow.pace refl
    where
      k : ℕ
      k = askers_of part.requests.items flow

      F : Pace → Option FlowLoad
      F pace = option_map (asked_load timing part.requests.items us reported flow pace) (slice_get part.groups.items flow.group)

      inj : (x y : Broadcast) → ToAll x ≡ ToAll y → x ≡ y
      inj x y same = cc

      by_to : (pace : Pace) (group : GroupPlan) (to : To) → messages_for timing pace k (long_messages timing us reported flow pace group to) ≡ ToAll b
          → flow.sender ≡ b.sender
      by_to pace group ToAllUnits same = ap (λ (x : Broadcast). x.sender) (inj (broadcast_for timing pace k (broadcast_of timing flow pace group)) b same)
      by_to pace group (One v) same = absurd (let stated = same in cc)

      by_short : (pace : Pace) (group : GroupPlan) (short : Bool)
          → messages_for timing pace k
          (if short then Short (single_frames timing us reported flow pace group) else long_messages timing us reported flow pace group flow.to) ≡ ToAll b
          → flow.sender ≡ b.sender
      by_short pace group true same = absurd (let stated = same in cc)
      by_short pace group false same = by_to pace group flow.to same

      go : (pace : Option Pace) → flow.pace ≡ pace → b.sender < length us
      go None none = absurd (none-some l (sym (ap (option_and_then F) none) ∙ is_l))
      go (Some pace) paced =
          let (group, sent) = group_is i flow here in
          let same : asked_load timing part.requests.items us reported flow pace group ≡ l =
          same_Some _ l (sym (ap (option_and_then F) paced ∙ ap (option_map (asked_load timing part.requests.items us reported flow pace)) sent) ∙ is_l) in
          let sender = by_short pace group (is_always_short group) (ap (λ (x : FlowLoad). x.messages) same ∙ to_all) in
          subst (λ n. n < length us) sender (among_flow i flow here).sender_in

-- ---- frames of flows

abbrev pub FramesAlike : Places → Option FlowFrames → Option FlowFrames → Type 0
FramesAlike at None y = Unit {0}
FramesAlike at (Some x) None = ⊥
FramesAlike at (Some x) (Some y) = Alike at x y × (x.stream.jitter ≤ y.stream.jitter)

module _ (at : Places) where
  wanting_alike : (b c : Broadcast) → AreBroadcast at.unit b c → Alike at (wanting b) (wanting c)
  wanting_alike b c are = record {
    frames = omega arith;
    bits = refl;
    positive = omega arith;
    period = omega arith;
    wanted = tt;
    least = omega arith;
    greatest = omega arith;
    last = omega arith;
    sender = refl;
    receiver = refl;
    few_sender = λ u its. absurd (none-some u its);
    few_receiver = λ u its. absurd (none-some u its);
    twin = λ m its. absurd (none-some m its);
    want = are;
  }

  own_alike : (a b : Messages) → MessagesAlike at a b → FramesAlike at (own_frames a) (own_frames b)
  own_alike (Short x) (Short y) alike = let same = alike.1.jitter in (alike.0, omega (arith, same))
  own_alike (Short x) (ToOne y) alike = absurd alike
  own_alike (Short x) (ToAll c) alike = absurd alike
  own_alike (ToOne x) (Short y) alike = absurd alike
  own_alike (ToOne x) (ToOne y) alike = let same = alike.1.jitter in (alike.0, omega (arith, same))
  own_alike (ToOne x) (ToAll c) alike = absurd alike
  own_alike (ToAll b) (Short y) alike = absurd alike
  own_alike (ToAll b) (ToOne y) alike = absurd alike
  own_alike (ToAll b) (ToAll c) alike = (wanting_alike b c alike, omega arith)

  pub flows_alike : (l k : Option FlowLoad) → LoadsAlike at l k → FramesAlike at (frames_of_flow l) (frames_of_flow k)
  flows_alike None k alike = tt
  flows_alike (Some l) None alike = absurd alike
  flows_alike (Some l) (Some k) alike = own_alike l.messages k.messages alike.messages

  pub singles_there : (l k : Option FlowLoad) → LoadsAlike at l k → FramesAlike at (singles_of_flow l) (singles_of_flow k)
  singles_there None k alike = tt
  singles_there (Some l) None alike = absurd alike
  singles_there (Some l) (Some k) alike = go l.singles k.singles alike.singles
    where
      go : (x y : Option FlowFrames) → SinglesAlike at x y → FramesAlike at x y
      go None y are = tt
      go (Some x) None are = absurd are
      go (Some x) (Some y) are = let same = are.1.jitter in (are.0, omega (arith, same))
