-- A delay that is reported of the whole bounds its flow's in the part.
use Rattle.std.proofs.Common.{◌≡◌, ℕ, ◌<◌, ◌≤◌, Bool, List, ◌++◌, length, map, Option, Some, None, option_map, refl, sym, ◌∙◌, ap, subst}
use Rattle.std.specs.List.{slice_get}
use Rattle.std.proofs.lemmas.Option.{same_Some, slice_get-map}
use Rattle.j39_findings.specs.Standing.{DecidesWhoStays}
use Rattle.j39_network.specs.declared.plan.Plan.{Plan}
use Rattle.j39_network.specs.declared.plan.timing.Timing.{Timing}
use Rattle.j39_network.specs.declared.plan.unit_plan.UnitPlan.{UnitPlan}
use Rattle.j39_load.specs.declared.frames.flow_frames.FlowFrames.{FlowFrames}
use Rattle.j39_load.specs.declared.frames.messages.Messages.{Messages}
use Rattle.j39_load.specs.declared.frames.messages.Messages.TheVariants.{Short, ToAll, ToOne}
use Rattle.j39_load.specs.declared.loads.flow_load.FlowLoad.{FlowLoad}
use Rattle.j39_load.specs.declared.waits.delay.Delay.{Delay}
use Rattle.j39_load.specs.declared.waits.delay.Delay.TheVariants.{Beyond, Late, Long, Whole, Within}
use Rattle.std.specs.Option.{option_map_or}
use Rattle.std.proofs.lemmas.Bool.{and_from, and_parts, cases_Bool, eqb-true, false≢true, ne_eqb}
use Rattle.std.proofs.Common.{zero, suc, ◌+◌, ◌-◌, ◌*◌, ◌^◌, ◌==◌, ◌&&◌, arith, true, false, inl, inr, nat_le, if◌then◌else◌, get_or}
use Rattle.j39_load.specs.AnyQueues.{Buffering, IsBuffering}
use Rattle.j39_load.specs.Asked.{announcements_of_unit, Asked, asked_of, frames_asked, frames_of_flow, frames_of_request, own_frames, packets_of_unit}
use Rattle.j39_load.specs.Asked.{singles_of_flow}
use Rattle.j39_load.specs.Delays.{HasDelay, HasDelayBy, IsDelayOf, IsFrameDelay}
use Rattle.j39_load.specs.LiveClaims.{last_claim, unplanned_end}
use Rattle.j39_load.specs.FlowLoads.{load_of_flow, loads_of}
use Rattle.j39_load.proofs.StreamsBefore.{get_or_inside}
use Rattle.j39_load.proofs.WholeMessages.{announcements_read, packets_read}
use Rattle.std.proofs.lemmas.Bool.{eq-eqb, le-leb, leb-true}
use Rattle.std.proofs.lemmas.Option.{get_or_from_slice_get, none-some, slice_get-get_or, slice_get_within}
use Rattle.j39_load.specs.declared.frames.broadcast.Broadcast.{Broadcast}
use Rattle.j39_load.specs.declared.loads.unit_load.UnitLoad.{UnitLoad}
use Rattle.j39_load.specs.declared.waits.whole_time.WholeTime.{WholeTime}
use Rattle.j39_load.specs.Broadcasts.{broadcast_from}
use Rattle.j39_load.specs.declared.waits.turn.Turn.{Turn}
use Rattle.j39_load.specs.Delays.{announcements_place, flow_turn, IsTurn, IsTurnBy, IsWaitIn, IsWholeTime, keeps_pace, keeps_up, known_turn, packets_place}
use Rattle.j39_load.specs.Delays.{longest_pause, own_time, packet_time}
use Rattle.j39_load.specs.Loads.{frames_to_all}
use Rattle.j39_part_laws.proofs.AllFrames.{announcements_at, announcements_place_there, packets_at, packets_place_there, unit_asks, units_some}
use Rattle.j39_part_laws.proofs.Delays.{wait_in_no_later}
use Rattle.j39_part_laws.proofs.FlowLoads.{flow_sender}
use Rattle.j39_part_laws.proofs.Frames.{AreAtOnePace, AreBroadcast}
use Rattle.j39_part_laws.proofs.Shares.{mul-mono}
use Rattle.j39_part_laws.proofs.UnitLoads.{UnitsAlike}
use Rattle.j39_part_laws.specs.PartDelays.{DelaysNoLater, IsNoLater, IsWholeNoLater}
use Rattle.j39_part_laws.specs.PartLoads.{counting, HasGoodNumbers}
use Rattle.j39_part_laws.proofs.Busier.{same_asked}
use Rattle.j39_part_laws.specs.PlanParts.{AreSome, IsPartAt, Places}
use Rattle.j39_part_laws.proofs.AllFrames.{append_front, flows_some, frames_place, frames_some}
use Rattle.j39_part_laws.proofs.Buffering.{Always}
use Rattle.j39_part_laws.proofs.Delays.{frame_no_later}
use Rattle.j39_part_laws.proofs.FlowLoads.{LoadsAlike, MessagesAlike}
use Rattle.j39_part_laws.proofs.Frames.{AreFramesWhere}
use Rattle.j39_part_laws.proofs.Loads.{flow_place, some_counted}
use Rattle.j39_part_laws.proofs.Places.{value_at}
use Rattle.j39_part_laws.proofs.PlanFrames.{AreTwinNumbers, one_twin}

-- ---- turns of units

-- the turn is no longer, and neither is what it has beside a message of so many packets
pub record IsTurnWithin (packets : ℕ) (s t : Turn) : Type 0 where
  pub time : s.time ≤ t.time
  pub others : s.time + (t.announcement + packets * t.packet) ≤ t.time + (s.announcement + packets * s.packet)

-- where the second is known the first is, and is within it
abbrev IsKnownTurn : ℕ → Option Turn → Option Turn → Type 0
IsKnownTurn packets tp tw = (t : Turn) → tw ≡ Some t → (s : Turn) × (tp ≡ Some s) × IsTurnWithin packets s t

-- one of so many flows, and so many of all packets, are the message's own
others_less : (f g p q n a b k m c d r t : ℕ) → f ≡ c + 1 → g ≡ d + 1 → p ≡ n + r → q ≡ n + t → c ≤ d → r ≤ t → a ≤ b → k ≤ m
    → f * a + p * k + (b + n * m) ≤ g * b + q * m + (a + n * k)
others_less f g p q n a b k m c d r t f_is g_is p_is q_is flows packets first later =
    let one : c * a ≤ d * b = mul-mono c d a b flows first in
    let two : r * k ≤ t * m = mul-mono r t k m packets later in
    let own : f * a ≡ (c + 1) * a = ap (λ (x : ℕ). x * a) f_is in
    let own_there : g * b ≡ (d + 1) * b = ap (λ (x : ℕ). x * b) g_is in
    let all : p * k ≡ (n + r) * k = ap (λ (x : ℕ). x * k) p_is in
    let all_there : q * m ≡ (n + t) * m = ap (λ (x : ℕ). x * m) q_is in
    omega (arith, one, two, own, own_there, all, all_there)

turn_within : (f g p q n a b k m : ℕ) → 1 ≤ f → f ≤ g → n ≤ p → p ≤ q → a ≤ b → k ≤ m
    → IsTurnWithin n (record { time = f * a + p * k; announcement = a; packet = k }) (record { time = g * b + q * m; announcement = b; packet = m })
turn_within f g p q n a b k m some flows has packets first later =
    let one = mul-mono f g a b flows first in
    let two = mul-mono p q k m packets later in
    record {
      time = omega (arith, one, two);
      others = others_less f g p q n a b k m (f - 1) (g - 1) (p - n) (q - n) (omega (arith, some)) (omega (arith, some, flows)) (omega (arith, has))
          (omega (arith, has, packets)) (omega (arith, flows)) (omega (arith, packets)) first later;
    }

-- so messages to all do for which so many ask
abbrev up_by : ℕ → Broadcast → Turn → Bool
up_by n d u = if n == 0 then keeps_pace d u else (n == 1 && nat_le (u.time + d.late) d.apart)

still_keeps_up : (unit : ℕ → ℕ) (b c : Broadcast) → AreBroadcast unit b c → (s t : Turn) → IsTurnWithin b.packets s t → keeps_up c t ≡ true
    → keeps_up b s ≡ true
still_keeps_up unit b c alike s t within reported =
    by b.askers c.askers refl refl reported
  where
    -- where nobody asks for them here
    paced : t.time ≤ c.apart → c.jitter + t.time ≤ c.apart + own_time c t → keeps_pace b s ≡ true
    paced low next =
        let own : own_time c t ≡ t.announcement + b.packets * t.packet = ap (λ (n : ℕ). t.announcement + n * t.packet) alike.packets in
        let time = within.time in
        let others = within.others in
        let apart = alike.apart in
        let late = alike.jitter in
        and_from (nat_le s.time b.apart) (nat_le (b.jitter + s.time) (b.apart + own_time b s)) (le-leb s.time b.apart (omega (arith, low, time, apart)))
        (le-leb (b.jitter + s.time) (b.apart + own_time b s) (omega (arith, next, own, others, apart, late)))

    never : (n : ℕ) → (suc n == 0) ≡ false
    never n = ne_eqb (suc n) 0 (λ same. omega (arith, same))

    by : (m n : ℕ) → b.askers ≡ m → c.askers ≡ n → keeps_up c t ≡ true → keeps_up b s ≡ true
    by zero zero none none_there up =
        let pace : keeps_pace c t ≡ true = ap (λ (k : ℕ). up_by k c t) (sym none_there) ∙ up in
        let (in_period, soon) = and_parts (nat_le t.time c.apart) (nat_le (c.jitter + t.time) (c.apart + own_time c t)) pace in
        ap (λ (k : ℕ). up_by k b s) none
        ∙ paced (leb-true t.time c.apart in_period) (leb-true (c.jitter + t.time) (c.apart + own_time c t) soon)
    by zero (suc n) none some up =
        let both : (suc n == 1 && nat_le (t.time + c.late) c.apart) ≡ true =
        ap (λ (x : Bool). if x then keeps_pace c t else (suc n == 1 && nat_le (t.time + c.late) c.apart)) (sym (never n))
        ∙ (ap (λ (k : ℕ). up_by k c t) (sym some) ∙ up) in
        let fits = leb-true (t.time + c.late) c.apart (and_parts (suc n == 1) (nat_le (t.time + c.late) c.apart) both).1 in
        let late = alike.jitter in
        let soon = alike.jitter_late in
        ap (λ (k : ℕ). up_by k b s) none ∙ paced (omega (arith, fits)) (omega (arith, fits, late, soon))
    by (suc m) zero some none up = absurd (let askers = alike.askers in omega (arith, askers, some, none))
    by (suc m) (suc n) some_here some up =
        let both : (suc n == 1 && nat_le (t.time + c.late) c.apart) ≡ true =
        ap (λ (x : Bool). if x then keeps_pace c t else (suc n == 1 && nat_le (t.time + c.late) c.apart)) (sym (never n))
        ∙ (ap (λ (k : ℕ). up_by k c t) (sym some) ∙ up) in
        let parts = and_parts (suc n == 1) (nat_le (t.time + c.late) c.apart) both in
        let one = eqb-true (suc n) 1 parts.0 in
        let fits = leb-true (t.time + c.late) c.apart parts.1 in
        let askers = alike.askers in
        let single : suc m ≡ 1 = omega (arith, askers, some_here, some, one) in
        let time = within.time in
        let apart = alike.apart in
        let late = alike.late in
        ap (λ (k : ℕ). up_by k b s) some_here
        ∙ (ap (λ (x : Bool). if x then keeps_pace b s else (suc m == 1 && nat_le (s.time + b.late) b.apart)) (never m)
        ∙ and_from (suc m == 1) (nat_le (s.time + b.late) b.apart) (eq-eqb (suc m) 1 single)
        (le-leb (s.time + b.late) b.apart (omega (arith, fits, time, apart, late))))

module _ (at : Places) (part whole : Plan) (is : IsPartAt at part whole) (good : HasGoodNumbers whole) (timing : Timing) (unplanned : ℕ)
    (range : unplanned ≤ 1000) (busier : timing.unplanned ≤ unplanned)
    (stays reported : UnitPlan → Bool)
    (decides : DecidesWhoStays whole stays) (reports_who : DecidesWhoStays part reported) where
  abbrev busy : Timing
  busy = counting timing unplanned range

  abbrev ls : List (Option FlowLoad)
  ls = loads_of timing part reported

  abbrev lus_here : List (Option UnitLoad)
  lus_here = (asked_of timing part reported).units

  abbrev asked : Asked
  asked = asked_of timing part reported

  abbrev asked_there : Asked
  asked_there = asked_of timing whole stays

  -- what isn't planned has the same identifiers there
  abbrev ends : ℕ
  ends = unplanned_end whole

  same_end : unplanned_end part ≡ unplanned_end whole
  same_end = ap (λ b. end_of b part.timing) is.live ∙ ap (end_of whole.live) is.timing
    where
      end_of : Bool → Option Timing → ℕ
      end_of live timing = if live && option_map_or (λ (t : Timing). t.unplanned == 0) timing false then last_claim + 1 else 2 ^ 29

  abbrev place : ℕ → ℕ
  place = frames_place at part whole is good stays reported decides reports_who timing

  all_some : AreSome place (AreFramesWhere at.unit (AreTwinNumbers at) (Always at.unit (AreTwinNumbers at) (one_twin at))) (frames_asked asked)
      (frames_asked asked_there)
  all_some = some_counted at (Always at.unit (AreTwinNumbers at) (one_twin at)) place (frames_asked asked) (frames_asked asked_there)
      (frames_some at part whole is good stays reported decides reports_who timing)

  -- a flow's own frames stand at its place
  own_at : (f : ℕ) (l : FlowLoad) (x : FlowFrames) → slice_get ls f ≡ Some (Some l) → l.messages ≡ Short x → slice_get (frames_asked asked) f ≡ Some (Some x)
  own_at f l x its short = append_front (map frames_of_flow ls)
      (map singles_of_flow ls ++ (map packets_of_unit asked.units ++ (map announcements_of_unit asked.units ++ map frames_of_request asked.requests))) f
      (Some x)
      (slice_get-map frames_of_flow ls f ∙ ap (option_map frames_of_flow) its ∙ ap (λ m. Some (own_frames m)) short)

  -- also in the whole
  own_there : (f : ℕ) (k : FlowLoad) (y : FlowFrames) → slice_get asked_there.flows f ≡ Some (Some k) → k.messages ≡ Short y
      → slice_get (frames_asked asked_there) f ≡ Some (Some y)
  own_there f k y its short = append_front (map frames_of_flow asked_there.flows)
      (map singles_of_flow asked_there.flows
      ++ (map packets_of_unit asked_there.units ++ (map announcements_of_unit asked_there.units ++ map frames_of_request asked_there.requests))) f (Some y)
      (slice_get-map frames_of_flow asked_there.flows f ∙ ap (option_map frames_of_flow) its ∙ ap (λ m. Some (own_frames m)) short)

  -- frames that are read at a place stand there
  stands_at : (p : ℕ) (y : FlowFrames) → get_or (frames_asked asked_there) p None ≡ Some y → slice_get (frames_asked asked_there) p ≡ Some (Some y)
  stands_at p y read = slice_get-get_or (frames_asked asked_there) p None (get_or_inside (frames_asked asked_there) p y read) ∙ ap Some read

  module _ (f : ℕ) (below : f < length part.flows.items) (bp bw : Buffering) (is_p : IsBuffering timing ends (frames_asked asked) bp)
      (is_w : IsBuffering busy ends (frames_asked asked_there) bw) where
    load_there : (o k : Option FlowLoad) → slice_get ls f ≡ Some o → slice_get asked_there.flows (at.flow f) ≡ Some k → LoadsAlike at o k
    load_there o k at_o at_k =
        let its = (flows_some at part whole is good stays reported decides reports_who timing).each f o at_o in
        let same : its.value ≡ k = same_Some its.value k (sym its.value_is ∙ at_k) in
        subst (LoadsAlike at o) same its.meets

    -- ---- long messages to all

    turn_by : (u packets : ℕ) → u < length lus_here → (l : UnitLoad) → slice_get lus_here u ≡ Some (Some l) → 1 ≤ l.flows → packets ≤ l.all_packets
        → (tp tw : Option Turn) → (y : Option UnitLoad) → get_or asked_there.units (at.unit u) None ≡ y → UnitsAlike at (Some l) y
        → IsTurnBy timing asked bp u (Some l) tp → IsTurnBy busy asked_there bw (at.unit u) y tw
        → IsKnownTurn packets tp tw
    turn_by u packets few l at_l some has tp tw None at_y alike here there t known = absurd alike
    turn_by u packets few l at_l some has tp tw (Some k) at_y alike (ap_here, sp, wa, ws, is_p_turn) (None, sw, wa_there, ws_there, is_w_turn) t known =
        absurd (none-some t (sym is_w_turn ∙ known))
    turn_by u packets few l at_l some has tp tw (Some k) at_y alike (ap_here, sp, wa, ws, is_p_turn) (Some aw, None, wa_there, ws_there, is_w_turn) t known =
        absurd (none-some t (sym is_w_turn ∙ known))
    turn_by u packets few l at_l some has tp tw (Some k) at_y alike (ap_here, sp, wa, ws, is_p_turn) (Some aw, Some sw, wa_there, ws_there, is_w_turn) t known =
        let (a, is_a, a_less) = wait_in_no_later at.unit (AreTwinNumbers at) (one_twin at) timing unplanned range busier (frames_asked asked)
        (frames_asked asked_there) place all_some ends bp.waits bw.waits
        is_p.bounded is_w.bounded bp bw is_p is_w refl refl (2 * length ls + (length lus_here + u)) l.announcements k.announcements
        (announcements_at at part whole is good stays reported decides reports_who timing u l at_l)
        (subst (λ p. slice_get (frames_asked asked_there) p ≡ Some (Some k.announcements))
        (sym (announcements_place_there at part whole is good stays reported decides reports_who timing u few))
        (stands_at (announcements_place asked_there (at.unit u)) k.announcements (announcements_read asked_there (at.unit u) k at_y)))
        alike.announcements.0 ap_here aw wa
        (subst (λ p. IsWaitIn busy bw p k.announcements (Some aw))
        (sym (announcements_place_there at part whole is good stays reported decides reports_who timing u few)) wa_there) in
        let (s, is_s, s_less) = wait_in_no_later at.unit (AreTwinNumbers at) (one_twin at) timing unplanned range busier (frames_asked asked)
        (frames_asked asked_there) place all_some ends bp.waits bw.waits
        is_p.bounded is_w.bounded bp bw is_p is_w refl refl (2 * length ls + u) l.packets k.packets
        (packets_at at part whole is good stays reported decides reports_who timing u l at_l)
        (subst (λ p. slice_get (frames_asked asked_there) p ≡ Some (Some k.packets))
        (sym (packets_place_there at part whole is good stays reported decides reports_who timing u few))
        (stands_at (packets_place asked_there (at.unit u)) k.packets (packets_read asked_there (at.unit u) k at_y)))
        alike.packets.0 sp sw ws
        (subst (λ p. IsWaitIn busy bw p k.packets (Some sw)) (sym
        (packets_place_there at part whole is good stays reported decides reports_who timing u few)) ws_there) in
        let bits = alike.packets.0.bits in
        let first_bits = alike.announcements.0.bits in
        let one : packet_time timing l s ≤ packet_time timing k sw = omega (arith, s_less, bits) in
        elim (cases_Bool (nat_le (packet_time timing k sw) (longest_pause timing))) [
          | inr over ↦ absurd (none-some t (sym (is_w_turn ∙ ap (λ b. if b then Some (flow_turn timing k aw sw) else None) over) ∙ known))
          | inl within ↦
              let reported_w : flow_turn timing k aw sw ≡ t =
              same_Some _ t (sym (is_w_turn ∙ ap (λ b. if b then Some (flow_turn timing k aw sw) else None) within) ∙ known) in
              let low = leb-true (packet_time timing k sw) (longest_pause timing) within in
              let fits : nat_le (packet_time timing l s) (longest_pause timing) ≡ true = le-leb (packet_time timing l s) (longest_pause timing)
              (omega (arith, one, low)) in (
                flow_turn timing l a s,
                is_p_turn ∙ ap (λ o. known_turn timing l o sp) is_a ∙ ap (λ o. known_turn timing l (Some a) o) is_s
                    ∙ ap (λ b. if b then Some (flow_turn timing l a s) else None) fits,
                subst (λ x. IsTurnWithin packets (flow_turn timing l a s) x) reported_w
                    (turn_within l.flows k.flows l.all_packets k.all_packets packets (a + l.announcements.stream.bits) (aw + k.announcements.stream.bits)
                    (packet_time timing l s) (packet_time timing k sw) some alike.flows has alike.all_packets (omega (arith, a_less, first_bits)) one),
              )
        ]

    whole_no_later : (l : FlowLoad) → slice_get ls f ≡ Some (Some l) → (b c : Broadcast) → l.messages ≡ ToAll b → AreBroadcast at.unit b c → (v w : WholeTime)
        → IsWholeTime timing asked bp b v → IsWholeTime busy asked_there bw c w → IsWholeNoLater v w
    whole_no_later l at_l b c to_all alike v w (tp, turn_p, is_v) (tw, turn_w, is_w_time) =
        let (flow, flow_at) = value_at part.flows.items f below in
        let is_l : load_of_flow timing part reported flow ≡ Some l =
        same_Some _ (Some l) (sym (slice_get-map (load_of_flow timing part reported) part.flows.items f ∙ ap
        (option_map (load_of_flow timing part reported)) flow_at) ∙ at_l) in
        let within = flow_sender at part whole is good stays reported decides reports_who timing f flow flow_at l is_l b to_all in
        let (unit, at_u, by_b) = unit_asks at part whole is good stays reported decides reports_who timing f b.sender (Some l) b at_l
        (ap (broadcast_from b.sender) to_all ∙ ap (λ t. if t then Some b else None) (eq-eqb b.sender b.sender refl)) within in
        let its = (units_some at part whole is good stays reported decides reports_who timing).each b.sender (Some unit) at_u in
        let few = slice_get_within lus_here b.sender (Some unit) at_u in
        let known = turn_by b.sender b.packets few unit at_u by_b.flows by_b.packets tp tw its.value
        (get_or_from_slice_get asked_there.units (at.unit b.sender) its.value None its.value_is) its.meets
        (subst (λ o. IsTurnBy timing asked bp b.sender o tp) (get_or_from_slice_get lus_here b.sender (Some unit) None at_u) turn_p)
        (subst (λ o. IsTurnBy busy asked_there bw (at.unit b.sender) o tw)
        (get_or_from_slice_get asked_there.units (at.unit b.sender) its.value None its.value_is)
        (subst (λ s. IsTurn busy asked_there bw s tw) alike.sender turn_w)) in
        record {
          frames = ap (λ (x : WholeTime). x.frames) is_v ∙ ap frames_to_all (sym alike.packets) ∙ sym (ap (λ (x : WholeTime). x.frames) is_w_time);
          limit = ap (λ (x : WholeTime). x.limit) is_v ∙ sym alike.deadline ∙ sym (ap (λ (x : WholeTime). x.limit) is_w_time);
          bits = λ n reported_n. later tw known n (sym (ap (λ (x : WholeTime). x.bits) is_w_time) ∙ reported_n) (ap (λ (x : WholeTime). x.bits) is_v);
          each = λ reported_each. ap (λ (x : WholeTime). x.each) is_v ∙ each_here tw known (sym (ap (λ (x : WholeTime). x.each) is_w_time) ∙ reported_each);
        }
      where
        later : (t : Option Turn) → IsKnownTurn b.packets tp t → (n : ℕ) → option_map (λ (x : Turn). c.jitter + x.time) t ≡ Some n
            → v.bits ≡ option_map (λ (x : Turn). b.jitter + x.time) tp → (m : ℕ) × (v.bits ≡ Some m) × (m ≤ n)
        later None known n reported_n is_bits = absurd (none-some n reported_n)
        later (Some t) known n reported_n is_bits =
            let (m, is_m, within_t) = known t refl in
            let same = same_Some (c.jitter + t.time) n reported_n in
            let late = alike.jitter in
            let less = within_t.time in
            (b.jitter + m.time, is_bits ∙ ap (option_map (λ (x : Turn). b.jitter + x.time)) is_m, omega (arith, same, late, less))

        each_here : (t : Option Turn) → IsKnownTurn b.packets tp t → option_map_or (keeps_up c) t false ≡ true → option_map_or (keeps_up b) tp false ≡ true
        each_here None known reported_each = absurd (false≢true reported_each)
        each_here (Some t) known reported_each =
            let (m, is_m, within_t) = known t refl in
            ap (λ o. option_map_or (keeps_up b) o false) is_m ∙ still_keeps_up at.unit b c alike m t within_t reported_each

    by_to_one : (x y : FlowFrames) → AreAtOnePace x.stream y.stream → (limit high : ℕ) (d e : Delay) → IsDelayOf timing asked bp f (ToOne x) limit d
        → IsDelayOf busy asked_there bw (at.flow f) (ToOne y) high e → IsNoLater (Some d) (Some e)
    by_to_one x y same limit high (Within m) e here there = absurd here
    by_to_one x y same limit high (Beyond m) e here there = absurd here
    by_to_one x y same limit high Late e here there = absurd here
    by_to_one x y same limit high (Whole m) e here there = absurd here
    by_to_one x y same limit high (Long m) (Within n) here there = absurd there
    by_to_one x y same limit high (Long m) (Beyond n) here there = absurd there
    by_to_one x y same limit high (Long m) Late here there = absurd there
    by_to_one x y same limit high (Long m) (Whole n) here there = absurd there
    by_to_one x y same limit high (Long m) (Long n) here there = ap (λ k. Some (Long k)) (here ∙ same.frames ∙ sym there)

    by_to_all : (l : FlowLoad) → slice_get ls f ≡ Some (Some l) → (b c : Broadcast) → l.messages ≡ ToAll b → AreBroadcast at.unit b c
        → (limit high : ℕ) (d e : Delay)
        → IsDelayOf timing asked bp f (ToAll b) limit d → IsDelayOf busy asked_there bw (at.flow f) (ToAll c) high e → IsNoLater (Some d) (Some e)
    by_to_all l at_l b c to_all alike limit high (Within m) e here there = absurd here
    by_to_all l at_l b c to_all alike limit high (Beyond m) e here there = absurd here
    by_to_all l at_l b c to_all alike limit high Late e here there = absurd here
    by_to_all l at_l b c to_all alike limit high (Long m) e here there = absurd here
    by_to_all l at_l b c to_all alike limit high (Whole v) (Within n) here there = absurd there
    by_to_all l at_l b c to_all alike limit high (Whole v) (Beyond n) here there = absurd there
    by_to_all l at_l b c to_all alike limit high (Whole v) Late here there = absurd there
    by_to_all l at_l b c to_all alike limit high (Whole v) (Long n) here there = absurd there
    by_to_all l at_l b c to_all alike limit high (Whole v) (Whole w) here there = (v, refl, whole_no_later l at_l b c to_all alike v w here there)

    by_messages : (l k : FlowLoad) → slice_get ls f ≡ Some (Some l) → slice_get asked_there.flows (at.flow f) ≡ Some (Some k) → l.limit ≡ k.limit
        → (a c : Messages)
        → l.messages ≡ a → k.messages ≡ c → MessagesAlike at a c → (d e : Delay)
        → IsDelayOf timing asked bp f a l.limit d → IsDelayOf busy asked_there bw (at.flow f) c k.limit e → IsNoLater (Some d) (Some e)
    by_messages l k its its_there limit (Short x) (Short y) short short_there alike d e here there =
        frame_no_later at.unit (AreTwinNumbers at) (one_twin at) timing unplanned range busier (frames_asked asked)
        (frames_asked asked_there) place all_some ends bp.waits bw.waits
        is_p.bounded is_w.bounded bp bw is_p is_w refl refl f x y (own_at f l x its short)
        (subst (λ n. slice_get (frames_asked asked_there) n ≡ Some (Some y))
        (sym (flow_place at part whole is good timing stays reported decides reports_who f below)) (own_there (at.flow f) k y its_there short_there))
        alike.0 alike.1 k.limit d e
        (subst (λ n. IsFrameDelay timing bp f x n d) limit here)
        (subst (λ n. IsFrameDelay busy bw n y k.limit e) (sym (flow_place at part whole is good timing stays reported decides reports_who f below)) there)
    by_messages l k its its_there limit (ToOne x) (ToOne y) to_one one_there alike d e here there = by_to_one x y alike.1 l.limit k.limit d e here there
    by_messages l k its its_there limit (ToAll b)
        (ToAll c) to_all all_there alike d e here there = by_to_all l its b c to_all alike l.limit k.limit d e here there
    by_messages l k its its_there limit (Short x) (ToOne y) short short_there alike d e here there = absurd alike
    by_messages l k its its_there limit (Short x) (ToAll y) short short_there alike d e here there = absurd alike
    by_messages l k its its_there limit (ToOne x) (Short y) short short_there alike d e here there = absurd alike
    by_messages l k its its_there limit (ToOne x) (ToAll y) short short_there alike d e here there = absurd alike
    by_messages l k its its_there limit (ToAll x) (Short y) short short_there alike d e here there = absurd alike
    by_messages l k its its_there limit (ToAll x) (ToOne y) short short_there alike d e here there = absurd alike

    no_later : (here there : Option Delay) → HasDelayBy timing asked bp f here → HasDelayBy busy asked_there bw (at.flow f) there → IsNoLater here there
    no_later None None none none_there = refl
    no_later (Some d) None (l, at_l, here) none_there = absurd (load_there (Some l) None at_l none_there)
    no_later None (Some e) none (k, at_k, there) = absurd (load_there None (Some k) none at_k)
    no_later (Some d) (Some e) (l, at_l, here) (k, at_k, there) =
        let alike = load_there (Some l) (Some k) at_l at_k in
        by_messages l k at_l at_k alike.limit l.messages k.messages refl refl alike.messages d e here there

  pub delays_no_later : DelaysNoLater at part whole timing busy reported stays
  delays_no_later f below here there (bp, is_p, by_p) has_there =
      let (bw, is_w, by_w) = subst (λ a. HasDelay busy a (at.flow f) there) (same_asked timing unplanned range whole stays) has_there in
      no_later f below bp bw (subst (λ n. IsBuffering timing n (frames_asked asked) bp) same_end is_p) is_w here there by_p by_w
