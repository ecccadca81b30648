-- Frames that ask no more than others, and the waits among them.
use Rattle.std.proofs.Common.{◌≡◌, ◌≢◌, ℕ, zero, suc, ◌+◌, ◌-◌, ◌*◌, ◌^◌, ◌<◌, ◌≤◌, ◌⊎◌, max, Bool, true, false, not, ◌||◌, ◌==◌, nat_le, nat_lt, if◌then◌else◌}
use Rattle.std.proofs.Common.{is_some}
use Rattle.std.proofs.Common.{List, [], ◌∷◌, ◌++◌, length, map, get_or, Option, Some, None, option_map, refl, sym, ◌∙◌, ap, subst, inl, inr, arith}
use Rattle.std.specs.Int.{div_ceil}
use Rattle.std.specs.List.{range_with_len, slice_get, sum_by}
use Rattle.std.proofs.Math.Nat.{mul-le-mul_right}
use Rattle.std.proofs.lemmas.Grind.{div_ceil_times}
use Rattle.std.proofs.lemmas.List.Sums.{sum_by-append, sum_by-cons}
use Rattle.std.specs.Option.{option_and_then, option_map_or}
use Rattle.std.proofs.lemmas.Bool.{and_from, and_parts, cases_Bool, cases_eq, cases_lt, eqb-true, eq-eqb, false≢true, le-leb, leb-true, ltb-true, lt-ltb}
use Rattle.std.proofs.lemmas.Bool.{ne_eqb, or_cases, or_left, or_right, true≢false}
use Rattle.std.proofs.lemmas.List.{get_or-append-add, get_or_append_left, length-append}
use Rattle.std.proofs.lemmas.List.FromFn.{get_or-map-range_with_len, length-map-range_with_len}
use Rattle.std.proofs.lemmas.Option.{none-some, same_Some, slice_get-get_or}
use Rattle.j39_network.specs.declared.plan.timing.Timing.{Timing}
use Rattle.j39_load.specs.declared.frames.broadcast.Broadcast.{Broadcast}
use Rattle.j39_load.specs.declared.frames.flow_frames.FlowFrames.{FlowFrames}
use Rattle.j39_load.specs.AnyQueues.{keep_order}
use Rattle.j39_load.specs.Damage.{damage_stream, damage_streams}
use Rattle.j39_timing.specs.FrameBits.{error_frame, longest_frame}
use Rattle.j39_network.specs.declared.plan.timing.ErrorRate.{ErrorRate}
use Rattle.j39_load.specs.AnswerStreams.{are_asked_for}
use Rattle.j39_load.specs.Delays.{blocking, blocking_of, frames_before, going_before, own_before, streams_before, unplanned_idents}
use Rattle.j39_load.specs.Demands.{demands_of, most_packets, wanted_by, wanted_from, wants_of}
use Rattle.j39_load.specs.LineLists.{lines_of_each}
use Rattle.j39_load.specs.Twins.{are_twins, is_same, may_precede}
use Rattle.j39_load.proofs.Milliseconds.{some_inside}
use Rattle.j39_timing.specs.Waits.{Demand, NoShorterFits, asked_share, demand_of, frames_of_want, lesser_share, need, of_askers, of_sender, wanted_share}
use Rattle.j39_timing.specs.declared.stream.Stream.{Stream}
use Rattle.j39_timing.specs.declared.stream.WantedBy.{WantedBy}
use Rattle.j39_timing.specs.declared.stream.WantedBy.TheVariants.{Askers, Sender}
use Rattle.j39_timing.specs.declared.wants.Want.{Want}
use Rattle.j39_part_laws.specs.PartLoads.{counting}
use Rattle.j39_part_laws.specs.PlanParts.{AreSome}
use Rattle.j39_part_laws.specs.Shares.{AsksNoMore, DemandsNoMore, IsAskedNoMore, IsWantedNoMore, WaitNoLonger, WantsNoMore}
use Rattle.j39_part_laws.specs.Sublists.{IsSub}
use Rattle.j39_part_laws.proofs.Places.{apart}
use Rattle.j39_part_laws.proofs.Shares.{are_bounded, mul-mono}
use Rattle.j39_part_laws.proofs.Sublists.{sub_append, sub_filter, sub_lines, sub_map, sub_of}

-- ---- broadcasts, by the places of units

pub record AreBroadcast (unit : ℕ → ℕ) (b c : Broadcast) : Type 0 where
  pub sender : c.sender ≡ unit b.sender
  pub packets : c.packets ≡ b.packets
  pub least_packets : c.least_packets ≡ b.least_packets
  pub has_short : c.has_short ≡ b.has_short
  pub period : c.period ≡ b.period
  pub apart : c.apart ≡ b.apart
  pub jitter : c.jitter ≡ b.jitter
  pub late : b.late ≤ c.late
  pub jitter_late : b.jitter ≤ c.late
  pub askers : b.askers ≤ c.askers
  pub deadline : c.deadline ≡ b.deadline
  pub positive : 0 < b.apart

abbrev pub WantAlike : (ℕ → ℕ) → Option Broadcast → Option Broadcast → Type 0
WantAlike unit None c = Unit {0}
WantAlike unit (Some b) None = ⊥
WantAlike unit (Some b) (Some c) = AreBroadcast unit b c

-- the place of what is wanted of a unit
pub record AreOfUnit (unit : ℕ → ℕ) (d e : ℕ) : Type 0 where
  pub u : ℕ
  pub few : u < 128
  pub few_there : unit u < 128
  pub either : ((d ≡ u) × (e ≡ unit u)) ⊎ ((d ≡ 128 + u) × (e ≡ 128 + unit u))

-- as many messages are wanted as a stream has, or more: of so many frames, and so far apart
pub record WantsAsMany (frames period : ℕ) (w : Want) : Type 0 where
  pub some : 1 ≤ w.frames
  pub frames_most : frames ≤ w.frames
  pub positive : 0 < w.period
  pub period_most : w.period ≤ period

-- of messages of so many frames, so far apart: more ask for those of the second
abbrev pub WantedAlike : (ℕ → ℕ) → ℕ → ℕ → Option WantedBy → Option WantedBy → Type 0
WantedAlike unit frames period None None = Unit {0}
WantedAlike unit frames period None (Some (Sender e)) = ⊥
WantedAlike unit frames period None (Some (Askers w)) = WantsAsMany frames period w
WantedAlike unit frames period (Some d) None = ⊥
WantedAlike unit frames period (Some (Sender d)) (Some (Sender e)) = AreOfUnit unit d e
WantedAlike unit frames period (Some (Sender d)) (Some (Askers w)) = ⊥
WantedAlike unit frames period (Some (Askers v)) (Some (Sender e)) = ⊥
WantedAlike unit frames period (Some (Askers v)) (Some (Askers w)) = WantsNoMore v w

-- ---- what is wanted of the packets of a unit, and of its announcements

abbrev packets_want : Broadcast → Want
packets_want b = record { frames = b.packets; period = b.apart; jitter = b.late; more = max 1 b.askers }

abbrev announcement_want : Broadcast → Want
announcement_want b = record { frames = 1; period = b.apart; jitter = b.late; more = max 1 b.askers }

abbrev packets_demand : List Broadcast → Demand
packets_demand bs = record { under_way = most_packets bs; wants = map packets_want bs }

abbrev announcements_demand : List Broadcast → Demand
announcements_demand bs = record { under_way = 0; wants = map announcement_want bs }

abbrev of_packets : List (Option FlowFrames) → List Demand
of_packets all = map (λ u. packets_demand (wants_of all u)) (range_with_len 0 128)

abbrev of_announcements : List (Option FlowFrames) → List Demand
of_announcements all = map (λ u. announcements_demand (wants_of all u)) (range_with_len 0 128)

demands_are : (all : List (Option FlowFrames)) → demands_of all ≡ of_packets all ++ of_announcements all
demands_are all = refl

packets_read : (all : List (Option FlowFrames)) (u : ℕ) → u < 128 → slice_get (demands_of all) u ≡ Some (packets_demand (wants_of all u))
packets_read all u few =
    let d : Demand = packets_demand [] in
    let size : length (of_packets all) ≡ 128 = length-map-range_with_len (λ v. packets_demand (wants_of all v)) 0 128 in
    let sum = length-append (of_packets all) (of_announcements all) in
    slice_get-get_or (of_packets all ++ of_announcements all) u d (omega (arith, sum, size, few))
    ∙ ap Some (get_or_append_left (of_packets all) (of_announcements all) d u (omega (arith, size, few))
    ∙ get_or-map-range_with_len (λ v. packets_demand (wants_of all v)) 0 128 u u d few (omega arith))

announcements_read : (all : List (Option FlowFrames)) (u : ℕ) → u < 128
    → slice_get (demands_of all) (128 + u) ≡ Some (announcements_demand (wants_of all u))
announcements_read all u few =
    let d : Demand = packets_demand [] in
    let size : length (of_packets all) ≡ 128 = length-map-range_with_len (λ v. packets_demand (wants_of all v)) 0 128 in
    let second : length (of_announcements all) ≡ 128 = length-map-range_with_len (λ v. announcements_demand (wants_of all v)) 0 128 in
    let sum = length-append (of_packets all) (of_announcements all) in
    slice_get-get_or (of_packets all ++ of_announcements all) (128 + u) d (omega (arith, sum, size, second, few))
    ∙ ap Some (ap (λ k. get_or (of_packets all ++ of_announcements all) (k + u) d) (sym size)
    ∙ get_or-append-add (of_packets all) (of_announcements all) u d
    ∙ get_or-map-range_with_len (λ v. announcements_demand (wants_of all v)) 0 128 u u d few (omega arith))

-- ---- frames

pub record AreFrames (unit : ℕ → ℕ) (Twins : ℕ → ℕ → Type 0) (x y : FlowFrames) : Type 0 where
  pub frames : x.stream.frames ≤ y.stream.frames
  pub bits : x.stream.bits ≡ y.stream.bits
  pub positive : 0 < y.stream.period
  pub period : y.stream.period ≤ x.stream.period
  pub wanted : WantedAlike unit x.stream.frames x.stream.period x.stream.wanted y.stream.wanted
  pub least : y.least_ident ≤ x.least_ident
  pub greatest : x.greatest_ident ≤ y.greatest_ident
  pub last : x.last_ident ≤ y.last_ident
  pub sender : y.any_sender ≡ option_map unit x.any_sender
  pub receiver : y.any_receiver ≡ option_map unit x.any_receiver
  pub few_sender : (u : ℕ) → x.any_sender ≡ Some u → unit u < 128
  pub few_receiver : (u : ℕ) → x.any_receiver ≡ Some u → unit u < 128
  pub twin : (m : ℕ) → x.twin_ident ≡ Some m → (n : ℕ) × (y.twin_ident ≡ Some n) × Twins m n
  pub want : WantAlike unit x.want y.want

-- the same, but for who wants their messages
pub record AreAtOnePace (x y : Stream) : Type 0 where
  pub frames : x.frames ≡ y.frames
  pub period : x.period ≡ y.period
  pub bits : x.bits ≡ y.bits
  pub jitter : x.jitter ≡ y.jitter

-- with a jitter that counts where this holds
abbrev pub AreFramesWhere : (ℕ → ℕ) → (ℕ → ℕ → Type 0) → (FlowFrames → Type 0) → Option FlowFrames → Option FlowFrames → Type 0
AreFramesWhere unit Twins Counts None y = Unit {0}
AreFramesWhere unit Twins Counts (Some x) None = ⊥
AreFramesWhere unit Twins Counts (Some x) (Some y) = AreFrames unit Twins x y × (Counts y → x.stream.jitter ≤ y.stream.jitter)

module _ (unit : ℕ → ℕ) (Twins : ℕ → ℕ → Type 0) (one_twin : (m n o : ℕ) → Twins m n → Twins m o → n ≡ o) where
  is_some_map : (o : Option ℕ) → is_some (option_map unit o) ≡ is_some o
  is_some_map None = refl
  is_some_map (Some u) = refl

  pub same_order : (x y : FlowFrames) → AreFrames unit Twins x y → keep_order y ≡ keep_order x
  same_order x y are =
      ap (λ (o : Option ℕ). not (is_some o || is_some y.any_receiver)) are.sender
      ∙ ap (λ (o : Option ℕ). not (is_some (option_map unit x.any_sender) || is_some o)) are.receiver
      ∙ ap (λ b. not (b || is_some (option_map unit x.any_receiver))) (is_some_map x.any_sender)
      ∙ ap (λ b. not (is_some x.any_sender || b)) (is_some_map x.any_receiver)

  -- ---- which go before which

  same_twin : (a b c d : Option ℕ) → ((m : ℕ) → a ≡ Some m → (n : ℕ) × (c ≡ Some n) × Twins m n) → ((m : ℕ) → b ≡ Some m → (n : ℕ) × (d ≡ Some n) × Twins m n)
      → is_same a b ≡ true → is_same c d ≡ true
  same_twin None b c d one other same = absurd (false≢true same)
  same_twin (Some m) None c d one other same = absurd (false≢true same)
  same_twin (Some m) (Some k) c d one other same =
      let (n, there, twins) = one m refl in
      let (o, too, others) = other k refl in
      let alike : k ≡ m = eqb-true k m same in
      let equal : n ≡ o = one_twin m n o twins (subst (λ j. Twins j o) alike others) in
      rw (there, too) (eq-eqb o n (sym equal))

  pub precedes : (own there x y : FlowFrames) → AreFrames unit Twins own there → AreFrames unit Twins x y → may_precede own x ≡ true
      → may_precede there y ≡ true
  precedes own there x y are also before = elim (or_cases (nat_lt x.least_ident own.greatest_ident) (are_twins own x) before) [
    | inl less ↦
        let below = ltb-true x.least_ident own.greatest_ident less in
        let least = also.least in
        let greatest = are.greatest in
        or_left (nat_lt y.least_ident there.greatest_ident) (are_twins there y)
        (lt-ltb y.least_ident there.greatest_ident (omega (arith, below, least, greatest)))
    | inr twins ↦
        let parts = and_parts (is_same own.twin_ident x.twin_ident) (keep_order x || not (keep_order own)) twins in
        let order : (keep_order y || not (keep_order there)) ≡ true = rw (same_order x y also, same_order own there are) parts.1 in
        or_right (nat_lt y.least_ident there.greatest_ident) (are_twins there y)
        (and_from (is_same there.twin_ident y.twin_ident) (keep_order y || not (keep_order there))
        (same_twin own.twin_ident x.twin_ident there.twin_ident y.twin_ident are.twin also.twin parts.0) order)
  ]

  -- ---- what is wanted

  most-mono : (bs cs : List Broadcast) → IsSub (AreBroadcast unit) bs cs → most_packets bs ≤ most_packets cs
  unfolding most_packets
  most-mono [] cs sub = omega arith
  most-mono (b ∷ bs) [] sub = absurd sub
  most-mono (b ∷ bs) (c ∷ cs) (inl (stands, left)) =
      let rest = most-mono bs cs left in
      let same = stands.packets in
      omega (arith, rest, same)
  most-mono (b ∷ bs) (c ∷ cs) (inr later) = let rest = most-mono (b ∷ bs) cs later in omega (arith, rest)

  packets_no_more : (b c : Broadcast) → AreBroadcast unit b c → WantsNoMore (packets_want b) (packets_want c)
  packets_no_more b c are =
      let apart = are.apart in
      let some = are.positive in
      let late = are.late in
      let same = are.packets in
      let askers = are.askers in
      record {
        frames = omega (arith, same);
        positive = omega (arith, apart, some);
        period = omega (arith, apart);
        jitter = omega (arith, late);
        more = omega (arith, askers);
      }

  announcements_no_more : (b c : Broadcast) → AreBroadcast unit b c → WantsNoMore (announcement_want b) (announcement_want c)
  announcements_no_more b c are =
      let apart = are.apart in
      let some = are.positive in
      let late = are.late in
      let askers = are.askers in
      record {
        frames = omega arith;
        positive = omega (arith, apart, some);
        period = omega (arith, apart);
        jitter = omega (arith, late);
        more = omega
            (arith, askers);
      }

  packets_demanded : (bs cs : List Broadcast) → IsSub (AreBroadcast unit) bs cs → DemandsNoMore (packets_demand bs) (packets_demand cs)
  packets_demanded bs cs sub = record {
    under_way = most-mono bs cs sub;
    wants = sub_map (AreBroadcast unit) WantsNoMore packets_want packets_want packets_no_more bs cs sub;
  }

  announcements_demanded : (bs cs : List Broadcast) → IsSub (AreBroadcast unit) bs cs → DemandsNoMore (announcements_demand bs) (announcements_demand cs)
  announcements_demanded bs cs sub = record {
    under_way = omega arith;
    wants = sub_map (AreBroadcast unit) WantsNoMore announcement_want announcement_want announcements_no_more bs cs sub;
  }

  wanted_there : (u : ℕ) (b : Option Broadcast) (c : Option Broadcast) → WantAlike unit b c → (found : Broadcast) → wanted_from u b ≡ Some found
      → (d : Broadcast) × (wanted_from (unit u) c ≡ Some d) × AreBroadcast unit found d
  wanted_there u None c are found is = absurd (none-some found is)
  wanted_there u (Some b) None are found is = absurd are
  wanted_there u (Some b) (Some c) are found is = elim (cases_Bool (b.sender == u)) [
    | inl same ↦
        let its : b ≡ found = same_Some b found (subst (λ t. (if t then Some b else None) ≡ Some found) same is) in
        let there : (c.sender == unit u) ≡ true = eq-eqb c.sender (unit u) (are.sender ∙ ap unit (eqb-true b.sender u same)) in
        (c, ap (λ t. if t then Some c else None) there, subst (λ z. AreBroadcast unit z c) its are)
    | inr other ↦ absurd (none-some found (subst (λ t. (if t then Some b else None) ≡ Some found) other is))
  ]

  module _ (Counts : FlowFrames → Type 0) (all others : List (Option FlowFrames)) (place : ℕ → ℕ)
      (are : AreSome place (AreFramesWhere unit Twins Counts) all others) where
    wanted_by_there : (u : ℕ) (x y : Option FlowFrames) → AreFramesWhere unit Twins Counts x y → (found : Broadcast) → wanted_by u x ≡ Some found
        → (d : Broadcast) × (wanted_by (unit u) y ≡ Some d) × AreBroadcast unit found d
    wanted_by_there u None y alike found is = absurd (none-some found is)
    wanted_by_there u (Some x) None alike found is = absurd alike
    wanted_by_there u (Some x) (Some y) alike found is = wanted_there u x.want y.want alike.0.want found is

    pub wants_there : (u : ℕ) → IsSub (AreBroadcast unit) (wants_of all u) (wants_of others (unit u))
    wants_there u = sub_filter (AreFramesWhere unit Twins Counts) (AreBroadcast unit) (wanted_by u) (wanted_by (unit u)) (wanted_by_there u) all others
        (sub_of (AreFramesWhere unit Twins Counts) all others place are.rises are.each)

    -- what is wanted of a stream is no more
    demanded : (frames period : ℕ) (d e : Option WantedBy) → WantedAlike unit frames period d e
        → IsWantedNoMore (option_and_then (of_sender (demands_of all)) d) (option_and_then (of_sender (demands_of others)) e)
    demanded frames period None None alike = tt
    demanded frames period None (Some (Sender e)) alike = absurd alike
    demanded frames period None (Some (Askers w)) alike = tt
    demanded frames period (Some d) None alike = absurd alike
    demanded frames period (Some (Sender d)) (Some (Sender e)) alike = elim alike.either [
      | inl (here, there) ↦
          rw (here, there, packets_read all alike.u alike.few, packets_read others (unit alike.u) alike.few_there)
          (packets_demanded (wants_of all alike.u) (wants_of others (unit alike.u)) (wants_there alike.u))
      | inr (here, there) ↦
          rw (here, there, announcements_read all alike.u alike.few, announcements_read others (unit alike.u) alike.few_there)
          (announcements_demanded (wants_of all alike.u) (wants_of others (unit alike.u)) (wants_there alike.u))
    ]
    demanded frames period (Some (Sender d)) (Some (Askers w)) alike = absurd alike
    demanded frames period (Some (Askers v)) (Some (Sender e)) alike = absurd alike
    demanded frames period (Some (Askers v)) (Some (Askers w)) alike = tt

    -- nor what others ask for
    asked_no_more : (x : Stream) (d e : Option WantedBy) → WantedAlike unit x.frames x.period d e → IsAskedNoMore x (option_and_then of_askers d)
        (option_and_then of_askers e)
    asked_no_more x None None alike = tt
    asked_no_more x None (Some (Sender e)) alike = absurd alike
    asked_no_more x None (Some (Askers w)) alike = (alike.frames_most, alike.positive, alike.period_most)
    asked_no_more x (Some d) None alike = absurd alike
    asked_no_more x (Some (Sender d)) (Some (Sender e)) alike = tt
    asked_no_more x (Some (Sender d)) (Some (Askers w)) alike = absurd alike
    asked_no_more x (Some (Askers v)) (Some (Sender e)) alike = absurd alike
    asked_no_more x (Some (Askers v)) (Some (Askers w)) alike = alike

    pub asks_no_more : (x y : FlowFrames) → AreFrames unit Twins x y → x.stream.jitter ≤ y.stream.jitter
        → AsksNoMore (demands_of all) (demands_of others) x.stream y.stream
    asks_no_more x y alike late =
        let same = alike.bits in
        record {
          stream = record { frames = alike.frames; bits = omega (arith, same); positive = alike.positive; period = alike.period; jitter = late };
          wanted = demanded x.stream.frames x.stream.period x.stream.wanted y.stream.wanted alike.wanted;
          asked = asked_no_more x.stream x.stream.wanted y.stream.wanted alike.wanted;
        }

  -- ---- what goes before some frames, and how long they wait

  blocking-mono : (timing : Timing) (unplanned : ℕ) (range : unplanned ≤ 1000) (busier : timing.unplanned ≤ unplanned) (a b : ℕ) → a ≤ b
      → blocking timing a ≤ blocking (counting timing unplanned range) b
  blocking-mono timing unplanned range busier a b ab = elim (cases_Bool (nat_le (unplanned_idents timing) a)) [
    | inl before ↦
        let low = leb-true (unplanned_idents timing) a before in
        let after : nat_le (unplanned_idents timing) b ≡ true = le-leb (unplanned_idents timing) b (omega (arith, low, ab)) in
        rw (before, after) (omega (arith, busier))
    | inr none ↦ rw (none) (either (nat_le (unplanned_idents timing) b))
  ]
    where
      either : (t : Bool) → longest_frame 8 * (1 + 0) ≤ longest_frame 8 * (1 + (if t then unplanned else 0))
      either true = omega arith
      either false = omega arith

  pub damage_asks : (timing : Timing) (unplanned : ℕ) (range : unplanned ≤ 1000) (ds es : List Demand)
      → IsSub (AsksNoMore ds es) (damage_streams timing) (damage_streams (counting timing unplanned range))
  damage_asks timing unplanned range ds es = go timing.errors
    where
      one : (rate : ErrorRate) (bits : ℕ) → AsksNoMore ds es (damage_stream timing rate bits) (damage_stream timing rate bits)
      one rate bits = record {
        stream = record
            { frames = omega arith; bits = omega arith; positive = some_inside timing rate.every rate.every_positive; period = omega arith; jitter = omega arith };
        wanted = tt;
        asked = tt;
      }

      go : (errors : Option ErrorRate)
          → IsSub (AsksNoMore ds es) (option_map_or (λ rate. damage_stream timing rate (longest_frame 8) ∷ damage_stream timing rate error_frame
          ∷ []) errors [])
          (option_map_or (λ rate. damage_stream timing rate (longest_frame 8) ∷ damage_stream timing rate error_frame ∷ []) errors [])
      go None = tt
      go (Some rate) = inl (one rate (longest_frame 8), inl (one rate error_frame, tt))

  -- others ask for the frames there where they do here
  still_asked : (x y : FlowFrames) → AreFrames unit Twins x y → are_asked_for x ≡ true → are_asked_for y ≡ true
  still_asked x y are = by x.stream.wanted y.stream.wanted are.wanted
    where
      by : (d e : Option WantedBy) → WantedAlike unit x.stream.frames x.stream.period d e → is_some (option_and_then of_askers d) ≡ true
          → is_some (option_and_then of_askers e) ≡ true
      by None e alike asked = absurd (false≢true asked)
      by (Some d) None alike asked = absurd alike
      by (Some (Sender d)) (Some e) alike asked = absurd (false≢true asked)
      by (Some (Askers v)) (Some (Sender e)) alike asked = absurd alike
      by (Some (Askers v)) (Some (Askers w)) alike asked = refl

  -- where they do there alone these queue one frame at least
  one_queued : (es : List Demand) (span : ℕ) (x y : FlowFrames) → 1 ≤ span → AreFrames unit Twins x y → are_asked_for x ≡ false → are_asked_for y ≡ true
      → y.stream.bits ≤ lesser_share es span y.stream
  one_queued es span x y some are unasked asked = by x.stream.wanted y.stream.wanted refl are.wanted unasked asked
    where
      some_slots : (n period : ℕ) → 0 < period → 1 ≤ n → 1 ≤ div_ceil n period
      some_slots n period positive one = elim (cases_lt 0 (div_ceil n period)) [
        | inl some_there ↦ some_there
        | inr none ↦ absurd (
            let reached = (div_ceil_times n period positive).0 in
            let least : div_ceil n period ≡ 0 = omega (arith, none) in
            let times : div_ceil n period * period ≡ 0 * period = ap (λ (k : ℕ). k * period) least in
            omega (arith, reached, times, one))
      ]

      of_want : (w : Want) → WantsAsMany x.stream.frames x.stream.period w → y.stream.bits ≤ asked_share span y.stream w
      of_want w wants =
          let slots = some_slots (span + y.stream.jitter + w.jitter) w.period wants.positive (omega (arith, some)) in
          let messages : 1 * 1 ≤ w.frames * (div_ceil (span + y.stream.jitter + w.jitter) w.period + w.more) =
          mul-mono 1 w.frames 1 (div_ceil (span + y.stream.jitter + w.jitter) w.period + w.more) wants.some (omega (arith, slots)) in
          let bits : 1 * y.stream.bits ≤ frames_of_want (span + y.stream.jitter) w * y.stream.bits = mul-le-mul_right y.stream.bits (omega (arith, messages)) in
          omega (arith, bits)

      by : (d e : Option WantedBy) → y.stream.wanted ≡ e → WantedAlike unit x.stream.frames x.stream.period d e → is_some (option_and_then of_askers d) ≡ false
          → is_some (option_and_then of_askers e) ≡ true → y.stream.bits ≤ lesser_share es span y.stream
      by d None is alike none asked_there = absurd (false≢true asked_there)
      by d (Some (Sender e)) is alike none asked_there = absurd (false≢true asked_there)
      by None (Some (Askers w)) is alike none asked_there =
          let share : lesser_share es span y.stream ≡ asked_share span y.stream w =
          ap (λ (o : Option Want). wanted_share span y.stream o (demand_of es y.stream)) (ap (option_and_then of_askers) is) in
          let one = of_want w alike in
          omega (arith, share, one)
      by (Some (Sender d)) (Some (Askers w)) is alike none asked_there = absurd alike
      by (Some (Askers v)) (Some (Askers w)) is alike none asked_there = absurd (true≢false none)

  -- the lines of a place count with these, and more
  lines_more : (f : Stream → ℕ) (less more : ℕ → Option FlowFrames → List Stream) (c : ℕ) (xs : List (Option FlowFrames)) (k i : ℕ) (x : Option FlowFrames)
      → slice_get xs i ≡ Some x → ((j : ℕ) (y : Option FlowFrames) → j ≢ k + i → less j y ≡ more j y)
      → sum_by f (less (k + i) x) + c ≤ sum_by f (more (k + i) x) → sum_by f (lines_of_each less k xs) + c ≤ sum_by f (lines_of_each more k xs)
  unfolding lines_of_each
  lines_more f less more c [] k i x at same one = absurd (none-some x at)
  lines_more f less more c (y ∷ ys) k zero x at same one =
      let here : y ≡ x = same_Some y x at in
      let place : k + 0 ≡ k = omega arith in
      let first : sum_by f (less k y) + c ≤ sum_by f (more k y) =
      subst (λ (n : ℕ). sum_by f (less n y) + c ≤ sum_by f (more n y)) place
      (subst (λ (z : Option FlowFrames). sum_by f (less (k + 0) z) + c ≤ sum_by f (more (k + 0) z)) (sym here) one) in
      let rest = others_same ys (k + 1) (λ j z after. same j z (λ at_k. omega (arith, at_k, after))) in
      let left = sum_by-append f (less k y) (lines_of_each less (k + 1) ys) in
      let right = sum_by-append f (more k y) (lines_of_each more (k + 1) ys) in
      let others = ap (sum_by f) rest in
      omega (arith, first, left, right, others)
    where
      others_same : (zs : List (Option FlowFrames)) (n : ℕ) → ((j : ℕ) (z : Option FlowFrames) → n ≤ j → less j z ≡ more j z)
          → lines_of_each less n zs ≡ lines_of_each more n zs
      others_same [] n each = refl
      others_same (z ∷ zs) n each =
          ap (λ (l : List Stream). l ++ lines_of_each less (n + 1) zs) (each n z (omega arith))
          ∙ ap (λ (l : List Stream). more n z ++ l) (others_same zs (n + 1) (λ j w after. each j w (omega (arith, after))))
  lines_more f less more c (y ∷ ys) k (suc i) x at same one =
      let next : k + suc i ≡ k + 1 + i = omega arith in
      let rest = lines_more f less more c ys (k + 1) i x at (λ j z other. same j z (λ here. other (omega (arith, here, next))))
      (subst (λ (n : ℕ). sum_by f (less n x) + c ≤ sum_by f (more n x)) next one) in
      let left = sum_by-append f (less k y) (lines_of_each less (k + 1) ys) in
      let right = sum_by-append f (more k y) (lines_of_each more (k + 1) ys) in
      let first = ap (sum_by f) (same k y (λ here. omega (arith, here))) in
      omega (arith, rest, left, right, first)

  module _ (timing : Timing) (unplanned : ℕ) (range : unplanned ≤ 1000) (busier : timing.unplanned ≤ unplanned) (own there : FlowFrames)
      (are_own : AreFrames unit Twins own there)
      (Goes : FlowFrames → Type 0) (goes : (y : FlowFrames) → may_precede there y ≡ true → Goes y) (all others : List (Option FlowFrames)) (place : ℕ → ℕ)
      (are : AreSome place (AreFramesWhere unit Twins Goes) all others) (i : ℕ)
      (x y : FlowFrames) (at_x : slice_get all i ≡ Some (Some x)) (at_y : slice_get others (place i) ≡ Some (Some y)) (alike : AreFrames unit Twins x y)
      (asked_x : are_asked_for x ≡ are_asked_for own) (asked_y : are_asked_for y ≡ are_asked_for there) (bits_y : y.stream.bits ≡ there.stream.bits)
      (late : x.stream.jitter ≤ y.stream.jitter) where
    abbrev busy : Timing
    busy = counting timing unplanned range

    abbrev Asks : Stream → Stream → Type 0
    Asks = AsksNoMore (demands_of all) (demands_of others)

    one_line : (v w : FlowFrames) → AreFrames unit Twins v w → (Goes w → v.stream.jitter ≤ w.stream.jitter)
        → IsSub Asks (frames_before own v) (frames_before there w)
    one_line v w are_vw late_vw = elim (cases_Bool (may_precede own v)) [
      | inl before ↦
          let after = precedes own there v w are_own are_vw before in
          rw (before, after) (inl (asks_no_more Goes all others place are v w are_vw (late_vw (goes w after)), tt))
      | inr none ↦ rw (none) tt
    ]

    -- but for the frames themselves
    abbrev going_beside : ℕ → FlowFrames → ℕ → Option FlowFrames → List Stream
    going_beside k these n None = []
    going_beside k these n (Some frames) = if n == k then [] else frames_before these frames

    apart_there : (j : ℕ) → j ≢ i → (place j == place i) ≡ false
    apart_there j other = ne_eqb (place j) (place i) (apart place (AreFramesWhere unit Twins Goes) all others are j i other)

    -- where nobody asks for them here
    module _ (unasked : are_asked_for own ≡ false) where
      line_beside : (j : ℕ) (v w : Option FlowFrames) → slice_get all j ≡ Some v → AreFramesWhere unit Twins Goes v w
          → IsSub Asks (going_before i own j v) (going_beside (place i) there (place j) w)
      line_beside j None w at are_vw = tt
      line_beside j (Some v) None at are_vw = absurd are_vw
      line_beside j (Some v) (Some w) at are_vw = elim (cases_eq j i) [
        | inl same ↦
            let one : v ≡ x = same_Some v x (same_Some (Some v) (Some x) (sym at ∙ (ap (slice_get all) same ∙ at_x))) in
            let none : are_asked_for v ≡ false = ap are_asked_for one ∙ (asked_x ∙ unasked) in
            rw (eq-eqb j i same, none) tt
        | inr other ↦ rw (ne_eqb j i other, apart_there j other) (one_line v w are_vw.0 are_vw.1)
      ]

      streams_beside : IsSub Asks (streams_before timing i own all) (damage_streams busy ++ lines_of_each (going_beside (place i) there) 0 others)
      streams_beside =
          sub_append Asks (damage_streams timing) (damage_streams busy) (lines_of_each (going_before i own) 0 all)
          (lines_of_each (going_beside (place i) there) 0 others)
          (damage_asks timing unplanned range (demands_of all) (demands_of others))
          (sub_lines Asks (going_before i own) (going_beside (place i) there) all others place 0 0 are.rises (λ j v at.
          let its = are.each j v at in
          let near : j ≡ 0 + j = omega arith in
          let far : place j ≡ 0 + place j = omega arith in
          record {
            value = its.value;
            value_is = its.value_is;
            meets = subst (λ k. IsSub Asks (going_before i own k v) (going_beside (place i) there (0 + place j) its.value)) near
                (subst (λ k. IsSub Asks (going_before i own j v) (going_beside (place i) there k its.value)) far (line_beside j v its.value at its.meets));
          }))

      -- what they can queue themselves there makes up for the frame that isn't blocking
      abbrev own_bits : ℕ
      own_bits = if are_asked_for there then there.stream.bits else 0

      own_counted : (w : ℕ) → own_bits ≤ sum_by (lesser_share (demands_of others) (w + 1)) (own_before y)
      own_counted w = elim (cases_Bool (are_asked_for there)) [
        | inr none ↦ rw (none, asked_y ∙ none) (omega arith)
        | inl is ↦
            let asked_there : are_asked_for y ≡ true = asked_y ∙ is in
            let one = one_queued (demands_of others) (w + 1) x y (omega arith) alike (asked_x ∙ unasked) asked_there in
            let sum = sum_by-cons (lesser_share (demands_of others) (w + 1)) y.stream [] in
            rw (is, asked_there) (let bits = bits_y in omega (arith, one, sum, bits))
      ]

      beside_and_own : (w : ℕ) → sum_by (lesser_share (demands_of others) (w + 1)) (lines_of_each (going_beside (place i) there) 0 others) + own_bits
          ≤ sum_by (lesser_share (demands_of others) (w + 1)) (lines_of_each (going_before (place i) there) 0 others)
      beside_and_own w = lines_more (lesser_share (demands_of others) (w + 1)) (going_beside (place i) there) (going_before (place i) there) own_bits others 0
          (place i) (Some y) at_y same_beside (
          let counted = own_counted w in
          let here : (0 + place i == place i) ≡ true = eq-eqb (0 + place i) (place i) (omega arith) in
          rw (here) (omega (arith, counted)))
        where
          same_beside : (j : ℕ) (v : Option FlowFrames) → j ≢ 0 + place i → going_beside (place i) there j v ≡ going_before (place i) there j v
          same_beside j None other = refl
          same_beside j (Some v) other = rw (ne_eqb j (place i) (λ same. other (omega (arith, same)))) refl

      unasked_bounded : WaitNoLonger (demands_of all) (demands_of others) (blocking_of timing own) (blocking_of busy there)
          (streams_before timing i own all) (streams_before busy (place i) there others)
      unasked_bounded = record { needs = needs; least = least }
        where
          bound : WaitNoLonger (demands_of all) (demands_of others) (blocking timing own.greatest_ident) (blocking busy there.greatest_ident)
              (streams_before timing i own all) (damage_streams busy ++ lines_of_each (going_beside (place i) there) 0 others)
          bound = are_bounded (demands_of all) (demands_of others) (blocking timing own.greatest_ident) (blocking busy there.greatest_ident)
              (streams_before timing i own all) (damage_streams busy ++ lines_of_each (going_beside (place i) there) 0 others)
              (blocking-mono timing unplanned range busier own.greatest_ident there.greatest_ident are_own.greatest) streams_beside

          needs : (w : ℕ) → need (demands_of all) (blocking_of timing own) (streams_before timing i own all) w
              ≤ need (demands_of others) (blocking_of busy there) (streams_before busy (place i) there others) w
          needs w =
              let all_of = bound.needs w in
              let counted = beside_and_own w in
              let beside = sum_by-append (lesser_share (demands_of others) (w + 1)) (damage_streams busy)
              (lines_of_each (going_beside (place i) there) 0 others) in
              let before = sum_by-append (lesser_share (demands_of others) (w + 1)) (damage_streams busy)
              (lines_of_each (going_before (place i) there) 0 others) in
              let none : blocking_of timing own ≡ blocking timing own.greatest_ident - 0 =
              ap (λ (b : Bool). blocking timing own.greatest_ident - (if b then own.stream.bits else 0)) unasked in
              omega (arith, all_of, counted, beside, before, none)

          least : (v w : ℕ) → NoShorterFits (demands_of all) (blocking_of timing own) (streams_before timing i own all) v
              → need (demands_of others) (blocking_of busy there) (streams_before busy (place i) there others) w ≤ w → v ≤ w
          least v w none fits = elim (cases_lt w v) [
            | inr le ↦ le
            | inl less ↦ absurd (let above = none w less in let room = needs w in omega (arith, above, room, fits))
          ]

    -- and where others ask for them here too
    module _ (asked : are_asked_for own ≡ true) where
      line_there : (j : ℕ) (v w : Option FlowFrames) → slice_get all j ≡ Some v → slice_get others (place j) ≡ Some w → AreFramesWhere unit Twins Goes v w
          → IsSub Asks (going_before i own j v) (going_before (place i) there (place j) w)
      line_there j None w at at_w are_vw = tt
      line_there j (Some v) None at at_w are_vw = absurd are_vw
      line_there j (Some v) (Some w) at at_w are_vw = elim (cases_eq j i) [
        | inl same ↦
            let one : v ≡ x = same_Some v x (same_Some (Some v) (Some x) (sym at ∙ (ap (slice_get all) same ∙ at_x))) in
            let two : w ≡ y = same_Some w y (same_Some (Some w) (Some y) (sym at_w ∙ (ap (λ (k : ℕ). slice_get others (place k)) same ∙ at_y))) in
            let both : are_asked_for v ≡ true = ap are_asked_for one ∙ (asked_x ∙ asked) in
            let still : are_asked_for w ≡ true = still_asked v w are_vw.0 both in
            let first = ap (λ (f : FlowFrames). f.stream.jitter) one in
            let second = ap (λ (f : FlowFrames). f.stream.jitter) two in
            let soon = late in
            rw (eq-eqb j i same, eq-eqb (place j) (place i) (ap place same), both, still)
            (inl (asks_no_more Goes all others place are v w are_vw.0 (omega (arith, first, second, soon)), tt))
        | inr other ↦ rw (ne_eqb j i other, apart_there j other) (one_line v w are_vw.0 are_vw.1)
      ]

      streams_there : IsSub Asks (streams_before timing i own all) (streams_before busy (place i) there others)
      streams_there =
          sub_append Asks (damage_streams timing) (damage_streams busy) (lines_of_each (going_before i own) 0 all)
          (lines_of_each (going_before (place i) there) 0 others)
          (damage_asks timing unplanned range (demands_of all) (demands_of others))
          (sub_lines Asks (going_before i own) (going_before (place i) there) all others place 0 0 are.rises (λ j v at.
          let its = are.each j v at in
          let near : j ≡ 0 + j = omega arith in
          let far : place j ≡ 0 + place j = omega arith in
          record {
            value = its.value;
            value_is = its.value_is;
            meets = subst (λ k. IsSub Asks (going_before i own k v) (going_before (place i) there (0 + place j) its.value)) near
                (subst (λ k. IsSub Asks (going_before i own j v) (going_before (place i) there k its.value)) far
                (line_there j v its.value at its.value_is its.meets));
          }))

      blocking_less : blocking_of timing own ≤ blocking_of busy there
      blocking_less =
          let more = blocking-mono timing unplanned range busier own.greatest_ident there.greatest_ident are_own.greatest in
          let bits = are_own.bits in
          let still = still_asked own there are_own asked in
          rw (asked, still) (omega (arith, more, bits))

      asked_bounded : WaitNoLonger (demands_of all) (demands_of others) (blocking_of timing own) (blocking_of busy there)
          (streams_before timing i own all) (streams_before busy (place i) there others)
      asked_bounded = are_bounded (demands_of all) (demands_of others) (blocking_of timing own) (blocking_of busy there)
          (streams_before timing i own all) (streams_before busy (place i) there others) blocking_less streams_there

    -- no more room is needed, and no least wait is longer
    pub waits_there : WaitNoLonger (demands_of all) (demands_of others) (blocking_of timing own) (blocking_of busy there)
        (streams_before timing i own all) (streams_before busy (place i) there others)
    waits_there = elim (cases_Bool (are_asked_for own)) [
      | inl asked ↦ asked_bounded asked
      | inr unasked ↦ unasked_bounded unasked
    ]
