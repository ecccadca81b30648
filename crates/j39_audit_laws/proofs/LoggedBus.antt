-- A bus that keeps to its plan, and a whole log of it: two frames of one flow.
use Rattle.std.proofs.Common.{◌≡◌, ℕ, suc, ◌+◌, ◌-◌, ◌<◌, ◌≤◌, ◌⊎◌, List, [], ◌∷◌, ◌++◌, All, length, Option, Some, None, refl, sym, ap, ◌∙◌, subst, inl, inr}
use Rattle.std.proofs.Common.{Bool, true, ◌&&◌, ◌||◌, ◌==◌, if◌then◌else◌}
use Rattle.std.proofs.Common.{arith, false}
use Rattle.std.proofs.lemmas.Bool.{true≢false, leb-false, ltb-true, le-ltb}
use Rattle.std.proofs.lemmas.List.{length-append, length-map}
use Rattle.std.proofs.lemmas.Option.{same_Some}
use Rattle.std.specs.List.{slice_get}
use Rattle.j39_id.specs.FrameLine.{IsLastWord, WordSpells, canon_text, is_separator, HasLineFault}
use Rattle.j39_id.specs.Ident.{bits}
use Rattle.j39_id.specs.Lines.{Line, Short}
use Rattle.j39_id.specs.declared.frame.Frame.{Frame}
use Rattle.j39_id.proofs.LineLaws.{canon_spells, not_both}
use Rattle.j39_claim.specs.ClaimRule.{PlannedUnit}
use Rattle.j39_network.specs.PlannedUnits.{planned_unit, units_of}
use Rattle.j39_network.specs.declared.plan.flow_plan.FlowPlan.{FlowPlan}
use Rattle.j39_network.specs.declared.plan.group_plan.GroupPlan.{GroupPlan}
use Rattle.j39_network.specs.declared.plan.pace.Pace.{Pace}
use Rattle.j39_network.specs.declared.plan.timing.Timing.{Timing}
use Rattle.j39_findings.proofs.WhoStays.{placed}
use Rattle.j39_timing.specs.Messages.{frame_end}
use Rattle.j39_timing.specs.Rounds.{all_planned}
use Rattle.j39_timing.specs.TimedFrames.{Schedule}
use Rattle.j39_tp.specs.declared.packet.Packet.{Packet}
use Rattle.j39_world.specs.HeldAddresses.{ArePlannedApart}
use Rattle.j39_load.specs.SentFrames.{IsSentByUnit, Single, HasPeriodMs, goes_to}
use Rattle.j39_load.proofs.KeepingApart.{few_ident}
use Rattle.j39_load.proofs.KeepingPlanned.{no_broadcasts, planned_address, planned_held, planned_apart, planned_receiver, planned_sender}
use Rattle.j39_follow.specs.LogLines.{IsReadPart, IsTimeText}
use Rattle.j39_audit.specs.AuditPasts.{AuditPast, AuditsLines, claims_before, nothing_read, past_with_frame, with_next_number, AuditsLine, noted_newly}
use Rattle.j39_audit.specs.Breaks.{line_time, breaks}
use Rattle.j39_audit.specs.Looking.{IsPacketOf, claimant, is_claim}
use Rattle.j39_audit.specs.Settings.{Settings, logger_error}
use Rattle.j39_audit.specs.Claiming.{HeardClaims, knowledge, no_claims, with_claim}
use Rattle.j39_id.specs.Addresses.{is_address, null_address}
use Rattle.j39_id.specs.Pgn.{pdu2_first, pf_of}
use Rattle.j39_id.specs.Services.{is_service}
use Rattle.j39_log_laws.proofs.Identifiers.{IsOther, IsSentAs, carries_none, sent_as}
use Rattle.j39_network.specs.declared.plan.to.To.TheVariants.{All as ToAll, One as ToOne}
use Rattle.j39_audit_laws.specs.FoundLines.{IsFrameAt}
use Rattle.j39_audit_laws.specs.KeptLogs.{IsLogOfBus, IsWholeLog, KeepsItsPeriod}
use Rattle.j39_audit_laws.specs.KeptParts.{CarriesPlan, CarriesPlanned, IsGroupMessage, KeepsOwnFrames, ShowsFrames, WireFrames}
use Rattle.j39_audit_laws.specs.LoggedBuses.{CanBeLogged, CanPlansBeLogged, IsPlannedFrameOf, IsOftenSent}
use Rattle.j39_audit_laws.specs.MarkRecords.{IsNextTo, IsTimeOf}
use Rattle.j39_audit_laws.specs.OwnPart.{AreItsOwn, IsItsAddress}
use Rattle.j39_audit_laws.specs.PauseLines.{FrameLine, time_there, IsAgainAt}
use Rattle.j39_audit_laws.proofs.SoleSenders.{IsUnclaimed, may_be_planned, sole_sender, still_none, unheard}
use Rattle.j39_audit_laws.proofs.LateSlots.{either_later, ends_in_turn, exact_clock, exact_keeps, first_ended, first_time, ident_of_flow, late_bus, late_frame}
use Rattle.j39_audit_laws.proofs.LateSlots.{late_sent, late_slots, next_one, second_ended, second_time}
use Rattle.j39_audit_laws.proofs.TimedLines.{IsWrittenTime, later_text, later_written, line_time_is, no_interface, not_elsewhere, only_frame, only_time}
use Rattle.j39_audit_laws.proofs.TimedLines.{read_part, second_text, only_part}
use Rattle.j39_audit_laws.proofs.TimedLines.{second_written, spelled, time_text, timed_line}
use Rattle.j39_audit.specs.Again.{is_again, is_again_behind, is_same_frame, taken_frame}
use Rattle.j39_audit.specs.declared.again.TakenFrame.{TakenFrame}
use Rattle.j39_audit.specs.declared.tally.Sighting.{Sighting}
use Rattle.j39_audit.specs.MessageStreams.{nothing_sighted, sighted_behind}
use Rattle.j39_audit.specs.Moments.{bit_us}
use Rattle.j39_audit_laws.proofs.Walk.{taken_with}
use Rattle.j39_network.specs.declared.plan.timing.Bitrate.{Bitrate}
use Rattle.j39_network.specs.declared.plan.timing.Bitrate.TheVariants.{Kbit125, Kbit250, Kbit500, Mbit1}
use Rattle.std.specs.Option.{option_map_or}
use Rattle.std.specs.Prelude.{nat_lt, nat_le, ◌*◌}

-- ---- two lines

-- a line of two is the first or the second one
of_two : (a b : List ℕ) (before : List Line) (line : List ℕ) (behind : List Line) → Short a ∷ Short b ∷ [] ≡ before ++ Short line ∷ behind
    → ((length before ≡ 0) × (line ≡ a)) ⊎ ((length before ≡ 1) × (line ≡ b))
of_two a b [] line behind row = inl (refl, cc)
of_two a b (x ∷ []) line behind row = inr (refl, cc)
of_two a b (x ∷ y ∷ before) line behind row =
    let long : 2 ≡ length (x ∷ y ∷ before ++ Short line ∷ behind) = ap length row in
    let parts : length (before ++ Short line ∷ behind) ≡ length before + suc (length behind) = length-append before (Short line ∷ behind) in
    absurd (omega (arith, long, parts))

module _ (s : Settings) (apart : ArePlannedApart (units_of s.plan)) (written timing : Timing) (timed : s.plan.timing ≡ Some written) (f : ℕ) (flow : FlowPlan)
    (pace : Pace) (group : GroupPlan) (is : IsOftenSent s.plan f flow pace group) (frame : Frame) (packet : Option Packet) (packet_is : IsPacketOf frame packet)
    (of_flow : IsPlannedFrameOf s.plan flow group frame) where
  -- ---- the bus

  abbrev bus : Schedule
  bus = late_slots timing.bitrate (ident_of_flow s.plan timing apart f flow pace group is)

  abbrev bus_ident : ℕ
  bus_ident = ident_of_flow s.plan timing apart f flow pace group is

  abbrev wire : WireFrames
  wire = record { unit = λ p. Some flow.sender; frame = λ p. frame }

  sent_by : (u : ℕ) → Some flow.sender ≡ Some u → IsSentByUnit s.plan (Single f) u
  sent_by u same = (flow, is.its, same_Some _ _ same)

  carried : CarriesPlanned s.plan no_broadcasts (Single f) frame.payload.items
  carried other second its of =
      let one : other ≡ flow = same_Some _ _ (sym its ∙ is.its) in
      let same : second ≡ group = same_Some _ _ (sym of ∙ (ap (λ (g : FlowPlan). slice_get s.plan.groups.items g.group) one ∙ is.of)) in
      subst (λ (g : GroupPlan). IsGroupMessage g frame.payload.items) (sym same) of_flow.message

  holds_own : (t v : ℕ) → v < length s.plan.units.items → IsItsAddress s.plan v (planned_address s.plan apart v)
  holds_own t v below =
      let (unit, at, same) = placed s.plan.keep_free s.plan.units.items v
      (let size = length-map s.plan.units.items (planned_unit s.plan.keep_free) in omega (arith, below, size)) in
      record { unit = unit; unit_is = at; planned_or_free = inl (sym (ap (λ (c : PlannedUnit). c.preferred) same)) }

  carries : CarriesPlan s.plan bus wire all_planned (late_sent s.plan timing apart f flow pace group is) (planned_held s.plan apart)
  carries = record {
    ident = λ p u in_p unit. of_flow.ident;
    sender = λ p u in_p unit planned. sent_by u unit;
    flows = λ p in_p planned. carried;
    held_own = holds_own;
    besides = λ p u in_p unit other. absurd (true≢false other);
  }

  own : (u : ℕ) → KeepsOwnFrames s.plan timing bus wire all_planned (late_sent s.plan timing apart f flow pace group is) (planned_held s.plan apart) u
  own u = record {
    ident = λ p in_p unit. of_flow.ident;
    queued_first = λ p in_p unit. omega arith;
    held_own = holds_own;
    messages = λ m below. absurd (omega (arith, below));
    flows = λ p in_p unit planned. record { is = late_frame s.plan timing apart f flow pace group is p; its = sent_by u unit; carries = carried };
    besides = λ p in_p unit other. absurd (true≢false other);
  }

  -- ---- its log

  few : bits frame.ident < 536870912
  few =
      let less = few_ident s.plan timing apart f flow pace group is.its is.paced is.of is.short 0 is.number in
      let same = of_flow.ident in
      omega (arith, less, same)

  one_word : (word : List ℕ) × IsLastWord (canon_text (bits frame.ident) frame.payload.items) word × WordSpells word (bits frame.ident) frame.payload.items
  one_word = canon_spells (bits frame.ident) frame.payload.items few
      (let most = of_flow.message.at_most in let short = is.short in omega (arith, most, short)) of_flow.bytes

  word : List ℕ
  word = one_word.0

  spells : WordSpells word (bits frame.ident) frame.payload.items
  unfolding word
  spells = one_word.2

  some_word : 0 < length word
  unfolding word
  some_word = one_word.1.some

  whole_word : All (λ c. is_separator c ≡ false) word
  unfolding word
  whole_word = one_word.1.whole

  abbrev first_line : List ℕ
  first_line = timed_line second_text 1000000 second_written frame word spells some_word whole_word

  abbrev second_line : List ℕ
  second_line = timed_line later_text 1990000 later_written frame word spells some_word whole_word

  abbrev log : List Line
  log = Short first_line ∷ Short second_line ∷ []

  abbrev place : ℕ → ℕ
  place number = number - 1

  -- what is read of a line
  IsRead : {number : ℕ} → FrameLine s log number → ℕ → ℕ → Type 0
  IsRead {number} l at time = (number ≡ suc at) × (l.f ≡ frame) × (line_time s.plan l.at.time ≡ Some time)

  read_line : (text : List ℕ) (time : ℕ) (written_text : IsWrittenTime text time) {number : ℕ} (l : FrameLine s log number) (at : ℕ)
      → length l.at.line_is.before ≡ at → l.at.line ≡ timed_line text time written_text frame word spells some_word whole_word → IsRead l at time
  unfolding IsRead
  read_line text time written_text l at many same =
      let part = subst (λ (x : List ℕ). IsReadPart x l.at.part) same l.at.reads.part_is in
      let at_time = subst (λ (x : List ℕ). IsTimeText x l.at.time) same l.at.time_is in
      let text_is = only_time text time written_text frame word spells some_word whole_word l.at.time at_time in (
        let number = l.at.line_is.number_is in omega (arith, number, many),
        only_frame text time written_text frame word spells some_word whole_word l.at.part l.f part l.at.spelled,
        ap (line_time s.plan) text_is ∙ line_time_is s.plan written text time timed written_text,
      )

  reads : {number : ℕ} (l : FrameLine s log number) → IsRead l 0 1000000 ⊎ IsRead l 1 1990000
  reads l = elim (of_two first_line second_line l.at.line_is.before l.at.line l.at.line_is.behind l.at.line_is.row) [
    | inl (many, same) ↦ inl (read_line second_text 1000000 second_written l 0 many same)
    | inr (many, same) ↦ inr (read_line later_text 1990000 later_written l 1 many same)
  ]

  at_place : {number : ℕ} (l : FrameLine s log number) (at time : ℕ) → IsRead l at time → place number ≡ at
  unfolding IsRead
  at_place l at time read = let same = read.0 in omega (arith, same)

  frame_is : {number : ℕ} (l : FrameLine s log number) (at time : ℕ) → IsRead l at time → l.f ≡ frame
  unfolding IsRead
  frame_is l at time read = read.1

  time_is : {number : ℕ} (l : FrameLine s log number) (at time other : ℕ) → IsRead l at time → time_there l ≡ Some other → other ≡ time
  unfolding IsRead
  time_is l at time other read there = same_Some other time (sym there ∙ read.2)

  -- a line with a frame that stands there again, if one were there, would have the time of its line
  again_time : {number : ℕ} (l : IsAgainAt s log number) (time : ℕ) → line_time s.plan l.time ≡ Some time
      → ((number ≡ 1) × (time ≡ 1000000)) ⊎ ((number ≡ 2) × (time ≡ 1990000))
  again_time l time at = elim (of_two first_line second_line l.line_is.before l.line l.line_is.behind l.line_is.row) [
    | inl (many, same) ↦ inl (let number = l.line_is.number_is in omega (arith, number, many), of_text second_text 1000000 second_written l time at same)
    | inr (many, same) ↦ inr (let number = l.line_is.number_is in omega (arith, number, many), of_text later_text 1990000 later_written l time at same)
  ]
    where
      of_text : (text : List ℕ) (written_time : ℕ) (written_text : IsWrittenTime text written_time) {number : ℕ} (l : IsAgainAt s log number) (time : ℕ)
          → line_time s.plan l.time ≡ Some time → l.line ≡ timed_line text written_time written_text frame word spells some_word whole_word
          → time ≡ written_time
      of_text text written_time written_text l time at same =
          let at_time = subst (λ (x : List ℕ). IsTimeText x l.time) same l.time_is in
          let text_is = only_time text written_time written_text frame word spells some_word whole_word l.time at_time in
          same_Some time written_time (sym at ∙ ap (line_time s.plan) text_is ∙ line_time_is s.plan written text written_time timed written_text)

  -- what holds of both frames holds of that of each line
  of_each : (P : ℕ → Type 0) {number : ℕ} (l : FrameLine s log number) → P 0 → P 1 → P (place number)
  of_each P l first second = elim (reads l) [
    | inl read ↦ subst P (sym (at_place l 0 1000000 read)) first
    | inr read ↦ subst P (sym (at_place l 1 1990000 read)) second
  ]

  read_frame : {number : ℕ} (l : FrameLine s log number) → l.f ≡ frame
  read_frame l = elim (reads l) [ inl read ↦ frame_is l 0 1000000 read | inr read ↦ frame_is l 1 1990000 read ]

  order : {a b : ℕ} (x : FrameLine s log a) (y : FrameLine s log b) (i time j other : ℕ) → a < b → IsRead x i time → IsRead y j other → j ≤ i → ⊥
  unfolding IsRead
  order x y i time j other less of_x of_y few = let first = of_x.0 in let second = of_y.0 in omega (arith, first, second, few, less)

  -- of two lines with frames the first one has the first frame, and the other one the second
  in_order : (R : ℕ → ℕ → Type 0) {a b : ℕ} (x : FrameLine s log a) (y : FrameLine s log b) → a < b → R 0 1 → R (place a) (place b)
  in_order R {a} {b} x y less holds = elim (reads x) [
    | inl first ↦ elim (reads y) [
      | inl same ↦ absurd (order x y 0 1000000 0 1000000 less first same (omega arith))
      | inr second ↦
          subst (λ (p : ℕ). R p (place b)) (sym (at_place x 0 1000000 first)) (subst (λ (q : ℕ). R 0 q) (sym (at_place y 1 1990000 second)) holds)
    ]
    | inr second ↦ elim (reads y) [
      | inl first ↦ absurd (order x y 1 1990000 0 1000000 less second first (omega arith))
      | inr same ↦ absurd (order x y 1 1990000 1 1990000 less second same (omega arith))
    ]
  ]

  logged : IsLogOfBus s log bus (exact_clock timing.bitrate) place
  logged = record {
    known = λ number l. of_each (λ p. p < 2) l (omega arith) (omega arith);
    ended = λ number l. of_each (λ p. frame_end bus p ≤ bus.now) l (first_ended timing.bitrate bus_ident) (second_ended timing.bitrate bus_ident);
    in_turn = λ a b x y less. in_order (λ p q. frame_end bus p < frame_end bus q) x y less (ends_in_turn timing.bitrate bus_ident);
    times = λ number time l there. elim (reads l) [
      | inl read ↦
          subst (λ (p : ℕ). IsTimeOf (exact_clock timing.bitrate) (logger_error s) time (frame_end bus p)) (sym (at_place l 0 1000000 read))
          (subst (λ (m : ℕ). IsTimeOf (exact_clock timing.bitrate) (logger_error s) m (frame_end bus 0)) (sym (time_is l 0 1000000 time read there))
          (first_time timing.bitrate bus_ident (logger_error s)))
      | inr read ↦
          subst (λ (p : ℕ). IsTimeOf (exact_clock timing.bitrate) (logger_error s) time (frame_end bus p)) (sym (at_place l 1 1990000 read))
          (subst (λ (m : ℕ). IsTimeOf (exact_clock timing.bitrate) (logger_error s) m (frame_end bus 1)) (sym (time_is l 1 1990000 time read there))
          (second_time timing.bitrate bus_ident (logger_error s)))
    ];
  }

  in_time : {a number : ℕ} (x : FrameLine s log a) (time : ℕ) (l : IsAgainAt s log number) (later : ℕ) → a < number → time_there x ≡ Some time
      → line_time s.plan l.time ≡ Some later → time ≤ later
  unfolding IsRead
  in_time x time l later less at_first at = elim (again_time l later at) [
    | inl (one, same) ↦ (let number = x.at.line_is.number_is in absurd (omega (arith, number, one, less)))
    | inr (two, same) ↦ elim (reads x) [
      | inl read ↦ (let first = time_is x 0 1000000 time read at_first in omega (arith, first, same))
      | inr read ↦ (let second = time_is x 1 1990000 time read at_first in omega (arith, second, same))
    ]
  ]

  few_bytes : length frame.payload.items ≤ 8
  few_bytes = let most = of_flow.message.at_most in let short = is.short in omega (arith, most, short)

  whole : IsWholeLog s log bus (exact_clock timing.bitrate) place
  whole = record {
    repeats = λ number. true;
    next = λ a c time shown y less between. elim shown [
      | inl (x, at) ↦ in_order (IsNextTo bus) x y less (next_one timing.bitrate bus_ident)
      | inr (l, once, at) ↦ absurd (true≢false once)
    ];
    more = λ number time l once at. absurd (true≢false once);
    repeated = λ a number time later l shown less between repeats at. elim shown [
      | inl (x, at_first) ↦ in_time x time l later less at_first at
      | inr (x, once, at_first) ↦ absurd (true≢false once)
    ];
    bytes = λ number l. subst (λ (g : Frame). length g.payload.items ≤ 8) (sym (read_frame l)) few_bytes;
    bits = λ number l. omega arith;
  }

  shows : ShowsFrames s log bus wire place
  shows = record {
    known = λ number claims f packet at. of_each (λ p. p < 2) (record { claims = claims; f = f; packet = packet; at = at }) (omega arith) (omega arith);
    is = λ number claims f packet at. sym (read_frame (record { claims = claims; f = f; packet = packet; at = at }));
  }

  -- ---- both lines are read

  first_past : AuditPast
  first_past = past_with_frame s (with_next_number nothing_read) (line_time s.plan second_text) None frame packet

  second_past : AuditPast
  second_past = past_with_frame s (with_next_number first_past) (line_time s.plan later_text) None frame packet

  -- neither stands there again
  first_new : is_again s.plan (with_next_number nothing_read).taken (line_time s.plan second_text) frame ≡ false
  unfolding is_again
  first_new = refl

  too_late : (bitrate : Bitrate) (bytes : ℕ) → bytes ≤ 8 → nat_lt (1990000 - 1000000) (bit_us bitrate * (67 + 8 * bytes)) ≡ false
  too_late Kbit125 bytes few = le-ltb 990000 (bit_us Kbit125 * (67 + 8 * bytes)) (omega (arith, few))
  too_late Kbit250 bytes few = le-ltb 990000 (bit_us Kbit250 * (67 + 8 * bytes)) (omega (arith, few))
  too_late Kbit500 bytes few = le-ltb 990000 (bit_us Kbit500 * (67 + 8 * bytes)) (omega (arith, few))
  too_late Mbit1 bytes few = le-ltb 990000 (bit_us Mbit1 * (67 + 8 * bytes)) (omega (arith, few))

  second_new : is_again s.plan (with_next_number first_past).taken (line_time s.plan later_text) frame ≡ false
  unfolding first_past is_again
  second_new =
      let start : AuditPast = with_next_number nothing_read in
      let w : Sighting = sighted_behind nothing_sighted (noted_newly s start (line_time s.plan second_text) frame packet) in
      let one : TakenFrame = record { frame = frame; time = 1000000; line = 1; flow = w.flow; request = w.request; unit = w.unit } in
      let taken : first_past.taken ≡ Some one = taken_with s start (line_time s.plan second_text) None frame packet
      ∙ ap (λ (o : Option ℕ). taken_frame o frame 1 w) (line_time_is s.plan written second_text 1000000 timed second_written) in
      let same : Bool = is_same_frame frame frame in
      let late : Bool = nat_le 1000000 1990000 && nat_lt (1990000 - 1000000) (bit_us written.bitrate * (67 + 8 * length frame.payload.items)) in
      ap (λ (o : Option TakenFrame). is_again s.plan o (line_time s.plan later_text) frame) taken
      ∙ ap (λ (o : Option ℕ). is_again s.plan (Some one) o frame) (line_time_is s.plan written later_text 1990000 timed later_written)
      ∙ ap (λ (o : Option Timing). option_map_or (λ (t : Timing). is_again_behind t one 1990000 frame) o false) timed
      ∙ and_false_right same late (and_false_right (nat_le 1000000 1990000) _ (too_late written.bitrate (length frame.payload.items) few_bytes))
    where
      and_false_right : (a b : Bool) → b ≡ false → (a && b) ≡ false
      and_false_right true b is = is
      and_false_right false b is = refl

  audits_line : (text : List ℕ) (time : ℕ) (written_text : IsWrittenTime text time) (past : AuditPast)
      → is_again s.plan past.taken (line_time s.plan text) frame ≡ false
      → AuditsLine s past (Short (timed_line text time written_text frame word spells some_word whole_word))
      (past_with_frame s (with_next_number past) (line_time s.plan text) None frame packet)
  audits_line text time written_text past new = (
    timed_line text time written_text frame word spells some_word whole_word,
    None,
    read_part text time written_text frame word spells some_word whole_word,
    no_interface text time written_text frame word spells some_word whole_word,
    inr (
      not_elsewhere past.interface (timed_line text time written_text frame word spells some_word whole_word),
      inl (
        frame,
        text,
        spelled text time written_text frame word spells some_word whole_word,
        time_text text time written_text frame word spells some_word whole_word,
        inr (new, (packet, packet_is, refl)),
      ),
    ),
  )

  first_read : AuditsLines s nothing_read (Short first_line ∷ []) first_past
  unfolding first_past
  first_read = (first_past, audits_line second_text 1000000 second_written nothing_read first_new, refl)

  both_read : AuditsLines s nothing_read log second_past
  unfolding first_past second_past
  both_read = (
    first_past,
    audits_line second_text 1000000 second_written nothing_read first_new,
    (second_past, audits_line later_text 1990000 later_written first_past second_new, refl),
  )

  first_at : IsFrameAt s log 1 (claims_before s (with_next_number nothing_read) (line_time s.plan second_text)) frame packet
  first_at = record {
    past = with_next_number nothing_read;
    line = first_line;
    line_is = record { before = []; behind = Short second_line ∷ []; row = refl; number_is = refl; just = nothing_read; read = refl; past_is = refl };
    part = first_line;
    named = None;
    reads = record {
      part_is = read_part second_text 1000000 second_written frame word spells some_word whole_word;
      named_is = no_interface second_text 1000000 second_written frame word spells some_word whole_word;
      here = not_elsewhere None first_line;
    };
    time = second_text;
    spelled = spelled second_text 1000000 second_written frame word spells some_word whole_word;
    time_is = time_text second_text 1000000 second_written frame word spells some_word whole_word;
    new = first_new;
    packet_is = packet_is;
    claims_are = refl;
  }

  second_at : IsFrameAt s log 2 (claims_before s (with_next_number first_past) (line_time s.plan later_text)) frame packet
  second_at = record {
    past = with_next_number first_past;
    line = second_line;
    line_is = record { before = Short first_line ∷ []; behind = []; row = refl; number_is = refl; just = first_past; read = first_read; past_is = refl };
    part = second_line;
    named = None;
    reads = record {
      part_is = read_part later_text 1990000 later_written frame word spells some_word whole_word;
      named_is = no_interface later_text 1990000 later_written frame word spells some_word whole_word;
      here = not_elsewhere first_past.interface second_line;
    };
    time = later_text;
    spelled = spelled later_text 1990000 later_written frame word spells some_word whole_word;
    time_is = time_text later_text 1990000 later_written frame word spells some_word whole_word;
    new = second_new;
    packet_is = packet_is;
    claims_are = refl;
  }

  -- ---- what is of a unit alone is its own

  own_number : IsOther group.pgn
  own_number = record {
    range = is.number.range;
    low = λ one. is.number.low (leb-false pdu2_first (pf_of group.pgn) one);
    unlike = λ (same : group.pgn ≡ 60928). true≢false (sym (ap is_service same) ∙ is.own);
  }

  source_small : planned_address s.plan apart flow.sender < 256
  source_small = let few = (planned_apart s.plan apart 0).range flow.sender (planned_sender s.plan apart f flow is.its) in omega (arith, few)

  destination_small : goes_to (planned_address s.plan apart) flow.to < 256
  destination_small = elim (flow.to) as (λ to. flow.to ≡ to → goes_to (planned_address s.plan apart) to < 256) [
    | ToAll ↦ λ _. omega arith
    | ToOne v ↦ λ to. (let few = (planned_apart s.plan apart 0).range v (planned_receiver s.plan apart f flow is.its v to) in omega (arith, few))
  ] refl

  sent_so : IsSentAs frame.ident group.pgn (goes_to (planned_address s.plan apart) flow.to) (planned_address s.plan apart flow.sender)
  sent_so = sent_as frame.ident group.priority group.pgn (goes_to (planned_address s.plan apart) flow.to) (planned_address s.plan apart flow.sender) own_number
      destination_small source_small of_flow.ident

  no_claim : is_claim frame ≡ false
  no_claim = ap (λ (b : Bool). (b && is_address frame.ident.sa) || (b && frame.ident.sa == null_address))
      (carries_none frame group.priority group.pgn (goes_to (planned_address s.plan apart) flow.to) (planned_address s.plan apart flow.sender) own_number
      destination_small source_small of_flow.ident)

  claims_behind_first : (next : AuditPast) → AuditsLine s nothing_read (Short first_line) next → IsUnclaimed next.claims
  unfolding past_with_frame is_again
  claims_behind_first next (part, named, part_is, named_is, how) = elim how [
    | inl elsewhere ↦ (ap (λ (p : AuditPast). p.claims.all) elsewhere.1, ap (λ (p : AuditPast). p.claims.recent) elsewhere.1)
    | inr here ↦ elim here.1 [
      | inl (f, time, spelled_f, time_is, inl (again, is_next)) ↦ absurd (true≢false (sym again))
      | inl (f, time, spelled_f, time_is, inr (new, (other, other_is, is_next))) ↦
          let same : f ≡ frame = only_frame second_text 1000000 second_written frame word spells some_word whole_word part f part_is spelled_f in
          let before : HeardClaims = claims_before s (with_next_number nothing_read) (line_time s.plan time) in
          let none : is_claim f ≡ false = ap is_claim same ∙ no_claim in
          let unclaimed = still_none (breaks s.stamps None (line_time s.plan time)) no_claims (refl, refl) in (
            ap (λ (p : AuditPast). p.claims.all) is_next ∙ ap (λ (b : Bool). (if b then with_claim (claimant s f) before else before).all) none ∙ unclaimed.0,
            ap (λ (p : AuditPast). p.claims.recent) is_next ∙ ap (λ (b : Bool). (if b then with_claim (claimant s f) before else before).recent) none
                ∙ unclaimed.1,
          )
      | inr (e, fault, is_next) ↦
          absurd (not_both first_line frame e (spelled second_text 1000000 second_written frame word spells some_word whole_word)
          (subst (λ (l : List ℕ). HasLineFault l e) (only_part second_text 1000000 second_written frame word spells some_word whole_word part part_is) fault))
    ]
  ]

  claims_there : (before : List Line) (line : List ℕ) (behind : List Line) (just : AuditPast) → log ≡ before ++ Short line ∷ behind
      → AuditsLines s nothing_read before just → IsUnclaimed just.claims
  claims_there [] line behind just row read = (ap (λ (p : AuditPast). p.claims.all) read, ap (λ (p : AuditPast). p.claims.recent) read)
  claims_there (x ∷ []) line behind just row read =
      let same : x ≡ Short first_line = cc in
      let first = claims_behind_first read.0 (subst (λ (l : Line). AuditsLine s nothing_read l read.0) same read.1) in
      (ap (λ (p : AuditPast). p.claims.all) read.2 ∙ first.0, ap (λ (p : AuditPast). p.claims.recent) read.2 ∙ first.1)
  claims_there (x ∷ y ∷ before) line behind just row read =
      let long : 2 ≡ length (x ∷ y ∷ before ++ Short line ∷ behind) = ap length row in
      let parts : length (before ++ Short line ∷ behind) ≡ length before + suc (length behind) = length-append before (Short line ∷ behind) in
      absurd (omega (arith, long, parts))

  claims_at : {number : ℕ} {claims : HeardClaims} {f : Frame} {packet : Option Packet} → IsFrameAt s log number claims f packet → IsUnclaimed claims
  claims_at at =
      let there = claims_there at.line_is.before at.line at.line_is.behind at.line_is.just at.line_is.row at.line_is.read in
      let unclaimed = still_none (breaks s.stamps at.past.newest (line_time s.plan at.time)) at.past.claims (
        ap (λ (p : AuditPast). p.claims.all) at.line_is.past_is ∙ there.0,
        ap (λ (p : AuditPast). p.claims.recent) at.line_is.past_is ∙ there.1,
      ) in
      (ap (λ (c : HeardClaims). c.all) at.claims_are ∙ unclaimed.0, ap (λ (c : HeardClaims). c.recent) at.claims_are ∙ unclaimed.1)

  its_own : (u : ℕ) → AreItsOwn s log (λ number. wire.unit (place number)) u
  its_own u = record {
    frames = λ number claims g packet at other address sure.
        let inside : flow.sender < length s.plan.units.items = ltb-true flow.sender (length s.plan.units.items) (planned_sender s.plan apart f flow is.its) in
        let (unit, unit_at, same) = placed s.plan.keep_free s.plan.units.items flow.sender
        (let size = length-map s.plan.units.items (planned_unit s.plan.keep_free) in omega (arith, inside, size)) in
        let read : g ≡ frame = read_frame (record { claims = claims; f = g; packet = packet; at = at }) in
        let planned : unit.address ≡ g.ident.sa = sym (ap (λ (h : Frame). h.ident.sa) read ∙ (sent_so.source_is ∙ ap
        (λ (c : PlannedUnit). c.preferred) same)) in
        ap (λ (k : ℕ). Some k) (sole_sender s (knowledge s claims) g.ident.sa u flow.sender inside
        (may_be_planned s (knowledge s claims) flow.sender g.ident.sa unit unit_at planned (unheard s claims flow.sender (claims_at at))) sure);
    claims = λ number claims f packet at claim name.
        absurd (true≢false (sym claim ∙ (ap is_claim (read_frame (record { claims = claims; f = f; packet = packet; at = at })) ∙ no_claim)));
  }

  its_period : HasPeriodMs s.plan f pace.period
  its_period = record { flow = flow; its = is.its; pace = pace; paced = is.paced; is = refl; unasked = is.unasked }

  keeps_period : KeepsItsPeriod s.plan timing bus (planned_held s.plan apart) f pace.period (late_sent s.plan timing apart f flow pace group is).release
      (λ p. true)
  unfolding its_period
  keeps_period = record {
    period = its_period;
    group = group;
    group_is = is.of;
    frames = λ p in_p message. inl (is.short, late_frame s.plan timing apart f flow pace group is p);
    apart = λ p q in_p in_q differ of_p of_q. either_later s.plan timing apart f flow pace group is p q pace.period differ its_period;
  }

  pub can_be_logged : CanBeLogged s timing f frame
  unfolding first_at second_at
  can_be_logged = record {
    bus = late_bus s.plan timing apart f flow pace group is;
    wire = wire;
    carries = carries;
    own = own;
    log = log;
    place = place;
    shows = shows;
    clock = exact_clock timing.bitrate;
    keeps_time = exact_keeps timing.bitrate;
    logged = logged;
    whole = whole;
    its_own = its_own;
    ms = pace.period;
    period = keeps_period;
    of_flow = λ p message. (refl, refl);
    seen = λ number l is_seen. refl;
    end = second_past;
    audited = both_read;
    lines = refl;
    first = record { claims = claims_before s (with_next_number nothing_read) (line_time s.plan second_text); f = frame; packet = packet; at = first_at };
    first_is = (refl, refl, line_time_is s.plan written second_text 1000000 timed second_written);
    second = record { claims = claims_before s (with_next_number first_past) (line_time s.plan later_text); f = frame; packet = packet; at = second_at };
    second_is = (refl, refl, line_time_is s.plan written later_text 1990000 timed later_written);
  }

pub plans_logged : (s : Settings) → CanPlansBeLogged s
plans_logged s apart written timing timed f flow pace group is frame packet packet_is of_flow =
    can_be_logged s apart written timing timed f flow pace group is frame packet packet_is of_flow
