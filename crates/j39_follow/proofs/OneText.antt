-- For a plan and a log there is one text.
use Rattle.std.proofs.Common.{◌≡◌, ◌⊎◌, ◌+◌, ℕ, Bool, List, [], ◌∷◌, ◌++◌, Option, Some, None, inl, inr, refl, sym, ap, subst, ◌∙◌}
use Rattle.j39_id.proofs.LineLaws.{not_both, one_fault, one_spelled}
use Rattle.j39_id.specs.FrameLine.{IsLastWord}
use Rattle.j39_id.specs.Lines.{Line, Short, Long, lines}
use Rattle.j39_id.specs.declared.frame.Frame.{Frame}
use Rattle.j39_id.specs.declared.line_error.LineError.{LineError}
use Rattle.j39_network.specs.declared.plan.Plan.{Plan}
use Rattle.j39_log.proofs.OneText.{not_all, one_refused}
use Rattle.j39_log.specs.ReadText.{refused_plan_line}
use Rattle.j39_stream.specs.declared.verdict.Verdict.{Verdict}
use Rattle.j39_stream.specs.declared.verdict.Verdict.TheVariants.{Done, Findings, Refused, Unreadable}
use Rattle.j39_tp.specs.declared.packet.Packet.{Packet}
use Rattle.j39_follow.specs.Contests.{Timed}
use Rattle.j39_follow.specs.FollowReports.{AreEventsOf, IsBareText, in_frame, stamp}
use Rattle.j39_follow.specs.FollowText.{AreUnitLines, IsFollowText, IsFollowedLog, IsPacketReport, FollowedPast, FollowsFrame, FollowsLine, FollowsLines}
use Rattle.j39_follow.specs.FollowText.{FollowsPart, FollowsShort, frames_seen, lines_with, nothing_followed, one_line_more, line_passed_over, behind_reports}
use Rattle.j39_follow.specs.LogLines.{IsElsewhere, IsReadPart, IsTimeText, NamesInterface, interface_behind}
use Rattle.j39_follow.specs.declared.request.event.Event.{Event}
use Rattle.j39_follow.specs.declared.message.Sort.{Sort}
use Rattle.j39_follow.proofs.Lines.FirstWords.{one_first_word}
use Rattle.j39_follow.proofs.OneFrame.{one_bare, one_heard_as, one_message_report, one_notice, one_packet_report, one_stated}
use Rattle.j39_follow.proofs.Lines.Splitting.{one_split}
use Rattle.j39_follow.proofs.Addresses.Standing.{one_unit_lines}

-- ---- a line

pub one_part : (line p q : List ℕ) → IsReadPart line p → IsReadPart line q → p ≡ q
one_part line p q (inl a) (inl b) =
    let same = one_split line a.last.front a.word b.last.front b.word (a.last, refl) (b.last, refl) in
    sym a.front_is ∙ same.0 ∙ b.front_is
one_part line p q (inl a) (inr b) = absurd (b.0 p a)
one_part line p q (inr a) (inl b) = absurd (a.0 q b)
one_part line p q (inr a) (inr b) = a.1 ∙ sym b.1

pub one_interface : (part : List ℕ) (a b : Option (List ℕ)) → NamesInterface part a → NamesInterface part b → a ≡ b
one_interface part (Some i) (Some j) a b =
    let same = one_split part a.last.front a.word b.last.front b.word (a.last, refl) (b.last, refl) in
    let before = subst (λ (f : List ℕ). IsLastWord f i) same.0 a.before in
    ap Some (one_split b.last.front before.front i b.before.front j (before, refl) (b.before, refl)).1
one_interface part (Some i) None a b = absurd (b i a)
one_interface part None (Some j) a b = absurd (a j b)
one_interface part None None a b = refl

pub one_time : (line t u : List ℕ) → IsTimeText line t → IsTimeText line u → t ≡ u
one_time line t u (inl a) (inl b) = one_first_word line t u a.0 b.0
one_time line t u (inl a) (inr b) = absurd (b.0 t a)
one_time line t u (inr a) (inl b) = absurd (a.0 u b)
one_time line t u (inr a) (inr b) = a.1 ∙ sym b.1

-- what came so far, with a frame
abbrev with_frame : FollowedPast → List ℕ → Option (List ℕ) → Frame → Option Packet → Sort → List Sort → List Event → FollowedPast
with_frame past time named f packet sort sorts events = record past {
  seen = past.seen ++ record { frame = f; packet = packet } ∷ [];
  timed = lines_with past f time;
  interface = interface_behind past.interface named;
  sent = past.sent ++ sort ∷ sorts;
  events = past.events ++ events;
}

one_frame_read : (plan : Plan) (all_frames : Bool) (past : FollowedPast) (time : List ℕ) (named : Option (List ℕ)) (f : Frame) (next other : FollowedPast)
    (t u : List ℕ)
    → FollowsFrame plan all_frames past time named f next t → FollowsFrame plan all_frames past time named f other u → (next ≡ other) × (t ≡ u)
one_frame_read plan all_frames past time named f next other t u a b =
    let log : List Timed = lines_with past f time in
    let front : List ℕ = stamp past.number time in
    let packet = one_heard_as plan log f a.packet b.packet a.heard_as b.heard_as in
    let notice = one_notice plan log front f a.notice b.notice a.notice_is b.notice_is in
    let report = one_message_report plan log front (in_frame f) a.sort b.sort a.report b.report a.report_is b.report_is in
    let reported_alike = ap (λ (t : List ℕ). t ++ a.report) notice ∙ ap (λ (t : List ℕ). b.notice ++ t) report.1 in
    let bare = one_bare plan all_frames log front f (b.notice ++ b.report) a.bare b.bare
    (subst (λ (t : List ℕ). IsBareText plan all_frames log front f t a.bare) reported_alike a.bare_is) b.bare_is in
    let there = subst (λ (p : Option Packet). IsPacketReport plan past.seen log front f p a.sorts a.carried) packet a.carried_is in
    let carried = one_packet_report plan past.seen log front f b.packet a.sorts b.sorts a.carried b.carried there b.carried_is in
    let stated = one_stated plan log f (b.sort ∷ b.sorts) a.events b.events
    (subst (λ (s : List Sort). AreEventsOf plan log f (b.sort ∷ s) a.events) carried.0
    (subst (λ (s : Sort). AreEventsOf plan log f (s ∷ a.sorts) a.events) report.0 a.events_are)) b.events_are in (
      a.next_is
          ∙ ap (λ (p : Option Packet). with_frame past time named f p a.sort a.sorts a.events) packet
          ∙ ap (λ (s : Sort). with_frame past time named f b.packet s a.sorts a.events) report.0
          ∙ ap (λ (s : List Sort). with_frame past time named f b.packet b.sort s a.events) carried.0
          ∙ ap (λ (e : List Event). with_frame past time named f b.packet b.sort b.sorts e) stated
          ∙ sym b.next_is,
      a.text_is
          ∙ ap (λ (x : List ℕ). x ++ (a.report ++ (a.bare ++ a.carried))) notice
          ∙ ap (λ (x : List ℕ). b.notice ++ (x ++ (a.bare ++ a.carried))) report.1
          ∙ ap (λ (x : List ℕ). b.notice ++ (b.report ++ (x ++ a.carried))) bare
          ∙ ap (λ (x : List ℕ). b.notice ++ (b.report ++ (b.bare ++ x))) carried.1
          ∙ sym b.text_is,
    )

one_part_read : (plan : Plan) (all_frames : Bool) (past : FollowedPast) (line part : List ℕ) (named : Option (List ℕ)) (next other : FollowedPast)
    (t u : List ℕ)
    → FollowsPart plan all_frames past line part named next t → FollowsPart plan all_frames past line part named other u → (next ≡ other) × (t ≡ u)
one_part_read plan all_frames past line part named next other t u (inl a) (inl b) =
    let frame = one_spelled part a.0 b.0 a.2 b.2 in
    let time = one_time line a.1 b.1 a.3 b.3 in
    one_frame_read plan all_frames past b.1 named b.0 next other t u
    (subst (λ (x : List ℕ). FollowsFrame plan all_frames past x named b.0 next t) time
    (subst (λ (f : Frame). FollowsFrame plan all_frames past a.1 named f next t) frame a.4)) b.4
one_part_read plan all_frames past line part named next other t u (inl a) (inr b) = absurd (not_both part a.0 b.0 a.2 b.1)
one_part_read plan all_frames past line part named next other t u (inr a) (inl b) = absurd (not_both part b.0 a.0 b.2 a.1)
one_part_read plan all_frames past line part named next other t u (inr a) (inr b) =
    let same = one_fault part a.0 b.0 a.1 b.1 in
    (a.2 ∙ ap (λ (e : LineError). line_passed_over e past) same ∙ sym b.2, a.3 ∙ sym b.3)

one_rest_read : (plan : Plan) (all_frames : Bool) (past : FollowedPast) (line part : List ℕ) (named : Option (List ℕ)) (next other : FollowedPast)
    (t u : List ℕ)
    → ((IsElsewhere past.interface part named × (next ≡ record past { elsewhere = past.elsewhere + 1 }) × (t ≡ []))
    ⊎ ((¬ IsElsewhere past.interface part named) × FollowsPart plan all_frames past line part named next t))
    → ((IsElsewhere past.interface part named × (other ≡ record past { elsewhere = past.elsewhere + 1 }) × (u ≡ []))
    ⊎ ((¬ IsElsewhere past.interface part named) × FollowsPart plan all_frames past line part named other u))
    → (next ≡ other) × (t ≡ u)
one_rest_read plan all_frames past line part named next other t u (inl a) (inl b) = (a.1 ∙ sym b.1, a.2 ∙ sym b.2)
one_rest_read plan all_frames past line part named next other t u (inl a) (inr b) = absurd (b.0 a.0)
one_rest_read plan all_frames past line part named next other t u (inr a) (inl b) = absurd (a.0 b.0)
one_rest_read plan all_frames past line part named next other t u (inr a) (inr b) = one_part_read plan all_frames past line part named next other t u a.1 b.1

-- what is left once the part and the interface of a line are known
abbrev ReadsRest : Plan → Bool → FollowedPast → List ℕ → List ℕ → Option (List ℕ) → FollowedPast → List ℕ → Type 0
ReadsRest plan all_frames past line part named next t =
    (IsElsewhere past.interface part named × (next ≡ record past { elsewhere = past.elsewhere + 1 }) × (t ≡ []))
    ⊎ ((¬ IsElsewhere past.interface part named) × FollowsPart plan all_frames past line part named next t)

one_short_read : (plan : Plan) (all_frames : Bool) (past : FollowedPast) (line : List ℕ) (next other : FollowedPast) (t u : List ℕ)
    → FollowsShort plan all_frames past line next t → FollowsShort plan all_frames past line other u → (next ≡ other) × (t ≡ u)
one_short_read plan all_frames past line next other t u a b =
    let part = one_part line a.0 b.0 a.2 b.2 in
    let there = subst (λ (p : List ℕ). NamesInterface p a.1) part a.3 in
    let named = one_interface b.0 a.1 b.1 there b.3 in
    one_rest_read plan all_frames past line b.0 b.1 next other t u
    (subst (λ (i : Option (List ℕ)). ReadsRest plan all_frames past line b.0 i next t) named
    (subst (λ (p : List ℕ). ReadsRest plan all_frames past line p a.1 next t) part a.4)) b.4

one_line_read : (plan : Plan) (all_frames : Bool) (past : FollowedPast) (line : Line) (next other : FollowedPast) (t u : List ℕ)
    → FollowsLine plan all_frames past line next t → FollowsLine plan all_frames past line other u → (next ≡ other) × (t ≡ u)
one_line_read plan all_frames past Long next other t u a b = (a.0 ∙ sym b.0, a.1 ∙ sym b.1)
one_line_read plan all_frames past (Short line) next other t u a b = one_short_read plan all_frames (one_line_more past) line next other t u a b

one_lines_read : (plan : Plan) (all_frames : Bool) (past : FollowedPast) (all : List Line) (end other : FollowedPast) (t u : List ℕ)
    → FollowsLines plan all_frames past all end t → FollowsLines plan all_frames past all other u → (end ≡ other) × (t ≡ u)
one_lines_read plan all_frames past [] end other t u a b = (a.0 ∙ sym b.0, a.1 ∙ sym b.1)
one_lines_read plan all_frames past (line ∷ all) end other t u a b =
    let here = one_line_read plan all_frames past line a.0 b.0 a.1 b.1 a.3 b.3 in
    let rest : FollowsLines plan all_frames b.0 all end a.2 = subst (λ (p : FollowedPast). FollowsLines plan all_frames p all end a.2) here.0 a.4 in
    let behind = one_lines_read plan all_frames b.0 all end other a.2 b.2 rest b.4 in (
      behind.0,
      a.5 ∙ ap (λ (x : List ℕ). x ++ a.2) here.1 ∙ ap (λ (x : List ℕ). b.1 ++ x) behind.1 ∙ sym b.5,
    )

-- ---- a log

one_log_text : (plan : Plan) (all_frames : Bool) (log t u : List ℕ) → IsFollowedLog plan all_frames log t → IsFollowedLog plan all_frames log u → t ≡ u
one_log_text plan all_frames log t u a b =
    let same = one_lines_read plan all_frames nothing_followed (lines log) a.past b.past a.reports b.reports a.read b.read in
    let there = subst (λ (p : FollowedPast). AreUnitLines plan (frames_seen p.seen) 0 plan.units.items a.units) same.0 a.units_are in
    let units = one_unit_lines plan (frames_seen b.past.seen) 0 plan.units.items a.units b.units there b.units_are in
    a.text_is ∙ ap (λ (x : List ℕ). x ++ behind_reports plan a.past a.units) same.1
    ∙ ap (λ (p : FollowedPast). b.reports ++ behind_reports plan p a.units) same.0 ∙ ap (λ (x : List ℕ). b.reports ++ behind_reports plan b.past x) units
    ∙ sym b.text_is

pub one_text : (plan : Plan) (all_frames : Bool) (log t u : List ℕ) (v w : Verdict) → IsFollowText plan all_frames log t v
    → IsFollowText plan all_frames log u w → (t ≡ u) × (v ≡ w)
one_text plan all_frames log t u Done Done a b = (one_log_text plan all_frames log t u a.1 b.1, refl)
one_text plan all_frames log t u Refused Refused a b =
    (a.2 ∙ ap (refused_plan_line plan) (one_refused plan.groups.items a.0 b.0 a.1 b.1) ∙ sym b.2, refl)
one_text plan all_frames log t u Done Refused a b = absurd (not_all plan.groups.items b.0 a.0 b.1)
one_text plan all_frames log t u Refused Done a b = absurd (not_all plan.groups.items a.0 b.0 a.1)
one_text plan all_frames log t u Findings w a b = absurd a
one_text plan all_frames log t u Unreadable w a b = absurd a
one_text plan all_frames log t u Done Findings a b = absurd b
one_text plan all_frames log t u Done Unreadable a b = absurd b
one_text plan all_frames log t u Refused Findings a b = absurd b
one_text plan all_frames log t u Refused Unreadable a b = absurd b
