-- For a plan and a log there is one text.
use Rattle.std.proofs.Common.{◌≡◌, ℕ, ◌<◌, List, [], ◌∷◌, ◌++◌, length, take, get_or, All, Option, Some, None, inl, inr, refl, sym, ap, ◌∙◌, subst, arith}
use Rattle.std.proofs.lemmas.Bool.{cases_order}
use Rattle.std.proofs.lemmas.List.{get_or-take, length-take}
use Rattle.std.proofs.lemmas.Option.{get_or_from_slice_get, slice_get_within, same_Some}
use Rattle.j39_id.proofs.LineLaws.{one_spelled, not_both, one_fault}
use Rattle.j39_id.specs.Lines.{Line, Short, Long, lines}
use Rattle.j39_id.specs.Services.{connection_management, data_transfer}
use Rattle.j39_id.specs.declared.frame.Frame.{Frame}
use Rattle.j39_id.specs.declared.ident.Ident.{Ident}
use Rattle.j39_id.specs.declared.line_error.LineError.{LineError}
use Rattle.j39_search.specs.ListPlaces.{ValueAt}
use Rattle.j39_signal.proofs.LaidOut.{no_fault}
use Rattle.j39_network.specs.PlannedGroups.{IsSendable, IsRefusedGroup, IsFirstRefused}
use Rattle.j39_network.specs.declared.plan.Plan.{Plan}
use Rattle.j39_network.specs.declared.plan.group_plan.GroupPlan.{GroupPlan}
use Rattle.j39_tp.proofs.PacketLaws.{one_management, one_data}
use Rattle.j39_tp.proofs.Tracking.{one_pgn, one_message}
use Rattle.j39_tp.specs.declared.packet.Packet.{Packet}
use Rattle.j39_stream.specs.declared.verdict.Verdict.{Verdict}
use Rattle.j39_stream.specs.declared.verdict.Verdict.TheVariants.{Done, Findings, Refused, Unreadable}
use Rattle.j39_log.specs.LogFrames.{IsPacket, IsHeardAs, planned_group, planned}
use Rattle.j39_log.specs.LogPairs.{Seen}
use Rattle.j39_log.specs.NamedReports.{named_report}
use Rattle.j39_log.specs.ReadText.{IsFrameReport, IsGroupReport, IsLogText, IsMessageText, IsReadText, Past, ReadsFrame, ReadsLine}
use Rattle.j39_log.specs.ReadText.{ReadsLines, count_line, heard_before, nothing_yet, passed_over, refused_plan_line, with_frame}

-- ---- a frame

two_services : (n : ℕ) → n ≡ connection_management → n ≡ data_transfer → ⊥
two_services n a b = omega (arith, a, b)

pub one_packet : (f : Frame) (p q : Packet) → IsPacket f p → IsPacket f q → p ≡ q
one_packet f p q (inl a) (inl b) = one_management f.payload.items p q a.1 b.1
one_packet f p q (inl a) (inr b) = absurd (two_services _ a.0 b.0)
one_packet f p q (inr a) (inl b) = absurd (two_services _ b.0 a.0)
one_packet f p q (inr a) (inr b) = one_data f.payload.items p q a.1 b.1

one_heard : (plan : Plan) (f : Frame) (p q : Option Packet) → IsHeardAs plan f p → IsHeardAs plan f q → p ≡ q
one_heard plan f None None a b = refl
one_heard plan f (Some p) (Some q) a b = ap Some (one_packet f p q a.1 b.1)
one_heard plan f (Some p) None a (inl b) = absurd (b a.0)
one_heard plan f (Some p) None a (inr b) = absurd (b p a.1)
one_heard plan f None (Some q) (inl a) b = absurd (a b.0)
one_heard plan f None (Some q) (inr a) b = absurd (a q b.1)

one_group_report : (plan : Plan) (place : Option ℕ) (i : Ident) (bytes t u : List ℕ)
    → IsGroupReport plan place i bytes t → IsGroupReport plan place i bytes u → t ≡ u
one_group_report plan None i bytes t u a b = a ∙ sym b
one_group_report plan (Some g) i bytes t u a b =
    let same : a.value ≡ b.value = same_Some a.value b.value (sym a.value_is ∙ b.value_is) in
    a.meets ∙ ap (λ (group : GroupPlan). named_report plan group i bytes) same ∙ sym b.meets

one_message_text : (plan : Plan) (h : List Packet) (place : ℕ) (i : Ident) (t u : List ℕ)
    → IsMessageText plan h place i t → IsMessageText plan h place i u → t ≡ u
one_message_text plan h place i t u (inl a) (inl b) =
    let pgn : a.0 ≡ b.0 = one_pgn h place a.0 b.0 a.1 b.1 a.2 b.2 in
    let bytes : a.1 ≡ b.1 = one_message h place a.0 b.0 a.1 b.1 a.2 b.2 in
    let there : IsGroupReport plan (planned plan b.0 b.1) i b.1 t =
    subst (λ (m : List ℕ). IsGroupReport plan (planned plan b.0 m) i m t) bytes
    (subst (λ (n : ℕ). IsGroupReport plan (planned plan n a.1) i a.1 t) pgn a.3) in
    one_group_report plan (planned plan b.0 b.1) i b.1 t u there b.3
one_message_text plan h place i t u (inl a) (inr b) = absurd (b.0 a.0 a.1 a.2)
one_message_text plan h place i t u (inr a) (inl b) = absurd (a.0 b.0 b.1 b.2)
one_message_text plan h place i t u (inr a) (inr b) = a.1 ∙ sym b.1

one_frame_report : (plan : Plan) (before : List Seen) (f : Frame) (packet : Option Packet) (t u : List ℕ)
    → IsFrameReport plan before f packet t → IsFrameReport plan before f packet u → t ≡ u
one_frame_report plan before f None t u a b = one_group_report plan (planned_group plan f) f.ident f.payload.items t u a b
one_frame_report plan before f (Some p) t u a b =
    one_message_text plan (heard_before before f.ident ++ p ∷ []) (length (heard_before before f.ident)) f.ident t u a b

-- ---- a line

one_frame_read : (plan : Plan) (past : Past) (f : Frame) (next other : Past) (t u : List ℕ)
    → ReadsFrame plan past f next t → ReadsFrame plan past f other u → (next ≡ other) × (t ≡ u)
one_frame_read plan past f next other t u a b =
    let same : a.0 ≡ b.0 = one_heard plan f a.0 b.0 a.1 b.1 in
    let there : IsFrameReport plan past.seen f b.0 t = subst (λ (p : Option Packet). IsFrameReport plan past.seen f p t) same a.2 in
    (a.3 ∙ ap (with_frame past f) same ∙ sym b.3, one_frame_report plan past.seen f b.0 t u there b.2)

one_line_read : (plan : Plan) (past : Past) (line : Line) (next other : Past) (t u : List ℕ)
    → ReadsLine plan past line next t → ReadsLine plan past line other u → (next ≡ other) × (t ≡ u)
one_line_read plan past Long next other t u a b = (a.0 ∙ sym b.0, a.1 ∙ sym b.1)
one_line_read plan past (Short bytes) next other t u (inl a) (inl b) =
    let same : a.0 ≡ b.0 = one_spelled bytes a.0 b.0 a.1 b.1 in
    one_frame_read plan past b.0 next other t u (subst (λ (f : Frame). ReadsFrame plan past f next t) same a.2) b.2
one_line_read plan past (Short bytes) next other t u (inl a) (inr b) = absurd (not_both bytes a.0 b.0 a.1 b.1)
one_line_read plan past (Short bytes) next other t u (inr a) (inl b) = absurd (not_both bytes b.0 a.0 b.1 a.1)
one_line_read plan past (Short bytes) next other t u (inr a) (inr b) =
    let same : a.0 ≡ b.0 = one_fault bytes a.0 b.0 a.1 b.1 in
    (a.2 ∙ ap (λ (e : LineError). passed_over e past) same ∙ sym b.2, a.3 ∙ sym b.3)

one_lines_read : (plan : Plan) (past : Past) (all : List Line) (end other : Past) (t u : List ℕ)
    → ReadsLines plan past all end t → ReadsLines plan past all other u → (end ≡ other) × (t ≡ u)
one_lines_read plan past [] end other t u a b = (a.0 ∙ sym b.0, a.1 ∙ sym b.1)
one_lines_read plan past (line ∷ all) end other t u a b =
    let here = one_line_read plan past line a.0 b.0 a.1 b.1 a.3 b.3 in
    let rest : ReadsLines plan b.0 all end a.2 = subst (λ (p : Past). ReadsLines plan p all end a.2) here.0 a.4 in
    let behind = one_lines_read plan b.0 all end other a.2 b.2 rest b.4 in (
      behind.0,
      a.5 ∙ ap (λ (x : List ℕ). x ++ a.2) here.1 ∙ ap (λ (x : List ℕ). b.1 ++ x) behind.1 ∙ sym b.5,
    )

one_log_text : (plan : Plan) (log t u : List ℕ) → IsLogText plan log t → IsLogText plan log u → t ≡ u
one_log_text plan log t u a b =
    let same = one_lines_read plan nothing_yet (lines log) a.past b.past a.reports b.reports a.read b.read in
    a.text_is ∙ ap (λ (x : List ℕ). x ++ count_line a.past) same.1 ∙ ap (λ (p : Past). b.reports ++ count_line p) same.0 ∙ sym b.text_is

-- ---- a plan

not_both_ways : (group : GroupPlan) → IsSendable group → IsRefusedGroup group → ⊥
not_both_ways group sendable (inl number) = number sendable.number
not_both_ways group sendable (inr (inl layout)) =
    no_fault group.most group.signals.items layout.0 layout.1 sendable.layout.longest layout.2
not_both_ways group sendable (inr (inr (inl behind))) = behind sendable.layout.always
not_both_ways group sendable (inr (inr (inr selector))) = selector sendable.selector

-- where the first groups are sendable, none of them is refused
unrefused : (groups : List GroupPlan) (n g : ℕ) → All IsSendable (take n groups) → g < n → ValueAt IsRefusedGroup groups g → ⊥
unrefused groups n g all before refused =
    let inside : g < length groups = slice_get_within groups g refused.value refused.value_is in
    let group : GroupPlan = refused.value in
    let within : g < length (take n groups) = omega (arith, length-take n groups, before, inside) in
    let here : get_or (take n groups) g group ≡ group = get_or-take n groups g group before ∙ get_or_from_slice_get groups g group group refused.value_is in
    not_both_ways group (subst IsSendable here (all g group within)) refused.meets

pub not_all : (groups : List GroupPlan) (g : ℕ) → All IsSendable groups → IsFirstRefused groups g → ⊥
not_all groups g all first =
    let refused = first.1 in
    let group : GroupPlan = refused.value in
    let here : get_or groups g group ≡ group = get_or_from_slice_get groups g group group refused.value_is in
    not_both_ways group (subst IsSendable here (all g group (slice_get_within groups g group refused.value_is))) refused.meets

pub one_refused : (groups : List GroupPlan) (g h : ℕ) → IsFirstRefused groups g → IsFirstRefused groups h → g ≡ h
one_refused groups g h a b =
    elim (cases_order g h) [
      | inl same ↦ same
      | inr (inl below) ↦ absurd (unrefused groups h g b.0 below a.1)
      | inr (inr above) ↦ absurd (unrefused groups g h a.0 above b.1)
    ]

pub one_text : (plan : Plan) (log t u : List ℕ) (v w : Verdict) → IsReadText plan log t v → IsReadText plan log u w → (t ≡ u) × (v ≡ w)
one_text plan log t u Done Done a b = (one_log_text plan log t u a.1 b.1, refl)
one_text plan log t u Refused Refused a b =
    (a.2 ∙ ap (refused_plan_line plan) (one_refused plan.groups.items a.0 b.0 a.1 b.1) ∙ sym b.2, refl)
one_text plan log t u Done Refused a b = absurd (not_all plan.groups.items b.0 a.0 b.1)
one_text plan log t u Refused Done a b = absurd (not_all plan.groups.items a.0 b.0 a.1)
one_text plan log t u Findings w a b = absurd a
one_text plan log t u Unreadable w a b = absurd a
one_text plan log t u Done Findings a b = absurd b
one_text plan log t u Done Unreadable a b = absurd b
one_text plan log t u Refused Findings a b = absurd b
one_text plan log t u Refused Unreadable a b = absurd b
