-- A log is read in one way.
use Rattle.std.proofs.Common.{◌≡◌, ◌⊎◌, ◌+◌, ℕ, List, [], ◌∷◌, Option, Some, None, inl, inr, refl, sym, ap, subst, ◌∙◌}
use Rattle.j39_id.proofs.LineLaws.{not_both, one_fault, one_spelled}
use Rattle.j39_id.specs.Lines.{Line, Short as ShortLine, Long}
use Rattle.j39_id.specs.declared.frame.Frame.{Frame}
use Rattle.j39_id.specs.declared.line_error.LineError.{LineError}
use Rattle.j39_tp.specs.declared.packet.Packet.{Packet}
use Rattle.j39_log.proofs.OneText.{one_packet}
use Rattle.j39_follow.proofs.OneText.{one_interface, one_part, one_time}
use Rattle.j39_follow.specs.LogLines.{IsElsewhere, NamesInterface}
use Rattle.j39_audit.specs.AuditPasts.{AuditPast, AuditsFrame, AuditsLine, AuditsLines, AuditsPart, AuditsShort, passed_by, past_with_frame, with_next_number}
use Rattle.j39_audit.specs.Breaks.{line_time}
use Rattle.j39_audit.specs.Looking.{IsPacketOf}
use Rattle.j39_audit.specs.Settings.{Settings}
use Rattle.std.proofs.lemmas.Bool.{true≢false}

pub one_packet_of : (f : Frame) (p q : Option Packet) → IsPacketOf f p → IsPacketOf f q → p ≡ q
one_packet_of f (Some p) (Some q) a b = ap Some (one_packet f p q a b)
one_packet_of f (Some p) None a b = absurd (b p a)
one_packet_of f None (Some q) a b = absurd (a q b)
one_packet_of f None None a b = refl

-- ---- lines

one_frame : (s : Settings) (past : AuditPast) (time : List ℕ) (named : Option (List ℕ)) (f : Frame) (next other : AuditPast)
    → AuditsFrame s past time named f next → AuditsFrame s past time named f other → next ≡ other
one_frame s past time named f next other (inl (_, a)) (inl (_, b)) = a ∙ sym b
one_frame s past time named f next other (inl (again, a)) (inr (new, b)) = absurd (true≢false (sym again ∙ new))
one_frame s past time named f next other (inr (new, a)) (inl (again, b)) = absurd (true≢false (sym again ∙ new))
one_frame s past time named f next other (inr (_, (p, p_is, a))) (inr (_, (q, q_is, b))) =
    a ∙ ap (past_with_frame s past (line_time s.plan time) named f) (one_packet_of f p q p_is q_is) ∙ sym b

one_part_read : (s : Settings) (past : AuditPast) (line part : List ℕ) (named : Option (List ℕ)) (next other : AuditPast)
    → AuditsPart s past line part named next → AuditsPart s past line part named other → next ≡ other
one_part_read s past line part named next other (inl a) (inl b) =
    let frame = one_spelled part a.0 b.0 a.2 b.2 in
    let time = one_time line a.1 b.1 a.3 b.3 in
    one_frame s past b.1 named b.0 next other
    (subst (λ (x : List ℕ). AuditsFrame s past x named b.0 next) time
    (subst (λ (f : Frame). AuditsFrame s past a.1 named f next) frame a.4)) b.4
one_part_read s past line part named next other (inl a) (inr b) = absurd (not_both part a.0 b.0 a.2 b.1)
one_part_read s past line part named next other (inr a) (inl b) = absurd (not_both part b.0 a.0 b.2 a.1)
one_part_read s past line part named next other (inr a) (inr b) =
    a.2 ∙ ap (λ (e : LineError). passed_by s e past) (one_fault part a.0 b.0 a.1 b.1) ∙ sym b.2

abbrev ReadsRest : Settings → AuditPast → List ℕ → List ℕ → Option (List ℕ) → AuditPast → Type 0
ReadsRest s past line part named next =
    (IsElsewhere past.interface part named × (next ≡ record past { elsewhere = past.elsewhere + 1 }))
    ⊎ ((¬ IsElsewhere past.interface part named) × AuditsPart s past line part named next)

one_rest_read : (s : Settings) (past : AuditPast) (line part : List ℕ) (named : Option (List ℕ)) (next other : AuditPast)
    → ReadsRest s past line part named next → ReadsRest s past line part named other → next ≡ other
one_rest_read s past line part named next other (inl a) (inl b) = a.1 ∙ sym b.1
one_rest_read s past line part named next other (inl a) (inr b) = absurd (b.0 a.0)
one_rest_read s past line part named next other (inr a) (inl b) = absurd (a.0 b.0)
one_rest_read s past line part named next other (inr a) (inr b) = one_part_read s past line part named next other a.1 b.1

one_short_read : (s : Settings) (past : AuditPast) (line : List ℕ) (next other : AuditPast) → AuditsShort s past line next
    → AuditsShort s past line other → next ≡ other
one_short_read s past line next other a b =
    let part = one_part line a.0 b.0 a.2 b.2 in
    let there = subst (λ (p : List ℕ). NamesInterface p a.1) part a.3 in
    let named = one_interface b.0 a.1 b.1 there b.3 in
    one_rest_read s past line b.0 b.1 next other
    (subst (λ (i : Option (List ℕ)). ReadsRest s past line b.0 i next) named
    (subst (λ (p : List ℕ). ReadsRest s past line p a.1 next) part a.4)) b.4

pub one_line_read : (s : Settings) (past : AuditPast) (line : Line) (next other : AuditPast) → AuditsLine s past line next
    → AuditsLine s past line other → next ≡ other
one_line_read s past Long next other a b = a ∙ sym b
one_line_read s past (ShortLine line) next other a b = one_short_read s (with_next_number past) line next other a b

pub one_log_read : (s : Settings) (past : AuditPast) (log : List Line) (end other : AuditPast) → AuditsLines s past log end
    → AuditsLines s past log other → end ≡ other
one_log_read s past [] end other a b = a ∙ sym b
one_log_read s past (line ∷ log) end other a b =
    let here = one_line_read s past line a.0 b.0 a.1 b.1 in
    one_log_read s b.0 log end other (subst (λ (p : AuditPast). AuditsLines s p log end) here a.2) b.2
