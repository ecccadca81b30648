-- For a line there is one text of a frame.
use Rattle.std.proofs.Common.{◌≡◌, ℕ, List, refl, sym, ap, ◌∙◌}
use Rattle.j39_id.proofs.LineLaws.{one_spelled, not_both, one_fault}
use Rattle.j39_text.specs.FrameText.{IsFrameText, frame_lines, refused_frame_line}
use Rattle.j39_stream.specs.declared.verdict.Verdict.{Verdict}
use Rattle.j39_stream.specs.declared.verdict.Verdict.TheVariants.{Done, Findings, Refused, Unreadable}

pub one_text : (line t u : List ℕ) (v w : Verdict) → IsFrameText line t v → IsFrameText line u w → (t ≡ u) × (v ≡ w)
one_text line t u Done Done a b = (a.2 ∙ ap frame_lines (one_spelled line a.0 b.0 a.1 b.1) ∙ sym b.2, refl)
one_text line t u Unreadable Unreadable a b = (a.2 ∙ ap refused_frame_line (one_fault line a.0 b.0 a.1 b.1) ∙ sym b.2, refl)
one_text line t u Done Unreadable a b = absurd (not_both line a.0 b.0 a.1 b.1)
one_text line t u Unreadable Done a b = absurd (not_both line b.0 a.0 b.1 a.1)
one_text line t u Findings w a b = absurd a
one_text line t u Refused w a b = absurd a
one_text line t u Done Findings a b = absurd b
one_text line t u Done Refused a b = absurd b
one_text line t u Unreadable Findings a b = absurd b
one_text line t u Unreadable Refused a b = absurd b
