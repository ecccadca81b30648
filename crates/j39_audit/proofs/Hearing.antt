-- Lines of a log, one after another.
use Rattle.std.proofs.Common.{◌≡◌, ◌<◌, ◌≤◌, ◌+◌, ◌++◌, ◌∷◌, [], ℕ, Bool, true, false, List, Bor, Option, Some, None, Vec, Global, inl, inr, refl, ap, subst}
use Rattle.std.proofs.Common.{◌∙◌, arith}
use Rattle.std.specs.Prelude.{IfNone, IfSome}
use Rattle.std.specs.Option.{option_copied}
use Rattle.j39_follow.specs.LogLines.{IsElsewhere, IsInterface, IsReadPart}
use Rattle.j39_follow.proofs.LinesRead.{names_it, not_elsewhere}
use Rattle.j39_id.proofs.CutLines.{yields_lines}
use Rattle.j39_id.specs.Lines.{Line, Pending, answer_to_end, at_start, behind_all, cutter_line, lines, yields, yielded, yielded_at_end}
use Rattle.j39_id.specs.declared.cut.Cut.{Cut}
use Rattle.j39_id.specs.declared.cut.Cut.TheVariants as cuts
use Rattle.j39_id.specs.declared.frame.Frame.{Frame}
use Rattle.j39_id.specs.declared.line_error.LineError.{LineError}
use Rattle.j39_id.specs.declared.line_error.LineError.TheVariants.{Empty, NoHash, ShortIdent, BadIdent, TooLong, BadData}
use Rattle.j39_log.specs.declared.line_counts.LineCounts.{LineCounts}
use Rattle.j39_log.specs.LineCounting.{AreWithin, IsLineMore}
use Rattle.j39_tp.specs.declared.packet.Packet.{Packet}
use Rattle.j39_audit.specs.AuditPasts.{AuditPast, AuditsLine, AuditsLines, AuditsPart, AuditsShort, passed_by, past_again, past_with_frame, with_next_number}
use Rattle.j39_audit.specs.Settings.{Settings}
use Rattle.j39_audit.specs.declared.again.TakenFrame.{TakenFrame}
use Rattle.j39_audit.specs.declared.audit_log.AuditLog.{AuditLog}
use Rattle.j39_audit.specs.inside.Auditing.{AccordsWith, RecallsAudit}

-- none of these is a line of its own
pub as_many_lines : (s : Settings) (e : LineError) (past : AuditPast) → (passed_by s e past).number ≡ past.number
as_many_lines s Empty past = refl
as_many_lines s NoHash past = refl
as_many_lines s ShortIdent past = refl
as_many_lines s BadIdent past = refl
as_many_lines s TooLong past = refl
as_many_lines s BadData past = refl

pub frame_number : (s : Settings) (past : AuditPast) (time : Option ℕ) (named : Option (List ℕ)) (f : Frame) (packet : Option Packet)
    → (past_with_frame s past time named f packet).number ≡ past.number
unfolding past_with_frame
frame_number s past time named f packet = refl

-- nor is one that stands there again
pub again_number : (s : Settings) (past : AuditPast) (taken : Option TakenFrame) (time : Option ℕ) → (past_again s taken time past).number ≡ past.number
unfolding past_again
again_number s past None time = refl
again_number s past (Some one) None = refl
again_number s past (Some one) (Some time) = refl

pub again_interface : (s : Settings) (past : AuditPast) (taken : Option TakenFrame) (time : Option ℕ)
    → (past_again s taken time past).interface ≡ past.interface
unfolding past_again
again_interface s past None time = refl
again_interface s past (Some one) None = refl
again_interface s past (Some one) (Some time) = refl

-- one line is read behind others
pub line_more : (s : Settings) (ls : List Line) (line : Line) (past middle end : AuditPast) → AuditsLines s past ls middle → AuditsLine s middle line end
    → AuditsLines s past (ls ++ line ∷ []) end
line_more s [] line past middle end all one = (end, subst (λ (p : AuditPast). AuditsLine s p line end) all one, refl)
line_more s (first ∷ ls) line past middle end all one = (all.0, all.1, line_more s ls line all.0 middle end all.2 one)

pub within_more : (counts : LineCounts) (most more : ℕ) → most ≤ more → AreWithin counts most → AreWithin counts more
within_more counts most more less within = record {
  frames = omega (arith, less, within.frames);
  skipped = omega (arith, less, within.skipped);
  bad = omega (arith, less, within.bad);
  elsewhere = omega (arith, less, within.elsewhere);
}

pub within_line : (old new : LineCounts) (most more : ℕ) → most < more → IsLineMore old new → AreWithin old most → AreWithin new more
within_line old new most more less line within = record {
  frames = omega (arith, less, within.frames, line.frames);
  skipped = omega (arith, less, within.skipped, line.skipped);
  bad = omega (arith, less, within.bad, line.bad);
  elsewhere = omega (arith, less, within.elsewhere, line.elsewhere);
}

-- the number of a line, its interface, the frame before and the counts are no part of what is followed
pub follows_still : (log : AuditLog) (past : AuditPast) {number n f k b e again a : ℕ} {interface : Option (Vec ℕ Global)} {counts : LineCounts}
    {i : Option (List ℕ)}
    {taken t : Option TakenFrame} → AccordsWith log past
    → AccordsWith (record log { number = number; interface = interface; counts = counts; taken = taken; again = again }) (record past {
      number = n;
      interface = i;
      taken = t;
      again = a;
      frames = f;
      skipped = k;
      bad = b;
      elsewhere = e;
    })
follows_still log past follows = record {
  knows = follows.knows;
  counted = follows.counted;
  newest_is = follows.newest_is;
  before_is = follows.before_is;
  moments = follows.moments;
  by_load = follows.by_load;
  asking = follows.asking;
  broadcasts = follows.broadcasts;
  sessions = follows.sessions;
}

-- one line more is begun
pub next_line : (log : AuditLog) (past : AuditPast) → RecallsAudit log past
    → RecallsAudit (record log { number = log.number + 1 }) (with_next_number past)
next_line log past recalls = record {
  follows = follows_still log past recalls.follows;
  number_is = ap (λ (n : ℕ). n + 1) recalls.number_is;
  interface_is = recalls.interface_is;
  taken_is = recalls.taken_is;
  again_is = recalls.again_is;
  frames_are = recalls.frames_are;
  skipped_are = recalls.skipped_are;
  bad_are = recalls.bad_are;
  elsewhere_are = recalls.elsewhere_are;
}

-- a line is read by its part and by the interface that was found in it
module _ (s : Settings) (past next : AuditPast) (line part : List ℕ) (found : Option (Bor (List ℕ))) (part_is : IsReadPart line part)
    (named : IfSome found (λ i. IsInterface part i.now)) (none : IfNone found ((i : List ℕ) → ¬ IsInterface part i)) where
  pub heard_elsewhere : (kept : Option (List ℕ)) → kept ≡ past.interface → IsElsewhere kept part (option_copied found)
      → next ≡ record past { elsewhere = past.elsewhere + 1 } → AuditsShort s past line next
  heard_elsewhere kept same there is = (
    part,
    option_copied found,
    part_is,
    names_it part found named none,
    inl (subst (λ (i : Option (List ℕ)). IsElsewhere i part (option_copied found)) same there, is),
  )

  pub heard_here : (test : Bool) (kept : Option (List ℕ)) → test ≡ false → (IsElsewhere kept part (option_copied found) → test ≡ true)
      → kept ≡ past.interface → AuditsPart s past line part (option_copied found) next → AuditsShort s past line next
  heard_here test kept isnt yielded same reads = (
    part,
    option_copied found,
    part_is,
    names_it part found named none,
    inr (not_elsewhere test kept past.interface part (option_copied found) isnt yielded same, reads),
  )

reports_given : (cut : Cut) (p : Pending) → yields cut (cutter_line cut p) ≡ yields cut p.held
reports_given cuts.More p = refl
reports_given cuts.Line p = refl
reports_given cuts.Long p = refl

-- with what a cutter yields at the end all lines are reported
pub all_lines_reported : (input : List ℕ) (cut : Cut) (p : Pending) (line : List ℕ) → p ≡ behind_all at_start input → cut ≡ answer_to_end p
    → line ≡ cutter_line cut p → yielded at_start input ++ yields cut line ≡ lines input
all_lines_reported input cut p line at answered gave =
    let end : yields cut line ≡ yielded_at_end p = ap (yields cut) gave ∙ reports_given cut p ∙ ap (λ (k : Cut). yields k p.held) answered in
    ap (λ (l : List Line). yielded at_start input ++ l) end
    ∙ ap (λ (r : Pending). yielded at_start input ++ yielded_at_end r) at ∙ yields_lines input
