-- What one line more is to the lines that were followed, and what ends their text.
use Rattle.std.specs.Prelude.{◌+◌, ℕ, Bool, List, [], ◌∷◌, ◌++◌}
use Rattle.std.proofs.Common.{refl, sym, ap, subst, ◌∙◌, append_assoc}
use Rattle.std.proofs.lemmas.List.{append-nil, length_push}
use Rattle.j39_id.specs.Lines.{Line, Long}
use Rattle.j39_network.specs.declared.plan.Plan.{Plan}
use Rattle.j39_log.specs.LineCounting.{one_more_bad}
use Rattle.j39_log.specs.ReportedLogs.{HasEnd}
use Rattle.j39_log.specs.declared.line_counts.LineCounts.{LineCounts}
use Rattle.j39_follow.specs.FollowText.{IsFollowedLog, FollowedPast, FollowsLine, FollowsLines, nothing_followed, one_line_more, with_bad_line, behind_reports}
use Rattle.j39_follow.specs.declared.unit_report.UnitReport.{UnitReport}
use Rattle.j39_follow.specs.inside.FollowedSoFar.{HasFollowedLines}

-- one line more is followed behind others
pub line_more : (plan : Plan) (all_frames : Bool) (ls : List Line) (line : Line) (past middle end : FollowedPast) (text piece : List ℕ)
    → FollowsLines plan all_frames past ls middle text → FollowsLine plan all_frames middle line end piece
    → FollowsLines plan all_frames past (ls ++ line ∷ []) end (text ++ piece)
line_more plan all_frames [] line past middle end text piece all one = (
  end,
  piece,
  [],
  subst (λ (p : FollowedPast). FollowsLine plan all_frames p line end piece) all.0 one,
  (refl, refl),
  ap (λ (t : List ℕ). t ++ piece) all.1 ∙ sym (append-nil piece),
)
line_more plan all_frames (first ∷ ls) line past middle end text piece all one = (
  all.0,
  all.1,
  all.2 ++ piece,
  all.3,
  line_more plan all_frames ls line all.0 middle end all.2 piece all.4 one,
  ap (λ (t : List ℕ). t ++ piece) all.5 ∙ append_assoc all.1 all.2 piece,
)

-- a line that is too long
pub long_line_followed : (plan : Plan) (report : UnitReport) (counts : LineCounts) (ls : List Line) (reports : List ℕ)
    → HasFollowedLines plan report counts ls reports → HasFollowedLines plan report (one_more_bad counts) (ls ++ Long ∷ []) reports
long_line_followed plan report counts ls reports before =
    let next : FollowedPast = with_bad_line (one_line_more before.past) in
    record {
      past = next;
      units = before.units;
      read = subst (λ (t : List ℕ). FollowsLines plan report.all_frames nothing_followed (ls ++ Long ∷ []) next t) (append-nil reports)
          (line_more plan report.all_frames ls Long nothing_followed before.past next reports [] before.read (refl, refl));
      recalls = record {
        remembers = before.recalls.remembers;
        interface_is = before.recalls.interface_is;
        frames_are = before.recalls.frames_are;
        skipped_are = before.recalls.skipped_are;
        bad_are = ap (λ (n : ℕ). n + 1) before.recalls.bad_are;
        elsewhere_are = before.recalls.elsewhere_are;
      };
      number_is = ap (λ (n : ℕ). n + 1) before.number_is ∙ sym (length_push ls Long);
      units_are = before.units_are;
    }

-- with what stands at the end the text is whole
pub followed_lines_end : (plan : Plan) (report : UnitReport) (counts : LineCounts) (ls : List Line) (reports : List ℕ)
    → HasFollowedLines plan report counts ls reports → HasEnd (λ log text. IsFollowedLog plan report.all_frames log text) ls reports
followed_lines_end plan report counts ls reports before log all = (
  behind_reports plan before.past before.units,
  record {
    past = before.past;
    reports = reports;
    units = before.units;
    read = subst (λ (all_lines : List Line). FollowsLines plan report.all_frames nothing_followed all_lines before.past reports) (sym all) before.read;
    units_are = before.units_are;
    text_is = refl;
  },
)
