-- What the read command keeps of what came so far.
use Rattle.std.specs.Prelude.{◌≡◌, ◌+◌, ℕ, List, [], ◌∷◌, ◌++◌, length}
use Rattle.std.proofs.Common.{refl, sym, ap, subst, ◌∙◌, append_assoc}
use Rattle.std.proofs.lemmas.List.{append-nil}
use Rattle.j39_id.specs.Lines.{Line, Long}
use Rattle.j39_network.specs.declared.plan.Plan.{Plan}
use Rattle.j39_log.specs.LineCounting.{one_more_bad}
use Rattle.j39_log.specs.ReadText.{IsLogText, Past, ReadsLine, ReadsLines, count_line, nothing_yet, with_bad}
use Rattle.j39_log.specs.ReportedLogs.{HasEnd}
use Rattle.j39_log.specs.declared.line_counts.LineCounts.{LineCounts}
use Rattle.j39_log.specs.declared.listeners.Listeners.{Listeners}
use Rattle.j39_log.specs.PairListeners.{AreAllInRange, HaveHeard}

-- what was read so far is this
pub record Recalls (listeners : Listeners) (counts : LineCounts) (past : Past) : Type 0 where
  pub heard_all : HaveHeard listeners.rows.items past.seen
  pub ranges : AreAllInRange past.seen
  pub frames_are : counts.frames ≡ length past.seen
  pub skipped_are : counts.skipped ≡ past.skipped
  pub bad_are : counts.bad ≡ past.bad

-- these lines were read, and this is written of them
pub record HasReadLines (plan : Plan) (listeners : Listeners) (counts : LineCounts) (ls : List Line) (reports : List ℕ) : Type 0 where
  pub past : Past
  pub read : ReadsLines plan nothing_yet ls past reports
  pub recalls : Recalls listeners counts past

-- ---- one line more

-- one line more is read behind others
pub line_more : (plan : Plan) (ls : List Line) (line : Line) (past middle end : Past) (text piece : List ℕ) → ReadsLines plan past ls middle text
    → ReadsLine plan middle line end piece → ReadsLines plan past (ls ++ line ∷ []) end (text ++ piece)
line_more plan [] line past middle end text piece all one = (
  end,
  piece,
  [],
  subst (λ (p : Past). ReadsLine plan p line end piece) all.0 one,
  (refl, refl),
  ap (λ (t : List ℕ). t ++ piece) all.1 ∙ sym (append-nil piece),
)
line_more plan (first ∷ ls) line past middle end text piece all one = (
  all.0,
  all.1,
  all.2 ++ piece,
  all.3,
  line_more plan ls line all.0 middle end all.2 piece all.4 one,
  ap (λ (t : List ℕ). t ++ piece) all.5 ∙ append_assoc all.1 all.2 piece,
)

-- a line that is too long
pub long_line_read : (plan : Plan) (listeners : Listeners) (counts : LineCounts) (ls : List Line) (reports : List ℕ)
    → HasReadLines plan listeners counts ls reports → HasReadLines plan listeners (one_more_bad counts) (ls ++ Long ∷ []) reports
long_line_read plan listeners counts ls reports before = record {
  past = with_bad before.past;
  read = subst (λ (t : List ℕ). ReadsLines plan nothing_yet (ls ++ Long ∷ []) (with_bad before.past) t) (append-nil reports)
      (line_more plan ls Long nothing_yet before.past (with_bad before.past) reports [] before.read (refl, refl));
  recalls = record {
    heard_all = before.recalls.heard_all;
    ranges = before.recalls.ranges;
    frames_are = before.recalls.frames_are;
    skipped_are = before.recalls.skipped_are;
    bad_are = ap (λ (n : ℕ). n + 1) before.recalls.bad_are;
  };
}

-- with the line of counts the text is whole
pub read_lines_end : (plan : Plan) (listeners : Listeners) (counts : LineCounts) (ls : List Line) (reports : List ℕ)
    → HasReadLines plan listeners counts ls reports → HasEnd (λ log text. IsLogText plan log text) ls reports
read_lines_end plan listeners counts ls reports before log all = (
  count_line before.past,
  record {
    past = before.past;
    reports = reports;
    read = subst (λ (all_lines : List Line). ReadsLines plan nothing_yet all_lines before.past reports) (sym all) before.read;
    text_is = refl;
  },
)
