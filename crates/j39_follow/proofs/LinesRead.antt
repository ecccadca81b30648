-- A log that is followed line after line.
use Rattle.std.proofs.Common.{◌≡◌, ◌+◌, ℕ, Bool, true, false, List, [], ◌∷◌, ◌++◌, length, Bor, Option, Some, None, inr, refl, sym, ap, subst, ◌∙◌}
use Rattle.std.specs.Prelude.{IfNone, IfSome}
use Rattle.std.specs.Option.{option_copied}
use Rattle.std.proofs.lemmas.Bool.{false≢true}
use Rattle.std.proofs.lemmas.List.{length_push}
use Rattle.j39_id.specs.Lines.{Line, Short, lines}
use Rattle.j39_id.specs.declared.line_error.LineError.{LineError}
use Rattle.j39_id.specs.declared.line_error.LineError.TheVariants.{BadData, BadIdent, Empty, NoHash, ShortIdent, TooLong}
use Rattle.j39_network.specs.declared.plan.Plan.{Plan}
use Rattle.j39_log.specs.LineCounting.{counted_over, no_lines}
use Rattle.j39_log.specs.declared.line_counts.LineCounts.{LineCounts}
use Rattle.j39_follow.specs.FollowText.{AreUnitLines, FollowedPast, FollowsLines, FollowsPart, FollowsShort, IsFollowedLog, frames_seen, line_passed_over}
use Rattle.j39_follow.specs.FollowText.{nothing_followed, one_line_more, behind_reports}
use Rattle.j39_follow.specs.LogLines.{IsElsewhere, IsInterface, IsReadPart, NamesInterface}
use Rattle.j39_follow.specs.declared.unit_report.UnitReport.{UnitReport}
use Rattle.j39_follow.specs.inside.FollowedSoFar.{HasFollowedLines, LeadsToPast, RecallsPast}
use Rattle.j39_follow.specs.inside.LinesFollowed.{line_more}
use Rattle.j39_follow.proofs.Addresses.Standing.{unit_lines}

-- ---- a line of another interface

-- one of which the test says that it isn't is none
pub not_elsewhere : (test : Bool) (kept known : Option (List ℕ)) (part : List ℕ) (named : Option (List ℕ)) → test ≡ false
    → (IsElsewhere kept part named → test ≡ true) → kept ≡ known → IsElsewhere known part named → ⊥
not_elsewhere test kept known part named isnt stated same there =
    false≢true (sym isnt ∙ stated (subst (λ (i : Option (List ℕ)). IsElsewhere i part named) (sym same) there))

-- ---- a line that spells no frame

pub as_many_lines : (e : LineError) (past : FollowedPast) → (line_passed_over e past).number ≡ past.number
as_many_lines Empty past = refl
as_many_lines ShortIdent past = refl
as_many_lines NoHash past = refl
as_many_lines BadIdent past = refl
as_many_lines TooLong past = refl
as_many_lines BadData past = refl

one_bad : (plan : Plan) (report : UnitReport) (counts : LineCounts) (past : FollowedPast) → RecallsPast plan report counts past
    → RecallsPast plan report (counted_over NoHash counts) (line_passed_over NoHash past)
one_bad plan report counts past recalls = record {
  remembers = recalls.remembers;
  interface_is = recalls.interface_is;
  frames_are = recalls.frames_are;
  skipped_are = recalls.skipped_are;
  bad_are = ap (λ (n : ℕ). n + 1) recalls.bad_are;
  elsewhere_are = recalls.elsewhere_are;
}

pub recalls_passed_over : (plan : Plan) (report : UnitReport) (counts : LineCounts) (e : LineError) (past : FollowedPast)
    → RecallsPast plan report counts past → RecallsPast plan report (counted_over e counts) (line_passed_over e past)
recalls_passed_over plan report counts Empty past recalls = recalls
recalls_passed_over plan report counts ShortIdent past recalls = record {
  remembers = recalls.remembers;
  interface_is = recalls.interface_is;
  frames_are = recalls.frames_are;
  skipped_are = ap (λ (n : ℕ). n + 1) recalls.skipped_are;
  bad_are = recalls.bad_are;
  elsewhere_are = recalls.elsewhere_are;
}
recalls_passed_over plan report counts NoHash past recalls = one_bad plan report counts past recalls
recalls_passed_over plan report counts BadIdent past recalls = one_bad plan report counts past recalls
recalls_passed_over plan report counts TooLong past recalls = one_bad plan report counts past recalls
recalls_passed_over plan report counts BadData past recalls = one_bad plan report counts past recalls

-- the interface that was found is the one that a line names
pub names_it : (part : List ℕ) (found : Option (Bor (List ℕ))) → IfSome found (λ i. IsInterface part i.now)
    → IfNone found ((i : List ℕ) → ¬ IsInterface part i) → NamesInterface part (option_copied found)
names_it part None some none = none
names_it part (Some i) some none = some

-- a line of which the test says that it isn't elsewhere is read by its part
pub read_here : (plan : Plan) (all_frames : Bool) (past next : FollowedPast) (line part text : List ℕ) (found : Option (Bor (List ℕ))) (test : Bool)
    (kept : Option (List ℕ)) → IsReadPart line part → NamesInterface part (option_copied found) → test ≡ false
    → (IsElsewhere kept part (option_copied found) → test ≡ true) → kept ≡ past.interface
    → FollowsPart plan all_frames past line part (option_copied found) next text → FollowsShort plan all_frames past line next text
read_here plan all_frames past next line part text found test kept read names isnt stated same follows =
    (part, option_copied found, read, names, inr (not_elsewhere test kept past.interface part (option_copied found) isnt stated same, follows))

-- ---- lines after lines

pub begun : (plan : Plan) (report : UnitReport) → RecallsPast plan report no_lines nothing_followed → HasFollowedLines plan report no_lines [] []
begun plan report recalls =
    let units = unit_lines plan report.directory.holders.value [] recalls.remembers.knows.recounts in
    record {
      past = nothing_followed;
      units = units.0;
      read = (refl, refl);
      recalls = recalls;
      number_is = refl;
      units_are = units.1;
    }

-- the line of a number is read behind those before it
pub line_read : (plan : Plan) (old new : UnitReport) (counts counted : LineCounts) (number : ℕ) (line old_text new_text : List ℕ)
    → ((past : FollowedPast) → RecallsPast plan old counts past → number ≡ past.number
    → LeadsToPast (FollowsShort plan old.all_frames past line) plan new counted past.number old_text new_text)
    → new.all_frames ≡ old.all_frames
    → (before : List Line) (reports : List ℕ) → number ≡ length before + 1 → HasFollowedLines plan old counts before reports
    → (piece : List ℕ) × HasFollowedLines plan new counted (before ++ Short line ∷ []) (reports ++ piece) × (new_text ≡ old_text ++ piece)
line_read plan old new counts counted number line old_text new_text step same before reports here all =
    let recalls = all.recalls in
    let many = ap (λ (n : ℕ). n + 1) all.number_is in
    let begins : RecallsPast plan old counts (one_line_more all.past) = record {
      remembers = recalls.remembers;
      interface_is = recalls.interface_is;
      frames_are = recalls.frames_are;
      skipped_are = recalls.skipped_are;
      bad_are = recalls.bad_are;
      elsewhere_are = recalls.elsewhere_are;
    } in
    let done = step (one_line_more all.past) begins (here ∙ sym many) in
    let units = unit_lines plan new.directory.holders.value (frames_seen done.next.seen) done.recalls.remembers.knows.recounts in (
      done.piece,
      record {
        past = done.next;
        units = units.0;
        read = subst (λ (b : Bool). FollowsLines plan b nothing_followed (before ++ Short line ∷ []) done.next (reports ++ done.piece)) (sym same)
            (line_more plan old.all_frames before (Short line) nothing_followed all.past done.next reports done.piece all.read done.reads);
        recalls = done.recalls;
        number_is = done.number_is ∙ many ∙ sym (length_push before (Short line));
        units_are = units.1;
      },
      done.text_is,
    )

-- with what stands at the end the text is whole
pub closed : (plan : Plan) (report : UnitReport) (counts : LineCounts) (ls : List Line) (reports log old_text new_text : List ℕ)
    → (all : HasFollowedLines plan report counts ls reports) → lines log ≡ ls
    → (units : List ℕ) × AreUnitLines plan (frames_seen all.past.seen) 0 plan.units.items units × (new_text ≡ old_text ++ behind_reports plan all.past units)
    → (piece : List ℕ) × IsFollowedLog plan report.all_frames log (reports ++ piece) × (new_text ≡ old_text ++ piece)
closed plan report counts ls reports log old_text new_text all are ends = (
  behind_reports plan all.past ends.0,
  record {
    past = all.past;
    reports = reports;
    units = ends.0;
    read = subst (λ (read_lines : List Line). FollowsLines plan report.all_frames nothing_followed read_lines all.past reports) (sym are) all.read;
    units_are = ends.1;
    text_is = refl;
  },
  ends.2,
)
