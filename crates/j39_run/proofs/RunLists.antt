-- The lines of a run, one after another.
use Rattle.std.proofs.Common.{◌≡◌, ℕ, suc, arith, ◌+◌, ◌-◌, ◌<◌, ◌≤◌, List, [], ◌++◌, length, drop, map, get_or, refl}
use Rattle.std.proofs.lemmas.List.{drop_more}
use Rattle.std.specs.List.{range_with_len}
use Rattle.j39_id.specs.declared.frame.Frame.{Frame}
use Rattle.j39_network.specs.declared.plan.Plan.{Plan}
use Rattle.j39_bus.specs.declared.report.Report.{Report}
use Rattle.j39_world.specs.Sent.{sent_of}
use Rattle.j39_bus.specs.Reports.{reported_of}
use Rattle.j39_run.specs.declared.unit_state.UnitState.{UnitState}
use Rattle.j39_run.specs.RunText.{report_line, report_lines, sent_line, sent_lines, unit_line, unit_lines}

-- the lines from a frame on are its own and those of the frames behind it
pub frames_from : (frames : List Frame) (i : ℕ) (d : Frame) → i < length frames
    → sent_lines (map sent_of (drop i frames)) ≡ sent_line (sent_of (get_or frames i d)) ++ sent_lines (map sent_of (drop (i + 1) frames))
unfolding sent_lines
frames_from frames i d more = let next = drop_more frames i d more in rw next refl

pub units_from : (plan : Plan) (state : ℕ → UnitState) (u n : ℕ) → u < n
    → unit_lines plan u (map state (range_with_len u (n - u))) ≡ unit_line plan u (state u) ++ unit_lines plan (u + 1)
    (map state (range_with_len (u + 1) (n - (u + 1))))
unfolding unit_lines
units_from plan state u n more =
    let count : n - u ≡ suc (n - (u + 1)) = omega arith in
    rw count refl

pub no_units : (plan : Plan) (state : ℕ → UnitState) (u n : ℕ) → n ≤ u → unit_lines plan u (map state (range_with_len u (n - u))) ≡ []
unfolding unit_lines
no_units plan state u n past = let none : n - u ≡ 0 = omega arith in rw none refl

pub reports_from : (plan : Plan) (reports : List Report) (i : ℕ) (d : Report) → i < length reports
    → report_lines plan (map reported_of (drop i reports)) ≡ report_line plan (reported_of (get_or reports i d)) ++ report_lines plan
    (map reported_of (drop (i + 1) reports))
unfolding report_lines
reports_from plan reports i d more = let next = drop_more reports i d more in rw next refl
