-- The lines of what is found of a line of vehicles, with what is reported of the variants that are its witnesses.
use Rattle.std.specs.Prelude.{ℕ, ◌+◌, List, [], ◌∷◌, ◌++◌, ◌==◌, Bool, Option, Some, None, codes, count_by, if◌then◌else◌, length, not, unwrap_or}
use Rattle.std.specs.List.{list_any, slice_get}
use Rattle.std.specs.Option.{option_map_or}
use Rattle.j39_load.specs.LineLists.{lines_of_each}
use Rattle.j39_variants.specs.declared.line.Choice.{Choice}
use Rattle.j39_variants.specs.declared.line.ProductLine.{ProductLine}
use Rattle.j39_line_findings.specs.InFile.{rank_of}
use Rattle.j39_line_witnesses.specs.ReportedChoices.{reported_choices}
use Rattle.j39_variants.specs.VariantPlans.{flag_at}
use Rattle.j39_answer.specs.PlanAnswers.{is_of_times}
use Rattle.j39_line_findings.specs.declared.line_finding.LineFinding.{LineFinding}
use Rattle.j39_line_findings.specs.declared.line_finding.LineFinding.TheVariants.{OfPlan, OfLoad}
use Rattle.j39_line_check.specs.declared.answer.ReportedFinding.{ReportedFinding}
use Rattle.j39_plan_text.specs.FindingLines.{finding_text, run_lines}
use Rattle.j39_plan_text.specs.LoadLines.{load_finding_text}
use Rattle.j39_text.specs.Texts.{field}

-- ---- the alternatives of a witness

-- the place of the alternative that a variant takes of a choice
abbrev pub place_taken : List ℕ → ℕ → ℕ
place_taken variant c = unwrap_or (slice_get variant c) 0

abbrev pub label_of_alternative : Choice → ℕ → List ℕ
label_of_alternative choice p = option_map_or (λ label. label.bytes) (slice_get choice.alternatives.items p) []

abbrev pub alternative_label : ProductLine → ℕ → ℕ → List ℕ
alternative_label line c p = option_map_or (λ choice. label_of_alternative choice p) (slice_get line.choices.items c) []

-- the alternative of a choice that the witness takes, where it is reported
unfoldable pub reported_alternative : ProductLine → List Bool → List ℕ → ℕ → List ℕ
reported_alternative line choices variant c = if flag_at choices c then codes " " ++ alternative_label line c (place_taken variant c) else []

abbrev pub reported_alternatives : ProductLine → List Bool → List ℕ → List ℕ
reported_alternatives line choices variant = lines_of_each (λ c _. reported_alternative line choices variant c) 0 line.choices.items

-- in which variants: nothing where no alternative is reported
unfoldable pub witness_text : ProductLine → List Bool → List ℕ → List ℕ
witness_text line choices variant = if list_any (λ is. is) choices then codes " in" ++ reported_alternatives line choices variant else []

-- ---- a finding

abbrev pub line_finding_text : ProductLine → LineFinding → List ℕ
line_finding_text line (OfPlan finding) = finding_text line.plan finding
line_finding_text line (OfLoad finding) = load_finding_text finding

-- the run that shows a conflict, and nothing for other findings
abbrev pub run_of_line : ProductLine → LineFinding → List ℕ
run_of_line line (OfPlan finding) = run_lines line.plan finding
run_of_line line (OfLoad finding) = []

unfoldable pub witness_line : ProductLine → List Bool → List ℕ → LineFinding → List ℕ
witness_line line choices variant finding = line_finding_text line finding ++ (witness_text line choices variant ++ 10 ∷ [])

unfoldable pub witness_report : ProductLine → List ℕ → LineFinding → List ℕ
witness_report line variant finding = witness_line line (reported_choices line variant finding) variant finding ++ run_of_line line finding

-- ---- all of them

abbrev pub witness_reports : ProductLine → List ReportedFinding → List ℕ
witness_reports line = lines_of_each (λ _ t. witness_report line t.variant.items t.finding) 0

-- that so many full variants are too many to look at each, and one finding more
unfoldable pub many_text : Option ℕ → List ℕ
many_text None = []
many_text (Some many) = field (codes "F30 ManyVariants ") many ++ 10 ∷ []

abbrev pub count_with : Option ℕ → ℕ → ℕ
count_with None count = count
count_with (Some many) count = count + 1

-- a line for each, and how many they are
unfoldable pub findings_of_line_text : ProductLine → Option ℕ → List ReportedFinding → List ℕ
findings_of_line_text line many reported = witness_reports line reported
    ++ (many_text many ++ (field (codes "findings ") (count_with many (length reported)) ++ 10 ∷ []))

-- ---- those of which the lines of the times don't report

-- a bus that is too full, a late flow, an old need: F17, F18 and F20
abbrev pub is_of_line_times : LineFinding → Bool
is_of_line_times finding = is_of_times (rank_of finding).number

abbrev pub is_unshown_of_line : ReportedFinding → Bool
is_unshown_of_line t = not (is_of_line_times t.finding)

unfoldable pub unshown_report : ProductLine → List ℕ → LineFinding → List ℕ
unshown_report line variant finding = if is_of_line_times finding then [] else witness_report line variant finding

abbrev pub unshown_reports : ProductLine → List ReportedFinding → List ℕ
unshown_reports line = lines_of_each (λ _ t. unshown_report line t.variant.items t.finding) 0

-- a line for each, and how many they are, where there are any
unfoldable pub unshown_of_line_text : ProductLine → List ReportedFinding → List ℕ
unshown_of_line_text line reported = if count_by is_unshown_of_line reported == 0 then []
    else unshown_reports line reported ++ (field (codes "findings ") (count_by is_unshown_of_line reported) ++ 10 ∷ [])
