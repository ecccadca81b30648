use Rattle.std.proofs.Common.{◌≡◌, ℕ, List, ◌++◌, map, ap, ◌∙◌, append_assoc}
use Rattle.std.proofs.lemmas.Result.{IfOk-weaker}
use Rattle.j39_bus.specs.Reports.{reported_of}
use Rattle.j39_world.specs.Transfers.{Reported}
use Rattle.j39_run.specs.RunText.{closing_text, halt_lines, report_lines, settled_line, unit_lines}
use Rattle.j39_run.proofs.Done.{seen_of, shown}
use Rattle.j39_run.proofs.closing.write_closing.Goals as goal

joined : (a b c d e : List ℕ) → (((a ++ b) ++ c) ++ d) ++ e ≡ a ++ (b ++ (c ++ (d ++ e)))
joined a b c d e = append_assoc ((a ++ b) ++ c) d e ∙ append_assoc (a ++ b) c (d ++ e) ∙ append_assoc a b (c ++ (d ++ e))

pub returns : goal.returns
unfolding closing_text
returns g c =
    let plan = c.args.plan.now in
    let view = seen_of plan c.args.bus.now c.is_settled.result in
    let a : List ℕ = c.args.text.now in
    let h : List ℕ = halt_lines c.args.halt in
    let u : List ℕ = unit_lines plan 0 view.units in
    let s : List ℕ = settled_line view.settled in
    let units : c.write_units.new.text ≡ (a ++ h) ++ u = c.in_ok-write_units.ensures ∙ ap (λ (t : List ℕ). t ++ u) c.in_ok-write_halt.ensures in
    let front : c.word.new.self ≡ ((a ++ h) ++ u) ++ s =
    c.in_ok-word.ensures ∙ ap (λ (t : List ℕ). c.write_units.new.text ++ t) c.settled_line.ensures ∙ ap (λ (t : List ℕ). t ++ s) units in
    IfOk-weaker c.write_reports.result _ _
    (λ _ is. (
      view,
      is ∙ ap (λ (t : List ℕ). t ++ report_lines plan (map reported_of c.reports.result.now)) front
          ∙ ap (λ (r : List Reported). (((a ++ h) ++ u) ++ s) ++ report_lines plan r) c.reports.ensures ∙ joined a h u s (report_lines plan view.reports),
      shown plan c.args.bus.now c.is_settled.result c.is_settled.ensures,
    ))
    c.write_reports.ensures
