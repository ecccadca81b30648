use Rattle.std.proofs.Common.{◌≡◌, ℕ, List, false, get_or, map, sym, ap}
use Rattle.std.proofs.lemmas.List.{get_or_default, take_all}
use Rattle.j39_findings.specs.declared.checking.finding.Finding.TheVariants.{SameName}
use Rattle.j39_line_findings.specs.declared.line_finding.LineFinding.TheVariants.{OfPlan}
use Rattle.j39_line_findings.specs.declared.witnessed.Witnessed.{Witnessed}
use Rattle.j39_line_check.specs.inside.AddedFindings.{Pair, pair_counted, pair_reported}
use Rattle.j39_line_check.specs.inside.Inserted.{IsReportedWith}
use Rattle.j39_line_check.proofs.Adding.{added_at}
use Rattle.j39_line_check.proofs.check.add_counted.Goals as goal

pub loop-witnessed-preserved : goal.loop-witnessed-preserved
loop-witnessed-preserved c all are =
    let variants : List (List ℕ) = map (λ v. v.items) c.args.variants.now in
    let k : ℕ = c.loop-witnessed.witnessed-index in
    let none : Witnessed = record { finding = OfPlan (SameName 0 0); variant = 0; counted = false } in
    let w : Witnessed = get_or c.args.counted.now k none in
    let same : pair_counted variants w ≡ pair_reported (record { finding = w.finding; variant = c.in_ok-variant.variant }) =
    ap (λ (v : List ℕ). (w.finding, v)) (sym c.in_ok-variant.ensures) in
    added_at (pair_counted variants) all k c.args.counted.now w c.loop-witnessed.reported.items c.add.new.reported.items
    (record { finding = w.finding; variant = c.in_ok-variant.variant }) c.loop-witnessed-test.true
    (get_or_default c.args.counted.now k none w c.loop-witnessed-test.true) same (c.loop-witnessed.invariant all are) c.in_ok-add.ensures

pub returns : goal.returns
returns c all are = rw (take_all c.loop-witnessed.witnessed-index c.args.counted.now c.loop-witnessed-test.false) at (c.loop-witnessed.invariant all are)
