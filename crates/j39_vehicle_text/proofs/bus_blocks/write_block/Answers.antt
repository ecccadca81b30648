use Rattle.std.proofs.Common.{◌++◌, List, ℕ, refl, ap, subst, ◌∙◌, append_assoc}
use Rattle.j39_answer.proofs.Answered.{load_wrong}
use Rattle.j39_answer.specs.PlanAnswers.{are_of_times, load_findings_in}
use Rattle.j39_findings.specs.declared.checking.finding.Finding.{Finding}
use Rattle.j39_vehicle_text.specs.VehicleBlocks.{IsLoadWhere}
use Rattle.j39_vehicle_text.specs.VehicleFileText.{bus_line}
use Rattle.j39_vehicle_text.proofs.bus_blocks.write_block.Goals as goal

pub returns : goal.returns
returns c =
    let bus = c.args.bus.now in
    let known = c.args.answer.now in
    let first = bus_line bus.label.bytes in
    let (report, is, put) = c.in_ok-_verdict.ensures in
    let (load, load_is, load_put) = c.in_ok-write_load_where.ensures bus.plan c.requires in (
      first ++ (report ++ load),
      record {
        wrong = load_wrong bus.plan known c.requires;
        check = report;
        verdict = c.in_ok-_verdict._verdict;
        check_is = is;
        load = load;
        load_is = subst (λ b. IsLoadWhere b bus.plan load)
            (c.are_of_times.ensures ∙ ap (λ (fs : List Finding). are_of_times fs (load_findings_in known)) c.requires.listed) load_is;
        text_is = refl;
      },
      load_put
          ∙ ap (λ (t : List ℕ). t ++ load) (put ∙ ap (λ (t : List ℕ). t ++ report) c.in_ok-write_bus.ensures)
          ∙ append_assoc (c.args.text.now ++ first) report load
          ∙ append_assoc c.args.text.now first (report ++ load),
    )
