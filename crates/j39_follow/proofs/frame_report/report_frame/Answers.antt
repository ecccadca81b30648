use Rattle.std.proofs.Common.{◌≡◌, ◌∙◌, length, sym, subst, arith, eqb-true}
use Rattle.j39_network.specs.declared.plan.Plan.{Plan}
use Rattle.j39_follow.proofs.Requests.Noted.{none_noted}
use Rattle.j39_follow.proofs.frame_report.report_frame.Goals as goal

pub returns-then-is_empty : goal.returns-then-is_empty
returns-then-is_empty c = record {
  written = λ seen log so. c.in_ok-sort.ensures seen log so.0 so.1;
  noted = λ log events so few are.
      let plan = c.args.groups.now in
      let there : Plan = c.plan.result.now in
      let empty : there.requests.len ≡ 0 = eqb-true _ 0 (sym c.is_empty.ensures ∙ c.if-is_empty.true) in
      let none : length there.requests.items ≡ 0 = omega (arith, empty) in
      none_noted plan c.args.parties.now log c.args.frame.now _ events c.args.exchanges.now
      (subst (λ (p : Plan). length p.requests.items ≡ 0) c.plan.ensures none) so.0 so.1;
}

pub returns : goal.returns
returns c = record {
  written = λ seen log so. c.in_ok-sort.ensures seen log so.0 so.1;
  noted = λ log events so. (rw c.plan-2.ensures at c.note.ensures) log events so.0 so.1;
}
