use Rattle.std.proofs.Common.{◌≡◌, false, inl, sym, ap, ◌∙◌}
use Rattle.j39_line_text.specs.Hindrances.{is_hidden}
use Rattle.j39_line_check.specs.LineChecks.{many_of}
use Rattle.j39_line_text.specs.declared.hindrances.Asked.TheVariants.{Times}
use Rattle.j39_line_text.proofs.NothingHides.{is_shown}
use Rattle.j39_line_text.proofs.load.found_load.Goals as goal

pub returns : goal.returns
returns c timed found are =
    let none : is_hidden Times (many_of c.args.looked.now) c.args.reported.now ≡ false =
    ap (λ m. is_hidden Times m c.args.reported.now) (sym c.many-many.ensures) ∙ sym c.is_hidden.ensures ∙ c.if-is_hidden.false in
    inl (c.in_ok-report.ensures c.args.looked.now timed (is_shown Times c.args.line.now c.args.looked.now c.args.reported.now none found) are)
