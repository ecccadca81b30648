use Rattle.std.proofs.Common.{◌≡◌, false, sym, ap, ◌∙◌, subst}
use Rattle.j39_line_bounds.specs.LineStandings.{AreStandingsAmong}
use Rattle.j39_line_findings.specs.AllVariants.{IsOneOf}
use Rattle.j39_line_text.specs.Hindrances.{is_hidden}
use Rattle.j39_line_check.specs.LineChecks.{many_of}
use Rattle.j39_line_text.specs.declared.hindrances.Asked.TheVariants.{Addresses}
use Rattle.j39_line_text.proofs.NothingHides.{is_shown}
use Rattle.j39_line_text.proofs.addresses.found_addresses.Goals as goal

pub returns : goal.returns
returns c found =
    let none : is_hidden Addresses (many_of c.args.looked.now) c.args.reported.now ≡ false =
    ap (λ m. is_hidden Addresses m c.args.reported.now) (sym c.many-many.ensures) ∙ sym c.is_hidden.ensures ∙ c.if-is_hidden.false in
    let reported = c.in_ok-text-2.ensures in
    record {
      looked = c.args.looked.now;
      reported = c.args.reported.now;
      shown = is_shown Addresses c.args.line.now c.args.looked.now c.args.reported.now none found;
      holds = λ v plan possible is. record {
        planned = λ u stays steps w run. c.who_stays.ensures.held plan steps w run u stays.0;
        with_strangers = λ u below stays. c.who_stays_with_strangers.ensures.held plan u below stays;
      };
      standings = reported.0;
      are_standings = subst (λ vs. AreStandingsAmong (IsOneOf vs) c.args.line.now reported.0) c.variants_at.ensures reported.1;
      possible = reported.2.0;
      are_possible = reported.2.1;
      text_is = reported.2.2;
    }
