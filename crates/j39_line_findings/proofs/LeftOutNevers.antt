-- What alternatives have in common for a need has nothing to do with what isn't built.
use Rattle.std.proofs.Common.{◌≡◌, ℕ, List, refl}
use Rattle.j39_variants.specs.declared.line.Alternative.{Alternative}
use Rattle.j39_variants.specs.declared.line.ProductLine.{ProductLine}
use Rattle.j39_line_findings.specs.FullVariants.{agree_on_answers, agree_on_flows, agree_on_need, line_with}
use Rattle.j39_line_findings.specs.declared.full.LineNevers.{LineNevers}

pub same_agreement : (nevers : LineNevers) (line : ProductLine) (alternatives : List Alternative) (d : ℕ) (a b : Alternative)
    → agree_on_need (line_with nevers line) alternatives d a b ≡ agree_on_need line alternatives d a b
unfolding agree_on_need agree_on_flows agree_on_answers
same_agreement nevers line alternatives d a b = refl
