-- Where only absence is found of the full variants, only absence is found of any.
use Rattle.j39_variants.specs.declared.line.ProductLine.{ProductLine}
use Rattle.j39_line_laws.specs.FoundOfCovering.{FullVariantsSuffice}
use Rattle.j39_line_laws.proofs.FoundOfCovering.{only_absence}
use Rattle.j39_line_laws.proofs.FullCovers.{has_full_cover}
use Rattle.j39_line_laws.proofs.Possible.{possible_too}

pub full_suffice : (line : ProductLine) → FullVariantsSuffice line
full_suffice line each v possible findings are =
    let (w, is_variant, full, covered) = has_full_cover line v possible.is_variant in
    let also = possible_too line v w possible.is_variant is_variant covered possible.possible in
    let (found, are_found, only) = each w (record { is_variant = is_variant; possible = also }) full in
    only_absence line v w covered findings found are are_found only
