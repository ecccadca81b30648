use Rattle.j39_variants.proofs.NamedChoices.{names}
use Rattle.j39_variants.proofs.reading.withs.list.Goals as goal

pub returns : goal.returns
returns c =
    let stated = rw c.in_ok-values.ensures.1 at c.in_ok-named.ensures.gives in (
      rw c.in_ok-values.ensures.0 stated.0,
      rw (c.in_ok-alternatives.ensures, c.deref.ensures.value) (names _ _ _ stated.1),
    )
