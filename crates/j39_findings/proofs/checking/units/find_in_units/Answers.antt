use Rattle.j39_findings.specs.Found.{unit_findings}
use Rattle.j39_search.proofs.AddingLemmas.{adds_behind}
use Rattle.j39_findings.proofs.checking.units.find_in_units.Goals as goal

pub returns : goal.returns
unfolding unit_findings
returns c =
    let counted = rw (c.needed_addresses-needed.ensures, c.free_count-room.ensures) at c.push_if.ensures in
    adds_behind _ _ _ _ _ _ c.in_ok-find_pairs.ensures (adds_behind _ _ _ _ _ _ c.in_ok-find_pairs-2.ensures counted)
