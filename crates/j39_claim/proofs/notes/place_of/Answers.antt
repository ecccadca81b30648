use Rattle.std.proofs.Common.{rules}
use Rattle.std.proofs.lemmas.List.Sorted.{answers_always}
use Rattle.j39_claim.proofs.RisingNotes.{Searched, searched}
use Rattle.j39_claim.proofs.notes.place_of.Goals as goal
use Rattle.j39_claim.proofs.notes.place_of.Goals.{After-binary_search_by_key}

by_name : (c : After-binary_search_by_key) → Searched c.args.pairs.now c.args.name c.binary_search_by_key.result
by_name c =
    let facts = c.binary_search_by_key.ensures in
    searched c.args.pairs.now c.args.name c.binary_search_by_key.result c.requires facts.bound
    (facts.position (λ pair. pair.0) (answers_always _ _ _ (λ f a r g called. search rules)))

pub returns-clause-found : goal.returns-clause-found
returns-clause-found c = (by_name c).found

pub returns-clause-absent : goal.returns-clause-absent
returns-clause-absent c = (by_name c).absent
