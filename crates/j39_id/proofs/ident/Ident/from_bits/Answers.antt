use Rattle.std.proofs.Common.{Some, sym, ap, ◌∙◌}
use Rattle.j39_id.proofs.SameFrame.{same_ident}
use Rattle.j39_id.proofs.ident.Ident.from_bits.Goals as goal

pub returns-then-number-lt-IDENTIFIER_END-clause-only : goal.returns-then-number-lt-IDENTIFIER_END-clause-only
returns-then-number-lt-IDENTIFIER_END-clause-only c = λ i e. ap Some (same_ident _ i (c.parts_of.ensures ∙ sym e))
