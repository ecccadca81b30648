use Rattle.j39_text.proofs.Quotations as quotations
use Rattle.j39_text.proofs.laws.quotations_yield_their_bytes.Goals as goal

pub returns : goal.returns
returns c = quotations.report
