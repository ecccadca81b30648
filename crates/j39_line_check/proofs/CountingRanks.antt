-- Which findings count what is there, by the number and the places that they name.
use Rattle.std.proofs.Common.{◌≡◌, ℕ, ◌==◌, Bool, true, false, ◌&&◌, ◌||◌, not, refl, sym, ap, ◌∙◌}
use Rattle.std.proofs.lemmas.Bool.{cases_Bool}
use Rattle.j39_findings.specs.declared.checking.finding.Finding.{Finding}
use Rattle.j39_findings.specs.declared.checking.finding.Finding.TheVariants.{SameName, SameFixedAddress, TooFewAddresses, BadPgn, SamePgn, SignalWidth}
use Rattle.j39_findings.specs.declared.checking.finding.Finding.TheVariants.{SignalOutside, SignalOverlap, FlowToOne, FlowToSelf, FlowRepeated, KeptAddress}
use Rattle.j39_findings.specs.declared.checking.finding.Finding.TheVariants.{PrivateUnsent, RecordOverlap, TextOutside, NeedUnmet, RequestUnanswered}
use Rattle.j39_findings.specs.declared.checking.finding.Finding.TheVariants.{RequestUnheard, AnswerAstray, WhenOutside, RequestRepeated, SilentAddress}
use Rattle.j39_findings.specs.declared.checking.finding.Finding.TheVariants.{SilentInPool, FlowContested}
use Rattle.j39_load.specs.declared.findings.load_finding.LoadFinding.TheVariants.{NoPeriod, Overload, LateFlow, NeedTooOld, AskedTooOften}
use Rattle.j39_variants.specs.declared.line.ProductLine.{ProductLine}
use Rattle.j39_line_findings.specs.Conditions.{goes_by_conditions}
use Rattle.j39_line_findings.specs.InFile.{rank_of}
use Rattle.j39_line_findings.specs.FlowEnds.{has_end_in_pool}
use Rattle.j39_line_findings.specs.declared.line_finding.LineFinding.{LineFinding}
use Rattle.j39_line_findings.specs.declared.line_finding.LineFinding.TheVariants.{OfPlan, OfLoad}
use Rattle.j39_line_findings.specs.declared.rank.Rank.{Rank}

-- too few addresses, too high a load, a late flow, an old need, a flow that is asked for too often, or a contested end in the pool
abbrev goes_by_rank : ProductLine → Rank → Bool
goes_by_rank line r = not ((r.number == 3) || ((r.number == 17) || ((r.number == 18) || ((r.number == 20) || ((r.number == 31)
    || ((r.number == 28) && has_end_in_pool line r.first))))))

by_rank : (line : ProductLine) (f : LineFinding) → goes_by_conditions line f ≡ goes_by_rank line (rank_of f)
by_rank line (OfPlan (SameName i j)) = refl
by_rank line (OfPlan (SameFixedAddress i j)) = refl
by_rank line (OfPlan (TooFewAddresses n)) = refl
by_rank line (OfPlan (BadPgn g)) = refl
by_rank line (OfPlan (SamePgn g h)) = refl
by_rank line (OfPlan (SignalWidth g s)) = refl
by_rank line (OfPlan (SignalOutside g s)) = refl
by_rank line (OfPlan (SignalOverlap g s t)) = refl
by_rank line (OfPlan (FlowToOne f)) = refl
by_rank line (OfPlan (FlowToSelf f)) = refl
by_rank line (OfPlan (FlowRepeated f h)) = refl
by_rank line (OfPlan (KeptAddress i)) = refl
by_rank line (OfPlan (PrivateUnsent g)) = refl
by_rank line (OfPlan (RecordOverlap g s t)) = refl
by_rank line (OfPlan (TextOutside g t)) = refl
by_rank line (OfPlan (NeedUnmet d)) = refl
by_rank line (OfPlan (RequestUnanswered r)) = refl
by_rank line (OfPlan (RequestUnheard r)) = refl
by_rank line (OfPlan (AnswerAstray r)) = refl
by_rank line (OfPlan (WhenOutside g)) = refl
by_rank line (OfPlan (RequestRepeated r s)) = refl
by_rank line (OfPlan (SilentAddress u v)) = refl
by_rank line (OfPlan (SilentInPool u)) = refl
by_rank line (OfPlan (FlowContested f)) = refl
by_rank line (OfLoad (NoPeriod f)) = refl
by_rank line (OfLoad (Overload n)) = refl
by_rank line (OfLoad (LateFlow f)) = refl
by_rank line (OfLoad (NeedTooOld d)) = refl
by_rank line (OfLoad (AskedTooOften f)) = refl

-- findings that are reported alike go alike
pub same_way : (line : ProductLine) (f g : LineFinding) → rank_of f ≡ rank_of g → goes_by_conditions line f ≡ goes_by_conditions line g
same_way line f g same = by_rank line f ∙ ap (goes_by_rank line) same ∙ sym (by_rank line g)
