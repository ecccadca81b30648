use Rattle.std.proofs.Common.{◌+◌, ◌∷◌, ◌++◌, [], take, sym, subst, ◌∙◌}
use Rattle.std.proofs.lemmas.List.{take_more}
use Rattle.j39_line_findings.specs.declared.part.LinePart.TheVariants.{Unit as AUnit}
use Rattle.j39_line_witnesses.specs.PossibleParts.{ArePartsPossible}
use Rattle.j39_line_witnesses.proofs.PartWitnesses.{one_more}
use Rattle.j39_line_witnesses.proofs.possible.possible_parts.Goals as goal

pub loop-part-init : goal.loop-part-init
loop-part-init c = record { kept = c.in_ok-holes.ensures; reported = c.new-flags.ensures.items }

pub loop-part-preserved : goal.loop-part-preserved
loop-part-preserved c = record {
  kept = c.in_ok-flag.ensures.kept ∙ c.loop-part.invariant.kept;
  reported =
      subst (ArePartsPossible c.args.line.now (take (c.loop-part.part-index + 1) c.args.parts.now)) (sym c.in_ok-push.ensures.items)
      (subst (λ parts. ArePartsPossible c.args.line.now parts (c.loop-part.flags.items ++ c.in_ok-flag.flag ∷ []))
      (sym (take_more c.args.parts.now c.loop-part.part-index (AUnit 0) c.loop-part-test.true))
      (one_more c.args.line.now (take c.loop-part.part-index c.args.parts.now) c.loop-part.flags.items _ c.in_ok-flag.flag
      c.in_ok-flag.ensures.possible c.loop-part.invariant.reported));
}
