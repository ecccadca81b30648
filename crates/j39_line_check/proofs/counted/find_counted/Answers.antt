use Rattle.std.proofs.Common.{[], map, sym, subst}
use Rattle.std.proofs.lemmas.List.{take_all}
use Rattle.j39_line_check.specs.CountedFindings.{AreCountedIn}
use Rattle.j39_line_check.proofs.CountedOfVariants.{next_counted, none_counted}
use Rattle.j39_line_bounds.proofs.EachTimes.{next_one}
use Rattle.j39_line_bounds.specs.LineTimes.{AreTimesAmong}
use Rattle.j39_line_check.proofs.counted.find_counted.Goals as goal

pub loop-place-init : goal.loop-place-init
loop-place-init c = record {
  counted = subst (AreCountedIn c.args.line.now c.args.full.now []) (sym c.new-reported.ensures.items) (none_counted c.args.line.now c.args.full.now);
  times = λ timed known. c.in_ok-times.ensures;
}

pub loop-place-preserved : goal.loop-place-preserved
loop-place-preserved c = record {
  counted = next_counted c.args.line.now c.args.full.now (λ v. v.items) c.args.variants.now c.loop-place.place c.index-variants-place.result
      c.as_slice-taken.result.now c.loop-place.reported.items c.add_of_variant.new.reported.items c.loop-place-test.true c.index-variants-place.is
      c.as_slice-taken.ensures.value c.loop-place.invariant.counted c.in_ok-add_of_variant.ensures;
  times = λ timed known. next_one c.args.line.now (λ v. v.items) c.args.variants.now c.loop-place.place c.index-variants-place.result
      c.as_slice-taken.result.now c.loop-place.times c.in_ok-times-2.times c.loop-place-test.true c.index-variants-place.is
      c.as_slice-taken.ensures.value (c.loop-place.invariant.times timed known) (λ ws are. c.in_ok-times-2.ensures ws timed known are);
}

pub returns-clause-counted : goal.returns-clause-counted
returns-clause-counted c =
    subst (λ xs. AreCountedIn c.args.line.now c.args.full.now (map (λ v. v.items) xs) c.loop-place.reported.items)
    (take_all c.loop-place.place c.args.variants.now c.loop-place-test.false) c.loop-place.invariant.counted

pub returns-clause-times : goal.returns-clause-times
returns-clause-times c timed known =
    subst (λ xs. AreTimesAmong c.args.line.now (map (λ v. v.items) xs) c.loop-place.times)
    (take_all c.loop-place.place c.args.variants.now c.loop-place-test.false) (c.loop-place.invariant.times timed known)
