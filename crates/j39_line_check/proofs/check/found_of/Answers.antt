use Rattle.std.proofs.Common.{◌≡◌, ◌++◌, List, None, Some, map, refl, sym, subst}
use Rattle.j39_line_check.specs.LookedVariants.{HasTimes, IsLooking}
use Rattle.j39_line_check.specs.declared.looking.Looking.TheVariants.{Few, Many}
use Rattle.j39_line_laws.specs.ReportedByConditions.{ReportWhatVariantsHave}
use Rattle.j39_line_check.proofs.ReportedOfLine.{reported_of_few, reported_of_many}
use Rattle.j39_line_check.specs.inside.AddedFindings.{AreAdded, Pair, pair_counted, pair_of_condition}
use Rattle.j39_line_check.proofs.check.found_of.Goals as goal

pub returns-in-Few-clause-answer : goal.returns-in-Few-clause-answer
returns-in-Few-clause-answer c some =
    let exact : ReportWhatVariantsHave c.args.line.now c.in_ok-found.found.items =
    c.what_is_reported_is_what_variants_have.ensures c.args.line.now c.in_ok-found.found.items c.in_ok-found.ensures in
    let looking : IsLooking c.args.line.now (Few c.in-Few.full) = subst (IsLooking c.args.line.now) c.in-Few.is c.in_ok-full.ensures.looking in
    let added : AreAdded (map pair_of_condition c.in_ok-found.found.items
    ++ map (pair_counted (map (λ v. v.items) c.in-Few.full.variants.items)) c.in-Few.full.reported.items) c.in_ok-reported-in-Few.reported.items =
    rw c.deref.ensures.value at c.in_ok-reported-in-Few.ensures in (
      some,
      (c.in-Few.full, looking, refl),
      reported_of_few c.args.line.now c.in_ok-found.found.items exact c.in_ok-reported-in-Few.reported.items c.in-Few.full c.full_variants_have_what_is_found.ensures
          c.old_needs_are_found_of_full_variants.ensures c.what_is_there_is_found.ensures c.nevers_change_nothing_that_is_built.ensures looking added,
    )

pub returns-clause-answer : goal.returns-clause-answer
returns-clause-answer c some =
    let exact : ReportWhatVariantsHave c.args.line.now c.in_ok-found.found.items =
    c.what_is_reported_is_what_variants_have.ensures c.args.line.now c.in_ok-found.found.items c.in_ok-found.ensures in
    let looking : IsLooking c.args.line.now (Many c.in-Many.count) = subst (IsLooking c.args.line.now) c.in-Many.is c.in_ok-full.ensures.looking in
    let added : AreAdded (map pair_of_condition c.in_ok-found.found.items) c.in_ok-reported-in-Many.reported.items =
    rw c.deref-in-Many.ensures.value at c.in_ok-reported-in-Many.ensures in
    (some, looking, reported_of_many c.args.line.now c.in_ok-found.found.items exact c.in_ok-reported-in-Many.reported.items c.in-Many.count looking added)

pub returns-in-Few-clause-times : goal.returns-in-Few-clause-times
returns-in-Few-clause-times c timed = subst (HasTimes c.args.line.now) c.in-Few.is (c.in_ok-full.ensures.times timed)
