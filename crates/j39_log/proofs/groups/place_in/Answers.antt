use Rattle.std.proofs.Common.{get_or, ◌∙◌, sym, ap, inl, inr, arith}
use Rattle.std.proofs.lemmas.Bool.{cases_lt}
use Rattle.j39_log.specs.LogFrames.{is_planned_as}
use Rattle.j39_log.proofs.Indexes.{first_place, no_place, unplanned}
use Rattle.j39_log.proofs.groups.place_in.Goals as goal

pub returns-then-is_planned_as : goal.returns-then-is_planned_as
returns-then-is_planned_as c =
    let test = is_planned_as c.args.pgn c.args.bytes.now in
    let group = c.index-groups-place.result in
    sym (first_place test c.loop-place.place c.args.groups.now group (omega arith)
    (ap test (sym c.index-groups-place.is) ∙ sym c.is_planned_as.ensures ∙ c.if-is_planned_as.true) c.loop-place.invariant)

pub returns : goal.returns
returns c =
    sym (no_place (is_planned_as c.args.pgn c.args.bytes.now) c.args.groups.now
    (λ k d less. elim (cases_lt k c.loop-place.place) [
      | inl before ↦ c.loop-place.invariant k d before
      | inr behind ↦ unplanned c.args.pgn c.args.bytes.now (get_or c.args.groups.now k d) (c.requires.others k d less (inr (omega arith)))
    ]))
