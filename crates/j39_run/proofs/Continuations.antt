-- What stands behind a refused line makes no difference.
use Rattle.std.proofs.Common.{◌≡◌, ℕ, ◌<◌, List, [], ◌∷◌, ◌++◌, length, map, sym, ap, ◌∙◌, arith, append_assoc, subst, Some, Err}
use Rattle.std.proofs.lemmas.List.{length-map, map-append}
use Rattle.std.specs.List.{slice_split}
use Rattle.j39_network.specs.declared.plan.Plan.{Plan}
use Rattle.j39_world.specs.World.{World}
use Rattle.j39_id.specs.Lines.{at_start, is_line_feed, line_of, yielded}
use Rattle.j39_run.specs.RunText.{EndsAt, IsWithin, IsSameForContinuations, IsSameOnceReported}
use Rattle.j39_schedule.specs.Schedule.{Reading, line_order, read_as, readings_of}
use Rattle.j39_run.specs.declared.halt.Halt.{Halt}
use Rattle.j39_run.specs.declared.halt.Halt.TheVariants.{End, Step as AtStep, Line as AtLine, Full}
use Rattle.j39_schedule.proofs.Splits.{lines-append}
use Rattle.j39_stream.proofs.LineReading.{lines_from}

-- a list that goes on past a place has what stands there
cut_here : {X : Type 0} (ended xs done : List X) (y : X) (ys : List X) → ended ++ xs ≡ done ++ y ∷ ys → length done < length ended
    → (more : List X) × (ended ≡ done ++ y ∷ more)
cut_here [] xs done y ys same short = absurd (omega arith)
cut_here (x ∷ ended) xs [] y ys same short = let here : x ≡ y = cc in (ended, ap (λ z. z ∷ ended) here)
cut_here (x ∷ ended) xs (z ∷ done) y ys same short =
    let here : x ≡ z = cc in
    let rest : ended ++ xs ≡ done ++ y ∷ ys = cc in
    let (more, is) = cut_here ended xs done y ys rest (omega arith) in
    (more, cc)

readings-append : (plan : Plan) (front more : List ℕ) → readings_of plan (front ++ 10 ∷ more) ≡ map (line_order plan)
    (map line_of (slice_split is_line_feed front)) ++ readings_of plan more
readings-append plan front more = ap (map (line_order plan)) (lines-append front more)
    ∙ map-append (line_order plan) (map line_of (slice_split is_line_feed front)) _

readings-from : (plan : Plan) (front more : List ℕ) → (rest : List Reading)
    × (readings_of plan (front ++ more) ≡ map (line_order plan) (yielded at_start front) ++ rest)
readings-from plan front more =
    let (rest, is) = lines_from front more in
    (map (line_order plan) rest, ap (map (line_order plan)) is ∙ map-append (line_order plan) (yielded at_start front) rest)

-- two lists of readings that begin alike
module _ (plan : Plan) (alike xs ys some others : List Reading) (some_are : some ≡ alike ++ xs) (others_are : others ≡ alike ++ ys) where
  same_until : (done : List Reading) (here : Reading) (behind : List Reading) → some ≡ done ++ here ∷ behind → length done < length alike
      → (rest : List Reading) × (others ≡ done ++ here ∷ rest)
  same_until done here behind is inside =
      let (rest, same) = cut_here alike xs done here behind (sym some_are ∙ is) inside in
      (rest ++ ys, others_are ∙ ap (λ (l : List Reading). l ++ ys) same ∙ append_assoc done (here ∷ rest) ys)

  same_end : (halt : Halt) (w : World) → IsWithin (length alike) halt → EndsAt plan some w halt → EndsAt plan others w halt
  same_end End w inside ends = absurd inside
  same_end (AtStep place cause) w inside (orders, step, behind, is, count, ran, room, refused) =
      let (rest, same) = same_until (map read_as orders) (read_as (Some step)) behind is (omega (arith, length-map orders read_as)) in
      (orders, step, rest, same, count, ran, room, refused)
  same_end (AtLine place fault) w inside (orders, behind, is, count, ran) =
      let (rest, same) = same_until (map read_as orders) (Err fault) behind is (omega (arith, length-map orders read_as)) in
      (orders, rest, same, count, ran)
  same_end (Full place) w inside (orders, step, behind, is, count, ran, full) =
      let (rest, same) = same_until (map read_as orders) (read_as (Some step)) behind is (omega (arith, length-map orders read_as)) in
      (orders, step, rest, same, count, ran, full)

pub same_for_continuations : IsSameForContinuations
same_for_continuations plan choosers front more other halt text inside (opens, (w, view, ends, shows, is)) =
    let alike : List Reading = map (line_order plan) (map line_of (slice_split is_line_feed front)) in
    let count : length alike ≡ length (slice_split is_line_feed front) = length-map (map line_of (slice_split is_line_feed front)) (line_order plan)
    ∙ length-map (slice_split is_line_feed front) line_of in
    let within : IsWithin (length alike) halt = subst (λ (n : ℕ). IsWithin n halt) (sym count) inside in
    let same = same_end plan alike (readings_of plan more) (readings_of plan other) (readings_of plan (front ++ 10 ∷ more))
    (readings_of plan (front ++ 10 ∷ other))
    (readings-append plan front more) (readings-append plan front other) halt w within ends in
    (opens, (w, view, same, shows, is))

pub same_once_reported : IsSameOnceReported
same_once_reported plan choosers front more other halt text inside (opens, (w, view, ends, shows, is)) =
    let alike : List Reading = map (line_order plan) (yielded at_start front) in
    let count : length alike ≡ length (yielded at_start front) = length-map (yielded at_start front) (line_order plan) in
    let within : IsWithin (length alike) halt = subst (λ (n : ℕ). IsWithin n halt) (sym count) inside in
    let (xs, some_are) = readings-from plan front more in
    let (ys, others_are) = readings-from plan front other in
    let same = same_end plan alike xs ys (readings_of plan (front ++ more)) (readings_of plan (front ++ other)) some_are others_are halt w within ends in
    (opens, (w, view, same, shows, is))
