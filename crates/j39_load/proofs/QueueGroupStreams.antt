-- A wait that has room for the streams of a queue group has room for the traffic of it.
use Rattle.std.proofs.Common.{◌≡◌, ℕ, suc, ◌+◌, ◌*◌, ◌<◌, ◌≤◌, Bool, true, false, cond, ◌||◌, ltb, if◌then◌else◌, List, [], ◌∷◌, ◌++◌, length, get_or, map}
use Rattle.std.proofs.Common.{sum_by, Option, Some, None, refl, sym, ap, ◌∙◌, subst, arith}
use Rattle.std.proofs.lemmas.List.Sums.{sum_by-append, sum_by-cons}
use Rattle.std.specs.List.{cons_option, filter_map}
use Rattle.j39_network.specs.declared.plan.timing.Timing.{Timing}
use Rattle.j39_load.specs.declared.frames.flow_frames.FlowFrames.{FlowFrames}
use Rattle.j39_load.specs.AnyQueues.{blocking_with, is_of_queue_group, leasts_of, stream_with, streams_with, with_unplanned}
use Rattle.j39_load.specs.Damage.{damage_frames, damage_streams, first_of_all}
use Rattle.j39_load.specs.Demands.{demands_of}
use Rattle.j39_load.specs.LineLists.{lines_of_each}
use Rattle.j39_load.specs.PlannedFrames.{queue_group_of, no_frames, planned_at, traffic_of}
use Rattle.j39_load.proofs.DemandLaws.{demands_with_damage}
use Rattle.j39_load.proofs.StreamsBefore.{taken_within, stated_of_two}
use Rattle.j39_timing.specs.QueueGroups.{QueueGroupDemandFits}
use Rattle.j39_timing.specs.FrameBits.{longest_frame}
use Rattle.j39_timing.specs.Sums.{total}
use Rattle.j39_timing.specs.Waits.{Demand, lesser_share, need}
use Rattle.j39_timing.specs.declared.stream.Stream.{Stream}

module _ (timing : Timing) (ends : ℕ) (asked : List (Option FlowFrames)) (own : FlowFrames) (level span : ℕ) where
  abbrev demands : List Demand
  demands = demands_of (asked ++ damage_frames timing)

  abbrev leasts : List (Option ℕ)
  leasts = leasts_of asked

  abbrev own_too : FlowFrames
  own_too = with_unplanned timing ends own

  abbrev all : List (Option FlowFrames)
  all = asked ++ damage_frames timing

  -- the frames at a place are of the queue group
  abbrev has : ℕ → Bool
  has j = is_of_queue_group leasts own_too level (planned_at asked j)

  abbrev report : ℕ → Option FlowFrames → List Stream
  report j None = []
  report j (Some x) = if has j || ltb x.least_ident level then x.stream ∷ [] else []

  abbrev taken : ℕ → ℕ
  taken j = cond (has j || ltb ((traffic_of all).least j) level) (lesser_share demands span ((traffic_of all).stream j)) 0

  taken_most : (j : ℕ) (frames : Option FlowFrames) → get_or all j None ≡ frames → taken j ≤ sum_by (lesser_share demands span) (report j frames)
  taken_most j None is = rw (is) (elim (has j || ltb 0 level) as (λ e. cond e (lesser_share demands span no_frames.stream) 0 ≤ sum_by
      (lesser_share demands span) []) [
        | true ↦ omega arith
        | false ↦ omega arith
      ])
  taken_most j (Some x) is = rw (is) (elim (has j || ltb x.least_ident level)
      as (λ e. cond e (lesser_share demands span x.stream) 0 ≤ sum_by (lesser_share demands span) (if e then x.stream ∷ [] else [])) [
        | true ↦ rw (sum_by-cons (lesser_share demands span) x.stream []) (omega arith)
        | false ↦ omega arith
      ])

  -- of the frames that are asked for the same is reported
  same_stated : (place : ℕ) (xs : List (Option FlowFrames)) → ((k : ℕ) → k < length xs → get_or xs k None ≡ get_or asked (place + k) None)
      → lines_of_each report place xs ≡ filter_map (stream_with leasts own_too level) xs
  unfolding lines_of_each
  same_stated place [] same = refl
  same_stated place (x ∷ xs) same =
      let rest = same_stated (place + 1) xs (λ k below. same (suc k) (omega (arith, below)) ∙ ap (λ (n : ℕ). get_or asked n None) (omega arith)) in
      go x (same 0 (omega arith) ∙ ap (λ (n : ℕ). get_or asked n None) (omega arith)) rest
    where
      go : (frames : Option FlowFrames) → frames ≡ get_or asked place None
          → lines_of_each report (place + 1) xs ≡ filter_map (stream_with leasts own_too level) xs
          → report place frames
          ++ lines_of_each report (place + 1) xs ≡ cons_option (stream_with leasts own_too level frames) (filter_map (stream_with leasts own_too level) xs)
      go None is rest = rest
      go (Some f) is rest =
          rw (sym is, rest) (elim (is_of_queue_group leasts own_too level f || ltb f.least_ident level)
          as (λ e. (if e then f.stream ∷ [] else []) ++ filter_map (stream_with leasts own_too level) xs
          ≡ cons_option (if e then Some f.stream else None) (filter_map (stream_with leasts own_too level) xs)) [
            | true ↦ refl
            | false ↦ refl
          ])

  damage_most : (place : ℕ) (streams : List Stream)
      → sum_by (lesser_share demands span) (lines_of_each report place (map first_of_all streams)) ≤ sum_by (lesser_share demands span) streams
  unfolding lines_of_each
  damage_most place [] = omega arith
  damage_most place (stream ∷ streams) =
      let first : sum_by (lesser_share demands span) (report place (first_of_all stream)) ≤ lesser_share demands span stream = go (has place || ltb 0 level) in
      let rest = damage_most (place + 1) streams in
      let parts = sum_by-append (lesser_share demands span) (report place (first_of_all stream))
      (lines_of_each report (place + 1) (map first_of_all streams)) in
      let one = sum_by-cons (lesser_share demands span) stream streams in
      omega (arith, first, rest, parts, one)
    where
      go : (e : Bool) → sum_by (lesser_share demands span) (if e then stream ∷ [] else []) ≤ lesser_share demands span stream
      go true = rw (sum_by-cons (lesser_share demands span) stream []) (omega arith)
      go false = omega arith

  pub queue_group_taken : total (length all) taken ≤ sum_by (lesser_share demands span) (streams_with timing leasts asked own_too level)
  queue_group_taken =
      let whole = taken_within demands report span taken all (λ k below. taken_most k (get_or all k None) refl) in
      let two = ap (sum_by (lesser_share demands span)) (stated_of_two report 0 asked (damage_frames timing)) in
      let parts = sum_by-append (lesser_share demands span) (lines_of_each report 0 asked) (lines_of_each report (0 + length asked) (damage_frames timing)) in
      let same = ap (sum_by (lesser_share demands span)) (same_stated 0 asked (λ k below. ap (λ (n : ℕ). get_or asked n None) (omega arith))) in
      let damage = damage_most (0 + length asked) (damage_streams timing) in
      let needed = sum_by-append (lesser_share demands span) (damage_streams timing) (filter_map (stream_with leasts own_too level) asked) in
      omega (arith, whole, two, parts, same, damage, needed)

-- the wait that is reported has room
pub queue_group_fits : (timing : Timing) (ends : ℕ) (asked : List (Option FlowFrames)) (own : FlowFrames) (level wait i : ℕ)
    → planned_at (asked ++ damage_frames timing) i ≡ own
    → need (demands_of asked) (blocking_with timing own) (streams_with timing (leasts_of asked) asked (with_unplanned timing ends own) level) wait ≤ wait
    → QueueGroupDemandFits (traffic_of (asked ++ damage_frames timing)) (queue_group_of timing ends asked own level) timing.unplanned (longest_frame 8) i wait
queue_group_fits timing ends asked own level wait i read enough =
    let most = queue_group_taken timing ends asked own level (wait + 1) in
    let needed : need (demands_of (asked ++ damage_frames timing)) (blocking_with timing own)
    (streams_with timing (leasts_of asked) asked (with_unplanned timing ends own) level) wait ≤ wait =
    subst (λ (ds : List Demand). need ds (blocking_with timing own) (streams_with timing (leasts_of asked) asked (with_unplanned timing ends own) level) wait
    ≤ wait)
    (sym (demands_with_damage timing asked)) enough in
    subst (λ (x : FlowFrames). longest_frame 8 * (1 + timing.unplanned)
    + total (length (asked ++ damage_frames timing)) (taken timing ends asked own level (wait + 1)) ≤ wait + x.stream.bits) (sym read)
    (omega (arith, most, needed))
