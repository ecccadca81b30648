-- The streams that may go before frames take no more than what is reported of their places.
use Rattle.std.proofs.Common.{◌≡◌, ℕ, zero, suc, ◌+◌, ◌<◌, ◌≤◌, Bool, true, false, cond, eqb, if◌then◌else◌, List, [], ◌∷◌, ◌++◌, length, take}
use Rattle.std.proofs.Common.{get_or, map, sum_by, unwrap_or, Option, Some, None}
use Rattle.std.proofs.Common.{refl, sym, ap, ◌∙◌, subst, arith, append_assoc}
use Rattle.std.proofs.lemmas.List.{get_or_append_left, take_all}
use Rattle.std.proofs.lemmas.List.Sums.{sum_by-append, sum_by-cons}
use Rattle.std.proofs.lemmas.Option.{same_Some, none-some}
use Rattle.std.specs.List.{slice_get}
use Rattle.j39_network.specs.declared.plan.timing.Timing.{Timing}
use Rattle.j39_load.specs.declared.frames.flow_frames.FlowFrames.{FlowFrames}
use Rattle.j39_load.specs.declared.loads.flow_load.FlowLoad.{FlowLoad}
use Rattle.j39_load.specs.declared.frames.messages.Messages.TheVariants.{Short}
use Rattle.j39_load.specs.declared.loads.request_load.RequestLoad.{RequestLoad}
use Rattle.j39_load.specs.declared.loads.unit_load.UnitLoad.{UnitLoad}
use Rattle.j39_load.specs.Asked.{all_frames, own_frames}
use Rattle.j39_load.specs.Damage.{damage_frames, damage_streams, first_frames, first_of_all}
use Rattle.j39_load.specs.AnswerStreams.{are_asked_for}
use Rattle.j39_load.specs.Delays.{frames_before, going_before, own_before, streams_before}
use Rattle.j39_load.specs.LineLists.{lines_of_each}
use Rattle.j39_load.specs.PlannedFrames.{no_frames, planned_at}
use Rattle.j39_load.specs.Twins.{may_precede}
use Rattle.j39_load.proofs.AskedPlaces.{flow_read}
use Rattle.j39_load.proofs.Before.{more}
use Rattle.j39_timing.specs.Sums.{total}
use Rattle.j39_timing.specs.Waits.{Demand, lesser_share}
use Rattle.j39_timing.specs.declared.stream.Stream.{Stream}

-- ---- where nothing is reported

pub none_of_two : {X : Type 0} (xs ys : List X) → xs ++ ys ≡ [] → (xs ≡ []) × (ys ≡ [])
none_of_two [] ys none = (refl, none)
none_of_two (x ∷ xs) ys none = absurd (let some : suc (length (xs ++ ys)) ≡ 0 = ap length none in omega arith)

pub stated_nothing : {X Y : Type 0} (report : ℕ → X → List Y) (place : ℕ) (xs : List X) → lines_of_each report place xs ≡ [] → (k : ℕ) (x : X)
    → slice_get xs k ≡ Some x → report (place + k) x ≡ []
unfolding lines_of_each
stated_nothing report place [] none k x at = absurd (none-some x at)
stated_nothing report place (first ∷ xs) none zero x at =
    let head = (none_of_two (report place first) (lines_of_each report (place + 1) xs) none).0 in
    ap (λ (n : ℕ). report n x) (omega arith) ∙ ap (report place) (sym (same_Some first x at)) ∙ head
stated_nothing report place (first ∷ xs) none (suc k) x at =
    let tail = (none_of_two (report place first) (lines_of_each report (place + 1) xs) none).1 in
    ap (λ (n : ℕ). report n x) (omega arith) ∙ stated_nothing report (place + 1) xs tail k x at

-- ---- the streams before

-- frames at a place count: where they are the ones that wait, if others of them may be queued at once, and else if they may go before these
abbrev pub counts_before : ℕ → FlowFrames → ℕ → FlowFrames → Bool
counts_before i own j frames = cond (eqb j i) (are_asked_for frames) (may_precede own frames)

-- what each place takes is within what is reported of it, and so is all of it
module _ (demands : List Demand) (report : ℕ → Option FlowFrames → List Stream) (span : ℕ) (taken : ℕ → ℕ) (all : List (Option FlowFrames))
    (each : (k : ℕ) → k < length all → taken k ≤ sum_by (lesser_share demands span) (report k (get_or all k None))) where
  up_to : (k : ℕ) → k ≤ length all → total k taken ≤ sum_by (lesser_share demands span) (lines_of_each report 0 (take k all))
  unfolding total
  up_to zero le = omega arith
  up_to (suc k) le =
      let before : total k taken ≤ sum_by (lesser_share demands span) (lines_of_each report 0 (take k all)) = up_to k (omega arith) in
      let this : taken k ≤ sum_by (lesser_share demands span) (report k (get_or all k None)) = each k (omega arith) in
      let both : sum_by (lesser_share demands span) (lines_of_each report 0 (take (k + 1) all))
      ≡ sum_by (lesser_share demands span) (lines_of_each report 0 (take k all)) + sum_by (lesser_share demands span) (report k (get_or all k None)) =
      ap (sum_by (lesser_share demands span)) (more report k all None (omega arith))
      ∙ sum_by-append (lesser_share demands span) (lines_of_each report 0 (take k all)) (report k (get_or all k None)) in
      let next : k + 1 ≡ suc k = omega arith in
      subst (λ (n : ℕ). total k taken + taken k ≤ sum_by (lesser_share demands span) (lines_of_each report 0 (take n all))) next
      (omega (arith, before, this, both))

  pub taken_within : total (length all) taken ≤ sum_by (lesser_share demands span) (lines_of_each report 0 all)
  taken_within = subst (λ (xs : List (Option FlowFrames)). total (length all) taken ≤ sum_by (lesser_share demands span) (lines_of_each report 0 xs))
      (take_all (length all) all (omega arith)) (up_to (length all) (omega arith))

module _ (demands : List Demand) (all : List (Option FlowFrames)) (i : ℕ) (own : FlowFrames) (span : ℕ) where
  -- what the stream at a place takes
  abbrev pub taken : ℕ → ℕ
  taken j = cond (counts_before i own j (planned_at all j)) (lesser_share demands span (planned_at all j).stream) 0

  taken_most : (j : ℕ) (frames : Option FlowFrames) → get_or all j None ≡ frames → taken j ≤ sum_by (lesser_share demands span) (going_before i own j frames)
  taken_most j None is = rw (is) (elim (counts_before i own j no_frames) as
      (λ e. cond e (lesser_share demands span no_frames.stream) 0 ≤ sum_by (lesser_share demands span) []) [
        | true ↦ omega arith
        | false ↦ omega arith
      ])
  taken_most j (Some frames) is = rw (is) (elim (eqb j i)
      as (λ e. cond (cond e (are_asked_for frames) (may_precede own frames)) (lesser_share demands span frames.stream) 0
      ≤ sum_by (lesser_share demands span) (if e then own_before frames else frames_before own frames)) [
        | true ↦ where_counted (are_asked_for frames) frames
        | false ↦ where_counted (may_precede own frames) frames
      ])
    where
      where_counted : (e : Bool) (f : FlowFrames)
          → cond e (lesser_share demands span f.stream) 0 ≤ sum_by (lesser_share demands span) (if e then f.stream ∷ [] else [])
      where_counted true f = rw (sum_by-cons (lesser_share demands span) f.stream []) (omega arith)
      where_counted false f = omega arith

  whole_taken : total (length all) taken ≤ sum_by (lesser_share demands span) (lines_of_each (going_before i own) 0 all)
  whole_taken = taken_within demands (going_before i own) span taken all (λ k below. taken_most k (get_or all k None) refl)

-- what is reported of two lists, one after the other
pub stated_of_two : {X Y : Type 0} (report : ℕ → X → List Y) (place : ℕ) (xs ys : List X)
    → lines_of_each report place (xs ++ ys) ≡ lines_of_each report place xs ++ lines_of_each report (place + length xs) ys
unfolding lines_of_each
stated_of_two report place [] ys = ap (λ (n : ℕ). lines_of_each report n ys) (omega arith)
stated_of_two report place (x ∷ xs) ys =
    ap (λ zs. report place x ++ zs) (stated_of_two report (place + 1) xs ys)
    ∙ ap (λ (n : ℕ). report place x ++ (lines_of_each report (place + 1) xs ++ lines_of_each report n ys)) (omega arith)
    ∙ sym (append_assoc (report place x) (lines_of_each report (place + 1) xs) (lines_of_each report (place + length (x ∷ xs)) ys))

module _ (demands : List Demand) (i : ℕ) (own : FlowFrames) (span : ℕ) where
  damage_most : (place : ℕ) (streams : List Stream)
      → sum_by (lesser_share demands span) (lines_of_each (going_before i own) place (map first_of_all streams)) ≤ sum_by (lesser_share demands span) streams
  unfolding lines_of_each
  damage_most place [] = omega arith
  damage_most place (stream ∷ streams) =
      let first : sum_by (lesser_share demands span) (going_before i own place (first_of_all stream)) ≤ lesser_share demands span stream =
      go (eqb place i) (may_precede own (first_frames stream)) (are_asked_for (first_frames stream)) in
      let rest = damage_most (place + 1) streams in
      let parts = sum_by-append (lesser_share demands span) (going_before i own place (first_of_all stream))
      (lines_of_each (going_before i own) (place + 1) (map first_of_all streams)) in
      let one = sum_by-cons (lesser_share demands span) stream streams in
      omega (arith, first, rest, parts, one)
    where
      go : (same goes asked : Bool)
          → sum_by (lesser_share demands span) (if same then (if asked then stream ∷ [] else []) else (if goes then stream ∷ [] else []))
          ≤ lesser_share demands span stream
      go true goes true = rw (sum_by-cons (lesser_share demands span) stream []) (omega arith)
      go true goes false = omega arith
      go false true asked = rw (sum_by-cons (lesser_share demands span) stream []) (omega arith)
      go false false asked = omega arith

  -- with what comes of damage
  pub all_before : (timing : Timing) (all : List (Option FlowFrames))
      → total (length (all ++ damage_frames timing)) (taken demands (all ++ damage_frames timing) i own span)
      ≤ sum_by (lesser_share demands span) (streams_before timing i own all)
  all_before timing all =
      let whole = whole_taken demands (all ++ damage_frames timing) i own span in
      let two = ap (sum_by (lesser_share demands span)) (stated_of_two (going_before i own) 0 all (damage_frames timing)) in
      let parts = sum_by-append (lesser_share demands span) (lines_of_each (going_before i own) 0 all)
      (lines_of_each (going_before i own) (0 + length all) (damage_frames timing)) in
      let damage = damage_most (0 + length all) (damage_streams timing) in
      let needed = sum_by-append (lesser_share demands span) (damage_streams timing) (lines_of_each (going_before i own) 0 all) in
      omega (arith, whole, two, parts, damage, needed)

-- where something is read there is a place
pub get_or_inside : {X : Type 0} (all : List (Option X)) (i : ℕ) (x : X) → get_or all i None ≡ Some x → i < length all
get_or_inside [] i x is = absurd (none-some x is)
get_or_inside (y ∷ ys) zero x is = omega arith
get_or_inside (y ∷ ys) (suc i) x is = let inside = get_or_inside ys i x is in omega (arith, inside)

-- at a flow's place stand its own frames
pub own_read : (flows : List (Option FlowLoad)) (units : List (Option UnitLoad)) (requests : List (Option RequestLoad)) (flow : ℕ) (load : FlowLoad)
    (frames : FlowFrames) → slice_get flows flow ≡ Some (Some load) → load.messages ≡ Short frames
    → get_or (all_frames flows units requests) flow None ≡ Some frames
own_read flows units requests flow load frames its short = flow_read flows units requests flow load frames its (ap own_frames short)

-- and so they do where what comes of damage stands behind all
pub with_damage : (timing : Timing) (asked : List (Option FlowFrames)) (flow : ℕ) (frames : FlowFrames) → get_or asked flow None ≡ Some frames
    → planned_at (asked ++ damage_frames timing) flow ≡ frames
with_damage timing asked flow frames is =
    let front : get_or (asked ++ damage_frames timing) flow None ≡ Some frames =
    get_or_append_left asked (damage_frames timing) None flow (get_or_inside asked flow frames is) ∙ is in
    ap (λ (found : Option FlowFrames). unwrap_or found no_frames) front
