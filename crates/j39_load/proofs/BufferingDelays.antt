-- Frames at the places of all at the end of their buffering delays.
use Rattle.std.proofs.Common.{◌≡◌, ℕ, zero, suc, ◌+◌, ◌<◌, false, List, [], ◌∷◌, length, get_or, Option, Some, None, Result, Ok, Err, refl, sym}
use Rattle.std.proofs.Common.{subst, ap, ◌∙◌, MatchBool, arith}
use Rattle.std.proofs.Common.{option_map}
use Rattle.std.specs.Prelude.{IfOk}
use Rattle.j39_network.specs.declared.plan.timing.Timing.{Timing}
use Rattle.j39_load.specs.declared.frames.flow_frames.FlowFrames.{FlowFrames}
use Rattle.j39_load.specs.AnyQueues.{IsQueueGroupWait, IsBufferedFor, buffered_for, keep_order, later_frames, leasts_of, buffered}
use Rattle.j39_load.specs.LineLists.{lines_of_each}

-- one is reported of each place
each_one : {X Y : Type 0} (f : ℕ → X → Y) (place : ℕ) (xs : List X) (k : ℕ) (d : X) (e : Y) → k < length xs
    → get_or (lines_of_each (λ p x. f p x ∷ []) place xs) k e ≡ f (place + k) (get_or xs k d)
unfolding lines_of_each
each_one f place [] k d e below = absurd (omega arith)
each_one f place (x ∷ xs) zero d e below = ap (λ (n : ℕ). f n x) (omega arith)
each_one f place (x ∷ xs) (suc k) d e below =
    each_one f (place + 1) xs k d e (omega (arith, below)) ∙ ap (λ (n : ℕ). f n (get_or xs k d)) (omega arith)

pub one_each : {X Y : Type 0} (f : ℕ → X → Y) (place : ℕ) (xs : List X) → length (lines_of_each (λ p x. f p x ∷ []) place xs) ≡ length xs
unfolding lines_of_each
one_each f place [] = refl
one_each f place (x ∷ xs) = ap suc (one_each f (place + 1) xs)

pub buffered_read : (waits : List (Option ℕ)) (all : List (Option FlowFrames)) (j : ℕ) → j < length all
    → get_or (buffered waits all) j None ≡ option_map (later_frames (buffered_for waits j)) (get_or all j None)
buffered_read waits all j below =
    each_one (λ (p : ℕ) (x : Option FlowFrames). option_map (later_frames (buffered_for waits p)) x) 0 all j None None below
    ∙ ap (λ (n : ℕ). option_map (later_frames (buffered_for waits n)) (get_or all j None)) (omega arith)

-- ---- how long frames are buffered

buffered_with : {E : Type 0} (timing : Timing) (ends : ℕ) (all : List (Option FlowFrames)) (frames : FlowFrames) (leasts : List (Option ℕ))
    (wait : Result (Option ℕ) E)
    → leasts ≡ leasts_of all → keep_order frames ≡ false → IfOk wait (IsQueueGroupWait timing ends leasts all frames)
    → IfOk wait (IsBufferedFor timing ends all (Some frames))
buffered_with timing ends all frames leasts (Ok wait) same unordered is =
    subst (λ b. MatchBool b (wait ≡ Some 0) (IsQueueGroupWait timing ends (leasts_of all) all frames wait)) (sym unordered)
    (subst (λ (ls : List (Option ℕ)). IsQueueGroupWait timing ends ls all frames wait) same is)
buffered_with timing ends all frames leasts (Err e) same unordered is = tt

-- those of a unit that keeps no order are for as long as they wait in it
pub held_by_queue_group : {E : Type 0} (timing : Timing) (ends : ℕ) (all : List (Option FlowFrames)) (here : Option FlowFrames) (frames : FlowFrames)
    (leasts : List (Option ℕ))
    (wait : Result (Option ℕ) E) → here ≡ Some frames → leasts ≡ leasts_of all → keep_order frames ≡ false
    → IfOk wait (IsQueueGroupWait timing ends leasts all frames) → IfOk wait (IsBufferedFor timing ends all here)
held_by_queue_group timing ends all here frames leasts wait its same unordered is =
    subst (λ (f : Option FlowFrames). IfOk wait (IsBufferedFor timing ends all f)) (sym its)
    (buffered_with timing ends all frames leasts wait same unordered is)
