-- Chains of direct forwards and traces, one forward at a time.
use Rattle.std.proofs.Common.{◌≡◌, ℕ, zero, suc, ◌+◌, ◌-◌, ◌<◌, Bool, true, false, Option, Some, None, if◌then◌else◌, refl, sym, ◌∙◌, ap, arith}
use Rattle.std.specs.Option.{option_and_then, option_map_or}
use Rattle.j39_network.specs.declared.plan.flow_plan.FlowPlan.{FlowPlan}
use Rattle.j39_network.specs.declared.plan.timing.Timing.{Timing}
use Rattle.j39_vehicle.specs.declared.vehicle.Vehicle.{Vehicle}
use Rattle.j39_vehicle.specs.declared.vehicle.forward.Forward.{Forward}
use Rattle.j39_vehicle_findings.specs.ForwardTests.{is_direct}
use Rattle.j39_vehicle_findings.specs.Traces.{goes_on, next_forward}
use Rattle.j39_vehicle_findings.specs.declared.point.FlowAt.{FlowAt}
use Rattle.j39_vehicle_findings.specs.declared.point.Point.{Point}
use Rattle.j39_vehicle_findings.proofs.Tracing.{one_more}
use Rattle.j39_vehicle_times.specs.declared.bus_delays.Delays.{Delays}
use Rattle.j39_vehicle_times.specs.Times.{age_with, behind_at, behind_by, behind_release, direct_feeder, forward_at, first_input_at, old_behind, old_by, own}
use Rattle.j39_vehicle_times.specs.Times.{pause_on}
use Rattle.j39_vehicle_times.specs.Times.{queued_behind, interval_by, interval_us, sum_known, timing_on, unasked_at, within_of}
use Rattle.j39_vehicle_times.specs.inside.Aging.{aged_by, aged_of, ends_here}
use Rattle.j39_vehicle_times.proofs.Sums.{sum_more, sum_none, sum_swap, sum_swapped, sum_turned, sum_zero}

less_none : (n : ℕ) → n - 0 ≡ n
less_none n = omega arith

-- ---- behind

pub behind_here : (v : Vehicle) (delays : Delays) (steps : ℕ) (at : FlowAt) → direct_feeder v at ≡ None
    → behind_by v delays steps at ≡ behind_release v delays at
unfolding behind_by
behind_here v delays zero at none = ap (λ n. option_map_or (λ m. None) n (behind_release v delays at)) none
behind_here v delays (suc steps) at none =
    ap (λ n. option_map_or (λ m. sum_known (queued_behind v m (behind_by v delays steps)) (own v delays at)) n (behind_release v delays at)) none

behind_step : (v : Vehicle) (delays : Delays) (steps : ℕ) (at : FlowAt) (n : Forward) → direct_feeder v at ≡ Some n
    → behind_by v delays (suc steps) at ≡ sum_known (queued_behind v n (behind_by v delays steps)) (own v delays at)
unfolding behind_by
behind_step v delays steps at n some =
    ap (λ k. option_map_or (λ m. sum_known (queued_behind v m (behind_by v delays steps)) (own v delays at)) k (behind_release v delays at)) some

-- with what the forward heard, and how long it and what it sends take
behind_hop : (v : Vehicle) (delays : Delays) (steps : ℕ) (at : FlowAt) (n : Forward) → direct_feeder v at ≡ Some n
    → behind_by v delays (suc steps) at
    ≡ sum_known (sum_known (within_of n) (own v delays at)) (option_and_then (behind_by v delays steps) (first_input_at v n))
behind_hop v delays steps at n some =
    behind_step v delays steps at n some ∙ sum_turned (option_and_then (behind_by v delays steps) (first_input_at v n)) (within_of n) (own v delays at)

pub behind_further : (v : Vehicle) (delays : Delays) (all i hops hop : ℕ) (at source : FlowAt) (n : Forward) → i < all → direct_feeder v at ≡ Some n
    → sum_known (within_of n) (own v delays at) ≡ Some hop → first_input_at v n ≡ Some source
    → sum_known (Some (hops + hop)) (behind_by v delays (all - (i + 1)) source) ≡ sum_known (Some hops) (behind_by v delays (all - i) at)
behind_further v delays all i hops hop at source n less some takes from =
    let k = all - (i + 1) in
    sym (ap (λ m. sum_known (Some hops) (behind_by v delays m at)) (one_more all i less)
    ∙ ap (sum_known (Some hops)) (behind_hop v delays k at n some)
    ∙ ap (λ h. sum_known (Some hops) (sum_known h (option_and_then (behind_by v delays k) (first_input_at v n)))) takes
    ∙ ap (λ s. sum_known (Some hops) (sum_known (Some hop) (option_and_then (behind_by v delays k) s))) from
    ∙ sum_more hops hop (behind_by v delays k source))

pub behind_without_hop : (v : Vehicle) (delays : Delays) (all i hops : ℕ) (at : FlowAt) (n : Forward) → i < all → direct_feeder v at ≡ Some n
    → sum_known (within_of n) (own v delays at) ≡ None → sum_known (Some hops) (behind_by v delays (all - i) at) ≡ None
behind_without_hop v delays all i hops at n less some none =
    let k = all - (i + 1) in
    ap (λ m. sum_known (Some hops) (behind_by v delays m at)) (one_more all i less)
    ∙ ap (sum_known (Some hops)) (behind_hop v delays k at n some)
    ∙ ap (λ h. sum_known (Some hops) (sum_known h (option_and_then (behind_by v delays k) (first_input_at v n)))) none

pub behind_without_input : (v : Vehicle) (delays : Delays) (all i hops : ℕ) (at : FlowAt) (n : Forward) → i < all → direct_feeder v at ≡ Some n
    → first_input_at v n ≡ None → sum_known (Some hops) (behind_by v delays (all - i) at) ≡ None
behind_without_input v delays all i hops at n less some none =
    let k = all - (i + 1) in
    let hop = sum_known (within_of n) (own v delays at) in
    ap (λ m. sum_known (Some hops) (behind_by v delays m at)) (one_more all i less)
    ∙ ap (sum_known (Some hops)) (behind_hop v delays k at n some)
    ∙ ap (λ s. sum_known (Some hops) (sum_known hop (option_and_then (behind_by v delays k) s))) none
    ∙ ap (sum_known (Some hops)) (sum_none hop)

pub behind_no_further : (v : Vehicle) (delays : Delays) (hops : ℕ) (at : FlowAt) (n : Forward) → direct_feeder v at ≡ Some n
    → sum_known (Some hops) (behind_by v delays zero at) ≡ None
unfolding behind_by
behind_no_further v delays hops at n some = ap (λ k. sum_known (Some hops) (option_map_or (λ m. None) k (behind_release v delays at))) some

pub behind_first : (v : Vehicle) (delays : Delays) (all : ℕ) (at : FlowAt)
    → sum_known (Some 0) (behind_by v delays (all - 0) at) ≡ behind_by v delays all at
behind_first v delays all at = ap (λ k. sum_known (Some 0) (behind_by v delays k at)) (less_none all) ∙ sum_zero (behind_by v delays all at)

-- ---- silent

pub interval_here : (v : Vehicle) (steps : ℕ) (at : FlowAt) (flow : FlowPlan) → unasked_at v at ≡ Some flow → direct_feeder v at ≡ None
    → interval_by v steps at ≡ pause_on v at flow
unfolding interval_by
interval_here v zero at flow is none =
    ap (λ o. option_and_then (λ f. option_map_or (λ n. None) (direct_feeder v at) (pause_on v at f)) o) is
    ∙ ap (λ d. option_map_or (λ n. None) d (pause_on v at flow)) none
interval_here v (suc steps) at flow is none =
    ap (λ o. option_and_then (λ f. option_map_or (λ n. option_and_then (interval_by v steps) (first_input_at v n)) (direct_feeder v at) (pause_on v at f)) o) is
    ∙ ap (λ d. option_map_or (λ n. option_and_then (interval_by v steps) (first_input_at v n)) d (pause_on v at flow)) none

pub interval_unknown : (v : Vehicle) (steps : ℕ) (at : FlowAt) → unasked_at v at ≡ None → interval_by v steps at ≡ None
unfolding interval_by
interval_unknown v zero at none =
    ap (λ o. option_and_then (λ f. option_map_or (λ n. None) (direct_feeder v at) (pause_on v at f)) o) none
interval_unknown v (suc steps) at none =
    ap (λ o. option_and_then (λ f. option_map_or (λ n. option_and_then (interval_by v steps) (first_input_at v n)) (direct_feeder v at)
    (pause_on v at f)) o) none

interval_step : (v : Vehicle) (steps : ℕ) (at : FlowAt) (flow : FlowPlan) (n : Forward) → unasked_at v at ≡ Some flow → direct_feeder v at ≡ Some n
    → interval_by v (suc steps) at ≡ option_and_then (interval_by v steps) (first_input_at v n)
unfolding interval_by
interval_step v steps at flow n is some =
    ap (λ o. option_and_then (λ f. option_map_or (λ n. option_and_then (interval_by v steps) (first_input_at v n)) (direct_feeder v at) (pause_on v at f)) o) is
    ∙ ap (λ d. option_map_or (λ n. option_and_then (interval_by v steps) (first_input_at v n)) d (pause_on v at flow)) some

pub interval_further : (v : Vehicle) (all i : ℕ) (at source : FlowAt) (flow : FlowPlan) (n : Forward) → i < all → unasked_at v at ≡ Some flow
    → direct_feeder v at ≡ Some n → first_input_at v n ≡ Some source → interval_by v (all - (i + 1)) source ≡ interval_by v (all - i) at
interval_further v all i at source flow n less is some from =
    sym (ap (λ m. interval_by v m at) (one_more all i less) ∙ interval_step v (all - (i + 1)) at flow n is some
    ∙ ap (option_and_then (interval_by v (all - (i + 1)))) from)

pub interval_without_input : (v : Vehicle) (all i : ℕ) (at : FlowAt) (flow : FlowPlan) (n : Forward) → i < all → unasked_at v at ≡ Some flow
    → direct_feeder v at ≡ Some n → first_input_at v n ≡ None → interval_by v (all - i) at ≡ None
interval_without_input v all i at flow n less is some none =
    ap (λ m. interval_by v m at) (one_more all i less) ∙ interval_step v (all - (i + 1)) at flow n is some
    ∙ ap (option_and_then (interval_by v (all - (i + 1)))) none

pub interval_no_further : (v : Vehicle) (at : FlowAt) (flow : FlowPlan) (n : Forward) → unasked_at v at ≡ Some flow → direct_feeder v at ≡ Some n
    → interval_by v zero at ≡ None
unfolding interval_by
interval_no_further v at flow n is some =
    ap (λ o. option_and_then (λ f. option_map_or (λ n. None) (direct_feeder v at) (pause_on v at f)) o) is
    ∙ ap (λ d. option_map_or (λ n. None) d (pause_on v at flow)) some

-- ---- old

-- what is added on the way to a flow is added to what it was before
by_mode : (b : Bool) (o g w : Option ℕ) → (if b then o else sum_known (sum_known o g) w) ≡ sum_known (if b then Some 0 else sum_known g w) o
by_mode true o g w = sym (sum_zero o)
by_mode false o g w = ap (λ x. sum_known x w) (sum_swap o g) ∙ sum_swapped g o w

at_forward : (v : Vehicle) (delays : Delays) (at : FlowAt) (old : Option ℕ) (n : Option Forward)
    → option_map_or (λ forward. if is_direct forward then old else sum_known (age_with v delays at old) (within_of forward)) n None
    ≡ sum_known (option_map_or (aged_of v delays at) n None) old
at_forward v delays at old None = refl
at_forward v delays at old (Some n) = by_mode (is_direct n) old (sum_known (interval_us v at) (behind_at v delays at)) (within_of n)

aged_from : (v : Vehicle) (delays : Delays) (n : ℕ) (at : FlowAt) (old : Option ℕ)
    → old_behind v delays n at old ≡ sum_known (aged_by v delays n at) old
aged_from v delays n at old = at_forward v delays at old (forward_at v n)

pub old_unknown : (v : Vehicle) (delays : Delays) (steps : ℕ) (p : Point) → timing_on v.buses.items p.at.bus ≡ None → old_by v delays steps p ≡ None
unfolding old_by
old_unknown v delays zero p none = ap (λ o. option_and_then (λ (timing : Timing). option_map_or (λ n. None) (next_forward v p) (Some 0)) o) none
old_unknown v delays (suc steps) p none = ap (λ o. option_and_then (λ (timing : Timing).
    option_map_or (λ n. option_and_then (λ (q : Point). old_behind v delays n q.at (old_by v delays steps q)) (goes_on v p n)) (next_forward v p)
    (Some 0)) o) none

pub old_here : (v : Vehicle) (delays : Delays) (steps : ℕ) (p : Point) (t : Timing) → timing_on v.buses.items p.at.bus ≡ Some t → next_forward v p ≡ None
    → old_by v delays steps p ≡ Some 0
unfolding old_by
old_here v delays zero p t is none =
    ap (λ o. option_and_then (λ (timing : Timing). option_map_or (λ n. None) (next_forward v p) (Some 0)) o) is
    ∙ ap (λ n. option_map_or (λ m. None) n (Some 0)) none
old_here v delays (suc steps) p t is none =
    ap (λ o. option_and_then (λ (timing : Timing).
    option_map_or (λ n. option_and_then (λ (q : Point). old_behind v delays n q.at (old_by v delays steps q)) (goes_on v p n)) (next_forward v p)
    (Some 0)) o) is
    ∙ ap (λ k. option_map_or (λ n. option_and_then (λ (q : Point). old_behind v delays n q.at (old_by v delays steps q)) (goes_on v p n)) k (Some 0)) none

-- where it isn't followed any more
abbrev none_older : Option ℕ → Timing → Option ℕ
none_older n timing = option_map_or (λ m. None) n (Some 0)

old_by_end : (v : Vehicle) (delays : Delays) (p : Point) (o : Option Timing) (n : Option ℕ)
    → option_and_then (none_older n) o
    ≡ (if option_map_or (λ (timing : Timing). option_map_or (λ (m : ℕ). false) n true) o false then Some 0 else None)
old_by_end v delays p None n = refl
old_by_end v delays p (Some t) None = refl
old_by_end v delays p (Some t) (Some n) = refl

pub old_at_last : (v : Vehicle) (delays : Delays) (p : Point) (b : Bool) → ends_here v p ≡ b → old_by v delays zero p ≡ (if b then Some 0 else None)
unfolding old_by
old_at_last v delays p b is =
    old_by_end v delays p (timing_on v.buses.items p.at.bus) (next_forward v p) ∙ ap (λ (c : Bool). if c then Some 0 else None) is

old_step : (v : Vehicle) (delays : Delays) (steps : ℕ) (p : Point) (t : Timing) (n : ℕ) → timing_on v.buses.items p.at.bus ≡ Some t
    → next_forward v p ≡ Some n
    → old_by v delays (suc steps) p ≡ option_and_then (λ (q : Point). old_behind v delays n q.at (old_by v delays steps q)) (goes_on v p n)
unfolding old_by
old_step v delays steps p t n is some =
    ap (λ o. option_and_then (λ (timing : Timing).
    option_map_or (λ n. option_and_then (λ (q : Point). old_behind v delays n q.at (old_by v delays steps q)) (goes_on v p n)) (next_forward v p)
    (Some 0)) o) is
    ∙ ap (λ k. option_map_or (λ n. option_and_then (λ (q : Point). old_behind v delays n q.at (old_by v delays steps q)) (goes_on v p n)) k (Some 0)) some

-- a step to what the forward heard
old_from : (v : Vehicle) (delays : Delays) (all i : ℕ) (p q : Point) (t : Timing) (n : ℕ) → i < all → timing_on v.buses.items p.at.bus ≡ Some t
    → next_forward v p ≡ Some n → goes_on v p n ≡ Some q
    → old_by v delays (all - i) p ≡ sum_known (aged_by v delays n q.at) (old_by v delays (all - (i + 1)) q)
old_from v delays all i p q t n less is some on =
    let k = all - (i + 1) in
    ap (λ m. old_by v delays m p) (one_more all i less) ∙ old_step v delays k p t n is some
    ∙ ap (option_and_then (λ (q : Point). old_behind v delays n q.at (old_by v delays k q))) on
    ∙ aged_from v delays n q.at (old_by v delays k q)

pub old_further : (v : Vehicle) (delays : Delays) (all i sum aged : ℕ) (p q : Point) (t : Timing) (n : ℕ) → i < all
    → timing_on v.buses.items p.at.bus ≡ Some t → next_forward v p ≡ Some n → goes_on v p n ≡ Some q
    → aged_by v delays n q.at ≡ Some aged
    → sum_known (Some (sum + aged)) (old_by v delays (all - (i + 1)) q) ≡ sum_known (Some sum) (old_by v delays (all - i) p)
old_further v delays all i sum aged p q t n less is some on by =
    let before = old_by v delays (all - (i + 1)) q in
    sym (ap (sum_known (Some sum)) (old_from v delays all i p q t n less is some on)
    ∙ ap (λ a. sum_known (Some sum) (sum_known a before)) by ∙ sum_more sum aged before)

pub old_without_age : (v : Vehicle) (delays : Delays) (all i sum : ℕ) (p q : Point) (t : Timing) (n : ℕ) → i < all
    → timing_on v.buses.items p.at.bus ≡ Some t → next_forward v p ≡ Some n → goes_on v p n ≡ Some q
    → aged_by v delays n q.at ≡ None → sum_known (Some sum) (old_by v delays (all - i) p) ≡ None
old_without_age v delays all i sum p q t n less is some on none =
    let before = old_by v delays (all - (i + 1)) q in
    ap (sum_known (Some sum)) (old_from v delays all i p q t n less is some on)
    ∙ ap (λ a. sum_known (Some sum) (sum_known a before)) none

pub old_breaks_off : (v : Vehicle) (delays : Delays) (all i sum : ℕ) (p : Point) (t : Timing) (n : ℕ) → i < all
    → timing_on v.buses.items p.at.bus ≡ Some t → next_forward v p ≡ Some n → goes_on v p n ≡ None
    → sum_known (Some sum) (old_by v delays (all - i) p) ≡ None
old_breaks_off v delays all i sum p t n less is some none =
    let k = all - (i + 1) in
    ap (λ m. sum_known (Some sum) (old_by v delays m p)) (one_more all i less)
    ∙ ap (sum_known (Some sum)) (old_step v delays k p t n is some
    ∙ ap (option_and_then (λ (q : Point). old_behind v delays n q.at (old_by v delays k q))) none)

pub old_first : (v : Vehicle) (delays : Delays) (all : ℕ) (p : Point) → sum_known (Some 0) (old_by v delays (all - 0) p) ≡ old_by v delays all p
old_first v delays all p = ap (λ k. sum_known (Some 0) (old_by v delays k p)) (less_none all) ∙ sum_zero (old_by v delays all p)

-- the trace ends where it is known to be so old
pub old_ends : (v : Vehicle) (delays : Delays) (steps sum : ℕ) (p : Point) (t : Timing) → timing_on v.buses.items p.at.bus ≡ Some t
    → next_forward v p ≡ None → sum_known (Some sum) (old_by v delays steps p) ≡ Some sum
old_ends v delays steps sum p t is none = ap (sum_known (Some sum)) (old_here v delays steps p t is none) ∙ ap Some (omega arith)

pub old_last : (v : Vehicle) (delays : Delays) (k sum : ℕ) (p : Point) (b : Bool) → k ≡ 0 → ends_here v p ≡ b
    → sum_known (Some sum) (old_by v delays k p) ≡ (if b then Some sum else None)
old_last v delays k sum p true over is =
    ap (λ n. sum_known (Some sum) (old_by v delays n p)) over ∙ ap (sum_known (Some sum)) (old_at_last v delays p true is) ∙ ap Some (omega arith)
old_last v delays k sum p false over is =
    ap (λ n. sum_known (Some sum) (old_by v delays n p)) over ∙ ap (sum_known (Some sum)) (old_at_last v delays p false is)
