-- Traces, one forward at a time.
use Rattle.std.proofs.Common.{◌≡◌, ℕ, zero, suc, ◌+◌, ◌-◌, ◌<◌, Some, None, sym, ◌∙◌, ap, arith}
use Rattle.std.specs.Option.{option_and_then, option_map_or}
use Rattle.j39_vehicle.specs.declared.vehicle.Vehicle.{Vehicle}
use Rattle.j39_vehicle_findings.specs.declared.point.Point.{Point}
use Rattle.j39_vehicle_findings.specs.Traces.{goes_on, next_forward, trace_end}

-- where no forward leads on, the trace ends
pub ends_here : (v : Vehicle) (steps : ℕ) (p : Point) → next_forward v p ≡ None → trace_end v steps p ≡ Some p
unfolding trace_end
ends_here v zero p none = ap (λ n. option_map_or (λ m. None) n (Some p)) none
ends_here v (suc steps) p none = ap (λ n. option_map_or (λ m. option_and_then (trace_end v steps) (goes_on v p m)) n (Some p)) none

step_of : (v : Vehicle) (steps : ℕ) (p : Point) (n : ℕ) → next_forward v p ≡ Some n
    → trace_end v (suc steps) p ≡ option_and_then (trace_end v steps) (goes_on v p n)
unfolding trace_end
step_of v steps p n some = ap (λ m. option_map_or (λ k. option_and_then (trace_end v steps) (goes_on v p k)) m (Some p)) some

pub one_more : (n i : ℕ) → i < n → n - i ≡ suc (n - (i + 1))
one_more n i less = omega arith

-- it goes on with what goes into what it came with
pub goes_further : (v : Vehicle) (all i : ℕ) (p q : Point) (n : ℕ) → i < all → next_forward v p ≡ Some n → goes_on v p n ≡ Some q
    → trace_end v (all - (i + 1)) q ≡ trace_end v (all - i) p
goes_further v all i p q n less some on =
    sym (ap (λ k. trace_end v k p) (one_more all i less) ∙ step_of v (all - (i + 1)) p n some
    ∙ ap (λ r. option_and_then (trace_end v (all - (i + 1))) r) on)

-- or has no end
pub breaks_off : (v : Vehicle) (all i : ℕ) (p : Point) (n : ℕ) → i < all → next_forward v p ≡ Some n → goes_on v p n ≡ None
    → trace_end v (all - i) p ≡ None
breaks_off v all i p n less some none =
    ap (λ k. trace_end v k p) (one_more all i less) ∙ step_of v (all - (i + 1)) p n some
    ∙ ap (λ r. option_and_then (trace_end v (all - (i + 1))) r) none

pub goes_on_too_often : (v : Vehicle) (p : Point) (n : ℕ) → next_forward v p ≡ Some n → trace_end v zero p ≡ None
unfolding trace_end
goes_on_too_often v p n some = ap (λ m. option_map_or (λ k. None) m (Some p)) some
