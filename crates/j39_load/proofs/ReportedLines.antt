-- What is reported on the load at each place of a list.
use Rattle.std.proofs.Common.{◌≡◌, ℕ, zero, suc, ◌+◌, ◌<◌, Bool, true, false, nat_lt, if◌then◌else◌, List, [], ◌∷◌, Contains}
use Rattle.std.proofs.Common.{Option, Some, None, refl, sym, subst, inl, inr, arith}
use Rattle.std.specs.List.{slice_get}
use Rattle.std.specs.Option.{option_map_or}
use Rattle.std.proofs.lemmas.Bool.{ltb-true}
use Rattle.std.proofs.lemmas.List.Elements.{Contains-append_cases, Contains-append_left, Contains-append_right}
use Rattle.std.proofs.lemmas.Option.{same_Some}
use Rattle.j39_network.specs.declared.plan.Plan.{Plan}
use Rattle.j39_network.specs.declared.plan.flow_plan.FlowPlan.{FlowPlan}
use Rattle.j39_network.specs.declared.plan.need_plan.NeedPlan.{NeedPlan}
use Rattle.j39_network.specs.declared.plan.request_plan.RequestPlan.{RequestPlan}
use Rattle.j39_network.specs.declared.plan.timing.Timing.{Timing}
use Rattle.j39_load.specs.Ages.{old_needs, oldness}
use Rattle.j39_load.specs.AskedFlows.{is_asked_too_often}
use Rattle.j39_load.specs.LineLists.{lines_of_each}
use Rattle.j39_load.specs.LoadFindings.{flows_asked_too_often, is_whole_late, lateness, overload, too_often, without_period}
use Rattle.j39_load.specs.Loads.{bits_of_second}
use Rattle.j39_load.specs.declared.findings.load_finding.LoadFinding.{LoadFinding}
use Rattle.j39_load.specs.declared.findings.load_finding.LoadFinding.TheVariants.{NoPeriod, Overload, LateFlow, NeedTooOld, AskedTooOften}
use Rattle.j39_load.specs.declared.waits.delay.Delay.{Delay}
use Rattle.j39_load.specs.declared.waits.delay.Delay.TheVariants.{Beyond, Late, Long, Whole, Within}

no_value : {A : Type 0} (i : ℕ) (x : A) → slice_get [] i ≡ Some x → ⊥
no_value zero x at = cc
no_value (suc i) x at = cc

-- ---- lists of lines

-- what is reported at some place
pub record IsReportedAt {X Y : Type 0} (report : ℕ → X → List Y) (place : ℕ) (xs : List X) (line : Y) : Type 0 where
  pub k : ℕ
  pub value : X
  pub value_is : slice_get xs k ≡ Some value
  pub reported : Contains (report (place + k) value) line

pub reported_at : {X Y : Type 0} (report : ℕ → X → List Y) (place : ℕ) (xs : List X) (line : Y) → Contains (lines_of_each report place xs) line
    → IsReportedAt report place xs line
unfolding lines_of_each
reported_at report place [] line found = let none = found.1 in absurd (omega (arith, none))
reported_at report place (x ∷ xs) line found = elim (Contains-append_cases (report place x) (lines_of_each report (place + 1) xs) line found) [
  | inl here ↦
      let same : place ≡ place + 0 = omega arith in
      record { k = 0; value = x; value_is = refl; reported = subst (λ n. Contains (report n x) line) same here }
  | inr later ↦
      let its = reported_at report (place + 1) xs line later in
      let same : place + 1 + its.k ≡ place + suc its.k = omega arith in
      record { k = suc its.k; value = its.value; value_is = its.value_is; reported = subst (λ n. Contains (report n its.value) line) same its.reported }
]

pub line_reported : {X Y : Type 0} (report : ℕ → X → List Y) (place : ℕ) (xs : List X) (k : ℕ) (x : X) (line : Y) → slice_get xs k ≡ Some x
    → Contains (report (place + k) x) line → Contains (lines_of_each report place xs) line
unfolding lines_of_each
line_reported report place [] k x line at reported = absurd (no_value k x at)
line_reported report place (y ∷ ys) zero x line at reported =
    let same : place + 0 ≡ place = omega arith in
    let is_y : x ≡ y = sym (same_Some y x at) in
    Contains-append_left (report place y) (lines_of_each report (place + 1) ys) line
    (subst (λ z. Contains (report place z) line) is_y (subst (λ n. Contains (report n x) line) same reported))
line_reported report place (y ∷ ys) (suc k) x line at reported =
    let same : place + suc k ≡ place + 1 + k = omega arith in
    Contains-append_right (report place y) (lines_of_each report (place + 1) ys) line
    (line_reported report (place + 1) ys k x line at (subst (λ n. Contains (report n x) line) same reported))

pub one_of : {Y : Type 0} (x y : Y) → Contains (x ∷ []) y → x ≡ y
one_of x y (zero, below, is) = is
one_of x y (suc k, below, is) = absurd (omega (arith, below))

pub none_of : {Y : Type 0} (y : Y) → Contains [] y → ⊥
none_of y (k, below, is) = omega (arith, below)

pub itself : {Y : Type 0} (y : Y) → Contains (y ∷ []) y
itself y = (0, omega arith, refl)

-- ---- which finding it is

-- only a late flow is reported
pub of_late : (f : ℕ) (d : Option Delay) (finding : LoadFinding) → Contains (lateness f d) finding → finding ≡ LateFlow f
of_late f None finding found = absurd (none_of finding found)
of_late f (Some Late) finding found = sym (one_of (LateFlow f) finding found)
of_late f (Some (Beyond n)) finding found = sym (one_of (LateFlow f) finding found)
of_late f (Some (Within n)) finding found = absurd (none_of finding found)
of_late f (Some (Long n)) finding found = absurd (none_of finding found)
of_late f (Some (Whole w)) finding found = go (is_whole_late w) found
  where
    go : (b : Bool) → Contains (if b then LateFlow f ∷ [] else []) finding → finding ≡ LateFlow f
    go true reported = sym (one_of (LateFlow f) finding reported)
    go false reported = absurd (none_of finding reported)

pub of_unpaced : (f : ℕ) (d : Option Delay) (finding : LoadFinding) → Contains (without_period f d) finding → (d ≡ None) × (finding ≡ NoPeriod f)
of_unpaced f None finding found = (refl, sym (one_of (NoPeriod f) finding found))
of_unpaced f (Some d) finding found = absurd (none_of finding found)

pub of_overload : (timing : Timing) (load : ℕ) (finding : LoadFinding) → Contains (overload timing load) finding
    → (bits_of_second timing.bitrate < load) × (finding ≡ Overload load)
of_overload timing load finding found = go (nat_lt (bits_of_second timing.bitrate) load) refl found
  where
    go : (b : Bool) → nat_lt (bits_of_second timing.bitrate) load ≡ b → Contains (if b then Overload load ∷ [] else []) finding
        → (bits_of_second timing.bitrate < load) × (finding ≡ Overload load)
    go true above reported = (ltb-true (bits_of_second timing.bitrate) load above, sym (one_of (Overload load) finding reported))
    go false above reported = absurd (none_of finding reported)

-- what is reported of a need is that it is too old
pub of_old : (timing : Timing) (plan : Plan) (delays : List (Option Delay)) (finding : LoadFinding)
    → Contains (old_needs timing plan.requests.items plan.flows.items delays plan.needs.items) finding → (d : ℕ) × (finding ≡ NeedTooOld d)
of_old timing plan delays finding found =
    let its = reported_at (oldness timing plan.requests.items plan.flows.items delays) 0 plan.needs.items finding found in
    (0 + its.k, go (0 + its.k) its.value its.reported)
  where
    if_old : (k : ℕ) (b : Bool) → Contains (if b then NeedTooOld k ∷ [] else []) finding → finding ≡ NeedTooOld k
    if_old k true reported = sym (one_of (NeedTooOld k) finding reported)
    if_old k false reported = absurd (none_of finding reported)

    within : (k : ℕ) (F : ℕ → Bool) (o : Option ℕ) → Contains (option_map_or (λ n. if F n then NeedTooOld k ∷ [] else []) o []) finding → finding ≡ NeedTooOld k
    within k F None reported = absurd (none_of finding reported)
    within k F (Some n) reported = if_old k (F n) reported

    go : (k : ℕ) (need : NeedPlan) → Contains (oldness timing plan.requests.items plan.flows.items delays k need) finding → finding ≡ NeedTooOld k
    go k need reported = within k _ need.within reported

-- of a flow that answers, that it is asked for too often
pub of_asked : (requests : List RequestPlan) (flows : List FlowPlan) (finding : LoadFinding) → Contains (flows_asked_too_often requests flows) finding
    → (f : ℕ) × (flow : FlowPlan) × (slice_get flows f ≡ Some flow) × (is_asked_too_often requests flow ≡ true) × (finding ≡ AskedTooOften f)
of_asked requests flows finding found =
    let its = reported_at (too_often requests) 0 flows finding found in
    let zero_here : 0 + its.k ≡ its.k = omega arith in
    let is = go its.k (is_asked_too_often requests its.value) refl (subst (λ n. Contains (too_often requests n its.value) finding) zero_here its.reported) in
    (its.k, its.value, its.value_is, is.0, is.1)
  where
    go : (k : ℕ) (b : Bool) {c : Bool} → c ≡ b → Contains (if c then AskedTooOften k ∷ [] else []) finding → (c ≡ true) × (finding ≡ AskedTooOften k)
    go k true is reported = (is, sym (one_of (AskedTooOften k) finding (subst (λ c. Contains (if c then AskedTooOften k ∷ [] else []) finding) is reported)))
    go k false is reported = absurd (none_of finding (subst (λ c. Contains (if c then AskedTooOften k ∷ [] else []) finding) is reported))

pub asked_reported : (requests : List RequestPlan) (flows : List FlowPlan) (f : ℕ) (flow : FlowPlan) → slice_get flows f ≡ Some flow
    → is_asked_too_often requests flow ≡ true → Contains (flows_asked_too_often requests flows) (AskedTooOften f)
asked_reported requests flows f flow at is =
    let zero_there : f ≡ 0 + f = omega arith in
    line_reported (too_often requests) 0 flows f flow (AskedTooOften f) at
    (subst (λ n. Contains (too_often requests n flow) (AskedTooOften f)) zero_there
    (subst (λ b. Contains (if b then AskedTooOften f ∷ [] else []) (AskedTooOften f)) (sym is) (itself (AskedTooOften f))))
