-- What a need is for is no younger in a whole in which the same flows meet it and none is later.
use Rattle.std.proofs.Common.{◌≡◌, ℕ, zero, suc, ◌+◌, ◌*◌, ◌≤◌, min, Bool, true, false, not, if◌then◌else◌, List, [], ◌∷◌, slice_index_or, Contains, Option}
use Rattle.std.proofs.Common.{Some, None, refl, sym, ◌∙◌, ap, subst, inl, inr, arith}
use Rattle.std.specs.List.{slice_get}
use Rattle.std.specs.Option.{option_map_or}
use Rattle.std.proofs.lemmas.Bool.{and_from, and_parts, cases_Bool, cases_lt, false≢true, le-leb, leb-true}
use Rattle.std.proofs.Math.Nat.{mul-le-mul_right}
use Rattle.std.proofs.lemmas.List.{length-map}
use Rattle.std.proofs.lemmas.Option.{get_or_from_slice_get, same_Some, slice_get_within}
use Rattle.j39_findings.specs.Found.{is_unmet}
use Rattle.j39_network.specs.Serving.{meets}
use Rattle.j39_network.specs.declared.plan.Plan.{Plan}
use Rattle.j39_network.specs.declared.plan.flow_plan.FlowPlan.{FlowPlan}
use Rattle.j39_network.specs.declared.plan.need_plan.NeedPlan.{NeedPlan}
use Rattle.j39_network.specs.declared.plan.timing.Timing.{Timing}
use Rattle.j39_network.specs.declared.plan.unit_plan.UnitPlan.{UnitPlan}
use Rattle.j39_load.specs.Ages.{ages_for, ages_of, is_in_limit, is_too_old, least, least_age, smaller_known}
use Rattle.j39_load.specs.LineLists.{lines_of_each}
use Rattle.j39_load.specs.LoadFindings.{AsksOfBus}
use Rattle.j39_load.specs.Clocks.{bit_time, longest_million, million}
use Rattle.j39_load.specs.FlowLoads.{load_of_flow}
use Rattle.j39_load.specs.Loads.{us_of_bits, us_of_unit_ms}
use Rattle.j39_load.specs.declared.waits.delay.Delay.{Delay}
use Rattle.j39_load.specs.declared.waits.delay.Delay.TheVariants.{Beyond, Late, Long, Whole, Within}
use Rattle.j39_part_laws.specs.PartDelays.{IsNoLater}
use Rattle.j39_part_laws.specs.PartLoads.{counting, HasGoodNumbers}
use Rattle.j39_part_laws.specs.PlanParts.{IsPartAt, Places}
use Rattle.j39_part_laws.proofs.LoadFindings.{delay_there, line_reported, none_of, one_of, reported_at}
use Rattle.j39_part_laws.proofs.Places.{value_at}
use Rattle.j39_part_laws.proofs.Shares.{ceil-mono}

-- ---- the least of some numbers

pub least_some : (xs : List ℕ) (n : ℕ) → Contains xs n → (m : ℕ) × (least xs ≡ Some m) × (m ≤ n)
least_some [] n among = absurd (none_of n among)
least_some (x ∷ xs) n (zero, below, is) = by (least xs)
  where
    by : (o : Option ℕ) → (m : ℕ) × (smaller_known (Some x) o ≡ Some m) × (m ≤ n)
    by None = (x, refl, omega (arith, is))
    by (Some b) = (min x b, refl, omega (arith, is))
least_some (x ∷ xs) n (suc k, below, is) =
    let (m, is_m, less) = least_some xs n (k, omega (arith, below), is) in
    (min x m, ap (smaller_known (Some x)) is_m, omega (arith, less))

pub least_reported : (xs : List ℕ) (m : ℕ) → least xs ≡ Some m → Contains xs m
least_reported [] m none = cc
least_reported (x ∷ xs) m is = by (least xs) is (λ n reported. least_reported xs n reported)
  where
    later : (n : ℕ) → Contains xs n → Contains (x ∷ xs) n
    later n (k, below, its) = (suc k, omega (arith, below), its)

    by : (o : Option ℕ) → smaller_known (Some x) o ≡ Some m → ((n : ℕ) → o ≡ Some n → Contains xs n) → Contains (x ∷ xs) m
    by None reported rest = (0, omega arith, same_Some x m reported)
    by (Some b) reported rest =
        let is_m = same_Some (min x b) m reported in
        elim (cases_lt b x) [
          | inl less ↦ subst (Contains (x ∷ xs)) (let e : b ≡ m = omega (arith, less, is_m) in e) (later b (rest b refl))
          | inr from ↦ (0, omega arith, omega (arith, from, is_m))
        ]

-- ---- the age of what a flow brings

pub record IsAgeOf (timing : Timing) (flow : FlowPlan) (delay : Option Delay) (age : ℕ) : Type 0 where
  pub bits : ℕ
  pub within : delay ≡ Some (Within bits)
  pub by_itself : flow.on_request ≡ false
  pub pause : ℕ
  pub paused : flow.pause ≡ Some pause
  pub sum : us_of_unit_ms timing pause + us_of_bits timing bits ≡ age

age_of : (timing : Timing) (flow : FlowPlan) (delay : Option Delay) (age : ℕ) → Contains (ages_of timing flow delay) age → IsAgeOf timing flow delay age
age_of timing flow None age reported = absurd (none_of age reported)
age_of timing flow (Some Late) age reported = absurd (none_of age reported)
age_of timing flow (Some (Beyond n)) age reported = absurd (none_of age reported)
age_of timing flow (Some (Long n)) age reported = absurd (none_of age reported)
age_of timing flow (Some (Whole w)) age reported = absurd (none_of age reported)
age_of timing flow (Some (Within bits)) age reported = go flow.on_request flow.pause refl refl reported
  where
    go : (b : Bool) (o : Option ℕ) → flow.on_request ≡ b → flow.pause ≡ o
        → Contains (if b then [] else option_map_or (λ pause. (us_of_unit_ms timing pause + us_of_bits timing bits) ∷ []) o []) age
        → IsAgeOf timing flow (Some (Within bits)) age
    go true o only is_o none = absurd (none_of age none)
    go false None by_itself is_o none = absurd (none_of age none)
    go false (Some p) by_itself is_o one = record {
      bits = bits;
      within = refl;
      by_itself = by_itself;
      pause = p;
      paused = is_o;
      sum = one_of (us_of_unit_ms timing p + us_of_bits timing bits) age one;
    }

age_is : (timing : Timing) (flow : FlowPlan) (delay : Option Delay) (age : ℕ) → IsAgeOf timing flow delay age → Contains (ages_of timing flow delay) age
age_is timing flow delay age its =
    subst (λ d. Contains (ages_of timing flow d) age) (sym its.within)
    (subst (λ b. Contains (if b then [] else option_map_or (λ pause. (us_of_unit_ms timing pause + us_of_bits timing its.bits) ∷ []) flow.pause []) age)
    (sym its.by_itself)
    (subst (λ o. Contains (option_map_or (λ pause. (us_of_unit_ms timing pause + us_of_bits timing its.bits) ∷ []) o []) age) (sym its.paused)
    (0, omega arith, its.sum)))

bits_mono : (timing : Timing) (a b : ℕ) → a ≤ b → us_of_bits timing a ≤ us_of_bits timing b
bits_mono timing a b less =
    ceil-mono (a * bit_time timing.bitrate * longest_million timing) (b * bit_time timing.bitrate * longest_million timing) million million
    (mul-le-mul_right (longest_million timing) (mul-le-mul_right (bit_time timing.bitrate) less)) (omega arith) (omega arith)

-- ---- of a part and a whole

-- each flow of the whole that meets the need is one of the part that does
abbrev pub ComeFromPart : Places → Plan → Plan → NeedPlan → NeedPlan → Type 0
ComeFromPart at part whole need need_there = (j : ℕ) (y : FlowPlan) → slice_get whole.flows.items j ≡ Some y → meets whole.requests.items need_there y ≡ true
    → (i : ℕ) × (x : FlowPlan) × (slice_get part.flows.items i ≡ Some x) × (meets part.requests.items need x ≡ true) × (at.flow i ≡ j)

module _ (at : Places) (part whole : Plan) (is : IsPartAt at part whole) (good : HasGoodNumbers whole) (timing : Timing) (unplanned : ℕ)
    (range : unplanned ≤ 1000)
    (busier : timing.unplanned ≤ unplanned) (reported stays : UnitPlan → Bool) (ds es : List (Option Delay)) (here : AsksOfBus part timing reported ds)
    (there : AsksOfBus whole (counting timing unplanned range) stays es) (need need_there : NeedPlan) where
  abbrev busy : Timing
  busy = counting timing unplanned range

  module _ (come : ComeFromPart at part whole need need_there) where
    age_here : (j : ℕ) (y : FlowPlan) → slice_get whole.flows.items j ≡ Some y → (n : ℕ)
        → Contains (ages_for busy whole.requests.items es need_there j y) n
        → (m : ℕ) × Contains (lines_of_each (ages_for timing part.requests.items ds need) 0 part.flows.items) m × (m ≤ n)
    age_here j y at_j n among = go (meets whole.requests.items need_there y) refl among
      where
        go : (b : Bool) → meets whole.requests.items need_there y ≡ b → Contains (if b then ages_of busy y (slice_index_or es j None) else []) n
            → (m : ℕ) × Contains (lines_of_each (ages_for timing part.requests.items ds need) 0 part.flows.items) m × (m ≤ n)
        go false out none = absurd (none_of n none)
        go true met aged =
            let its = age_of busy y (slice_index_or es j None) n aged in
            let (i, x, at_x, met_x, same) = come j y at_j met in
            let below = slice_get_within part.flows.items i x at_x in
            let count = here.waits.count in
            let flows = length-map part.flows.items (load_of_flow timing part reported) in
            let (d, at_d) = value_at ds i (omega (arith, below, count, flows)) in
            let (e, at_e, no_later, inside) = delay_there at part whole is good timing unplanned range busier reported stays ds es here there i d at_d in
            let is_e : slice_index_or es j None ≡ e =
            get_or_from_slice_get es j e None (ap (slice_get es) (sym same) ∙ at_e) in
            let (a, is_a, less) : IsNoLater d (Some (Within its.bits)) = subst (IsNoLater d) (sym is_e ∙ its.within) no_later in
            let stands = is.flows.each i x at_x in
            let is_y : stands.value ≡ y = same_Some stands.value y (sym stands.value_is ∙ ap (slice_get whole.flows.items) same ∙ at_j) in
            let pause : x.pause ≡ Some its.pause = sym stands.meets.pause ∙ ap (λ (z : FlowPlan). z.pause) is_y ∙ its.paused in
            let by_itself : x.on_request ≡ false = sym stands.meets.on_request ∙ ap (λ (z : FlowPlan). z.on_request) is_y ∙ its.by_itself in
            let age = us_of_unit_ms timing its.pause + us_of_bits timing a in
            let fewer = bits_mono timing a its.bits less in
            let sum : us_of_unit_ms timing its.pause + us_of_bits timing its.bits ≡ n = its.sum in
            let delay_is : slice_index_or ds (0 + i) None ≡ d =
            ap (λ k. slice_index_or ds k None) (let e : 0 + i ≡ i = omega arith in e) ∙ get_or_from_slice_get ds i d None at_d in
            let reported_age : Contains (ages_of timing x (slice_index_or ds (0 + i) None)) age =
            subst (λ o. Contains (ages_of timing x o) age) (sym delay_is)
            (age_is timing x d age (record { bits = a; within = is_a; by_itself = by_itself; pause = its.pause; paused = pause; sum = refl })) in (
              age,
              line_reported (ages_for timing part.requests.items ds need) 0 part.flows.items i x age at_x
                  (subst (λ b. Contains (if b then ages_of timing x (slice_index_or ds (0 + i) None) else []) age) (sym met_x) reported_age),
              omega (arith, fewer, sum),
            )

    -- so it is no older in the part
    pub younger : (n : ℕ) → least_age busy whole.requests.items whole.flows.items es need_there ≡ Some n
        → (m : ℕ) × (least_age timing part.requests.items part.flows.items ds need ≡ Some m) × (m ≤ n)
    younger n is_n =
        let its = reported_at (ages_for busy whole.requests.items es need_there) 0 whole.flows.items n
        (least_reported (lines_of_each (ages_for busy whole.requests.items es need_there) 0 whole.flows.items) n is_n) in
        let reported_j = subst (λ k. Contains (ages_for busy whole.requests.items es need_there k its.value) n)
        (let e : 0 + its.k ≡ its.k = omega arith in e) its.reported in
        let (age, among, less) = age_here its.k its.value its.value_is n reported_j in
        let (m, is_m, fewer) = least_some (lines_of_each (ages_for timing part.requests.items ds need) 0 part.flows.items) age among in
        (m, is_m, omega (arith, less, fewer))

    in_limit : (limit : ℕ) → is_in_limit limit (least_age busy whole.requests.items whole.flows.items es need_there) ≡ true
        → is_in_limit limit (least_age timing part.requests.items part.flows.items ds need) ≡ true
    in_limit limit fits = go (least_age busy whole.requests.items whole.flows.items es need_there) refl fits
      where
        go : (o : Option ℕ) → least_age busy whole.requests.items whole.flows.items es need_there ≡ o → is_in_limit limit o ≡ true
            → is_in_limit limit (least_age timing part.requests.items part.flows.items ds need) ≡ true
        go None is_o none = absurd (false≢true none)
        go (Some n) is_o low =
            let (m, is_m, less) = younger n is_o in
            let at_most = leb-true n limit low in
            ap (is_in_limit limit) is_m ∙ le-leb m limit (omega (arith, less, at_most))

    -- and what is too old in the part is in the whole, where it is met there
    pub too_old_there : (within : ℕ) → (not (is_unmet part.requests.items part.flows.items need) ≡ true
        → not (is_unmet whole.requests.items whole.flows.items need_there) ≡ true)
        → is_too_old timing part.requests.items part.flows.items ds need within ≡ true
        → is_too_old busy whole.requests.items whole.flows.items es need_there within ≡ true
    too_old_there within met old =
        let limit = 1000 * within in
        let (some, late) = and_parts (not (is_unmet part.requests.items part.flows.items need))
        (not (is_in_limit limit (least_age timing part.requests.items part.flows.items ds need))) old in
        and_from _ _ (met some) (elim (cases_Bool (is_in_limit limit (least_age busy whole.requests.items whole.flows.items es need_there))) [
          | inr out ↦ ap not out
          | inl fits ↦ absurd (false≢true (sym (ap not (in_limit limit fits)) ∙ late))
        ])
