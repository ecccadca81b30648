-- Units that come beside a live plan without findings, and that disturb no end of a flow: with them it is without findings too.
use Rattle.std.proofs.Common.{◌≡◌, ◌≢◌, ◌⊎◌, ℕ, zero, suc, ◌+◌, ◌<◌, ◌≤◌, arith, List, [], ◌∷◌, ◌++◌, length, All, refl, sym, ap, ◌∙◌, subst, inl, inr, Some}
use Rattle.std.proofs.lemmas.Bool.{cases_lt, true≢false}
use Rattle.std.proofs.lemmas.List.{length-append, length-map}
use Rattle.std.proofs.lemmas.Option.{get_or_from_slice_get, slice_get_within}
use Rattle.std.specs.FinSet.{FinSet, contains, contains-empty, empty}
use Rattle.std.specs.List.{count_by, slice_get}
use Rattle.std.specs.Ordering.{nat_cmp}
use Rattle.j39_id.specs.Addresses.{in_pool}
use Rattle.j39_id.specs.Name.{is_arbitrary}
use Rattle.j39_claim.specs.AddressSets.{free_count}
use Rattle.j39_claim.specs.ClaimRule.{PlannedUnit}
use Rattle.j39_findings.proofs.CleanLaws.{parts_of}
use Rattle.j39_findings.proofs.Deciding.{Decides-needs_pool_address}
use Rattle.j39_search.proofs.Deciding.{meeting_pass}
use Rattle.j39_findings.specs.Findings.{AreNeeded, AskTheSame, CannotGoToOne, Clean, EndsOutside, GoesToItsSender, GoesUnanswered, GoesUnheard}
use Rattle.j39_network.specs.PlannedFlows.{AreOneFlow}
use Rattle.j39_findings.specs.Findings.{HasBadPgn}
use Rattle.j39_findings.specs.Findings.{HasRecordsOver, HaveSamePgn, HaveSameFixedAddress, HaveSilentAddress, IsAloneInPlan, IsAnsweredAstray, IsFlowContested}
use Rattle.j39_findings.specs.Findings.{IsOutside}
use Rattle.j39_findings.specs.Findings.{IsPrivateUnsent, IsSilentInPool, IsUnmet, PrefersKept}
use Rattle.j39_network.specs.PlannedGroups.{IsSelectorInside}
use Rattle.j39_findings.specs.Found.{needs_pool_address}
use Rattle.j39_search.specs.ListPlaces.{PairAt, ValueAt}
use Rattle.j39_findings.specs.declared.checking.finding.Finding.TheVariants as found
use Rattle.j39_network.specs.declared.plan.Plan.{Plan}
use Rattle.j39_network.specs.declared.plan.flow_plan.FlowPlan.{FlowPlan}
use Rattle.j39_network.specs.declared.plan.group_plan.GroupPlan.{GroupPlan}
use Rattle.j39_network.specs.declared.plan.need_plan.NeedPlan.{NeedPlan}
use Rattle.j39_network.specs.declared.plan.request_plan.RequestPlan.{RequestPlan}
use Rattle.j39_network.specs.declared.plan.to.To.TheVariants.{One}
use Rattle.j39_network.specs.declared.plan.unit_plan.UnitPlan.{UnitPlan}
use Rattle.j39_signal.specs.Places.{SharesBit, WidthFits}
use Rattle.j39_network.specs.PlannedUnits.{planned_unit, units_of, unit_at}
use Rattle.j39_network.specs.Staying.{IsOutsidePool}
use Rattle.j39_world.specs.Strangers.{ComeBesideLive, ComesClaiming, ComesSilent}
use Rattle.j39_run_laws.proofs.Addresses.CleanUnits.{stands}
use Rattle.j39_run_laws.proofs.Addresses.Strangers.{room_for_few, same_at}

-- a place of the first list is one of both
first_at : {A : Type 0} (xs ys : List A) (i : ℕ) → i < length xs → slice_get (xs ++ ys) i ≡ slice_get xs i
first_at [] ys i inside = absurd (omega arith)
first_at (x ∷ xs) ys zero inside = refl
first_at (x ∷ xs) ys (suc i) inside = first_at xs ys i (omega arith)

module _ (plan joined : Plan) (ss : List UnitPlan) (clean : Clean plan) (come : ComeBesideLive plan joined ss) where
  abbrev planned : List UnitPlan
  planned = plan.units.items

  -- ---- all that is the plan's

  -- what is said of groups, flows, needs and requests alone
  same : (P : List GroupPlan → List FlowPlan → List NeedPlan → List RequestPlan → Type 0)
      → P joined.groups.items joined.flows.items joined.needs.items joined.requests.items
      → P plan.groups.items plan.flows.items plan.needs.items plan.requests.items
  same P here =
      let e : P joined.groups.items joined.flows.items joined.needs.items joined.requests.items
      ≡ P plan.groups.items plan.flows.items plan.needs.items plan.requests.items =
      λ i. P (come.groups i) (come.flows i) (come.needs i) (come.requests i) in
      subst (λ (X : Type 0). X) e here

  -- ---- units by their places

  unit_here : (i : ℕ) → i < length planned → (p : UnitPlan) → slice_get joined.units.items i ≡ Some p → slice_get planned i ≡ Some p
  unit_here i inside p is = sym (first_at planned ss i inside) ∙ sym (ap (λ (xs : List UnitPlan). slice_get xs i) come.behind) ∙ is

  at : (i : ℕ) (p : UnitPlan) → slice_get joined.units.items i ≡ Some p
      → (i < length joined.units.items) × (unit_at (units_of joined) i ≡ planned_unit joined.keep_free p)
  at i p is = stands joined.keep_free joined.units.items i p is

  in_units : (i : ℕ) → i < length joined.units.items → i < length (units_of joined)
  in_units i inside = omega (arith, inside, length-map joined.units.items (planned_unit joined.keep_free))

  preferring : (u : ℕ) → u < length planned → (unit_at (units_of joined) u).preferred ≡ (unit_at (units_of plan) u).preferred
  preferring u inside = rw come.behind ((same_at joined.keep_free plan.keep_free planned ss u inside).1)

  -- what holds of two units holds of two that are planned, or the second one has come
  second_came : (R : UnitPlan → UnitPlan → Type 0) (i k : ℕ) → (PairAt R planned i k → ⊥)
      → ((x : PairAt R joined.units.items i k) → ComesClaiming joined k ⊎ ComesSilent joined k → ⊥) → PairAt R joined.units.items i k → ⊥
  second_came R i k never came x = elim (cases_lt k (length planned)) [
    | inl inside ↦
        let below = x.below in
        never (record {
          first = x.first;
          second = x.second;
          below = x.below;
          first_is = unit_here i (omega (arith, below, inside)) x.first x.first_is;
          second_is = unit_here k inside x.second x.second_is;
          related = x.related;
        })
    | inr past ↦ came x (come.each k past (at k x.second x.second_is).0)
  ]

  -- both as units that claim
  module _ (R : UnitPlan → UnitPlan → Type 0) (i k : ℕ) (x : PairAt R joined.units.items i k) where
    first_unit : unit_at (units_of joined) i ≡ planned_unit joined.keep_free x.first
    first_unit = (at i x.first x.first_is).1

    second_unit : unit_at (units_of joined) k ≡ planned_unit joined.keep_free x.second
    second_unit = (at k x.second x.second_is).1

    in_first : i < length (units_of joined)
    in_first = in_units i (at i x.first x.first_is).0

    apart : k ≢ i
    apart is = (let below = x.below in omega (arith, below, is))

    one_address : x.first.address ≡ x.second.address → (unit_at (units_of joined) i).preferred ≡ (unit_at (units_of joined) k).preferred
    one_address is = ap (λ (c : PlannedUnit). c.preferred) first_unit ∙ is ∙ sym (ap (λ (c : PlannedUnit). c.preferred) second_unit)

  none_fixed : (i k : ℕ) → PairAt HaveSameFixedAddress joined.units.items i k → ⊥
  none_fixed i k = second_came HaveSameFixedAddress i k (clean (found.SameFixedAddress i k)) came
    where
      came : (x : PairAt HaveSameFixedAddress joined.units.items i k) → ComesClaiming joined k ⊎ ComesSilent joined k → ⊥
      came x (inl claims) =
          claims.fixed (ap (λ (c : PlannedUnit). is_arbitrary c.name) (second_unit HaveSameFixedAddress i k x) ∙ x.related.1) i
          (in_first HaveSameFixedAddress i k x) (apart HaveSameFixedAddress i k x)
          (ap (λ (c : PlannedUnit). is_arbitrary c.name) (first_unit HaveSameFixedAddress i k x) ∙ x.related.0)
          (one_address HaveSameFixedAddress i k x x.related.2)
      came x (inr silent) =
          true≢false (sym x.related.4 ∙ sym (ap (λ (c : PlannedUnit). c.claims) (second_unit HaveSameFixedAddress i k x)) ∙ silent.silent)

  none_silent : (i k : ℕ) → PairAt HaveSilentAddress joined.units.items i k → ⊥
  none_silent i k = second_came HaveSilentAddress i k (clean (found.SilentAddress i k)) came
    where
      came : (x : PairAt HaveSilentAddress joined.units.items i k) → ComesClaiming joined k ⊎ ComesSilent joined k → ⊥
      came x (inl claims) = elim x.related.1 [
        | inl first ↦
            claims.silent i (in_first HaveSilentAddress i k x) (apart HaveSilentAddress i k x)
            (ap (λ (c : PlannedUnit). c.claims) (first_unit HaveSilentAddress i k x) ∙ first) (one_address HaveSilentAddress i k x x.related.0)
        | inr second ↦
            true≢false (sym claims.claims ∙ ap (λ (c : PlannedUnit). c.claims) (second_unit HaveSilentAddress i k x) ∙ second)
      ]
      came x (inr silent) =
          silent.other i (in_first HaveSilentAddress i k x) (apart HaveSilentAddress i k x) (one_address HaveSilentAddress i k x x.related.0)

  -- ---- where units may move to

  room : count_by (needs_pool_address joined.keep_free) joined.units.items ≤ free_count joined.keep_free
  room =
      let (m, many, most) = come.few in
      let few : m ≡ count_by (needs_pool_address empty) ss = meeting_pass (Decides-needs_pool_address empty) ss m many in
      rw (come.behind, come.unaware) (room_for_few plan clean ss (omega (arith, few, most)))

  none_lacks : (n : ℕ) → AreNeeded joined n × (free_count joined.keep_free < n) → ⊥
  none_lacks n ((m, many, is), few) =
      let same_count = meeting_pass (Decides-needs_pool_address joined.keep_free) joined.units.items m many in
      let none = come.no_more in
      absurd (omega (arith, same_count, is, none, few, room))

  none_keeps : (i : ℕ) → ValueAt (PrefersKept joined.keep_free) joined.units.items i → ⊥
  none_keeps i x =
      true≢false (sym x.meets.1 ∙ ap (λ (s : FinSet nat_cmp). contains s x.value.address) come.unaware ∙ contains-empty nat_cmp x.value.address)

  none_in_pool : (i : ℕ) → ValueAt (IsSilentInPool joined.keep_free joined.strangers) joined.units.items i → ⊥
  none_in_pool i x = elim (cases_lt i (length planned)) [
    | inl inside ↦ clean (found.SilentInPool i) (record {
      value = x.value;
      value_is = unit_here i inside x.value x.value_is;
      meets = (x.meets.0, x.meets.1, inr come.stated);
    })
    | inr past ↦
        let (in_i, is) = at i x.value x.value_is in
        elim (come.each i past in_i) [
          | inl claims ↦ true≢false (sym claims.claims ∙ ap (λ (c : PlannedUnit). c.claims) is ∙ x.meets.0)
          | inr silent ↦ true≢false (sym x.meets.1 ∙ sym (ap (λ (c : PlannedUnit). in_pool c.preferred) is) ∙ silent.outside)
        ]
  ]

  -- ---- ends of flows

  -- one that is alone is so beside those that come
  alone_still : (u : ℕ) → IsAloneInPlan plan u
      → ((v : ℕ) → ComesClaiming joined v → (unit_at (units_of joined) v).preferred ≢ (unit_at (units_of joined) u).preferred) → IsAloneInPlan joined u
  alone_still u (alone, known) none_claims =
      let in_plan : u < length planned = (let inside = alone.inside in omega (arith, inside, length-map planned (planned_unit plan.keep_free))) in
      let outside : IsOutsidePool (units_of plan) u = elim known [
        | inl none ↦ (let stated = come.stated in absurd (omega (arith, none, stated)))
        | inr is ↦ is
      ] in
      let count : length joined.units.items ≡ length planned + length ss = ap length come.behind ∙ length-append planned ss in
      let all : length (units_of joined) ≡ length joined.units.items = length-map joined.units.items (planned_unit joined.keep_free) in
      let own : length (units_of plan) ≡ length planned = length-map planned (planned_unit plan.keep_free) in
      let inside_now : u < length (units_of joined) = omega (arith, in_plan, count, all) in (
        record {
          inside = inside_now;
          planned = λ v in_v other. elim (cases_lt v (length planned)) [
            | inl here ↦ λ is. alone.planned v (omega (arith, here, own)) other (sym (preferring v here) ∙ is ∙ preferring u in_plan)
            | inr past ↦ elim (come.each v past (omega (arith, in_v, all))) [
              | inl claims ↦ none_claims v claims
              | inr silent ↦ λ is. silent.other u inside_now (λ e. other (sym e)) (sym is)
            ]
          ];
          unreached = inl (ap in_pool (preferring u in_plan) ∙ outside);
        },
        inl come.no_more,
      )

  flow_at : (P : FlowPlan → Type 0) → All P plan.flows.items → (f : ℕ) (flow : FlowPlan) → slice_get plan.flows.items f ≡ Some flow → P flow
  flow_at P all f flow is = subst P (get_or_from_slice_get plan.flows.items f flow flow is) (all f flow (slice_get_within plan.flows.items f flow is))

  none_contested : (f : ℕ) → ValueAt (IsFlowContested joined) joined.flows.items f → ⊥
  none_contested f x =
      let is : slice_get plan.flows.items f ≡ Some x.value = sym (ap (λ (fs : List FlowPlan). slice_get fs f) come.flows) ∙ x.value_is in
      elim x.meets.1 [
        | inl sender ↦
            sender (alone_still x.value.sender (flow_at (λ y. IsAloneInPlan plan y.sender) ((parts_of plan clean).senders_alone come.live) f x.value is)
            (λ v claims same_address. claims.sender f x.value x.value_is (sym same_address)))
        | inr (r, to, receiver) ↦
            receiver (alone_still r (flow_at (λ y. (v : ℕ) → y.to ≡ One v → IsAloneInPlan plan v)
            ((parts_of plan clean).receivers_alone come.live) f x.value is r to)
            (λ v claims same_address. claims.receiver f x.value r x.value_is to (sym same_address)))
      ]

  -- ---- no finding

  pub clean_beside_live : Clean joined
  clean_beside_live (found.SameName i k) = come.apart i k
  clean_beside_live (found.SameFixedAddress i k) = none_fixed i k
  clean_beside_live (found.TooFewAddresses n) = none_lacks n
  clean_beside_live (found.BadPgn g) = λ x. clean (found.BadPgn g) (same (λ gs fs ns rs. ValueAt HasBadPgn gs g) x)
  clean_beside_live (found.SamePgn g h) = λ x. clean (found.SamePgn g h) (same (λ gs fs ns rs. PairAt (HaveSamePgn gs fs) gs g h) x)
  clean_beside_live (found.SignalWidth g s) = λ x. clean (found.SignalWidth g s)
      (same (λ gs fs ns rs. ValueAt (λ group. ValueAt (λ signal. ¬ WidthFits signal) group.signals.items s) gs g) x)
  clean_beside_live (found.SignalOutside g s) = λ x. clean (found.SignalOutside g s)
      (same (λ gs fs ns rs. ValueAt (λ group. ValueAt (EndsOutside group) group.signals.items s) gs g) x)
  clean_beside_live (found.SignalOverlap g s t) = λ x. clean (found.SignalOverlap g s t)
      (same (λ gs fs ns rs. ValueAt (λ group. PairAt SharesBit group.signals.items s t) gs g) x)
  clean_beside_live (found.FlowToOne f) = λ x. clean (found.FlowToOne f) (same (λ gs fs ns rs. ValueAt (CannotGoToOne gs) fs f) x)
  clean_beside_live (found.FlowToSelf f) = λ x. clean (found.FlowToSelf f) (same (λ gs fs ns rs. ValueAt GoesToItsSender fs f) x)
  clean_beside_live (found.FlowRepeated f h) = λ x. clean (found.FlowRepeated f h) (same (λ gs fs ns rs. PairAt AreOneFlow fs f h) x)
  clean_beside_live (found.KeptAddress i) = none_keeps i
  clean_beside_live (found.PrivateUnsent g) = λ x. clean (found.PrivateUnsent g) (same (λ gs fs ns rs. ValueAt (IsPrivateUnsent gs fs) gs g) x)
  clean_beside_live (found.RecordOverlap g s t) = λ x. clean (found.RecordOverlap g s t)
      (same (λ gs fs ns rs. ValueAt (λ group. HasRecordsOver group s t) gs g) x)
  clean_beside_live (found.TextOutside g t) = λ x. clean (found.TextOutside g t)
      (same (λ gs fs ns rs. ValueAt (λ group. ValueAt (IsOutside group) group.texts.items t) gs g) x)
  clean_beside_live (found.NeedUnmet n) = λ x. clean (found.NeedUnmet n) (same (λ gs fs ns rs. ValueAt (IsUnmet rs fs) ns n) x)
  clean_beside_live (found.RequestUnanswered r) = λ x. clean (found.RequestUnanswered r) (same (λ gs fs ns rs. ValueAt (GoesUnanswered fs) rs r) x)
  clean_beside_live (found.RequestUnheard r) = λ x. clean (found.RequestUnheard r) (same (λ gs fs ns rs. ValueAt (GoesUnheard fs) rs r) x)
  clean_beside_live (found.AnswerAstray r) = λ x. clean (found.AnswerAstray r) (same (λ gs fs ns rs. ValueAt (IsAnsweredAstray gs fs) rs r) x)
  clean_beside_live (found.WhenOutside g) = λ x. clean (found.WhenOutside g) (same (λ gs fs ns rs. ValueAt (λ group. ¬ IsSelectorInside group) gs g) x)
  clean_beside_live (found.RequestRepeated r s) = λ x. clean (found.RequestRepeated r s) (same (λ gs fs ns rs. PairAt (AskTheSame gs) rs r s) x)
  clean_beside_live (found.SilentAddress i k) = none_silent i k
  clean_beside_live (found.SilentInPool i) = none_in_pool i
  clean_beside_live (found.FlowContested f) = none_contested f
