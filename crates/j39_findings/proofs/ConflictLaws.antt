-- The run of a conflict is given exactly where there is one.
use Rattle.std.proofs.Common.{◌≡◌, ◌≢◌, ℕ, ◌<◌, ◌⊎◌, Bool, true, false, if◌then◌else◌, nat_lt, List, Option, Some, None, Decides, refl, sym, ◌∙◌, inl, inr}
use Rattle.std.proofs.Common.{arith}
use Rattle.std.specs.List.{slice_get}
use Rattle.std.proofs.lemmas.Bool.{cases_Bool}
use Rattle.std.proofs.lemmas.Bool.Decides.{Decides-and, Decides-not, Decides-ltb, not_from_Decides}
use Rattle.std.proofs.lemmas.Option.{same_Some}
use Rattle.j39_network.specs.declared.plan.Plan.{Plan}
use Rattle.j39_network.specs.declared.plan.unit_plan.UnitPlan.{UnitPlan}
use Rattle.j39_findings.specs.declared.checking.finding.Finding.{Finding}
use Rattle.j39_findings.specs.declared.checking.finding.Finding.TheVariants.{SameName, SameFixedAddress, TooFewAddresses, BadPgn, SamePgn, SignalWidth}
use Rattle.j39_findings.specs.declared.checking.finding.Finding.TheVariants.{SignalOutside, SignalOverlap, FlowToOne, FlowToSelf, FlowRepeated, KeptAddress}
use Rattle.j39_findings.specs.declared.checking.finding.Finding.TheVariants.{PrivateUnsent, RecordOverlap, TextOutside, NeedUnmet, RequestUnanswered}
use Rattle.j39_findings.specs.declared.checking.finding.Finding.TheVariants.{RequestUnheard, AnswerAstray, WhenOutside, RequestRepeated, SilentAddress}
use Rattle.j39_findings.specs.declared.checking.finding.Finding.TheVariants.{SilentInPool, FlowContested}
use Rattle.j39_network.specs.declared.steps.Step.{Step}
use Rattle.j39_network.specs.Kinds.{MayBeOne}
use Rattle.j39_findings.specs.Findings.{HaveSameFixedAddress}
use Rattle.j39_findings.specs.ConflictRuns.{conflict_steps, AreInConflict, IsOfConflict, IsConflictRun, are_in_conflict, steps_between, run_of_units}
use Rattle.j39_findings.specs.ConflictRuns.{run_of_places, conflict_run, RunsAreExact}
use Rattle.j39_findings.proofs.Deciding.{Decides-have_same_fixed_address}
use Rattle.j39_network.proofs.Served.{Decides-may_be_one}
use Rattle.j39_network.proofs.Boxes.{names_apart}

conflict_decides : (u v : UnitPlan) → Decides (are_in_conflict u v) (HaveSameFixedAddress u v × (¬ MayBeOne u v))
unfolding are_in_conflict
conflict_decides u v = Decides-and _ _ (Decides-have_same_fixed_address u v) (Decides-not _ (Decides-may_be_one u v))

some_of_if : {A : Type 0} (b : Bool) (x y : A) → (if b then Some x else None) ≡ Some y → (b ≡ true) × (x ≡ y)
some_of_if true x y e = (refl, same_Some _ _ e)
some_of_if false x y e = cc

-- which unit comes first
larger_of : (i j : ℕ) (u v : UnitPlan) → u.name ≢ v.name
    → ((v.name < u.name) × (steps_between i j u v ≡ conflict_steps i j)) ⊎ ((u.name < v.name) × (steps_between i j u v ≡ conflict_steps j i))
unfolding steps_between
larger_of i j u v other = elim (cases_Bool (nat_lt u.name v.name)) [
  | inl below ↦ inr ((Decides-ltb u.name v.name).0 below, rw below refl)
  | inr above ↦ let h = not_from_Decides (nat_lt u.name v.name) (Decides-ltb u.name v.name) above in inl (omega (arith, h), rw above refl)
]

run_of : (plan : Plan) (i j : ℕ) (u v : UnitPlan) (steps : List Step) → slice_get plan.units.items i ≡ Some u → slice_get plan.units.items j ≡ Some v
    → i < j
    → HaveSameFixedAddress u v × (¬ MayBeOne u v) → steps_between i j u v ≡ steps → IsConflictRun plan (SameFixedAddress i j) steps
run_of plan i j u v steps first second below apart is =
    let both : AreInConflict plan i j = record { first = u; second = v; below = below; first_is = first; second_is = second; related = apart } in
    let states : IsOfConflict plan (SameFixedAddress i j) = (i, j, refl, both) in
    elim (larger_of i j u v (names_apart u v apart.1)) [
      | inl (above, e) ↦ record {
        states = states;
        larger = i;
        smaller = j;
        both = inl refl;
        order = record { one = u; other = v; one_is = first; other_is = second; above = above };
        steps_are = sym is ∙ e;
      }
      | inr (above, e) ↦ record {
        states = states;
        larger = j;
        smaller = i;
        both = inr refl;
        order = record { one = v; other = u; one_is = second; other_is = first; above = above };
        steps_are = sym is ∙ e;
      }
    ]

units_sound : (plan : Plan) (i j : ℕ) (u v : Option UnitPlan) (steps : List Step) → slice_get plan.units.items i ≡ u
    → slice_get plan.units.items j ≡ v → i < j
    → run_of_units i j u v ≡ Some steps → IsConflictRun plan (SameFixedAddress i j) steps
unfolding run_of_units
units_sound plan i j None v steps first second below is = cc
units_sound plan i j (Some u) None steps first second below is = cc
units_sound plan i j (Some u) (Some v) steps first second below is =
    let h = some_of_if (are_in_conflict u v) (steps_between i j u v) steps is in
    run_of plan i j u v steps first second below ((conflict_decides u v).0 h.0) h.1

below_of_if : {A : Type 0} (b : Bool) (o : Option A) (y : A) → (if b then o else None) ≡ Some y → (b ≡ true) × (o ≡ Some y)
below_of_if true o y e = (refl, e)
below_of_if false o y e = cc

places_sound : (plan : Plan) (i j : ℕ) (steps : List Step) → run_of_places plan i j ≡ Some steps → IsConflictRun plan (SameFixedAddress i j) steps
unfolding run_of_places
places_sound plan i j steps is =
    let h = below_of_if (nat_lt i j) _ steps is in
    units_sound plan i j _ _ steps refl refl ((Decides-ltb i j).0 h.0) h.1

sound : (plan : Plan) (finding : Finding) (steps : List Step) → conflict_run plan finding ≡ Some steps → IsConflictRun plan finding steps
unfolding conflict_run
sound plan (SameName i j) steps is = cc
sound plan (SameFixedAddress i j) steps is = places_sound plan i j steps is
sound plan (TooFewAddresses n) steps is = cc
sound plan (BadPgn g) steps is = cc
sound plan (SamePgn g h) steps is = cc
sound plan (SignalWidth g s) steps is = cc
sound plan (SignalOutside g s) steps is = cc
sound plan (SignalOverlap g s t) steps is = cc
sound plan (FlowToOne f) steps is = cc
sound plan (FlowToSelf f) steps is = cc
sound plan (FlowRepeated f h) steps is = cc
sound plan (KeptAddress i) steps is = cc
sound plan (PrivateUnsent g) steps is = cc
sound plan (RecordOverlap g s t) steps is = cc
sound plan (TextOutside g t) steps is = cc
sound plan (NeedUnmet n) steps is = cc
sound plan (RequestUnanswered r) steps is = cc
sound plan (RequestUnheard r) steps is = cc
sound plan (AnswerAstray r) steps is = cc
sound plan (WhenOutside g) steps is = cc
sound plan (RequestRepeated r s) steps is = cc
sound plan (SilentAddress u v) steps is = cc
sound plan (SilentInPool u) steps is = cc
sound plan (FlowContested f) steps is = cc

given : (plan : Plan) (i j : ℕ) (u v : UnitPlan) → slice_get plan.units.items i ≡ Some u → slice_get plan.units.items j ≡ Some v → i < j
    → HaveSameFixedAddress u v × (¬ MayBeOne u v) → run_of_places plan i j ≡ Some (steps_between i j u v)
unfolding run_of_places run_of_units
given plan i j u v first second below apart =
    let less = (Decides-ltb i j).1 below in
    let conflict = (conflict_decides u v).1 apart in
    rw (less, first, second, conflict) refl

complete : (plan : Plan) (finding : Finding) → IsOfConflict plan finding → conflict_run plan finding ≢ None
unfolding conflict_run
complete plan finding (i, j, is, pair) = λ none.
    let run = given plan i j pair.first pair.second pair.first_is pair.second_is pair.below pair.related in
    let none_there : run_of_places plan i j ≡ None = rw is at none in
    cc

pub runs_are_exact : (plan : Plan) (finding : Finding) → RunsAreExact plan finding
runs_are_exact plan finding = record { sound = sound plan finding; complete = complete plan finding }
