-- Two plans that report a NAME as one unit: the plan of a type, and that of a vehicle.
use Rattle.std.proofs.Common.{◌≡◌, ◌≢◌, ℕ, ◌<◌, ◌==◌, ◌&&◌, nat_lt, not, Bool, true, false, if◌then◌else◌, List, [], ◌∷◌, get_or, Option, Some, None, inl}
use Rattle.std.proofs.Common.{inr, refl, sym, ap, subst, ◌∙◌, arith, eqb-true, eq-eqb}
use Rattle.std.specs.List.{slice_get, position}
use Rattle.std.specs.Option.{option_eq, option_or}
use Rattle.std.proofs.Math.Pow.{shr_mono}
use Rattle.std.proofs.lemmas.Bool.{cases_Bool, cases_eq, cases_lt, false≢true, ne_eqb, eqb-false}
use Rattle.std.proofs.lemmas.Bool.Decides.{Decides-ltb}
use Rattle.std.proofs.lemmas.List.Quantifiers.{position-Some}
use Rattle.std.proofs.lemmas.Option.{none-some, same_Some, slice_get-get_or}
use Rattle.j39_network.specs.Kinds.{AreDistinctUnits, MayHaveName, kind_of_name}
use Rattle.j39_network.specs.VehiclePlans.{IsBoxOf, IsVehicleOf}
use Rattle.j39_network.specs.declared.plan.Plan.{Plan}
use Rattle.j39_network.specs.declared.plan.unit_plan.UnitPlan.{UnitPlan}
use Rattle.j39_network.proofs.Boxes.{apart_at}
use Rattle.j39_network.proofs.VehicleUnits.{AreBoth, both_at, boxes_apart, ordered, unit_of as unit_there}
use Rattle.j39_follow.specs.VehicleLogs.{IsOfVehicle}
use Rattle.j39_follow.specs.Who.{is_name_of, numbered_unit, unit_of_kind, unit_of_name}
use Rattle.j39_follow.proofs.Addresses.UnitNames.{names_are_of_their_units}

-- ---- numbers

pub less_reported : (m n : ℕ) → m < n → nat_lt m n ≡ true
less_reported m n less = (Decides-ltb m n).1 less

pub above_reported : (m n : ℕ) → n < m → nat_lt m n ≡ false
above_reported m n less = elim (cases_Bool (nat_lt m n)) [
  | inl below ↦ let h = (Decides-ltb m n).0 below in absurd (omega (arith, h, less))
  | inr is ↦ is
]

-- NAMEs of different kinds are ordered as these
kinds_ordered : (m n : ℕ) → kind_of_name m < kind_of_name n → m < n
kinds_ordered m n less = elim (cases_lt m n) [ inl is ↦ is | inr above ↦ let h = shr_mono 21 above in absurd (omega (arith, less, h)) ]

-- a box of a unit with a number has its NAME
own_name : (u b : UnitPlan) → IsBoxOf u b → u.any_identity ≡ false → u.name ≡ b.name
own_name u b box numbered = elim box.name.1 [ inl same ↦ same | inr any ↦ absurd (false≢true (sym numbered ∙ any)) ]

-- ---- plans

-- the units at one place of two plans
pub record AreAt (p q : Plan) (u : ℕ) (a b : UnitPlan) : Type 0 where
  pub first : slice_get p.units.items u ≡ Some a
  pub second : slice_get q.units.items u ≡ Some b

pub turned : (p q : Plan) (u : ℕ) (a b : UnitPlan) → AreAt q p u b a → AreAt p q u a b
turned p q u a b at = record { first = at.second; second = at.first }

-- both plans report alike of each NAME that meets G
pub record ReportAlike (G : ℕ → Type 0) (p q : Plan) : Type 0 where
  pub unit : (name : ℕ) → G name → unit_of_name p name ≡ unit_of_name q name
  pub there : (u : ℕ) (a : UnitPlan) → slice_get p.units.items u ≡ Some a → (b : UnitPlan) × AreAt p q u a b
  pub back : (u : ℕ) (b : UnitPlan) → slice_get q.units.items u ≡ Some b → (a : UnitPlan) × AreAt p q u a b
  pub own : (u : ℕ) (a b : UnitPlan) → AreAt p q u a b → unit_of_name p a.name ≡ Some u
  pub own_back : (u : ℕ) (a b : UnitPlan) → AreAt p q u a b → unit_of_name q b.name ≡ Some u
  pub names : (u : ℕ) (a b : UnitPlan) → AreAt p q u a b → (name : ℕ) → G name → is_name_of p u a name ≡ is_name_of q u b name
  pub address : (u : ℕ) (a b : UnitPlan) → AreAt p q u a b → a.address ≡ b.address
  pub label : (u : ℕ) (a b : UnitPlan) → AreAt p q u a b → a.label.bytes ≡ b.label.bytes
  pub order : (u v : ℕ) (a b c d : UnitPlan) → AreAt p q u a b → AreAt p q v c d → u ≢ v → nat_lt a.name c.name ≡ nat_lt b.name d.name
  pub against : (u : ℕ) (a b : UnitPlan) → AreAt p q u a b → (name : ℕ) → G name → unit_of_name p name ≢ Some u
      → nat_lt a.name name ≡ nat_lt b.name name
  pub groups : p.groups.items ≡ q.groups.items
  pub flows : p.flows.items ≡ q.flows.items
  pub needs : p.needs.items ≡ q.needs.items
  pub requests : p.requests.items ≡ q.requests.items

pub flip : (G : ℕ → Type 0) (p q : Plan) → ReportAlike G p q → ReportAlike G q p
flip G p q same = record {
  unit = λ name g. sym (same.unit name g);
  there = λ u b at. let found = same.back u b at in (found.0, turned q p u b found.0 found.1);
  back = λ u a at. let found = same.there u a at in (found.0, turned q p u found.0 a found.1);
  own = λ u b a at. same.own_back u a b (turned p q u a b at);
  own_back = λ u b a at. same.own u a b (turned p q u a b at);
  names = λ u b a at name g. sym (same.names u a b (turned p q u a b at) name g);
  address = λ u b a at. sym (same.address u a b (turned p q u a b at));
  label = λ u b a at. sym (same.label u a b (turned p q u a b at));
  order = λ u v b a d c first second other. sym (same.order u v a b c d (turned p q u a b first) (turned p q v c d second) other);
  against = λ u b a at name g other. sym (same.against u a b (turned p q u a b at) name g (λ is. other (sym (same.unit name g) ∙ is)));
  groups = sym same.groups;
  flows = sym same.flows;
  needs = sym same.needs;
  requests = sym same.requests;
}

-- ---- the unit of a NAME may have it

numbered_part : (a : UnitPlan) (name : ℕ) → (not a.any_identity && a.name == name) ≡ true → a.name ≡ name
numbered_part a name e = elim (cases_Bool a.any_identity) [
  | inl any ↦ absurd (false≢true (sym (ap (λ (b : Bool). not b && a.name == name) any) ∙ e))
  | inr number ↦ eqb-true a.name name (sym (ap (λ (b : Bool). not b && a.name == name) number) ∙ e)
]

kind_part : (a : UnitPlan) (name : ℕ) → (a.any_identity && kind_of_name a.name == kind_of_name name) ≡ true
    → (a.any_identity ≡ true) × (kind_of_name a.name ≡ kind_of_name name)
kind_part a name e = elim (cases_Bool a.any_identity) [
  | inl any ↦ (
    any,
    eqb-true (kind_of_name a.name) (kind_of_name name)
        (sym (ap (λ (b : Bool). b && kind_of_name a.name == kind_of_name name) any) ∙ e),
  )
  | inr number ↦ absurd (false≢true (sym (ap (λ (b : Bool). b && kind_of_name a.name == kind_of_name name) number) ∙ e))
]

-- a unit that is found by a test passes it
found_at : (test : UnitPlan → Bool) (units : List UnitPlan) (u : ℕ) → position test units ≡ Some u
    → (a : UnitPlan) × (slice_get units u ≡ Some a) × (test a ≡ true)
found_at test [] u e = absurd (none-some _ e)
found_at test (d ∷ units) u e =
    let found = position-Some test (d ∷ units) u d e in
    (get_or (d ∷ units) u d, slice_get-get_or (d ∷ units) u d found.0, found.1)

pub unit_may_have : (plan : Plan) (name u : ℕ) → unit_of_name plan name ≡ Some u
    → (a : UnitPlan) × (slice_get plan.units.items u ≡ Some a) × MayHaveName a name
unit_may_have plan name u e = go (numbered_unit plan name) refl e where
  go : (o : Option ℕ) → numbered_unit plan name ≡ o → option_or o (unit_of_kind plan name) ≡ Some u
      → (a : UnitPlan) × (slice_get plan.units.items u ≡ Some a) × MayHaveName a name
  go (Some v) numbered is =
      let found = found_at (λ (unit : UnitPlan). not unit.any_identity && unit.name == name) plan.units.items u (numbered ∙ is) in
      let same = numbered_part found.0 name found.2 in
      (found.0, found.1, (ap kind_of_name same, inl same))
  go None numbered is =
      let found = found_at (λ (unit : UnitPlan). unit.any_identity && kind_of_name unit.name == kind_of_name name) plan.units.items u is in
      let parts = kind_part found.0 name found.2 in
      (found.0, found.1, (parts.1, inr parts.0))

-- ---- a plan and the plan of a vehicle

module _ (plan vehicle : Plan) (is : IsVehicleOf plan vehicle) (apart : AreDistinctUnits plan) where
  abbrev Given : ℕ → Type 0
  Given = IsOfVehicle plan vehicle

  box_at : (u : ℕ) (a b : UnitPlan) → AreAt plan vehicle u a b → IsBoxOf a b
  box_at u a b at =
      let First : Option UnitPlan → Type 0 = λ o. AreBoth IsBoxOf o (slice_get vehicle.units.items u) in
      let Second : Option UnitPlan → Type 0 = λ o. AreBoth IsBoxOf (Some a) o in
      subst Second at.second (subst First at.first (both_at IsBoxOf plan.units.items vehicle.units.items is.boxes u))

  box_there : (u : ℕ) (a : UnitPlan) → slice_get plan.units.items u ≡ Some a → (b : UnitPlan) × AreAt plan vehicle u a b
  box_there u a at =
      go (slice_get plan.units.items u) (slice_get vehicle.units.items u) refl at (both_at IsBoxOf plan.units.items vehicle.units.items is.boxes u)
    where
      go : (o p : Option UnitPlan) → slice_get vehicle.units.items u ≡ p → o ≡ Some a → AreBoth IsBoxOf o p
          → (b : UnitPlan) × AreAt plan vehicle u a b
      go None p is_box is_unit both = absurd (none-some _ is_unit)
      go (Some c) None is_box is_unit both = absurd both
      go (Some c) (Some b) is_box is_unit both = (b, record { first = at; second = is_box })

  box_back : (u : ℕ) (b : UnitPlan) → slice_get vehicle.units.items u ≡ Some b → (a : UnitPlan) × AreAt plan vehicle u a b
  box_back u b at =
      let found = unit_there plan vehicle is apart u b at in
      (found.0, record { first = found.1; second = at })

  -- a box of the vehicle has the NAME that its unit may have
  has_name : (u : ℕ) (a b : UnitPlan) → AreAt plan vehicle u a b → (name : ℕ) → Given name → MayHaveName a name → b.name ≡ name
  has_name u a b at name given (kinds, inr any) = given u a b at.first at.second any kinds
  has_name u a b at name given (kinds, inl own) = elim (cases_Bool a.any_identity) [
    | inl any ↦ given u a b at.first at.second any kinds
    | inr number ↦ sym (own_name a b (box_at u a b at) number) ∙ own
  ]

  may_have : (u : ℕ) (a b : UnitPlan) → AreAt plan vehicle u a b → (name : ℕ) → b.name ≡ name → MayHaveName a name
  may_have u a b at name own = subst (λ (n : ℕ). MayHaveName a n) own (box_at u a b at).name

  unit_has : (u : ℕ) (a b : UnitPlan) → AreAt plan vehicle u a b → (name : ℕ) → b.name ≡ name → unit_of_name plan name ≡ Some u
  unit_has u a b at name own = names_are_of_their_units plan u a name apart at.first (may_have u a b at name own)

  box_has : (u : ℕ) (a b : UnitPlan) → AreAt plan vehicle u a b → (name : ℕ) → b.name ≡ name → unit_of_name vehicle name ≡ Some u
  box_has u a b at name own =
      names_are_of_their_units vehicle u b name (boxes_apart plan vehicle is apart) at.second (ap kind_of_name own, inl own)

  -- the box of the unit of a NAME has it
  unit_name : (u : ℕ) (a b : UnitPlan) → AreAt plan vehicle u a b → (name : ℕ) → Given name → unit_of_name plan name ≡ Some u → b.name ≡ name
  unit_name u a b at name given e =
      let found = unit_may_have plan name u e in
      let same : found.0 ≡ a = same_Some _ _ (sym found.1 ∙ at.first) in
      has_name u a b at name given (subst (λ (unit : UnitPlan). MayHaveName unit name) same found.2)

  box_name : (u : ℕ) (a b : UnitPlan) → AreAt plan vehicle u a b → (name : ℕ) → unit_of_name vehicle name ≡ Some u → b.name ≡ name
  box_name u a b at name e =
      let found = unit_may_have vehicle name u e in
      let same : found.0 ≡ b = same_Some _ _ (sym found.1 ∙ at.second) in
      let may : MayHaveName b name = subst (λ (unit : UnitPlan). MayHaveName unit name) same found.2 in
      elim may.1 [ inl own ↦ own | inr any ↦ absurd (false≢true (sym (box_at u a b at).number ∙ any)) ]

  -- the unit of a NAME in a vehicle's plan is that of the NAME in the plan
  pub unit_kept : (name u : ℕ) → unit_of_name vehicle name ≡ Some u → unit_of_name plan name ≡ Some u
  unit_kept name u e =
      let found = unit_may_have vehicle name u e in
      let there = box_back u found.0 found.1 in
      unit_has u there.0 found.0 there.1 name (box_name u there.0 found.0 there.1 name e)

  -- the NAME of a box is one of the vehicle
  pub of_box : (v : ℕ) (b : UnitPlan) → slice_get vehicle.units.items v ≡ Some b → Given b.name
  of_box v b at u unit box first second any kinds =
      let there = box_back v b at in
      elim (cases_eq u v) [
        | inl same ↦
            let one : box ≡ b = same_Some _ _ (sym second ∙ ap (slice_get vehicle.units.items) same ∙ at) in
            ap (λ (x : UnitPlan). x.name) one
        | inr differ ↦
            absurd (apart_at plan apart u v unit there.0 first there.1.first differ
            (kinds ∙ sym (box_at v there.0 b there.1).name.0, inr (inl any)))
      ]

  one_unit : (name : ℕ) → Given name → unit_of_name plan name ≡ unit_of_name vehicle name
  one_unit name given = go (unit_of_name plan name) (unit_of_name vehicle name) refl refl where
    go : (o p : Option ℕ) → unit_of_name plan name ≡ o → unit_of_name vehicle name ≡ p → unit_of_name plan name ≡ unit_of_name vehicle name
    go (Some u) p e f =
        let found = unit_may_have plan name u e in
        let there = box_there u found.0 found.1 in
        e ∙ sym (box_has u found.0 there.0 there.1 name (unit_name u found.0 there.0 there.1 name given e))
    go None (Some u) e f =
        let found = unit_may_have vehicle name u f in
        let there = box_back u found.0 found.1 in
        unit_has u there.0 found.0 there.1 name (box_name u there.0 found.0 there.1 name f) ∙ sym f
    go None None e f = e ∙ sym f

  same_names : (u : ℕ) (a b : UnitPlan) → AreAt plan vehicle u a b → (name : ℕ) → Given name → is_name_of plan u a name ≡ is_name_of vehicle u b name
  same_names u a b at name given = elim (cases_Bool (b.name == name)) [
    | inl same ↦ own (eqb-true b.name name same) ∙ sym (boxed ∙ same)
    | inr other ↦ strange (eqb-false b.name name other) ∙ sym (boxed ∙ other)
  ] where
    box : IsBoxOf a b
    box = box_at u a b at

    boxed : is_name_of vehicle u b name ≡ (b.name == name)
    boxed = ap (λ (t : Bool). if t then option_eq (λ m n. m == n) (unit_of_name vehicle name) (Some u) else b.name == name) box.number

    any_of : a.any_identity ≡ true → is_name_of plan u a name ≡ option_eq (λ m n. m == n) (unit_of_name plan name) (Some u)
    any_of any = ap (λ (t : Bool). if t then option_eq (λ m n. m == n) (unit_of_name plan name) (Some u) else a.name == name) any

    number_of : a.any_identity ≡ false → is_name_of plan u a name ≡ (a.name == name)
    number_of number = ap (λ (t : Bool). if t then option_eq (λ m n. m == n) (unit_of_name plan name) (Some u) else a.name == name) number

    own : b.name ≡ name → is_name_of plan u a name ≡ true
    own same = elim (cases_Bool a.any_identity) [
      | inl any ↦ any_of any ∙ ap (λ (o : Option ℕ). option_eq (λ m n. m == n) o (Some u)) (unit_has u a b at name same) ∙ eq-eqb u u refl
      | inr number ↦ number_of number ∙ eq-eqb a.name name (own_name a b box number ∙ same)
    ]

    another : (o : Option ℕ) → unit_of_name plan name ≡ o → b.name ≢ name → option_eq (λ m n. m == n) o (Some u) ≡ false
    another None e differ = refl
    another (Some v) e differ = ne_eqb v u (λ same. differ (unit_name u a b at name given (e ∙ ap Some same)))

    strange : b.name ≢ name → is_name_of plan u a name ≡ false
    strange differ = elim (cases_Bool a.any_identity) [
      | inl any ↦ any_of any ∙ another (unit_of_name plan name) refl differ
      | inr number ↦ number_of number ∙ ne_eqb a.name name (λ same. differ (sym (own_name a b box number) ∙ same))
    ]

  same_against : (u : ℕ) (a b : UnitPlan) → AreAt plan vehicle u a b → (name : ℕ) → Given name → unit_of_name plan name ≢ Some u
      → nat_lt a.name name ≡ nat_lt b.name name
  same_against u a b at name given other = elim (cases_lt (kind_of_name a.name) (kind_of_name name)) [
    | inl below ↦
        let boxed : kind_of_name b.name < kind_of_name name = omega (arith, below, kinds) in
        less_reported _ _ (kinds_ordered a.name name below) ∙ sym (less_reported _ _ (kinds_ordered b.name name boxed))
    | inr least ↦ elim (cases_lt (kind_of_name name) (kind_of_name a.name)) [
      | inl above ↦
          let boxed : kind_of_name name < kind_of_name b.name = omega (arith, above, kinds) in
          above_reported _ _ (kinds_ordered name a.name above) ∙ sym (above_reported _ _ (kinds_ordered name b.name boxed))
      | inr most ↦ elim (cases_Bool a.any_identity) [
        | inl any ↦
            let same : kind_of_name a.name ≡ kind_of_name name = omega (arith, least, most) in
            absurd (other (unit_has u a b at name (given u a b at.first at.second any same)))
        | inr number ↦ ap (λ (n : ℕ). nat_lt n name) (own_name a b box number)
      ]
    ]
  ] where
    box : IsBoxOf a b
    box = box_at u a b at

    kinds : kind_of_name a.name ≡ kind_of_name b.name
    kinds = box.name.0

  pub report_alike : ReportAlike Given plan vehicle
  report_alike = record {
    unit = one_unit;
    there = box_there;
    back = box_back;
    own = λ u a b at. names_are_of_their_units plan u a a.name apart at.first (refl, inl refl);
    own_back = λ u a b at. box_has u a b at b.name refl;
    names = same_names;
    address = λ u a b at. sym (box_at u a b at).address;
    label = λ u a b at. sym (box_at u a b at).label;
    order = λ u v a b c d first second other.
        sym (ordered plan vehicle is apart u v a c b d first.first second.first (box_at u a b first) (box_at v c d second) other).order;
    against = same_against;
    groups = sym is.groups;
    flows = sym is.flows;
    needs = sym is.needs;
    requests = sym is.requests;
  }
