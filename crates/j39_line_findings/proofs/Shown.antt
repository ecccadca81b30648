-- What is there in a variant is what its lists let in, where they name only choices of the line.
use Rattle.std.specs.declared.alloc.Global.{Global}
use Rattle.std.proofs.Common.{◌≡◌, ℕ, Bool, true, false, not, ◌&&◌, ◌==◌, nat_lt, List, [], ◌∷◌, Option, Some, None, Vec, length, inl, inr, refl, sym, ◌∙◌, ap}
use Rattle.std.proofs.Common.{arith}
use Rattle.std.specs.List.{list_any, slice_get}
use Rattle.std.specs.Option.{option_map_or}
use Rattle.std.proofs.lemmas.Bool.{and_from, and_parts, cases_Bool, eq-eqb, eqb-true, false≢true, lt-ltb, ltb-true, or_cases, or_left, or_right}
use Rattle.std.proofs.lemmas.Option.{same_Some, slice_get_within}
use Rattle.j39_network.specs.declared.plan.flow_plan.FlowPlan.{FlowPlan}
use Rattle.j39_network.specs.declared.plan.need_plan.NeedPlan.{NeedPlan}
use Rattle.j39_network.specs.declared.plan.request_plan.RequestPlan.{RequestPlan}
use Rattle.j39_network.specs.declared.plan.to.To.{To}
use Rattle.j39_network.specs.declared.plan.to.To.TheVariants.{All, One}
use Rattle.j39_variants.specs.declared.line.Alternative.{Alternative}
use Rattle.j39_variants.specs.declared.line.ProductLine.{ProductLine}
use Rattle.j39_variants.specs.Variants.{IsVariant, is_in, takes_alternative}
use Rattle.j39_line_findings.specs.Boxes.{group_admits, is_one_alternative, admits, admits_at, part_admits, receiver_admits, unit_admits}
use Rattle.j39_line_findings.specs.Conditions.{are_there, is_part_there}
use Rattle.j39_line_findings.specs.FullVariants.{alternative_at}
use Rattle.j39_line_findings.specs.MissedNeeds.{is_group_there, is_in_at, is_unit_there}
use Rattle.j39_line_findings.specs.There.{is_receiver_there}
use Rattle.j39_line_findings.specs.declared.part.LinePart.{LinePart}
use Rattle.j39_line_findings.specs.declared.part.LinePart.TheVariants.{Unit as AUnit, Group, Flow, Need, Request}
use Rattle.j39_line_findings.specs.KnownParts.{names_known_choices, do_all_admit, is_group_known, is_list_known, is_list_known_at, is_part_known}
use Rattle.j39_line_findings.specs.KnownParts.{is_receiver_known, is_unit_known}
use Rattle.j39_line_findings.proofs.Tests.{all_at, at_all, at_any, any_at, value_inside}

-- each alternative that the variant takes passes the test
abbrev pub Passes : (Alternative → Bool) → List ℕ → Type 0
Passes test v = (c p : ℕ) → slice_get v c ≡ Some p → test (alternative_at c p) ≡ true

-- ---- a list

-- the place that is taken of the choice of an alternative that is taken
pub place_taken : (v : List ℕ) (b : Alternative) → takes_alternative v b ≡ true → slice_get v b.choice ≡ Some b.place
place_taken v b takes = go (slice_get v b.choice) refl takes
  where
    go : (o : Option ℕ) → slice_get v b.choice ≡ o → option_map_or (λ place. place == b.place) o false ≡ true → slice_get v b.choice ≡ Some b.place
    go None is_o never = absurd (false≢true never)
    go (Some p) is_o same = is_o ∙ ap Some (eqb-true p b.place same)

-- an alternative of the list that the variant takes, of the choice of one of the list
record IsTakenBeside (v : List ℕ) (list : List Alternative) (c : ℕ) : Type 0 where
  i : ℕ
  taken : Alternative
  stands : slice_get list i ≡ Some taken
  of_choice : taken.choice ≡ c
  is_taken : slice_get v c ≡ Some taken.place

taken_beside : (v : List ℕ) (list : List Alternative) → is_in v list ≡ true → (i : ℕ) (a : Alternative) → slice_get list i ≡ Some a
    → IsTakenBeside v list a.choice
taken_beside v list inside i a at =
    let its = any_at (λ b. (b.choice == a.choice) && takes_alternative v b) list
    (all_at (λ a. list_any (λ b. (b.choice == a.choice) && takes_alternative v b) list) list inside i a at) in
    let b = its.value in
    let (same, takes) = and_parts (b.choice == a.choice) (takes_alternative v b) its.passes in
    let choice : b.choice ≡ a.choice = eqb-true b.choice a.choice same in
    record { i = its.i; taken = b; stands = its.value_is; of_choice = choice; is_taken = ap (slice_get v) (sym choice) ∙ place_taken v b takes }

module _ (line : ProductLine) (v : List ℕ) (is : IsVariant line.choices.items v) where
  in_known : (list : List Alternative) → is_in v list ≡ true → is_list_known line list ≡ true
  in_known list inside = at_all (λ a. nat_lt a.choice (length line.choices.items)) list (λ i a at.
      let its = taken_beside v list inside i a at in
      let less = slice_get_within v a.choice its.taken.place its.is_taken in
      let same = is.of_each in
      lt-ltb a.choice (length line.choices.items) (omega (arith, less, same)))

  in_passes : (list : List Alternative) → is_in v list ≡ true → Passes (admits list) v
  in_passes list inside c p at = elim (cases_Bool (list_any (λ b. b.choice == c) list)) [
    | inl named ↦
        let a = any_at (λ b. b.choice == c) list named in
        let of_c : a.value.choice ≡ c = eqb-true a.value.choice c a.passes in
        let its = taken_beside v list inside a.i a.value a.value_is in
        let place : its.taken.place ≡ p = same_Some its.taken.place p (sym its.is_taken ∙ ap (slice_get v) of_c ∙ at) in
        or_right (not (list_any (λ b. b.choice == c) list)) (list_any (λ b. is_one_alternative b (alternative_at c p)) list)
        (at_any (λ b. is_one_alternative b (alternative_at c p)) list its.i its.taken its.stands
        (and_from (its.taken.choice == c) (its.taken.place == p) (eq-eqb its.taken.choice c (its.of_choice ∙ of_c)) (eq-eqb its.taken.place p place)))
    | inr none ↦ or_left (not (list_any (λ b. b.choice == c) list)) (list_any (λ b. is_one_alternative b (alternative_at c p)) list) (ap not none)
  ]

  passes_in : (list : List Alternative) → is_list_known line list ≡ true → Passes (admits list) v → is_in v list ≡ true
  passes_in list known passes = at_all (λ a. list_any (λ b. (b.choice == a.choice) && takes_alternative v b) list) list (λ i a at.
      let less = ltb-true a.choice (length line.choices.items) (all_at (λ a. nat_lt a.choice (length line.choices.items)) list known i a at) in
      let same = is.of_each in
      let (p, taken) = value_inside v a.choice (omega (arith, less, same)) in
      let named : list_any (λ b. b.choice == a.choice) list ≡ true = at_any (λ b. b.choice == a.choice) list i a at (eq-eqb a.choice a.choice refl) in
      elim (or_cases (not (list_any (λ b. b.choice == a.choice) list)) (list_any (λ b. is_one_alternative b (alternative_at a.choice p)) list)
      (passes a.choice p taken)) [
        | inl none ↦ absurd (false≢true (sym (ap not named) ∙ none))
        | inr some ↦
            let its = any_at (λ b. is_one_alternative b (alternative_at a.choice p)) list some in
            let d = its.value in
            let (one_choice, one_place) = and_parts (d.choice == a.choice) (d.place == p) its.passes in
            let choice : d.choice ≡ a.choice = eqb-true d.choice a.choice one_choice in
            let takes : takes_alternative v d ≡ true =
            ap (λ o. option_map_or (λ place. place == d.place) o false) (ap (slice_get v) choice ∙ taken) ∙ eq-eqb p d.place
            (sym (eqb-true d.place p one_place)) in
            at_any (λ b. (b.choice == a.choice) && takes_alternative v b) list its.i d its.value_is
            (and_from (d.choice == a.choice) (takes_alternative v d) one_choice takes)
      ])

  -- ---- what is there is known, and let in

  pub record IsShown (there known : Bool) (lets : Alternative → Bool) : Type 0 where
    pub known_so : there ≡ true → known ≡ true
    pub passes_so : there ≡ true → Passes lets v
    pub there_so : known ≡ true → Passes lets v → there ≡ true

  shown_always : IsShown true true (λ a. true)
  shown_always = record { known_so = λ e. refl; passes_so = λ e c p at. refl; there_so = λ e passes. refl }

  shown_never : (lets : Alternative → Bool) → IsShown false false lets
  shown_never lets = record { known_so = λ e. e; passes_so = λ e. absurd (false≢true e); there_so = λ e passes. e }

  shown_both : (t k u m : Bool) (l n : Alternative → Bool) → IsShown t k l → IsShown u m n → IsShown (t && u) (k && m) (λ a. l a && n a)
  shown_both t k u m l n one other = record {
    known_so = λ both. let parts = and_parts t u both in and_from k m (one.known_so parts.0) (other.known_so parts.1);
    passes_so = λ both c p at.
        let parts = and_parts t u both in
        and_from (l (alternative_at c p)) (n (alternative_at c p)) (one.passes_so parts.0 c p at) (other.passes_so parts.1 c p at);
    there_so = λ both passes.
        let parts = and_parts k m both in
        and_from t u
        (one.there_so parts.0 (λ c p at. (and_parts (l (alternative_at c p)) (n (alternative_at c p)) (passes c p at)).0))
        (other.there_so parts.1 (λ c p at. (and_parts (l (alternative_at c p)) (n (alternative_at c p)) (passes c p at)).1));
  }

  pub list_shown : (list : List Alternative) → IsShown (is_in v list) (is_list_known line list) (admits list)
  list_shown list = record { known_so = in_known list; passes_so = in_passes list; there_so = passes_in list }

  list_shown_at : (lists : List (Vec Alternative Global)) (i : ℕ) → IsShown (is_in_at v lists i) (is_list_known_at line lists i) (λ a. admits_at lists a i)
  list_shown_at lists i = go (slice_get lists i)
    where
      go : (o : Option (Vec Alternative Global)) → IsShown (option_map_or (λ list. is_in v list.items) o false)
          (option_map_or (λ list. is_list_known line list.items) o false) (λ a. option_map_or (λ list. admits list.items a) o true)
      go None = shown_never (λ a. true)
      go (Some list) = list_shown list.items

  unit_shown : (u : ℕ) → IsShown (is_unit_there line v u) (is_unit_known line u) (λ a. unit_admits line a u)
  unit_shown u = list_shown_at line.lists.units.items u

  group_shown : (g : ℕ) → IsShown (is_group_there line v g) (is_group_known line g) (λ a. group_admits line a g)
  group_shown g = list_shown_at line.lists.groups.items g

  receiver_shown : (to : To) → IsShown (is_receiver_there line v to) (is_receiver_known line to) (λ a. receiver_admits line a to)
  receiver_shown All = shown_always
  receiver_shown (One u) = unit_shown u

  -- what stands at a place, where something does
  shown_some : {X : Type 0} (t k : X → Bool) (l : X → Alternative → Bool) → ((x : X) → IsShown (t x) (k x) (l x)) → (o : Option X)
      → IsShown (option_map_or t o false) (option_map_or k o false) (λ a. option_map_or (λ x. l x a) o true)
  shown_some t k l each None = shown_never (λ a. true)
  shown_some t k l each (Some x) = each x

  -- what names its group, its sender and its receiver
  shown_named : (t k : Bool) (l : Alternative → Bool) → IsShown t k l → (g s : ℕ) (to : To)
      → IsShown (t && (is_group_there line v g && (is_unit_there line v s && is_receiver_there line v to)))
      (k && (is_group_known line g && (is_unit_known line s && is_receiver_known line to)))
      (λ a. l a && (group_admits line a g && (unit_admits line a s && receiver_admits line a to)))
  shown_named t k l own g s to = shown_both _ _ _ _ _ _ own
      (shown_both _ _ _ _ _ _ (group_shown g) (shown_both _ _ _ _ _ _ (unit_shown s) (receiver_shown to)))

  pub part_shown : (part : LinePart) → IsShown (is_part_there line v part) (is_part_known line part) (λ a. part_admits line a part)
  part_shown (AUnit u) = unit_shown u
  part_shown (Group g) = group_shown g
  part_shown (Flow f) = shown_some _ _ _ (λ (flow : FlowPlan). shown_named _ _ _ (list_shown_at line.lists.flows.items f) flow.group flow.sender flow.to)
      (slice_get line.plan.flows.items f)
  part_shown (Need d) = shown_some _ _ _ (λ (need : NeedPlan). shown_both _ _ _ _ _ _ (list_shown_at line.lists.needs.items d) (unit_shown need.unit))
      (slice_get line.plan.needs.items d)
  part_shown (Request r) = shown_some _ _ _ (λ (request : RequestPlan). shown_named _ _ _
      (list_shown_at line.lists.requests.items r) request.group request.sender request.to)
      (slice_get line.plan.requests.items r)

  pub parts_shown : (parts : List LinePart) → IsShown (are_there line v parts) (names_known_choices line parts) (do_all_admit line parts)
  parts_shown [] = shown_always
  parts_shown (part ∷ parts) = shown_both _ _ _ _ _ _ (part_shown part) (parts_shown parts)
