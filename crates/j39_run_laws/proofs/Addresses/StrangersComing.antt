-- Beside the units of a plan that has strangers as many of them can come, up to the limit of units: with NAMEs, labels and addresses of their own.
use Rattle.std.proofs.Common.{◌≡◌, ◌≢◌, ℕ, zero, suc, ◌+◌, ◌-◌, ◌*◌, ◌/◌, ◌%◌, ◌^◌, ◌<◌, ◌≤◌, Bool, true, false, not, ◌&&◌, eqb, leb, ltb, List, [], ◌∷◌, ◌++◌}
use Rattle.std.proofs.Common.{length, map, All, AllPairs, refl, sym, ap, ◌∙◌, subst, append-nil, inl, inr, arith, None}
use Rattle.std.proofs.lemmas.Bool.{and_from, cases_lt, eq-eqb, eqb-false, le-leb, lt-ltb, ltb-true, or_left, or_parts, true≢false}
use Rattle.std.proofs.lemmas.List.{append_assoc, length-append, length-map}
use Rattle.std.proofs.lemmas.List.Elements.{All-append, All-cons, All-nil}
use Rattle.std.proofs.lemmas.List.Kept.{AllPairs-cons}
use Rattle.std.specs.FinSet.{FinSet, contains-empty, empty}
use Rattle.std.specs.Ordering.{nat_cmp}
use Rattle.j39_id.specs.Limits.{unit_limit}
use Rattle.j39_id.specs.Name.{is_arbitrary}
use Rattle.j39_id.specs.LabelForm.{is_label, is_label_byte, is_unit_label}
use Rattle.j39_network.specs.declared.plan.Plan.{Plan}
use Rattle.j39_network.specs.declared.plan.queue.Queue.TheVariants.{Priority}
use Rattle.j39_network.specs.declared.plan.unit_plan.UnitPlan.{UnitPlan}
use Rattle.j39_network.specs.declared.plan.way.Way.TheVariants.{Lowest}
use Rattle.j39_world.specs.Opening.{AreNamesDistinct}
use Rattle.j39_network.specs.PlannedUnits.{planned_unit, unit_at, units_of}
use Rattle.j39_world.specs.Strangers.{HasStrangers}
use Rattle.j39_run_laws.proofs.Addresses.FreeAddress.{has, passing, spare}
use Rattle.j39_run_laws.proofs.Addresses.Strangers.{same_at, same_but_kept}

-- ---- what none of the units has

passing_all : (p : ℕ → Bool) (k n : ℕ) → ((j : ℕ) → k ≤ j → j < k + n → p j ≡ true) → passing p k n ≡ n
passing_all p k zero all = refl
passing_all p k (suc n) all =
    rw (all k (omega arith) (omega arith))
    (omega (arith, passing_all p (k + 1) n (λ j above below. all j (omega (arith, above)) (omega (arith, below)))))

none_of : (f : UnitPlan → ℕ) (b : ℕ) (units : List UnitPlan) → has b (map f units) ≡ false → All (λ u. f u ≢ b) units
none_of f b [] none = All-nil (λ u. f u ≢ b)
none_of f b (u ∷ units) none =
    let parts = or_parts (eqb b (f u)) (has b (map f units)) none in
    All-cons (λ x. f x ≢ b) u units (λ same. eqb-false b (f u) parts.0 (sym same)) (none_of f b units parts.1)

-- of more numbers than there are units one is left
left_over : (f : UnitPlan → ℕ) (units : List UnitPlan) (k n : ℕ) → length units < n → (b : ℕ) × (k ≤ b) × (b < k + n) × All (λ u. f u ≢ b) units
left_over f units k n few =
    let all = passing_all (λ b. ltb b (k + n)) k n (λ j above below. lt-ltb j (k + n) below) in
    let size = length-map units f in
    let (b, above, passes, none) = spare (λ b. ltb b (k + n)) k n (map f units) (omega (arith, all, size, few)) in
    (b, above, ltb-true b (k + n) passes, none_of f b units none)

-- ---- labels of two letters

abbrev letters : ℕ → List ℕ
letters a = (65 + a % 16) ∷ (65 + a / 16) ∷ []

abbrev number_of : List ℕ → ℕ
number_of (x ∷ y ∷ []) = (x - 65) + 16 * (y - 65)
number_of _ = 0

number_back : (a : ℕ) → number_of (letters a) ≡ a
number_back a = omega arith

letter : (m : ℕ) → m ≤ 25 → is_label_byte (65 + m) ≡ true
letter m few = or_left _ _ (and_from (leb 65 (65 + m)) (leb (65 + m) 90) (le-leb 65 (65 + m) (omega arith)) (le-leb (65 + m) 90 (omega (arith, few))))

not_three : (a b : Bool) → not (a && (b && false)) ≡ true
not_three true true = refl
not_three true false = refl
not_three false b = refl

is_label_of : (a : ℕ) → a < 128 → is_unit_label (letters a) ≡ true
is_label_of a few =
    let low : a % 16 ≤ 25 = omega arith in
    let high : a / 16 ≤ 25 = omega (arith, few) in
    and_from (is_label (letters a)) _
    (and_from (is_label_byte (65 + a % 16)) (is_label_byte (65 + a / 16) && true) (letter (a % 16) low)
    (and_from (is_label_byte (65 + a / 16)) true (letter (a / 16) high) refl))
    (not_three (eqb (65 + a % 16) 97) (eqb (65 + a / 16) 108))

-- ---- a stranger

above_half : (b : ℕ) → 2 ^ 63 ≤ b → b < 2 ^ 63 + 128 → is_arbitrary b ≡ true
above_half b least most = let one : b / 2 ^ 63 % 2 ≡ 1 = omega (arith, least, most) in eq-eqb _ 1 one

record IsNew (units planned : List UnitPlan) : Type 0 where
  unit : UnitPlan
  claims : unit.claims ≡ true
  choose : is_arbitrary unit.name ≡ true
  label : All (λ u. u.label.bytes ≢ unit.label.bytes) units
  name : All (λ u. u.name ≢ unit.name) units
  apart : All (λ u. u.claims ≡ false → u.address ≢ unit.address) planned

one_new : (units planned : List UnitPlan) → length units < 128 → length planned < 128 → IsNew units planned
one_new units planned few few_planned =
    let (a, a_least, a_most, none_there) = left_over (λ u. u.address) planned 0 128 few_planned in
    let (n, n_least, n_most, none_named) = left_over (λ u. u.name) units (2 ^ 63) 128 few in
    let (l, l_least, l_most, none_labelled) = left_over (λ u. number_of u.label.bytes) units 0 128 few in
    record {
      unit = record {
        label = record { bytes = letters l; spare = [] };
        address = a;
        name = n;
        any_identity = false;
        way = Lowest;
        window = 1;
        queue = Priority;
        claims = true;
        label_form = is_label_of l l_most;
        address_range = omega (arith, a_most);
        name_range = omega (arith, n_most);
        number_absent = λ any. absurd (true≢false (sym any));
        window_positive = omega arith;
        window_range = omega arith;
        silent_stays = λ silent. absurd (true≢false silent);
      };
      claims = refl;
      choose = above_half n n_least n_most;
      label = λ i d inside same. none_labelled i d inside (ap number_of same ∙ number_back l);
      name = none_named;
      apart = λ i d inside silent. none_there i d inside;
    }

-- ---- behind the others

module _ {A : Type 0} (R : A → A → Type 0) where
  pairs_and_one : (xs : List A) (x : A) → AllPairs R xs → All (λ y. R y x) xs → AllPairs R (xs ++ x ∷ [])
  pairs_and_one [] x pairs all = λ i j d below inside. absurd (omega (arith, below, inside))
  pairs_and_one (y ∷ xs) x pairs all =
      AllPairs-cons R y (xs ++ x ∷ [])
      (All-append (R y) xs (x ∷ []) (λ i d inside. pairs 0 (suc i) d (omega arith) (omega (arith, inside)))
      (All-cons (R y) x [] (all 0 y (omega arith)) (All-nil (R y))))
      (pairs_and_one xs x (λ i j d below inside. pairs (suc i) (suc j) d (omega (arith, below)) (omega (arith, inside)))
      (λ i d inside. all (suc i) d (omega (arith, inside))))

abbrev kept : FinSet nat_cmp
kept = empty {R = nat_cmp}

abbrev name_at : List UnitPlan → ℕ → ℕ
name_at units u = (unit_at (map (planned_unit kept) units) u).name

last_name : (units : List UnitPlan) (s : UnitPlan) → name_at (units ++ s ∷ []) (length units) ≡ s.name
last_name [] s = refl
last_name (u ∷ units) s = last_name units s

other_name : (units : List UnitPlan) (s : UnitPlan) → All (λ u. u.name ≢ s.name) units → (i : ℕ) → i < length units → name_at units i ≢ s.name
other_name [] s all i inside = absurd (omega (arith, inside))
other_name (u ∷ units) s all zero inside = all 0 u (omega arith)
other_name (u ∷ units) s all (suc i) inside =
    other_name units s (λ j d less. all (suc j) d (omega (arith, less))) i (omega (arith, inside))

names_and_one : (units : List UnitPlan) (s : UnitPlan) → AreNamesDistinct (map (planned_unit kept) units) → All (λ u. u.name ≢ s.name) units
    → AreNamesDistinct (map (planned_unit kept) (units ++ s ∷ []))
names_and_one units s names all i j one =
    let size : length (map (planned_unit kept) (units ++ s ∷ [])) ≡ length units + 1 =
    length-map (units ++ s ∷ []) (planned_unit kept) ∙ length-append units (s ∷ []) in
    let below = one.below in
    let inside = one.inside in
    let first : name_at (units ++ s ∷ []) i ≡ name_at units i = (same_at kept kept units (s ∷ []) i (omega (arith, below, inside, size))).0 in
    elim (cases_lt j (length units)) [
      | inl less ↦ names i j (record {
        below = below;
        inside = omega (arith, less, length-map units (planned_unit kept));
        same = sym first ∙ (one.same ∙ (same_at kept kept units (s ∷ []) j less).0);
      })
      | inr more ↦
          let last : j ≡ length units = omega (arith, more, inside, size) in
          other_name units s all i (omega (arith, below, last))
          (sym first ∙ (one.same ∙ (ap (name_at (units ++ s ∷ [])) last ∙ last_name units s)))
    ]

-- ---- as many as one likes

module _ (plan : Plan) (names : AreNamesDistinct (units_of plan)) where
  record AreBeside (k : ℕ) : Type 0 where
    strangers : List UnitPlan
    size : length strangers ≡ k
    claim : All (λ s. s.claims ≡ true) strangers
    choose : All (λ s. is_arbitrary s.name ≡ true) strangers
    apart : All (λ s. All (λ u. u.claims ≡ false → u.address ≢ s.address) plan.units.items) strangers
    labels : AllPairs (λ u w. u.label.bytes ≢ w.label.bytes) (plan.units.items ++ strangers)
    named : AreNamesDistinct (map (planned_unit kept) (plan.units.items ++ strangers))

  named_first : AreNamesDistinct (map (planned_unit kept) plan.units.items)
  named_first i j one = names i j (record {
    below = one.below;
    inside = let inside = one.inside in
        omega (arith, inside, length-map plan.units.items (planned_unit kept), length-map plan.units.items (planned_unit plan.keep_free));
    same = sym (same_but_kept kept plan.keep_free plan.units.items i).0
        ∙ (one.same ∙ (same_but_kept kept plan.keep_free plan.units.items j).0);
  })

  beside : (k : ℕ) → length plan.units.items + k ≤ 128 → AreBeside k
  beside zero few = record {
    strangers = [];
    size = refl;
    claim = All-nil (λ s. s.claims ≡ true);
    choose = All-nil (λ s. is_arbitrary s.name ≡ true);
    apart = All-nil (λ s. All (λ u. u.claims ≡ false → u.address ≢ s.address) plan.units.items);
    labels = subst (AllPairs (λ u w. u.label.bytes ≢ w.label.bytes)) (sym (append-nil plan.units.items)) plan.unit_labels;
    named = subst (λ (us : List UnitPlan). AreNamesDistinct (map (planned_unit kept) us)) (sym (append-nil plan.units.items)) named_first;
  }
  beside (suc k) few =
      let old : AreBeside k = beside k (omega (arith, few)) in
      let all : List UnitPlan = plan.units.items ++ old.strangers in
      let count : length all ≡ length plan.units.items + length old.strangers = length-append plan.units.items old.strangers in
      let size = old.size in
      let s : IsNew all plan.units.items = one_new all plan.units.items (omega (arith, count, size, few)) (omega (arith, few)) in
      let again : all ++ s.unit ∷ [] ≡ plan.units.items ++ (old.strangers ++ s.unit ∷ []) = append_assoc plan.units.items old.strangers (s.unit ∷ []) in
      record {
        strangers = old.strangers ++ s.unit ∷ [];
        size = (let more = length-append old.strangers (s.unit ∷ []) in omega (arith, more, size));
        claim = All-append (λ x. x.claims ≡ true) old.strangers (s.unit ∷ []) old.claim
            (All-cons (λ x. x.claims ≡ true) s.unit [] s.claims (All-nil (λ x. x.claims ≡ true)));
        choose = All-append (λ x. is_arbitrary x.name ≡ true) old.strangers (s.unit ∷ []) old.choose
            (All-cons (λ x. is_arbitrary x.name ≡ true) s.unit [] s.choose (All-nil (λ x. is_arbitrary x.name ≡ true)));
        apart = All-append (λ x. All (λ u. u.claims ≡ false → u.address ≢ x.address) plan.units.items) old.strangers (s.unit ∷ []) old.apart
            (All-cons (λ x. All (λ u. u.claims ≡ false → u.address ≢ x.address) plan.units.items) s.unit [] s.apart
            (All-nil (λ x. All (λ u. u.claims ≡ false → u.address ≢ x.address) plan.units.items)));
        labels = subst (AllPairs (λ u w. u.label.bytes ≢ w.label.bytes)) again
            (pairs_and_one (λ u w. u.label.bytes ≢ w.label.bytes) all s.unit old.labels s.label);
        named = subst (λ (us : List UnitPlan). AreNamesDistinct (map (planned_unit kept) us)) again (names_and_one all s.unit old.named s.name);
      }

  -- the plan of all of them, without groups and what needs them
  joined : (k : ℕ) → length plan.units.items + k ≤ 128 → AreBeside k → Plan
  joined k few all = record {
    keep_free = kept;
    strangers = 0;
    live = plan.live;
    timing = None;
    units = record plan.units {
      items = plan.units.items ++ all.strangers;
      len = length (plan.units.items ++ all.strangers);
      cap = length (plan.units.items ++ all.strangers);
      ok = (refl, omega arith);
      small = (let count = length-append plan.units.items all.strangers in let size = all.size in omega (arith, count, size, few));
    };
    groups = record plan.groups { items = []; len = 0; ok = (refl, omega arith) };
    flows = record plan.flows { items = []; len = 0; ok = (refl, omega arith) };
    needs = record plan.needs { items = []; len = 0; ok = (refl, omega arith) };
    requests = record plan.requests { items = []; len = 0; ok = (refl, omega arith) };
    keep_free_range = λ a is. absurd (true≢false (sym is ∙ contains-empty nat_cmp a));
    strangers_range = omega arith;
    unit_count = (let count = length-append plan.units.items all.strangers in let size = all.size in omega (arith, count, size, few));
    group_count = omega arith;
    flow_count = omega arith;
    need_count = omega arith;
    request_count = omega arith;
    unit_labels = all.labels;
    group_labels = λ i j d below inside. absurd (omega (arith, inside));
    flow_groups = λ i d inside. absurd (omega (arith, inside));
    flow_senders = λ i d inside. absurd (omega (arith, inside));
    flow_receivers = λ i d inside. absurd (omega (arith, inside));
    need_units = λ i d inside. absurd (omega (arith, inside));
    need_groups = λ i d inside. absurd (omega (arith, inside));
    need_signals = λ i d inside. absurd (omega (arith, inside));
    need_senders = λ i d inside. absurd (omega (arith, inside));
    request_groups = λ i d inside. absurd (omega (arith, inside));
    request_senders = λ i d inside. absurd (omega (arith, inside));
    request_receivers = λ i d inside. absurd (omega (arith, inside));
  }

pub can_come : (plan : Plan) → AreNamesDistinct (units_of plan) → (k : ℕ) → 0 < plan.strangers → k ≤ plan.strangers → length plan.units.items + k ≤ unit_limit
    → (joined : Plan) × (strangers : List UnitPlan) × (length strangers ≡ k) × HasStrangers plan joined strangers
unfolding joined
can_come plan names k stated few room =
    let all : AreBeside plan names k = beside plan names k room in
    let size = all.size in (
      joined plan names k room all,
      all.strangers,
      all.size,
      record {
        stated = stated;
        few = omega (arith, size, few);
        behind = refl;
        claim = all.claim;
        choose = all.choose;
        names = all.named;
        apart = all.apart;
        unaware = refl;
      },
    )
