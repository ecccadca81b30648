-- Whose a message is, and plans without private groups.
use Rattle.std.proofs.Common.{List, ◌≡◌, ℕ, ◌<◌, ◌⊎◌, Bool, true, false, All as AllOf, Some, None, Option, sym, ap, ◌∙◌, inl, inr, arith}
use Rattle.std.specs.List.{slice_get}
use Rattle.j39_signal.specs.Bits.{number_at}
use Rattle.j39_signal.specs.Selectors.{DifferInValue, is_selected}
use Rattle.j39_signal.specs.declared.selector.Selector.{Selector}
use Rattle.std.proofs.lemmas.Bool.{false≢true, and_parts, cases_lt, eqb-true}
use Rattle.j39_search.specs.ListPlaces.{SomeMeets}
use Rattle.j39_findings.specs.Findings.{IsForNoPlan, IsProprietary, HasBadPgn, AreSentTogether, DoReceiversMeet, Clean}
use Rattle.j39_network.specs.PrivateGroups.{Fits, OneGroupFits, HasNoPrivate}
use Rattle.j39_findings.specs.WithoutPrivate.{IsFoundAsBefore}
use Rattle.j39_network.specs.declared.plan.Plan.{Plan}
use Rattle.j39_network.specs.declared.plan.group_plan.GroupPlan.{GroupPlan}
use Rattle.j39_network.specs.declared.plan.flow_plan.FlowPlan.{FlowPlan}
use Rattle.j39_network.specs.declared.plan.to.To.{To}
use Rattle.j39_findings.specs.declared.checking.finding.Finding.TheVariants.{SamePgn}
use Rattle.j39_findings.proofs.Pairs.{pair_with}
use Rattle.j39_search.proofs.Members.{all_at}

-- ---- one group fits

-- flows that reach one place meet
meet : (plan : Plan) (g h : GroupPlan) (sender : ℕ) (to : To) (f k : FlowPlan) → Fits plan g sender to f → Fits plan h sender to k
    → DoReceiversMeet g h f k
meet plan g h sender to f k a b =
    elim a.reaches [
      | inl here ↦ elim b.reaches [
        | inl there ↦ inr (inr (inl (here ∙ sym there)))
        | inr frame ↦ inl (here ∙ frame.1)
      ]
      | inr frame ↦ elim b.reaches [
        | inl there ↦ inr (inl (there ∙ frame.1))
        | inr other ↦ inr (inr (inr (frame.2, other.2)))
      ]
    ]

together : (plan : Plan) (g h : GroupPlan) (sender : ℕ) (to : To)
    → SomeMeets (Fits plan g sender to) plan.flows.items → SomeMeets (Fits plan h sender to) plan.flows.items
    → AreSentTogether plan.groups.items plan.flows.items g h
together plan g h sender to (i, f) (j, k) = (
  i,
  record {
    value = f.value;
    value_is = f.value_is;
    meets = (
      f.meets.sends,
      (
        j,
        record {
          value = k.value;
          value_is = k.value_is;
          meets = (k.meets.from ∙ sym f.meets.from, k.meets.sends, meet plan g h sender to f.value k.value f.meets k.meets);
        },
      ),
    );
  },
)

-- no payload is taken by two selectors that differ in the value alone
pub not_both_taken : (v w : Option Selector) (bytes : List ℕ) → is_selected v bytes ≡ true → is_selected w bytes ≡ true → ¬ DifferInValue v w
not_both_taken None w bytes first second differ = absurd differ
not_both_taken (Some v) None bytes first second differ = absurd differ
not_both_taken (Some v) (Some w) bytes first second (start, bits, value) =
    let one = eqb-true _ _ (and_parts _ _ first).1 in
    let other = eqb-true _ _ (and_parts _ _ second).1 in
    let same = ap (λ (n : ℕ). number_at bytes n v.bits) start ∙ ap (number_at bytes w.start) bits in
    value (sym one ∙ same ∙ other)

-- two groups of one number that the unit sends there are one, unless their selectors differ in the value alone
module _ (plan : Plan) (clean : Clean plan) (sender : ℕ) (to : To) where
  in_order : (g h : ℕ) (group second : GroupPlan) → g < h → slice_get plan.groups.items g ≡ Some group → slice_get plan.groups.items h ≡ Some second
      → group.pgn ≡ second.pgn → ¬ DifferInValue group.when second.when → SomeMeets (Fits plan group sender to) plan.flows.items
      → SomeMeets (Fits plan second sender to) plan.flows.items → ⊥
  in_order g h group second less at_g at_h number alike a b = clean (SamePgn g h) (record {
    first = group;
    second = second;
    below = less;
    first_is = at_g;
    second_is = at_h;
    related = (number, alike, inr (inr (together plan group second sender to a b)));
  })

  pub one_unless_apart : (g h : ℕ) (group second : GroupPlan) → slice_get plan.groups.items g ≡ Some group → slice_get plan.groups.items h ≡ Some second
      → group.pgn ≡ second.pgn → ¬ DifferInValue group.when second.when → ¬ DifferInValue second.when group.when
      → SomeMeets (Fits plan group sender to) plan.flows.items → SomeMeets (Fits plan second sender to) plan.flows.items → g ≡ h
  one_unless_apart g h group second at_g at_h number alike likewise a b =
      elim (cases_lt g h) [
        | inl less ↦ absurd (in_order g h group second less at_g at_h number alike a b)
        | inr most ↦ elim (cases_lt h g) [
          | inl more ↦ absurd (in_order h g second group more at_h at_g (sym number) likewise b a)
          | inr least ↦ omega arith
        ]
      ]

pub one_fits : (plan : Plan) → Clean plan → OneGroupFits plan
one_fits plan clean pgn bytes sender to g h a b =
    one_unless_apart plan clean sender to g h a.value b.value a.value_is b.value_is (a.meets.number ∙ sym b.meets.number)
    (not_both_taken a.value.when b.value.when bytes a.meets.selected b.meets.selected)
    (not_both_taken b.value.when a.value.when bytes b.meets.selected a.meets.selected) a.meets.fits b.meets.fits

-- ---- plans without private groups

shared_at : (xs : List GroupPlan) → AllOf (λ group. group.private ≡ false) xs → (i : ℕ) (group : GroupPlan) → slice_get xs i ≡ Some group
    → group.private ≡ false
shared_at = all_at (λ group. group.private ≡ false)

not_both : {b : Bool} → b ≡ false → b ≡ true → ⊥
not_both off on = false≢true (sym off ∙ on)

number_before : (group : GroupPlan) → group.private ≡ false → HasBadPgn group → IsForNoPlan group.pgn ⊎ IsProprietary group.pgn
number_before group shared (inl bad) = inl bad
number_before group shared (inr (inl own)) = inr own.1
number_before group shared (inr (inr other)) = absurd (not_both shared other.0)

number_now : (group : GroupPlan) → group.private ≡ false → IsForNoPlan group.pgn ⊎ IsProprietary group.pgn → HasBadPgn group
number_now group shared (inl bad) = inl bad
number_now group shared (inr own) = inr (inl (shared, own))

pub found_as_before : (plan : Plan) → HasNoPrivate plan → IsFoundAsBefore plan
found_as_before plan none = record {
  numbers = λ g. (
    λ v. record {
      value = v.value;
      value_is = v.value_is;
      meets = number_before v.value (shared_at plan.groups.items none g v.value v.value_is) v.meets;
    },
    λ v. record {
      value = v.value;
      value_is = v.value_is;
      meets = number_now v.value (shared_at plan.groups.items none g v.value v.value_is) v.meets;
    },
  );
  pairs = λ g h. (
    λ p. pair_with plan.groups.items g h p (p.related.0, p.related.1),
    λ p. pair_with plan.groups.items g h p (p.related.0, p.related.1, inl (shared_at plan.groups.items none g p.first p.first_is)),
  );
  unsent = λ g v. not_both (shared_at plan.groups.items none g v.value v.value_is) v.meets.0;
}
