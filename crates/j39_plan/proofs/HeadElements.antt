-- The loop over the addresses that a plan keeps free.
use Rattle.std.proofs.Common.{◌≡◌, ℕ, true, ◌||◌, List, [], ◌∷◌, ◌++◌, Option}
use Rattle.std.proofs.Common.{Some, None, refl, sym, ap, ◌∙◌, append_assoc, inl, inr}
use Rattle.std.proofs.lemmas.Bool.{cases_eq, ne_eqb, true≢false}
use Rattle.std.proofs.lemmas.List.{append-nil}
use Rattle.std.specs.Cmp.{nat_cmp_total, unsigned_tied}
use Rattle.std.specs.FinSet.{FinSet, empty, from_list, contains, insert, contains-empty, contains-insert, from_list_push, nat_cmp-IsAntisymmetric}
use Rattle.std.specs.Option.{option_or}
use Rattle.std.specs.Ordering.{nat_cmp}
use Rattle.toml.specs.Data.{Data, Items, no_items, item}
use Rattle.j39_id.specs.Addresses.{in_pool}
use Rattle.j39_toml.specs.declared.cause.Cause.{Cause}
use Rattle.j39_plan.specs.ValueCauses.{number_in, numbers_in, address_cause, addresses_cause}

-- addresses of the pool alone
abbrev pub AreInPool : FinSet nat_cmp → Type 0
AreInPool s = (a : ℕ) → contains s a ≡ true → in_pool a ≡ true

-- what was seen so far is what the elements but the last ones report, and the cause for all is that of the last ones
pub record IsSeen (seen : FinSet nat_cmp) (left all : Items) : Type 0 where
  pub same_cause : addresses_cause seen left ≡ addresses_cause empty all
  pub before : List ℕ
  pub stated : seen ≡ from_list before
  pub numbers : before ++ numbers_in left ≡ numbers_in all
  pub range : AreInPool seen

pub none_outside : AreInPool empty
none_outside a h = absurd (true≢false (sym h ∙ contains-empty nat_cmp a))

pub begins : (all : Items) → IsSeen empty all all
begins all = record {
  same_cause = refl;
  before = [];
  stated = refl;
  numbers = refl;
  range = none_outside;
}

pub goes_on : (seen : FinSet nat_cmp) (d : Data) (left all : Items) (a : ℕ) → IsSeen seen (item d left) all
    → address_cause seen d ≡ None → a ≡ number_in d → in_pool a ≡ true → IsSeen (insert seen a) left all
goes_on seen d left all a read none is pool = record {
  same_cause = ap (λ n. addresses_cause (insert seen n) left) is
      ∙ sym (ap (λ (o : Option Cause). option_or o (addresses_cause (insert seen (number_in d)) left)) none) ∙ read.same_cause;
  before = read.before ++ a ∷ [];
  stated = ap (λ s. insert s a) read.stated ∙ sym (from_list_push nat_cmp_total nat_cmp-IsAntisymmetric read.before a);
  numbers = append_assoc read.before (a ∷ []) (numbers_in left) ∙ ap (λ n. read.before ++ n ∷ numbers_in left) is ∙ read.numbers;
  range = λ b h. elim (cases_eq b a) [
    | inl same ↦ ap in_pool same ∙ pool
    | inr other ↦
        let old : contains (insert seen a) b ≡ contains seen b =
        contains-insert nat_cmp_total seen a b ∙ ap (λ t. t || contains seen b) (unsigned_tied b a ∙ ne_eqb b a other) in
        read.range b (sym old ∙ h)
  ];
}

pub stops : (seen : FinSet nat_cmp) (d : Data) (left all : Items) (cause : Cause) → IsSeen seen (item d left) all
    → address_cause seen d ≡ Some cause → addresses_cause empty all ≡ Some cause
stops seen d left all cause read is =
    sym read.same_cause ∙ ap (λ (o : Option Cause). option_or o (addresses_cause (insert seen (number_in d)) left)) is

pub ends : (seen : FinSet nat_cmp) (all : Items) → IsSeen seen no_items all → (addresses_cause empty all ≡ None) × (seen ≡ from_list (numbers_in all))
ends seen all read = (sym read.same_cause, read.stated ∙ ap from_list (sym (append-nil read.before) ∙ read.numbers))
