-- The search for a possible variant: what begins with places that no variant may have is none.
use Rattle.std.proofs.Common.{◌≡◌, ℕ, zero, suc, ◌+◌, ◌<◌, ◌≤◌, ◌⊎◌, ◌==◌, List, [], ◌∷◌, ◌++◌, Bool, true, false, ◌&&◌, ◌||◌, not, Option, Some, None, length}
use Rattle.std.proofs.Common.{get_or, refl, sym, ap, ◌∙◌, arith, subst, append_assoc}
use Rattle.std.specs.declared.alloc.Global.{Global}
use Rattle.std.specs.Prelude.{Vec, slice_index}
use Rattle.std.specs.List.{list_all, list_any, slice_get}
use Rattle.std.specs.Option.{option_map_or}
use Rattle.std.proofs.Common.{inl, inr}
use Rattle.std.proofs.Math.Nat.{eq-or-lt_of_le}
use Rattle.std.proofs.lemmas.Bool.{cases_order, false≢true, and_parts, eqb-true}
use Rattle.std.proofs.lemmas.List.{length-append}
use Rattle.j39_variants.specs.declared.line.Alternative.{Alternative}
use Rattle.j39_variants.specs.declared.line.Choice.{Choice}
use Rattle.j39_variants.specs.declared.line.ProductLine.{ProductLine}
use Rattle.j39_variants.specs.LineLaws.{HasOneFirst}
use Rattle.j39_variants.specs.Variants.{FitChoices, IsEarlier, IsFirstBehind, IsFirstTaking, IsTaking, IsVariant, NoneTakes, is_allowed, is_in, is_possible}
use Rattle.j39_variants.specs.Variants.{size_at, takes_alternative, takes_all}

-- ---- what is taken stays taken behind more places

get_before : (xs ys : List ℕ) (i p : ℕ) → slice_get xs i ≡ Some p → slice_get (xs ++ ys) i ≡ Some p
get_before [] ys i p e = cc
get_before (x ∷ xs) ys zero p e = e
get_before (x ∷ xs) ys (suc i) p e = get_before xs ys i p e

taken_at : (o : Option ℕ) (place : ℕ) (more : Option ℕ) → ((p : ℕ) → o ≡ Some p → more ≡ Some p)
    → option_map_or (λ p. p == place) o false ≡ true → option_map_or (λ p. p == place) more false ≡ true
taken_at None place more stays is = absurd (false≢true is)
taken_at (Some p) place more stays is = rw (stays p refl) is

takes_more : (taken rest : List ℕ) (a : Alternative) → takes_alternative taken a ≡ true → takes_alternative (taken ++ rest) a ≡ true
takes_more taken rest a is = taken_at (slice_get taken a.choice) a.place (slice_get (taken ++ rest) a.choice) (λ p e. get_before taken rest a.choice p e) is

both_true : (a b c : Bool) → (b ≡ true → c ≡ true) → (a && b) ≡ true → (a && c) ≡ true
both_true true b c leads is = leads is
both_true false b c leads is = is

either_true : (b c : Bool) → c ≡ true → (b || c) ≡ true
either_true true c found = refl
either_true false c found = found

any_from : (pa qa pl ql : Bool) → (pa ≡ true → qa ≡ true) → (pl ≡ true → ql ≡ true) → (pa || pl) ≡ true → (qa || ql) ≡ true
any_from true qa pl ql here rest is = rw (here refl) refl
any_from false qa pl ql here rest is = either_true qa ql (rest is)

any_more : (p q : Alternative → Bool) (list : List Alternative) → ((a : Alternative) → p a ≡ true → q a ≡ true) → list_any p list ≡ true
    → list_any q list ≡ true
any_more p q [] leads is = is
any_more p q (a ∷ list) leads is = any_from (p a) (q a) (list_any p list) (list_any q list) (leads a) (any_more p q list leads) is

all_more : (p q : Alternative → Bool) (list : List Alternative) → ((a : Alternative) → p a ≡ true → q a ≡ true) → list_all p list ≡ true
    → list_all q list ≡ true
all_more p q [] leads is = is
all_more p q (a ∷ list) leads is =
    let parts = and_parts (p a) (list_all p list) is in
    rw (leads a parts.0) (all_more p q list leads parts.1)

in_more : (taken rest : List ℕ) (list : List Alternative) → is_in taken list ≡ true → is_in (taken ++ rest) list ≡ true
in_more taken rest list is =
    all_more (λ a. list_any (λ b. (b.choice == a.choice) && takes_alternative taken b) list)
    (λ a. list_any (λ b. (b.choice == a.choice) && takes_alternative (taken ++ rest) b) list) list
    (λ a. any_more (λ b. (b.choice == a.choice) && takes_alternative taken b) (λ b. (b.choice == a.choice) && takes_alternative (taken ++ rest) b) list
    (λ b. both_true (b.choice == a.choice) (takes_alternative taken b) (takes_alternative (taken ++ rest) b) (takes_more taken rest b)))
    is

not_in_less : (b c : Bool) → (b ≡ true → c ≡ true) → not c ≡ true → not b ≡ true
not_in_less true true leads is = is
not_in_less true false leads is = absurd (false≢true (leads refl))
not_in_less false c leads is = refl

possible_less : (nevers : List (Vec Alternative Global)) (taken rest : List ℕ) → is_possible nevers (taken ++ rest) ≡ true → is_possible nevers taken ≡ true
possible_less [] taken rest is = is
possible_less (never ∷ nevers) taken rest is =
    let parts = and_parts (not (is_in (taken ++ rest) never.items)) (is_possible nevers (taken ++ rest)) is in
    rw (not_in_less (is_in taken never.items) (is_in (taken ++ rest) never.items) (in_more taken rest never.items) parts.0)
    (possible_less nevers taken rest parts.1)

-- places in a box that isn't built
pub none_possible : (line : ProductLine) (wanted : List Alternative) (taken : List ℕ) → is_possible line.nevers.items taken ≡ false
    → NoneTakes line wanted taken
none_possible line wanted taken never rest is =
    false≢true (sym never ∙ possible_less line.nevers.items taken rest is.possible)

-- ---- all places are taken

no_more : (taken rest : List ℕ) (n : ℕ) → length taken ≡ n → length (taken ++ rest) ≡ n → rest ≡ []
no_more taken [] n is all = refl
no_more taken (x ∷ rest) n is all = let e = length-append taken (x ∷ rest) in absurd (omega (arith, e))

append_nothing : (xs ys : List ℕ) → ys ≡ [] → xs ++ ys ≡ xs
append_nothing [] ys e = e
append_nothing (x ∷ xs) ys e = ap (λ zs. x ∷ zs) (append_nothing xs ys e)

pub none_taken : (line : ProductLine) (wanted : List Alternative) (taken : List ℕ) → length taken ≡ length line.choices.items → takes_all taken wanted ≡ false
    → NoneTakes line wanted taken
none_taken line wanted taken all not_these rest is =
    let same : taken ++ rest ≡ taken = append_nothing taken rest (no_more taken rest (length line.choices.items) all is.is_variant.of_each) in
    false≢true (sym not_these ∙ ap (λ v. takes_all v wanted) (sym same) ∙ is.takes_these)

-- ---- one more place

index_before : (taken : List ℕ) (place i : ℕ) → i < length taken → slice_index (taken ++ place ∷ []) i ≡ slice_index taken i
index_before [] place i below = absurd (omega arith)
index_before (x ∷ taken) place zero below = refl
index_before (x ∷ taken) place (suc i) below = index_before taken place i (omega arith)

index_last : (taken : List ℕ) (place : ℕ) → slice_index (taken ++ place ∷ []) (length taken) ≡ place
index_last [] place = refl
index_last (x ∷ taken) place = index_last taken place

fits_at : (choices : List Choice) (taken : List ℕ) (place c : ℕ) → FitChoices choices taken → place < size_at choices (length taken) → c ≤ length taken
    → slice_index (taken ++ place ∷ []) c < size_at choices c
fits_at choices taken place c fits below within = elim (eq-or-lt_of_le within) [
  | inl same ↦ rw (same, index_last taken place) below
  | inr less ↦ rw (index_before taken place c less) (fits c less)
]

pub fits_longer : (choices : List Choice) (taken longer : List ℕ) (place : ℕ) → longer ≡ taken ++ place ∷ [] → FitChoices choices taken
    → place < size_at choices (length taken) → FitChoices choices longer
fits_longer choices taken longer place is fits below c within =
    let long : length longer ≡ length taken + 1 = ap length is ∙ length-append taken (place ∷ []) in
    rw is (fits_at choices taken place c fits below (omega arith))

pub longer_by_one : (taken longer : List ℕ) (place : ℕ) → longer ≡ taken ++ place ∷ [] → length longer ≡ length taken + 1
longer_by_one taken longer place is = ap length is ∙ length-append taken (place ∷ [])

-- ---- no place leads on

get_behind : (taken rest : List ℕ) (place : ℕ) → slice_get (taken ++ place ∷ rest) (length taken) ≡ Some place
get_behind [] rest place = refl
get_behind (x ∷ taken) rest place = get_behind taken rest place

index_behind : (taken rest : List ℕ) (place : ℕ) → slice_index (taken ++ place ∷ rest) (length taken) ≡ place
index_behind [] rest place = refl
index_behind (x ∷ taken) rest place = index_behind taken rest place

allowed_one : (v : List ℕ) (c place : ℕ) (a : Alternative) → slice_get v c ≡ Some place → takes_alternative v a ≡ true
    → (not (a.choice == c) || (place == a.place)) ≡ true
allowed_one v c place a at is = go (a.choice == c) refl where
  go : (b : Bool) → (a.choice == c) ≡ b → (not (a.choice == c) || (place == a.place)) ≡ true
  go false other = rw other refl
  go true same =
      let here : slice_get v a.choice ≡ Some place = ap (slice_get v) (eqb-true a.choice c same) ∙ at in
      rw same (rw here at is)

allowed_all : (v : List ℕ) (c place : ℕ) (wanted : List Alternative) → slice_get v c ≡ Some place → takes_all v wanted ≡ true → is_allowed wanted c place ≡ true
allowed_all v c place [] at is = refl
allowed_all v c place (a ∷ wanted) at is =
    let parts = and_parts (takes_alternative v a) (takes_all v wanted) is in
    rw (allowed_one v c place a at parts.0) (allowed_all v c place wanted at parts.1)

pub none_allowed : (line : ProductLine) (wanted : List Alternative) (taken : List ℕ) (place : ℕ) → is_allowed wanted (length taken) place ≡ false
    → NoneTakes line wanted (taken ++ place ∷ [])
none_allowed line wanted taken place not_allowed rest is =
    let v : List ℕ = taken ++ place ∷ rest in
    let same : (taken ++ place ∷ []) ++ rest ≡ v = append_assoc taken (place ∷ []) rest in
    let these : takes_all v wanted ≡ true = ap (λ w. takes_all w wanted) (sym same) ∙ is.takes_these in
    false≢true (sym not_allowed ∙ allowed_all v (length taken) place wanted (get_behind taken rest place) these)

pub none_behind : (line : ProductLine) (wanted : List Alternative) (taken : List ℕ) → length taken < length line.choices.items
    → ((place : ℕ) → place < size_at line.choices.items (length taken) → NoneTakes line wanted (taken ++ place ∷ []))
    → NoneTakes line wanted taken
none_behind line wanted taken few none [] is =
    let e = length-append taken [] in
    let all = is.is_variant.of_each in
    absurd (omega (arith, e, all, few))
none_behind line wanted taken few none (place ∷ rest) is =
    let e = length-append taken (place ∷ rest) in
    let within : length taken < length (taken ++ place ∷ rest) = omega (arith, e) in
    let below : place < size_at line.choices.items (length taken) = subst (λ p. p < size_at line.choices.items (length taken)) (index_behind taken rest place)
    (is.is_variant.fits (length taken) within) in
    let P : List ℕ → Type 0 = λ v. IsTaking line wanted v in
    none place below rest (subst P (sym (append_assoc taken (place ∷ []) rest)) is)

pub found_taking : (line : ProductLine) (wanted : List Alternative) (taken : List ℕ) → FitChoices line.choices.items taken
    → length taken ≡ length line.choices.items
    → is_possible line.nevers.items taken ≡ true → takes_all taken wanted ≡ true → IsTaking line wanted taken
found_taking line wanted taken fits all possible these = record { is_variant = record { fits = fits; of_each = all }; possible = possible; takes_these = these }

-- ---- the first one

not_before_itself : (v : List ℕ) → IsEarlier v v → ⊥
not_before_itself [] earlier = earlier
not_before_itself (p ∷ v) earlier = elim earlier [
  | inl less ↦ omega (arith, less)
  | inr more ↦ not_before_itself v more.1
]

-- all places are taken
pub first_taken : (line : ProductLine) (wanted : List Alternative) (taken : List ℕ) → length taken ≡ length line.choices.items → IsTaking line wanted taken
    → IsFirstBehind line wanted taken taken
first_taken line wanted taken all is = record {
  is_taking = is;
  begins = ([], sym (append_nothing taken [] refl));
  first = λ rest other earlier.
      let same : taken ++ rest ≡ taken = append_nothing taken rest (no_more taken rest (length line.choices.items) all other.is_variant.of_each) in
      not_before_itself taken (subst (λ v. IsEarlier v taken) same earlier);
}

earlier_behind : (taken v w : List ℕ) → IsEarlier (taken ++ v) (taken ++ w) → IsEarlier v w
earlier_behind [] v w earlier = earlier
earlier_behind (p ∷ taken) v w earlier = elim earlier [
  | inl less ↦ absurd (omega (arith, less))
  | inr more ↦ earlier_behind taken v w more.1
]

first_place : (p q : ℕ) (v w : List ℕ) → IsEarlier (p ∷ v) (q ∷ w) → p ≤ q
first_place p q v w earlier = elim earlier [
  | inl less ↦ omega (arith, less)
  | inr more ↦ let e = more.0 in omega (arith, e)
]

none_earlier : (line : ProductLine) (wanted : List Alternative) (taken longer variant : List ℕ) (place : ℕ) (more : List ℕ)
    → longer ≡ taken ++ place ∷ [] → variant ≡ taken ++ place ∷ more → length taken < length line.choices.items
    → ((p : ℕ) → p < place → NoneTakes line wanted (taken ++ p ∷ [])) → IsFirstBehind line wanted longer variant
    → (rest : List ℕ) → IsTaking line wanted (taken ++ rest) → IsEarlier (taken ++ rest) variant → ⊥
none_earlier line wanted taken longer variant place more long here few none found [] is earlier =
    let e = length-append taken [] in
    let all = is.is_variant.of_each in
    omega (arith, e, all, few)
none_earlier line wanted taken longer variant place more long here few none found (q ∷ rest) is earlier =
    let at : IsEarlier (q ∷ rest) (place ∷ more) =
    earlier_behind taken (q ∷ rest) (place ∷ more) (subst (λ v. IsEarlier (taken ++ q ∷ rest) v) here earlier) in
    elim (eq-or-lt_of_le (first_place q place rest more at)) [
      | inl same ↦
          let join : taken ++ q ∷ rest ≡ longer ++ rest =
          ap (λ p. taken ++ p ∷ rest) same ∙ sym (ap (λ xs. xs ++ rest) long ∙ append_assoc taken (place ∷ []) rest) in
          let P : List ℕ → Type 0 = λ v. IsTaking line wanted v in
          let Q : List ℕ → Type 0 = λ v. IsEarlier v variant in
          found.first rest (subst P join is) (subst Q join earlier)
      | inr less ↦
          let P : List ℕ → Type 0 = λ v. IsTaking line wanted v in
          none q less rest (subst P (sym (append_assoc taken (q ∷ []) rest)) is)
    ]

-- the first one of those that begin with one more place is the first one, where none begins with an earlier place there
pub first_longer : (line : ProductLine) (wanted : List Alternative) (taken longer variant : List ℕ) (place : ℕ) → longer ≡ taken ++ place ∷ []
    → length taken < length line.choices.items → ((p : ℕ) → p < place → NoneTakes line wanted (taken ++ p ∷ []))
    → IsFirstBehind line wanted longer variant → IsFirstBehind line wanted taken variant
first_longer line wanted taken longer variant place long few none found =
    let (more, begins) = found.begins in
    let here : variant ≡ taken ++ place ∷ more = begins ∙ ap (λ xs. xs ++ more) long ∙ append_assoc taken (place ∷ []) more in
    record {
      is_taking = found.is_taking;
      begins = (place ∷ more, here);
      first = λ rest is earlier. none_earlier line wanted taken longer variant place more long here few none found rest is earlier;
    }

-- of those that begin with no place
pub first_of_all : (line : ProductLine) (wanted : List Alternative) (variant : List ℕ) → IsFirstBehind line wanted [] variant
    → IsFirstTaking line wanted variant
first_of_all line wanted variant found = record { is_taking = found.is_taking; first = λ other is earlier. found.first other is earlier }

-- ---- one is the first

in_order : (v w : List ℕ) → length v ≡ length w → IsEarlier v w ⊎ ((v ≡ w) ⊎ IsEarlier w v)
in_order [] [] same = inr (inl refl)
in_order [] (q ∷ w) same = absurd (omega (arith, same))
in_order (p ∷ v) [] same = absurd (omega (arith, same))
in_order (p ∷ v) (q ∷ w) same = elim (cases_order p q) [
  | inl e ↦ elim (in_order v w (omega (arith, same))) [
    | inl earlier ↦ inl (inr (e, earlier))
    | inr (inl all) ↦ inr (inl (rw (e, all)))
    | inr (inr later) ↦ inr (inr (inr (sym e, later)))
  ]
  | inr (inl less) ↦ inl (inl less)
  | inr (inr more) ↦ inr (inr (inl more))
]

pub one_first : (line : ProductLine) (wanted : List Alternative) → HasOneFirst line wanted
one_first line wanted v w first other =
    let same : length v ≡ length w = first.is_taking.is_variant.of_each ∙ sym other.is_taking.is_variant.of_each in
    elim (in_order v w same) [
      | inl earlier ↦ absurd (other.first v first.is_taking earlier)
      | inr (inl is) ↦ is
      | inr (inr later) ↦ absurd (first.first w other.is_taking later)
    ]
