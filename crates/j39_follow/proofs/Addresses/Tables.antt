-- Tables of holders of which one place is written.
use Rattle.std.proofs.Common.{◌≡◌, ◌≢◌, ◌==◌, ◌&&◌, ◌<◌, ◌≤◌, ◌+◌, ℕ, zero, suc, Bool, true, false, if◌then◌else◌, nat_lt, List, [], ◌∷◌}
use Rattle.std.proofs.Common.{length, Option, Some, None, inl, inr, refl, sym, ap, subst, ◌∙◌, arith, eqb-true}
use Rattle.std.specs.Prelude.{slice_set, slice_index_or, replicate, IfSome}
use Rattle.std.specs.List.{slice_get}
use Rattle.std.proofs.lemmas.Bool.{cases_Bool, eqb-false, lt-ltb, false≢true}
use Rattle.std.proofs.lemmas.Bool.Decides.{nat_tests}
use Rattle.std.proofs.lemmas.Option.{get_or_from_slice_get, slice_get-get_or, slice_get_within, none-some, same_Some}
use Rattle.j39_id.specs.declared.frame.Frame.{Frame}
use Rattle.j39_follow.specs.Holders.{IsHolder}
use Rattle.j39_follow.specs.declared.address.holders.Holders.{Holders}
use Rattle.j39_network.specs.declared.plan.Plan.{Plan}
use Rattle.j39_network.specs.declared.plan.unit_plan.UnitPlan.{UnitPlan}
use Rattle.j39_follow.specs.Who.{is_name_of}
use Rattle.j39_follow.specs.inside.Recounting.{HasNameAt, IsClaimedBehind, IsLeft, IsMarked, IsMoved, Recounts, is_marked}
use Rattle.j39_follow.proofs.Addresses.Holding.{no_row}

get_set_same : {A : Type 0} (xs : List A) (i : ℕ) (y : A) → i < length xs → slice_get (slice_set xs i y) i ≡ Some y
get_set_same [] i y less = absurd (omega arith)
get_set_same (x ∷ xs) zero y less = refl
get_set_same (x ∷ xs) (suc i) y less = get_set_same xs i y (omega arith)

get_set_other : {A : Type 0} (xs : List A) (i j : ℕ) (y : A) → i ≢ j → slice_get (slice_set xs i y) j ≡ slice_get xs j
get_set_other [] i j y other = refl
get_set_other (x ∷ xs) zero zero y other = absurd (other refl)
get_set_other (x ∷ xs) zero (suc j) y other = refl
get_set_other (x ∷ xs) (suc i) zero y other = refl
get_set_other (x ∷ xs) (suc i) (suc j) y other = get_set_other xs i j y (λ e. other (ap suc e))

pub there_same : {A : Type 0} (x y : A) → Some (Some x) ≡ Some (Some y) → x ≡ y
there_same x y e = cc

empty_there : {A : Type 0} (x : A) → Some None ≡ Some (Some x) → ⊥
empty_there x e = cc

there_none : {A B : Type 0} (x : A) → Some None ≡ Some (Some x) → B
there_none x e = absurd (empty_there x e)

pub set_here : {A : Type 0} (xs : List A) (i : ℕ) (y d : A) → i < length xs → slice_index_or (slice_set xs i y) i d ≡ y
set_here [] i y d less = absurd (omega arith)
set_here (x ∷ xs) zero y d less = refl
set_here (x ∷ xs) (suc i) y d less = set_here xs i y d (omega arith)

pub set_there : {A : Type 0} (xs : List A) (i j : ℕ) (y d : A) → i ≢ j → slice_index_or (slice_set xs i y) j d ≡ slice_index_or xs j d
set_there [] i j y d other = refl
set_there (x ∷ xs) zero zero y d other = absurd (other refl)
set_there (x ∷ xs) zero (suc j) y d other = refl
set_there (x ∷ xs) (suc i) zero y d other = refl
set_there (x ∷ xs) (suc i) (suc j) y d other = set_there xs i j y d (λ e. other (ap suc e))

pub lt_next_other : (u k : ℕ) → k ≢ u → nat_lt u (k + 1) ≡ nat_lt u k
lt_next_other u k apart = grind (arith, nat_tests)

both_false : (a b c x : Bool) → a ≡ false → (if a && b then true else x) ≡ (if a && c then true else x)
both_false true b c x e = cc
both_false false b c x e = refl

not_below_zero : (u : ℕ) → nat_lt u 0 ≡ false
not_below_zero u = grind (arith, nat_tests)

none_below : (a b x : Bool) → b ≡ false → x ≡ (if a && b then true else x)
none_below true b x e = rw e refl
none_below false b x e = refl

every : (a b x : Bool) → b ≡ true → (if a && b then true else x) ≡ (if a then true else x)
every true b x e = rw e refl
every false b x e = refl

-- ---- a table without anything

pub empty_recounts : (plan : Plan) (h : Holders) → ((a n : ℕ) → ¬ HasNameAt h a n) → ((u : ℕ) → is_marked h u ≡ false) → Recounts plan h []
empty_recounts plan h vacant unmarked = record {
  held = λ a n at. absurd (vacant a n at);
  holds = λ a n h. absurd (no_row h.before h.claim h.behind h.row);
  heard = λ u unit at yes. absurd (false≢true (sym (unmarked u) ∙ yes));
  unheard = λ u unit at no stated. no_row stated.heard.before stated.heard.frame stated.heard.behind stated.heard.row;
  since = λ a n h. absurd (no_row h.before h.claim h.behind h.row);
}

-- ---- a NAME that leaves, address after address

-- it was taken from the first so many addresses
pub record IsLeftBelow (old new : List (Option ℕ)) (name many : ℕ) : Type 0 where
  pub left : (a n : ℕ) → slice_get new a ≡ Some (Some n) → (a < many → n ≢ name) × (slice_get old a ≡ Some (Some n))
  pub stays : (a n : ℕ) → n ≢ name → slice_get old a ≡ Some (Some n) → slice_get new a ≡ Some (Some n)

pub none_left : (names : List (Option ℕ)) (name : ℕ) → IsLeftBelow names names name 0
none_left names name = record { left = λ a n at. ((λ less. absurd (omega arith)), at); stays = λ a n other at. at }

pub left_there : (old names : List (Option ℕ)) (name k : ℕ) → k < length names → slice_index_or names k None ≡ Some name
    → IsLeftBelow old names name k → IsLeftBelow old (slice_set names k None) name (k + 1)
left_there old names name k room here of = record {
  left = λ a n at. elim (cases_Bool (k == a)) [
    | inl same ↦
        let spot : slice_get (slice_set names k None) k ≡ Some (Some n) =
        subst (λ (i : ℕ). slice_get (slice_set names k None) i ≡ Some (Some n)) (sym (eqb-true k a same)) at in
        there_none n (sym (get_set_same names k None room) ∙ spot)
    | inr other ↦
        let before = of.left a n (sym (get_set_other names k a None (eqb-false k a other)) ∙ at) in
        let apart = eqb-false k a other in
        ((λ less. before.0 (omega (arith, less, apart))), before.1)
  ];
  stays = λ a n differ at. elim (cases_Bool (k == a)) [
    | inl same ↦
        let spot : slice_get names k ≡ Some (Some n) = rw (eqb-true k a same) (of.stays a n differ at) in
        let is : slice_get names k ≡ Some (Some name) = slice_get-get_or names k None room ∙ ap Some here in
        absurd (differ (there_same n name (sym spot ∙ is)))
    | inr other ↦ get_set_other names k a None (eqb-false k a other) ∙ of.stays a n differ at
  ];
}

pub left_elsewhere : (old names : List (Option ℕ)) (name k : ℕ) → slice_index_or names k None ≢ Some name
    → IsLeftBelow old names name k → IsLeftBelow old names name (k + 1)
left_elsewhere old names name k other of = record {
  left = λ a n at.
      let before = of.left a n at in (
        (λ less e. elim (cases_Bool (k == a)) [
          | inl same ↦
              let spot : slice_get names k ≡ Some (Some n) = rw (eqb-true k a same) at in
              other (get_or_from_slice_get names k (Some n) None spot ∙ ap Some e)
          | inr differs ↦ (let apart = eqb-false k a differs in before.0 (omega (arith, less, apart)) e)
        ]),
        before.1,
      );
  stays = of.stays;
}

pub left_all : (old new : Holders) (name k : ℕ) → length new.names ≤ k → IsLeftBelow old.names new.names name k → IsLeft old new name
left_all old new name k past of = record {
  left = λ a n at.
      let before = of.left a n at in
      let within = slice_get_within new.names a (Some n) at in
      (before.0 (omega (arith, within, past)), before.1);
  stays = λ a n there. of.stays a n there.0 there.1;
}

-- ---- a NAME that is reported elsewhere

pub put : (plan : Plan) (old left new : Holders) (name address count : ℕ) → IsLeft old left name → address < length left.names
    → new.names ≡ slice_set left.names address (Some name)
    → IsMarked plan old new name → IsClaimedBehind old new (Some address) count → IsMoved plan old new name (Some address) count
put plan old left new name address count of room names marked claimed = record {
  held = λ a n at. elim (cases_Bool (address == a)) [
    | inl same ↦
        let spot : slice_get new.names address ≡ Some (Some n) = rw (eqb-true address a same) at in
        let is : slice_get new.names address ≡ Some (Some name) =
        ap (λ (xs : List (Option ℕ)). slice_get xs address) names ∙ get_set_same left.names address (Some name) room in
        inl (ap Some (eqb-true address a same), there_same n name (sym spot ∙ is))
    | inr other ↦
        let before : HasNameAt left a n =
        sym (ap (λ (xs : List (Option ℕ)). slice_get xs a) names ∙ get_set_other left.names address a (Some name)
        (eqb-false address a other)) ∙ at in
        inr ((of.left a n before).0, (λ e. eqb-false address a other (same_Some address a e)), (of.left a n before).1)
  ];
  holds = λ a n there. elim there [
    | inl is ↦
        let same : address ≡ a = same_Some address a is.0 in
        rw (sym same, is.1) (ap (λ (xs : List (Option ℕ)). slice_get xs address) names ∙ get_set_same left.names address (Some name) room)
    | inr stays ↦
        ap (λ (xs : List (Option ℕ)). slice_get xs a) names
        ∙ get_set_other left.names address a (Some name) (λ e. stays.1 (ap Some e)) ∙ of.stays a n (stays.0, stays.2)
  ];
  marked = marked;
  claimed = claimed;
}

some_none : {A B : Type 0} (x : A) → None ≡ Some x → B
some_none x e = absurd (none-some x e)

-- the claim of an address is noted
pub put_claimed : (old new : Holders) (address count : ℕ) → address < length old.claimed → new.claimed ≡ slice_set old.claimed address count
    → IsClaimedBehind old new (Some address) count
put_claimed old new address count room claimed = record {
  here = λ a e.
      ap (λ (xs : List ℕ). slice_index_or xs a 0) claimed
      ∙ subst (λ (i : ℕ). slice_index_or (slice_set old.claimed address count) i 0 ≡ count) (same_Some address a e) (set_here old.claimed address count 0 room);
  there = λ a other.
      ap (λ (xs : List ℕ). slice_index_or xs a 0) claimed ∙ set_there old.claimed address a count 0 (λ e. other (ap Some e));
}

pub put_nowhere : (plan : Plan) (old left new : Holders) (name count : ℕ) → IsLeft old left name → new.names ≡ left.names
    → IsMarked plan old new name → new.claimed ≡ old.claimed → IsMoved plan old new name None count
put_nowhere plan old left new name count of names marked claimed = record {
  held = λ a n at.
      let before : HasNameAt left a n = ap (λ (xs : List (Option ℕ)). slice_get xs a) (sym names) ∙ at in
      inr ((of.left a n before).0, (λ e. none-some a e), (of.left a n before).1);
  holds = λ a n there. elim there [
    | inl is ↦ some_none a is.0
    | inr stays ↦ ap (λ (xs : List (Option ℕ)). slice_get xs a) names ∙ of.stays a n (stays.0, stays.2)
  ];
  marked = marked;
  claimed = record {
    here = λ a e. some_none a e;
    there = λ a other. ap (λ (xs : List ℕ). slice_index_or xs a 0) claimed;
  };
}

-- ---- units that are marked

-- of the first so many units those of the NAME are marked
abbrev pub IsMarkedBelow : Plan → List Bool → List Bool → ℕ → ℕ → Type 0
IsMarkedBelow plan old new name many = (u : ℕ) (unit : UnitPlan) → slice_get plan.units.items u ≡ Some unit
    → slice_index_or new u false ≡ (if is_name_of plan u unit name && nat_lt u many then true else slice_index_or old u false)

pub mark_this : (plan : Plan) (old new : List Bool) (unit : UnitPlan) (name k : ℕ) → k < length new → slice_get plan.units.items k ≡ Some unit
    → is_name_of plan k unit name ≡ true → IsMarkedBelow plan old new name k → IsMarkedBelow plan old (slice_set new k true) name (k + 1)
mark_this plan old new unit name k room here same of = λ u other there. elim (cases_Bool (k == u)) [
  | inl is ↦
      let k_is : k ≡ u = eqb-true k u is in
      let unit_is : unit ≡ other = same_Some unit other (sym here ∙ ap (slice_get plan.units.items) k_is ∙ there) in
      let named : is_name_of plan u other name ≡ true =
      subst (λ (v : UnitPlan). is_name_of plan u v name ≡ true) unit_is (subst (λ (i : ℕ). is_name_of plan i unit name ≡ true) k_is same) in
      let less : nat_lt u (k + 1) ≡ true = lt-ltb u (k + 1) (omega arith) in
      ap (λ (i : ℕ). slice_index_or (slice_set new k true) i false) (sym k_is) ∙ set_here new k true false room
      ∙ sym (ap (λ (b : Bool). if b && nat_lt u (k + 1) then true else slice_index_or old u false) named
      ∙ ap (λ (b : Bool). if b then true else slice_index_or old u false) less)
  | inr differs ↦
      let apart = eqb-false k u differs in
      set_there new k u true false apart ∙ of u other there
      ∙ ap (λ (b : Bool). if is_name_of plan u other name && b then true else slice_index_or old u false) (sym (lt_next_other u k apart))
]

pub mark_not : (plan : Plan) (old new : List Bool) (unit : UnitPlan) (name k : ℕ) → slice_get plan.units.items k ≡ Some unit
    → is_name_of plan k unit name ≡ false → IsMarkedBelow plan old new name k → IsMarkedBelow plan old new name (k + 1)
mark_not plan old new unit name k here other of = λ u unit' there. elim (cases_Bool (k == u)) [
  | inl is ↦
      let k_is : k ≡ u = eqb-true k u is in
      let unit_is : unit ≡ unit' = same_Some unit unit' (sym here ∙ ap (slice_get plan.units.items) k_is ∙ there) in
      let named : is_name_of plan u unit' name ≡ false =
      subst (λ (v : UnitPlan). is_name_of plan u v name ≡ false) unit_is (subst (λ (i : ℕ). is_name_of plan i unit name ≡ false) k_is other) in
      of u unit' there ∙ both_false (is_name_of plan u unit' name) (nat_lt u k) (nat_lt u (k + 1)) (slice_index_or old u false) named
  | inr differs ↦
      of u unit' there
      ∙ ap (λ (b : Bool). if is_name_of plan u unit' name && b then true else slice_index_or old u false) (sym (lt_next_other u k (eqb-false k u differs)))
]

pub none_marked : (plan : Plan) (stated : List Bool) (name : ℕ) → IsMarkedBelow plan stated stated name 0
none_marked plan stated name = λ u unit there. none_below (is_name_of plan u unit name) (nat_lt u 0) (slice_index_or stated u false) (not_below_zero u)

pub all_marked : (plan : Plan) (old new : Holders) (name k : ℕ) → length plan.units.items ≤ k → IsMarkedBelow plan old.heard new.heard name k
    → IsMarked plan old new name
all_marked plan old new name k past of = λ u unit there.
    let within = slice_get_within plan.units.items u unit there in
    of u unit there ∙ every (is_name_of plan u unit name) (nat_lt u k) (slice_index_or old.heard u false) (lt-ltb u k (omega (arith, within, past)))

-- ---- what is looked up

pub vacant : (k a n : ℕ) → slice_get (replicate k None) a ≢ Some (Some n)
vacant zero a n e = none-some (Some n) e
vacant (suc k) zero n e = empty_there n e
vacant (suc k) (suc a) n e = vacant k a n e

pub found : (plan : Plan) (h : Holders) (frames : List Frame) (address : ℕ) (r : Option ℕ) → Recounts plan h frames → IfSome r (λ n. HasNameAt h address n)
    → ((n : ℕ) → HasNameAt h address n → r ≡ Some n) → IsHolder frames address r
found plan h frames address (Some n) of some only = of.held address n some
found plan h frames address None of some only = λ name holds. none-some name (only name (of.holds address name holds))

pub unmarked : (k u : ℕ) → slice_index_or (replicate k false) u false ≡ false
unmarked zero u = refl
unmarked (suc k) zero = refl
unmarked (suc k) (suc u) = unmarked k u
