-- Who is the sender for sure, where no claim was heard: nobody but a unit that is planned at the address.
use Rattle.std.proofs.Common.{◌≡◌, ℕ, ◌<◌, ◌==◌, ◌&&◌, ◌||◌, Bool, true, false, not, if◌then◌else◌, List, [], Option, Some, None, refl, sym, ap, ◌∙◌, inl, inr}
use Rattle.std.proofs.Common.{eqb-true}
use Rattle.std.proofs.lemmas.Bool.{and_from, cases_Bool, eq-eqb, or_left, true≢false}
use Rattle.std.specs.List.{slice_get}
use Rattle.std.specs.Option.{option_map_or}
use Rattle.j39_network.specs.declared.plan.unit_plan.UnitPlan.{UnitPlan}
use Rattle.j39_audit.specs.Claiming.{Heard, HeardClaims, Knowledge, broken_off, first_there, has_strangers, is_address_of, is_another_there, is_free_for, is_strange}
use Rattle.j39_audit.specs.Claiming.{knowledge, may_be, may_stand, newest_of, sender_at, sure_sender}
use Rattle.j39_audit.specs.Settings.{Settings, moves, units_planned}
use Rattle.j39_audit.specs.declared.senders.SureSender.TheVariants.{Unit as OfUnit, Nobody, Unknown}
use Rattle.j39_audit.proofs.Below.{any_here}

-- ---- no claims

-- nobody has claimed anything
abbrev pub IsUnclaimed : HeardClaims → Type 0
IsUnclaimed claims = (claims.all ≡ []) × (claims.recent ≡ [])

pub still_none : (b : Bool) (claims : HeardClaims) → IsUnclaimed claims → IsUnclaimed (broken_off b claims)
still_none true claims none = (none.0, refl)
still_none false claims none = none

pub unheard : (s : Settings) (claims : HeardClaims) (u : ℕ) → IsUnclaimed claims → (knowledge s claims).last u ≡ None
unfolding newest_of
unheard s claims u none =
    ap (λ (l : List Heard). if s.part then None else newest_of u (if moves s u then claims.recent else l)) none.0
    ∙ ap (λ (l : List Heard). if s.part then None else newest_of u (if moves s u then l else [])) none.1 ∙ go s.part (moves s u)
  where
    go : (part moving : Bool) → (if part then None else newest_of u (if moving then [] else [])) ≡ None
    go true moving = refl
    go false true = refl
    go false false = refl

-- ---- who may be there

-- a unit that wasn't heard may be at its planned address
pub may_be_planned : (s : Settings) (k : Knowledge) (u a : ℕ) (unit : UnitPlan) → slice_get s.plan.units.items u ≡ Some unit → unit.address ≡ a
    → k.last u ≡ None
    → may_be s k u a ≡ true
unfolding may_be is_address_of
may_be_planned s k u a unit at planned none =
    ap (may_stand s u a) none
    ∙ (ap (λ (o : Option UnitPlan). option_map_or (λ (x : UnitPlan). x.address == a || (moves s u && is_free_for s a)) o false) at
    ∙ or_left (unit.address == a) (moves s u && is_free_for s a) (eq-eqb unit.address a planned))

-- who is the sender for sure is a unit that may be there
pub sole_sender : (s : Settings) (k : Knowledge) (a u sender : ℕ) → sender < units_planned s → may_be s k sender a ≡ true → sender_at s k a ≡ OfUnit u
    → sender ≡ u
unfolding sender_at is_another_there
sole_sender s k a u sender inside there is = go (is_strange s k a) (first_there s k a) is
  where
    of_other : (w : ℕ) (b : Bool) → is_another_there s k a w ≡ b → (if b then Unknown else OfUnit w) ≡ OfUnit u → sender ≡ u
    of_other w true other same = absurd cc
    of_other w false none same = elim (cases_Bool (sender == w)) [
      | inl one ↦ eqb-true sender w one ∙ cc
      | inr differs ↦ absurd (true≢false (sym (any_here (λ v. may_be s k v a && not (v == w)) sender (units_planned s)
          (and_from (may_be s k sender a) (not (sender == w)) there (ap not differs)) inside) ∙ none))
    ]

    nobody : (b : Bool) → (if b then Unknown else Nobody) ≡ OfUnit u → sender ≡ u
    nobody true same = absurd cc
    nobody false same = absurd cc

    go : (strange : Bool) (first : Option ℕ) → (if strange then Unknown else sure_sender s k a first) ≡ OfUnit u → sender ≡ u
    go true first same = absurd cc
    go false None same = nobody (has_strangers s) same
    go false (Some w) same = of_other w (is_another_there s k a w) refl same
