-- Each test of kinds, requests and needs decides what it tests.
use Rattle.std.proofs.Common.{◌≡◌, ℕ, zero, suc, ◌⊎◌, List, [], ◌∷◌, Bool, true, false, not, ◌||◌, Option, Some, None, Decides, refl, sym, ◌∙◌, inl, inr, subst}
use Rattle.std.specs.List.{list_any}
use Rattle.std.proofs.lemmas.Bool.{false≢true}
use Rattle.std.proofs.lemmas.Bool.Decides.{Decides-eqb, Decides-and, Decides-or, Decides-not, Decides-like}
use Rattle.std.proofs.lemmas.Option.{none-some, same_Some}
use Rattle.j39_search.specs.ListPlaces.{SomeMeets}
use Rattle.j39_network.specs.declared.plan.unit_plan.UnitPlan.{UnitPlan}
use Rattle.j39_network.specs.declared.plan.flow_plan.FlowPlan.{FlowPlan}
use Rattle.j39_network.specs.declared.plan.need_plan.NeedPlan.{NeedPlan}
use Rattle.j39_network.specs.declared.plan.request_plan.RequestPlan.{RequestPlan}
use Rattle.j39_network.specs.declared.plan.to.To.{To}
use Rattle.j39_network.specs.declared.plan.to.To.TheVariants.{All, One}
use Rattle.j39_network.specs.Kinds.{kind_of_name, MayBeOne, may_be_one}
use Rattle.j39_network.specs.Serving.{Meets, Serves, IsServed, IsAskedFor, is_to_one, is_to, have_same_receiver, is_from, is_reached, meets, serves, is_served}
use Rattle.j39_network.specs.Serving.{is_asked_for}

-- ---- units

pub not_is : (b : Bool) → Decides (not b) (b ≡ false)
not_is true = (λ e. sym e, λ e. sym e)
not_is false = (λ e. refl, λ e. refl)

pub Decides-may_be_one : (u v : UnitPlan) → Decides (may_be_one u v) (MayBeOne u v)
Decides-may_be_one u v =
    Decides-and _ _ (Decides-eqb (kind_of_name u.name) (kind_of_name v.name))
    (Decides-or _ _ (Decides-eqb u.name v.name) (Decides-or _ _ (λ e. e, λ e. e) (λ e. e, λ e. e)))

-- ---- flows

pub Decides-is_to_one : (to : To) → Decides (is_to_one to) ((receiver : ℕ) × (to ≡ One receiver))
Decides-is_to_one All = (λ e. absurd (false≢true e), λ (r, e). cc)
Decides-is_to_one (One receiver) = (λ e. (receiver, refl), λ h. refl)

pub Decides-is_to : (to : To) (unit : ℕ) → Decides (is_to to unit) (to ≡ One unit)
Decides-is_to All unit = (λ e. absurd (false≢true e), λ e. cc)
Decides-is_to (One receiver) unit = Decides-like _ (λ e. cc) (λ e. cc) (Decides-eqb receiver unit)

pub Decides-have_same_receiver : (to other : To) → Decides (have_same_receiver to other) (to ≡ other)
Decides-have_same_receiver All All = (λ e. refl, λ e. refl)
Decides-have_same_receiver All (One receiver) = (λ e. absurd (false≢true e), λ e. cc)
Decides-have_same_receiver (One receiver) other = Decides-like _ (λ e. sym e) (λ e. sym e) (Decides-is_to other receiver)

-- the first value meets P, or one behind it
some_from : {A : Type 0} (P : A → Type 0) (x : A) (xs : List A) → P x ⊎ SomeMeets P xs → SomeMeets P (x ∷ xs)
some_from P x xs (inl here) = (0, record { value = x; value_is = refl; meets = here })
some_from P x xs (inr (i, v)) = (suc i, record { value = v.value; value_is = v.value_is; meets = v.meets })

some_parts : {A : Type 0} (P : A → Type 0) (x : A) (xs : List A) → SomeMeets P (x ∷ xs) → P x ⊎ SomeMeets P xs
some_parts P x xs (zero, v) = inl (subst P (sym (same_Some _ _ v.value_is)) v.meets)
some_parts P x xs (suc i, v) = inr (i, record { value = v.value; value_is = v.value_is; meets = v.meets })

pub some_decides : {A : Type 0} {test : A → Bool} (P : A → Type 0) → ((x : A) → Decides (test x) (P x)) → (xs : List A)
    → Decides (list_any test xs) (SomeMeets P xs)
some_decides P by [] = (λ e. absurd (false≢true e), λ (i, v). absurd (none-some _ v.value_is))
some_decides P by (x ∷ xs) = Decides-like _ (some_from P x xs) (some_parts P x xs) (Decides-or _ _ (by x) (some_decides P by xs))

-- ---- private groups

all_from : (to : To) → not (is_to_one to) ≡ true → to ≡ All
all_from All is = refl
all_from (One receiver) is = absurd (false≢true is)

is_all : (to : To) → to ≡ All → not (is_to_one to) ≡ true
is_all All is = refl
is_all (One receiver) is = cc

pub to_all_decides : (to : To) → Decides (not (is_to_one to)) (to ≡ All)
to_all_decides to = (all_from to, is_all to)

-- ---- requests

reaches_decides : (to : To) (unit : ℕ) → Decides (is_reached to unit) ((to ≡ All) ⊎ (to ≡ One unit))
reaches_decides to unit = Decides-or _ _ (to_all_decides to) (Decides-is_to to unit)

pub Decides-serves : (r : RequestPlan) (f : FlowPlan) → Decides (serves r f) (Serves r f)
Decides-serves r f =
    Decides-like _ (λ h. record { group = h.0; other = h.1.0; asked = h.1.1.0; reaches = h.1.1.1 })
    (λ m. (m.group, (m.other, (m.asked, m.reaches))))
    (Decides-and _ _ (Decides-eqb f.group r.group)
    (Decides-and _ _ (Decides-not _ (Decides-eqb f.sender r.sender))
    (Decides-and _ _ (reaches_decides r.to f.sender) (reaches_decides f.to r.sender))))

pub Decides-is_served : (fs : List FlowPlan) (r : RequestPlan) → Decides (is_served fs r) (IsServed fs r)
Decides-is_served fs r = some_decides (Serves r) (Decides-serves r) fs

-- ---- needs

is_from_decides : (from : Option ℕ) (sender : ℕ) → Decides (is_from from sender) ((u : ℕ) → from ≡ Some u → sender ≡ u)
is_from_decides None sender = (λ e u is. absurd (none-some _ is), λ h. refl)
is_from_decides (Some unit) sender =
    Decides-like _ (λ e u is. e ∙ same_Some _ _ is) (λ h. h unit refl) (Decides-eqb sender unit)

unless : (b test : Bool) (P : Type 0) → Decides test P → Decides (not b || test) (b ≡ true → P)
unless true test P by = (λ e is. by.0 e, λ h. by.1 (h refl))
unless false test P by = (λ e is. absurd (false≢true is), λ h. refl)

asked_for_decides : (rs : List RequestPlan) (f : FlowPlan) → Decides (is_asked_for rs f) (IsAskedFor rs f)
asked_for_decides rs f = unless f.on_request _ _ (some_decides (λ r. Serves r f) (λ r. Decides-serves r f) rs)

pub Decides-meets : (rs : List RequestPlan) (need : NeedPlan) (flow : FlowPlan) → Decides (meets rs need flow) (Meets rs need flow)
Decides-meets rs need flow =
    Decides-like _ (λ h. record { group = h.0; other = h.1.0; from = h.1.1.0; reaches = h.1.1.1.0; comes = h.1.1.1.1 })
    (λ m. (m.group, (m.other, (m.from, (m.reaches, m.comes)))))
    (Decides-and _ _ (Decides-eqb flow.group need.group)
    (Decides-and _ _ (Decides-not _ (Decides-eqb flow.sender need.unit))
    (Decides-and _ _ (is_from_decides need.from flow.sender)
    (Decides-and _ _ (reaches_decides flow.to need.unit) (asked_for_decides rs flow)))))

pub Decides-some_meets : (rs : List RequestPlan) (fs : List FlowPlan) (need : NeedPlan)
    → Decides (list_any (meets rs need) fs) (SomeMeets (Meets rs need) fs)
Decides-some_meets rs fs need = some_decides (Meets rs need) (Decides-meets rs need) fs
