-- Places of what is there among what is there.
use Rattle.std.proofs.Common.{◌≡◌, ◌≢◌, ℕ, zero, suc, ◌+◌, ◌<◌, ◌≤◌, List, [], ◌∷◌, ◌++◌, Bool, true, false, Option, Some, None, map, length, get_or, drop, All}
use Rattle.std.proofs.Common.{AllPairs, refl, sym, ap, ◌∙◌, arith, subst, add-one}
use denote.Struct.Props.{props}
use Rattle.std.specs.Option.{ForSome}
use Rattle.std.specs.List.{AllZip, cons_option, filter_map, slice_get}
use Rattle.std.specs.Option.{option_map_or}
use Rattle.std.specs.Prelude.{unwrap_or, option_map}
use Rattle.std.proofs.lemmas.Option.{same_Some, none-some}
use Rattle.std.proofs.lemmas.List.Elements.{All-cons}
use Rattle.j39_network.specs.declared.plan.group_plan.GroupPlan.{GroupPlan}
use Rattle.j39_network.specs.NeedPlaces.{signal_count}
use Rattle.j39_network.specs.declared.plan.flow_plan.FlowPlan.{FlowPlan}
use Rattle.j39_network.specs.declared.plan.need_plan.NeedPlan.{NeedPlan}
use Rattle.j39_network.specs.declared.plan.request_plan.RequestPlan.{RequestPlan}
use Rattle.j39_network.specs.declared.plan.to.To.{To}
use Rattle.j39_network.specs.declared.plan.to.To.TheVariants as to
use Rattle.j39_network.specs.declared.plan.to.To.TheVariants.{One}
use Rattle.j39_variants.specs.VariantPlans.{IsCopyOfGroup, flow_between, moved_from, moved_receivers, need_between, picked, place_at, places, request_between}
use Rattle.j39_variants.specs.VariantPlans.{made_of, where_all_are}

-- where a place is: what stands there is what stood at the old one
pub record Located {X : Type 0} (bs : List Bool) (xs : List X) (n i p : ℕ) : Type 0 where
  pub q : ℕ
  pub is : p ≡ n + q
  pub same : slice_get (picked bs xs) q ≡ slice_get xs i
  pub below : q < length (picked bs xs)

behind_one : {X : Type 0} (bs : List Bool) (x : X) (xs : List X) (n i p : ℕ) → Located bs xs (n + 1) i p → Located (true ∷ bs) (x ∷ xs) n (suc i) p
behind_one bs x xs n i p l = record {
  q = suc l.q;
  is = let e = l.is in omega (arith, e);
  same = l.same;
  below = let b = l.below in omega (arith, b);
}

pub located : {X : Type 0} (bs : List Bool) (xs : List X) (n i p : ℕ) → length bs ≡ length xs → place_at (places n bs) i ≡ Some p → Located bs xs n i p
located [] xs n i p same at = absurd (none-some p at)
located (b ∷ bs) [] n i p same at = absurd (omega (arith, same))
located (true ∷ bs) (x ∷ xs) n zero p same at =
    let e : n ≡ p = same_Some n p at in
    record { q = 0; is = omega (arith, e); same = refl; below = omega arith }
located (true ∷ bs) (x ∷ xs) n (suc i) p same at = behind_one bs x xs n i p (located bs xs (n + 1) i p (omega (arith, same)) at)
located (false ∷ bs) (x ∷ xs) n zero p same at = absurd (none-some p at)
located (false ∷ bs) (x ∷ xs) n (suc i) p same at =
    let l = located bs xs n i p (omega (arith, same)) at in
    record { q = l.q; is = l.is; same = l.same; below = l.below }

-- a place is one of those picked
pub place_below : {X : Type 0} (bs : List Bool) (xs : List X) (i p : ℕ) → length bs ≡ length xs → place_at (places 0 bs) i ≡ Some p → p < length (picked bs xs)
place_below bs xs i p same at =
    let l = located bs xs 0 i p same at in
    let is : p ≡ 0 + l.q = l.is in
    let below : l.q < length (picked bs xs) = l.below in
    omega (arith, is, below)

pub place_same : {X : Type 0} (bs : List Bool) (xs : List X) (i p : ℕ) → length bs ≡ length xs → place_at (places 0 bs) i ≡ Some p
    → slice_get (picked bs xs) p ≡ slice_get xs i
place_same bs xs i p same at =
    let l = located bs xs 0 i p same at in
    let is : p ≡ l.q = let e : p ≡ 0 + l.q = l.is in omega (arith, e) in
    rw is l.same

-- ---- what is picked

pub picked_count : {X : Type 0} (bs : List Bool) (xs : List X) → length (picked bs xs) ≤ length xs
picked_count [] xs = omega arith
picked_count (b ∷ bs) [] = omega arith
picked_count (true ∷ bs) (x ∷ xs) = let h = picked_count bs xs in omega (arith, h)
picked_count (false ∷ bs) (x ∷ xs) = let h = picked_count bs xs in omega (arith, h)

pub picked_all : {X : Type 0} (P : X → Type 0) (bs : List Bool) (xs : List X) → All P xs → All P (picked bs xs)
picked_all P [] xs all = λ k d below. absurd (omega arith)
picked_all P (b ∷ bs) [] all = λ k d below. absurd (omega arith)
picked_all P (true ∷ bs) (x ∷ xs) all = All-cons P x (picked bs xs) (all 0 x (omega arith)) (picked_all P bs xs (λ k d below. all (suc k) d (omega arith)))
picked_all P (false ∷ bs) (x ∷ xs) all = picked_all P bs xs (λ k d below. all (suc k) d (omega arith))

pairs_cons : {X : Type 0} (R : X → X → Type 0) (x : X) (xs : List X) → All (R x) xs → AllPairs R xs → AllPairs R (x ∷ xs)
pairs_cons R x xs here more zero zero d before below = absurd (omega arith)
pairs_cons R x xs here more zero (suc j) d before below = here j d (omega arith)
pairs_cons R x xs here more (suc i) zero d before below = absurd (omega arith)
pairs_cons R x xs here more (suc i) (suc j) d before below = more i j d (omega arith) (omega arith)

pub picked_pairs : {X : Type 0} (R : X → X → Type 0) (bs : List Bool) (xs : List X) → AllPairs R xs → AllPairs R (picked bs xs)
picked_pairs R [] xs all = λ i j d before below. absurd (omega arith)
picked_pairs R (b ∷ bs) [] all = λ i j d before below. absurd (omega arith)
picked_pairs R (true ∷ bs) (x ∷ xs) all =
    pairs_cons R x (picked bs xs) (picked_all (R x) bs xs (λ k d below. all 0 (suc k) d (omega arith) (omega arith)))
    (picked_pairs R bs xs (λ i j d before below. all (suc i) (suc j) d (omega arith) (omega arith)))
picked_pairs R (false ∷ bs) (x ∷ xs) all = picked_pairs R bs xs (λ i j d before below. all (suc i) (suc j) d (omega arith) (omega arith))

-- ---- what is mapped

cons_count : {Y : Type 0} (o : Option Y) (ys : List Y) (n : ℕ) → length ys ≤ n → length (cons_option o ys) ≤ n + 1
cons_count None ys n few = omega (arith, few)
cons_count (Some y) ys n few = omega (arith, few)

pub mapped_count : {X Y : Type 0} (f : X → Option Y) (xs : List X) → length (filter_map f xs) ≤ length xs
mapped_count f [] = omega arith
mapped_count f (x ∷ xs) = let h = cons_count (f x) (filter_map f xs) (length xs) (mapped_count f xs) in omega (arith, h)

cons_all : {Y : Type 0} (P : Y → Type 0) (o : Option Y) (ys : List Y) → ((y : Y) → o ≡ Some y → P y) → All P ys → All P (cons_option o ys)
cons_all P None ys here more = more
cons_all P (Some y) ys here more = All-cons P y ys (here y refl) more

-- what holds of each value that comes of one of which something holds
pub mapped_all : {X Y : Type 0} (Q : X → Type 0) (P : Y → Type 0) (f : X → Option Y) → ((x : X) (y : Y) → Q x → f x ≡ Some y → P y)
    → (xs : List X) → All Q xs → All P (filter_map f xs)
mapped_all Q P f holds [] all = λ k d below. absurd (omega arith)
mapped_all Q P f holds (x ∷ xs) all =
    cons_all P (f x) (filter_map f xs) (λ y is. holds x y (all 0 x (omega arith)) is) (mapped_all Q P f holds xs (λ k d below. all (suc k) d (omega arith)))

-- ---- ends of flows and requests

some_place : (o : Option ℕ) (r : ℕ) → option_map One o ≡ Some (One r) → o ≡ Some r
some_place None r e = cc
some_place (Some u) r e = cc

pub to_place : (units : List (Option ℕ)) (t : To) (r : ℕ) → moved_receivers units t ≡ Some (One r) → (u : ℕ) × (place_at units u ≡ Some r)
to_place units to.All r e = cc
to_place units (One u) r e = (u, some_place (place_at units u) r e)

-- the three values of which something was made
pub record MadeOf {A B C X : Type 0} (make : A → B → C → X) (a : Option A) (b : Option B) (c : Option C) (y : X) : Type 0 where
  pub first : A
  pub second : B
  pub third : C
  pub first_is : a ≡ Some first
  pub second_is : b ≡ Some second
  pub third_is : c ≡ Some third
  pub made : make first second third ≡ y

pub made_parts : {A B C X : Type 0} (make : A → B → C → X) (a : Option A) (b : Option B) (c : Option C) (y : X) → made_of make a b c ≡ Some y
    → MadeOf make a b c y
made_parts make (Some a) (Some b) (Some c) y e =
    record { first = a; second = b; third = c; first_is = refl; second_is = refl; third_is = refl; made = same_Some _ _ e }
made_parts make None b c y e = cc
made_parts make (Some a) None c y e = cc
made_parts make (Some a) (Some b) None y e = cc

-- the group, the sender and the receivers of a flow or a request
pub record SentParts (g s : Option ℕ) (t : Option To) (new_group new_sender : ℕ) (new_to : To) : Type 0 where
  pub group : g ≡ Some new_group
  pub sender : s ≡ Some new_sender
  pub receivers : t ≡ Some new_to

sent_parts : {X : Type 0} (group sender : X → ℕ) (to : X → To) (make : ℕ → ℕ → To → X)
    → ((g s : ℕ) (t : To) → (group (make g s t) ≡ g) × (sender (make g s t) ≡ s) × (to (make g s t) ≡ t))
    → (g s : Option ℕ) (t : Option To) (y : X) → made_of make g s t ≡ Some y → SentParts g s t (group y) (sender y) (to y)
sent_parts group sender to make has g s t y e =
    let parts = made_parts make g s t y e in
    let same = has parts.first parts.second parts.third in
    record {
      group = parts.first_is ∙ ap Some (sym same.0 ∙ ap group parts.made);
      sender = parts.second_is ∙ ap Some (sym same.1 ∙ ap sender parts.made);
      receivers = parts.third_is ∙ ap Some (sym same.2 ∙ ap to parts.made);
    }

pub flow_parts : (f : FlowPlan) (g s : Option ℕ) (t : Option To) (y : FlowPlan) → flow_between f g s t ≡ Some y → SentParts g s t y.group y.sender y.to
flow_parts f = sent_parts (λ y. y.group) (λ y. y.sender) (λ y. y.to) (λ g s t. record f { group = g; sender = s; to = t }) (λ g s t. (refl, refl, refl))

pub request_parts : (r : RequestPlan) (g s : Option ℕ) (t : Option To) (y : RequestPlan) → request_between r g s t ≡ Some y
    → SentParts g s t y.group y.sender y.to
request_parts r = sent_parts (λ y. y.group) (λ y. y.sender) (λ y. y.to) (λ g s t. record r { group = g; sender = s; to = t }) (λ g s t. (refl, refl, refl))

-- ---- needs

pub record NeedParts (d : NeedPlan) (u g : Option ℕ) (s : Option (Option ℕ)) (y : NeedPlan) : Type 0 where
  pub unit : u ≡ Some y.unit
  pub group : g ≡ Some y.group
  pub sender : s ≡ Some y.from
  pub signal : y.signal ≡ d.signal

pub need_parts : (d : NeedPlan) (u g : Option ℕ) (s : Option (Option ℕ)) (y : NeedPlan) → need_between d u g s ≡ Some y → NeedParts d u g s y
need_parts d u g s y e =
    let parts = made_parts _ u g s y e in
    record {
      unit = parts.first_is ∙ ap (λ (z : NeedPlan). Some z.unit) parts.made;
      group = parts.second_is ∙ ap (λ (z : NeedPlan). Some z.group) parts.made;
      sender = parts.third_is ∙ ap (λ (z : NeedPlan). Some z.from) parts.made;
      signal = sym (ap (λ (z : NeedPlan). z.signal) parts.made);
    }

some_from : (o : Option ℕ) (r : ℕ) → option_map Some o ≡ Some (Some r) → o ≡ Some r
some_from None r e = cc
some_from (Some u) r e = cc

pub from_place : (units : List (Option ℕ)) (s : Option ℕ) (r : ℕ) → moved_from units s ≡ Some (Some r) → (u : ℕ) × (place_at units u ≡ Some r)
from_place units None r e = cc
from_place units (Some u) r e = (u, some_from (place_at units u) r e)

-- a group that was copied has as many signals
pub copied_signals : (gs hs : List GroupPlan) (i : ℕ) → AllZip IsCopyOfGroup gs hs → signal_count hs i ≡ signal_count gs i
copied_signals [] [] i zip = refl
copied_signals [] (h ∷ hs) i zip = absurd zip
copied_signals (g ∷ gs) [] i zip = absurd zip
copied_signals (g ∷ gs) (h ∷ hs) zero zip = ap length zip.0.signals
copied_signals (g ∷ gs) (h ∷ hs) (suc i) zip = copied_signals gs hs i zip.1

pub copied_count : (gs hs : List GroupPlan) → AllZip IsCopyOfGroup gs hs → length hs ≡ length gs
copied_count [] [] zip = refl
copied_count [] (h ∷ hs) zip = absurd zip
copied_count (g ∷ gs) [] zip = absurd zip
copied_count (g ∷ gs) (h ∷ hs) zip = let e = copied_count gs hs zip.1 in omega (arith, e)

other_labels : (g h : GroupPlan) (gs hs : List GroupPlan) → IsCopyOfGroup g h → AllZip IsCopyOfGroup gs hs
    → All (λ x. g.label.bytes ≢ x.label.bytes) gs → All (λ x. h.label.bytes ≢ x.label.bytes) hs
other_labels g h [] [] copy zip all = λ k d below. absurd (omega arith)
other_labels g h [] (x ∷ hs) copy zip all = absurd zip
other_labels g h (x ∷ gs) [] copy zip all = absurd zip
other_labels g h (x ∷ gs) (y ∷ hs) copy zip all =
    All-cons (λ z. h.label.bytes ≢ z.label.bytes) y hs
    (λ e. all 0 x (omega arith) (sym (ap (λ l. l.bytes) copy.label) ∙ e ∙ ap (λ l. l.bytes) zip.0.label))
    (other_labels g h gs hs copy zip.1 (λ k d below. all (suc k) d (omega arith)))

pub copied_labels : (gs hs : List GroupPlan) → AllZip IsCopyOfGroup gs hs → AllPairs (λ g h. g.label.bytes ≢ h.label.bytes) gs
    → AllPairs (λ g h. g.label.bytes ≢ h.label.bytes) hs
copied_labels [] [] zip all = λ i j d before below. absurd (omega arith)
copied_labels [] (h ∷ hs) zip all = absurd zip
copied_labels (g ∷ gs) [] zip all = absurd zip
copied_labels (g ∷ gs) (h ∷ hs) zip all =
    pairs_cons (λ g h. g.label.bytes ≢ h.label.bytes) h hs
    (other_labels g h gs hs zip.0 zip.1 (λ k d below. all 0 (suc k) d (omega arith) (omega arith)))
    (copied_labels gs hs zip.1 (λ i j d before below. all (suc i) (suc j) d (omega arith) (omega arith)))

-- ---- what is moved

-- what is made of three values that are there, whatever proof that a number is positive stands in it
pub made_where_all_are : {A B C X : Type 0} (o : Option ℕ) (make : ForSome o (λ n. 1 ≤ n) → A → B → C → X) (p q : ForSome o (λ n. 1 ≤ n))
    (a : Option A) (b : Option B) (c : Option C) (x : A) (y : B) (z : C) → Some (x, y, z) ≡ where_all_are a b c → Some (make p x y z) ≡ made_of (make q) a b c
made_where_all_are o make p q (Some a) (Some b) (Some c) x y z e =
    let prop : IsProp (ForSome o (λ n. 1 ≤ n)) = hlevel props in
    ap (λ r. Some (make r x y z)) (prop p q) ∙ ap (λ t. Some (make q t.0 t.1 t.2)) (same_Some _ _ e)
made_where_all_are o make p q None b c x y z e = cc
made_where_all_are o make p q (Some a) None c x y z e = cc
made_where_all_are o make p q (Some a) (Some b) None x y z e = cc
