-- What follows where a list of faults is empty.
use Rattle.std.proofs.Common.{is_some, Some, None}
use Rattle.j39_toml.specs.declared.cause.Cause.TheVariants.{TooMany}
use Rattle.std.proofs.Common.{◌≡◌, ◌≢◌, ℕ, ◌≤◌, Bool, true, false, ◌&&◌, if◌then◌else◌, List, []}
use Rattle.std.proofs.Common.{◌∷◌, ◌++◌, length, map, All, AllPairs, refl, ap, append_assoc, arith, suc, nat_le}
use Rattle.std.proofs.lemmas.Bool.{leb-true, or_parts}
use Rattle.std.proofs.lemmas.Bool.Decides.{not_from_Decides}
use Rattle.std.proofs.lemmas.List.{append-nil, length-map, get_or-map}
use Rattle.std.proofs.lemmas.List.Elements.{All-cons}
use Rattle.std.proofs.lemmas.List.Quantifiers.{all_pairs_push}
use Rattle.std.proofs.lemmas.Slice.Eq.{bytes_eq-Decides}
use Rattle.std.specs.Str.{bytes_eq}
use Rattle.toml.specs.Data.{Data, Items, no_items, item, Members}
use Rattle.j39_plan.specs.PlanErrors.{PlanFault}
use Rattle.j39_plan.specs.declared.reading.key.Key.{Key}
use Rattle.j39_plan.specs.declared.reading.place.Table.{Table}
use Rattle.j39_plan.specs.declared.reading.text_kind.TextKind.{TextKind}
use Rattle.j39_plan.specs.TextKinds.{takes}
use Rattle.j39_plan.specs.Schema.{tables, tables_of}
use Rattle.j39_toml.specs.Rules.{items_count, array_up_to}
use Rattle.j39_toml.specs.InOrder.{each_faults, Each, labels_of}
use Rattle.j39_plan.specs.LabelsSeen.{is_label_among, repeated_faults}

pub none_left : (xs ys : List PlanFault) → xs ++ ys ≡ [] → xs ≡ []
none_left [] ys e = refl
none_left (x ∷ xs) ys e = cc

pub none_right : (xs ys : List PlanFault) → xs ++ ys ≡ [] → ys ≡ []
none_right [] ys e = e
none_right (x ∷ xs) ys e = cc

-- ---- how many elements there are

count_if : (b : Bool) (limit : ℕ) (ds : Items) → nat_le (items_count ds) limit ≡ b
    → items_count (if is_some (if b then None else Some TooMany) then no_items else ds) ≤ limit
count_if true limit ds e = leb-true (items_count ds) limit e
count_if false limit ds e = omega arith

pub tables_count : (key : Key) (limit : ℕ) (ms : Members) → items_count (tables_of (tables key limit) ms) ≤ limit
unfolding tables_of array_up_to
tables_count key limit ms = count_if _ limit _ refl

-- ---- element by element

pub length-Each : {T : Type 0} (Is : Data → T → Type 0) (ds : Items) (xs : List T) → Each Is ds xs → length xs ≡ items_count ds
unfolding Each
length-Each Is no_items [] each = refl
length-Each Is no_items (x ∷ xs) each = absurd each
length-Each Is (item d ds) [] each = absurd each
length-Each Is (item d ds) (x ∷ xs) each = ap suc (length-Each Is ds xs each.1)

pub Each-weaken : {T : Type 0} (Is Was : Data → T → Type 0) (weaker : (d : Data) (x : T) → Is d x → Was d x) (ds : Items) (xs : List T)
    → Each Is ds xs → Each Was ds xs
unfolding Each
Each-weaken Is Was weaker no_items [] each = tt
Each-weaken Is Was weaker no_items (x ∷ xs) each = each
Each-weaken Is Was weaker (item d ds) [] each = each
Each-weaken Is Was weaker (item d ds) (x ∷ xs) each = (weaker d x each.0, Each-weaken Is Was weaker ds xs each.1)

pub Each-map : {X Y : Type 0} (f : X → Y) (Is : Data → X → Type 0) (Was : Data → Y → Type 0) (holds : (d : Data) (x : X) → Is d x → Was d (f x))
    (ds : Items) (xs : List X) → Each Is ds xs → Each Was ds (map f xs)
unfolding Each
Each-map f Is Was holds no_items [] each = tt
Each-map f Is Was holds no_items (x ∷ xs) each = absurd each
Each-map f Is Was holds (item d ds) [] each = absurd each
Each-map f Is Was holds (item d ds) (x ∷ xs) each = (holds d x each.0, Each-map f Is Was holds ds xs each.1)

pub All-from_Each : {T : Type 0} (Is : Data → T → Type 0) (P : T → Type 0) (holds : (d : Data) (x : T) → Is d x → P x) (ds : Items) (xs : List T)
    → Each Is ds xs → All P xs
unfolding Each
All-from_Each Is P holds no_items [] each = λ k d below. absurd (omega arith)
All-from_Each Is P holds no_items (x ∷ xs) each = absurd each
All-from_Each Is P holds (item d ds) [] each = absurd each
All-from_Each Is P holds (item d ds) (x ∷ xs) each = All-cons P x xs (holds d x each.0) (All-from_Each Is P holds ds xs each.1)

-- ---- labels

pub labels_stated : {T : Type 0} (Is : Data → T → Type 0) (label_of : Data → List ℕ) (label_bytes : T → List ℕ)
    (same : (d : Data) (x : T) → Is d x → label_bytes x ≡ label_of d) (ds : Items) (xs : List T) → Each Is ds xs
    → map label_bytes xs ≡ labels_of label_of ds
unfolding Each labels_of
labels_stated Is label_of label_bytes same no_items [] each = refl
labels_stated Is label_of label_bytes same no_items (x ∷ xs) each = absurd each
labels_stated Is label_of label_bytes same (item d ds) [] each = absurd each
labels_stated Is label_of label_bytes same (item d ds) (x ∷ xs) each = rw (same d x each.0, labels_stated Is label_of label_bytes same ds xs each.1)

-- no two labels are one
abbrev pub AreApart : List (List ℕ) → Type 0
AreApart = AllPairs (λ l m. l ≢ m)

nothing_apart : AreApart []
nothing_apart i j d before below = absurd (omega arith)

pub apart_from : (seen : List (List ℕ)) (label : List ℕ) → is_label_among seen label ≡ false → All (λ l. l ≢ label) seen
apart_from [] label none = λ k d below. absurd (omega arith)
apart_from (l ∷ seen) label none =
    let parts = or_parts (bytes_eq l label) (is_label_among seen label) none in
    All-cons (λ m. m ≢ label) l seen (not_from_Decides (bytes_eq l label) (bytes_eq-Decides l label) parts.0) (apart_from seen label parts.1)

repeated : (taken is_old : Bool) (f : PlanFault) → taken ≡ true → (if taken && is_old then f ∷ [] else []) ≡ [] → is_old ≡ false
repeated true true f e none = cc
repeated true false f e none = refl
repeated false is_old f e none = cc

-- a label that is no fault is none of those before it
pub fresh_label : (at : Table) (kind : TextKind) (seen : List (List ℕ)) (label : List ℕ) → takes kind label ≡ true
    → repeated_faults at kind seen label ≡ [] → is_label_among seen label ≡ false
unfolding repeated_faults
fresh_label at kind seen label taken none = repeated (takes kind label) (is_label_among seen label) _ taken none

apart_behind : {T : Type 0} (Is : Data → T → Type 0) (faults : ℕ → List (List ℕ) → Data → List PlanFault) (label_of : Data → List ℕ)
    (fresh : (i : ℕ) (seen : List (List ℕ)) (d : Data) (x : T) → Is d x → faults i seen d ≡ [] → is_label_among seen (label_of d) ≡ false)
    → (i : ℕ) (seen : List (List ℕ)) (ds : Items) (xs : List T) → Each Is ds xs → each_faults faults label_of i seen ds ≡ [] → AreApart seen
    → AreApart (seen ++ labels_of label_of ds)
unfolding Each each_faults labels_of
apart_behind Is faults label_of fresh i seen no_items xs each none apart = rw (append-nil seen) apart
apart_behind Is faults label_of fresh i seen (item d ds) [] each none apart = absurd each
apart_behind Is faults label_of fresh i seen (item d ds) (x ∷ xs) each none apart =
    let here = fresh i seen d x each.0 (none_left _ _ none) in
    let more = all_pairs_push (λ l m. l ≢ m) seen (label_of d) apart (apart_from seen (label_of d) here) in
    rw (← append_assoc seen (label_of d ∷ []) (labels_of label_of ds))
    (apart_behind Is faults label_of fresh (suc i) (seen ++ label_of d ∷ []) ds xs each.1 (none_right _ _ none) more)

apart_from_map : {T : Type 0} (label_bytes : T → List ℕ) (xs : List T) → AreApart (map label_bytes xs)
    → AllPairs (λ x y. label_bytes x ≢ label_bytes y) xs
apart_from_map label_bytes xs apart i j d before below =
    let at_i = get_or-map label_bytes xs i d (label_bytes d) (omega arith) in
    let at_j = get_or-map label_bytes xs j d (label_bytes d) below in
    rw (← at_i, ← at_j) (apart i j (label_bytes d) before (rw length-map below))

-- elements without faults have labels that are apart
pub labels_apart : {T : Type 0} (Is : Data → T → Type 0) (faults : ℕ → List (List ℕ) → Data → List PlanFault) (label_of : Data → List ℕ)
    (label_bytes : T → List ℕ)
    (same : (d : Data) (x : T) → Is d x → label_bytes x ≡ label_of d)
    (fresh : (i : ℕ) (seen : List (List ℕ)) (d : Data) (x : T) → Is d x → faults i seen d ≡ [] → is_label_among seen (label_of d) ≡ false)
    → (ds : Items) (xs : List T) → Each Is ds xs → each_faults faults label_of 0 [] ds ≡ [] → AllPairs (λ x y. label_bytes x ≢ label_bytes y) xs
labels_apart Is faults label_of label_bytes same fresh ds xs each none =
    apart_from_map label_bytes xs
    (rw (labels_stated Is label_of label_bytes same ds xs each) (apart_behind Is faults label_of fresh 0 [] ds xs each none nothing_apart))
