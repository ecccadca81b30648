-- Names that are added one after another.
use Rattle.std.proofs.Common.{◌≡◌, ℕ, ◌+◌, ◌<◌, ◌≤◌, ◌==◌, Bool, true, false, cond, if◌then◌else◌, nat_eq, List, [], ◌∷◌, ◌++◌, take, length, get_or, Option}
use Rattle.std.proofs.Common.{Some, None, is_some, option_map, refl, sym, ap, ◌∙◌, append_assoc, arith}
use Rattle.std.proofs.Math.Path.{fun_ext}
use Rattle.std.specs.List.{find, zip}
use Rattle.std.specs.Option.{option_or, option_map_or}
use Rattle.std.proofs.lemmas.Bool.{eqb-true}
use Rattle.std.proofs.lemmas.List.{append-nil, get_or-map, length-map, take_all, take_more}
use Rattle.std.proofs.lemmas.List.Folds.{find-append}
use Rattle.std.proofs.lemmas.Slice.Zip.{get_or-zip, length-zip}
use Rattle.j39_signal.specs.declared.signal_parts.SignalParts.{SignalParts}
use Rattle.j39_network.specs.declared.plan.group_plan.GroupPlan.{GroupPlan}
use Rattle.j39_network.specs.declared.plan.meaning.Meaning.{Meaning}
use Rattle.j39_network.specs.declared.plan.meaning.ValueName.{ValueName}
use Rattle.j39_log.specs.NamedReports.{NumberNames, Numbered, all_numbered, first_names, is_numbered, numbered_as, numbered_signals, value_names}
use Rattle.j39_log.specs.inside.NameTables.{with_name}

or_nothing : (o : Option (List ℕ)) → o ≡ option_or o None
or_nothing None = refl
or_nothing (Some x) = refl

-- ---- one more name

kept_at : (names : NumberNames) (number n : ℕ) (name x : List ℕ) (same : Bool) → nat_eq number n ≡ same → names number ≡ Some x
    → names n ≡ option_or (names n) (if same then Some name else None)
kept_at names number n name x true is has =
    let here : names n ≡ Some x = ap names (sym (eqb-true number n is)) ∙ has in
    rw here refl
kept_at names number n name x false is has = or_nothing (names n)

kept_by : (names : NumberNames) (number : ℕ) (name : List ℕ) (own : Option (List ℕ)) → names number ≡ own → is_some own ≡ true
    → names ≡ with_name names number name
kept_by names number name None is has = cc
kept_by names number name (Some x) is has = fun_ext (λ n. kept_at names number n name x (nat_eq number n) refl is)

-- a number that has a name keeps it
pub kept : (names : NumberNames) (number : ℕ) (name : List ℕ) → is_some (names number) ≡ true → names ≡ with_name names number name
kept names number name has = kept_by names number name (names number) refl has

put_at : (names : NumberNames) (number n : ℕ) (name : List ℕ) (same : Bool) → nat_eq number n ≡ same → names number ≡ None
    → cond same (Some name) (names n) ≡ option_or (names n) (if same then Some name else None)
put_at names number n name true is none =
    let here : names n ≡ None = ap names (sym (eqb-true number n is)) ∙ none in
    rw here refl
put_at names number n name false is none = or_nothing (names n)

none_there : (own : Option (List ℕ)) → is_some own ≡ false → own ≡ None
none_there None is = refl
none_there (Some x) is = cc

-- one that has none gets it
pub put : (names new : NumberNames) (number : ℕ) (name : List ℕ) → is_some (names number) ≡ false
    → ((n : ℕ) → new n ≡ cond (nat_eq number n) (Some name) (names n)) → new ≡ with_name names number name
put names new number name none updates =
    fun_ext (λ n. updates n ∙ put_at names number n name (nat_eq number n) refl (none_there (names number) none))

-- ---- one more of a list

mapped_or : {X : Type 0} (f : X → List ℕ) (a b : Option X) → option_map f (option_or a b) ≡ option_or (option_map f a) (option_map f b)
mapped_or f None b = refl
mapped_or f (Some x) b = refl

mapped_one : {X : Type 0} (f : X → List ℕ) (b : Bool) (x : X) → option_map f (cond b (Some x) None) ≡ (if b then Some (f x) else None)
mapped_one f true x = refl
mapped_one f false x = refl

found_pushed : {X : Type 0} (p : X → Bool) (f : X → List ℕ) (xs : List X) (x : X)
    → option_map f (find p (xs ++ x ∷ [])) ≡ option_or (option_map f (find p xs)) (if p x then Some (f x) else None)
found_pushed p f xs x =
    ap (option_map f) (find-append p xs (x ∷ [])) ∙ mapped_or f (find p xs) (find p (x ∷ []))
    ∙ ap (option_or (option_map f (find p xs))) (mapped_one f (p x) x)

pub value_pushed : (values : List ValueName) (v : ValueName) → with_name (value_names values) v.raw v.name.bytes ≡ value_names (values ++ v ∷ [])
value_pushed values v = fun_ext (λ n. sym (found_pushed (λ (w : ValueName). w.raw == n) (λ (w : ValueName). w.name.bytes) values v))

numbered_at : (spn : ℕ) (s : Numbered) (number : Option ℕ) → s.number ≡ number → is_numbered spn s ≡ option_map_or (λ n. n == spn) number false
numbered_at spn s number is = rw is refl

pub signal_pushed : (before : List Numbered) (s : Numbered) (number : ℕ) → s.number ≡ Some number
    → with_name (first_names before) number s.name ≡ first_names (before ++ s ∷ [])
signal_pushed before s number is =
    fun_ext (λ n. sym (found_pushed (is_numbered n) (λ (t : Numbered). t.name) before s
    ∙ ap (λ (b : Bool). option_or (first_names before n) (if b then Some s.name else None)) (numbered_at n s (Some number) is)))

pub signal_passed : (before : List Numbered) (s : Numbered) → s.number ≡ None → first_names before ≡ first_names (before ++ s ∷ [])
signal_passed before s is =
    fun_ext (λ n. sym (found_pushed (is_numbered n) (λ (t : Numbered). t.name) before s
    ∙ ap (λ (b : Bool). option_or (first_names before n) (if b then Some s.name else None)) (numbered_at n s None is)
    ∙ sym (or_nothing (first_names before n))))

-- the signals of a group up to one and that one
pub numbered_more : (group : GroupPlan) (i : ℕ) (s : SignalParts) (m : Meaning) → i < length group.meanings.items
    → s ≡ get_or group.signals.items i s → m ≡ get_or group.meanings.items i m
    → take (i + 1) (numbered_signals group) ≡ take i (numbered_signals group) ++ numbered_as group (s, m) ∷ []
numbered_more group i s m less signal meaning =
    let pairs : List (SignalParts × Meaning) = zip group.signals.items group.meanings.items in
    let count = group.meaning_count in
    let size : i < length pairs = omega (arith, length-zip group.signals.items group.meanings.items, count) in
    let all : i < length (numbered_signals group) = omega (arith, size, length-map pairs (numbered_as group)) in
    let at : get_or pairs i (s, m) ≡ (s, m) =
    get_or-zip group.signals.items group.meanings.items i (s, m) (omega (arith, count)) less
    ∙ ap (λ (t : SignalParts). (t, get_or group.meanings.items i m)) (sym signal) ∙ ap (λ (n : Meaning). (s, n)) (sym meaning) in
    take_more (numbered_signals group) i (numbered_as group (s, m)) all
    ∙ ap (λ (x : Numbered). take i (numbered_signals group) ++ x ∷ [])
    (get_or-map (numbered_as group) pairs i (s, m) (numbered_as group (s, m)) size ∙ ap (numbered_as group) at)

-- the signals of groups, and those of one more
pub all_numbered_more : (groups : List GroupPlan) (group : GroupPlan) → all_numbered (groups ++ group ∷ []) ≡ all_numbered groups ++ numbered_signals group
unfolding all_numbered
all_numbered_more [] group = append-nil (numbered_signals group)
all_numbered_more (g ∷ groups) group =
    ap (λ (xs : List Numbered). numbered_signals g ++ xs) (all_numbered_more groups group)
    ∙ sym (append_assoc (numbered_signals g) (all_numbered groups) (numbered_signals group))

-- as many of a group's signals as it has are all
pub numbered_all : (group : GroupPlan) (n : ℕ) → length group.meanings.items ≤ n → take n (numbered_signals group) ≡ numbered_signals group
numbered_all group n past =
    let pairs : List (SignalParts × Meaning) = zip group.signals.items group.meanings.items in
    let count = group.meaning_count in
    let size : length pairs ≤ n = omega (arith, past, length-zip group.signals.items group.meanings.items, count) in
    take_all n (numbered_signals group) (omega (arith, size, length-map pairs (numbered_as group)))
