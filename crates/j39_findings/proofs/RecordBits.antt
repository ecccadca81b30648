-- Of a group in which no record comes onto another signal each bit is one signal's, and the signals of each message lay it out.
use Rattle.std.proofs.Common.{◌≡◌, ◌≢◌, ◌⊎◌, ℕ, zero, suc, ◌+◌, ◌-◌, ◌*◌, ◌%◌, ◌<◌, ◌≤◌, Bool, true, false, not, List, [], ◌∷◌, ◌++◌, map, get_or, All}
use Rattle.std.proofs.Common.{AllPairs, Contains, Some, None, Option, unwrap_or, refl, sym, ap, subst, ◌∙◌, inl, inr, arith}
use Rattle.std.specs.List.{filter, slice_get}
use Rattle.std.specs.Option.{option_map_or}
use Rattle.std.proofs.Math.Nat.{mul-add}
use Rattle.std.proofs.lemmas.Bool.{and_parts, cases_Bool, cases_lt, false≢true, not-true}
use Rattle.std.proofs.lemmas.List.Elements.{All-append, All-contains, All-contains_itself, All-filter, Contains-append_cases, filter_passes}
use Rattle.std.proofs.lemmas.List.Kept.{AllPairs-filter}
use Rattle.std.proofs.lemmas.Option.{same_Some, slice_get-get_or}
use Rattle.j39_signal.specs.declared.signal_parts.SignalParts.{SignalParts}
use Rattle.j39_signal.specs.Places.{Covers, IsAlwaysInside, IsInside, LaysOut, LaysOutFrom, is_there, SharesBit, WidthFits, further, width_fits}
use Rattle.j39_signal.proofs.There.{inside_there}
use Rattle.j39_signal.specs.declared.kind.Kind.{Kind}
use Rattle.j39_signal.specs.declared.kind.Kind.TheVariants.{Measured, Discrete, Raw, States, Signed, Dtc}
use Rattle.j39_network.specs.declared.plan.group_plan.GroupPlan.{GroupPlan}
use Rattle.j39_findings.specs.CleanParts.{HasBit, HasBitsOnce}
use Rattle.j39_findings.specs.Findings.{ComesOnto, HasRecordsOver}
use Rattle.j39_network.specs.Lengths.{IsLengthOf}
use Rattle.j39_search.specs.ListPlaces.{PairAt}
use Rattle.j39_network.specs.Records.{single_signals, stands_once, repeated_signals, record_signals, records_signals, record_count, signals_in}
use Rattle.j39_search.proofs.Members.{all_at}
use Rattle.j39_network.proofs.RecordCounts.{longer_has, records_counted, singles_alone}
use Rattle.j39_search.proofs.Rising.{Rises, Rises-append, AllPairs-from_Rises, all_by_contains}

-- ---- each bit is one signal's

-- nothing is found of the places of the group's signals and of its records
pub record IsApart (g : GroupPlan) : Type 0 where
  pub singles : (i j : ℕ) → ¬ PairAt SharesBit g.signals.items i j
  pub records : (i j : ℕ) → ¬ HasRecordsOver g i j

-- a signal that is repeated has a distance
given : (g : GroupPlan) (o : Option ℕ) → g.every ≡ o → (i : ℕ) (s : SignalParts) → slice_get g.signals.items i ≡ Some s → s.repeated ≡ true
    → (n : ℕ) × (g.every ≡ Some n)
given g None is i s at repeated = absurd (false≢true (sym (all_at (λ t. t.repeated ≡ false) g.signals.items (g.every_needed is) i s at) ∙ repeated))
given g (Some n) is i s at repeated = (n, is)

abbrev distance : GroupPlan → ℕ
distance g = unwrap_or g.every 0

-- of one record, the one before the other
none_of_both : (g : GroupPlan) → IsApart g → (i j k bit : ℕ) → HasBit g i k bit → HasBit g j k bit → i < j → ⊥
none_of_both g apart i j k bit v w less =
    let n : ℕ = distance g * k in
    apart.singles i j (record {
      first = v.value;
      second = w.value;
      below = less;
      first_is = v.value_is;
      second_is = w.value_is;
      related = (
        bit - 8 * n,
        (omega (arith, v.meets.0.0), omega (arith, v.meets.0.0, v.meets.0.1)),
        (omega (arith, w.meets.0.0), omega (arith, w.meets.0.0, w.meets.0.1)),
      );
    })

one_record : (g : GroupPlan) → IsApart g → (i j k bit : ℕ) → HasBit g i k bit → HasBit g j k bit → i ≡ j
one_record g apart i j k bit v w = elim (cases_lt i j) [
  | inl less ↦ absurd (none_of_both g apart i j k bit v w less)
  | inr least ↦ elim (cases_lt j i) [
    | inl more ↦ absurd (none_of_both g apart j i k bit w v more)
    | inr most ↦ omega arith
  ]
]

-- a record behind another has no bit of the one before it
onto : (g : GroupPlan) (every i j k l bit : ℕ) → g.every ≡ Some every → k < l → l < record_count g g.most → (v : HasBit g i k bit) → (w : HasBit g j l bit)
    → ComesOnto every (record_count g g.most) w.value v.value
onto g every i j k l bit is less stands v w =
    let same : distance g ≡ every = ap (λ (o : Option ℕ). unwrap_or o 0) is in
    let parts : k + (l - k) ≡ l = omega arith in
    let sum : distance g * l ≡ distance g * k + distance g * (l - k) = ap (λ m. distance g * m) (sym parts) ∙ mul-add (distance g) k (l - k) in
    let step : distance g * (l - k) ≡ every * (l - k) = ap (λ m. m * (l - k)) same in
    record {
      behind = l - k;
      later = omega arith;
      stands = omega (arith, stands);
      bit = bit - 8 * (distance g * k);
      of_record = (omega (arith, sum, step, w.meets.0.0), omega (arith, sum, step, w.meets.0.0, w.meets.0.1, v.meets.0.0));
      of_other = (omega (arith, v.meets.0.0), omega (arith, v.meets.0.0, v.meets.0.1));
    }

is_later : (s : SignalParts) (count k l : ℕ) → k < l → ((s.repeated ≡ true) × (l < count)) ⊎ (l ≡ 0) → (s.repeated ≡ true) × (l < count)
is_later s count k l less (inl later) = later
is_later s count k l less (inr first) = absurd (omega (arith, first))

two_records : (g : GroupPlan) → IsApart g → (i j k l bit : ℕ) → k < l → HasBit g i k bit → HasBit g j l bit → ⊥
two_records g apart i j k l bit less v w =
    let (repeated, stands) = is_later w.value (record_count g g.most) k l less w.meets.1 in
    let every = given g g.every refl j w.value w.value_is repeated in
    let meets = onto g every.0 i j k l bit every.1 less stands v w in
    let over : (w.value.repeated ≡ true) → ((v.value.repeated ≡ false) ⊎ ((v.value.repeated ≡ true) × (j ≤ i))) → HasRecordsOver g j i =
    λ yes other. record {
      every = every.0;
      every_is = every.1;
      first = w.value;
      first_is = w.value_is;
      second = v.value;
      second_is = v.value_is;
      meet = (yes, elim other [ inl single ↦ inl (single, meets) | inr both ↦ inr (both.0, (both.1, inl meets)) ]);
    } in
    elim (cases_Bool v.value.repeated) [
      | inl both ↦ elim (cases_lt i j) [
        | inl before ↦ apart.records i j (record {
          every = every.0;
          every_is = every.1;
          first = v.value;
          first_is = v.value_is;
          second = w.value;
          second_is = w.value_is;
          meet = (both, inr (repeated, (omega (arith, before), inr meets)));
        })
        | inr behind ↦ apart.records j i (over repeated (inr (both, behind)))
      ]
      | inr single ↦ apart.records j i (over repeated (inl single))
    ]

pub bits_once : (g : GroupPlan) → IsApart g → HasBitsOnce g
bits_once g apart i j k l bit v w =
    elim (cases_lt k l) [
      | inl less ↦ absurd (two_records g apart i j k l bit less v w)
      | inr least ↦ elim (cases_lt l k) [
        | inl more ↦ absurd (two_records g apart j i l k bit more w v)
        | inr most ↦
            let same : k ≡ l = omega arith in
            (one_record g apart i j l bit (subst (λ m. HasBit g i m bit) same v) w, same)
      ]
    ]

-- ---- the signals of a message

-- the signal is that of a place of the group, as it stands in a record
record IsPlaced (g : GroupPlan) (behind : ℕ) (x : SignalParts) : Type 0 where
  place : ℕ
  signal : SignalParts
  signal_is : slice_get g.signals.items place ≡ Some signal
  x_is : x ≡ further (distance g * behind) signal
  stands : ((signal.repeated ≡ true) × (behind < record_count g g.most)) ⊎ (behind ≡ 0)

has_bit : (g : GroupPlan) (behind bit : ℕ) (x : SignalParts) → (p : IsPlaced g behind x) → Covers x bit → HasBit g p.place behind bit
has_bit g behind bit x p covers = record {
  value = p.signal;
  value_is = p.signal_is;
  meets = (subst (λ y. Covers y bit) p.x_is covers, p.stands);
}

-- what a filter keeps was there, and passes
filtered : (test : SignalParts → Bool) (xs : List SignalParts) (x : SignalParts) → Contains (filter test xs) x
    → (i : ℕ) × ((slice_get xs i ≡ Some x) × (test x ≡ true))
filtered test xs x h =
    let there = All-contains (Contains xs) (filter test xs) x (All-filter test (Contains xs) xs (All-contains_itself xs)) h in
    (there.0, (slice_get-get_or xs there.0 x there.1 ∙ ap Some there.2, All-contains (λ y. test y ≡ true) (filter test xs) x (filter_passes test xs) h))

-- what is mapped was there
mapped : (f : SignalParts → SignalParts) (xs : List SignalParts) (y : SignalParts) → Contains (map f xs) y → (x : SignalParts) × (Contains xs x × (y ≡ f x))
mapped f [] y h = absurd (omega arith)
mapped f (x ∷ xs) y (zero, less, is) = (x, ((0, omega arith, refl), sym is))
mapped f (x ∷ xs) y (suc k, less, is) =
    let rest = mapped f xs y (k, omega arith, is) in
    (rest.0, ((suc rest.1.0.0, omega (arith, rest.1.0.1), rest.1.0.2), rest.1.1))

first_place : (x : SignalParts) (d : ℕ) → x ≡ further (d * 0) x
first_place x d =
    let same : x.start ≡ x.start + 8 * (d * 0) = omega arith in
    ap (λ (n : ℕ). record x { start = n }) same

single_placed : (g : GroupPlan) (bytes : ℕ) (x : SignalParts) → Contains (single_signals bytes g.signals.items) x → IsPlaced g 0 x
single_placed g bytes x h =
    let there = filtered (stands_once bytes) g.signals.items x h in
    record { place = there.0; signal = x; signal_is = there.1.0; x_is = first_place x (distance g); stands = inr refl }

record_placed : (g : GroupPlan) (every behind : ℕ) (x : SignalParts) → g.every ≡ Some every → behind < record_count g g.most
    → Contains (record_signals (every * behind) g.signals.items) x → IsPlaced g behind x
record_placed g every behind x is stands h =
    let moved = mapped (further (every * behind)) (repeated_signals g.signals.items) x h in
    let there = filtered (λ s. s.repeated) g.signals.items moved.0 moved.1.0 in
    let same : every ≡ distance g = sym (ap (λ (o : Option ℕ). unwrap_or o 0) is) in
    record {
      place = there.0;
      signal = moved.0;
      signal_is = there.1.0;
      x_is = moved.1.1 ∙ ap (λ n. further (n * behind) moved.0) same;
      stands = inl (there.1.1, stands);
    }

records_placed : (g : GroupPlan) (every n : ℕ) (x : SignalParts) → Contains (records_signals every n g.signals.items) x
    → (behind : ℕ) × ((behind < n) × Contains (record_signals (every * behind) g.signals.items) x)
unfolding records_signals
records_placed g every zero x h = absurd (omega arith)
records_placed g every (suc n) x h =
    elim (Contains-append_cases (records_signals every n g.signals.items) (record_signals (every * n) g.signals.items) x h) [
      | inl before ↦ let there = records_placed g every n x before in (there.0, (omega (arith, there.1.0), there.1.1))
      | inr last ↦ (n, (omega arith, last))
    ]

-- ---- they share no bit

abbrev AreApart : SignalParts → SignalParts → Type 0
AreApart s t = ¬ SharesBit s t

rises_from : (xs : List SignalParts) → AllPairs AreApart xs → Rises AreApart xs
rises_from [] apart = tt
rises_from (x ∷ xs) apart = (
  λ y (k, less, is). subst (AreApart x) is (apart 0 (suc k) y (omega arith) (omega (arith, less))),
  rises_from xs (λ i j d below less. apart (suc i) (suc j) d (omega (arith, below)) (omega (arith, less))),
)

apart_further : (n : ℕ) (s t : SignalParts) → AreApart s t → AreApart (further n s) (further n t)
apart_further n s t apart (bit, of_s, of_t) =
    apart (bit - 8 * n, (omega (arith, of_s.0), omega (arith, of_s.0, of_s.1)), (omega (arith, of_t.0), omega (arith, of_t.0, of_t.1)))

rises_further : (n : ℕ) (xs : List SignalParts) → Rises AreApart xs → Rises AreApart (map (further n) xs)
rises_further n [] rises = tt
rises_further n (x ∷ xs) rises = (
  λ y h.
      let moved = mapped (further n) xs y h in
      subst (AreApart (further n x)) (sym moved.1.1) (apart_further n x moved.0 (rises.0 moved.0 moved.1.0)),
  rises_further n xs rises.1,
)

placed_apart : (g : GroupPlan) (k l : ℕ) (x y : SignalParts) → HasBitsOnce g → k ≢ l → IsPlaced g k x → IsPlaced g l y → AreApart x y
placed_apart g k l x y once other p q (bit, of_x, of_y) =
    other (once p.place q.place k l bit (has_bit g k bit x p of_x) (has_bit g l bit y q of_y)).1

records_rise : (g : GroupPlan) (every n : ℕ) → g.every ≡ Some every → AllPairs AreApart g.signals.items → HasBitsOnce g
    → ((k : ℕ) → k < n → k < record_count g g.most) → Rises AreApart (records_signals every n g.signals.items)
unfolding records_signals
records_rise g every zero is apart once stand = tt
records_rise g every (suc n) is apart once stand =
    let signals = g.signals.items in
    Rises-append AreApart (records_signals every n signals) (record_signals (every * n) signals)
    (records_rise g every n is apart once (λ k less. stand k (omega (arith, less))))
    (rises_further (every * n) (repeated_signals signals) (rises_from (repeated_signals signals) (AllPairs-filter AreApart (λ s. s.repeated) signals apart)))
    (λ x y in_before in_last.
    let there = records_placed g every n x in_before in
    placed_apart g there.0 n x y once (λ same. omega (arith, same, there.1.0))
    (record_placed g every there.0 x is (stand there.0 (omega (arith, there.1.0))) there.1.1) (record_placed g every n y is (stand n (omega arith)) in_last))

single_apart : (g : GroupPlan) (k l : ℕ) (x y : SignalParts) → HasBitsOnce g → x.repeated ≡ false → y.repeated ≡ true
    → IsPlaced g k x → IsPlaced g l y → AreApart x y
single_apart g k l x y once single repeated p q (bit, of_x, of_y) =
    let place = (once p.place q.place k l bit (has_bit g k bit x p of_x) (has_bit g l bit y q of_y)).0 in
    let one : p.signal ≡ q.signal = same_Some _ _ (sym p.signal_is ∙ ap (slice_get g.signals.items) place ∙ q.signal_is) in
    let first : x.repeated ≡ p.signal.repeated = ap (λ (s : SignalParts). s.repeated) p.x_is in
    let second : y.repeated ≡ q.signal.repeated = ap (λ (s : SignalParts). s.repeated) q.x_is in
    false≢true (sym single ∙ first ∙ ap (λ (s : SignalParts). s.repeated) one ∙ sym second ∙ repeated)

is_single : (g : GroupPlan) (bytes : ℕ) (x : SignalParts) → Contains (single_signals bytes g.signals.items) x → x.repeated ≡ false
is_single g bytes x h = not-true x.repeated (and_parts (not x.repeated) (is_there bytes x) (filtered (stands_once bytes) g.signals.items x h).1.1).0

is_in_record : (g : GroupPlan) (n : ℕ) (x : SignalParts) → Contains (record_signals n g.signals.items) x → x.repeated ≡ true
is_in_record g n x h =
    let moved = mapped (further n) (repeated_signals g.signals.items) x h in
    ap (λ (s : SignalParts). s.repeated) moved.1.1 ∙ (filtered (λ s. s.repeated) g.signals.items moved.0 moved.1.0).1.1

-- ---- what lays out a group's messages lays out each message with the signals that are there, and with its records

fits_further : (kind : Kind) (start bits n : ℕ) → width_fits kind start bits ≡ true → width_fits kind (start + 8 * n) bits ≡ true
fits_further Measured start bits n fits = fits
fits_further Discrete start bits n fits = fits
fits_further Raw start bits n fits = fits
fits_further States start bits n fits = fits
fits_further Signed start bits n fits = fits
fits_further Dtc start bits n fits =
    let same : (start + 8 * n) % 8 ≡ start % 8 = omega arith in
    rw same fits

-- a record inside a message
record_inside : (g : GroupPlan) (every bytes behind : ℕ) → g.every ≡ Some every → behind < record_count g bytes
    → All (IsInside bytes) (record_signals (every * behind) g.signals.items)
record_inside g every bytes behind is less = ((records_counted g every bytes behind is).0 less).1

-- the signals of a group end inside messages of so many bytes, but for those that aren't there
record LaysOutAt (g : GroupPlan) (bytes : ℕ) : Type 0 where
  pub longest : LaysOut g.most g.signals.items
  pub some_bytes : 1 ≤ bytes
  pub shorter : bytes ≤ g.most
  pub always : All (IsAlwaysInside bytes) g.signals.items

singles_inside : (g : GroupPlan) (bytes : ℕ) → LaysOutAt g bytes → All (IsInside bytes) (single_signals bytes g.signals.items)
singles_inside g bytes at = λ i d less.
    let x = get_or (single_signals bytes g.signals.items) i d in
    inside_there x bytes bytes (omega arith)
    (All-filter (stands_once bytes) (IsAlwaysInside bytes) g.signals.items at.always i d less)
    (and_parts (not x.repeated) (is_there bytes x) (filter_passes (stands_once bytes) g.signals.items i d less)).1

singles_laid : (g : GroupPlan) (bytes : ℕ) → LaysOutAt g bytes → LaysOut bytes (single_signals bytes g.signals.items)
singles_laid g bytes at =
    let signals = g.signals.items in
    record {
      some_bytes = at.some_bytes;
      most_bytes = omega (arith, at.shorter, at.longest.most_bytes);
      widths = All-filter (stands_once bytes) WidthFits signals at.longest.widths;
      inside = singles_inside g bytes at;
      apart = AllPairs-filter AreApart (stands_once bytes) signals at.longest.apart;
    }

records_laid : (g : GroupPlan) (bytes every : ℕ) → g.every ≡ Some every → HasBitsOnce g → LaysOutAt g bytes
    → LaysOut bytes (single_signals bytes g.signals.items ++ records_signals every (record_count g bytes) g.signals.items)
records_laid g bytes every is once at =
    let most = at.shorter in
    let laid = at.longest in
    let alone = singles_laid g bytes at in
    let signals = g.signals.items in
    let count = record_count g bytes in
    let singles = single_signals bytes signals in
    let records = records_signals every count signals in
    let stands : (k : ℕ) → k < count → k < record_count g g.most = λ k less. longer_has g every bytes g.most k is most less in
    let ends : (x : SignalParts) → Contains records x → IsInside bytes x = λ x h.
    let there = records_placed g every count x h in
    All-contains (IsInside bytes) (record_signals (every * there.0) signals) x (record_inside g every bytes there.0 is there.1.0) there.1.1 in
    record {
      some_bytes = alone.some_bytes;
      most_bytes = alone.most_bytes;
      widths = All-append WidthFits singles records alone.widths
          (all_by_contains WidthFits records (λ x h.
          let there = records_placed g every count x h in
          let placed = record_placed g every there.0 x is (stands there.0 there.1.0) there.1.1 in
          subst WidthFits (sym placed.x_is) (fits_further placed.signal.kind placed.signal.start placed.signal.bits (distance g * there.0)
          (all_at WidthFits signals laid.widths placed.place placed.signal placed.signal_is))));
      inside = All-append (IsInside bytes) singles records alone.inside
          (all_by_contains (IsInside bytes) records ends);
      apart = AllPairs-from_Rises AreApart (singles ++ records) (Rises-append AreApart singles records
          (rises_from singles alone.apart)
          (records_rise g every count is laid.apart once stands)
          (λ x y in_singles in_records.
          let there = records_placed g every count y in_records in
          single_apart g 0 there.0 x y once (is_single g bytes x in_singles) (is_in_record g (every * there.0) y there.1.1)
          (single_placed g bytes x in_singles) (record_placed g every there.0 y is (stands there.0 there.1.0) there.1.1)));
    }

laid_by : (g : GroupPlan) (bytes : ℕ) (o : Option ℕ) → g.every ≡ o → HasBitsOnce g → LaysOutAt g bytes → LaysOut bytes (signals_in g bytes)
laid_by g bytes None is once at = subst (LaysOut bytes) (sym (singles_alone g is bytes)) (singles_laid g bytes at)
laid_by g bytes (Some every) is once at =
    let signals = g.signals.items in
    let here = ap (λ (o : Option ℕ). single_signals bytes signals ++ option_map_or (λ n. records_signals n (record_count g bytes) signals) o []) is in
    subst (LaysOut bytes) (sym here) (records_laid g bytes every is once at)

pub laid_with_records : (g : GroupPlan) (bytes : ℕ) → HasBitsOnce g → LaysOutFrom g.length g.most g.signals.items → IsLengthOf g bytes
    → LaysOut bytes (signals_in g bytes)
laid_with_records g bytes once laid of = laid_by g bytes g.every refl once (record {
  longest = laid.longest;
  some_bytes = omega (arith, laid.some_bytes, of.0);
  shorter = of.1;
  always = λ i d less always. omega (arith, laid.always i d less always, of.0);
})
