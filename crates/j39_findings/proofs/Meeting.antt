-- Which later records come onto other signals.
use Rattle.std.proofs.Common.{◌≡◌, ℕ, ◌+◌, ◌-◌, ◌*◌, ◌/◌, ◌<◌, ◌≤◌, ◌⊎◌, max, Bool, true, false, if◌then◌else◌, Decides, List, [], Some, None, Option, Contains}
use Rattle.std.proofs.Common.{refl, sym, ap, subst, ◌∙◌, inl, inr, arith}
use Rattle.std.specs.List.{slice_get}
use Rattle.std.specs.Option.{option_map_or}
use Rattle.std.proofs.Math.Nat.{div-lt_iff_lt-mul, lt-mul-div-succ, mul-le-mul_left, mul_assoc, mul_comm, one-le-mul}
use Rattle.std.proofs.lemmas.Bool.{false≢true, leb-true, le-leb}
use Rattle.std.proofs.lemmas.Bool.Decides.{Decides-and, Decides-ltb, Decides-or}
use Rattle.j39_signal.specs.declared.signal_parts.SignalParts.{SignalParts}
use Rattle.j39_signal.specs.Places.{Covers, SharesBit, end_of, further}
use Rattle.j39_network.specs.declared.plan.group_plan.GroupPlan.{GroupPlan}
use Rattle.j39_findings.specs.declared.checking.finding.Finding.{Finding}
use Rattle.j39_findings.specs.declared.checking.finding.Finding.TheVariants.{RecordOverlap}
use Rattle.j39_search.specs.ListPlaces.{found_if, in_each}
use Rattle.j39_findings.specs.Findings.{ComesOnto, HasRecordsOver}
use Rattle.j39_network.specs.Records.{record_count}
use Rattle.j39_findings.specs.Found.{first_near, comes_onto, do_records_meet, overlaps_of, group_overlaps}
use Rattle.j39_findings.proofs.Deciding.{Decides-shares_bit}
use Rattle.j39_search.proofs.Members.{of_in_each, in_each_of, of_found_if, found_if_of}

-- ---- one later record, and the first near one

-- the first near record ends behind the first bit of the other signal
reaches : (every : ℕ) (s t : SignalParts) → 1 ≤ every → t.start < end_of s + 8 * (every * first_near every s t)
reaches every s t some =
    let near : ℕ = (t.start - end_of s) / (8 * every) in
    let past : t.start - end_of s < 8 * every * (near + 1) = lt-mul-div-succ (t.start - end_of s) (omega arith) in
    let same : 8 * every * (near + 1) ≡ 8 * (every * (near + 1)) = mul_assoc 8 every (near + 1) in
    omega (arith, past, same)

-- no record that is nearer has such a bit
nearest : (every behind bit : ℕ) (s t : SignalParts) → 1 ≤ every → 1 ≤ behind → Covers (further (every * behind) s) bit → Covers t bit
    → first_near every s t ≤ behind
nearest every behind bit s t some later of_record of_other =
    let positive : 1 ≤ every * behind = one-le-mul some later in
    let less : t.start - end_of s < 8 * (every * behind) = omega (arith, positive, of_record.1, of_other.0) in
    let order : behind * (8 * every) ≡ 8 * (every * behind) = mul_comm behind (8 * every) ∙ mul_assoc 8 every behind in
    let fewer : (t.start - end_of s) / (8 * every) < behind = (div-lt_iff_lt-mul (omega arith)).1 (omega (arith, less, order)) in
    omega (arith, fewer)

near_shares : (shift near bit : ℕ) (s t : SignalParts) → near ≤ shift → t.start < end_of s + 8 * near → Covers (further shift s) bit → Covers t bit
    → SharesBit (further near s) t
near_shares shift near bit s t less reach of_record of_other = (max (s.start + 8 * near) t.start, (omega arith, omega arith), (omega arith, omega arith))

onto_from : (every count : ℕ) (s t : SignalParts) → comes_onto every count s t ≡ true → ComesOnto every count s t
onto_from every count s t test =
    let (stands, shares) = (Decides-and _ _ (Decides-ltb (first_near every s t) count)
    (Decides-shares_bit (further (every * first_near every s t) s) t)).0 test in
    record { behind = first_near every s t; later = omega arith; stands = stands; bit = shares.0; of_record = shares.1; of_other = shares.2 }

onto_of : (every count : ℕ) (s t : SignalParts) → 1 ≤ every → ComesOnto every count s t → comes_onto every count s t ≡ true
onto_of every count s t some onto =
    let near = nearest every onto.behind onto.bit s t some onto.later onto.of_record onto.of_other in
    let stands = onto.stands in
    (Decides-and _ _ (Decides-ltb (first_near every s t) count) (Decides-shares_bit (further (every * first_near every s t) s) t)).1 (
      omega (arith, near, stands),
      near_shares (every * onto.behind) (every * first_near every s t) onto.bit s t (mul-le-mul_left every near) (reaches every s t some) onto.of_record
          onto.of_other,
    )

Decides-comes_onto : (every count : ℕ) (s t : SignalParts) → 1 ≤ every → Decides (comes_onto every count s t) (ComesOnto every count s t)
Decides-comes_onto every count s t some = (onto_from every count s t, onto_of every count s t some)

-- ---- two signals

by_other : {P Q : Type 0} (b one both : Bool) → Decides one P → Decides both Q → Decides (if b then both else one) (((b ≡ false) × P) ⊎ ((b ≡ true) × Q))
by_other true one both p q = (λ e. inr (refl, q.0 e), λ h. elim h [ inl single ↦ absurd (false≢true (sym single.0)) | inr double ↦ q.1 double.1 ])
by_other false one both p q = (λ e. inl (refl, p.0 e), λ h. elim h [ inl single ↦ p.1 single.1 | inr double ↦ absurd (false≢true double.0) ])

meets_other : (every count i j : ℕ) (s t : SignalParts) → 1 ≤ every
    → Decides (do_records_meet every count i j s t)
    (((t.repeated ≡ false) × ComesOnto every count s t) ⊎ ((t.repeated ≡ true) × ((i ≤ j) × (ComesOnto every count s t ⊎ ComesOnto every count t s))))
meets_other every count i j s t some =
    by_other t.repeated _ _ (Decides-comes_onto every count s t some)
    (Decides-and _ _ (leb-true i j, le-leb i j) (Decides-or _ _ (Decides-comes_onto every count s t some) (Decides-comes_onto every count t s some)))

-- ---- all signals of a group

of_if : {B : Type 0} (b : Bool) (xs : List B) (x : B) → Contains (if b then xs else []) x → (b ≡ true) × Contains xs x
of_if true xs x h = (refl, h)
of_if false xs x h = absurd (omega arith)

if_of : {B : Type 0} (b : Bool) (xs : List B) (x : B) → b ≡ true → Contains xs x → Contains (if b then xs else []) x
if_of true xs x is h = h
if_of false xs x is h = absurd (false≢true is)

-- what is found of two signals, by their places
record IsOverlap (every count g : ℕ) (signals : List SignalParts) (f : Finding) : Type 0 where
  pub i : ℕ
  pub j : ℕ
  pub made : f ≡ RecordOverlap g i j
  pub first : SignalParts
  pub first_is : slice_get signals i ≡ Some first
  pub second : SignalParts
  pub second_is : slice_get signals j ≡ Some second
  pub repeated : first.repeated ≡ true
  pub test : do_records_meet every count i j first second ≡ true

pub of_signal_made : (every count g : ℕ) (signals : List SignalParts) (i : ℕ) (first : SignalParts) (f : Finding)
    → Contains (overlaps_of every count g signals i first) f → (j : ℕ) × (f ≡ RecordOverlap g i j)
of_signal_made every count g signals i first f h =
    let found = of_if first.repeated _ f h in
    let r = of_in_each (λ t other. found_if (do_records_meet every count i t first other) (RecordOverlap g i t)) 0 signals f found.1 in
    (r.place, (of_found_if _ (RecordOverlap g i r.place) f r.among).1)

of_signal : (every count g : ℕ) (signals : List SignalParts) (i : ℕ) (first : SignalParts) (f : Finding) → slice_get signals i ≡ Some first
    → Contains (overlaps_of every count g signals i first) f → IsOverlap every count g signals f
of_signal every count g signals i first f is h =
    let found = of_if first.repeated _ f h in
    let r = of_in_each (λ t other. found_if (do_records_meet every count i t first other) (RecordOverlap g i t)) 0 signals f found.1 in
    let e = of_found_if _ (RecordOverlap g i r.place) f r.among in
    let at : r.k ≡ r.place = omega arith in
    record {
      i = i;
      j = r.place;
      made = e.1;
      first = first;
      first_is = is;
      second = r.value;
      second_is = ap (slice_get signals) (sym at) ∙ r.value_is;
      repeated = found.0;
      test = e.0;
    }

of_signals : (every count g : ℕ) (signals : List SignalParts) (f : Finding) → Contains (in_each (overlaps_of every count g signals) 0 signals) f
    → IsOverlap every count g signals f
of_signals every count g signals f h =
    let r = of_in_each (overlaps_of every count g signals) 0 signals f h in
    let at : r.k ≡ r.place = omega arith in
    of_signal every count g signals r.place r.value f (ap (slice_get signals) (sym at) ∙ r.value_is) r.among

of_option : {A : Type 0} (find : ℕ → List A) (o : Option ℕ) (x : A) → Contains (option_map_or find o []) x → (n : ℕ) × ((o ≡ Some n) × Contains (find n) x)
of_option find None x h = absurd (omega arith)
of_option find (Some n) x h = (n, (refl, h))

option_of : {A : Type 0} (find : ℕ → List A) (o : Option ℕ) (n : ℕ) (x : A) → o ≡ Some n → Contains (find n) x → Contains (option_map_or find o []) x
option_of find o n x is h = subst (λ (p : Option ℕ). Contains (option_map_or find p []) x) (sym is) h

-- what is found of a group says what it is to say
pub record IsGroupOverlap (g : ℕ) (group : GroupPlan) (f : Finding) : Type 0 where
  pub i : ℕ
  pub j : ℕ
  pub made : f ≡ RecordOverlap g i j
  pub over : HasRecordsOver group i j

pub of_group_overlaps : (g : ℕ) (group : GroupPlan) (f : Finding) → Contains (group_overlaps g group) f → IsGroupOverlap g group f
of_group_overlaps g group f h =
    let count : ℕ = record_count group group.most in
    let found = of_option (λ every. in_each (overlaps_of every count g group.signals.items) 0 group.signals.items) group.every f h in
    let o = of_signals found.0 count g group.signals.items f found.1.1 in
    let some = group.every_positive found.0 found.1.0 in
    record {
      i = o.i;
      j = o.j;
      made = o.made;
      over = record {
        every = found.0;
        every_is = found.1.0;
        first = o.first;
        first_is = o.first_is;
        second = o.second;
        second_is = o.second_is;
        meet = (o.repeated, (meets_other found.0 count o.i o.j o.first o.second some).0 o.test);
      };
    }

pub group_overlaps_of : (g i j : ℕ) (group : GroupPlan) → HasRecordsOver group i j → Contains (group_overlaps g group) (RecordOverlap g i j)
group_overlaps_of g i j group over =
    let every = over.every in
    let count : ℕ = record_count group group.most in
    let signals = group.signals.items in
    let some = group.every_positive every over.every_is in
    let passes = (meets_other every count i j over.first over.second some).1 over.meet.1 in
    let here = found_if_of _ (RecordOverlap g i j) passes in
    let inner = in_each_of (λ t other. found_if (do_records_meet every count i t over.first other) (RecordOverlap g i t)) 0 signals (RecordOverlap g i j) j j
    over.second (omega arith) over.second_is here in
    let outer = in_each_of (overlaps_of every count g signals) 0 signals (RecordOverlap g i j) i i over.first (omega arith) over.first_is
    (if_of over.first.repeated _ _ over.meet.0 inner) in
    option_of (λ n. in_each (overlaps_of n count g signals) 0 signals) group.every every (RecordOverlap g i j) over.every_is outer
