-- What is handed on from bus to bus keeps to the streams that are planned for it, also where buses hand on to one another: by the time at which
-- frames are queued.
use Rattle.std.proofs.Common.{◌≡◌, ◌≢◌, ℕ, zero, suc, ◌+◌, ◌*◌, ◌<◌, ◌≤◌, ◌⊎◌, true, false, ltb, refl, subst, sym, arith, inl, inr}
use Rattle.std.proofs.lemmas.Bool.{and_parts, cases_lt, cases_Bool, ltb-true, both_ways}
use Rattle.j39_vehicle_laws.proofs.Clocks.{before_in_time, bits_in_order, in_time_order}
use Rattle.j39_timing.specs.Traffic.{IsSingle, delay_of}
use Rattle.j39_timing.specs.Prefixes.{planned_until}
use Rattle.j39_vehicle_laws.specs.Gateways.{IsHandedOn, IsIts, HasBegun, end_time, time_of}
use Rattle.j39_vehicle_laws.specs.Vehicles.{Vehicle, carrier, stream_at, input_at, queued_within, IsPlannedOn, IsKnown, KeepsItsStreams, KeepsItsStreamsUntil}

module _ (v : Vehicle) (is : IsKnown v) where
  -- the frame is queued at this time
  abbrev ready : ℕ → ℕ → ℕ
  ready b p = time_of (v.bus b).clock ((v.bus b).schedule.queued p)

  abbrev source_of : ℕ → ℕ → ℕ
  source_of b p = (v.bus b).of.source p

  -- it is queued from its release on, and no later than its stream says; where it is handed on, no later than what comes before says
  record IsKept (b p : ℕ) : Type 0 where
    first : (v.bus b).of.since p ≤ (v.bus b).schedule.queued p
    jitter : (v.bus b).schedule.queued p ≤ (v.bus b).of.since p + (stream_at v b (source_of b p)).jitter
    release : (v.bus b).release p ≤ ready b p
    handed : v.direct b (source_of b p) ≡ true → ready b p ≤ (v.bus b).release p + queued_within v b (source_of b p)

  abbrev AreApartAt : ℕ → ℕ → ℕ → ℕ → Type 0
  AreApartAt b i p q = ((v.bus b).release p + v.apart b i ≤ (v.bus b).release q) ⊎ ((v.bus b).release q + v.apart b i ≤ (v.bus b).release p)

  -- so it is of all that is queued before a time
  abbrev AllKept : ℕ → Type 0
  AllKept t = (b p : ℕ) → IsPlannedOn (v.bus b) p → ready b p < t → IsKept b p

  abbrev AllApart : ℕ → Type 0
  AllApart t = (b i p q : ℕ) → IsIts (carrier v b i) p → IsIts (carrier v b i) q → p ≢ q → IsSingle (stream_at v b i) → ready b p < t → ready b q < t
      → AreApartAt b i p q

  -- bits in order are times in order
  ordered : (b m n : ℕ) → m ≤ n → time_of (v.bus b).clock m ≤ time_of (v.bus b).clock n
  ordered b m n below = in_time_order (v.bus b).clock (is.clocks b) m n below

  before : (b m n : ℕ) → m < n → time_of (v.bus b).clock m < time_of (v.bus b).clock n
  before b m n below = before_in_time (v.bus b).clock (is.clocks b) m n below

  bits_before : (b m n : ℕ) → time_of (v.bus b).clock m < time_of (v.bus b).clock n → m < n
  bits_before b m n below = bits_in_order (v.bus b).clock (is.clocks b) m n below

  -- releases of a stream that is handed on are apart on its bus too
  later_there : (b i p q : ℕ) → v.direct b i ≡ true → IsIts (carrier v b i) p → IsIts (carrier v b i) q
      → (v.bus b).release p + v.apart b i ≤ (v.bus b).release q
      → (v.bus b).of.since p + (stream_at v b i).period ≤ (v.bus b).of.since q
  later_there b i p q direct its other apart =
      let handed = is.handed b i direct in
      let low : time_of (v.bus b).clock ((v.bus b).of.since p) ≤ (v.bus b).release p = handed.first_bit p its in
      let high : (v.bus b).release q < time_of (v.bus b).clock ((v.bus b).of.since q + 1) = handed.last_bit q other in
      let often : (v.bus b).clock.longest * (stream_at v b i).period ≤ v.apart b i = is.often_enough b i direct in
      let last : time_of (v.bus b).clock ((v.bus b).of.since p + (stream_at v b i).period) ≤ time_of (v.bus b).clock ((v.bus b).of.since p)
      + (v.bus b).clock.longest * (stream_at v b i).period = (is.clocks b).at_most ((v.bus b).of.since p) (stream_at v b i).period in
      let less : (v.bus b).of.since p + (stream_at v b i).period < (v.bus b).of.since q + 1 = bits_before b _ _ (omega arith) in
      omega arith

  -- the frames of a bus that are queued before a bit keep to its streams
  kept_until : (t a by : ℕ) → AllKept t → AllApart t → time_of (v.bus a).clock by ≤ t → KeepsItsStreamsUntil (v.bus a) by
  kept_until t a by kept apart until = record {
    keeps = λ p in_p it.
        let (planned, early) = parts p it in
        let keeps = kept a p (in_p, planned) (soon p early) in
        record {
          known = is.known a p (in_p, planned);
          bits_at_most = is.bits_at_most a p (in_p, planned);
          turns = is.turns a p (in_p, planned);
          release_first = keeps.first;
          jitter_at_most = keeps.jitter;
        };
    spaced = λ p q in_p in_q differ it other same turn paced.
        let (planned, early) = parts p it in
        let (also, soon_too) = parts q other in
        elim (cases_Bool (v.direct a (source_of a p))) [
          | inr own ↦ is.own_spaced a p q (in_p, planned) (in_q, also) differ own same turn paced
          | inl direct ↦
              let its : IsIts (carrier v a (source_of a p)) p = (in_p, planned, refl) in
              let there : IsIts (carrier v a (source_of a p)) q = (in_q, also, sym same) in
              elim (apart a (source_of a p) p q its there differ (is.single a (source_of a p) direct) (soon p early) (soon q soon_too)) [
                | inl ahead ↦ inl (later_there a (source_of a p) p q direct its there ahead)
                | inr behind ↦ inr (later_there a (source_of a p) q p direct there its behind)
              ]
        ];
  } where
    parts : (p : ℕ) → planned_until (v.bus a).schedule (v.bus a).planned by p ≡ true → ((v.bus a).planned p ≡ true) × ((v.bus a).schedule.queued p < by)
    parts p it = let both = and_parts ((v.bus a).planned p) (ltb ((v.bus a).schedule.queued p) by) it in (both.0, ltb-true ((v.bus a).schedule.queued p) by both.1)

    soon : (p : ℕ) → (v.bus a).schedule.queued p < by → ready a p < t
    soon p early = let before = before a ((v.bus a).schedule.queued p) by early in omega arith

  -- ---- one frame that is handed on

  module _ (t b q : ℕ) (kept : AllKept t) (apart : AllApart t) (its : IsPlannedOn (v.bus b) q) (until : ready b q ≤ t) (direct : v.direct b (source_of b q) ≡ true) where
    abbrev i : ℕ
    i = source_of b q

    abbrev a : ℕ
    a = v.from_bus b i

    abbrev k : ℕ
    k = v.from_stream b i

    it : IsIts (carrier v b i) q
    it = (its.0, its.1, refl)

    abbrev handed : IsHandedOn (input_at v b i) (carrier v b i) (v.within b i)
    handed = is.handed b i direct

    -- what it hands on
    abbrev x : ℕ
    x = handed.what q

    begun : HasBegun (input_at v b i) x
    begun = handed.begun q it

    ended : end_time (input_at v b i) x ≤ ready b q
    ended = handed.after q it

    sent_first : ready a x < end_time (input_at v b i) x
    sent_first =
        let first : (v.bus a).schedule.queued x ≤ (v.bus a).schedule.start x = is.queued_first a x begun.0.0 in
        let long : 1 ≤ (v.bus a).schedule.bits x = is.some_bits a x begun.0.0 in
        before a ((v.bus a).schedule.queued x) ((v.bus a).schedule.start x + (v.bus a).schedule.bits x) (omega arith)

    x_kept : IsKept a x
    x_kept = kept a x (begun.0.0, begun.0.1) (let first = sent_first in let end = ended in omega arith)

    in_time : (v.bus a).schedule.start x ≤ (v.bus a).schedule.queued x + v.wait a k
    in_time = elim (cases_lt ((v.bus a).schedule.queued x + v.wait a k) ((v.bus a).schedule.start x)) [
      | inr early ↦ early
      | inl later ↦
          let by : ℕ = (v.bus a).schedule.queued x + v.wait a k + 1 in
          let seen : by ≤ (v.bus a).schedule.now = let now = begun.1 in omega arith in
          let long : 1 ≤ (v.bus a).schedule.bits x = is.some_bits a x begun.0.0 in
          let order : time_of (v.bus a).clock by ≤ end_time (input_at v b i) x =
          ordered a by ((v.bus a).schedule.start x + (v.bus a).schedule.bits x) (omega arith) in
          let streams = kept_until t a by kept apart (let end = ended in omega arith) in
          is.input_begun b i by direct seen streams x begun.0.0 begun.0.1 begun.0.2 (omega arith)
    ]

    x_behind : end_time (input_at v b i) x ≤ (v.bus a).release x + v.behind a k
    x_behind =
        let start = in_time in
        let source : source_of a x ≡ k = begun.0.2 in
        let small : (v.bus a).schedule.bits x ≤ (stream_at v a k).bits =
        subst (λ j. (v.bus a).schedule.bits x ≤ (stream_at v a j).bits) source (is.bits_at_most a x (begun.0.0, begun.0.1)) in
        let last : time_of (v.bus a).clock ((v.bus a).schedule.queued x + (v.wait a k + (stream_at v a k).bits)) ≤ ready a x
        + (v.bus a).clock.longest * (v.wait a k + (stream_at v a k).bits) = (is.clocks a).at_most ((v.bus a).schedule.queued x) (v.wait a k + (stream_at v a k).bits) in
        let end : end_time (input_at v b i) x ≤ time_of (v.bus a).clock ((v.bus a).schedule.queued x + (v.wait a k + (stream_at v a k).bits)) =
        ordered a ((v.bus a).schedule.start x + (v.bus a).schedule.bits x) ((v.bus a).schedule.queued x + (v.wait a k + (stream_at v a k).bits)) (omega arith) in
        elim (cases_Bool (v.direct a k)) [
          | inl on ↦
              let by : ready a x ≤ (v.bus a).release x + queued_within v a k =
              subst (λ j. ready a x ≤ (v.bus a).release x + queued_within v a j) source (x_kept.handed (subst (λ j. v.direct a j ≡ true) (sym source) on)) in
              let behind : queued_within v a k + (v.bus a).clock.longest * (v.wait a k + (stream_at v a k).bits) ≤ v.behind a k = is.behind_direct a k on in
              omega arith
          | inr own ↦
              let late : (v.bus a).schedule.queued x ≤ (v.bus a).of.since x + (stream_at v a k).jitter =
              subst (λ j. (v.bus a).schedule.queued x ≤ (v.bus a).of.since x + (stream_at v a j).jitter) source x_kept.jitter in
              let at : (v.bus a).release x ≡ time_of (v.bus a).clock ((v.bus a).of.since x) =
              is.own_release a x (begun.0.0, begun.0.1) (subst (λ j. v.direct a j ≡ false) (sym source) own) in
              let behind : (v.bus a).clock.longest * delay_of (stream_at v a k) (v.wait a k) ≤ v.behind a k = is.behind_own a k own in
              let total : time_of (v.bus a).clock ((v.bus a).of.since x + delay_of (stream_at v a k) (v.wait a k)) ≤ time_of (v.bus a).clock ((v.bus a).of.since x)
              + (v.bus a).clock.longest * delay_of (stream_at v a k) (v.wait a k) = (is.clocks a).at_most ((v.bus a).of.since x) (delay_of (stream_at v a k) (v.wait a k)) in
              let far : time_of (v.bus a).clock ((v.bus a).schedule.queued x + (v.wait a k + (stream_at v a k).bits))
              ≤ time_of (v.bus a).clock ((v.bus a).of.since x + delay_of (stream_at v a k) (v.wait a k)) =
              ordered a ((v.bus a).schedule.queued x + (v.wait a k + (stream_at v a k).bits)) ((v.bus a).of.since x + delay_of (stream_at v a k) (v.wait a k)) (omega arith) in
              omega arith
        ]

    direct_kept : IsKept b q
    direct_kept =
        let at : (v.bus b).release q ≡ (v.bus a).release x = handed.releases q it in
        let soon : ready b q ≤ end_time (input_at v b i) x + v.within b i = handed.within_time q it in
        let low : time_of (v.bus b).clock ((v.bus b).of.since q) ≤ (v.bus b).release q = handed.first_bit q it in
        let high : (v.bus b).release q < time_of (v.bus b).clock ((v.bus b).of.since q + 1) = handed.last_bit q it in
        let room : queued_within v b i ≤ (v.bus b).clock.shortest * (stream_at v b i).jitter = is.jitter_enough b i direct in
        let least : time_of (v.bus b).clock ((v.bus b).of.since q + 1) + (v.bus b).clock.shortest * (stream_at v b i).jitter
        ≤ time_of (v.bus b).clock ((v.bus b).of.since q + 1 + (stream_at v b i).jitter) = (is.clocks b).at_least ((v.bus b).of.since q + 1) (stream_at v b i).jitter in
        let next : ready b q < time_of (v.bus b).clock ((v.bus b).schedule.queued q + 1) = before b ((v.bus b).schedule.queued q) ((v.bus b).schedule.queued q + 1) (omega arith) in
        let behind : end_time (input_at v b i) x ≤ (v.bus a).release x + v.behind a k = x_behind in
        let first : (v.bus a).release x ≤ ready a x = x_kept.release in
        let sent : ready a x < end_time (input_at v b i) x = sent_first in
        let end : end_time (input_at v b i) x ≤ ready b q = ended in
        let begins : (v.bus b).of.since q < (v.bus b).schedule.queued q + 1 = bits_before b _ _ (omega arith) in
        let by : (v.bus b).schedule.queued q < (v.bus b).of.since q + 1 + (stream_at v b i).jitter = bits_before b _ _ (omega arith) in
        record { first = omega arith; jitter = omega arith; release = omega arith; handed = λ _. omega arith }

  own_kept : (b p : ℕ) → IsPlannedOn (v.bus b) p → v.direct b (source_of b p) ≡ false → IsKept b p
  own_kept b p its own =
      let first = is.own_first b p its own in
      let at = is.own_release b p its own in
      let order = ordered b ((v.bus b).of.since p) ((v.bus b).schedule.queued p) first in
      record {
        first = first;
        jitter = is.own_jitter b p its own;
        release = omega arith;
        handed = λ direct. absurd (both_ways (v.direct b (source_of b p)) own direct);
      }

  -- ---- two frames

  sent_before : (a k x : ℕ) → HasBegun (carrier v a k) x → ready a x < end_time (carrier v a k) x
  sent_before a k x begun =
      let first : (v.bus a).schedule.queued x ≤ (v.bus a).schedule.start x = is.queued_first a x begun.0.0 in
      let long : 1 ≤ (v.bus a).schedule.bits x = is.some_bits a x begun.0.0 in
      before a ((v.bus a).schedule.queued x) ((v.bus a).schedule.start x + (v.bus a).schedule.bits x) (omega arith)

  direct_apart : (t b i p q : ℕ) → AllApart t → IsIts (carrier v b i) p → IsIts (carrier v b i) q → p ≢ q → v.direct b i ≡ true → ready b p ≤ t → ready b q ≤ t
      → AreApartAt b i p q
  direct_apart t b i p q apart its other differ direct until until_too =
      let handed = is.handed b i direct in
      let a : ℕ = v.from_bus b i in
      let k : ℕ = v.from_stream b i in
      let of_p : HasBegun (input_at v b i) (handed.what p) = handed.begun p its in
      let of_q : HasBegun (input_at v b i) (handed.what q) = handed.begun q other in
      let at_p : (v.bus b).release p ≡ (v.bus (v.from_bus b i)).release (handed.what p) = handed.releases p its in
      let at_q : (v.bus b).release q ≡ (v.bus (v.from_bus b i)).release (handed.what q) = handed.releases q other in
      let end_p : end_time (input_at v b i) (handed.what p) ≤ ready b p = handed.after p its in
      let end_q : end_time (input_at v b i) (handed.what q) ≤ ready b q = handed.after q other in
      let sent_p = sent_before (v.from_bus b i) (v.from_stream b i) (handed.what p) of_p in
      let sent_q = sent_before (v.from_bus b i) (v.from_stream b i) (handed.what q) of_q in
      let far : v.apart b i ≤ v.apart (v.from_bus b i) (v.from_stream b i) = is.apart_direct b i direct in
      elim (apart (v.from_bus b i) (v.from_stream b i) (handed.what p) (handed.what q) of_p.0 of_q.0 (handed.different p q its other differ)
      (is.input_single b i direct) (omega arith) (omega arith)) [
        | inl ahead ↦ inl (omega arith)
        | inr behind ↦ inr (omega arith)
      ]

  -- ---- all frames

  all_kept : (t : ℕ) → AllKept t × AllApart t
  all_kept zero = (λ b p its early. absurd (omega arith), λ b i p q its other differ single early too. absurd (omega arith))
  all_kept (suc t) =
      let (kept, apart) = all_kept t in (
        λ b p its early. elim (cases_Bool (v.direct b (source_of b p))) [
          | inl direct ↦ direct_kept t b p kept apart its (omega arith) direct
          | inr own ↦ own_kept b p its own
        ],
        λ b i p q its other differ single early too. elim (cases_Bool (v.direct b i)) [
          | inl direct ↦ direct_apart t b i p q apart its other differ direct (omega arith) (omega arith)
          | inr own ↦ is.own_apart b i p q its other differ single own
        ],
      )

  pub keep_their_streams : (b : ℕ) → KeepsItsStreams (v.bus b)
  keep_their_streams b = record {
    keeps = λ p in_p it.
        let keeps = (all_kept (ready b p + 1)).0 b p (in_p, it) (omega arith) in
        record {
          known = is.known b p (in_p, it);
          bits_at_most = is.bits_at_most b p (in_p, it);
          turns = is.turns b p (in_p, it);
          release_first = keeps.first;
          jitter_at_most = keeps.jitter;
        };
    spaced = λ p q in_p in_q differ it other same turn paced. elim (cases_Bool (v.direct b (source_of b p))) [
      | inr own ↦ is.own_spaced b p q (in_p, it) (in_q, other) differ own same turn paced
      | inl direct ↦
          let its : IsIts (carrier v b (source_of b p)) p = (in_p, it, refl) in
          let there : IsIts (carrier v b (source_of b p)) q = (in_q, other, sym same) in
          elim ((all_kept (ready b p + ready b q + 1)).1 b (source_of b p) p q its there differ (is.single b (source_of b p) direct) (omega arith) (omega arith)) [
            | inl ahead ↦ inl (later_there b (source_of b p) p q direct its there ahead)
            | inr behind ↦ inr (later_there b (source_of b p) q p direct there its behind)
          ]
    ];
  }
