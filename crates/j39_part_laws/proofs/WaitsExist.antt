-- Each least wait is found or is none of those that are looked for, each queue group has a level, and all frames of a plan have buffering delays.
use Rattle.std.proofs.Common.{◌≡◌, ℕ, zero, suc, ◌+◌, ◌≤◌, max, Bool, true, false, not, ◌&&◌, ◌||◌, leb, List, [], ◌∷◌, length, get_or}
use Rattle.std.proofs.Common.{All, Option, Some, None, refl, sym, ◌∙◌, inl, inr, arith}
use Rattle.std.proofs.lemmas.Bool.{and_from, and_parts, cases_Bool, false≢true, le-leb, leb-false, leb-true, true≢false}
use Rattle.std.specs.Bool.{MatchBool}
use Rattle.j39_network.specs.declared.plan.timing.Timing.{Timing}
use Rattle.j39_load.specs.declared.frames.flow_frames.FlowFrames.{FlowFrames}
use Rattle.j39_load.specs.AnyQueues.{AreAtMost, Buffering, IsBufferedFor, IsBuffering, IsLevel, IsQueueGroupLevel, IsQueueGroupWait}
use Rattle.j39_load.specs.AnyQueues.{IsWaitWith, blocking_with, buffered, is_of_queue_group, keep_order, least_unbounded, leasts_of, streams_with}
use Rattle.j39_load.specs.AnyQueues.{with_unplanned}
use Rattle.j39_load.specs.Demands.{demands_of}
use Rattle.j39_load.specs.Loads.{longest_wait}
use Rattle.j39_timing.specs.Waits.{Demand, NoShorterFits, need}
use Rattle.j39_timing.specs.declared.stream.Stream.{Stream}
use Rattle.j39_part_laws.proofs.LeastNumbers.{HoldsOfNone, IsLeast, least_of_one, least_or_none, listed}

-- ---- waits

module _ (demands : List Demand) (blocking : ℕ) (streams : List Stream) where
  abbrev pub has_room : ℕ → Bool
  has_room w = leb (need demands blocking streams w) w

  pub room : (w : ℕ) → has_room w ≡ true → need demands blocking streams w ≤ w
  room w is = leb-true (need demands blocking streams w) w is

  pub none_shorter : (w : ℕ) → HoldsOfNone has_room w → NoShorterFits demands blocking streams w
  none_shorter w none v below = leb-false (need demands blocking streams v) v (none v below)

  pub some_wait : (timing : Timing) → (wait : Option ℕ) × IsWaitWith timing demands streams blocking wait
  some_wait timing = elim (least_or_none has_room (longest_wait timing + 1)) [
    | inl found ↦
        let below = found.1 in
        (Some found.0, (omega (arith, below), room found.0 found.2.holds, none_shorter found.0 found.2.first))
    | inr none ↦ (None, none_shorter (longest_wait timing + 1) none)
  ]

-- ---- levels

module _ (leasts : List (Option ℕ)) (own : FlowFrames) where
  -- no frame of the queue group with identifiers up to a level has one above it
  abbrev keeps_to : ℕ → Option FlowFrames → Bool
  keeps_to level None = true
  keeps_to level (Some x) = not (is_of_queue_group leasts own level x) || leb x.last_ident level

  abbrev all_keep_to : ℕ → List (Option FlowFrames) → Bool
  all_keep_to level [] = true
  all_keep_to level (x ∷ xs) = keeps_to level x && all_keep_to level xs

  kept_to : (level : ℕ) (o : Option FlowFrames) → keeps_to level o ≡ true → AreAtMost leasts own level level o
  kept_to level None is = tt
  kept_to level (Some x) is = go (is_of_queue_group leasts own level x) is
    where
      go : (b : Bool) → (not b || leb x.last_ident level) ≡ true → b ≡ true → x.last_ident ≤ level
      go true keeps its = leb-true x.last_ident level keeps
      go false keeps its = absurd (false≢true its)

  keeping : (level : ℕ) (o : Option FlowFrames) → AreAtMost leasts own level level o → keeps_to level o ≡ true
  keeping level None are = refl
  keeping level (Some x) are = go (is_of_queue_group leasts own level x) are
    where
      go : (b : Bool) → (b ≡ true → x.last_ident ≤ level) → (not b || leb x.last_ident level) ≡ true
      go true most = le-leb x.last_ident level (most refl)
      go false most = refl

  all_kept_to : (level : ℕ) (xs : List (Option FlowFrames)) → all_keep_to level xs ≡ true → All (AreAtMost leasts own level level) xs
  all_kept_to level [] is = λ k d below. absurd (omega (arith, below))
  all_kept_to level (x ∷ xs) is =
      let parts = and_parts (keeps_to level x) (all_keep_to level xs) is in
      all_cons (kept_to level x parts.0) (all_kept_to level xs parts.1)
    where
      all_cons : AreAtMost leasts own level level x → All (AreAtMost leasts own level level) xs → All (AreAtMost leasts own level level) (x ∷ xs)
      all_cons first others zero d below = first
      all_cons first others (suc k) d below = others k d (omega (arith, below))

  all_keeping : (level : ℕ) (xs : List (Option FlowFrames)) → All (AreAtMost leasts own level level) xs → all_keep_to level xs ≡ true
  all_keeping level [] are = refl
  all_keeping level (x ∷ xs) are =
      and_from (keeps_to level x) (all_keep_to level xs) (keeping level x (are 0 None (omega arith)))
      (all_keeping level xs (λ k d below. are (suc k) d (omega (arith, below))))

  -- the greatest identifier of all, and those up to it
  abbrev last_of : Option FlowFrames → ℕ
  last_of None = 0
  last_of (Some x) = x.last_ident

  abbrev greatest : List (Option FlowFrames) → ℕ
  greatest [] = own.last_ident
  greatest (x ∷ xs) = max (last_of x) (greatest xs)

  own_below : (xs : List (Option FlowFrames)) → own.last_ident ≤ greatest xs
  own_below [] = omega arith
  own_below (x ∷ xs) = let rest = own_below xs in omega (arith, rest)

  all_below : (level : ℕ) (xs : List (Option FlowFrames)) → greatest xs ≤ level → all_keep_to level xs ≡ true
  all_below level [] below = refl
  all_below level (x ∷ xs) below =
      and_from (keeps_to level x) (all_keep_to level xs) (keeping level x (at x (omega (arith, below))))
      (all_below level xs (omega (arith, below)))
    where
      at : (o : Option FlowFrames) → last_of o ≤ level → AreAtMost leasts own level level o
      at None less = tt
      at (Some y) less = λ its. less

  module _ (all : List (Option FlowFrames)) where
    abbrev is_level : ℕ → Bool
    is_level level = leb own.last_ident level && all_keep_to level all

    pub some_level : (level : ℕ) × IsQueueGroupLevel leasts all own level
    some_level =
        let top = greatest all in
        let found = least_of_one is_level top
        (and_from (leb own.last_ident top) (all_keep_to top all) (le-leb own.last_ident top (own_below all)) (all_below top all (omega arith))) in
        let parts = and_parts (leb own.last_ident found.0) (all_keep_to found.0 all) found.1.holds in (
          found.0,
          record {
            is = record { own_frames = leb-true own.last_ident found.0 parts.0; queue_group = all_kept_to found.0 all parts.1 };
            least = λ other level. least_level found.0 found.1 other level;
          },
        )
      where
        least_level : (n : ℕ) → IsLeast is_level n → (other : ℕ) → IsLevel leasts all own other → n ≤ other
        least_level n least other level = elim (cases_Bool (leb n other)) [
          | inl below ↦ leb-true n other below
          | inr above ↦
              let holds = and_from (leb own.last_ident other) (all_keep_to other all) (le-leb own.last_ident other level.own_frames)
              (all_keeping other all level.queue_group) in
              absurd (true≢false (sym holds ∙ least.first other (leb-false n other above)))
        ]

-- ---- buffering

module _ (timing : Timing) (ends : ℕ) (all : List (Option FlowFrames)) where
  some_queue_group_wait : (own : FlowFrames) → (wait : Option ℕ) × IsQueueGroupWait timing ends (leasts_of all) all own wait
  some_queue_group_wait own =
      let level = some_level (leasts_of all) (with_unplanned timing ends own) all in
      let wait = some_wait (demands_of all) (blocking_with timing own)
      (streams_with timing (leasts_of all) all (with_unplanned timing ends own) level.0) timing in
      (wait.0, record { level = level.0; of_queue_group = level.1; least_wait = wait.1 })

  some_buffered_for : (o : Option FlowFrames) → (wait : Option ℕ) × IsBufferedFor timing ends all o wait
  some_buffered_for None = (Some 0, refl)
  some_buffered_for (Some frames) = go (keep_order frames)
    where
      go : (b : Bool) → (wait : Option ℕ) × MatchBool b (wait ≡ Some 0) (IsQueueGroupWait timing ends (leasts_of all) all frames wait)
      go true = (Some 0, refl)
      go false = some_queue_group_wait frames

  pub some_buffering : (buffering : Buffering) × IsBuffering timing ends all buffering
  some_buffering =
      let found = listed None (length all) (λ j wait. IsBufferedFor timing ends all (get_or all j None) wait) (λ j below. some_buffered_for (get_or all j None))
      in (
        record { frames = buffered found.0 all; waits = found.0; least_unbounded = least_unbounded found.0 all },
        record {
          bounded = record { count = found.1; each = found.2 };
          frames = refl;
          least_unbounded = refl;
        },
      )
