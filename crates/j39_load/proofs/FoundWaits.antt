-- A wait that was searched for, by the values that the search was given.
use Rattle.std.proofs.Common.{◌≡◌, ℕ, ◌+◌, ◌-◌, ◌*◌, ◌^◌, ◌<◌, ◌≤◌, List, Option, Some, None, IfSome, refl, subst, ap, ◌∙◌, arith}
use Rattle.std.proofs.lemmas.Option.{none-some, same_Some}
use Rattle.std.specs.Option.{ForSome}
use Rattle.j39_network.specs.declared.plan.timing.Timing.{Timing}
use Rattle.j39_load.specs.declared.frames.flow_frames.FlowFrames.{FlowFrames}
use Rattle.j39_load.specs.AnyQueues.{IsWaitWith}
use Rattle.j39_load.specs.Delays.{IsWaitOf, blocking_of, streams_before}
use Rattle.j39_load.specs.Demands.{demands_of}
use Rattle.j39_load.specs.Loads.{longest_wait}
use Rattle.j39_timing.specs.Waits.{Demand, NoShorterFits, need}
use Rattle.j39_timing.specs.declared.stream.Stream.{Stream}

-- the least wait that has room, of at most so many bits
abbrev pub IsFound : List Demand → ℕ → List Stream → ℕ → ℕ → Type 0
IsFound demands blocked streams most wait = (wait ≤ most) × (need demands blocked streams wait ≤ wait) × NoShorterFits demands blocked streams wait

-- no wait of at most so many bits has
abbrev pub AreNone : List Demand → ℕ → List Stream → ℕ → Type 0
AreNone demands blocked streams most = NoShorterFits demands blocked streams (most + 1)

module _ {ds es : List Demand} {a b : ℕ} {ss ts : List Stream} {m n : ℕ} (demands : ds ≡ es) (blocked : a ≡ b) (streams : ss ≡ ts) (most : m ≡ n) where
  pub same_found : (wait : ℕ) → IsFound ds a ss m wait → IsFound es b ts n wait
  same_found wait is =
      subst (λ (x : List Demand). IsFound x b ts n wait) demands
      (subst (λ (x : ℕ). IsFound ds x ts n wait) blocked
      (subst (λ (x : List Stream). IsFound ds a x n wait) streams
      (subst (λ (x : ℕ). IsFound ds a ss x wait) most is)))

  pub same_none : AreNone ds a ss m → AreNone es b ts n
  same_none is =
      subst (λ (x : List Demand). AreNone x b ts n) demands
      (subst (λ (x : ℕ). AreNone ds x ts n) blocked
      (subst (λ (x : List Stream). AreNone ds a x n) streams
      (subst (λ (x : ℕ). AreNone ds a ss x) most is)))

  -- so it is with what the search answers
  pub same_wait : (timing : Timing) → n ≡ longest_wait timing → (wait : Option ℕ) → IfSome wait (IsFound ds a ss m) → (wait ≡ None → AreNone ds a ss m)
      → IsWaitWith timing es ts b wait
  same_wait timing longest (Some wait) found none = subst (λ (x : ℕ). IsFound es b ts x wait) longest (same_found wait found)
  same_wait timing longest None found none = subst (λ (x : ℕ). AreNone es b ts x) longest (same_none (none refl))

-- that of frames at a place is one among the streams that go before them
module _ (timing : Timing) (all : List (Option FlowFrames)) (i : ℕ) (frames : FlowFrames) where
  abbrev pub IsWaitAmong : Option ℕ → Type 0
  IsWaitAmong wait = IsWaitWith timing (demands_of all) (streams_before timing i frames all) (blocking_of timing frames) wait

  pub wait_among : (wait : Option ℕ) → IsWaitOf timing all i frames wait → IsWaitAmong wait
  wait_among (Some wait) is = is
  wait_among None is = is

  pub among_wait : (wait : Option ℕ) → IsWaitAmong wait → IsWaitOf timing all i frames wait
  among_wait (Some wait) is = is
  among_wait None is = is

pub short_wait : (wait : Option ℕ) (ds : List Demand) (a m : ℕ) (ss : List Stream) → IfSome wait (IsFound ds a ss m) → m < 2 ^ 27
    → ForSome wait (λ bits. bits < 2 ^ 27)
short_wait (Some wait) ds a m ss found few = λ w is. let most = found.0 in let same = same_Some wait w is in omega (arith, most, few, same)
short_wait None ds a m ss found few = λ w is. absurd (none-some w is)

-- the bits that are blocking, but for those of the frame itself
pub same_blocking : {longest unplanned own : ℕ} {l u o : ℕ} → longest ≡ l → unplanned ≡ u → own ≡ o → longest * (1 + unplanned) - own ≡ l * (1 + u) - o
same_blocking {longest} {unplanned} {own} {l} {u} {o} long more itself =
    ap (λ (x : ℕ). x * (1 + unplanned) - own) long ∙ ap (λ (x : ℕ). l * (1 + x) - own) more ∙ ap (λ (x : ℕ). l * (1 + u) - x) itself
