-- What a log reports of a bus: times of the ends of frames by a clock that may run a thousandth too fast or too slow, and a bit at which nothing waited.
use Rattle.std.specs.Prelude.{ℕ, suc, ◌+◌, ◌-◌, ◌*◌, ◌<◌, ◌≤◌, ◌&&◌, cond, nat_lt, nat_le}
use Rattle.j39_timing.specs.Errors.{Damaged}
use Rattle.j39_timing.specs.Messages.{frame_end}
use Rattle.j39_timing.specs.Sums.{total}
use Rattle.j39_timing.specs.TimedFrames.{Schedule}

-- a clock in thousandths of a microsecond at each bit, of which one takes so many microseconds
abbrev pub KeepsTime : ℕ → (ℕ → ℕ) → Type 0
KeepsTime us clock = (a b : ℕ) → a ≤ b → (clock a + 999 * (us * (b - a)) ≤ clock b) × (clock b ≤ clock a + 1001 * (us * (b - a)))

-- a time in microseconds is that of a bit, within so many
abbrev pub IsTimeOf : (ℕ → ℕ) → ℕ → ℕ → ℕ → Type 0
IsTimeOf clock within time bit = (1000 * time ≤ clock bit + 1000 * within) × (clock bit ≤ 1000 * time + 1000 * within)

-- the longest attempt, with the error frame behind it
abbrev pub attempt_bits : ℕ
attempt_bits = 191

-- how many damaged attempts begin in a span of bits
abbrev pub attempts_in : Damaged → ℕ → ℕ → ℕ
attempts_in d from span = total d.count (λ e. cond (nat_le from (d.begin e) && nat_lt (d.begin e) (from + span)) 1 0)

-- no more than so many begin in the span that they and one more would fill
abbrev pub AreFew : Damaged → ℕ → Type 0
AreFew d few = (from : ℕ) → attempts_in d from (attempt_bits * suc few) ≤ few

-- the microseconds that a frame of so many bytes takes at most, with a bit before it and what may be damaged, and what clocks differ meanwhile
abbrev pub longest_reach : ℕ → ℕ → ℕ → ℕ
longest_reach us bytes few = us * (81 + (10 * bytes + 192 * few)) + 2

-- frame f is the next one that ends behind frame g
pub record IsNextTo (s : Schedule) (g f : ℕ) : Type 0 where
  pub known : f < s.count
  pub ended : frame_end s f ≤ s.now
  pub none_between : (q : ℕ) → q < s.count → frame_end s q < frame_end s f → frame_end s q ≤ frame_end s g

-- two lines that follow one another, of frames that don't touch
pub record ShowsIdle (s : Schedule) (us few within bytes : ℕ) (clock : ℕ → ℕ) (g f before time : ℕ) : Type 0 where
  pub next : IsNextTo s g f
  pub short : bytes ≤ 8
  pub bits : s.bits f ≤ 80 + 10 * bytes
  pub time_before : IsTimeOf clock within before (frame_end s g)
  pub time_of : IsTimeOf clock within time (frame_end s f)
  pub apart : before + (longest_reach us bytes few + 2 * within) < time

-- each frame that begins from the beginning of frame f on was queued at this time or later
abbrev pub IsMarkOf : Schedule → (ℕ → ℕ) → ℕ → ℕ → Type 0
IsMarkOf s clock f mark = (p : ℕ) → p < s.count → s.start f ≤ s.start p → 1000 * mark ≤ clock (s.queued p)
