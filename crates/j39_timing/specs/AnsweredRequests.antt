-- Messages that answer requests: as many as were asked for, each at most so long behind its request.
use Rattle.std.specs.Prelude.{◌≡◌, ℕ, ◌+◌, ◌-◌, ◌*◌, ◌<◌, ◌≤◌}
use Rattle.j39_timing.specs.Sums.{total}

-- the requests that ask for messages, each of which is made again and again
pub record Requesters : Type 0 where
  -- how many; each has a place below it
  pub count : ℕ
  -- the parts of which a bit has so many, and how many of them the moments of a request are apart: by a clock of its own it needn't be whole bits
  pub bit : ℕ
  pub pace : ℕ → ℕ

-- together they ask no more often than once in so many parts: the sum of 1 / pace is 1 / own at most, by a common denominator
pub record AskNoOftenerThan (requesters : Requesters) (own : ℕ) : Type 0 where
  pub whole : ℕ
  pub part : ℕ → ℕ
  pub positive : 0 < whole
  pub parts : (r : ℕ) → r < requesters.count → whole ≤ part r * requesters.pace r
  pub sum : own * total requesters.count part ≤ whole

-- of each message, or frame of one, by its place
pub record RequestsAnswered : Type 0 where
  -- whose request it answers, and which of these, in their order
  pub requester : ℕ → ℕ
  pub number : ℕ → ℕ
  -- the moment of this request: the bit at which it was queued
  pub moment : ℕ → ℕ
  -- the place of the frame in its message
  pub part : ℕ → ℕ

-- each of these answers a request whose moment is its own bit, or so many before at most; no request is answered twice; and n + 1 moments of one are n
-- times as far apart as two, less than a bit fewer
pub record AreAnswers (Is : ℕ → Type 0) (at : ℕ → ℕ) (late frames : ℕ) (requesters : Requesters) (answered : RequestsAnswered) : Type 0 where
  pub known : (m : ℕ) → Is m → answered.requester m < requesters.count
  pub moment_first : (m : ℕ) → Is m → answered.moment m ≤ at m
  pub late_at_most : (m : ℕ) → Is m → at m ≤ answered.moment m + late
  pub parts : (m : ℕ) → Is m → answered.part m < frames
  pub once : (m n : ℕ) → Is m → Is n → answered.requester m ≡ answered.requester n → answered.number m ≡ answered.number n
      → answered.part m ≡ answered.part n → m ≡ n
  pub apart : (m n : ℕ) → Is m → Is n → answered.requester m ≡ answered.requester n → answered.number m ≤ answered.number n
      → answered.moment m * requesters.bit + (answered.number n - answered.number m) * requesters.pace (answered.requester m)
      < (answered.moment n + 1) * requesters.bit
