-- Two requests each come after 200 bits, at once; the first answers come 50 bits late, and the next ones at once: four answers are queued in 151 bits.
use Rattle.std.proofs.Common.{◌≡◌, ℕ, ◌+◌, ◌*◌, ◌/◌, ◌%◌, ◌≤◌, Bool, true, refl, arith}
use Rattle.j39_timing.specs.AnsweredRequests.{RequestsAnswered, AreAnswers, AskNoOftenerThan, Requesters}
use Rattle.j39_timing.specs.FrameStreams.{Origins}
use Rattle.j39_timing.specs.Messages.{IsOf}
use Rattle.j39_timing.specs.Sums.{total}
use Rattle.j39_timing.specs.TimedFrames.{Schedule}
use Rattle.j39_timing.specs.Traffic.{queuings_in}
use Rattle.j39_timing.specs.Waits.{frames_of_want}
use Rattle.j39_timing.specs.declared.wants.Want.{Want}

abbrev answered_at : ℕ → ℕ
answered_at p = 50 + 150 * (p / 2)

abbrev four : Schedule
four = record { count = 4; queued = answered_at; start = λ p. answered_at p + 10 * (p % 2); bits = λ p. 10; ident = λ p. 0; now = 1000 }

abbrev all_planned : ℕ → Bool
all_planned p = true

abbrev of_one : Origins
of_one = record { source = λ p. 0; turn = λ p. 0; since = answered_at }

abbrev two_requests : Requesters
two_requests = record { count = 2; bit = 1; pace = λ r. 200 }

abbrev in_pairs : RequestsAnswered
in_pairs = record { requester = λ p. p % 2; number = λ p. p / 2; moment = λ p. 200 * (p / 2); part = λ p. 0 }

abbrev each_hundred : Want
each_hundred = record { frames = 1; period = 100; jitter = 50; more = 1 }

once_in_hundred : AskNoOftenerThan two_requests 100
unfolding total
once_in_hundred = record { whole = 200; part = λ r. 1; positive = omega arith; parts = λ r below. omega arith; sum = omega arith }

are_answers : AreAnswers (IsOf four all_planned of_one 0) four.queued 50 1 two_requests in_pairs
are_answers = record {
  known = λ p its. omega arith;
  moment_first = λ p its. let below = its.0 in omega (arith, below);
  late_at_most = λ p its. omega arith;
  parts = λ p its. omega arith;
  once = λ p q its other same number part. omega (arith, same, number);
  apart = λ p q its other same order. omega (arith, order);
}

reached : queuings_in four all_planned of_one 0 50 151 ≡ frames_of_want 151 each_hundred
unfolding total
reached = refl

pub reached_by_answers : (s : Schedule) × (planned : ℕ → Bool) × (of : Origins) × (want : Want) × (requesters : Requesters) × (answered : RequestsAnswered) × (own : ℕ)
    × AskNoOftenerThan requesters own × (want.period * requesters.bit ≤ own) × (requesters.count ≡ want.more + 1)
    × AreAnswers (IsOf s planned of 0) s.queued want.jitter want.frames requesters answered
    × (queuings_in s planned of 0 50 151 ≡ frames_of_want 151 want)
reached_by_answers = (four, all_planned, of_one, each_hundred, two_requests, in_pairs, 100, once_in_hundred, omega arith, refl, are_answers, reached)
