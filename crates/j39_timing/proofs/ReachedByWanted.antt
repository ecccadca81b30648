-- A flow of two packets that wants its messages as soon as it may, each after 51 bits: six packets have their releases in 51 bits, of three messages.
use Rattle.std.proofs.Common.{◌≡◌, ℕ, zero, suc, ◌+◌, ◌*◌, ◌/◌, ◌%◌, ◌<◌, ◌≤◌, Bool, true, [], ◌∷◌, refl, subst, arith}
use Rattle.j39_timing.specs.FrameStreams.{Origins}
use Rattle.j39_timing.specs.Sums.{total}
use Rattle.j39_timing.specs.TimedFrames.{Schedule}
use Rattle.j39_timing.specs.Traffic.{releases_in}
use Rattle.j39_timing.specs.Waits.{Demand, frames_wanted}
use Rattle.j39_timing.specs.WantedMessages.{AreFramesOfMessages, AreReleasedApart, AreWantedInTurn, HasLongest, HavePeriods, UnitMessages, want_at}
use Rattle.j39_timing.proofs.AskedFrames.{apart_want_no_more}

-- the packets come each ten bits, from bit 72 on
abbrev six : Schedule
six = record { count = 6; queued = λ p. 72 + 10 * p; start = λ p. 72 + 10 * p; bits = λ p. 10; ident = λ p. 0; now = 1000 }

abbrev all_planned : ℕ → Bool
all_planned p = true

abbrev as_queued : Origins
as_queued = record { source = λ p. 0; turn = λ p. 0; since = λ p. 72 + 10 * p }

abbrev of_two : Demand
of_two = record { under_way = 2; wants = record { frames = 2; period = 51; jitter = 0; more = 1 } ∷ [] }

abbrev announced_at : ℕ → ℕ
announced_at zero = 0
announced_at (suc zero) = 82
announced_at (suc (suc m)) = 102 + 51 * m

abbrev three : UnitMessages
three = record {
  count = 3;
  flow = λ m. 0;
  release = λ m. 51 * m;
  wanted = λ m. 51 * m;
  announced = announced_at;
  message = λ p. p / 2;
  place = λ p. p % 2;
}

periods : HavePeriods of_two
periods zero = omega arith
periods (suc f) = omega arith

longest : HasLongest of_two
longest zero = omega arith
longest (suc f) = omega arith

wanted_first : (m : ℕ) → m < 3 → 51 * m ≤ announced_at m
wanted_first zero below = omega arith
wanted_first (suc zero) below = omega arith
wanted_first (suc (suc m)) below = omega arith

one_waits : (m n : ℕ) → m < n → n < 3 → announced_at m ≤ 51 * n
one_waits zero n less below = omega arith
one_waits (suc zero) n less below = omega (arith, less, below)
one_waits (suc (suc m)) n less below = absurd (omega (arith, less, below))

released : (f : ℕ) → AreReleasedApart of_two three f
released f = record {
  apart = λ m n one its. let (less, _, _) = one in subst (λ k. 51 * m + (want_at of_two k).period ≤ 51 * n) its (omega (arith, less));
  release_first = λ m below its. omega arith;
  jitter_at_most = λ m below its. omega arith;
}

some_more : (f : ℕ) → 1 ≤ (want_at of_two f).more
some_more zero = omega arith
some_more (suc f) = omega arith

wanted_in_turn : AreWantedInTurn of_two three
wanted_in_turn = record {
  flows = λ m below. omega arith;
  few = λ f. apart_want_no_more of_two three f (released f) periods (some_more f);
  wanted_first = wanted_first;
  one_waits = λ m n one. let (less, below, _) = one in one_waits m n less below;
}

behind : (p : ℕ) → p < 6 → announced_at (p / 2) ≤ 72 + 10 * p
behind zero below = omega arith
behind (suc zero) below = omega arith
behind (suc (suc zero)) below = omega arith
behind (suc (suc (suc zero))) below = omega arith
behind (suc (suc (suc (suc zero)))) below = omega arith
behind (suc (suc (suc (suc (suc zero))))) below = omega arith
behind (suc (suc (suc (suc (suc (suc p)))))) below = absurd (omega (arith, below))

in_turn : (p m : ℕ) → p / 2 < m → m < 3 → 72 + 10 * p ≤ announced_at m
in_turn p zero less below = absurd (omega (arith, less))
in_turn p (suc zero) less below = omega (arith, less)
in_turn p (suc (suc m)) less below = omega (arith, less, below)

of_messages : AreFramesOfMessages six all_planned as_queued 0 of_two three
of_messages = record {
  known = λ p its. let (below, _, _) = its in omega (arith, below);
  behind = λ p its. behind p its.0;
  in_turn = λ p m its less below. in_turn p m less below;
  apart = λ p q its other same place. omega (arith, same, place);
  places = λ p its. omega arith;
}

reached : releases_in six all_planned as_queued 0 72 51 ≡ frames_wanted 51 of_two
unfolding total
reached = refl

pub reached_by_wanted : (s : Schedule) × (planned : ℕ → Bool) × (of : Origins) × (demand : Demand) × (messages : UnitMessages)
    × AreWantedInTurn demand messages × AreFramesOfMessages s planned of 0 demand messages × HasLongest demand
    × (releases_in s planned of 0 72 51 ≡ frames_wanted 51 demand)
reached_by_wanted = (six, all_planned, as_queued, of_two, three, wanted_in_turn, of_messages, longest, reached)
