-- How much is asked of a flow as the program counts it: by two numbers, of digits of base 65,536 from the least on.
use Rattle.std.specs.Prelude.{◌≡◌, ℕ, zero, suc, ◌+◌, ◌*◌, ◌^◌, nat_lt, if◌then◌else◌, Bool, true, false, List, slice_index_or}
use Rattle.j39_network.specs.PlanLimits.{request_limit}
use Rattle.j39_load.specs.AskedFlows.{asked_parts, whole_parts}
use Rattle.j39_load.specs.declared.findings.asked_share.AskedShare.{AskedShare}

abbrev pub digit_base : ℕ
digit_base = 65536

-- one more than there are requests
abbrev pub digit_limit : ℕ
digit_limit = request_limit + 1

abbrev pub digit_at : List ℕ → ℕ → ℕ
digit_at digits place = slice_index_or digits place 0

-- the number that so many digits make
unfoldable pub first_digits : List ℕ → ℕ → ℕ
first_digits digits zero = 0
first_digits digits (suc n) = first_digits digits n + digit_base ^ n * digit_at digits n

-- one number is less than another one, by their first digits or by the digit behind them where this differs
abbrev pub less_with : Bool → ℕ → ℕ → Bool
less_with less one other = if nat_lt one other then true else if nat_lt other one then false else less

abbrev pub parts_asked_in : AskedShare → ℕ
parts_asked_in share = first_digits share.asked share.count

abbrev pub whole_in : AskedShare → ℕ
whole_in share = first_digits share.whole share.count

-- these are the parts that requests of these periods ask of a flow
pub record IsShareOf (period : ℕ) (periods : List ℕ) (share : AskedShare) : Type 0 where
  pub asked : parts_asked_in share ≡ asked_parts period periods
  pub whole : whole_in share ≡ whole_parts periods
