-- Twins: frames of one unit that have one identifier, since what they carry is distinguished by their data alone.
use Rattle.std.specs.Prelude.{ℕ, ◌==◌, Bool, false, not, ◌&&◌, ◌||◌, nat_lt, Option}
use Rattle.std.specs.Option.{option_map_or}
use Rattle.j39_load.specs.declared.frames.flow_frames.FlowFrames.{FlowFrames}
use Rattle.j39_load.specs.AnyQueues.{keep_order}

-- a number, and the same one
abbrev pub is_same : Option ℕ → Option ℕ → Bool
is_same one other = option_map_or (λ (m : ℕ). option_map_or (λ (n : ℕ). n == m) other false) one false

-- one of these frames may have the identifier of one of the first: they are of one unit, so that those keep order where
-- the first do
abbrev pub are_twins : FlowFrames → FlowFrames → Bool
are_twins own frames = is_same own.twin_ident frames.twin_ident && (keep_order frames || not (keep_order own))

-- one of these frames may go before one of the first, whatever addresses the units come to hold
abbrev pub may_precede : FlowFrames → FlowFrames → Bool
may_precede own frames = nat_lt frames.least_ident own.greatest_ident || are_twins own frames
