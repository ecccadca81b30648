-- How much a vehicle holds at most, beside what its plans do. A vehicle has as many needs at most as a plan, and a forward lists as many
-- signals at most as a group has.
use Rattle.std.specs.Prelude.{ℕ}

-- the most buses of a vehicle
abbrev pub bus_limit : ℕ
bus_limit = 16

-- the most gateways of a vehicle
abbrev pub gateway_limit : ℕ
gateway_limit = 64

-- the most units of a gateway, on all of its buses together
abbrev pub gateway_unit_limit : ℕ
gateway_unit_limit = 128

-- the most forwards of a vehicle
abbrev pub forward_limit : ℕ
forward_limit = 512
