-- What a plan asks of its bus, as a call answers it.
use Rattle.j39_load.specs.declared.loads.Loads.{Loads}
use Rattle.j39_load.specs.Asked.{Asked, asked_by}

abbrev pub asked_in : Loads → Asked
asked_in loads = asked_by loads.flows.items loads.units.items loads.requests.items loads.unplanned_end
