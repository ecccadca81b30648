use Rattle.j39_vehicle_laws.proofs.Arriving.{values_arrive}
use Rattle.j39_vehicle_laws.proofs.Timely.{are_timely}
use Rattle.j39_vehicle_laws.proofs.Whole.{ages_kept, needs_kept, pauses_kept, seen_vehicle}
use Rattle.j39_vehicle_laws.proofs.times.sound_vehicles_keep_ages.Goals as goal

pub returns : goal.returns
returns c = record
    { ages = ages_kept; arrives = λ v delays sound. values_arrive v sound.paths; needs = needs_kept; pauses = pauses_kept; streams = λ v delays sound seen by is. (seen_vehicle v delays sound seen by is).kept; timely = λ v delays sound. are_timely v delays sound.paths sound.stated sound.times }
