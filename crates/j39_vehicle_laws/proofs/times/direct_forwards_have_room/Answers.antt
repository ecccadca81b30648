use Rattle.j39_vehicle_laws.proofs.PlainTimes.{ages_are_unasked, answers_stay_answers, clocks_are_of_bitrates, deadlines_have_room}
use Rattle.j39_vehicle_laws.proofs.times.direct_forwards_have_room.Goals as goal

pub returns : goal.returns
returns c = record { answers = answers_stay_answers; deadlines = deadlines_have_room; ages = ages_are_unasked; clocks = clocks_are_of_bitrates }
