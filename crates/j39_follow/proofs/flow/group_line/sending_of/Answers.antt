use Rattle.j39_follow.proofs.flow.group_line.sending_of.Goals as goal

pub returns : goal.returns
returns c = λ plan log shows.
    let aim = c.aim_of.ensures plan log shows in record {
      sender = c.source.result;
      receiver = aim.0;
      sender_is = c.source.ensures plan log shows;
      receiver_is = aim.1;
      sender_unit = c.unit.ensures;
      aim_is = aim.2;
      unaddressed_is = c.is_unaddressed.ensures;
    }
