use Rattle.std.proofs.Common.{◌∙◌}
use Rattle.j39_audit.proofs.Keeping.{kept_more}
use Rattle.j39_audit.proofs.broadcasts.BegunBroadcasts.set.Goals as goal

pub returns : goal.returns
returns c = λ b recalls.
    let kept = c.keep_at.ensures in
    record { size = kept.size ∙ recalls.size; begun = kept_more c.args.unit kept.others c.args.one kept.here recalls.begun; counted = recalls.counted }
