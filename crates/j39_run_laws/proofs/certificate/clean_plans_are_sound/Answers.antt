use Rattle.std.proofs.Common.{rules}
use Rattle.j39_findings.specs.Findings.{Clean}
use Rattle.j39_network.specs.declared.plan.Plan.{Plan}
use Rattle.j39_world.specs.SoundPlan.{IsSound}
use Rattle.j39_run_laws.proofs.Certified.{sound_by_laws}
use Rattle.j39_run_laws.proofs.certificate.clean_plans_are_sound.Goals as goal

pub returns : goal.returns
returns c =
    let each : (plan : Plan) → Clean plan → IsSound plan = λ plan clean.
    sound_by_laws plan clean (search rules) (search rules) (search rules) (search rules) (search rules) (search rules)
    (search rules) (search rules) (search rules) (search rules) (search rules) (search rules) (search rules) (search rules) (search rules)
    (search rules) (search rules) (search rules) (search rules) (search rules) (search rules) (search rules) (search rules) (search rules)
    (search rules) (search rules) (search rules) (search rules) in
    record {
      sound = each;
      vehicles = λ plan clean vehicle is. each vehicle (c.serial_numbers_change_nothing.ensures.clean plan vehicle is clean);
    }
