use Rattle.j39_run_laws.proofs.certificate.certify.Goals as goal

pub returns-clause-sound : goal.returns-clause-sound
returns-clause-sound c = c.clean_plans_are_sound.ensures.sound c.args.checked.now c.plan-plan.ensures.clean

pub returns-clause-vehicles : goal.returns-clause-vehicles
returns-clause-vehicles c = c.clean_plans_are_sound.ensures.vehicles c.args.checked.now c.plan-plan.ensures.clean
