use Rattle.j39_run_laws.proofs.Addresses.PlannedApart.{fixed_stay}
use Rattle.j39_run_laws.proofs.Addresses.Staying.{stay, by_others, from_others}
use Rattle.j39_run_laws.proofs.laws.staying.who_stays.Goals as goal

pub returns : goal.returns
returns c = record {
  held = λ plan steps w run. stay plan steps w run;
  by_others = λ units u stays. by_others units u stays;
  from_others = λ units u stated. from_others units u stated;
  fixed = λ plan apart silent u in_u fixed. fixed_stay plan apart silent u in_u fixed;
}
