-- The times of each possible variant are no worse than those of full ones.
use Rattle.std.specs.Prelude.{◌≡◌, ℕ, ◌<◌, ◌≤◌, List, false, length}
use Rattle.j39_variants.specs.declared.line.ProductLine.{ProductLine}
use Rattle.j39_line_findings.specs.FullVariants.{line_with}
use Rattle.j39_line_findings.specs.PossibleVariants.{IsPossible}
use Rattle.j39_line_findings.specs.declared.full.LineNevers.{LineNevers}
use Rattle.j39_part_laws.specs.PartLoads.{HasGoodNumbers}
use Rattle.j39_line_bounds.specs.LineTimes.{AreVariantTimes, flow_badness, is_less_bad, need_badness, time_of_flow, time_of_need}
use Rattle.j39_line_bounds.specs.declared.times.LineTimes.{LineTimes}
use Rattle.j39_line_laws.specs.FoundOfFull.{IsPossibleFull}
use Rattle.j39_line_laws.specs.OldNeeds.{IsPossibleFullFor}

-- what is reported of a flow, or of a need, is no worse than this
abbrev pub IsFlowNoWorse : LineTimes → LineTimes → ℕ → Type 0
IsFlowNoWorse times reported f = is_less_bad (flow_badness (time_of_flow reported f)) (flow_badness (time_of_flow times f)) ≡ false

abbrev pub IsNeedNoWorse : LineTimes → LineTimes → ℕ → Type 0
IsNeedNoWorse times reported d = is_less_bad (need_badness (time_of_need reported d)) (need_badness (time_of_need times d)) ≡ false

-- so it is with each flow of the file, and with the load
pub record AreFlowsNoWorse (line : ProductLine) (times reported : LineTimes) : Type 0 where
  pub flows : (f : ℕ) → f < length line.plan.flows.items → IsFlowNoWorse times reported f
  pub load : times.load ≤ reported.load

-- ---- in full variants, in whose plans no bad number of a group is found

pub record HasFlowsNoWorse (line : ProductLine) (reported : LineTimes) (variant : List ℕ) : Type 0 where
  pub times : LineTimes
  pub are_times : AreVariantTimes line variant times
  pub good : HasGoodNumbers are_times.plan
  pub no_worse : AreFlowsNoWorse line times reported

pub record HasNeedNoWorse (line : ProductLine) (reported : LineTimes) (d : ℕ) (variant : List ℕ) : Type 0 where
  pub times : LineTimes
  pub are_times : AreVariantTimes line variant times
  pub good : HasGoodNumbers are_times.plan
  pub no_worse : IsNeedNoWorse times reported d

-- ---- in all possible ones

-- what bounds the flows and the load of each full variant of a line, with or without its nevers, bounds those of each possible variant
abbrev pub FlowsOfFullBoundAll : ProductLine → LineNevers → Type 0
FlowsOfFullBoundAll line nevers = (reported : LineTimes) → ((w : List ℕ) → IsPossibleFull (line_with nevers line) w → HasFlowsNoWorse line reported w)
    → (v : List ℕ) → IsPossible line v → (times : LineTimes) → AreVariantTimes line v times → AreFlowsNoWorse line times reported

-- and what bounds a need in each variant that is full for it bounds it in each possible one
abbrev pub NeedsOfFullBoundAll : ProductLine → LineNevers → Type 0
NeedsOfFullBoundAll line nevers = (reported : LineTimes) (d : ℕ) → d < length line.plan.needs.items
    → ((w : List ℕ) → IsPossibleFullFor (line_with nevers line) d w → HasNeedNoWorse line reported d w)
    → (v : List ℕ) → IsPossible line v → (times : LineTimes) → AreVariantTimes line v times → IsNeedNoWorse times reported d
