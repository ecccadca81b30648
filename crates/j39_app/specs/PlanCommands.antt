-- What is written for what is asked of a plan, or of another file by a plan.
use Rattle.std.specs.Prelude.{ℕ, List, Option, map, string_bytes}
use Rattle.j39_app.specs.Answers.{IsFollowFrontOf, IsFollowOf, IsReadFrontOf, IsReadOf, IsRunFrontOf, IsRunOf}
use Rattle.j39_app.specs.AuditAnswers.{IsAuditOf}
use Rattle.j39_app.specs.declared.by_plan.CommandByPlan.{CommandByPlan}
use Rattle.j39_app.specs.declared.by_plan.CommandByPlan.TheVariants.{Run, Read, Follow, Audit}
use Rattle.j39_app.specs.declared.plan_command.PlanCommand.{PlanCommand}
use Rattle.j39_app.specs.declared.plan_command.PlanCommand.TheVariants.{Show, Variant, Check, Addresses, Load}
use Rattle.j39_line_text.specs.LineAddressesText.{IsLineAddressesText}
use Rattle.j39_line_text.specs.LineCheckText.{IsLineCheckText}
use Rattle.j39_line_text.specs.LineLoadText.{IsLineLoadText}
use Rattle.j39_network.specs.declared.plan.Plan.{Plan}
use Rattle.j39_plan_text.specs.ShownLines.{IsShowText}
use Rattle.j39_plan_text.specs.VariantText.{IsVariantText}
use Rattle.j39_stream.specs.Streams.{log_limits, plan_limits}
use Rattle.j39_stream.specs.declared.limits.Limits.{Limits}
use Rattle.j39_stream.specs.declared.verdict.Verdict.{Verdict}

-- for the bytes of a plan file
abbrev pub IsTextOfPlan : PlanCommand → List ℕ → List ℕ → Verdict → Type 0
IsTextOfPlan Show = IsShowText
IsTextOfPlan (Variant labels) = IsVariantText (map string_bytes labels.now)
IsTextOfPlan Check = IsLineCheckText
IsTextOfPlan Addresses = IsLineAddressesText
IsTextOfPlan Load = IsLineLoadText

-- for a plan and the bytes of the other file, where they are known
abbrev pub IsTextByPlan : CommandByPlan → Plan → Option (List ℕ) → List ℕ → Verdict → Type 0
IsTextByPlan Run = IsRunOf
IsTextByPlan Read = IsReadOf
IsTextByPlan (Follow all_frames) = IsFollowOf all_frames
IsTextByPlan (Audit part stamps quiet) = IsAuditOf part stamps quiet

-- where a fault comes, a part of such a text may stand written
abbrev pub IsFrontByPlan : CommandByPlan → Plan → Option (List ℕ) → List ℕ → Verdict → Type 0
IsFrontByPlan Run = IsRunFrontOf
IsFrontByPlan Read = IsReadFrontOf
IsFrontByPlan (Follow all_frames) = IsFollowFrontOf all_frames
IsFrontByPlan (Audit part stamps quiet) = IsAuditOf part stamps quiet

-- what is written is put at once, and not while the other file is read
abbrev pub PutsByPlan : CommandByPlan → Type 0
PutsByPlan (Audit part stamps quiet) = Unit {0}
PutsByPlan _ = ⊥

-- how much of the other file is read
abbrev pub limits_by_plan : CommandByPlan → Limits
limits_by_plan Run = plan_limits
limits_by_plan _ = log_limits
