-- The head of a report and what stands behind it are its first line.
use Rattle.std.proofs.Common.{◌≡◌, ◌++◌, ℕ, List, refl, append_assoc}
use Rattle.j39_network.specs.declared.plan.group_plan.GroupPlan.{GroupPlan}
use Rattle.j39_id.specs.declared.ident.Ident.{Ident}
use Rattle.j39_text.specs.Texts.{field_text}
use Rattle.j39_log.specs.LogReports.{group_line, way_text}
use Rattle.j39_log.specs.ReportHeads.{behind_head, report_head}

pub head_and_rest : (group : GroupPlan) (i : Ident) (bytes : List ℕ) → report_head group ++ behind_head i bytes ≡ group_line group i bytes
unfolding group_line way_text field_text behind_head
head_and_rest group i bytes = simp append_assoc refl
