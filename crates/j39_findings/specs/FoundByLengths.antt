-- Plans whose groups have one length each are found as if groups had no other.
use Rattle.std.specs.Prelude.{◌↔◌, ◌⊎◌, ℕ, ◌+◌, ◌<◌, ◌≤◌}
use Rattle.j39_id.specs.Limits.{frame_bytes}
use Rattle.j39_id.specs.Pgn.{pdu2_first, pf_of}
use Rattle.j39_search.specs.ListPlaces.{ValueAt}
use Rattle.j39_network.specs.PlannedFlows.{IsToOne}
use Rattle.j39_findings.specs.Findings.{Holds}
use Rattle.j39_network.specs.TextPlaces.{last_byte}
use Rattle.j39_network.specs.declared.plan.Plan.{Plan}
use Rattle.j39_findings.specs.declared.checking.finding.Finding.TheVariants.{FlowToOne, TextOutside}

-- ---- plans whose groups have one length each

pub record IsFoundByLengths (plan : Plan) : Type 0 where
  pub to_one : (f : ℕ) → Holds plan (FlowToOne f) ↔ ValueAt
      (λ flow. IsToOne flow × ValueAt (λ group. (pdu2_first ≤ pf_of group.pgn) × (group.length ≤ frame_bytes)) plan.groups.items flow.group)
      plan.flows.items f
  pub texts : (g t : ℕ) → Holds plan (TextOutside g t) ↔ ValueAt
      (λ group. ValueAt (λ text. (group.length + 1 < text.byte) ⊎ (group.length < last_byte text)) group.texts.items t) plan.groups.items g
