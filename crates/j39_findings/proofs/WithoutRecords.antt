-- Plans without repeated parts.
use Rattle.std.proofs.Common.{◌≡◌, get_or, None, sym, ◌∙◌}
use Rattle.std.proofs.lemmas.Option.{none-some}
use Rattle.j39_network.specs.declared.plan.Plan.{Plan}
use Rattle.j39_network.specs.Records.{HasNoRecords}
use Rattle.j39_findings.specs.WithoutRecords.{IsWithoutRecords}
use Rattle.j39_search.proofs.Members.{all_at}
use Rattle.j39_network.proofs.RecordCounts.{signals_alone}

-- ---- plans without records

pub without_records : (plan : Plan) → HasNoRecords plan → IsWithoutRecords plan
without_records plan none = record {
  overlaps = λ g s t v.
      let here = all_at (λ group. group.every ≡ None) plan.groups.items none g v.value v.value_is in
      none-some _ (sym here ∙ v.meets.every_is);
  signals = λ g d less bytes. signals_alone (get_or plan.groups.items g d) (none g d less) bytes;
}
