use Rattle.std.proofs.Common.{refl}
use Rattle.j39_plan.proofs.reading.top_table.top.Goals as goal

pub returns-clause-gives : goal.returns-clause-gives
returns-clause-gives c =
    let no_strangers_key = rw c.version_of-version.ensures at c.in_ok-strangers.ensures.gives.0 in
    let no_live_key = rw c.version_of-version.ensures at c.in_ok-live.ensures.0 in
    let no_later_key = rw c.version_of-version.ensures at c.in_ok-later.ensures.0 in (
      rw (c.in_ok-keep_free.ensures.gives.0, no_strangers_key, no_live_key, c.in_ok-timing.ensures.0, c.in_ok-units.ensures.0, c.in_ok-groups.ensures.0)
          (rw (c.in_ok-flows.ensures.0, no_later_key) refl),
      record {
        has_keep_free = c.in_ok-keep_free.ensures.gives.1;
        has_strangers = rw c.version_of-version.ensures at c.in_ok-strangers.ensures.gives.1;
        has_live = rw c.version_of-version.ensures at c.in_ok-live.ensures.1;
        has_timing = c.in_ok-timing.ensures.1;
        has_units = c.in_ok-units.ensures.1;
        has_groups = c.in_ok-groups.ensures.1;
        has_flows = c.in_ok-flows.ensures.1;
        has_needs = rw c.version_of-version.ensures at c.in_ok-later.ensures.1.0;
        has_requests = rw c.version_of-version.ensures at c.in_ok-later.ensures.1.1;
      },
    )
