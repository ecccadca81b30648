-- What is known of the bus of a line.
use Rattle.std.proofs.Common.{◌≡◌, ◌≢◌, [], Option, Some, None, inr, sym}
use Rattle.j39_load.specs.BusTimes.{timing_of}
use Rattle.j39_network.specs.declared.plan.timing.Timing.{Timing}
use Rattle.j39_variants.specs.declared.line.ProductLine.{ProductLine}
use Rattle.j39_line_text.specs.LineLoadText.{ReportsLineTiming}

pub reported_timing : (line : ProductLine) (timing : Option Timing) → line.choices.items ≢ [] → timing ≡ timing_of line.plan → ReportsLineTiming line timing
reported_timing line None some is = inr (sym is)
reported_timing line (Some timing) some is = (some, sym is)
