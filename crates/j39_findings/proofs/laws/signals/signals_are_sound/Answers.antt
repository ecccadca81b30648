use Rattle.std.proofs.Common.{ℕ, List, All, None, Option, length, get_or, ap, subst, ◌∙◌}
use Rattle.j39_signal.proofs.Writes.{blank_ones, keeps_writes, value_read, ones_read}
use Rattle.j39_signal.specs.Laid.{IsBlank, KeepsWrites}
use Rattle.j39_signal.specs.declared.signal_parts.SignalParts.{SignalParts}
use Rattle.j39_signal.specs.Places.{WidthFits}
use Rattle.j39_signal.specs.State.{state_of}
use Rattle.j39_signal.specs.declared.selector.Selector.{Selector}
use Rattle.j39_network.specs.declared.plan.Plan.{Plan}
use Rattle.j39_findings.specs.Findings.{Clean}
use Rattle.j39_network.specs.Records.{signals_in}
use Rattle.j39_network.specs.SoundSignals.{IsBlankOf, ReadsBack}
use Rattle.j39_findings.proofs.CleanLaws.{lays_out_each, parts_of}
use Rattle.j39_findings.proofs.LastWrites.{reads_last}
use Rattle.j39_findings.proofs.laws.signals.signals_are_sound.Goals as goal

writes : (plan : Plan) → Clean plan → All (λ g. (start : List ℕ) → IsBlankOf g start → KeepsWrites start (signals_in g (length start))) plan.groups.items
writes plan clean = λ g d less start of. keeps_writes start _ (lays_out_each plan clean g d less (length start) of.length)

reads : (s : SignalParts) → WidthFits s → ReadsBack s
reads s fits = record { values = value_read s; given_up = ones_read s fits }

pub returns : goal.returns
returns c = λ plan clean. record {
  writes = writes plan clean;
  read = λ g d less s e in_group. reads _ (((parts_of plan clean).layouts g d less).longest.widths s e in_group);
  last_given = λ g d less start of.
      reads_last start _ (writes plan clean g d less start of)
      (λ s e in_message. reads _ ((lays_out_each plan clean g d less (length start) of.length).widths s e in_message));
  unset = λ g d less start of none s e in_message.
      let laid = lays_out_each plan clean g d less (length start) of.length in
      let signal = get_or (signals_in (get_or plan.groups.items g d) (length start)) s e in
      let blank : IsBlank None start = subst (λ (w : Option Selector). IsBlank w start) none of.blank in
      ap (state_of signal) (blank_ones start signal blank (laid.inside s e in_message)) ∙ ones_read signal (laid.widths s e in_message);
}
