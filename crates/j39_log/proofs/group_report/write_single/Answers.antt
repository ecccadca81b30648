use Rattle.std.proofs.Common.{◌≡◌, ℕ, true, not, ◌++◌, List, length, sym, ap, subst, ◌∙◌}
use Rattle.std.proofs.lemmas.Bool.{and_parts}
use Rattle.std.proofs.lemmas.Result.{IfOk-weaker}
use Rattle.j39_signal.specs.Bits.{raw_of}
use Rattle.j39_signal.specs.declared.signal_parts.SignalParts.{SignalParts}
use Rattle.j39_signal.specs.Places.{IsThere, is_there}
use Rattle.j39_signal.specs.State.{state_of}
use Rattle.j39_network.specs.Records.{stands_once}
use Rattle.j39_log.specs.LogReports.{signal_line}
use Rattle.j39_log.proofs.group_report.write_single.Goals as goal

pub read_there-state-requires-clause-there : goal.read_there-state-requires-clause-there
read_there-state-requires-clause-there c d =
    let s : SignalParts = c.args.signal.now in
    let n = length c.args.bytes.now in
    let stands : stands_once n s ≡ true = sym c.stands_once.ensures ∙ c.if-stands_once.true in
    subst (IsThere n) (sym (c.requires.at d)) (and_parts (not s.repeated) (is_there n s) stands).1

pub returns-then-stands_once : goal.returns-then-stands_once
returns-then-stands_once c =
    let s : SignalParts = c.args.signal.now in
    let bytes : List ℕ = c.args.bytes.now in
    let reads : c.read_there-state.result ≡ state_of s (raw_of bytes s) =
    c.read_there-state.ensures s ∙ ap (λ (t : SignalParts). state_of t (raw_of bytes t)) (c.requires.at s) in
    let is : stands_once (length bytes) s ≡ true = sym c.stands_once.ensures ∙ c.if-stands_once.true in
    IfOk-weaker c.write_signal.result _ _
    (λ _ written. rw is (written ∙ ap (λ (t : List ℕ). c.args.text.now ++ t) (ap (signal_line s) reads))) c.write_signal.ensures
