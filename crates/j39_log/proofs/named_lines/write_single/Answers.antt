use Rattle.std.proofs.Common.{◌≡◌, ℕ, true, not, ◌++◌, List, length, sym, ap, subst, ◌∙◌}
use Rattle.std.proofs.lemmas.Bool.{and_parts}
use Rattle.std.proofs.lemmas.Result.{IfOk-weaker}
use Rattle.j39_signal.specs.Bits.{raw_of}
use Rattle.j39_signal.specs.declared.signal_parts.SignalParts.{SignalParts}
use Rattle.j39_signal.specs.Places.{IsThere, is_there}
use Rattle.j39_signal.specs.State.{shown_of}
use Rattle.j39_signal.specs.declared.state.Shown.{Shown}
use Rattle.j39_network.specs.Records.{stands_once}
use Rattle.j39_log.specs.LogReports.{signal_state_text}
use Rattle.j39_log.specs.NamedReports.{raw_text, named_signal_line, named_state_text}
use Rattle.j39_log.specs.inside.NameTables.{names_in}
use Rattle.j39_log.proofs.named_lines.write_single.Goals as goal

pub show-shown-requires-clause-there : goal.show-shown-requires-clause-there
show-shown-requires-clause-there c d =
    let s : SignalParts = c.args.signal.now in
    let n = length c.args.bytes.now in
    let stands : stands_once n s ≡ true = sym c.stands_once.ensures ∙ c.if-stands_once.true in
    subst (IsThere n) (sym (c.requires.at d)) (and_parts (not s.repeated) (is_there n s) stands).1

pub write_signal-requires : goal.write_signal-requires
write_signal-requires c =
    let s : SignalParts = c.args.signal.now in
    let shows : c.show-shown.result ≡ shown_of s (raw_of c.args.bytes.now s) =
    c.show-shown.ensures s ∙ ap (λ (t : SignalParts). shown_of t (raw_of c.args.bytes.now t)) (c.requires.at s) in
    shows ∙ ap (shown_of s) (sym (ap (λ (x : Shown). x.raw) shows))

pub returns-then-stands_once : goal.returns-then-stands_once
unfolding raw_text named_state_text signal_state_text named_signal_line
returns-then-stands_once c =
    let s : SignalParts = c.args.signal.now in
    let shows : c.show-shown.result ≡ shown_of s (raw_of c.args.bytes.now s) =
    c.show-shown.ensures s ∙ ap (λ (t : SignalParts). shown_of t (raw_of c.args.bytes.now t)) (c.requires.at s) in
    let is : stands_once (length c.args.bytes.now) s ≡ true = sym c.stands_once.ensures ∙ c.if-stands_once.true in
    let line = ap (λ (raw : ℕ). named_signal_line s (raw_text (names_in c.args.parameters.now) (s, names_in c.args.values.now) raw))
    (ap (λ (x : Shown). x.raw) shows) in
    IfOk-weaker c.write_signal.result _ _ (λ _ written. rw is (written ∙ ap (λ (t : List ℕ). c.args.text.now ++ t) line)) c.write_signal.ensures
