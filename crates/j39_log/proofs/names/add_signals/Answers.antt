use Rattle.std.proofs.Common.{◌≡◌, ◌+◌, ◌<◌, ◌++◌, ◌∷◌, [], ℕ, List, length, take, get_or, sym, ap, subst, ◌∙◌, arith, append_assoc}
use Rattle.j39_network.specs.declared.plan.meaning.Meaning.{Meaning}
use Rattle.j39_log.specs.NamedReports.{NumberNames, Numbered, first_names, numbered_as, numbered_signals}
use Rattle.j39_log.specs.inside.NameTables.{names_in, signal_name, with_name}
use Rattle.j39_log.proofs.Naming.{numbered_all, numbered_more, signal_passed, signal_pushed}
use Rattle.j39_log.proofs.names.add_signals.Goals as goal
use Rattle.j39_log.proofs.names.add_signals.Goals.{in-Some+in_ok-signal_name+in_ok-add, in_default}

pub loop-place-preserved : goal.loop-place-preserved
loop-place-preserved c = λ before at.
    let group = c.args.group.now in
    let i = c.loop-place.place in
    let m = c.index-meanings-place.result in
    let s = c.index-signal.result.now in
    let here = c.as_slice-meanings.ensures.value in
    let count : length c.as_slice-meanings.result.now ≡ length group.meanings.items = ap length here in
    let less : i < length group.meanings.items = (let test = c.loop-place-test.true in omega (arith, count, test)) in
    let meaning : m ≡ get_or group.meanings.items i m =
    subst (λ (ms : List Meaning). m ≡ get_or ms i m) here c.index-meanings-place.is in
    let more = numbered_more group i s m less c.index-signal.ensures meaning in
    let front : List Numbered = take i (numbered_signals group) in
    let x : Numbered = numbered_as group (s, m) in
    let joined : (before ++ front) ++ x ∷ [] ≡ before ++ take (i + 1) (numbered_signals group) =
    append_assoc before front (x ∷ []) ∙ ap (λ (t : List Numbered). before ++ t) (sym more) in
    let first = c.loop-place.invariant before at in
    elim c.match-meaning.branch [
      | in-Some+in_ok-signal_name+in_ok-add w ↦
          ap names_in w.table-is
          ∙ w.in_ok-add.ensures
          ∙ ap (λ (t : List ℕ). with_name (names_in c.loop-place.table) w.in-Some.spn t) w.in_ok-signal_name.ensures
          ∙ ap (λ (f : NumberNames). with_name f w.in-Some.spn (signal_name group s)) first
          ∙ signal_pushed (before ++ front) x w.in-Some.spn w.in-Some.is
          ∙ ap first_names joined
      | in_default w ↦ ap names_in w.table-is ∙ first ∙ signal_passed (before ++ front) x w.in_default.is ∙ ap first_names joined
    ]

pub returns : goal.returns
returns c = λ before at.
    let group = c.args.group.now in
    let count : length c.as_slice-meanings.result.now ≡ length group.meanings.items = ap length c.as_slice-meanings.ensures.value in
    let past = c.loop-place-test.false in
    c.loop-place.invariant before at
    ∙ ap (λ (xs : List Numbered). first_names (before ++ xs)) (numbered_all group c.loop-place.place (omega (arith, count, past)))
