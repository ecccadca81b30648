use Rattle.std.proofs.Common.{◌≡◌, ◌&&◌, nat_eq, ℕ, ap, ◌∙◌}
use Rattle.j39_audit.specs.Counting.{Noted, key_of, reported_at, reported_more}
use Rattle.j39_audit.specs.declared.tally.Occurrences.{Occurrences}
use Rattle.j39_audit.proofs.Counted.{settled}
use Rattle.j39_audit.proofs.tally.MarkTally.note.Goals as goal

pub returns-in-Ok : goal.returns-in-Ok
returns-in-Ok c = record {
  counts = λ noted counted key.
      let m = c.args.mark in
      let n : Noted = record { mark = m; line = c.args.line; detail = c.args.detail } in
      let was = c.reported.ensures ∙ counted (key_of m) in
      let new : c.one_more-new.result ≡ reported_more (reported_at noted (key_of m)) n.line n.detail =
      c.one_more-new.ensures ∙ ap (λ (t : Occurrences). reported_more t n.line n.detail) was in
      settled _ _ _ _ noted n key (c.in-Ok.ensures.updates.0 key)
      (ap (λ (w : ℕ). (nat_eq w key.0 && nat_eq m.subject key.1) && nat_eq m.group key.2) c.number.ensures) new (counted key);
  sights = c.sighted-self.ensures;
  unclear = c.in_ok-note_unclear.ensures;
}
