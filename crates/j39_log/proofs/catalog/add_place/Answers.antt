use Rattle.std.proofs.Common.{◌≡◌, Some, cond, nat_eq, Option, ap, ◌∙◌}
use Rattle.std.specs.HashMap.{get}
use Rattle.j39_log.specs.declared.catalog.Span.{Span}
use Rattle.j39_log.specs.inside.Catalogs.{extended}
use Rattle.j39_log.proofs.Indexes.{put_in}
use Rattle.j39_log.proofs.catalog.add_place.Goals as goal

pub returns-in-Ok : goal.returns-in-Ok
returns-in-Ok c = λ before at index.
    let span : c.extended-span.result ≡ extended (get nat_eq c.args.spans.now c.args.group.now.pgn) c.args.place =
    c.extended-span.ensures ∙ ap (λ (o : Option Span). extended o c.args.place) (c.copied.ensures ∙ c.get.ensures.value) in
    put_in c.args.spans.now c.insert.new.self before c.args.group.now c.args.place at
    (λ pgn. c.in-Ok.ensures.updates.0 pgn
    ∙ ap (λ (s : Span). cond (nat_eq c.args.group.now.pgn pgn) (Some s) (get nat_eq c.args.spans.now pgn)) span)
    index
