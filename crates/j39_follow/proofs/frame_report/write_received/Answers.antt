use Rattle.std.proofs.Common.{◌≡◌, [], ℕ, List, Option, None, refl, sym, ap, subst, ◌∙◌, inl, inr}
use Rattle.std.specs.Prelude.{option_map}
use Rattle.std.specs.declared.alloc.Global.{Global}
use Rattle.std.specs.declared.vec.Vec.{Vec}
use Rattle.std.proofs.lemmas.List.{append-nil}
use Rattle.j39_id.specs.declared.ident.Ident.{Ident}
use Rattle.j39_tp.specs.declared.packet.Packet.TheVariants.{EndAck}
use Rattle.j39_follow.specs.FollowReports.{IsMessageReport}
use Rattle.j39_follow.specs.Received.{IsReceivedOr, turned, way_packets}
use Rattle.j39_follow.specs.inside.Contesting.{ShowsParties}
use Rattle.j39_follow.specs.inside.Reporting.{front_of}
use Rattle.j39_follow.proofs.Addresses.Heard.{heard_packet}
use Rattle.j39_follow.proofs.Requests.Noted.{shows_turned}
use Rattle.j39_follow.proofs.frame_report.write_received.Goals as goal

pub returns-clause-heard : goal.returns-clause-heard
returns-clause-heard c = λ seen have.
    heard_packet c.args.groups.now c.args.pairs.now c.hear.new.self seen c.args.frame.now (EndAck c.args.size c.args.pgn)
    c.in_ok-hear.ensures.heard c.in_ok-hear.ensures.collected have

pub returns-clause-received : goal.returns-clause-received
returns-clause-received c = λ seen log shows have.
    let plan = c.args.groups.now in
    let i = c.args.frame.now.ident in
    let pgn : ℕ = c.args.pgn in
    let one = have i.ps i.sa i.ps_range i.sa_range in
    let h = way_packets i.ps i.sa one.is.since in
    let stated = subst (λ (m : Option (Vec ℕ Global)). IsReceivedOr h c.args.size pgn (option_map (λ (b : Vec ℕ Global). b.items) m)) c.in-Some.is
    (c.in_ok-received.ensures h one.kept) in
    let there = subst (ShowsParties plan c.args.parties.now log) (sym c.turned.ensures) (shows_turned plan c.args.parties.now log i shows) in
    let written = c.in_ok-sort.ensures log there in
    let report = subst (λ (n : ℕ). IsMessageReport plan log (front_of c.args.stamp)
    (record { pgn = n; bytes = c.in-Some.bytes.items; ident = turned i; framed = None }) c.in_ok-sort.sort written.0) c.number.ensures.value
    (subst (λ (j : Ident). IsMessageReport plan log (front_of c.args.stamp)
    (record { pgn = c.number.result; bytes = c.in-Some.bytes.items; ident = j; framed = None }) c.in_ok-sort.sort written.0) c.turned.ensures
    (subst (λ (b : List ℕ). IsMessageReport plan log (front_of c.args.stamp)
    (record { pgn = c.number.result; bytes = b; ident = c.turned.result; framed = None }) c.in_ok-sort.sort written.0) c.as_slice.ensures.value written.1)) in (
      written.0,
      (one.packets, one.is, inl (c.in-Some.bytes.items, c.in_ok-sort.sort, stated, report, refl)),
      written.2,
    )

pub returns-in_default-clause-heard : goal.returns-in_default-clause-heard
returns-in_default-clause-heard c = λ seen have.
    heard_packet c.args.groups.now c.args.pairs.now c.hear.new.self seen c.args.frame.now (EndAck c.args.size c.args.pgn)
    c.in_ok-hear.ensures.heard c.in_ok-hear.ensures.collected have

pub returns-in_default-clause-received : goal.returns-in_default-clause-received
returns-in_default-clause-received c = λ seen log shows have.
    let i = c.args.frame.now.ident in
    let one = have i.ps i.sa i.ps_range i.sa_range in
    let h = way_packets i.ps i.sa one.is.since in
    let stated = subst (λ (m : Option (Vec ℕ Global)). IsReceivedOr h c.args.size c.args.pgn (option_map (λ (b : Vec ℕ Global). b.items) m)) c.in_default.is
    (c.in_ok-received.ensures h one.kept) in (
      [],
      (one.packets, one.is, inr (stated, refl, refl)),
      sym (append-nil c.args.text.now),
    )
