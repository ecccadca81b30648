use Rattle.std.proofs.Common.{◌≡◌, ◌∷◌, ◌++◌, [], List, Option, refl, sym, ap, subst, ◌∙◌, arith}
use Rattle.std.specs.Option.{option_to_list}
use Rattle.std.proofs.lemmas.List.{length-append, length_push}
use Rattle.j39_follow.specs.Contests.{IsTaken}
use Rattle.j39_follow.specs.FollowReports.{IsSendingOf, Message, brought_by, frame_events, notice_events}
use Rattle.j39_follow.specs.LoggedRequests.{asker_or_source}
use Rattle.j39_follow.specs.declared.request.event.Event.{Event}
use Rattle.j39_follow.specs.declared.message.Sort.{Sort}
use Rattle.j39_follow.specs.declared.address.who.Who.{Who}
use Rattle.j39_follow.specs.inside.Contesting.{ShowsParties}
use Rattle.j39_follow.specs.inside.Exchanging.{AreExchanges}
use Rattle.j39_follow.specs.inside.Recounting.{party_at}
use Rattle.j39_follow.proofs.Requests.Noted.{joined_events, one_at_most, shows_ended}
use Rattle.j39_follow.proofs.request.noting.note.Goals as goal

pub returns : goal.returns
returns c = λ log events shows asks few are.
    let plan = c.args.plan.now in
    let f = c.args.frame.now in
    let sent = c.sending_of-sent.result in
    let way = c.sending_of-way.result in
    let asker : Who = c.party-asker.result in
    let sorts : List Sort = c.args.sort ∷ option_to_list c.args.ended in
    let there = subst (ShowsParties plan c.args.parties.now log) (sym (ap (λ (m : Message). m.ident) c.in_frame.ensures)) shows in
    let sent_is = subst (λ (m : Message). IsSendingOf plan log m sent) c.in_frame.ensures (c.sending_of-sent.ensures plan log there) in
    let back = subst (ShowsParties plan c.args.parties.now log) (sym (ap (λ (m : Message). m.ident) c.ended_message.ensures))
    (shows_ended plan c.args.parties.now log f shows) in
    let way_is = subst (λ (m : Message). IsSendingOf plan log m way) c.ended_message.ensures (c.sending_of-way.ensures plan log back) in
    let who : asker ≡ party_at c.args.parties.now.all (asker_or_source plan f) =
    c.party-asker.ensures ∙ ap (party_at c.args.parties.now.all) c.asker_or_source.ensures in
    let one = one_at_most c.noticed.result in
    let size = length-append events (option_to_list c.noticed.result) in
    let size_then = length_push (events ++ option_to_list c.noticed.result) c.brought.result in
    let first = c.hear_any.ensures events (omega (arith, few)) are in
    let second = c.hear.ensures (events ++ option_to_list c.noticed.result) (omega (arith, few, one, size)) first in
    let third = c.hear_any-2.ensures ((events ++ option_to_list c.noticed.result) ++ c.brought.result ∷ [])
    (omega (arith, few, one, size, size_then)) second in
    let same : ((events ++ option_to_list c.noticed.result) ++ c.brought.result ∷ []) ++ option_to_list c.brought_any.result
    ≡ events ++ frame_events plan f sent way asker sorts =
    ap (λ (n : List Event). ((events ++ n) ++ c.brought.result ∷ []) ++ option_to_list c.brought_any.result) c.noticed.ensures
    ∙ ap (λ (e : Event). ((events ++ notice_events plan f sent asker) ++ e ∷ []) ++ option_to_list c.brought_any.result) c.brought.ensures
    ∙ ap (λ (o : Option Event). ((events ++ notice_events plan f sent asker) ++ brought_by plan sent c.args.sort ∷ []) ++ option_to_list o)
    c.brought_any.ensures
    ∙ joined_events events (notice_events plan f sent asker) (brought_by plan sent c.args.sort) (brought_by plan way) c.args.ended in
    record {
      more = frame_events plan f sent way asker sorts;
      are_events = record {
        sent = sent;
        ended = way;
        asker = asker;
        ended_is = way_is;
        sent_is = sent_is;
        asker_is = subst (IsTaken plan log (asker_or_source plan f)) (sym who) asks;
        events_are = refl;
      };
      exchanges = subst (AreExchanges plan c.hear_any-2.new.self) same third;
    }
