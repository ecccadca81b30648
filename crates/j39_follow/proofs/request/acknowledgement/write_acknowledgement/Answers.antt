use Rattle.std.proofs.Common.{◌≡◌, ◌++◌, [], ℕ, Bool, List, Option, Some, None, if◌then◌else◌, sym, ap, ◌∙◌}
use Rattle.std.specs.Option.{option_copied, option_map_or}
use Rattle.std.proofs.lemmas.List.{append-nil}
use Rattle.std.proofs.lemmas.Result.{IfOk-weaker}
use Rattle.j39_follow.specs.FollowReports.{answer_text, answer_way_text}
use Rattle.j39_follow.specs.LoggedRequests.{asker_address, control_of, control_word, asker_or_source}
use Rattle.j39_follow.specs.inside.Recounting.{party_at}
use Rattle.j39_follow.specs.inside.Reporting.{front_of}
use Rattle.j39_follow.proofs.Requests.Noted.{an_answer_way}
use Rattle.j39_follow.proofs.request.acknowledgement.write_acknowledgement.Goals as goal

pub returns-in-Some : goal.returns-in-Some
returns-in-Some c =
    let plan = c.args.plan.now in
    let all = c.args.parties.now.all in
    let f = c.args.frame.now in
    let front : List ℕ = front_of c.args.stamp in
    let old : List ℕ = c.args.text.now in
    let word : List ℕ = c.in-Some.word.now in
    let known : control_word (control_of f) ≡ Some word =
    sym (sym (ap option_copied c.in-Some.is) ∙ c.control_word.ensures ∙ ap control_word c.control_of.ensures) in
    let there : asker_or_source plan f ≡ asker_address f = ap (λ (b : Bool). if b then asker_address f else f.ident.sa) c.requires.acknowledged in
    let way : List ℕ = answer_way_text plan (party_at all f.ident.sa) f.ident.sa (party_at all (asker_address f)) (asker_address f) in
    IfOk-weaker c.write_answer.result _ _
    (λ _ written. λ log shows asks. (
      way,
      record {
        sender = party_at all f.ident.sa;
        asker = party_at all (asker_or_source plan f);
        sender_is = shows.source;
        asker_is = asks;
        text_is = ap (λ (a : ℕ). answer_way_text plan (party_at all f.ident.sa) f.ident.sa (party_at all a) a) (sym there);
      },
      written shows.names ∙ sym (ap (λ (o : Option (List ℕ)). old ++ option_map_or (λ (w : List ℕ). answer_text front w f way) o []) known),
    ))
    c.write_answer.ensures

pub returns-in-None : goal.returns-in-None
returns-in-None c = λ log shows asks.
    let plan = c.args.plan.now in
    let f = c.args.frame.now in
    let front : List ℕ = front_of c.args.stamp in
    let old : List ℕ = c.args.text.now in
    let way = an_answer_way plan c.args.parties.now log f shows asks in
    let unknown : control_word (control_of f) ≡ None =
    sym (sym (ap option_copied c.in-None.is) ∙ c.control_word.ensures ∙ ap control_word c.control_of.ensures) in (
      way.0,
      way.1,
      sym (append-nil old) ∙ sym (ap (λ (o : Option (List ℕ)). old ++ option_map_or (λ (w : List ℕ). answer_text front w f way.0) o []) unknown),
    )
