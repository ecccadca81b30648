-- A message that no receiver answers is coming, as something is taken or lost, or a receiver hears nothing in time.
use Rattle.std.proofs.Common.{◌≡◌, ℕ, zero, suc, ◌||◌, ◌⊎◌, inl, inr, true, List, [], ◌∷◌, ◌++◌, refl, sym, ap, ◌∙◌, subst, Option, Some}
use Rattle.std.specs.Prelude.{map}
use Rattle.std.specs.List.{AllByRecursion}
use Rattle.std.proofs.lemmas.Bool.{cases_eq, true≢false}
use Rattle.j39_tp.specs.Receiver as receiver
use Rattle.j39_tp.specs.declared.packet.Packet.{Packet}
use Rattle.j39_tp.specs.declared.receiving.heard.Heard.{Heard}
use Rattle.j39_tp.specs.declared.receiving.manner.Manner.TheVariants.{Answering}
use Rattle.j39_tp.specs.declared.receiving.progress.Progress.{Progress}
use Rattle.j39_tp.specs.declared.sending.stage.Stage.{Stage}
use Rattle.j39_tp.proofs.Answering.{IsAnswer, ReportsMessage, timed_out_aside}
use Rattle.j39_network.specs.declared.plan.Plan.{Plan}
use Rattle.j39_network.specs.declared.plan.to.To.TheVariants as tos
use Rattle.j39_world.specs.declared.wired.Wired.{Wired}
use Rattle.j39_world.specs.declared.wired.Wired.TheVariants as wired
use Rattle.j39_world.specs.Arriving.{oldest_passes}
use Rattle.j39_world.specs.Flows.{window_at}
use Rattle.j39_world.specs.Resting.{is_alone, is_of_receiver}
use Rattle.j39_world.specs.Sound.{reported}
use Rattle.j39_world.specs.Transfers.{Outgoing, Begun, Reported, Wire, is_among, closed_if_complete}
use Rattle.j39_world.specs.TransferSteps.{alone_report, session_after, reaction_of, receiver_replies, sender_replies, flow_in, report, hearing, Reports}
use Rattle.j39_world.specs.TransferSteps.{packet_taken, TakenFrom, LostFrom, packets_in, receiver_timed_out}
use Rattle.j39_world.specs.World.{World, changed, changed_pair}
use Rattle.j39_run_laws.proofs.Reports.ExchangeSteps.{asides_answer, answers_answering}
use Rattle.j39_run_laws.proofs.Reports.Exchanges.{begun_of, IsAnswering}
use Rattle.j39_run_laws.proofs.Reports.Hearings.{packets_aside, reaction_aside}
use Rattle.j39_run_laws.proofs.Reports.Reporting.{reported_beside, reported_here, reported_elsewhere}
use Rattle.j39_run_laws.proofs.Reports.TransferInvariant.{TransferInvariant}
use Rattle.j39_run_laws.proofs.Runs.Changed.{IsElsewhere, changed_here, changed_elsewhere, pair_here, pair_elsewhere, pair_here_or_elsewhere}
use Rattle.j39_run_laws.proofs.Runs.Elements.{all-append}
use Rattle.j39_run_laws.proofs.Transfers.FitSteps.{receiver_answers}
use Rattle.j39_run_laws.proofs.Transfers.Flights.{is_whole, IsItem, InFlight, sent_most, HasTaken, IsUnderWay, grown_under_way, short_heard, HearsOn}
use Rattle.j39_run_laws.proofs.Transfers.Flights.{packet_heard}
use Rattle.j39_run_laws.proofs.Transfers.Coming.{reports_beside, answers_grow, reports_nothing, none_apart, reports_apart, message_reported, at_stage, IsComing}
use Rattle.j39_run_laws.proofs.Transfers.Coming.{stage_kept}

-- no item of the message is an answer, or was sent alone
abbrev IsBeside : Wired → Type 0
IsBeside item = (is_alone item || is_of_receiver item) ≡ true

no_item_answers : (o : Outgoing) (k : ℕ) (item : Wired) → IsItem o k item → IsBeside item → ⊥
no_item_answers o zero item (inl whole) answers = true≢false (sym (subst IsBeside whole.1 answers))
no_item_answers o zero item (inr long) answers = true≢false (sym (subst IsBeside long.1 answers))
no_item_answers o (suc k) item (seven, is) answers = true≢false (sym (subst IsBeside is answers))

module _ (plan : Plan) (u : ℕ) (o : Outgoing) (meant : List ℕ) (before : ℕ → List Begun) (unanswered : (o.to ≡ tos.All) ⊎ (is_whole o ≡ true)) where
  abbrev Coming : World → Type 0
  Coming w = IsComing plan u o meant before unanswered w

  abbrev WayAt : ℕ → World → ℕ → ℕ → Type 0
  WayAt sent w s t = IsUnderWay o sent (w.wire s t) (w.receivers t s) (reported w.reports t s) (before t)

  module _ (w : World) (inv : TransferInvariant plan w) (coming : Coming w) where
    session_at : (s : ℕ) → s ≡ u → w.sessions s ≡ Some (at_stage plan u o meant before unanswered coming.targets coming.stage)
    session_at s same = ap w.sessions same ∙ coming.session

    way_at : (s t : ℕ) → s ≡ u → is_among meant t ≡ true → WayAt coming.sent w s t
    way_at s t same among = subst (λ k. WayAt coming.sent w k t) (sym same) (coming.ways t among)

    -- all lists, receivers and reports of the message's pairs, in a world with its session
    comes : (new : World) → new.sessions u ≡ Some (at_stage plan u o meant before unanswered coming.targets coming.stage)
        → ((s t : ℕ) → s ≡ u → is_among meant t ≡ true → WayAt coming.sent new s t) → Coming new
    comes new session ways = record {
      targets = coming.targets;
      stage = coming.stage;
      sent = coming.sent;
      session = session;
      still = coming.still;
      sends = coming.sends;
      ways = λ v among. ways u v refl among;
    }

    -- a way of a pair of which nothing changes
    same_way : (new : World) (s t : ℕ) → new.wire s t ≡ w.wire s t → new.receivers t s ≡ w.receivers t s → reported new.reports t s ≡ reported w.reports t s
        → s ≡ u → is_among meant t ≡ true → WayAt coming.sent new s t
    same_way new s t wire receivers reports same among =
        let e : IsUnderWay o coming.sent (new.wire s t) (new.receivers t s) (reported new.reports t s) (before t)
        ≡ IsUnderWay o coming.sent (w.wire s t) (w.receivers t s) (reported w.reports t s) (before t) =
        λ i. IsUnderWay o coming.sent (wire i) (receivers i) (reports i) (before t) in
        subst (λ (X : Type 0). X) (sym e) (way_at s t same among)

    -- ---- something is lost, or a receiver hears nothing in time, elsewhere

    -- an answer of u is lost
    answer_lost : (x y : ℕ) (item : Wired) (rest : List Wired) → w.wire x y ≡ item ∷ rest → x ≡ u → is_among meant y ≡ true
        → oldest_passes is_of_receiver (w.wire u y) ≡ true → WayAt coming.sent (record w { wire = changed_pair w.wire x y rest }) x y
    answer_lost x y item rest is same among passes =
        let way : WayAt coming.sent w x y = way_at x y same among in
        let here : oldest_passes is_of_receiver (w.wire x y) ≡ true =
        subst (λ k. oldest_passes is_of_receiver (w.wire k y) ≡ true) (sym same) passes in
        let oldest : IsBeside item = subst (λ (xs : List Wired). oldest_passes is_of_receiver xs ≡ true) is here in
        let left : InFlight o rest way.taken coming.sent =
        elim (subst (λ (xs : List Wired). InFlight o xs way.taken coming.sent) is way.flight) [
          | inl beside ↦ beside.1
          | inr next ↦ absurd (no_item_answers o way.taken item next.0 oldest)
        ] in
        subst (λ (xs : List Wired). IsUnderWay o coming.sent xs (w.receivers y x) (reported w.reports y x) (before y))
        (sym (pair_here w.wire x y rest)) (record { taken = way.taken; flight = left; receiver = way.receiver })

    pub lose_keeps : (x y : ℕ) → (x ≡ u → is_among meant y ≡ true → oldest_passes is_of_receiver (w.wire u y) ≡ true) → (list : List Wired)
        → w.wire x y ≡ list → (new : World) → LostFrom w x y list new → Coming new
    lose_keeps x y spares [] is new never = absurd never
    lose_keeps x y spares (item ∷ rest) is new e =
        let lost : World = record w { wire = changed_pair w.wire x y rest } in
        let Way : ℕ → ℕ → Type 0 = λ s t. s ≡ u → is_among meant t ≡ true → WayAt coming.sent lost s t in
        let here : Way x y = λ same among. answer_lost x y item rest is same among (spares same among) in
        let elsewhere : (s t : ℕ) → IsElsewhere x y s t → Way s t =
        λ s t apart. same_way lost s t (pair_elsewhere w.wire x y rest s t apart) refl refl in
        subst Coming (sym e) (comes lost coming.session (pair_here_or_elsewhere Way x y here elsewhere))

    pub late_receiver_keeps : (windows : List ℕ) (x y : ℕ) → (x ≡ u → is_among meant y ≡ true → ⊥) → Coming (receiver_timed_out windows w x y)
    late_receiver_keeps windows x y spares =
        let late : Progress × Option Packet = receiver.timed_out (Answering (window_at windows y)) (w.receivers y x) in
        let sends : List Packet = packets_in late.1 in
        let answers : AllByRecursion IsAnswering (map wired.Packet sends) =
        answers_answering sends (asides_answer sends (packets_aside late.1 (timed_out_aside (window_at windows y) (w.receivers y x)))) in
        let then : World = receiver_timed_out windows w x y in
        let apart : (s t : ℕ) → s ≡ u → is_among meant t ≡ true → IsElsewhere y x t s =
        λ s t same among to_y to_x. spares (sym to_x ∙ same) (subst (λ k. is_among meant k ≡ true) to_y among) in
        let ways : (s t : ℕ) → s ≡ u → is_among meant t ≡ true → WayAt coming.sent then s t =
        λ s t same among. grown_under_way o coming.sent (w.wire s t) (then.wire s t) (then.receivers t s) (reported w.reports t s) (before t)
        (answers_grow w.wire y x (map wired.Packet sends) answers s t)
        (subst (λ (pr : Progress). IsUnderWay o coming.sent (w.wire s t) pr (reported w.reports t s) (before t))
        (sym (pair_elsewhere w.receivers y x (closed_if_complete late.0) t s (apart s t same among))) (way_at s t same among)) in
        comes then coming.session ways

    -- ---- a message of one frame is taken

    module _ (x y : ℕ) (bytes : List ℕ) (rest : List Wired) (is : w.wire x y ≡ wired.Short bytes ∷ rest) where
      abbrev short_then : World
      short_then = record w { wire = changed_pair w.wire x y rest; reports = w.reports ++ report w x y bytes ∷ [] }

      short_here : x ≡ u → is_among meant y ≡ true → WayAt coming.sent short_then x y
      short_here same among =
          let way : WayAt coming.sent w x y = way_at x y same among in
          let one : bytes ≡ o.bytes → reported (w.reports ++ report w x y bytes ∷ []) y x ≡ reported w.reports y x ++ begun_of o ∷ [] =
          λ bytes_are. reported_here w.reports x y (flow_in (w.sessions x)) bytes
          ∙ (λ i. reported w.reports y x ++ record { flow = flow_in (session_at x same i); bytes = bytes_are i } ∷ []) in
          let heard = short_heard o bytes rest way.taken coming.sent (w.receivers y x) (reported w.reports y x) (before y) _
          (subst (λ (xs : List Wired). InFlight o xs way.taken coming.sent) is way.flight) way.receiver one in
          subst (λ (xs : List Wired). IsUnderWay o coming.sent xs (w.receivers y x) (reported (w.reports ++ report w x y bytes ∷ []) y x) (before y))
          (sym (pair_here w.wire x y rest)) (record { taken = 1; flight = heard.0; receiver = heard.1 })

      pub short_keeps : Coming short_then
      short_keeps =
          let Way : ℕ → ℕ → Type 0 = λ s t. s ≡ u → is_among meant t ≡ true → WayAt coming.sent short_then s t in
          let elsewhere : (s t : ℕ) → IsElsewhere x y s t → Way s t =
          λ s t apart. same_way short_then s t (pair_elsewhere w.wire x y rest s t apart) refl
          (reported_elsewhere w.reports x y (flow_in (w.sessions x)) bytes s t apart) in
          comes short_then coming.session (pair_here_or_elsewhere Way x y short_here elsewhere)

    -- ---- a packet is taken

    module _ (windows : List ℕ) (x y : ℕ) (p : Packet) (rest : List Wired) (is : w.wire x y ≡ wired.Packet p ∷ rest) (rs : List Reported)
        (stated : Reports w x y p (hearing windows w x y p).1 rs) where
      abbrev heard : Progress × Heard
      heard = hearing windows w x y p

      abbrev then : World
      then = packet_taken windows w x y rest p rs

      abbrev less : Wire
      less = changed_pair w.wire x y rest

      answers : AllByRecursion IsAnswering (map wired.Packet (receiver_replies heard.1 ++ sender_replies (reaction_of (w.sessions y) x p)))
      answers =
          let reacted : List Packet = sender_replies (reaction_of (w.sessions y) x p) in
          answers_answering (receiver_replies heard.1 ++ reacted) (all-append IsAnswer (receiver_replies heard.1) reacted
          (receiver_answers (window_at windows y) (w.receivers y x) p) (asides_answer reacted (reaction_aside (w.sessions y) x p)))

      -- what was taken was taken, and answers are sent
      way_then : (s t : ℕ) → IsUnderWay o coming.sent (less s t) (changed_pair w.receivers y x (closed_if_complete heard.0) t s)
          (reported (w.reports ++ rs) t s) (before t)
          → WayAt coming.sent then s t
      way_then s t = grown_under_way o coming.sent (less s t) _ _ _ (before t)
          (answers_grow less y x (map wired.Packet (receiver_replies heard.1 ++ sender_replies (reaction_of (w.sessions y) x p))) answers s t)

      -- what is complete is the message
      one_report : x ≡ u → is_among meant y ≡ true → ReportsMessage heard.1 → reported (w.reports ++ rs) y x ≡ reported w.reports y x ++ begun_of o ∷ []
      one_report same among = message_reported plan w inv x y (at_stage plan u o meant before unanswered coming.targets coming.stage) (session_at x same)
          (coming.still y among) windows p rest is rs stated

      packet_here : x ≡ u → is_among meant y ≡ true → WayAt coming.sent then x y
      packet_here same among =
          let way : WayAt coming.sent w x y = way_at x y same among in
          let hears : HearsOn o coming.sent rest heard (reported w.reports y x) (before y) =
          packet_heard (window_at windows y) o p rest way.taken coming.sent (w.receivers y x) (reported w.reports y x) (before y)
          (sent_most o coming.stage coming.sent coming.sends) (subst (λ (xs : List Wired). InFlight o xs way.taken coming.sent) is way.flight) way.receiver in
          let has : HasTaken o (closed_if_complete heard.0) hears.taken (reported (w.reports ++ rs) y x) (before y) =
          elim (hears.stated) [
            | inl (nothing, has) ↦ subst (λ (xs : List Begun). HasTaken o (closed_if_complete heard.0) hears.taken xs (before y))
                (sym (none_apart w x y p rs x y (reports_nothing w x y p rs heard.1 nothing stated))) has
            | inr (message, has) ↦ has (reported (w.reports ++ rs) y x) (one_report same among message)
          ] in
          way_then x y (subst (λ (xs : List Wired). IsUnderWay o coming.sent xs (changed_pair w.receivers y x (closed_if_complete heard.0) y x)
          (reported (w.reports ++ rs) y x) (before y))
          (sym (pair_here w.wire x y rest))
          (subst (λ (pr : Progress). IsUnderWay o coming.sent rest pr (reported (w.reports ++ rs) y x) (before y))
          (sym (pair_here w.receivers y x (closed_if_complete heard.0))) (record { taken = hears.taken; flight = hears.flight; receiver = has })))

      packet_elsewhere : (s t : ℕ) → IsElsewhere x y s t → s ≡ u → is_among meant t ≡ true → WayAt coming.sent then s t
      packet_elsewhere s t apart same among =
          let mid : World = record w { wire = less; receivers = changed_pair w.receivers y x (closed_if_complete heard.0); reports = w.reports ++ rs } in
          way_then s t (same_way mid s t (pair_elsewhere w.wire x y rest s t apart)
          (pair_elsewhere w.receivers y x (closed_if_complete heard.0) t s (λ to_y to_x. apart to_x to_y))
          (reports_apart w x y p rs heard.1 s t apart stated) same among)

      session_then : changed w.sessions y (session_after (w.sessions y) x p) u ≡ Some (at_stage plan u o meant before unanswered coming.targets coming.stage)
      session_then = elim (cases_eq u y) [
        | inl same ↦
            let hears : session_after (w.sessions y) x p ≡ Some (at_stage plan u o meant before unanswered coming.targets coming.stage) =
            ap (λ (z : Option Outgoing). session_after z x p) (session_at y (sym same))
            ∙ ap (λ (st : Stage). Some (at_stage plan u o meant before unanswered coming.targets st))
            (stage_kept plan u o meant before unanswered coming.targets coming.stage coming.sent x p coming.sends) in
            ap (changed w.sessions y (session_after (w.sessions y) x p)) same ∙ (changed_here w.sessions y (session_after (w.sessions y) x p) ∙ hears)
        | inr other ↦ changed_elsewhere w.sessions y (session_after (w.sessions y) x p) u other ∙ coming.session
      ]

      pub packet_keeps : Coming then
      packet_keeps = comes then session_then
          (pair_here_or_elsewhere (λ s t. s ≡ u → is_among meant t ≡ true → WayAt coming.sent then s t) x y packet_here packet_elsewhere)

    pub take_keeps : (windows : List ℕ) (x y : ℕ) (list : List Wired) → w.wire x y ≡ list → (new : World) → TakenFrom windows w x y list new → Coming new
    take_keeps windows x y [] is new never = absurd never
    take_keeps windows x y (wired.Short bytes ∷ rest) is new e = subst Coming (sym e) (short_keeps x y bytes rest is)
    take_keeps windows x y (wired.Packet p ∷ rest) is new (rs, stated, e) = subst Coming (sym e) (packet_keeps windows x y p rest is rs stated)
    take_keeps windows x y (wired.Alone f bytes ∷ rest) is new e =
        let less : World = record w { wire = changed_pair w.wire x y rest } in
        let passes : x ≡ u → is_among meant y ≡ true → oldest_passes is_of_receiver (w.wire u y) ≡ true =
        λ same _. subst (λ (list : List Wired). oldest_passes is_of_receiver list ≡ true) (sym is ∙ ap (λ k. w.wire k y) same) refl in
        subst Coming (sym e) (reports_beside plan u o meant before unanswered less (w.reports ++ alone_report x y f bytes ∷ [])
        (reported_beside w.reports x y f bytes) (lose_keeps x y passes (wired.Alone f bytes ∷ rest) is less refl))
