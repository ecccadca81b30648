-- A message of several frames to one unit is on its way, as something is taken.
use Rattle.std.proofs.Common.{◌≡◌, ◌≢◌, ℕ, ◌<◌, inl, inr, Bool, true, List, [], ◌∷◌, ◌++◌, length, refl, sym, ap, ◌∙◌, subst, append-nil, Option, Some}
use Rattle.std.specs.Prelude.{map}
use Rattle.std.specs.List.{AllByRecursion}
use Rattle.std.proofs.lemmas.Bool.{cases_eq, cond-true, cond-false}
use Rattle.std.proofs.lemmas.List.{append_assoc, map-append}
use Rattle.j39_tp.specs.Sender as sender
use Rattle.j39_tp.specs.declared.packet.Packet.{Packet}
use Rattle.j39_tp.specs.declared.receiving.heard.Heard.{Heard}
use Rattle.j39_tp.specs.declared.receiving.heard.Heard.TheVariants as heards
use Rattle.j39_tp.specs.declared.receiving.progress.Progress.{Progress}
use Rattle.j39_tp.specs.declared.sending.dest.Dest.{Dest}
use Rattle.j39_tp.specs.declared.sending.dest.Dest.TheVariants as dests
use Rattle.j39_tp.specs.declared.sending.reaction.Reaction.{Reaction}
use Rattle.j39_tp.specs.declared.sending.reaction.Reaction.TheVariants as reactions
use Rattle.j39_tp.specs.declared.sending.stage.Stage.{Stage}
use Rattle.j39_tp.proofs.Answering.{HoldsNothing}
use Rattle.j39_network.specs.declared.plan.Plan.{Plan}
use Rattle.j39_network.specs.declared.plan.to.To.TheVariants as tos
use Rattle.j39_world.specs.declared.wired.Wired.{Wired}
use Rattle.j39_world.specs.declared.wired.Wired.TheVariants as wired
use Rattle.j39_world.specs.Arriving.{oldest_passes, SendsOther}
use Rattle.j39_world.specs.Flows.{window_at}
use Rattle.j39_world.specs.Resting.{is_of_sender, is_of_receiver}
use Rattle.j39_world.specs.Sound.{reported}
use Rattle.j39_world.specs.Transfers.{Outgoing, Begun, Reported, Wire, is_among, closed_if_complete}
use Rattle.j39_world.specs.TransferSteps.{alone_report, outgoing_hears, session_after, reaction_of}
use Rattle.j39_world.specs.TransferSteps.{receiver_replies, sender_replies, flow_in, report, hearing, Reports, packet_taken, TakenFrom}
use Rattle.j39_world.specs.World.{World, changed, changed_pair}
use Rattle.j39_run_laws.proofs.Reports.Reporting.{reported_beside, reported_elsewhere}
use Rattle.j39_run_laws.proofs.Runs.Changed.{IsElsewhere, changed_here, changed_elsewhere, changed_each, pair_here, pair_elsewhere, pair_each}
use Rattle.j39_run_laws.proofs.Runs.Changed.{pair_here_or_elsewhere}
use Rattle.j39_run_laws.proofs.Runs.Elements.{all_map, all_weaker}
use Rattle.j39_run_laws.proofs.Transfers.Answered as answered
use Rattle.j39_run_laws.proofs.Transfers.Answered.{says_beside, answers_beside, after_other, GrownBy, not_grown, at_stage}
use Rattle.j39_run_laws.proofs.Transfers.Beside.{IsBesideForth, IsBesideBack, Holds, holds_own}
use Rattle.j39_run_laws.proofs.Transfers.Between.{IsAt, no_short, no_short_answer, closes_at}
use Rattle.j39_run_laws.proofs.Transfers.BetweenTaken.{own_heard, beside_heard, own_answered, beside_answered}
use Rattle.j39_run_laws.proofs.Transfers.Coming.{reports_nothing, none_apart, reports_apart, message_reported}
use Rattle.j39_run_laws.proofs.Transfers.Flights.{packet_count}
use Rattle.j39_run_laws.proofs.Transfers.Named.{IsKeptNamed}
use Rattle.j39_run_laws.proofs.Transfers.Naming.{AnswersAt, hears_answers, SaysTo, says_replies}

module _ (plan : Plan) (u v : ℕ) (o : Outgoing) (before : List Begun) (apart : u ≢ v) (one : o.to ≡ tos.One v) (alone : o.targets ≡ v ∷ []) where
  abbrev IsOnItsWay : Stage → List Wired → List Wired → Progress → List Begun → Type 0
  IsOnItsWay = answered.IsOnItsWay plan u v o before apart one alone

  abbrev IsAnswering : World → Type 0
  IsAnswering = answered.IsAnswering plan u v o before apart one alone

  abbrev session_at : Stage → Outgoing
  session_at = at_stage plan u v o before apart one alone

  among_here : is_among o.targets v ≡ true
  among_here = answered.among_here plan u v o before apart one alone

  module _ (w : World) (kept : IsKeptNamed plan w) (now : IsAnswering w) where
    -- ---- a message of one frame is taken

    module _ (x y : ℕ) (bytes : List ℕ) (rest : List Wired) (is : w.wire x y ≡ wired.Short bytes ∷ rest) where
      abbrev short_then : World
      short_then = record w { wire = changed_pair w.wire x y rest; reports = w.reports ++ report w x y bytes ∷ [] }

      -- it isn't of this one
      short_other : IsElsewhere u v x y
      short_other is_u is_v =
          let way = now.way in
          let list : w.wire u v ≡ wired.Short bytes ∷ rest = ap (λ k. w.wire k v) (sym is_u) ∙ (ap (w.wire x) (sym is_v) ∙ is) in
          elim (subst (λ (zs : List Wired). Holds (IsBesideForth o.pgn) zs way.coming) list way.wire) [
            | inl beside ↦ beside.0
            | inr own ↦ no_short o before bytes now.stage own.0 way.answering (w.receivers v u) (reported w.reports v u)
                (subst (λ (zs : List Wired). IsAt o before now.stage zs way.answering (w.receivers v u) (reported w.reports v u)) own.1 way.at)
          ]

      short_back : x ≡ v → y ≡ u → Holds (IsBesideBack o.pgn) rest now.way.answering
      short_back is_v is_u =
          let way = now.way in
          let list : w.wire v u ≡ wired.Short bytes ∷ rest = ap (λ k. w.wire k u) (sym is_v) ∙ (ap (w.wire x) (sym is_u) ∙ is) in
          elim (subst (λ (zs : List Wired). Holds (IsBesideBack o.pgn) zs way.answering) list way.answers) [
            | inl beside ↦ beside.1
            | inr own ↦ absurd (no_short_answer o before bytes now.stage way.coming own.0 (w.receivers v u) (reported w.reports v u)
                (subst (λ (zs : List Wired). IsAt o before now.stage way.coming zs (w.receivers v u) (reported w.reports v u)) own.1 way.at))
          ]

      pub short_keeps : IsAnswering short_then
      short_keeps =
          let way = now.way in
          let away : IsElsewhere x y u v = λ a b. short_other (sym a) (sym b) in
          let reports : reported short_then.reports v u ≡ reported w.reports v u = reported_elsewhere w.reports x y (flow_in (w.sessions x)) bytes u v away in
          record {
            stage = now.stage;
            session = now.session;
            other = now.other;
            way = record {
              coming = way.coming;
              answering = way.answering;
              wire = subst (λ (zs : List Wired). Holds (IsBesideForth o.pgn) zs way.coming) (sym (pair_elsewhere w.wire x y rest u v away)) way.wire;
              answers = pair_each (λ s t (zs : List Wired). s ≡ v → t ≡ u → Holds (IsBesideBack o.pgn) zs way.answering) w.wire x y rest short_back
                  (λ s t is_v is_u. subst (λ (zs : List Wired). Holds (IsBesideBack o.pgn) zs way.answering)
                  (ap (λ k. w.wire k u) (sym is_v) ∙ ap (w.wire s) (sym is_u)) way.answers) v u refl refl;
              at = subst (λ (rs : List Begun). IsAt o before now.stage way.coming way.answering (w.receivers v u) rs) (sym reports) way.at;
            };
          }

    -- ---- a packet is taken, elsewhere

    module _ (windows : List ℕ) (x y : ℕ) (p : Packet) (rest : List Wired) (rs : List Reported) (stated : Reports w x y p (hearing windows w x y p).1 rs)
        (elsewhere : IsElsewhere u v x y) (elsewhere_back : IsElsewhere v u x y) where
      abbrev then : World
      then = packet_taken windows w x y rest p rs

      abbrev less : Wire
      less = changed_pair w.wire x y rest

      abbrev session_heard : Option Outgoing
      session_heard = session_after (w.sessions y) x p

      heard_elsewhere : then.sessions u ≡ Some (session_at now.stage)
      heard_elsewhere = elim (cases_eq u y) [
        | inl same ↦
            let passed : outgoing_hears (session_at now.stage) x p ≡ (now.stage, reactions.Nothing) =
            cond-false (is_among o.targets x) _ _ (answered.among_elsewhere plan u v o before apart one alone x (λ is_v. elsewhere_back is_v (sym same))) in
            let hears : session_after (w.sessions y) x p ≡ Some (session_at now.stage) =
            ap (λ (z : Option Outgoing). session_after z x p) (ap w.sessions (sym same) ∙ now.session)
            ∙ ap (λ (z : Stage × Reaction). Some (session_at z.0)) passed in
            ap (changed w.sessions y session_heard) same ∙ (changed_here w.sessions y session_heard ∙ hears)
        | inr other ↦ changed_elsewhere w.sessions y session_heard u other ∙ now.session
      ]

      pub elsewhere_keeps : IsAnswering then
      elsewhere_keeps =
          let away : IsElsewhere x y u v = λ a b. elsewhere (sym a) (sym b) in
          let away_back : IsElsewhere x y v u = λ a b. elsewhere_back (sym a) (sym b) in
          let forth : then.wire u v ≡ w.wire u v =
          pair_elsewhere less y x _ u v (λ a b. elsewhere_back (sym b) (sym a)) ∙ pair_elsewhere w.wire x y rest u v away in
          let back : then.wire v u ≡ w.wire v u =
          pair_elsewhere less y x _ v u (λ a b. elsewhere (sym b) (sym a)) ∙ pair_elsewhere w.wire x y rest v u away_back in
          record {
            stage = now.stage;
            session = heard_elsewhere;
            other = changed_each (λ t (z : Option Outgoing). t ≡ v → SendsOther z u o.pgn) w.sessions y session_heard
                (λ same. after_other (w.sessions y) x p u o.pgn (subst (λ k. SendsOther (w.sessions k) u o.pgn) (sym same) now.other))
                (λ t same. subst (λ k. SendsOther (w.sessions k) u o.pgn) (sym same) now.other) v refl;
            way = answered.grown_in plan u v o before apart one alone w kept now then (not_grown (IsBesideForth o.pgn) (w.wire u v) (then.wire u v) forth)
                (not_grown (IsBesideBack o.pgn) (w.wire v u) (then.wire v u) back)
                (pair_elsewhere w.receivers y x _ v u (λ a b. elsewhere (sym b) (sym a)))
                (reports_apart w x y p rs (hearing windows w x y p).1 u v away stated);
          }

    -- ---- v takes a packet of u

    module _ (windows : List ℕ) (some : 0 < window_at windows v) (long : 0 < packet_count o) (p : Packet) (rest : List Wired)
        (is : w.wire u v ≡ wired.Packet p ∷ rest) (rs : List Reported) (stated : Reports w u v p (hearing windows w u v p).1 rs) where
      abbrev heard : Progress × Heard
      heard = hearing windows w u v p

      abbrev replies : List Packet
      replies = receiver_replies heard.1

      abbrev reacted : List Packet
      reacted = sender_replies (reaction_of (w.sessions v) u p)

      abbrev taken : World
      taken = packet_taken windows w u v rest p rs

      -- its way, once v's receiver has answered
      abbrev WayHeard : Progress × Heard → List Begun → Type 0
      WayHeard x reports = IsOnItsWay now.stage rest (w.wire v u ++ map wired.Packet (receiver_replies x.1)) (closed_if_complete x.0) reports

      same_reports : HoldsNothing heard.1 → reported (w.reports ++ rs) v u ≡ reported w.reports v u
      same_reports nothing = none_apart w u v p rs u v (reports_nothing w u v p rs heard.1 nothing stated)

      heard_beside : IsBesideForth o.pgn (wired.Packet p) → Holds (IsBesideForth o.pgn) rest now.way.coming → WayHeard heard (reported (w.reports ++ rs) v u)
      heard_beside beside holds =
          let way = now.way in
          let passed : heard ≡ (w.receivers v u, heards.Nothing) =
          beside_heard o before (window_at windows v) now.stage way.coming way.answering (w.receivers v u) (reported w.reports v u) way.at p beside in
          subst (λ (xs : List Begun). WayHeard heard xs) (sym (same_reports (subst (λ (x : Progress × Heard). HoldsNothing x.1) (sym passed) tt)))
          (subst (λ (x : Progress × Heard). WayHeard x (reported w.reports v u)) (sym passed) (record {
            coming = way.coming;
            answering = way.answering;
            wire = holds;
            answers = subst (λ (zs : List Wired). Holds (IsBesideBack o.pgn) zs way.answering) (sym (append-nil (w.wire v u))) way.answers;
            at = closes_at o before now.stage way.coming way.answering (w.receivers v u) (reported w.reports v u) way.at;
          }))

      heard_own : (coming : List Wired) → now.way.coming ≡ wired.Packet p ∷ coming → Holds (IsBesideForth o.pgn) rest coming
          → WayHeard heard (reported (w.reports ++ rs) v u)
      heard_own coming own holds =
          let way = now.way in
          let at : IsAt o before now.stage (wired.Packet p ∷ coming) way.answering (w.receivers v u) (reported w.reports v u) =
          subst (λ (zs : List Wired). IsAt o before now.stage zs way.answering (w.receivers v u) (reported w.reports v u)) own way.at in
          let then : (reports : List Begun) → IsAt o before now.stage coming (way.answering ++ map wired.Packet replies) (closed_if_complete heard.0) reports
          → WayHeard heard reports =
          λ reports at_then. record {
            coming = coming;
            answering = way.answering ++ map wired.Packet replies;
            wire = holds;
            answers = holds_own (IsBesideBack o.pgn) (w.wire v u) way.answering (map wired.Packet replies) way.answers;
            at = at_then;
          } in
          elim (own_heard o before (window_at windows v) some long now.stage p coming way.answering (w.receivers v u) (reported w.reports v u) at) [
            | inl (nothing, at_then) ↦ subst (λ (xs : List Begun). WayHeard heard xs) (sym (same_reports nothing)) (then (reported w.reports v u) at_then)
            | inr (message, at_then) ↦ then (reported (w.reports ++ rs) v u) (at_then (reported (w.reports ++ rs) v u)
                (message_reported plan w kept.kept.transfers u v (session_at now.stage) now.session among_here windows p rest is rs stated message))
          ]

      way_heard : WayHeard heard (reported (w.reports ++ rs) v u)
      way_heard = elim (subst (λ (zs : List Wired). Holds (IsBesideForth o.pgn) zs now.way.coming) is now.way.wire) [
        | inl beside ↦ heard_beside beside.0 beside.1
        | inr own ↦ heard_own own.0 own.1 own.2
      ]

      pub taken_keeps : IsAnswering taken
      taken_keeps =
          let less : Wire = changed_pair w.wire u v rest in
          let items : List Wired = map wired.Packet (replies ++ reacted) in
          let forth : taken.wire u v ≡ rest = pair_elsewhere less v u (less v u ++ items) u v (λ a b. apart a) ∙ pair_here w.wire u v rest in
          let back : taken.wire v u ≡ (w.wire v u ++ map wired.Packet replies) ++ map wired.Packet reacted =
          pair_here less v u (less v u ++ items)
          ∙ (ap (λ (zs : List Wired). zs ++ items) (pair_elsewhere w.wire u v rest v u (λ a b. apart b))
          ∙ (ap (λ (zs : List Wired). w.wire v u ++ zs) (map-append wired.Packet replies reacted)
          ∙ sym (append_assoc (w.wire v u) (map wired.Packet replies) (map wired.Packet reacted)))) in
          let beside : AllByRecursion (IsBesideBack o.pgn) (map wired.Packet reacted) =
          all_weaker (SaysTo (w.sessions v) u) (IsBesideBack o.pgn) (says_beside (w.sessions v) u o.pgn now.other) (map wired.Packet reacted)
          (says_replies plan v (w.sessions v) (answered.planned_v plan u v o before apart one alone w kept now) u p) in
          let receives : taken.receivers v u ≡ closed_if_complete heard.0 = pair_here w.receivers v u (closed_if_complete heard.0) in
          let session : Option Outgoing = session_after (w.sessions v) u p in
          record {
            stage = now.stage;
            session = changed_elsewhere w.sessions v session u apart ∙ now.session;
            other = subst (λ (z : Option Outgoing). SendsOther z u o.pgn) (sym (changed_here w.sessions v session))
                (after_other (w.sessions v) u p u o.pgn now.other);
            way = subst (λ (pr : Progress). IsOnItsWay now.stage (taken.wire u v) (taken.wire v u) pr (reported (w.reports ++ rs) v u)) (sym receives)
                (answered.grown plan u v o before apart one alone now.stage rest (taken.wire u v)
                (w.wire v u ++ map wired.Packet replies) (taken.wire v u) (closed_if_complete heard.0)
                (reported (w.reports ++ rs) v u) (not_grown (IsBesideForth o.pgn) rest (taken.wire u v) forth)
                (map wired.Packet reacted, beside, back) way_heard);
          }

    -- ---- u takes a packet of v

    module _ (windows : List ℕ) (p : Packet) (rest : List Wired) (is : w.wire v u ≡ wired.Packet p ∷ rest) (rs : List Reported)
        (stated : Reports w v u p (hearing windows w v u p).1 rs) where
      abbrev answer : Stage × Reaction
      answer = sender.stage_hears dests.One o.pgn (length o.bytes) now.stage p

      abbrev back_then : World
      back_then = packet_taken windows w v u rest p rs

      abbrev back_replies : List Packet
      back_replies = receiver_replies (hearing windows w v u p).1

      abbrev back_reacted : List Packet
      back_reacted = sender_replies (reaction_of (w.sessions u) v p)

      hears_is : outgoing_hears (session_at now.stage) v p ≡ answer
      hears_is =
          cond-true (is_among o.targets v) _ _ among_here
          ∙ ap (λ (d : Dest). sender.stage_hears d o.pgn (length o.bytes) now.stage p) (answered.directed plan u v o before apart one alone)

      reacted_is : back_reacted ≡ sender_replies answer.1
      reacted_is = ap (λ (z : Option Outgoing). sender_replies (reaction_of z v p)) now.session ∙ ap (λ (x : Stage × Reaction). sender_replies x.1) hears_is

      abbrev WayAnswered : Stage × Reaction → Type 0
      WayAnswered x = IsOnItsWay x.0 (w.wire u v) rest (w.receivers v u) (reported w.reports v u) × (sender_replies x.1 ≡ [])

      way_answered : WayAnswered answer
      way_answered =
          let way = now.way in
          elim (subst (λ (zs : List Wired). Holds (IsBesideBack o.pgn) zs way.answering) is way.answers) [
            | inl beside ↦ subst WayAnswered (sym (beside_answered o before (length o.bytes) now.stage p beside.0)) (
              record { coming = way.coming; answering = way.answering; wire = way.wire; answers = beside.1; at = way.at },
              refl,
            )
            | inr own ↦
                let at : IsAt o before now.stage way.coming (wired.Packet p ∷ own.0) (w.receivers v u) (reported w.reports v u) =
                subst (λ (zs : List Wired). IsAt o before now.stage way.coming zs (w.receivers v u) (reported w.reports v u)) own.1 way.at in
                let then = own_answered o before now.stage p way.coming own.0 (w.receivers v u) (reported w.reports v u) at in
                (record { coming = way.coming; answering = own.0; wire = way.wire; answers = own.2; at = then.0 }, then.1)
          ]

      pub back_keeps : IsAnswering back_then
      back_keeps =
          let less : Wire = changed_pair w.wire v u rest in
          let items : List Wired = map wired.Packet (back_replies ++ back_reacted) in
          let back : back_then.wire v u ≡ rest = pair_elsewhere less u v (less u v ++ items) v u (λ a b. apart b) ∙ pair_here w.wire v u rest in
          let forth : back_then.wire u v ≡ w.wire u v ++ items =
          pair_here less u v (less u v ++ items) ∙ ap (λ (zs : List Wired). zs ++ items) (pair_elsewhere w.wire v u rest u v (λ a b. apart a)) in
          let none : back_replies ++ back_reacted ≡ back_replies =
          ap (λ (zs : List Packet). back_replies ++ zs) (reacted_is ∙ way_answered.1) ∙ append-nil back_replies in
          let beside : AllByRecursion (IsBesideForth o.pgn) items =
          subst (λ (zs : List Packet). AllByRecursion (IsBesideForth o.pgn) (map wired.Packet zs)) (sym none)
          (all_map wired.Packet (AnswersAt (w.receivers u v)) (IsBesideForth o.pgn)
          (answers_beside (w.receivers u v) o.pgn (answered.hearer_other plan u v o before apart one alone w kept now)) back_replies
          (hears_answers (window_at windows u) (w.receivers u v) p)) in
          let session : Option Outgoing = session_after (w.sessions u) v p in
          let session_is : session ≡ Some (session_at answer.0) =
          ap (λ (z : Option Outgoing). session_after z v p) now.session ∙ ap (λ (x : Stage × Reaction). Some (session_at x.0)) hears_is in
          let receives : back_then.receivers v u ≡ w.receivers v u =
          pair_elsewhere w.receivers u v (closed_if_complete (hearing windows w v u p).0) v u (λ a b. apart b) in
          let reports : reported (w.reports ++ rs) v u ≡ reported w.reports v u =
          reports_apart w v u p rs (hearing windows w v u p).1 u v (λ a b. apart a) stated in
          record {
            stage = answer.0;
            session = changed_here w.sessions u session ∙ session_is;
            other = subst (λ (z : Option Outgoing). SendsOther z u o.pgn) (sym (changed_elsewhere w.sessions u session v (λ e. apart (sym e)))) now.other;
            way = subst (λ (pr : Progress). IsOnItsWay answer.0 (back_then.wire u v) (back_then.wire v u) pr (reported (w.reports ++ rs) v u)) (sym receives)
                (subst (λ (xs : List Begun). IsOnItsWay answer.0 (back_then.wire u v) (back_then.wire v u) (w.receivers v u) xs) (sym reports)
                (answered.grown plan u v o before apart one alone answer.0 (w.wire u v) (back_then.wire u v) rest (back_then.wire v u)
                (w.receivers v u) (reported w.reports v u)
                (items, beside, forth) (not_grown (IsBesideBack o.pgn) rest (back_then.wire v u) back) way_answered.0));
          }

    -- ---- something is taken

    abbrev KeepsTaken : List ℕ → ℕ → ℕ → Type 0
    KeepsTaken windows x y = (p : Packet) (rest : List Wired) → w.wire x y ≡ wired.Packet p ∷ rest → (rs : List Reported)
        → Reports w x y p (hearing windows w x y p).1 rs → IsAnswering (packet_taken windows w x y rest p rs)

    packet_keeps : (windows : List ℕ) → 0 < window_at windows v → 0 < packet_count o → (x y : ℕ) → KeepsTaken windows x y
    packet_keeps windows some long =
        pair_here_or_elsewhere (KeepsTaken windows) u v (λ p rest is rs stated. taken_keeps windows some long p rest is rs stated)
        (λ x y elsewhere. pair_here_or_elsewhere (λ s t. IsElsewhere u v s t → KeepsTaken windows s t) v u
        (λ _ p rest is rs stated. back_keeps windows p rest is rs stated)
        (λ s t elsewhere_back away p rest is rs stated. elsewhere_keeps windows s t p rest rs stated away elsewhere_back) x y elsewhere)

    pub take_keeps : (windows : List ℕ) → 0 < window_at windows v → 0 < packet_count o → (x y : ℕ) (list : List Wired) → w.wire x y ≡ list
        → (new : World) → TakenFrom windows w x y list new → IsAnswering new
    take_keeps windows some long x y [] is new never = absurd never
    take_keeps windows some long x y (wired.Short bytes ∷ rest) is new e = subst IsAnswering (sym e) (short_keeps x y bytes rest is)
    take_keeps windows some long x y (wired.Packet p ∷ rest) is new (rs, stated, e) = subst IsAnswering (sym e)
        (packet_keeps windows some long x y p rest is rs stated)
    take_keeps windows some long x y (wired.Alone f bytes ∷ rest) is new e =
        let less : World = record w { wire = changed_pair w.wire x y rest } in
        let passes : (test : Wired → Bool) (s t : ℕ) → x ≡ s → y ≡ t → oldest_passes test (w.wire s t) ≡ true =
        λ test s t is_s is_t. subst (λ (list : List Wired). oldest_passes test list ≡ true)
        (sym is ∙ (ap (λ k. w.wire k y) is_s ∙ ap (w.wire s) is_t)) refl in
        subst IsAnswering (sym e) (answered.reports_beside plan u v o before apart one alone less (w.reports ++ alone_report x y f bytes ∷ [])
        (reported_beside w.reports x y f bytes)
        (answered.lose_keeps plan u v o before apart one alone w kept now x y (passes is_of_receiver u v, passes is_of_sender v u)
        (wired.Alone f bytes ∷ rest) is less refl))
