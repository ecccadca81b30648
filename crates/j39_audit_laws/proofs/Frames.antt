-- What is noted at a frame is what the frame is marked with, and each mark that accuses is noted once at most.
use Rattle.std.proofs.Common.{◌≡◌, ◌⊎◌, ℕ, ◌==◌, ◌&&◌, ◌||◌, ◌++◌, ◌∷◌, [], List, Bool, true, false, not, cond}
use Rattle.std.proofs.Common.{inl, inr, refl, sym, ap, ◌∙◌, subst, eqb-true, arith, Option, Some, None}
use Rattle.std.proofs.lemmas.Bool.{and_from, and_parts, cases_Bool, cond-false, cond-true, eq-eqb, eqb-false, false_from_ne_true, le-ltb, ltb-false, ne_eqb}
use Rattle.std.proofs.lemmas.Bool.{not-true, not_from_false, or_parts, true≢false}
use Rattle.j39_id.specs.Addresses.{is_address, null_address}
use Rattle.j39_id.specs.FrameMeaning.{name_in}
use Rattle.j39_id.specs.declared.frame.Frame.{Frame}
use Rattle.j39_follow.specs.Who.{unit_of_name}
use Rattle.j39_tp.specs.declared.packet.Packet.{Packet}
use Rattle.j39_audit.specs.Claiming.{HeardClaims, Knowledge, has_strangers, is_address_of, knowledge, sender_at}
use Rattle.j39_audit.specs.Counting.{Noted}
use Rattle.j39_audit.specs.Looking.{claim_noted, claim_place, counted, frame_noted, has_to_say_cannot, is_above_unplanned, is_claim, is_claiming, is_urgent}
use Rattle.j39_audit.specs.Looking.{may_claim, may_move_to, told, asked_noted}
use Rattle.j39_audit.specs.Looking.{mark_noted, message_noted, message_sent, noted_if, noted_with, request_noted, sent_noted}
use Rattle.j39_audit.specs.SentMessages.{SentMessage, deviation, flows_noted, noted_at}
use Rattle.j39_audit.specs.Settings.{Settings}
use Rattle.j39_audit.specs.declared.mark.Mark.{Mark}
use Rattle.j39_audit.specs.declared.mark.Word.{Word}
use Rattle.j39_audit.specs.declared.mark.Word.TheVariants.{Short, Stranger, Nobody as NobodyThere, Address, Cannot, Layout, NoFlow, Priority, Urgent, Seen}
use Rattle.j39_audit.specs.declared.mark.Word.TheVariants.{Unclear, Asked, Counted, Unsure, Break, NearFlow, NearRequest, SilentFlow, Deaf, NearPackets}
use Rattle.j39_audit.specs.declared.mark.Word.TheVariants.{SilentPackets, NearOrLate, SilentOrLate, Answered, Answers, Besides}
use Rattle.j39_audit.specs.declared.mark.Word.TheVariants.{WrongAnnouncement, WrongGrant, WrongPacket, WrongReceipt}
use Rattle.j39_audit.specs.declared.senders.SureSender.{SureSender}
use Rattle.j39_audit.specs.declared.senders.SureSender.TheVariants.{Unit as OfUnit, Nobody, Unknown}
use Rattle.j39_audit_laws.specs.FoundLines.{Differs, IsAccusing, IsClaimOf, IsAccusedAs, IsSentFrom}
use Rattle.j39_audit_laws.proofs.Hits.{AtMostOne, HaveWords, In, hits, if_in, in_cases, in_if, in_left, in_right, no_hits, one_before, one_behind, one_if}
use Rattle.j39_audit_laws.proofs.Hits.{one_of_one, words_both, words_if}
use Rattle.j39_audit_laws.proofs.Marking.{IsDeviation, differs_so, flows_seen, is_another, is_of_message, is_seen, is_urgent_word, more_words}
use Rattle.j39_audit_laws.proofs.Marking.{of_message_another, request_seen, seen_word, sender_of, unseen, told_so, all_seen_of}

if_cases : (n : Noted) (b : Bool) (xs ys : List Noted) → In n (cond b xs ys) → ((b ≡ true) × In n xs) ⊎ ((b ≡ false) × In n ys)
if_cases n true xs ys is = inl (refl, is)
if_cases n false xs ys is = inr (refl, is)

no_strangers : (s : Settings) → not (has_strangers s) ≡ true → s.plan.strangers ≡ 0
no_strangers s none = (let least = ltb-false 0 s.plan.strangers (not-true (has_strangers s) none) in omega (arith, least))

no_strangers_come : (s : Settings) → s.plan.strangers ≡ 0 → not (has_strangers s) ≡ true
no_strangers_come s none = not_from_false (has_strangers s) (le-ltb 0 s.plan.strangers (omega (arith, none)))

module _ (s : Settings) (claims : HeardClaims) (f : Frame) (packet : Option Packet) (line : ℕ) where
  abbrev k : Knowledge
  k = knowledge s claims

  -- a note that accuses is of this line, and its mark is one of the frame
  abbrev Means : Noted → Type 0
  Means n = IsAccusing n.mark.word → (n.line ≡ line) × IsAccusedAs s claims f packet n.mark.word n.mark.subject n.mark.group

  differs_marked : (w : Word) (u g : ℕ) → is_of_message w ≡ true → Differs s claims f packet (record { word = w; subject = u; group = g })
      → IsAccusedAs s claims f packet w u g
  differs_marked Layout u g is differs = differs
  differs_marked NoFlow u g is differs = differs
  differs_marked Priority u g is differs = differs
  differs_marked Short u g is differs = absurd (true≢false (sym is))
  differs_marked Stranger u g is differs = absurd (true≢false (sym is))
  differs_marked NobodyThere u g is differs = absurd (true≢false (sym is))
  differs_marked Address u g is differs = absurd (true≢false (sym is))
  differs_marked Cannot u g is differs = absurd (true≢false (sym is))
  differs_marked Urgent u g is differs = absurd (true≢false (sym is))
  differs_marked Seen u g is differs = absurd (true≢false (sym is))
  differs_marked Unclear u g is differs = absurd (true≢false (sym is))
  differs_marked Asked u g is differs = absurd (true≢false (sym is))
  differs_marked Counted u g is differs = absurd (true≢false (sym is))
  differs_marked Unsure u g is differs = absurd (true≢false (sym is))
  differs_marked Break u g is differs = absurd (true≢false (sym is))
  differs_marked NearFlow u g is differs = absurd (true≢false (sym is))
  differs_marked NearRequest u g is differs = absurd (true≢false (sym is))
  differs_marked SilentFlow u g is differs = absurd (true≢false (sym is))
  differs_marked Deaf u g is differs = absurd (true≢false (sym is))
  differs_marked NearPackets u g is differs = absurd (true≢false (sym is))
  differs_marked SilentPackets u g is differs = absurd (true≢false (sym is))
  differs_marked NearOrLate u g is differs = absurd (true≢false (sym is))
  differs_marked SilentOrLate u g is differs = absurd (true≢false (sym is))
  differs_marked Answered u g is differs = absurd (true≢false (sym is))
  differs_marked Answers u g is differs = absurd (true≢false (sym is))
  differs_marked Besides u g is differs = absurd (true≢false (sym is))
  differs_marked WrongAnnouncement u g is differs = absurd (true≢false (sym is))
  differs_marked WrongGrant u g is differs = absurd (true≢false (sym is))
  differs_marked WrongPacket u g is differs = absurd (true≢false (sym is))
  differs_marked WrongReceipt u g is differs = absurd (true≢false (sym is))

  -- ---- a note has a meaning

  placed : (u : ℕ) → IsClaimOf s f (Some u) → (n : Noted) → In n (claim_place s k f line u) → Means n
  placed u of n inside =
      elim (if_cases n (f.ident.sa == null_address) (noted_if (not (has_to_say_cannot s k (name_in f) u)) (noted_at line Cannot u 0))
      (noted_if (not (may_claim s k (name_in f) u f.ident.sa)) (noted_with line Address u f.ident.sa)) inside) [
        | inl (null, is) ↦
            let (test, e) = in_if n (noted_at line Cannot u 0) (not (has_to_say_cannot s k (name_in f) u)) is in
            subst Means e (λ _. (
              refl,
              (of, eqb-true f.ident.sa null_address null, (λ has_to. true≢false (sym has_to ∙ not-true _ test)), refl),
            ))
        | inr (some, is) ↦
            let (test, e) = in_if n (noted_with line Address u f.ident.sa) (not (may_claim s k (name_in f) u f.ident.sa)) is in
            let parts = or_parts (is_address_of s u f.ident.sa && is_claiming s u) (may_move_to s k (name_in f) u f.ident.sa) (not-true _ test) in
            subst Means e (λ _. (
              refl,
              (
                of,
                eqb-false f.ident.sa null_address some,
                (λ right. true≢false (sym (and_from (is_address_of s u f.ident.sa) (is_claiming s u) right.own right.claims) ∙ parts.0)),
                (λ moves. true≢false (sym moves ∙ parts.1)),
                refl,
              ),
            ))
      ]

  claimed : is_claim f ≡ true → (o : Option ℕ) → unit_of_name s.plan (name_in f) ≡ o → (n : Noted) → In n (claim_noted s k f line o) → Means n
  claimed claim None is n inside =
      let (test, e) = in_if n (noted_with line Stranger f.ident.sa (name_in f)) (not (has_strangers s)) inside in
      subst Means e (λ _. (refl, (record { claim = claim; unit_is = is }, no_strangers s test, refl, refl)))
  claimed claim (Some u) is n inside =
      let of : IsClaimOf s f (Some u) = record { claim = claim; unit_is = is } in
      elim (in_cases n (claim_place s k f line u) (noted_if (is_above_unplanned s f) (noted_at line Urgent u 0)) inside) [
        | inl there ↦ placed u of n there
        | inr there ↦
            let (test, e) = in_if n (noted_at line Urgent u 0) (is_above_unplanned s f) there in
            subst Means e (λ _. (refl, (inl (of, test), refl)))
      ]

  differing : (u : ℕ) → IsSentFrom s claims f (OfUnit u) → (m : SentMessage) → message_sent u f packet ≡ Some m → (o : Option Mark)
      → told s k m ≡ o → IsDeviation m o → (n : Noted) → In n (mark_noted line o) → Means n
  differing u sent m is None e so n inside = absurd inside
  differing u sent m is (Some d) e so n (inr never) = absurd never
  differing u sent m is (Some d) e so n (inl same) =
      let its : u ≡ d.subject = sym (sender_of u f packet m is) ∙ sym so.1 in
      subst Means same (λ _. (
        refl,
        differs_marked d.word d.subject d.group so.0 (record {
          sent = subst (λ (v : ℕ). IsSentFrom s claims f (OfUnit v)) its sent;
          message = m;
          message_is = subst (λ (v : ℕ). message_sent v f packet ≡ Some m) its is;
          differs = e;
        }),
      ))

  messaged : (u : ℕ) → IsSentFrom s claims f (OfUnit u) → (o : Option SentMessage) → message_sent u f packet ≡ o → (n : Noted)
      → In n (message_noted s k line o) → Means n
  messaged u sent None is n inside = absurd inside
  messaged u sent (Some m) is n inside =
      elim (in_cases n (mark_noted line (told s k m)) (flows_noted s k m line ++ asked_noted s k m line) inside) [
        | inl there ↦ differing u sent m is (told s k m) refl (told_so s k m) n there
        | inr there ↦ λ accuses. absurd (seen_word (flows_noted s k m line ++ asked_noted s k m line) (all_seen_of s k m line) n there accuses)
      ]

  -- what is noted of a frame that the unit counts for, in its parts
  abbrev of_unit : ℕ → List Noted
  of_unit u = noted_at line Counted u 0 ∷ message_noted s k line (message_sent u f packet)

  counts_as : (u : ℕ) → counted s k f packet line u ≡ (of_unit u ++ request_noted s k u f line) ++ noted_if (is_urgent s u f) (noted_at line Urgent u 0)
  unfolding counted
  counts_as u = refl

  counting : (u : ℕ) → IsSentFrom s claims f (OfUnit u) → (n : Noted) → In n (counted s k f packet line u) → Means n
  counting u sent n inside =
      elim (in_cases n (of_unit u ++ request_noted s k u f line) (noted_if (is_urgent s u f) (noted_at line Urgent u 0)) (subst (In n) (counts_as u) inside)) [
        | inr there ↦
            let (test, e) = in_if n (noted_at line Urgent u 0) (is_urgent s u f) there in
            subst Means e (λ _. (refl, (inr (sent, test), refl)))
        | inl there ↦ elim (in_cases n (of_unit u) (request_noted s k u f line) there) [
          | inr asks ↦ λ accuses. absurd (seen_word (request_noted s k u f line) (request_seen s k u f line) n asks accuses)
          | inl (inl e) ↦ subst Means e (λ never. absurd never)
          | inl (inr message) ↦ messaged u sent (message_sent u f packet) refl n message
        ]
      ]

  sending : (sure : SureSender) → IsSentFrom s claims f sure → (n : Noted) → In n (sent_noted s k f packet line sure) → Means n
  sending (OfUnit u) sent n inside = counting u sent n inside
  sending Nobody sent n (inl e) = subst Means e (λ _. (refl, (sent, refl, refl)))
  sending Nobody sent n (inr never) = absurd never
  sending Unknown sent n (inl e) = subst Means e (λ never. absurd never)
  sending Unknown sent n (inr never) = absurd never

  pub noted_means : (n : Noted) → In n (frame_noted s claims f packet line) → Means n
  noted_means n inside =
      elim (if_cases n (is_claim f) (claim_noted s k f line (unit_of_name s.plan (name_in f)))
      (cond (is_address f.ident.sa) (sent_noted s k f packet line (sender_at s k f.ident.sa)) []) inside) [
        | inl (claim, is) ↦ claimed claim (unit_of_name s.plan (name_in f)) refl n is
        | inr (other, is) ↦ elim (if_cases n (is_address f.ident.sa) (sent_noted s k f packet line (sender_at s k f.ident.sa)) [] is) [
          | inl (address, there) ↦ sending (sender_at s k f.ident.sa) (record { other = other; address = address; sender_is = refl }) n there
          | inr (none, never) ↦ absurd never
        ]
      ]

  -- ---- a mark is noted

  abbrev IsNotedAs : Word → ℕ → ℕ → Type 0
  IsNotedAs w u g = (n : Noted) × In n (frame_noted s claims f packet line) × (n.mark ≡ record { word = w; subject = u; group = g })

  claims_as : (o : Option ℕ) → IsClaimOf s f o → frame_noted s claims f packet line ≡ claim_noted s k f line o
  claims_as o of = cond-true (is_claim f) _ _ of.claim ∙ ap (claim_noted s k f line) of.unit_is

  sent_so : (sure : SureSender) → IsSentFrom s claims f sure → frame_noted s claims f packet line ≡ sent_noted s k f packet line sure
  sent_so sure sent =
      cond-false (is_claim f) _ _ sent.other ∙ cond-true (is_address f.ident.sa) _ _ sent.address ∙ ap (sent_noted s k f packet line) sent.sender_is

  differs_noted : (w : Word) (u g : ℕ) → Differs s claims f packet (record { word = w; subject = u; group = g }) → IsNotedAs w u g
  differs_noted w u g d =
      let n : Noted = record { mark = record { word = w; subject = u; group = g }; line = line; detail = 0 } in
      let marks : In n (mark_noted line (told s k d.message)) = subst (λ (o : Option Mark). In n (mark_noted line o)) (sym d.differs) (inl refl) in
      let message : In n (message_noted s k line (message_sent u f packet)) =
      subst (λ (o : Option SentMessage). In n (message_noted s k line o)) (sym d.message_is)
      (in_left n (mark_noted line (told s k d.message)) (flows_noted s k d.message line ++ asked_noted s k d.message line) marks) in
      let all : In n (counted s k f packet line u) =
      subst (In n) (sym (counts_as u)) (in_left n (of_unit u ++ request_noted s k u f line) (noted_if (is_urgent s u f) (noted_at line Urgent u 0))
      (in_left n (of_unit u) (request_noted s k u f line) (inr message))) in
      (n, subst (In n) (sym (sent_so (OfUnit u) d.sent)) all, refl)

  marks_as : (w : Word) (u g : ℕ) → g ≡ 0 → IsNotedAs w u 0 → IsNotedAs w u g
  marks_as w u g none is = subst (IsNotedAs w u) (sym none) is

  pub marked_noted : (w : Word) (u g : ℕ) → IsAccusedAs s claims f packet w u g → IsNotedAs w u g
  marked_noted Stranger u g (of, none, at, grouped) =
      marks_as Stranger u g grouped (
        noted_with line Stranger f.ident.sa (name_in f),
        subst (In _) (sym (claims_as None of)) (if_in (noted_with line Stranger f.ident.sa (name_in f)) (not (has_strangers s)) (no_strangers_come s none)),
        ap (λ (a : ℕ). record { word = Stranger; subject = a; group = 0 }) at,
      )
  marked_noted NobodyThere u g (sent, at, grouped) =
      marks_as NobodyThere u g grouped (
        noted_at line NobodyThere f.ident.sa 0,
        subst (In _) (sym (sent_so Nobody sent)) (inl refl),
        ap (λ (a : ℕ). record { word = NobodyThere; subject = a; group = 0 }) at,
      )
  marked_noted Address u g (of, some, wrong, stays, grouped) =
      let not_own = false_from_ne_true (is_address_of s u f.ident.sa && is_claiming s u) (λ both.
      let parts = and_parts (is_address_of s u f.ident.sa) (is_claiming s u) both in
      wrong (record { claims = parts.1; own = parts.0 })) in
      let test : not (may_claim s k (name_in f) u f.ident.sa) ≡ true =
      not_from_false _ (ap (λ (b : Bool). b || may_move_to s k (name_in f) u f.ident.sa) not_own ∙ false_from_ne_true _ stays) in
      let n : Noted = noted_with line Address u f.ident.sa in
      let place : In n (claim_place s k f line u) =
      subst (In n) (sym (cond-false (f.ident.sa == null_address) _ _ (ne_eqb f.ident.sa null_address some))) (if_in n _ test) in
      marks_as Address u g grouped (n, subst (In n) (sym (claims_as (Some u) of)) (in_left n (claim_place s k f line u) _ place), refl)
  marked_noted Cannot u g (of, null, needless, grouped) =
      let n : Noted = noted_at line Cannot u 0 in
      let test : not (has_to_say_cannot s k (name_in f) u) ≡ true = not_from_false _ (false_from_ne_true _ needless) in
      let place : In n (claim_place s k f line u) =
      subst (In n) (sym (cond-true (f.ident.sa == null_address) _ _ (eq-eqb f.ident.sa null_address null))) (if_in n _ test) in
      marks_as Cannot u g grouped (n, subst (In n) (sym (claims_as (Some u) of)) (in_left n (claim_place s k f line u) _ place), refl)
  marked_noted Layout u g differs = differs_noted Layout u g differs
  marked_noted NoFlow u g differs = differs_noted NoFlow u g differs
  marked_noted Priority u g differs = differs_noted Priority u g differs
  marked_noted Urgent u g (inl (of, above), grouped) =
      let n : Noted = noted_at line Urgent u 0 in
      marks_as Urgent u g grouped (
        n,
        subst (In n) (sym (claims_as (Some u) of)) (in_right n (claim_place s k f line u) (noted_if (is_above_unplanned s f) n) (if_in n _ above)),
        refl,
      )
  marked_noted Urgent u g (inr (sent, urgent), grouped) =
      let n : Noted = noted_at line Urgent u 0 in
      marks_as Urgent u g grouped (
        n,
        subst (In n) (sym (sent_so (OfUnit u) sent ∙ counts_as u))
            (in_right n (of_unit u ++ request_noted s k u f line) (noted_if (is_urgent s u f) n) (if_in n _ urgent)),
        refl,
      )
  marked_noted Short u g never = absurd never
  marked_noted Seen u g never = absurd never
  marked_noted Unclear u g never = absurd never
  marked_noted Asked u g never = absurd never
  marked_noted Counted u g never = absurd never
  marked_noted Unsure u g never = absurd never
  marked_noted Break u g never = absurd never
  marked_noted NearFlow u g never = absurd never
  marked_noted NearRequest u g never = absurd never
  marked_noted SilentFlow u g never = absurd never
  marked_noted Deaf u g never = absurd never
  marked_noted NearPackets u g never = absurd never
  marked_noted SilentPackets u g never = absurd never
  marked_noted NearOrLate u g never = absurd never
  marked_noted SilentOrLate u g never = absurd never
  marked_noted Answered u g never = absurd never
  marked_noted Answers u g never = absurd never
  marked_noted Besides u g never = absurd never
  marked_noted WrongAnnouncement u g never = absurd never
  marked_noted WrongGrant u g never = absurd never
  marked_noted WrongPacket u g never = absurd never
  marked_noted WrongReceipt u g never = absurd never

  -- ---- once at most

  module _ (m : Mark) (accuses : IsAccusing m.word) where
    -- what may be urgent stands behind all else
    urgent_last : (xs : List Noted) (test : Bool) (u : ℕ) → HaveWords is_another xs → AtMostOne (hits m xs)
        → AtMostOne (hits m (xs ++ noted_if test (noted_at line Urgent u 0)))
    urgent_last xs test u others one = elim (cases_Bool (is_urgent_word m.word)) [
      | inl urgent ↦ one_behind m xs (noted_if test (noted_at line Urgent u 0))
          (no_hits m is_another (ap not urgent) xs others) (one_if m (noted_at line Urgent u 0) test)
      | inr other ↦ one_before m xs (noted_if test (noted_at line Urgent u 0))
          (no_hits m is_urgent_word other (noted_if test (noted_at line Urgent u 0)) (words_if is_urgent_word (noted_at line Urgent u 0) test refl)) one
    ]

    place_once : (u : ℕ) → AtMostOne (hits m (claim_place s k f line u)) × HaveWords is_another (claim_place s k f line u)
    place_once u =
        elim (f.ident.sa == null_address) as (λ b. AtMostOne (hits m (cond b (noted_if (not (has_to_say_cannot s k (name_in f) u)) (noted_at line Cannot u 0))
        (noted_if (not (may_claim s k (name_in f) u f.ident.sa)) (noted_with line Address u f.ident.sa))))
        × HaveWords is_another (cond b (noted_if (not (has_to_say_cannot s k (name_in f) u)) (noted_at line Cannot u 0))
        (noted_if (not (may_claim s k (name_in f) u f.ident.sa)) (noted_with line Address u f.ident.sa)))) [
          | true ↦ (one_if m (noted_at line Cannot u 0) _, words_if is_another (noted_at line Cannot u 0) _ refl)
          | false ↦ (one_if m (noted_with line Address u f.ident.sa) _, words_if is_another (noted_with line Address u f.ident.sa) _ refl)
        ]

    claim_once : (o : Option ℕ) → AtMostOne (hits m (claim_noted s k f line o))
    claim_once None = one_if m (noted_with line Stranger f.ident.sa (name_in f)) (not (has_strangers s))
    claim_once (Some u) = (let place = place_once u in urgent_last (claim_place s k f line u) (is_above_unplanned s f) u place.1 place.0)

    mark_once : (message : SentMessage) (o : Option Mark) → IsDeviation message o
        → AtMostOne (hits m (mark_noted line o)) × HaveWords is_another (mark_noted line o)
    mark_once message None so = (inl refl, tt)
    mark_once message (Some d) so = (one_of_one m (record { mark = d; line = line; detail = 0 }), (of_message_another d.word so.0, tt))

    message_once : (o : Option SentMessage) → AtMostOne (hits m (message_noted s k line o)) × HaveWords is_another (message_noted s k line o)
    message_once None = (inl refl, tt)
    message_once (Some message) =
        let marks = mark_once message (told s k message) (told_so s k message) in
        let others : List Noted = flows_noted s k message line ++ asked_noted s k message line in
        let seen = all_seen_of s k message line in (
          one_before m (mark_noted line (told s k message)) others (no_hits m is_seen (unseen m.word accuses) others seen) marks.0,
          words_both is_another (mark_noted line (told s k message)) others marks.1 (more_words others seen),
        )

    counted_once : (u : ℕ) → AtMostOne (hits m (counted s k f packet line u))
    counted_once u =
        let message = message_once (message_sent u f packet) in
        let asks = request_seen s k u f line in
        let first : AtMostOne (hits m (of_unit u)) =
        one_behind m (noted_at line Counted u 0 ∷ []) (message_noted s k line (message_sent u f packet))
        (no_hits m is_seen (unseen m.word accuses) (noted_at line Counted u 0 ∷ []) (refl, tt)) message.0 in
        subst (λ (xs : List Noted). AtMostOne (hits m xs)) (sym (counts_as u))
        (urgent_last (of_unit u ++ request_noted s k u f line) (is_urgent s u f) u
        (words_both is_another (of_unit u) (request_noted s k u f line) (refl, message.1) (more_words (request_noted s k u f line) asks))
        (one_before m (of_unit u) (request_noted s k u f line) (no_hits m is_seen (unseen m.word accuses) (request_noted s k u f line) asks) first))

    sent_once : (sure : SureSender) → AtMostOne (hits m (sent_noted s k f packet line sure))
    sent_once (OfUnit u) = counted_once u
    sent_once Nobody = one_of_one m (noted_at line NobodyThere f.ident.sa 0)
    sent_once Unknown = one_of_one m (noted_at line Unsure 0 0)

    pub noted_once : AtMostOne (hits m (frame_noted s claims f packet line))
    noted_once =
        elim (is_claim f) as (λ b. AtMostOne (hits m (cond b (claim_noted s k f line (unit_of_name s.plan (name_in f)))
        (cond (is_address f.ident.sa) (sent_noted s k f packet line (sender_at s k f.ident.sa)) [])))) [
          | true ↦ claim_once (unit_of_name s.plan (name_in f))
          | false ↦ elim (is_address f.ident.sa) as (λ b. AtMostOne (hits m (cond b (sent_noted s k f packet line (sender_at s k f.ident.sa)) []))) [
            | true ↦ sent_once (sender_at s k f.ident.sa)
            | false ↦ inl refl
          ]
        ]
