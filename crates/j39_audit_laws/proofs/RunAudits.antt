-- An audit of sound frames accuses by none of the words that need no priority of other frames.
use Rattle.std.proofs.Common.{◌≡◌, ◌≢◌, ◌⊎◌, ℕ, zero, suc, ◌<◌, ◌==◌, ◌&&◌, ◌++◌, ◌∷◌, [], List, Bool, true, false, not}
use Rattle.std.proofs.Common.{inl, inr, refl, sym, ap, ◌∙◌, subst, arith, eqb-true, Option, Some, None, if◌then◌else◌}
use Rattle.std.specs.Option.{is_some}
use Rattle.std.proofs.lemmas.Bool.{cases_lt, eq-eqb, not-false, or_parts, true≢false}
use Rattle.std.proofs.lemmas.Option.{none-some, same_Some}
use Rattle.j39_id.specs.Addresses.{is_address}
use Rattle.j39_id.specs.Lines.{Line}
use Rattle.j39_id.specs.declared.frame.Frame.{Frame}
use Rattle.j39_tp.specs.declared.packet.Packet.{Packet}
use Rattle.j39_audit.specs.AuditText.{look_at, mark_at, subject_lines, subjects, word_lines}
use Rattle.j39_audit.specs.Below.{any_below}
use Rattle.j39_audit.specs.Claiming.{Heard, HeardClaims, Knowledge, first_there, has_strangers, is_another_there, is_strange, knowledge, last_claim_of, may_be}
use Rattle.j39_audit.specs.Claiming.{may_stand, newest_of, sender_at, sure_sender}
use Rattle.j39_audit.specs.Looking.{is_claim, message_sent}
use Rattle.j39_audit.specs.Settings.{AreMoving, Settings, moves, units_planned}
use Rattle.j39_audit.specs.declared.mark.Word.{Word}
use Rattle.j39_audit.specs.declared.mark.Word.TheVariants.{Short, Stranger, Nobody as NobodyThere, Address, Cannot, Layout, NoFlow, Priority}
use Rattle.j39_audit.specs.declared.senders.SureSender.TheVariants.{Unit as OfUnit, Nobody, Unknown}
use Rattle.j39_audit_laws.specs.AuditedRuns.{AreReadAs, IsNotWritten}
use Rattle.j39_audit_laws.specs.FoundLines.{Differs, IsFoundAt, IsFrameAt}
use Rattle.j39_audit_laws.specs.OwnPart.{ClaimsAddresses, IsItsAddress, IsNotNamed}
use Rattle.j39_audit_laws.proofs.Own.{none_below, none_of_subject, of_frames}
use Rattle.j39_audit_laws.proofs.Planned.{claims_so, its_address, planned_alike, some_below}
use Rattle.j39_audit_laws.proofs.RunFrames.{IsFromIts, IsItsClaim, IsNewest, IsSoundFrame, claims_behind_those, claims_of, claims_stay, newest_front}
use Rattle.j39_audit_laws.proofs.RunLogs.{AreClaimsOf, no_short, one_of_them}
use Rattle.j39_audit_laws.proofs.Marking.{told_is}

-- ---- who may be there

none_any : (test : ℕ → Bool) (k n : ℕ) → any_below test n ≡ false → k < n → test k ≡ false
unfolding any_below
none_any test k zero none less = absurd (omega (arith, less))
none_any test k (suc n) none less =
    let parts = or_parts (any_below test n) (test n) none in
    elim (cases_lt k n) [
      | inl below ↦ none_any test k n parts.0 below
      | inr above ↦
          let same : n ≡ k = omega (arith, less, above) in
          subst (λ (i : ℕ). test i ≡ false) same parts.1
    ]

module _ (s : Settings) (moving : AreMoving s.plan s.moving) (claims : HeardClaims) (u a : ℕ) (inside : u < units_planned s)
    (own : IsItsAddress s.plan u a) (last : (last_claim_of s claims u ≡ None) ⊎ (last_claim_of s claims u ≡ Some a)) where
  abbrev k : Knowledge
  k = knowledge s claims

  there : may_be s k u a ≡ true
  unfolding may_be
  there = elim last [
    | inl none ↦ ap (may_stand s u a) none ∙ its_address s moving u a own
    | inr some ↦ ap (may_stand s u a) some ∙ eq-eqb a a refl
  ]

  somebody : is_some (first_there s k a) ≡ true
  unfolding first_there
  somebody = some_below (λ v. may_be s k v a) u (units_planned s) there inside

  not_nobody : (o : Option ℕ) → is_some o ≡ true → sure_sender s k a o ≢ Nobody
  not_nobody None some is = true≢false (sym some)
  not_nobody (Some v) some is =
      elim (is_another_there s k a v) as (λ b. (if b then Unknown else OfUnit v) ≡ Nobody → ⊥) [
        | true ↦ λ e. cc e
        | false ↦ λ e. cc e
      ] is

  pub never_nobody : sender_at s k a ≢ Nobody
  unfolding sender_at
  never_nobody is = elim (is_strange s k a) as (λ b. (if b then Unknown else sure_sender s k a (first_there s k a)) ≡ Nobody → ⊥) [
    | true ↦ λ e. cc e
    | false ↦ λ e. not_nobody (first_there s k a) somebody e
  ] is

  only_it : (o : Option ℕ) (v : ℕ) → sure_sender s k a o ≡ OfUnit v → u ≡ v
  unfolding is_another_there
  only_it None v is = elim (has_strangers s) as (λ b. (if b then Unknown else Nobody) ≡ OfUnit v → u ≡ v) [
    | true ↦ λ e. absurd (cc e)
    | false ↦ λ e. absurd (cc e)
  ] is
  only_it (Some x) v is =
      elim (is_another_there s k a x) as (λ b. is_another_there s k a x ≡ b → (if b then Unknown else OfUnit x) ≡ OfUnit v → u ≡ v) [
        | true ↦ λ _ e. absurd (cc e)
        | false ↦ λ none e.
            let same : x ≡ v = cc e in
            let test = none_any (λ y. may_be s k y a && not (y == x)) u (units_planned s) none inside in
            let equal : (u == x) ≡ true = not-false (u == x) (sym (ap (λ (b : Bool). b && not (u == x)) there) ∙ test) in
            eqb-true u x equal ∙ same
      ] refl is

  pub its_sender : (v : ℕ) → sender_at s k a ≡ OfUnit v → u ≡ v
  unfolding sender_at
  its_sender v is = elim (is_strange s k a) as (λ b. (if b then Unknown else sure_sender s k a (first_there s k a)) ≡ OfUnit v → u ≡ v) [
    | true ↦ λ e. absurd (cc e)
    | false ↦ λ e. only_it (first_there s k a) v e
  ] is

-- ---- where it claimed last

last_of_it : (s : Settings) (claims : HeardClaims) (front heard : List Frame) (u a : ℕ) → AreClaimsOf s claims heard
    → IsNewest u (claims_of s.plan [] (front ++ heard)) a → (last_claim_of s claims u ≡ None) ⊎ (last_claim_of s claims u ≡ Some a)
last_of_it s claims front heard u a are newest =
    let behind : claims_of s.plan [] (front ++ heard) ≡ claims_of s.plan [] heard ++ claims_of s.plan [] front =
    claims_behind_those s.plan [] front heard ∙ claims_stay s.plan (claims_of s.plan [] front) heard in
    let of_heard : IsNewest u (claims_of s.plan [] heard) a =
    newest_front u (claims_of s.plan [] heard) (claims_of s.plan [] front) a (subst (λ (l : List Heard). IsNewest u l a) behind newest) in
    let of_all : IsNewest u claims.all a = subst (λ (o : Option ℕ). (o ≡ None) ⊎ (o ≡ Some a)) (sym (are.newest_are u)) of_heard in
    let of_recent : IsNewest u claims.recent a =
    newest_front u claims.recent are.older a (subst (λ (l : List Heard). IsNewest u l a) are.recent_are of_all) in
    elim (s.part) as (λ p. ((if p then None else newest_of u (if moves s u then claims.recent else claims.all)) ≡ None)
    ⊎ ((if p then None else newest_of u (if moves s u then claims.recent else claims.all)) ≡ Some a)) [
      | true ↦ inl refl
      | false ↦ elim (moves s u) as (λ b. (newest_of u (if b then claims.recent else claims.all) ≡ None)
          ⊎ (newest_of u (if b then claims.recent else claims.all) ≡ Some a)) [
            | true ↦ of_recent
            | false ↦ of_all
          ]
    ]

-- in a part of a log no unit is known by its last claim
last_of_part : (s : Settings) (claims : HeardClaims) (u : ℕ) → s.part ≡ true → last_claim_of s claims u ≡ None
last_of_part s claims u part = ap (λ (p : Bool). if p then None else newest_of u (if moves s u then claims.recent else claims.all)) part

-- ---- no line of a word

pub no_word : (s : Settings) (log : List Line) (word : Word) → ((u : ℕ) → IsNotNamed s log word u) → IsNotWritten s log word
unfolding word_lines
no_word s log word none end read =
    none_below (subject_lines s (look_at end) word) (λ u. none u end read) (subjects s word)

pub no_short_line : (s : Settings) (log : List Line) (frames : List Frame) → AreReadAs None log frames → IsNotWritten s log Short
no_short_line s log frames reads =
    no_word s log Short (λ u. none_of_subject s log Short u tt (found u))
  where
    found : (u g n : ℕ) → ¬ IsFoundAt s log n (mark_at Short u g)
    found u g n (inl (at, is)) = no_short s log frames reads n at
    found u g n (inr (claims, f, packet, at, marked)) = marked

-- each frame of the log is sound behind those before it, or in a part of a log behind any
abbrev pub AreSound : Settings → List Frame → Type 0
AreSound s frames =
    ((front : List Frame) × ((heard : List Frame) (f : Frame) (behind : List Frame) → frames ≡ heard ++ f ∷ behind → IsSoundFrame s.plan (front ++ heard) f))
    ⊎ ((s.part ≡ true) × ((heard : List Frame) (f : Frame) (behind : List Frame) → frames ≡ heard ++ f ∷ behind
    → (before : List Frame) × IsSoundFrame s.plan before f))

module _ (s : Settings) (moving : AreMoving s.plan s.moving) (log : List Line) (frames : List Frame) (reads : AreReadAs None log frames)
    (sound : AreSound s frames) where
  -- a claim is a unit's
  pub its_claim : (n : ℕ) (claims : HeardClaims) (f : Frame) (packet : Option Packet) → IsFrameAt s log n claims f packet → is_claim f ≡ true
      → IsItsClaim s.plan f
  its_claim n claims f packet at claim =
      let one = one_of_them s log frames reads n claims f packet at in
      let of : (before : List Frame) → IsSoundFrame s.plan before f → IsItsClaim s.plan f =
      λ before is. elim is [ inl its ↦ its.1 | inr other ↦ absurd (true≢false (sym claim ∙ other.0)) ] in
      elim sound [
        | inl whole ↦ of (whole.0 ++ one.heard) (whole.1 one.heard f one.behind one.row)
        | inr parts ↦ (let (before, is) = parts.1 one.heard f one.behind one.row in of before is)
      ]

  -- another frame is a unit's that may be there
  pub record IsTheirs (claims : HeardClaims) (f : Frame) : Type 0 where
    pub unit : ℕ
    pub inside : unit < units_planned s
    pub own : IsItsAddress s.plan unit f.ident.sa
    pub last : (last_claim_of s claims unit ≡ None) ⊎ (last_claim_of s claims unit ≡ Some f.ident.sa)
    pub before : List Frame
    pub is : IsFromIts s.plan before f
    pub unit_is : is.unit ≡ unit

  pub its_frame : (n : ℕ) (claims : HeardClaims) (f : Frame) (packet : Option Packet) → IsFrameAt s log n claims f packet → is_claim f ≡ false
      → is_address f.ident.sa ≡ true → IsTheirs claims f
  its_frame n claims f packet at other address =
      let one = one_of_them s log frames reads n claims f packet at in
      let of : (before : List Frame) → IsSoundFrame s.plan before f → IsFromIts s.plan before f =
      λ before is. elim is [ inl its ↦ absurd (true≢false (sym its.0 ∙ other)) | inr from ↦ from.1 address ] in
      elim sound [
        | inl whole ↦
            let from = of (whole.0 ++ one.heard) (whole.1 one.heard f one.behind one.row) in
            record {
              unit = from.unit;
              inside = from.inside;
              own = from.own;
              last = last_of_it s claims whole.0 one.heard from.unit f.ident.sa one.claims_are from.newest;
              before = whole.0 ++ one.heard;
              is = from;
              unit_is = refl;
            }
        | inr parts ↦
            let (before, is) = parts.1 one.heard f one.behind one.row in
            let from = of before is in
            record {
              unit = from.unit;
              inside = from.inside;
              own = from.own;
              last = inl (last_of_part s claims from.unit parts.0);
              before = before;
              is = from;
              unit_is = refl;
            }
      ]

  pub no_stranger_line : IsNotWritten s log Stranger
  no_stranger_line = no_word s log Stranger (λ u. of_frames s log Stranger u tt (λ e. cc e) (λ g n claims f packet at marked.
      let (of, none, address, grouped) = marked in
      let its = its_claim n claims f packet at of.claim in
      none-some its.unit (sym of.unit_is ∙ its.unit_is)))

  pub no_cannot_line : IsNotWritten s log Cannot
  no_cannot_line = no_word s log Cannot (λ u. of_frames s log Cannot u tt (λ e. cc e) (λ g n claims f packet at marked.
      let (of, null, needless, grouped) = marked in
      (its_claim n claims f packet at of.claim).some null))

  pub no_address_line : IsNotWritten s log Address
  no_address_line = no_word s log Address (λ u. of_frames s log Address u tt (λ e. cc e) (λ g n claims f packet at marked.
      let (of, some, wrong, stays, grouped) = marked in
      let its = its_claim n claims f packet at of.claim in
      let same : its.unit ≡ u = same_Some its.unit u (sym its.unit_is ∙ of.unit_is) in
      wrong (record {
        claims = claims_so s u (subst (ClaimsAddresses s.plan) same its.claims);
        own = its_address s moving u f.ident.sa (subst (λ (v : ℕ). IsItsAddress s.plan v f.ident.sa) same its.own);
      })))

  pub no_nobody_line : IsNotWritten s log NobodyThere
  no_nobody_line = no_word s log NobodyThere (λ u. of_frames s log NobodyThere u tt (λ e. cc e) (λ g n claims f packet at marked.
      let (sent, address, grouped) = marked in
      let its = its_frame n claims f packet at sent.other sent.address in
      never_nobody s moving claims its.unit f.ident.sa its.inside its.own its.last sent.sender_is))

  -- a message of the sender is of a flow
  differs_never : (word : Word) (u g n : ℕ) (claims : HeardClaims) (f : Frame) (packet : Option Packet) → IsFrameAt s log n claims f packet
      → ¬ Differs s claims f packet (record { word = word; subject = u; group = g })
  differs_never word u g n claims f packet at d =
      let its = its_frame n claims f packet at d.sent.other d.sent.address in
      let same : its.unit ≡ u = its_sender s moving claims its.unit f.ident.sa its.inside its.own its.last u d.sent.sender_is in
      let sent : message_sent its.is.unit f packet ≡ Some d.message =
      subst (λ (v : ℕ). message_sent v f packet ≡ Some d.message) (sym (its.unit_is ∙ same)) d.message_is in
      let k : Knowledge = knowledge s claims in
      let planned = its.is.planned packet d.message at.packet_is sent k in
      none-some _ (sym (planned_alike s moving k d.message planned) ∙ told_is s k d.message _ d.differs)

  pub no_layout_line : IsNotWritten s log Layout
  no_layout_line = no_word s log Layout (λ u. of_frames s log Layout u tt (λ e. cc e) (differs_never Layout u))

  pub no_no_flow_line : IsNotWritten s log NoFlow
  no_no_flow_line = no_word s log NoFlow (λ u. of_frames s log NoFlow u tt (λ e. cc e) (differs_never NoFlow u))

  pub no_priority_line : IsNotWritten s log Priority
  no_priority_line = no_word s log Priority (λ u. of_frames s log Priority u tt (λ e. cc e) (differs_never Priority u))
