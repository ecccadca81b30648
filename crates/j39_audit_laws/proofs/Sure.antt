-- Who sent the frames of a log can be reported by who the sure senders are, and of the frames of a run each unit keeps its part then.
use Rattle.std.proofs.Common.{◌≡◌, ◌≢◌, ◌⊎◌, ℕ, ◌+◌, ◌≤◌, ◌==◌, ◌++◌, ◌∷◌, [], List, true, false, length, if◌then◌else◌}
use Rattle.std.proofs.Common.{inl, inr, refl, sym, ap, ◌∙◌, subst, arith, append_assoc, Option, Some, None}
use Rattle.std.proofs.lemmas.Bool.{cases_Bool, cases_eq, cond-false, cond-true, eq-eqb, ne_eqb, true≢false}
use Rattle.std.proofs.lemmas.List.{append-nil, length-append}
use Rattle.std.proofs.lemmas.Option.{none-some, same_Some}
use Rattle.j39_id.proofs.LineLaws.{not_both, one_spelled}
use Rattle.j39_id.specs.Addresses.{is_address}
use Rattle.j39_id.specs.FrameLine.{Spells}
use Rattle.j39_id.specs.FrameMeaning.{name_in}
use Rattle.j39_id.specs.Lines.{Line, Short as ShortLine, Long}
use Rattle.j39_id.specs.Services.{address_claimed, connection_management}
use Rattle.j39_id.specs.declared.frame.Frame.{Frame}
use Rattle.j39_follow.proofs.OneText.{one_interface, one_part, one_time}
use Rattle.j39_follow.specs.LogLines.{IsElsewhere, IsReadPart, IsTimeText, NamesInterface}
use Rattle.j39_follow.specs.Who.{unit_of_name}
use Rattle.j39_tp.specs.declared.packet.Packet.{Packet}
use Rattle.j39_audit.specs.AuditPasts.{AuditPast, AuditsLine, AuditsLines, claims_before, nothing_read, with_next_number}
use Rattle.j39_audit.specs.Breaks.{line_time}
use Rattle.j39_audit.specs.Claiming.{HeardClaims, knowledge, sender_at}
use Rattle.j39_audit.specs.Looking.{is_claim, is_single, message_sent}
use Rattle.j39_audit.specs.Settings.{AreMoving, Settings}
use Rattle.j39_audit.specs.declared.senders.SureSender.{SureSender}
use Rattle.j39_audit.specs.declared.senders.SureSender.TheVariants.{Unit as OfUnit, Nobody, Unknown}
use Rattle.j39_audit.proofs.Hearing.{line_more}
use Rattle.j39_audit_laws.specs.AuditedRuns.{AreReadAs}
use Rattle.j39_audit_laws.specs.FoundLines.{IsFrameAt, IsLineOf}
use Rattle.j39_audit_laws.specs.OwnPart.{AlwaysCan, AreItsOwn, ClaimsAddresses, ClaimsItsOwn, EachKeepsItsPart, IsItsAddress, LooksAsPlanned, SentBy}
use Rattle.j39_audit_laws.proofs.Lines.{frame_at, same_cut}
use Rattle.j39_audit_laws.proofs.OneReading.{one_log_read}
use Rattle.j39_audit_laws.proofs.Own.{claim_number}
use Rattle.j39_audit_laws.proofs.RunAudits.{AreSound, its_claim, its_frame, its_sender}
use Rattle.j39_audit_laws.proofs.RunMessages.{other_none}
use Rattle.j39_audit.specs.Again.{is_again}

abbrev unit_in : SureSender → Option ℕ
unit_in (OfUnit u) = Some u
unit_in Nobody = None
unit_in Unknown = None

unit_stated : (sure : SureSender) (u : ℕ) → unit_in sure ≡ Some u → sure ≡ OfUnit u
unit_stated (OfUnit v) u e = ap OfUnit (same_Some v u e)
unit_stated Nobody u e = absurd (none-some u e)
unit_stated Unknown u e = absurd (none-some u e)

-- the unit of a claim's NAME, or the sure sender
abbrev sure_unit : Settings → HeardClaims → Frame → Option ℕ
sure_unit s claims f =
    if is_claim f then unit_of_name s.plan (name_in f)
    else if is_address f.ident.sa then unit_in (sender_at s (knowledge s claims) f.ident.sa) else None

module _ (s : Settings) (log : List Line) where
  -- ---- a line is read as one frame at most

  module _ (n : ℕ) (p q : AuditPast) (a b : Line) (here : IsLineOf s log n p a) (there : IsLineOf s log n q b) where
    one_line : (a ≡ b) × (p ≡ q)
    one_line =
        let long : length here.before ≡ length there.before = (let e = here.number_is in let d = there.number_is in omega (arith, e, d)) in
        let same = same_cut here.before there.before a b here.behind there.behind long (sym here.row ∙ there.row) in
        let just : here.just ≡ there.just =
        one_log_read s nothing_read there.before here.just there.just (reads_so here.before same.0 here.just here.read) there.read in
        (same.1, here.past_is ∙ ap with_next_number just ∙ sym there.past_is)
      where
        reads_so : (l : List Line) → l ≡ there.before → (just : AuditPast) → AuditsLines s nothing_read l just → AuditsLines s nothing_read there.before just
        reads_so l same just read = subst (λ (x : List Line). AuditsLines s nothing_read x just) same read

  pub one_frame_at : (n : ℕ) (c d : HeardClaims) (f g : Frame) (p q : Option Packet) → IsFrameAt s log n c f p → IsFrameAt s log n d g q
      → sure_unit s c f ≡ sure_unit s d g
  one_frame_at n c d f g p q a b =
      let one = one_line n a.past b.past (ShortLine a.line) (ShortLine b.line) a.line_is b.line_is in
      let line : a.line ≡ b.line = cc (one.0) in
      let part : a.part ≡ b.part = one_part b.line a.part b.part (subst (λ (l : List ℕ). IsReadPart l a.part) line a.reads.part_is) b.reads.part_is in
      let frame : f ≡ g = one_spelled b.part f g (subst (λ (l : List ℕ). Spells l f) part a.spelled) b.spelled in
      let time : a.time ≡ b.time = one_time b.line a.time b.time (subst (λ (l : List ℕ). IsTimeText l a.time) line a.time_is) b.time_is in
      let claims : c ≡ d =
      a.claims_are ∙ ap (λ (x : AuditPast). claims_before s x (line_time s.plan a.time)) one.1
      ∙ ap (λ (t : List ℕ). claims_before s b.past (line_time s.plan t)) time ∙ sym b.claims_are in
      ap (λ (x : HeardClaims). sure_unit s x f) claims ∙ ap (sure_unit s d) frame

  -- ---- line by line

  abbrev IsFrameLine : ℕ → Type 0
  IsFrameLine n = (c : HeardClaims) × (f : Frame) × (p : Option Packet) × IsFrameAt s log n c f p

  line_kind : (n : ℕ) (past : AuditPast) (line : Line) (next : AuditPast) → AuditsLine s past line next → IsLineOf s log n (with_next_number past) line
      → IsFrameLine n ⊎ (¬ IsFrameLine n)
  line_kind n past Long next e is = inr (λ found.
      let at = found.3 in
      let one = one_line n at.past (with_next_number past) (ShortLine at.line) Long at.line_is is in
      cc (one.0))
  line_kind n past (ShortLine l) next (part, named, part_is, named_is, inl (elsewhere, e)) is = inr (λ found.
      let at = found.3 in
      let one = one_line n at.past (with_next_number past) (ShortLine at.line) (ShortLine l) at.line_is is in
      let line : at.line ≡ l = cc (one.0) in
      let same : at.part ≡ part = one_part l at.part part (subst (λ (x : List ℕ). IsReadPart x at.part) line at.reads.part_is) part_is in
      let name : at.named ≡ named =
      one_interface part at.named named (subst (λ (x : List ℕ). NamesInterface x at.named) same at.reads.named_is) named_is in
      at.reads.here (subst (λ (x : AuditPast). IsElsewhere x.interface at.part at.named) (sym one.1)
      (subst (λ (x : Option (List ℕ)). IsElsewhere past.interface at.part x) (sym name)
      (subst (λ (x : List ℕ). IsElsewhere past.interface x named) (sym same) elsewhere))))
  line_kind n past (ShortLine l) next (part, named, part_is, named_is, inr (here, inl (f, time, spelled, text, inl (again, e)))) is = inr (λ found.
      let at = found.3 in
      let one = one_line n at.past (with_next_number past) (ShortLine at.line) (ShortLine l) at.line_is is in
      let line : at.line ≡ l = cc (one.0) in
      let same : at.part ≡ part = one_part l at.part part (subst (λ (x : List ℕ). IsReadPart x at.part) line at.reads.part_is) part_is in
      let frame : found.1 ≡ f = one_spelled part found.1 f (subst (λ (x : List ℕ). Spells x found.1) same at.spelled) spelled in
      let at_time : at.time ≡ time = one_time l at.time time (subst (λ (x : List ℕ). IsTimeText x at.time) line at.time_is) text in
      true≢false (sym again ∙ sym (ap (λ (q : AuditPast). is_again s.plan q.taken (line_time s.plan at.time) found.1) one.1
      ∙ ap (λ (x : List ℕ). is_again s.plan past.taken (line_time s.plan x) found.1) at_time
      ∙ ap (λ (g : Frame). is_again s.plan past.taken (line_time s.plan time) g) frame) ∙ at.new))
  line_kind n past (ShortLine l) next (part, named, part_is, named_is, inr (here, inl (f, time, spelled, text, inr (new, (packet, packet_is, e))))) is =
      inl (
        claims_before s (with_next_number past) (line_time s.plan time),
        f,
        packet,
        frame_at s log n (with_next_number past) l part named f time packet is (record { part_is = part_is; named_is = named_is; here = here }) spelled text
            new packet_is,
      )
  line_kind n past (ShortLine l) next (part, named, part_is, named_is, inr (here, inr (fault, has, e))) is = inr (λ found.
      let at = found.3 in
      let one = one_line n at.past (with_next_number past) (ShortLine at.line) (ShortLine l) at.line_is is in
      let line : at.line ≡ l = cc (one.0) in
      let same : at.part ≡ part = one_part l at.part part (subst (λ (x : List ℕ). IsReadPart x at.part) line at.reads.part_is) part_is in
      not_both part found.1 fault (subst (λ (x : List ℕ). Spells x found.1) same at.spelled) has)

  -- those of the first lines are reported
  record SureSoFar (before : List Line) : Type 0 where
    sent : SentBy
    right : (n : ℕ) (c : HeardClaims) (f : Frame) (p : Option Packet) → IsFrameAt s log n c f p → n ≤ length before → sent n ≡ sure_unit s c f

  number_of : (n : ℕ) (c : HeardClaims) (f : Frame) (p : Option Packet) → IsFrameAt s log n c f p → (1 ≤ n) × (n ≤ length log)
  number_of n c f p at =
      let is = at.line_is in
      let e = is.number_is in
      let long = ap length is.row ∙ length-append is.before (ShortLine at.line ∷ is.behind) in
      (omega (arith, e), omega (arith, e, long))

  one_more : (before : List Line) (past : AuditPast) (line : Line) (behind : List Line) (next : AuditPast) → log ≡ before ++ line ∷ behind
      → AuditsLines s nothing_read before past → AuditsLine s past line next → SureSoFar before → SureSoFar (before ++ line ∷ [])
  one_more before past line behind next row read takes stated =
      let n : ℕ = length before + 1 in
      let is : IsLineOf s log n (with_next_number past) line =
      record { before = before; behind = behind; row = row; number_is = refl; just = past; read = read; past_is = refl } in
      let long = length-append before (line ∷ []) in
      elim (line_kind n past line next takes is) [
        | inr none ↦ record {
          sent = stated.sent;
          right = λ k c f p at less. elim (cases_eq k n) [
            | inl same ↦ absurd (none (c, f, p, subst (λ (i : ℕ). IsFrameAt s log i c f p) same at))
            | inr other ↦ stated.right k c f p at (omega (arith, less, long, other))
          ];
        }
        | inl (d, g, q, there) ↦ record {
          sent = λ k. if k == n then sure_unit s d g else stated.sent k;
          right = λ k c f p at less. elim (cases_eq k n) [
            | inl same ↦
                cond-true (k == n) (sure_unit s d g) (stated.sent k) (eq-eqb k n same)
                ∙ one_frame_at n d c g f q p there (subst (λ (i : ℕ). IsFrameAt s log i c f p) same at)
            | inr other ↦
                cond-false (k == n) (sure_unit s d g) (stated.sent k) (ne_eqb k n other)
                ∙ stated.right k c f p at (omega (arith, less, long, other))
          ];
        }
      ]

  all_sure : (before rest : List Line) (past end : AuditPast) → log ≡ before ++ rest → AuditsLines s nothing_read before past → SureSoFar before
      → AuditsLines s past rest end → SureSoFar log
  all_sure before [] past end row read stated e = subst SureSoFar (sym (row ∙ append-nil before)) stated
  all_sure before (line ∷ rest) past end row read stated (next, takes, more) =
      all_sure (before ++ line ∷ []) rest next end (row ∙ sym (append_assoc before (line ∷ []) rest))
      (line_more s before line nothing_read past next read takes) (one_more before past line rest next row read takes stated) more

  sure : (end : AuditPast) → AuditsLines s nothing_read log end → SureSoFar log
  sure end read = all_sure [] log nothing_read end refl refl (record {
    sent = λ n. None;
    right = λ n c f p at less. (let some = (number_of n c f p at).0 in absurd (omega (arith, some, less)));
  }) read

  -- ---- each unit

  module _ (stated : SureSoFar log) where
    sent_so : (n : ℕ) (c : HeardClaims) (f : Frame) (p : Option Packet) → IsFrameAt s log n c f p → stated.sent n ≡ sure_unit s c f
    sent_so n c f p at = stated.right n c f p at (number_of n c f p at).1

    of_claim : (n : ℕ) (c : HeardClaims) (f : Frame) (p : Option Packet) → IsFrameAt s log n c f p → is_claim f ≡ true
        → stated.sent n ≡ unit_of_name s.plan (name_in f)
    of_claim n c f p at claim = sent_so n c f p at ∙ cond-true (is_claim f) _ _ claim

    of_other : (n : ℕ) (c : HeardClaims) (f : Frame) (p : Option Packet) → IsFrameAt s log n c f p → is_claim f ≡ false → is_address f.ident.sa ≡ true
        → stated.sent n ≡ unit_in (sender_at s (knowledge s c) f.ident.sa)
    of_other n c f p at other address =
        sent_so n c f p at ∙ cond-false (is_claim f) _ _ other ∙ cond-true (is_address f.ident.sa) _ _ address

    of_none : (n : ℕ) (c : HeardClaims) (f : Frame) (p : Option Packet) → IsFrameAt s log n c f p → is_claim f ≡ false → is_address f.ident.sa ≡ false
        → stated.sent n ≡ None
    of_none n c f p at other outside =
        sent_so n c f p at ∙ cond-false (is_claim f) _ _ other ∙ cond-false (is_address f.ident.sa) _ _ outside

    own : (u : ℕ) → AreItsOwn s log stated.sent u
    own u = record {
      frames = λ n c f p at other address is. of_other n c f p at other address ∙ ap unit_in is;
      claims = λ n c f p at claim is. of_claim n c f p at claim ∙ is;
    }

    module _ (moving : AreMoving s.plan s.moving) (frames : List Frame) (reads : AreReadAs None log frames) (sound : AreSound s frames) (u : ℕ) where
      can : AlwaysCan s log stated.sent u
      can n c f p at its claim = (its_claim s moving log frames reads sound n c f p at claim).some

      claims : ClaimsItsOwn s log stated.sent u
      claims n c f p at its claim some =
          let is = its_claim s moving log frames reads sound n c f p at claim in
          let same : is.unit ≡ u = same_Some is.unit u (sym is.unit_is ∙ sym (of_claim n c f p at claim) ∙ its) in
          (subst (ClaimsAddresses s.plan) same is.claims, subst (λ (v : ℕ). IsItsAddress s.plan v f.ident.sa) same is.own)

      looks : LooksAsPlanned s log stated.sent u
      looks n c f p at its m message number = elim (cases_Bool (is_claim f)) [
        | inl claim ↦
            let number_is = claim_number f claim in
            absurd (other_none f (ap is_single number_is) (λ e. never (sym number_is ∙ e)) u p m at.packet_is message)
        | inr other ↦ elim (cases_Bool (is_address f.ident.sa)) [
          | inr outside ↦ absurd (none-some u (sym (of_none n c f p at other outside) ∙ its))
          | inl address ↦
              let theirs = its_frame s moving log frames reads sound n c f p at other address in
              let is = unit_stated (sender_at s (knowledge s c) f.ident.sa) u (sym (of_other n c f p at other address) ∙ its) in
              let same = its_sender s moving c theirs.unit f.ident.sa theirs.inside theirs.own theirs.last u is in
              let sent : message_sent theirs.is.unit f p ≡ Some m =
              subst (λ (v : ℕ). message_sent v f p ≡ Some m) (sym (theirs.unit_is ∙ same)) message in
              theirs.is.planned p m at.packet_is sent (knowledge s c)
        ]
      ]
        where
          never : address_claimed ≢ connection_management
          never e = (let same : 60928 ≡ 60416 = e in absurd (omega (arith, same)))

pub each_keeps : (s : Settings) (log : List Line) (frames : List Frame) (end : AuditPast) → AreMoving s.plan s.moving → AreReadAs None log frames
    → AreSound s frames → AuditsLines s nothing_read log end → EachKeepsItsPart s log
each_keeps s log frames end moving reads sound read =
    let stated = sure s log end read in (
      stated.sent,
      λ u. (
        own s log stated u,
        can s log stated moving frames reads sound u,
        claims s log stated moving frames reads sound u,
        looks s log stated moving frames reads sound u,
      ),
    )
