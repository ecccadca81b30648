-- One line of a log after another: it is passed over, skipped or bad, or a frame.
use Rattle.std.specs.Prelude.{nat_lt, true, Some, None}
use Rattle.std.proofs.Common.{◌≡◌, ◌≢◌, ◌⊎◌, ℕ, ◌+◌, ◌≤◌, ◌++◌, ◌∷◌, [], List, length}
use Rattle.std.proofs.Common.{inl, inr, refl, sym, ap, ◌∙◌, subst, append_assoc, arith, Option}
use Rattle.std.proofs.lemmas.List.{append-nil, length-append}
use Rattle.j39_id.proofs.LineLaws.{not_both, one_spelled, one_fault}
use Rattle.j39_id.specs.FrameLine.{HasLineFault, Spells}
use Rattle.j39_id.specs.Lines.{Line, Short as ShortLine, Long}
use Rattle.j39_id.specs.declared.frame.Frame.{Frame}
use Rattle.j39_id.specs.declared.line_error.LineError.{LineError}
use Rattle.j39_id.specs.declared.line_error.LineError.TheVariants.{Empty, NoHash, ShortIdent, BadIdent, TooLong, BadData}
use Rattle.j39_follow.proofs.OneText.{one_interface, one_part, one_time}
use Rattle.j39_follow.specs.LogLines.{IsElsewhere, IsReadPart, IsTimeText, NamesInterface}
use Rattle.j39_tp.specs.declared.packet.Packet.{Packet}
use Rattle.j39_audit.specs.AuditPasts.{AuditPast, AuditsLine, AuditsLines, bad_line, broadcasts_there, claims_before, counted_for, moments_with_frame}
use Rattle.j39_audit.specs.AuditPasts.{nothing_read, passed_by, past_with_frame, with_next_number, past_again, past_with_again, with_again, noted_newly}
use Rattle.j39_audit.specs.BegunBroadcasts.{packet_with}
use Rattle.j39_audit.specs.Breaks.{line_time}
use Rattle.j39_audit.specs.Claiming.{HeardClaims, with_requests}
use Rattle.j39_audit.specs.Looking.{IsPacketOf, noted_if}
use Rattle.j39_audit.specs.Moments.{behind_gap, with_packet_stream}
use Rattle.j39_audit.specs.SentMessages.{noted_at}
use Rattle.j39_audit.specs.Settings.{Settings, by_load}
use Rattle.j39_audit.specs.declared.mark.Word.TheVariants.{Short as ShortWord}
use Rattle.j39_audit.proofs.Hearing.{as_many_lines, frame_number, line_more, again_number}
use Rattle.j39_audit_laws.specs.FoundLines.{IsFrameAt, IsLineOf, IsReadHere}
use Rattle.j39_audit_laws.specs.PauseLines.{IsBadAt, IsPassedOver, IsAgainAt}
use Rattle.j39_audit_laws.proofs.Lines.{frame_at, same_cut}
use Rattle.j39_audit_laws.proofs.OneReading.{one_log_read, one_packet_of}
use Rattle.j39_audit.specs.Again.{is_again, moments_again, taken_frame}
use Rattle.j39_audit.specs.declared.again.TakenFrame.{TakenFrame}
use Rattle.j39_audit.specs.MessageStreams.{nothing_sighted, sighted_behind}
use Rattle.std.proofs.lemmas.Bool.{true≢false}
use Rattle.j39_network.specs.declared.plan.Plan.{Plan}

-- what the times report by load behind a frame
pub load_with : (s : Settings) (past : AuditPast) (time : Option ℕ) (named : Option (List ℕ)) (f : Frame) (packet : Option Packet)
    → (past_with_frame s past time named f packet).by_load ≡ moments_with_frame (by_load s) s past time f packet past.by_load
unfolding past_with_frame
load_with s past time named f packet = refl

-- and which it is
pub taken_with : (s : Settings) (past : AuditPast) (time : Option ℕ) (named : Option (List ℕ)) (f : Frame) (packet : Option Packet)
    → (past_with_frame s past time named f packet).taken
    ≡ taken_frame time f past.number (sighted_behind nothing_sighted (noted_newly s past time f packet))
unfolding past_with_frame
taken_with s past time named f packet = refl

-- and by the bus
pub moments_with : (s : Settings) (past : AuditPast) (time : Option ℕ) (named : Option (List ℕ)) (f : Frame) (packet : Option Packet)
    → (past_with_frame s past time named f packet).moments
    ≡ with_packet_stream s time past.number (packet_with s.plan.timing (counted_for s past time f packet) f (broadcasts_there s past time f))
    (moments_with_frame s s past time f packet past.moments)
unfolding past_with_frame
moments_with s past time named f packet = refl

-- one that stands there again has one before it, and a time
again_parts : (plan : Plan) (taken : Option TakenFrame) (time : Option ℕ) (f : Frame) → is_again plan taken time f ≡ true
    → (one : TakenFrame) × (τ : ℕ) × (taken ≡ Some one) × (time ≡ Some τ)
unfolding is_again
again_parts plan None time f is = absurd (true≢false (sym is))
again_parts plan (Some one) None f is = absurd (true≢false (sym is))
again_parts plan (Some one) (Some τ) f is = (one, τ, refl, refl)

again_with : (s : Settings) (past : AuditPast) (taken : Option TakenFrame) (time : Option ℕ) (one : TakenFrame) (τ : ℕ) → taken ≡ Some one
    → time ≡ Some τ → past_again s taken time past
    ≡ record (with_again s one.flow one.unit one.line τ past) { claims = with_requests s.plan (Some τ) one.frame one.request past.claims }
unfolding past_again
again_with s past taken time one τ taken_is time_is =
    ap (λ (o : Option TakenFrame). past_again s o time past) taken_is ∙ ap (λ (o : Option ℕ). past_again s (Some one) o past) time_is

module _ (s : Settings) (log : List Line) where
  -- ---- a line is read in one way

  abbrev pub IsNoFrame : ℕ → Type 0
  IsNoFrame number = (claims : HeardClaims) (f : Frame) (packet : Option Packet) → ¬ IsFrameAt s log number claims f packet

  read_so : (x y : List Line) (just : AuditPast) → x ≡ y → AuditsLines s nothing_read x just → AuditsLines s nothing_read y just
  read_so x y just same reads = subst (λ (z : List Line). AuditsLines s nothing_read z just) same reads

  pub one_place : (number : ℕ) (p q : AuditPast) (x y : Line) → IsLineOf s log number p x → IsLineOf s log number q y → (p ≡ q) × (x ≡ y)
  one_place number p q x y a b =
      let first = a.number_is in
      let second = b.number_is in
      let same = same_cut a.before b.before x y a.behind b.behind (omega (arith, first, second)) (sym a.row ∙ b.row) in
      let just = one_log_read s nothing_read b.before a.just b.just (read_so a.before b.before a.just same.0 a.read) b.read in
      (a.past_is ∙ ap with_next_number just ∙ sym b.past_is, same.1)

  -- the part of a line that is read
  record IsPartAt (number : ℕ) (past : AuditPast) (line part : List ℕ) (named : Option (List ℕ)) : Type 0 where
    line_is : IsLineOf s log number past (ShortLine line)
    part_is : IsReadPart line part
    named_is : NamesInterface part named

  record IsSamePart (p q : AuditPast) (a b : List ℕ) (i j : Option (List ℕ)) (x y : List ℕ) : Type 0 where
    past_is : p ≡ q
    part_is : a ≡ b
    named_is : i ≡ j
    line_is : x ≡ y

  one_part_at : (number : ℕ) (p q : AuditPast) (x y a b : List ℕ) (i j : Option (List ℕ)) → IsPartAt number p x a i → IsPartAt number q y b j
      → IsSamePart p q a b i j x y
  one_part_at number p q x y a b i j one other =
      let place = one_place number p q (ShortLine x) (ShortLine y) one.line_is other.line_is in
      let line : x ≡ y = short_same x y place.1 in
      let part = one_part y a b (subst (λ (l : List ℕ). IsReadPart l a) line one.part_is) other.part_is in
      record {
        past_is = place.0;
        part_is = part;
        named_is = one_interface b i j (subst (λ (l : List ℕ). NamesInterface l i) part one.named_is) other.named_is;
        line_is = line;
      }
    where
      short_same : (x y : List ℕ) → ShortLine x ≡ ShortLine y → x ≡ y
      short_same x y e = cc e

  is_elsewhere : {p q : AuditPast} {a b x y : List ℕ} {i j : Option (List ℕ)} → IsSamePart p q a b i j x y → IsElsewhere p.interface a i
      → IsElsewhere q.interface b j
  is_elsewhere {p} {q} {a} {b} {x} {y} {i} {j} same there =
      subst (λ (r : AuditPast). IsElsewhere r.interface b j) same.past_is
      (subst (λ (l : List ℕ). IsElsewhere p.interface l j) same.part_is (subst (λ (k : Option (List ℕ)). IsElsewhere p.interface a k) same.named_is there))

  part_of : {number : ℕ} {claims : HeardClaims} {f : Frame} {packet : Option Packet} (at : IsFrameAt s log number claims f packet)
      → IsPartAt number at.past at.line at.part at.named
  part_of at = record { line_is = at.line_is; part_is = at.reads.part_is; named_is = at.reads.named_is }

  -- two frames at one line are one
  pub record IsSameFrame (p q : AuditPast) (x y : List ℕ) (f g : Frame) (a b : Option Packet) : Type 0 where
    pub past_is : p ≡ q
    pub time_is : x ≡ y
    pub frame_is : f ≡ g
    pub packet_is : a ≡ b

  pub one_frame_at : (number : ℕ) (c d : HeardClaims) (f g : Frame) (a b : Option Packet) (one : IsFrameAt s log number c f a)
      (other : IsFrameAt s log number d g b) → IsSameFrame one.past other.past one.time other.time f g a b
  one_frame_at number c d f g a b one other =
      let same = one_part_at number one.past other.past one.line other.line one.part other.part one.named other.named (part_of one) (part_of other) in
      let frame : f ≡ g = one_spelled other.part f g (subst (λ (l : List ℕ). Spells l f) same.part_is one.spelled) other.spelled in
      record {
        past_is = same.past_is;
        time_is = one_time other.line one.time other.time (subst (λ (l : List ℕ). IsTimeText l one.time) same.line_is one.time_is) other.time_is;
        frame_is = frame;
        packet_is = one_packet_of g a b (subst (λ (h : Frame). IsPacketOf h a) frame one.packet_is) other.packet_is;
      }

  -- a line with a fault is no frame
  faulty : (number : ℕ) (past : AuditPast) (line part : List ℕ) (named : Option (List ℕ)) (e : LineError) → IsPartAt number past line part named
      → HasLineFault part e → IsNoFrame number
  faulty number past line part named e is fault claims f packet at =
      let same = one_part_at number at.past past at.line line at.part part at.named named (part_of at) is in
      not_both part f e (subst (λ (l : List ℕ). Spells l f) same.part_is at.spelled) fault

  -- and a bad one neither
  pub bad_no_frame : (number : ℕ) → IsBadAt s log number → IsNoFrame number
  bad_no_frame number (inl (past, is)) claims f packet at = absurd (cc (one_place number at.past past (ShortLine at.line) Long at.line_is is).1)
  bad_no_frame number (inr (past, line, is, part, named, e, reads, fault, full, long)) claims f packet at =
      faulty number past line part named e (record { line_is = is; part_is = reads.part_is; named_is = reads.named_is }) fault claims f packet at

  -- of another fault it isn't bad
  not_bad : (number : ℕ) (past : AuditPast) (line part : List ℕ) (named : Option (List ℕ)) (e : LineError) → IsPartAt number past line part named
      → HasLineFault part e → (e ≡ Empty) ⊎ (e ≡ ShortIdent) → ¬ IsBadAt s log number
  not_bad number past line part named e is fault passes (inl (q, long)) = absurd (cc (one_place number past q (ShortLine line) Long is.line_is long).1)
  not_bad number past line part named e is fault passes (inr (q, l, at, other, i, d, reads, has, full, long)) =
      let same = one_part_at number past q line l part other named i is (record { line_is = at; part_is = reads.part_is; named_is = reads.named_is }) in
      let one : e ≡ d = one_fault other e d (subst (λ (x : List ℕ). HasLineFault x e) same.part_is fault) has in
      elim passes [ inl empty ↦ full (sym one ∙ empty) | inr short ↦ long (sym one ∙ short) ]

  -- nor is a line from elsewhere, which is no frame
  elsewhere_no_frame : (number : ℕ) (past : AuditPast) (line part : List ℕ) (named : Option (List ℕ)) → IsPartAt number past line part named
      → IsElsewhere past.interface part named → IsNoFrame number
  elsewhere_no_frame number past line part named is there claims f packet at =
      at.reads.here (is_elsewhere (one_part_at number past at.past line at.line part at.part named at.named is (part_of at)) there)

  elsewhere_not_bad : (number : ℕ) (past : AuditPast) (line part : List ℕ) (named : Option (List ℕ)) → IsPartAt number past line part named
      → IsElsewhere past.interface part named → ¬ IsBadAt s log number
  elsewhere_not_bad number past line part named is there (inl (q, long)) = absurd (cc (one_place number past q (ShortLine line) Long is.line_is long).1)
  elsewhere_not_bad number past line part named is there (inr (q, l, at, other, i, d, reads, has, full, long)) =
      reads.here (is_elsewhere (one_part_at number past q line l part other named i is
      (record { line_is = at; part_is = reads.part_is; named_is = reads.named_is })) there)

  -- nor is one of a frame that stands there again
  again_part : (number : ℕ) (one : IsAgainAt s log number) → IsPartAt number one.past one.line one.part one.named
  again_part number one = record { line_is = one.line_is; part_is = one.reads.part_is; named_is = one.reads.named_is }

  pub again_no_frame : (number : ℕ) → IsAgainAt s log number → IsNoFrame number
  again_no_frame number one claims f packet at =
      let same = one_part_at number at.past one.past at.line one.line at.part one.part at.named one.named (part_of at) (again_part number one) in
      let frame : f ≡ one.f = one_spelled one.part f one.f (subst (λ (l : List ℕ). Spells l f) same.part_is at.spelled) one.spelled in
      let time : at.time ≡ one.time = one_time one.line at.time one.time (subst (λ (l : List ℕ). IsTimeText l at.time) same.line_is at.time_is) one.time_is in
      true≢false (sym one.again ∙ sym (ap (λ (q : AuditPast). is_again s.plan q.taken (line_time s.plan at.time) f) same.past_is
      ∙ ap (λ (x : List ℕ). is_again s.plan one.past.taken (line_time s.plan x) f) time
      ∙ ap (λ (g : Frame). is_again s.plan one.past.taken (line_time s.plan one.time) g) frame) ∙ at.new)

  again_not_bad : (number : ℕ) → IsAgainAt s log number → ¬ IsBadAt s log number
  again_not_bad number one (inl (q, long)) = absurd (cc (one_place number one.past q (ShortLine one.line) Long one.line_is long).1)
  again_not_bad number one (inr (q, l, at, other, i, d, reads, has, full, long)) =
      let same = one_part_at number one.past q one.line l one.part other one.named i (again_part number one)
      (record { line_is = at; part_is = reads.part_is; named_is = reads.named_is }) in
      not_both other one.f d (subst (λ (x : List ℕ). Spells x one.f) same.part_is one.spelled) has

  -- ---- what a line does

  -- it changes nothing, or it is skipped
  pub record IsPassed (number : ℕ) (past next : AuditPast) : Type 0 where
    pub over : IsPassedOver s log number
    pub noted_is : next.noted ≡ past.noted
    pub moments_are : next.moments ≡ past.moments
    pub no_frame : IsNoFrame number
    pub not_bad : ¬ IsBadAt s log number
    pub claims_are : next.claims ≡ past.claims
    pub taken_is : next.taken ≡ past.taken
    pub load_is : next.by_load ≡ past.by_load

  pub record IsGap (number : ℕ) (past next : AuditPast) : Type 0 where
    pub noted_is : next.noted ≡ past.noted ++ noted_if (nat_lt 0 past.frames) (noted_at (past.number + 1) ShortWord 0 0)
    pub moments_are : next.moments ≡ behind_gap past.moments
    pub no_frame : IsNoFrame number
    pub not_bad : ¬ IsBadAt s log number
    pub claims_are : next.claims ≡ past.claims
    pub taken_is : next.taken ≡ None
    pub load_is : next.by_load ≡ behind_gap past.by_load

  pub record IsBadNext (number : ℕ) (past next : AuditPast) : Type 0 where
    pub bad : IsBadAt s log number
    pub next_is : next ≡ bad_line s (with_next_number past)

  pub record IsFrameNext (number : ℕ) (past next : AuditPast) : Type 0 where
    pub claims : HeardClaims
    pub f : Frame
    pub packet : Option Packet
    pub at : IsFrameAt s log number claims f packet
    pub past_is : at.past ≡ with_next_number past
    pub next_is : next ≡ past_with_frame s at.past (line_time s.plan at.time) at.named f packet

  -- a frame stands there again, and what times report changes as by this one before
  pub record IsAgainNext (number : ℕ) (past next : AuditPast) : Type 0 where
    pub at : IsAgainAt s log number
    pub past_is : at.past ≡ with_next_number past
    pub taken : TakenFrame
    pub taken_is : past.taken ≡ Some taken
    pub time : ℕ
    pub time_is : line_time s.plan at.time ≡ Some time
    pub noted_is : next.noted ≡ past.noted
    pub claims_are : next.claims ≡ with_requests s.plan (Some time) taken.frame taken.request past.claims
    pub moments_are : next.moments ≡ moments_again s taken.flow time past.moments
    pub load_is : next.by_load ≡ moments_again s taken.flow time past.by_load
    pub no_frame : IsNoFrame number
    pub not_bad : ¬ IsBadAt s log number

  abbrev pub IsKind : ℕ → AuditPast → AuditPast → Type 0
  IsKind number past next =
      IsPassed number past next
      ⊎ (IsGap number past next ⊎ (IsBadNext number past next ⊎ (IsFrameNext number past next ⊎ IsAgainNext number past next)))

  abbrev pub IsNext : ℕ → AuditPast → AuditPast → Type 0
  IsNext number past next = (next.number ≡ past.number + 1) × IsKind number past next

  module _ (before : List Line) (past : AuditPast) (line : Line) (behind : List Line) (next : AuditPast) (row : log ≡ before ++ line ∷ behind)
      (read : AuditsLines s nothing_read before past) where
    abbrev counted : ℕ
    counted = length before + 1

    abbrev begun : AuditPast
    begun = with_next_number past

    is_line : IsLineOf s log counted begun line
    is_line = record { before = before; behind = behind; row = row; number_is = refl; just = past; read = read; past_is = refl }

    short_line : (l : List ℕ) → line ≡ ShortLine l → IsLineOf s log counted begun (ShortLine l)
    short_line l same = subst (IsLineOf s log counted begun) same is_line

    a_bad_one : (l part : List ℕ) (named : Option (List ℕ)) (e : LineError) → line ≡ ShortLine l → IsReadHere begun l part named → HasLineFault part e
        → e ≢ Empty → e ≢ ShortIdent → next ≡ bad_line s begun → IsKind counted past next
    a_bad_one l part named e same reads fault full long is = inr (inr (inl (record {
      bad = inr (begun, l, short_line l same, part, named, e, reads, fault, full, long);
      next_is = is;
    })))

    a_fault : (l part : List ℕ) (named : Option (List ℕ)) (e : LineError) → line ≡ ShortLine l → IsReadHere begun l part named → HasLineFault part e
        → next ≡ passed_by s e begun → IsKind counted past next
    a_fault l part named Empty same reads fault is =
        let there : IsPartAt counted begun l part named =
        record { line_is = short_line l same; part_is = reads.part_is; named_is = reads.named_is } in
        inl (record {
          over = (begun, l, short_line l same, part, named, reads.part_is, reads.named_is, inr fault);
          noted_is = ap (λ (p : AuditPast). p.noted) is;
          moments_are = ap (λ (p : AuditPast). p.moments) is;
          no_frame = faulty counted begun l part named Empty there fault;
          not_bad = not_bad counted begun l part named Empty there fault (inl refl);
          claims_are = ap (λ (p : AuditPast). p.claims) is;
          taken_is = ap (λ (p : AuditPast). p.taken) is;
          load_is = ap (λ (p : AuditPast). p.by_load) is;
        })
    a_fault l part named ShortIdent same reads fault is =
        let there : IsPartAt counted begun l part named =
        record { line_is = short_line l same; part_is = reads.part_is; named_is = reads.named_is } in
        inr (inl (record {
          noted_is = ap (λ (p : AuditPast). p.noted) is;
          moments_are = ap (λ (p : AuditPast). p.moments) is;
          no_frame = faulty counted begun l part named ShortIdent there fault;
          not_bad = not_bad counted begun l part named ShortIdent there fault (inr refl);
          claims_are = ap (λ (p : AuditPast). p.claims) is;
          taken_is = ap (λ (p : AuditPast). p.taken) is;
          load_is = ap (λ (p : AuditPast). p.by_load) is;
        }))
    a_fault l part named NoHash same reads fault is = a_bad_one l part named NoHash same reads fault (λ e. cc e) (λ e. cc e) is
    a_fault l part named BadIdent same reads fault is = a_bad_one l part named BadIdent same reads fault (λ e. cc e) (λ e. cc e) is
    a_fault l part named TooLong same reads fault is = a_bad_one l part named TooLong same reads fault (λ e. cc e) (λ e. cc e) is
    a_fault l part named BadData same reads fault is = a_bad_one l part named BadData same reads fault (λ e. cc e) (λ e. cc e) is

    an_again : (l part : List ℕ) (named : Option (List ℕ)) (f : Frame) (time : List ℕ) → line ≡ ShortLine l → IsReadHere begun l part named → Spells part f
        → IsTimeText l time → is_again s.plan past.taken (line_time s.plan time) f ≡ true → next ≡ past_with_again s (line_time s.plan time) named begun
        → IsAgainNext counted past next
    an_again l part named f time same reads spelled text again e =
        let at : IsAgainAt s log counted = record {
          past = begun;
          line = l;
          line_is = short_line l same;
          part = part;
          named = named;
          reads = reads;
          f = f;
          time = time;
          spelled = spelled;
          time_is = text;
          again = again;
        } in
        let (taken, τ, taken_is, time_is) = again_parts s.plan past.taken (line_time s.plan time) f again in
        let became : past_again s past.taken (line_time s.plan time) begun
        ≡ record (with_again s taken.flow taken.unit taken.line τ begun) { claims = with_requests s.plan (Some τ) taken.frame taken.request past.claims } =
        again_with s begun past.taken (line_time s.plan time) taken τ taken_is time_is in
        record {
          at = at;
          past_is = refl;
          taken = taken;
          taken_is = taken_is;
          time = τ;
          time_is = time_is;
          noted_is = ap (λ (p : AuditPast). p.noted) e ∙ ap (λ (p : AuditPast). p.noted) became;
          claims_are = ap (λ (p : AuditPast). p.claims) e ∙ ap (λ (p : AuditPast). p.claims) became;
          moments_are = ap (λ (p : AuditPast). p.moments) e ∙ ap (λ (p : AuditPast). p.moments) became;
          load_is = ap (λ (p : AuditPast). p.by_load) e ∙ ap (λ (p : AuditPast). p.by_load) became;
          no_frame = again_no_frame counted at;
          not_bad = again_not_bad counted at;
        }

    one_next : (x : Line) → line ≡ x → AuditsLine s past x next → IsNext counted past next
    unfolding frame_at
    one_next Long same is = (
      ap (λ (p : AuditPast). p.number) is,
      inr (inr (inl (record { bad = inl (begun, subst (IsLineOf s log counted begun) same is_line); next_is = is }))),
    )
    one_next (ShortLine l) same (part, named, part_is, named_is, inl (there, e)) =
        let is : IsPartAt counted begun l part named = record { line_is = short_line l same; part_is = part_is; named_is = named_is } in (
          ap (λ (p : AuditPast). p.number) e,
          inl (record {
            over = (begun, l, short_line l same, part, named, part_is, named_is, inl there);
            noted_is = ap (λ (p : AuditPast). p.noted) e;
            moments_are = ap (λ (p : AuditPast). p.moments) e;
            no_frame = elsewhere_no_frame counted begun l part named is there;
            not_bad = elsewhere_not_bad counted begun l part named is there;
            claims_are = ap (λ (p : AuditPast). p.claims) e;
            taken_is = ap (λ (p : AuditPast). p.taken) e;
            load_is = ap (λ (p : AuditPast). p.by_load) e;
          }),
        )
    one_next (ShortLine l) same (part, named, part_is, named_is, inr (here, inl (f, time, spelled, text, inl (again, e)))) = (
      ap (λ (p : AuditPast). p.number) e ∙ again_number s begun past.taken (line_time s.plan time),
      inr (inr (inr (inr (an_again l part named f time same (record { part_is = part_is; named_is = named_is; here = here }) spelled text again e)))),
    )
    one_next (ShortLine l) same (part, named, part_is, named_is, inr (here, inl (f, time, spelled, text, inr (new, (packet, packet_is, e))))) = (
      ap (λ (p : AuditPast). p.number) e ∙ frame_number s begun (line_time s.plan time) named f packet,
      inr (inr (inr (inl (record {
        claims = claims_before s begun (line_time s.plan time);
        f = f;
        packet = packet;
        at = frame_at s log counted begun l part named f time packet (short_line l same) (record { part_is = part_is; named_is = named_is; here = here })
            spelled text new packet_is;
        past_is = refl;
        next_is = e;
      })))),
    )
    one_next (ShortLine l) same (part, named, part_is, named_is, inr (here, inr (fault, has, e))) = (
      ap (λ (p : AuditPast). p.number) e ∙ as_many_lines s fault begun,
      a_fault l part named fault same (record { part_is = part_is; named_is = named_is; here = here }) has e,
    )

  -- what holds behind each line holds at the end
  module _ (Holds : ℕ → AuditPast → Type 0) (more : (number : ℕ) (past next : AuditPast) → Holds number past → IsNext (number + 1) past next
      → Holds (number + 1) next)
    where
      behind_those : (before middle rest : List Line) (past end : AuditPast) → log ≡ before ++ (middle ++ rest) → AuditsLines s nothing_read before past
          → Holds (length before) past → AuditsLines s past middle end → Holds (length (before ++ middle)) end
      behind_those before [] rest past end row read holds e =
          subst (λ (p : AuditPast). Holds (length (before ++ [])) p) (sym e)
          (subst (λ (l : List Line). Holds (length l) past) (sym (append-nil before)) holds)
      behind_those before (line ∷ middle) rest past end row read holds (next, takes, others) =
          let there : Holds (length before + 1) next =
          more (length before) past next holds (one_next before past line (middle ++ rest) next row read line refl takes) in
          subst (λ (l : List Line). Holds (length l) end) (append_assoc before (line ∷ []) middle)
          (behind_those (before ++ line ∷ []) middle rest next end (row ∙ sym (append_assoc before (line ∷ []) (middle ++ rest)))
          (line_more s before line nothing_read past next read takes)
          (subst (λ (k : ℕ). Holds k next) (sym (length-append before (line ∷ []))) there) others)

      pub at_end : (end : AuditPast) → Holds 0 nothing_read → AuditsLines s nothing_read log end → Holds (length log) end
      at_end end first read = behind_those [] log [] nothing_read end (sym (append-nil log)) refl first read

      pub at_line : (number : ℕ) (past : AuditPast) (line : Line) (is : IsLineOf s log number past line) → Holds 0 nothing_read
          → Holds (length is.before) is.just
      at_line number past line is first = behind_those [] is.before (line ∷ is.behind) nothing_read is.just is.row refl first is.read

  -- a line of a log has its place in it
  pub inside_log : (number : ℕ) (past : AuditPast) (line : Line) → IsLineOf s log number past line → number ≤ length log
  inside_log number past line is =
      let at = is.number_is in
      let long = ap length is.row ∙ length-append is.before (line ∷ is.behind) in
      omega (arith, at, long)
