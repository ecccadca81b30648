-- The lines of a log, one after another: what each adds to what is reported of a mark.
use Rattle.std.proofs.Common.{◌≡◌, ◌⊎◌, ℕ, ◌+◌, ◌++◌, ◌∷◌, [], List, length}
use Rattle.std.proofs.Common.{inl, inr, refl, sym, ap, ◌∙◌, subst, arith, Option}
use Rattle.std.specs.Prelude.{nat_lt, false, Some, None}
use Rattle.std.proofs.lemmas.Bool.{lt-ltb, ltb-true}
use Rattle.std.proofs.lemmas.List.{append-nil, length-append}
use Rattle.j39_id.specs.FrameLine.{HasLineFault, Spells}
use Rattle.j39_id.specs.Lines.{Line, Short as ShortLine, Long}
use Rattle.j39_id.specs.declared.frame.Frame.{Frame}
use Rattle.j39_id.specs.declared.line_error.LineError.{LineError}
use Rattle.j39_id.specs.declared.line_error.LineError.TheVariants.{Empty, NoHash, ShortIdent, BadIdent, TooLong, BadData}
use Rattle.j39_follow.specs.LogLines.{IsTimeText}
use Rattle.j39_tp.specs.declared.packet.Packet.{Packet}
use Rattle.j39_audit.specs.AuditPasts.{AuditPast, AuditsLine, AuditsLines, AuditsShort, claims_before, nothing_read, passed_by, past_with_frame, skipped_line}
use Rattle.j39_audit.specs.AuditPasts.{with_next_number, past_again}
use Rattle.j39_audit.specs.Breaks.{breaks, line_time}
use Rattle.j39_audit.specs.Claiming.{HeardClaims}
use Rattle.j39_audit.specs.Counting.{Noted}
use Rattle.j39_audit.specs.Looking.{IsPacketOf, break_noted, frame_noted, noted_if}
use Rattle.j39_audit.specs.SentMessages.{noted_at}
use Rattle.j39_audit.specs.Settings.{Settings}
use Rattle.j39_audit.specs.declared.mark.Mark.{Mark}
use Rattle.j39_audit.specs.declared.mark.Word.TheVariants.{Short, Break}
use Rattle.j39_audit.proofs.Hearing.{as_many_lines, frame_number, again_number}
use Rattle.j39_audit_laws.specs.FoundLines.{IsAccusing, IsFoundAt, IsFrameAt, IsLineOf, IsAccusedAs, IsReadHere, IsShortAt}
use Rattle.j39_audit_laws.proofs.Frames.{marked_noted, noted_means, noted_once}
use Rattle.j39_audit_laws.proofs.Hits.{AtMostOne, In, HaveWords, hit_in, hits, hits_both, if_in, in_cases, in_hits, in_if, in_right, no_hits, one_behind}
use Rattle.j39_audit_laws.proofs.Hits.{one_if, words_if}
use Rattle.j39_audit_laws.proofs.Marking.{is_seen, seen_word, unseen}
use Rattle.j39_audit_laws.proofs.OneReading.{one_line_read, one_log_read}
use Rattle.j39_audit.specs.Again.{is_again}
use Rattle.j39_audit.specs.declared.again.TakenFrame.{TakenFrame}

-- ---- what a line is read as

-- the notes of a frame, with that of a break before it
abbrev pub notes_at : Settings → AuditPast → Option ℕ → Frame → Option Packet → List Noted
notes_at s past time f packet = break_noted past.number (breaks s.stamps past.newest time) ++ frame_noted s (claims_before s past time) f packet past.number

frame_notes : (s : Settings) (past : AuditPast) (time : Option ℕ) (named : Option (List ℕ)) (f : Frame) (packet : Option Packet)
    → (past_with_frame s past time named f packet).noted ≡ past.noted ++ notes_at s past time f packet
unfolding past_with_frame
frame_notes s past time named f packet = refl

-- a frame is read at the line of a number
unfoldable pub frame_at : (s : Settings) (log : List Line) (number : ℕ) (past : AuditPast) (line part : List ℕ) (named : Option (List ℕ)) (f : Frame)
    (time : List ℕ)
    (packet : Option Packet) → IsLineOf s log number past (ShortLine line) → IsReadHere past line part named → Spells part f → IsTimeText line time
    → is_again s.plan past.taken (line_time s.plan time) f ≡ false → IsPacketOf f packet
    → IsFrameAt s log number (claims_before s past (line_time s.plan time)) f packet
frame_at s log number past line part named f time packet line_is reads spelled time_is new packet_is = record {
  past = past;
  line = line;
  line_is = line_is;
  part = part;
  named = named;
  reads = reads;
  time = time;
  spelled = spelled;
  time_is = time_is;
  new = new;
  packet_is = packet_is;
  claims_are = refl;
}

-- once a line has begun: nothing is noted; or it is short; or it is a frame
pub record IsQuiet (past next : AuditPast) : Type 0 where
  pub noted_is : next.noted ≡ past.noted

pub record IsSkipped (past : AuditPast) (line : List ℕ) (next : AuditPast) : Type 0 where
  pub part : List ℕ
  pub named : Option (List ℕ)
  pub reads : IsReadHere past line part named
  pub short : HasLineFault part ShortIdent
  pub noted_is : next.noted ≡ past.noted ++ noted_if (nat_lt 0 past.frames) (noted_at past.number Short 0 0)

pub record IsFramed (s : Settings) (past : AuditPast) (line : List ℕ) (next : AuditPast) : Type 0 where
  pub part : List ℕ
  pub named : Option (List ℕ)
  pub reads : IsReadHere past line part named
  pub f : Frame
  pub packet : Option Packet
  pub time : List ℕ
  pub spelled : Spells part f
  pub text : IsTimeText line time
  pub new : is_again s.plan past.taken (line_time s.plan time) f ≡ false
  pub packet_is : IsPacketOf f packet
  pub next_is : next ≡ past_with_frame s past (line_time s.plan time) named f packet

abbrev IsOneOf : Settings → AuditPast → List ℕ → AuditPast → Type 0
IsOneOf s past line next = IsQuiet past next ⊎ (IsSkipped past line next ⊎ IsFramed s past line next)

abbrev IsTaken : Settings → AuditPast → Line → AuditPast → Type 0
IsTaken s past line next =
    (next.number ≡ past.number + 1)
    × (IsQuiet past next ⊎ ((l : List ℕ) × (line ≡ ShortLine l) × (IsSkipped (with_next_number past) l next ⊎ IsFramed s (with_next_number past) l next)))

passed : (s : Settings) (past : AuditPast) (line part : List ℕ) (named : Option (List ℕ)) → IsReadHere past line part named → (e : LineError)
    → HasLineFault part e → (next : AuditPast) → next ≡ passed_by s e past → IsOneOf s past line next
passed s past line part named reads ShortIdent fault next e = inr (inl (record {
  part = part;
  named = named;
  reads = reads;
  short = fault;
  noted_is = ap (λ (p : AuditPast). p.noted) e;
}))
passed s past line part named reads Empty fault next e = inl (record { noted_is = ap (λ (p : AuditPast). p.noted) e })
passed s past line part named reads NoHash fault next e = inl (record { noted_is = ap (λ (p : AuditPast). p.noted) e })
passed s past line part named reads BadIdent fault next e = inl (record { noted_is = ap (λ (p : AuditPast). p.noted) e })
passed s past line part named reads TooLong fault next e = inl (record { noted_is = ap (λ (p : AuditPast). p.noted) e })
passed s past line part named reads BadData fault next e = inl (record { noted_is = ap (λ (p : AuditPast). p.noted) e })

-- of a frame that stands there again nothing is noted
pub again_notes : (s : Settings) (past : AuditPast) (taken : Option TakenFrame) (time : Option ℕ) → (past_again s taken time past).noted ≡ past.noted
unfolding past_again
again_notes s past None time = refl
again_notes s past (Some one) None = refl
again_notes s past (Some one) (Some time) = refl

pub taken : (s : Settings) (past : AuditPast) (line : Line) (next : AuditPast) → AuditsLine s past line next → IsTaken s past line next
taken s past Long next e = (ap (λ (p : AuditPast). p.number) e, inl (record { noted_is = ap (λ (p : AuditPast). p.noted) e }))
taken s past (ShortLine l) next (part, named, part_is, named_is, inl (there, e)) =
    (ap (λ (p : AuditPast). p.number) e, inl (record { noted_is = ap (λ (p : AuditPast). p.noted) e }))
taken s past (ShortLine l) next (part, named, part_is, named_is, inr (here, inl (f, time, spelled, text, inl (again, e)))) =
    let begun : AuditPast = with_next_number past in
    let same = again_notes s begun begun.taken (line_time s.plan time) in (
      ap (λ (p : AuditPast). p.number) e ∙ again_number s begun begun.taken (line_time s.plan time),
      inl (record { noted_is = ap (λ (p : AuditPast). p.noted) e ∙ same }),
    )
taken s past (ShortLine l) next (part, named, part_is, named_is, inr (here, inl (f, time, spelled, text, inr (new, (packet, packet_is, e))))) =
    let begun : AuditPast = with_next_number past in (
      ap (λ (p : AuditPast). p.number) e ∙ frame_number s begun (line_time s.plan time) named f packet,
      inr (
        l,
        refl,
        inr (record {
          part = part;
          named = named;
          reads = record { part_is = part_is; named_is = named_is; here = here };
          f = f;
          packet = packet;
          time = time;
          spelled = spelled;
          text = text;
          new = new;
          packet_is = packet_is;
          next_is = e;
        }),
      ),
    )
taken s past (ShortLine l) next (part, named, part_is, named_is, inr (here, inr (fault, has, e))) =
    let begun : AuditPast = with_next_number past in
    let reads : IsReadHere begun l part named = record { part_is = part_is; named_is = named_is; here = here } in (
      ap (λ (p : AuditPast). p.number) e ∙ as_many_lines s fault begun,
      elim (passed s begun l part named reads fault has next e) [
        | inl quiet ↦ inl (record { noted_is = quiet.noted_is })
        | inr more ↦ inr (l, refl, more)
      ],
    )

-- ---- one line of a log

pub same_cut : (a b : List Line) (x y : Line) (c d : List Line) → length a ≡ length b → a ++ x ∷ c ≡ b ++ y ∷ d → (a ≡ b) × (x ≡ y)
same_cut [] [] x y c d long e = (refl, cc)
same_cut [] (z ∷ b) x y c d long e = absurd (omega (arith, long))
same_cut (z ∷ a) [] x y c d long e = absurd (omega (arith, long))
same_cut (z ∷ a) (w ∷ b) x y c d long e =
    let head : z ≡ w = cc in
    let tail : a ++ x ∷ c ≡ b ++ y ∷ d = cc in
    let rest = same_cut a b x y c d (omega (arith, long)) tail in
    (cc (rest.0, head), rest.1)

module _ (s : Settings) (log : List Line) (m : Mark) (accuses : IsAccusing m.word) where
  -- so far, and once one line more is read
  module _ (before : List Line) (past : AuditPast) (line : Line) (behind : List Line) (next : AuditPast) (row : log ≡ before ++ line ∷ behind)
      (read : AuditsLines s nothing_read before past) (takes : AuditsLine s past line next) (count : past.number ≡ length before) where
    abbrev number : ℕ
    number = length before + 1

    abbrev begun : AuditPast
    begun = with_next_number past

    is_line : IsLineOf s log number begun line
    is_line = record { before = before; behind = behind; row = row; number_is = refl; just = past; read = read; past_is = refl }

    -- it is this line that is found at its number
    only_line : (p : AuditPast) (l : Line) (is : IsLineOf s log number p l) → (l ≡ line) × (is.just ≡ past)
    only_line p l is =
        let long : length is.before ≡ length before = (let e = is.number_is in omega (arith, e)) in
        let same = same_cut is.before before l line is.behind behind long (sym is.row ∙ row) in
        (same.1, one_log_read s nothing_read before is.just past (is_read_so is.before same.0 is.just is.read) read)
      where
        is_read_so : (x : List Line) → x ≡ before → (just : AuditPast) → AuditsLines s nothing_read x just → AuditsLines s nothing_read before just
        is_read_so x same just reads = subst (λ (y : List Line). AuditsLines s nothing_read y just) same reads

    -- whatever its line is read as, it leads to what follows
    leads_there : (p : AuditPast) (l : List ℕ) (is : IsLineOf s log number p (ShortLine l)) (other : AuditPast) → AuditsShort s p l other → next ≡ other
    leads_there p l is other reads =
        let same = only_line p (ShortLine l) is in
        let from_just : AuditsLine s is.just (ShortLine l) other = subst (λ (q : AuditPast). AuditsShort s q l other) is.past_is reads in
        let from_past : AuditsLine s past (ShortLine l) other = subst (λ (q : AuditPast). AuditsLine s q (ShortLine l) other) same.1 from_just in
        one_line_read s past line next other takes (subst (λ (x : Line). AuditsLine s past x other) same.0 from_past)

    notes_before : (p : AuditPast) (l : List ℕ) → IsLineOf s log number p (ShortLine l) → p.noted ≡ past.noted
    notes_before p l is =
        ap (λ (q : AuditPast). q.noted) is.past_is ∙ ap (λ (q : AuditPast). q.noted) (only_line p (ShortLine l) is).1

    abbrev old : List Noted
    old = hits m past.noted

    -- something is reported more
    abbrev Grows : Type 0
    Grows = (n : Noted) × (more : List Noted) × (hits m next.noted ≡ old ++ n ∷ more)

    some_more : (n : Noted) (notes : List Noted) → In n notes → n.mark ≡ m → next.noted ≡ past.noted ++ notes → Grows
    some_more n notes inside is e =
        elim (hits m notes) as (λ xs. hits m notes ≡ xs → In n xs → Grows) [
          | [] ↦ λ none never. absurd never
          | first ∷ more ↦ λ these _. (first, more, ap (hits m) e ∙ hits_both m past.noted notes ∙ ap (λ (l : List Noted). old ++ l) these)
        ] refl (in_hits m n notes inside is)

    frame_found : (claims : HeardClaims) (f : Frame) (packet : Option Packet) → IsFrameAt s log number claims f packet
        → IsAccusedAs s claims f packet m.word m.subject m.group → Grows
    frame_found claims f packet at marked =
        let t : Option ℕ = line_time s.plan at.time in
        let other : AuditPast = past_with_frame s at.past t at.named f packet in
        let is : next ≡ other = leads_there at.past at.line at.line_is other (
          at.part,
          at.named,
          at.reads.part_is,
          at.reads.named_is,
          inr
              (at.reads.here, inl (f, at.time, at.spelled, at.time_is, inr (at.new, (packet, at.packet_is, refl)))),
        ) in
        let marks = marked_noted s (claims_before s at.past t) f packet at.past.number m.word m.subject m.group
        (subst (λ (c : HeardClaims). IsAccusedAs s c f packet m.word m.subject m.group) at.claims_are marked) in
        some_more marks.0 (notes_at s at.past t f packet)
        (in_right marks.0 (break_noted at.past.number (breaks s.stamps at.past.newest t))
        (frame_noted s (claims_before s at.past t) f packet at.past.number) marks.1)
        marks.2
        (ap (λ (p : AuditPast). p.noted) is ∙ frame_notes s at.past t at.named f packet
        ∙ ap (λ (l : List Noted). l ++ notes_at s at.past t f packet) (notes_before at.past at.line at.line_is))

    short_found : IsShortAt s log number → m ≡ record { word = Short; subject = 0; group = 0 } → Grows
    short_found at is =
        let other : AuditPast = skipped_line at.past in
        let n : Noted = noted_at at.past.number Short 0 0 in
        let next_is : next ≡ other = leads_there at.past at.line at.line_is other
        (at.part, at.named, at.reads.part_is, at.reads.named_is, inr (at.reads.here, inr (ShortIdent, at.short, refl))) in
        some_more n (noted_if (nat_lt 0 at.past.frames) n) (if_in n (nat_lt 0 at.past.frames) (lt-ltb 0 at.past.frames at.behind)) (sym is)
        (ap (λ (p : AuditPast). p.noted) next_is
        ∙ ap (λ (l : List Noted). l ++ noted_if (nat_lt 0 at.past.frames) n) (notes_before at.past at.line at.line_is))

    pub found_grows : IsFoundAt s log number m → Grows
    found_grows (inl (at, is)) = short_found at is
    found_grows (inr (claims, f, packet, at, marked)) = frame_found claims f packet at marked

    -- ---- what it adds

    -- nothing, or one note of this line, at which the mark is found
    abbrev pub Adds : Type 0
    Adds = (hits m next.noted ≡ old)
        ⊎ ((n : Noted) × (hits m next.noted ≡ old ++ n ∷ []) × (n.line ≡ number) × IsFoundAt s log number m)

    adds_notes : (notes : List Noted) → next.noted ≡ past.noted ++ notes → AtMostOne (hits m notes)
        → ((n : Noted) → In n notes → n.mark ≡ m → (n.line ≡ number) × IsFoundAt s log number m) → Adds
    adds_notes notes e (inl none) found =
        inl (ap (hits m) e ∙ hits_both m past.noted notes ∙ ap (λ (l : List Noted). old ++ l) none ∙ append-nil old)
    adds_notes notes e (inr (n, one)) found =
        let inside = hit_in m n notes (subst (In n) (sym one) (inl refl)) in
        let so = found n inside.0 inside.1 in
        inr (n, ap (hits m) e ∙ hits_both m past.noted notes ∙ ap (λ (l : List Noted). old ++ l) one, so.0, so.1)

    skipped_adds : (l : List ℕ) → line ≡ ShortLine l → IsSkipped begun l next → Adds
    skipped_adds l same is =
        let n : Noted = noted_at begun.number Short 0 0 in
        adds_notes (noted_if (nat_lt 0 past.frames) n) is.noted_is (one_if m n (nat_lt 0 past.frames))
        (λ x inside marked.
        let (test, e) = in_if x n (nat_lt 0 past.frames) inside in
        let mark_is : m ≡ record { word = Short; subject = 0; group = 0 } = sym marked ∙ sym (ap (λ (y : Noted). y.mark) e) in
        let line_is : x.line ≡ number = sym (ap (λ (y : Noted). y.line) e) ∙ ap (λ (k : ℕ). k + 1) count in (
          line_is,
          inl (
            record {
              past = begun;
              line = l;
              line_is = subst (IsLineOf s log number begun) same is_line;
              part = is.part;
              named = is.named;
              reads = is.reads;
              short = is.short;
              behind = ltb-true 0 past.frames test;
            },
            mark_is,
          ),
        ))

    framed_adds : (l : List ℕ) → line ≡ ShortLine l → IsFramed s begun l next → Adds
    framed_adds l same is =
        let t : Option ℕ = line_time s.plan is.time in
        let claims : HeardClaims = claims_before s begun t in
        let broken : List Noted = break_noted begun.number (breaks s.stamps begun.newest t) in
        let notes : List Noted = frame_noted s claims is.f is.packet begun.number in
        let breaks_off : HaveWords is_seen broken = words_if is_seen (noted_at begun.number Break 0 0) (breaks s.stamps begun.newest t) refl in
        adds_notes (broken ++ notes) (ap (λ (p : AuditPast). p.noted) is.next_is ∙ frame_notes s begun t is.named is.f is.packet)
        (one_behind m broken notes (no_hits m is_seen (unseen m.word accuses) broken breaks_off) (noted_once s claims is.f is.packet begun.number m accuses))
        (λ x inside marked.
        let accused : IsAccusing x.mark.word = subst (λ (k : Mark). IsAccusing k.word) (sym marked) accuses in
        elim (in_cases x broken notes inside) [
          | inl there ↦ absurd (seen_word broken breaks_off x there accused)
          | inr there ↦
              let (line_is, is_marked) = noted_means s claims is.f is.packet begun.number x there accused in
              let here : IsFrameAt s log number claims is.f is.packet =
              frame_at s log number begun l is.part is.named is.f is.time is.packet (subst (IsLineOf s log number begun) same is_line) is.reads is.spelled
              is.text is.new is.packet_is in (
                line_is ∙ ap (λ (k : ℕ). k + 1) count,
                inr (
                  claims,
                  is.f,
                  is.packet,
                  here,
                  subst (λ (k : Mark). IsAccusedAs s claims is.f is.packet k.word k.subject k.group) marked is_marked,
                ),
              )
        ])

    pub adds : Adds
    adds = elim (taken s past line next takes).1 [
      | inl quiet ↦ inl (ap (hits m) quiet.noted_is)
      | inr (l, same, inl short) ↦ skipped_adds l same short
      | inr (l, same, inr framed) ↦ framed_adds l same framed
    ]

    pub counts_on : next.number ≡ length (before ++ line ∷ [])
    counts_on = (taken s past line next takes).0 ∙ ap (λ (k : ℕ). k + 1) count ∙ sym (length-append before (line ∷ []))
