-- The frames that are read of a log, with the claims before each.
use Rattle.std.proofs.Common.{◌≡◌, ◌≢◌, ◌⊎◌, ℕ, ◌++◌, ◌∷◌, [], List, Bool, true, false, cond}
use Rattle.std.proofs.Common.{inl, inr, refl, sym, ap, ◌∙◌, subst, append_assoc, eqb-true, Option, None}
use Rattle.j39_id.proofs.LineLaws.{not_both, one_fault, one_spelled}
use Rattle.j39_id.specs.FrameLine.{HasLineFault, Spells}
use Rattle.j39_id.specs.Lines.{Line, Short as ShortLine, Long}
use Rattle.j39_id.specs.declared.frame.Frame.{Frame}
use Rattle.j39_id.specs.declared.line_error.LineError.{LineError}
use Rattle.j39_id.specs.declared.line_error.LineError.TheVariants.{Empty, NoHash, ShortIdent, BadIdent, TooLong, BadData}
use Rattle.j39_follow.proofs.OneText.{one_interface, one_part}
use Rattle.j39_follow.specs.LogLines.{IsElsewhere, IsReadPart, NamesInterface, interface_behind}
use Rattle.j39_tp.specs.declared.packet.Packet.{Packet}
use Rattle.j39_audit.specs.AuditPasts.{AuditPast, AuditsLine, AuditsLines, claims_before, nothing_read, passed_by, past_with_frame, with_next_number, past_again}
use Rattle.j39_audit.specs.AuditPasts.{past_with_again, noted_newly}
use Rattle.j39_audit.specs.Breaks.{breaks, line_time}
use Rattle.j39_audit.specs.Claiming.{Heard, HeardClaims, broken_off, with_claim, newest_of, is_at}
use Rattle.j39_audit.specs.Looking.{claims_behind, is_claim}
use Rattle.j39_audit.specs.Settings.{Settings}
use Rattle.j39_audit_laws.specs.AuditedRuns.{AreReadAs}
use Rattle.j39_audit_laws.specs.FoundLines.{IsFrameAt, IsLineOf, IsShortAt}
use Rattle.j39_audit_laws.proofs.RunFrames.{claims_behind_those, claims_of, heard_of}
use Rattle.j39_audit.specs.Again.{is_again, is_again_behind, is_same_frame, is_too_soon, taken_frame}
use Rattle.j39_audit.specs.declared.again.TakenFrame.{TakenFrame}
use Rattle.j39_audit.specs.declared.tally.Sighting.{Sighting}
use Rattle.j39_audit.specs.MessageStreams.{nothing_sighted, sighted_behind}
use Rattle.j39_audit_laws.proofs.Walk.{taken_with}
use Rattle.j39_id.proofs.SameFrame.{same_frame}
use Rattle.j39_id.specs.Ident.{bits}
use Rattle.std.specs.Str.{bytes_eq}
use Rattle.std.proofs.lemmas.Slice.Eq.{bytes_eq-Decides}
use Rattle.std.proofs.lemmas.Bool.{true≢false, and_parts, cond-true, cond-false, cases_Bool}
use Rattle.std.proofs.lemmas.Option.{none-some, same_Some}
use Rattle.j39_network.specs.declared.plan.timing.Timing.{Timing}
use Rattle.j39_network.specs.declared.plan.Plan.{Plan}
use Rattle.std.specs.Option.{option_map_or}
use Rattle.std.specs.Prelude.{Some, ◌==◌}

-- ---- one line

-- what is read of a line and the lines behind it, once its part and its interface are known
abbrev pub ReadsOn : Option (List ℕ) → List ℕ → Option (List ℕ) → List Line → List Frame → Type 0
ReadsOn interface part named log frames =
    (IsElsewhere interface part named × AreReadAs interface log frames)
    ⊎ (((f : Frame) × (more : List Frame) × (¬ IsElsewhere interface part named) × Spells part f × (frames ≡ f ∷ more)
    × AreReadAs (interface_behind interface named) log more)
    ⊎ ((e : LineError) × HasLineFault part e × (e ≢ ShortIdent) × AreReadAs interface log frames))

pub reads_on : (interface : Option (List ℕ)) (line part : List ℕ) (named : Option (List ℕ)) (log : List Line) (frames : List Frame)
    → IsReadPart line part → NamesInterface part named → AreReadAs interface (ShortLine line ∷ log) frames
    → ReadsOn interface part named log frames
reads_on interface line part named log frames part_is named_is (p, n, p_is, n_is, rest) =
    let same = one_part line p part p_is part_is in
    let there : NamesInterface part n = subst (λ (x : List ℕ). NamesInterface x n) same n_is in
    subst (λ (x : Option (List ℕ)). ReadsOn interface part x log frames) (one_interface part n named there named_is)
    (subst (λ (x : List ℕ). ReadsOn interface x n log frames) same rest)

-- none of these lines is short
pub never_short : (interface : Option (List ℕ)) (part : List ℕ) (named : Option (List ℕ)) (log : List Line) (frames : List Frame)
    → (¬ IsElsewhere interface part named) → HasLineFault part ShortIdent → ReadsOn interface part named log frames → ⊥
never_short interface part named log frames here short (inl (there, more)) = here there
never_short interface part named log frames here short (inr (inl (f, more, other, spelled, row, rest))) = not_both part f ShortIdent spelled short
never_short interface part named log frames here short (inr (inr (e, fault, other, rest))) = other (one_fault part e ShortIdent fault short)

-- what it is read as is the next of the frames
pub next_frame : (interface : Option (List ℕ)) (part : List ℕ) (named : Option (List ℕ)) (log : List Line) (frames : List Frame) (f : Frame)
    → (¬ IsElsewhere interface part named) → Spells part f → ReadsOn interface part named log frames
    → (more : List Frame) × (frames ≡ f ∷ more) × AreReadAs (interface_behind interface named) log more
next_frame interface part named log frames f here spelled (inl (there, more)) = absurd (here there)
next_frame interface part named log frames f here spelled (inr (inl (g, more, other, spelled_g, row, rest))) =
    (more, row ∙ ap (λ (x : Frame). x ∷ more) (one_spelled part g f spelled_g spelled), rest)
next_frame interface part named log frames f here spelled (inr (inr (e, fault, other, rest))) = absurd (not_both part f e spelled fault)

passed_on : (interface : Option (List ℕ)) (part : List ℕ) (named : Option (List ℕ)) (log : List Line) (frames : List Frame) (d : LineError)
    → (¬ IsElsewhere interface part named) → HasLineFault part d → ReadsOn interface part named log frames → AreReadAs interface log frames
passed_on interface part named log frames d here fault (inl (there, more)) = more
passed_on interface part named log frames d here fault (inr (inl (g, more, other, spelled, row, rest))) = absurd (not_both part g d spelled fault)
passed_on interface part named log frames d here fault (inr (inr (e, has, other, rest))) = rest

elsewhere_on : (interface : Option (List ℕ)) (part : List ℕ) (named : Option (List ℕ)) (log : List Line) (frames : List Frame)
    → IsElsewhere interface part named → ReadsOn interface part named log frames → AreReadAs interface log frames
elsewhere_on interface part named log frames there (inl (other, more)) = more
elsewhere_on interface part named log frames there (inr (inl (g, more, other, spelled, row, rest))) = absurd (other there)
elsewhere_on interface part named log frames there (inr (inr (e, has, other, rest))) = rest

-- ---- lines one after another

-- of these frames the newest claims of units are those so far, which lack only what stands there again; and those from the last break on are the newest
-- of them
pub record AreClaimsOf (s : Settings) (claims : HeardClaims) (heard : List Frame) : Type 0 where
  pub newest_are : (u : ℕ) → newest_of u claims.all ≡ newest_of u (claims_of s.plan [] heard)
  pub older : List Heard
  pub recent_are : claims.all ≡ claims.recent ++ older

pub break_claims : (s : Settings) (claims : HeardClaims) (heard : List Frame) (broken : Bool) → AreClaimsOf s claims heard
    → AreClaimsOf s (broken_off broken claims) heard
break_claims s claims heard true are = record { newest_are = are.newest_are; older = claims.all; recent_are = refl }
break_claims s claims heard false are = are

more_claims : (s : Settings) (claims : HeardClaims) (heard : List Frame) (f : Frame) → AreClaimsOf s claims heard
    → AreClaimsOf s (claims_behind s f claims) (heard ++ f ∷ [])
unfolding newest_of
more_claims s claims heard f are =
    let behind : claims_of s.plan [] (heard ++ f ∷ []) ≡ cond (is_claim f) (heard_of s.plan f ∷ claims_of s.plan [] heard) (claims_of s.plan [] heard) =
    claims_behind_those s.plan [] heard (f ∷ []) in
    elim (is_claim f) as (λ b. claims_of s.plan [] (heard ++ f ∷ []) ≡ cond b (heard_of s.plan f ∷ claims_of s.plan [] heard) (claims_of s.plan [] heard)
    → AreClaimsOf s (cond b (with_claim (heard_of s.plan f) claims) claims) (heard ++ f ∷ [])) [
      | true ↦ λ e. record {
        newest_are = λ u. both_newest u (heard_of s.plan f) claims.all (claims_of s.plan [] heard) (are.newest_are u) ∙ ap (newest_of u) (sym e);
        older = are.older;
        recent_are = ap (λ (l : List Heard). heard_of s.plan f ∷ l) are.recent_are;
      }
      | false ↦ λ e. record { newest_are = λ u. are.newest_are u ∙ ap (newest_of u) (sym e); older = are.older; recent_are = are.recent_are }
    ] behind
  where
    both_newest : (u : ℕ) (h : Heard) (xs ys : List Heard) → newest_of u xs ≡ newest_of u ys → newest_of u (h ∷ xs) ≡ newest_of u (h ∷ ys)
    both_newest u h xs ys same = ap (λ (o : Option ℕ). cond (is_at h.unit u) (Some h.source) o) same

-- with a frame that is heard again, of which the claim, if it is one, is the newest
again_claims : (s : Settings) (claims : HeardClaims) (heard : List Frame) (f : Frame) → AreClaimsOf s claims heard
    → (is_claim f ≡ true → (rest : List Heard) × (claims.all ≡ heard_of s.plan f ∷ rest)) → AreClaimsOf s claims (heard ++ f ∷ [])
unfolding newest_of
again_claims s claims heard f are newest =
    let behind : claims_of s.plan [] (heard ++ f ∷ []) ≡ cond (is_claim f) (heard_of s.plan f ∷ claims_of s.plan [] heard) (claims_of s.plan [] heard) =
    claims_behind_those s.plan [] heard (f ∷ []) in
    record {
      newest_are = λ u. elim (cases_Bool (is_claim f)) [
        | inl claim ↦
            let (rest, at) = newest claim in
            let row : claims_of s.plan [] (heard ++ f ∷ []) ≡ heard_of s.plan f ∷ claims_of s.plan [] heard = behind ∙ cond-true (is_claim f) _ _ claim in
            once_more u (heard_of s.plan f) rest claims.all (claims_of s.plan [] heard) at (are.newest_are u) ∙ ap (newest_of u) (sym row)
        | inr other ↦ are.newest_are u ∙ ap (newest_of u) (sym (behind ∙ cond-false (is_claim f) _ _ other))
      ];
      older = are.older;
      recent_are = are.recent_are;
    }
  where
    once_more : (u : ℕ) (h : Heard) (rest xs ys : List Heard) → xs ≡ h ∷ rest → newest_of u xs ≡ newest_of u ys → newest_of u xs ≡ newest_of u (h ∷ ys)
    once_more u h rest xs ys row same =
        elim (is_at h.unit u) as (λ b. is_at h.unit u ≡ b → newest_of u xs ≡ cond b (Some h.source) (newest_of u ys)) [
          | true ↦ λ e. ap (newest_of u) row ∙ cond-true (is_at h.unit u) (Some h.source) (newest_of u rest) e
          | false ↦ λ e. same
        ] refl

abbrev pub IsNewestClaim : Settings → HeardClaims → Frame → Type 0
IsNewestClaim s claims f = is_claim f ≡ true → (rest : List Heard) × (claims.all ≡ heard_of s.plan f ∷ rest)

-- behind some lines these frames were read, and those are still to be read of the rest
pub record AreRead (s : Settings) (past : AuditPast) (rest : List Line) (frames : List Frame) : Type 0 where
  pub heard : List Frame
  pub left : List Frame
  pub row : frames ≡ heard ++ left
  pub claims_are : AreClaimsOf s past.claims heard
  -- the claim of the frame before, if it is one, is the newest
  pub newest : (one : TakenFrame) → past.taken ≡ Some one → IsNewestClaim s past.claims one.frame
  pub reads : AreReadAs past.interface rest left

same_read : (s : Settings) (past next : AuditPast) (rest : List Line) (frames : List Frame) (r : AreRead s past rest frames) (more : List Line)
    → next.claims ≡ past.claims → next.interface ≡ past.interface → (next.taken ≡ None) ⊎ (next.taken ≡ past.taken)
    → AreReadAs past.interface more r.left → AreRead s next more frames
same_read s past next rest frames r more claims interface taken reads = record {
  heard = r.heard;
  left = r.left;
  row = r.row;
  claims_are = subst (λ (c : HeardClaims). AreClaimsOf s c r.heard) (sym claims) r.claims_are;
  newest = λ one is. elim taken [
    | inl none ↦ absurd (none-some one (sym none ∙ is))
    | inr same ↦ subst (λ (c : HeardClaims). IsNewestClaim s c one.frame) (sym claims) (r.newest one (sym same ∙ is))
  ];
  reads = subst (λ (i : Option (List ℕ)). AreReadAs i more r.left) (sym interface) reads;
}

passed_claims : (s : Settings) (e : LineError) (past : AuditPast) → ((passed_by s e past).claims ≡ past.claims)
    × ((passed_by s e past).interface ≡ past.interface)
    × (((passed_by s e past).taken ≡ None) ⊎ ((passed_by s e past).taken ≡ past.taken))
passed_claims s Empty past = (refl, refl, inr refl)
passed_claims s NoHash past = (refl, refl, inl refl)
passed_claims s ShortIdent past = (refl, refl, inl refl)
passed_claims s BadIdent past = (refl, refl, inl refl)
passed_claims s TooLong past = (refl, refl, inl refl)
passed_claims s BadData past = (refl, refl, inl refl)

-- a frame that stands there again leaves the claims, the one before it, and that line's interface
record IsAgainRead (past next : AuditPast) (named : Option (List ℕ)) : Type 0 where
  all : next.claims.all ≡ past.claims.all
  recent : next.claims.recent ≡ past.claims.recent
  interface : next.interface ≡ interface_behind past.interface named
  taken : next.taken ≡ past.taken

again_read : (s : Settings) (past : AuditPast) (time : Option ℕ) (named : Option (List ℕ)) → IsAgainRead past (past_with_again s time named past) named
unfolding past_again
again_read s past time named =
    let same = of_taken past.taken time in
    record { all = same.0; recent = same.1; interface = refl; taken = same.2 }
  where
    of_taken : (taken : Option TakenFrame) (time : Option ℕ) → ((past_again s taken time past).claims.all ≡ past.claims.all)
        × ((past_again s taken time past).claims.recent ≡ past.claims.recent) × ((past_again s taken time past).taken ≡ past.taken)
    of_taken None time = (refl, refl, refl)
    of_taken (Some one) None = (refl, refl, refl)
    of_taken (Some one) (Some τ) = (refl, refl, refl)

-- it is the one before
same_as_before : (plan : Plan) (taken : Option TakenFrame) (time : Option ℕ) (f : Frame) → is_again plan taken time f ≡ true
    → (one : TakenFrame) × (taken ≡ Some one) × (one.frame ≡ f)
unfolding is_again
same_as_before plan None time f is = absurd (true≢false (sym is))
same_as_before plan (Some one) None f is = absurd (true≢false (sym is))
same_as_before plan (Some one) (Some τ) f is =
    elim (plan.timing) as (λ o. option_map_or (λ (t : Timing). is_again_behind t one τ f) o false ≡ true → (other : TakenFrame) × (Some one ≡ Some other)
    × (other.frame ≡ f)) [
      | None ↦ λ e. absurd (true≢false (sym e))
      | Some t ↦ λ e.
          let same = (and_parts (is_same_frame one.frame f) (is_too_soon t f one.time τ) e).0 in
          let parts = and_parts (bits one.frame.ident == bits f.ident) (bytes_eq one.frame.payload.items f.payload.items) same in (
            one,
            refl,
            same_frame one.frame f (eqb-true (bits one.frame.ident) (bits f.ident) parts.0)
                ((bytes_eq-Decides one.frame.payload.items f.payload.items).0 parts.1),
          )
    ] is

-- what was asked for is no claim
same_claims : (s : Settings) (old new : HeardClaims) (heard : List Frame) → new.all ≡ old.all → new.recent ≡ old.recent → AreClaimsOf s old heard
    → AreClaimsOf s new heard
same_claims s old new heard all recent are = record {
  newest_are = λ u. ap (newest_of u) all ∙ are.newest_are u;
  older = are.older;
  recent_are = all ∙ are.recent_are ∙ sym (ap (λ (l : List Heard). l ++ are.older) recent);
}

still_newest : (s : Settings) (old new : HeardClaims) (f : Frame) → new.all ≡ old.all → IsNewestClaim s old f → IsNewestClaim s new f
still_newest s old new f all is claim = (let (rest, row) = is claim in (rest, all ∙ row))

frame_claims : (s : Settings) (past : AuditPast) (time : Option ℕ) (named : Option (List ℕ)) (f : Frame) (packet : Option Packet)
    → ((past_with_frame s past time named f packet).claims.all ≡ (claims_behind s f (claims_before s past time)).all)
    × ((past_with_frame s past time named f packet).claims.recent ≡ (claims_behind s f (claims_before s past time)).recent)
    × ((past_with_frame s past time named f packet).interface ≡ interface_behind past.interface named)
unfolding past_with_frame
frame_claims s past time named f packet = (refl, refl, refl)

taken_of : (time : Option ℕ) (f : Frame) (line : ℕ) (w : Sighting) (one : TakenFrame) → taken_frame time f line w ≡ Some one → one.frame ≡ f
taken_of None f line w one is = absurd (none-some one is)
taken_of (Some τ) f line w one is = sym (ap (λ (x : TakenFrame). x.frame) (same_Some _ one is))

pub read_more : (s : Settings) (past : AuditPast) (line : Line) (next : AuditPast) (more : List Line) (frames : List Frame) → AuditsLine s past line next
    → AreRead s past (line ∷ more) frames → AreRead s next more frames
read_more s past Long next more frames e r =
    same_read s past next (Long ∷ more) frames r more (ap (λ (p : AuditPast). p.claims) e) (ap (λ (p : AuditPast). p.interface) e)
    (inl (ap (λ (p : AuditPast). p.taken) e)) r.reads
read_more s past (ShortLine l) next more frames (part, named, part_is, named_is, inl (there, e)) r =
    same_read s past next (ShortLine l ∷ more) frames r more (ap (λ (p : AuditPast). p.claims) e) (ap (λ (p : AuditPast). p.interface) e)
    (inr (ap (λ (p : AuditPast). p.taken) e))
    (elsewhere_on past.interface part named more r.left there (reads_on past.interface l part named more r.left part_is named_is r.reads))
read_more s past (ShortLine l) next more frames (part, named, part_is, named_is, inr (here, inr (fault, has, e))) r =
    let same = passed_claims s fault (with_next_number past) in
    same_read s past next (ShortLine l ∷ more) frames r more (ap (λ (p : AuditPast). p.claims) e ∙ same.0) (ap (λ (p : AuditPast). p.interface) e ∙ same.1)
    (elim (same.2) [
      | inl none ↦ inl (ap (λ (p : AuditPast). p.taken) e ∙ none)
      | inr stays ↦ inr (ap (λ (p : AuditPast). p.taken) e ∙ stays)
    ])
    (passed_on past.interface part named more r.left fault here has (reads_on past.interface l part named more r.left part_is named_is r.reads))
read_more s past (ShortLine l) next more frames (part, named, part_is, named_is, inr (here, inl (f, time, spelled, text, inl (again, e)))) r =
    let begun : AuditPast = with_next_number past in
    let t : Option ℕ = line_time s.plan time in
    let (left, row, reads) = next_frame past.interface part named more r.left f here spelled
    (reads_on past.interface l part named more r.left part_is named_is r.reads) in
    let kept = again_read s begun t named in
    let (one, taken, same) = same_as_before s.plan past.taken t f again in
    let all : next.claims.all ≡ past.claims.all = ap (λ (p : AuditPast). p.claims.all) e ∙ kept.all in
    let recent : next.claims.recent ≡ past.claims.recent = ap (λ (p : AuditPast). p.claims.recent) e ∙ kept.recent in
    let interface : next.interface ≡ interface_behind past.interface named = ap (λ (p : AuditPast). p.interface) e ∙ kept.interface in
    let newest : IsNewestClaim s past.claims f = subst (IsNewestClaim s past.claims) same (r.newest one taken) in
    record {
      heard = r.heard ++ f ∷ [];
      left = left;
      row = r.row ∙ ap (λ (x : List Frame). r.heard ++ x) row ∙ sym (append_assoc r.heard (f ∷ []) left);
      claims_are = same_claims s past.claims next.claims (r.heard ++ f ∷ []) all recent (again_claims s past.claims r.heard f r.claims_are newest);
      newest = λ other is. still_newest s past.claims next.claims other.frame all
          (r.newest other (sym (ap (λ (p : AuditPast). p.taken) e ∙ kept.taken) ∙ is));
      reads = subst (λ (i : Option (List ℕ)). AreReadAs i more left) (sym interface) reads;
    }
read_more s past (ShortLine l) next more frames (
  part,
  named,
  part_is,
  named_is,
  inr (here, inl (f, time, spelled, text, inr (new, (packet, packet_is, e)))),
) r =
    let begun : AuditPast = with_next_number past in
    let t : Option ℕ = line_time s.plan time in
    let (left, row, reads) = next_frame past.interface part named more r.left f here spelled
    (reads_on past.interface l part named more r.left part_is named_is r.reads) in
    let same = frame_claims s begun t named f packet in
    let behind : HeardClaims = claims_behind s f (claims_before s begun t) in
    let all : next.claims.all ≡ behind.all = ap (λ (p : AuditPast). p.claims.all) e ∙ same.0 in
    let recent : next.claims.recent ≡ behind.recent = ap (λ (p : AuditPast). p.claims.recent) e ∙ same.1 in
    let interface : next.interface ≡ interface_behind past.interface named = ap (λ (p : AuditPast). p.interface) e ∙ same.2 in
    let unbroken : HeardClaims = broken_off (breaks s.stamps past.newest t) past.claims in
    let before : AreClaimsOf s (claims_before s begun t) r.heard = same_claims s unbroken (claims_before s begun t) r.heard refl refl
    (break_claims s past.claims r.heard (breaks s.stamps past.newest t) r.claims_are) in
    record {
      heard = r.heard ++ f ∷ [];
      left = left;
      row = r.row ∙ ap (λ (x : List Frame). r.heard ++ x) row ∙ sym (append_assoc r.heard (f ∷ []) left);
      claims_are = same_claims s behind next.claims (r.heard ++ f ∷ []) all recent (more_claims s (claims_before s begun t) r.heard f before);
      newest = λ one is.
          let w = sighted_behind nothing_sighted (noted_newly s begun t f packet) in
          let its : one.frame ≡ f = taken_of t f begun.number w one (sym (ap (λ (p : AuditPast). p.taken) e ∙ taken_with s begun t named f packet) ∙ is) in
          subst (λ (g : Frame). IsNewestClaim s next.claims g) (sym its)
          (still_newest s behind next.claims f all (λ claim. (
            (claims_before s begun t).all,
            ap (λ (c : HeardClaims). c.all)
                (cond-true (is_claim f) (with_claim (heard_of s.plan f) (claims_before s begun t)) (claims_before s begun t) claim),
          )));
      reads = subst (λ (i : Option (List ℕ)). AreReadAs i more left) (sym interface) reads;
    }

all_read : (s : Settings) (past : AuditPast) (before : List Line) (end : AuditPast) (more : List Line) (frames : List Frame) → AuditsLines s past before end
    → AreRead s past (before ++ more) frames → AreRead s end more frames
all_read s past [] end more frames e r = subst (λ (p : AuditPast). AreRead s p more frames) (sym e) r
all_read s past (line ∷ before) end more frames (next, takes, rest) r =
    all_read s next before end more frames rest (read_more s past line next (before ++ more) frames takes r)

-- ---- at a frame

module _ (s : Settings) (log : List Line) (frames : List Frame) (reads : AreReadAs None log frames) where
  at_line : (number : ℕ) (past : AuditPast) (line : Line) (is : IsLineOf s log number past line) → AreRead s past (line ∷ is.behind) frames
  at_line number past line is =
      let start : AreRead s nothing_read log frames =
      record {
        heard = [];
        left = frames;
        row = refl;
        claims_are = record { newest_are = λ u. refl; older = []; recent_are = refl };
        newest = λ one is. absurd (none-some one is);
        reads = reads;
      } in
      let r = all_read s nothing_read is.before is.just (line ∷ is.behind) frames is.read
      (subst (λ (l : List Line). AreRead s nothing_read l frames) is.row start) in
      same_read s is.just past (line ∷ is.behind) frames r (line ∷ is.behind) (ap (λ (p : AuditPast). p.claims) is.past_is)
      (ap (λ (p : AuditPast). p.interface) is.past_is) (inr (ap (λ (p : AuditPast). p.taken) is.past_is)) r.reads

  -- the frame is one of them, and the claims before it are those of the ones before it
  pub record IsOneOfThem (claims : HeardClaims) (f : Frame) : Type 0 where
    pub heard : List Frame
    pub behind : List Frame
    pub row : frames ≡ heard ++ f ∷ behind
    pub claims_are : AreClaimsOf s claims heard

  pub one_of_them : (number : ℕ) (claims : HeardClaims) (f : Frame) (packet : Option Packet) → IsFrameAt s log number claims f packet
      → IsOneOfThem claims f
  one_of_them number claims f packet at =
      let r = at_line number at.past (ShortLine at.line) at.line_is in
      let (left, row, rest) = next_frame at.past.interface at.part at.named at.line_is.behind r.left f at.reads.here at.spelled
      (reads_on at.past.interface at.line at.part at.named at.line_is.behind r.left at.reads.part_is at.reads.named_is r.reads) in
      record {
        heard = r.heard;
        behind = left;
        row = r.row ∙ ap (λ (x : List Frame). r.heard ++ x) row;
        claims_are = subst (λ (c : HeardClaims). AreClaimsOf s c r.heard) (sym at.claims_are)
            (same_claims s (broken_off (breaks s.stamps at.past.newest (line_time s.plan at.time)) at.past.claims)
            (claims_before s at.past (line_time s.plan at.time)) r.heard refl refl
            (break_claims s at.past.claims r.heard (breaks s.stamps at.past.newest (line_time s.plan at.time)) r.claims_are));
      }

  pub no_short : (number : ℕ) → ¬ IsShortAt s log number
  no_short number at =
      let r = at_line number at.past (ShortLine at.line) at.line_is in
      never_short at.past.interface at.part at.named at.line_is.behind r.left at.reads.here at.short
      (reads_on at.past.interface at.line at.part at.named at.line_is.behind r.left at.reads.part_is at.reads.named_is r.reads)
