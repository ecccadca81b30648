-- What `follow` and `read` see in one log, line after line.
use Rattle.std.proofs.Common.{◌≡◌, ◌+◌, ◌≤◌, ℕ, Bool, List, [], ◌∷◌, ◌++◌, Option, inl, inr, refl, sym, ap, subst, ◌∙◌, arith}
use Rattle.std.specs.List.{All}
use Rattle.std.proofs.lemmas.List.Elements.{All-head, All-tail}
use Rattle.j39_id.proofs.LineLaws.{not_both, one_fault, one_spelled}
use Rattle.j39_id.specs.FrameLine.{HasLineFault, Spells}
use Rattle.j39_id.specs.Lines.{Line, Short, Long, lines}
use Rattle.j39_id.specs.declared.frame.Frame.{Frame}
use Rattle.j39_id.specs.declared.line_error.LineError.{LineError}
use Rattle.j39_id.specs.declared.line_error.LineError.TheVariants.{Empty, NoHash, ShortIdent, BadIdent, TooLong, BadData}
use Rattle.j39_network.specs.declared.plan.Plan.{Plan}
use Rattle.j39_log.specs.ReadText.{Past, ReadsLine, ReadsLines, nothing_yet, passed_over}
use Rattle.j39_follow.specs.Alike.{FollowAndReadSeeAlike, IsUndirected, SawAlike}
use Rattle.j39_follow.specs.FollowText.{FollowedPast, FollowsLine, FollowsLines, FollowsPart, frames_seen, line_passed_over, nothing_followed, one_line_more}
use Rattle.j39_follow.specs.LogLines.{IsReadPart}
use Rattle.j39_follow.proofs.Addresses.Heard.{frames_more}

-- ---- lines elsewhere

same_elsewhere : (e : LineError) (past : FollowedPast) → (line_passed_over e past).elsewhere ≡ past.elsewhere
same_elsewhere Empty past = refl
same_elsewhere NoHash past = refl
same_elsewhere ShortIdent past = refl
same_elsewhere BadIdent past = refl
same_elsewhere TooLong past = refl
same_elsewhere BadData past = refl

part_stays : (plan : Plan) (all_frames : Bool) (past : FollowedPast) (line part : List ℕ) (named : Option (List ℕ)) (next : FollowedPast) (text : List ℕ)
    → FollowsPart plan all_frames past line part named next text → next.elsewhere ≡ past.elsewhere
part_stays plan all_frames past line part named next text (inl frame) = ap (λ (p : FollowedPast). p.elsewhere) frame.4.next_is
part_stays plan all_frames past line part named next text (inr fault) = ap (λ (p : FollowedPast). p.elsewhere) fault.2 ∙ same_elsewhere fault.0 past

pub line_grows : (plan : Plan) (all_frames : Bool) (past : FollowedPast) (line : Line) (next : FollowedPast) (text : List ℕ)
    → FollowsLine plan all_frames past line next text
    → past.elsewhere ≤ next.elsewhere
line_grows plan all_frames past (Short line) next text follows = elim follows.4 [
  | inl away ↦ (let e = ap (λ (p : FollowedPast). p.elsewhere) away.1 in omega (arith, e))
  | inr here ↦ (let e = part_stays plan all_frames (one_line_more past) line follows.0 follows.1 next text here.1 in omega (arith, e))
]
line_grows plan all_frames past Long next text follows = let e = ap (λ (p : FollowedPast). p.elsewhere) follows.0 in omega (arith, e)

pub lines_grow : (plan : Plan) (all_frames : Bool) (past : FollowedPast) (log : List Line) (end : FollowedPast) (text : List ℕ)
    → FollowsLines plan all_frames past log end text
    → past.elsewhere ≤ end.elsewhere
lines_grow plan all_frames past [] end text follows = let e = ap (λ (p : FollowedPast). p.elsewhere) follows.0 in omega (arith, e)
lines_grow plan all_frames past (line ∷ log) end text follows =
    let first = line_grows plan all_frames past line follows.0 follows.1 follows.3 in
    let rest = lines_grow plan all_frames follows.0 log end follows.2 follows.4 in
    omega (arith, first, rest)

-- ---- a line

passed_alike : (e : LineError) (past : FollowedPast) (read : Past) → SawAlike past read → SawAlike (line_passed_over e past) (passed_over e read)
passed_alike Empty past read a = a
passed_alike ShortIdent past read a = record { frames = a.frames; skipped = ap (λ (n : ℕ). n + 1) a.skipped; bad = a.bad }
passed_alike NoHash past read a = record { frames = a.frames; skipped = a.skipped; bad = ap (λ (n : ℕ). n + 1) a.bad }
passed_alike BadIdent past read a = record { frames = a.frames; skipped = a.skipped; bad = ap (λ (n : ℕ). n + 1) a.bad }
passed_alike TooLong past read a = record { frames = a.frames; skipped = a.skipped; bad = ap (λ (n : ℕ). n + 1) a.bad }
passed_alike BadData past read a = record { frames = a.frames; skipped = a.skipped; bad = ap (λ (n : ℕ). n + 1) a.bad }

pub whole_part : (line part : List ℕ) → IsUndirected (Short line) → IsReadPart line part → part ≡ line
whole_part line part undirected (inl ends) = absurd (undirected part ends)
whole_part line part undirected (inr whole) = whole.1

read_alike : (plan : Plan) (all_frames : Bool) (past : FollowedPast) (read : Past) (line part : List ℕ) (named : Option (List ℕ)) (next : FollowedPast)
    (other : Past)
    (t u : List ℕ) → part ≡ line → SawAlike past read → FollowsPart plan all_frames past line part named next t → ReadsLine plan read (Short line) other u
    → SawAlike next other
read_alike plan all_frames past read line part named next other t u whole a (inl f) (inl g) =
    let same : f.0 ≡ g.0 = one_spelled line f.0 g.0 (subst (λ (p : List ℕ). Spells p f.0) whole f.2) g.1 in
    let step = f.4.next_is in
    let ends = g.2.3 in record {
      frames =
          ap (λ (p : FollowedPast). frames_seen p.seen) step
          ∙ frames_more past.seen (record { frame = f.0; packet = f.4.packet })
          ∙ ap (λ (fs : List Frame). fs ++ f.0 ∷ []) a.frames ∙ ap (λ (x : Frame). frames_seen read.seen ++ x ∷ []) same
          ∙ sym (ap (λ (p : Past). frames_seen p.seen) ends ∙ frames_more read.seen (record { frame = g.0; packet = g.2.0 }));
      skipped = ap (λ (p : FollowedPast). p.skipped) step ∙ a.skipped ∙ sym (ap (λ (p : Past). p.skipped) ends);
      bad = ap (λ (p : FollowedPast). p.bad) step ∙ a.bad ∙ sym (ap (λ (p : Past). p.bad) ends);
    }
read_alike plan all_frames past read line part named next other t u whole a (inl f) (inr g) =
    absurd (not_both line f.0 g.0 (subst (λ (p : List ℕ). Spells p f.0) whole f.2) g.1)
read_alike plan all_frames past read line part named next other t u whole a (inr f) (inl g) =
    absurd (not_both line g.0 f.0 g.1 (subst (λ (p : List ℕ). HasLineFault p f.0) whole f.1))
read_alike plan all_frames past read line part named next other t u whole a (inr f) (inr g) =
    let same : f.0 ≡ g.0 = one_fault line f.0 g.0 (subst (λ (p : List ℕ). HasLineFault p f.0) whole f.1) g.1 in
    subst (λ (p : FollowedPast). SawAlike p other) (sym f.2)
    (subst (λ (p : Past). SawAlike (line_passed_over f.0 past) p) (sym (g.2 ∙ ap (λ (e : LineError). passed_over e read) (sym same)))
    (passed_alike f.0 past read a))

line_alike : (plan : Plan) (all_frames : Bool) (past : FollowedPast) (read : Past) (line : Line) (next : FollowedPast) (other : Past) (t u : List ℕ)
    → SawAlike past read → IsUndirected line → FollowsLine plan all_frames past line next t → next.elsewhere ≡ past.elsewhere
    → ReadsLine plan read line other u → SawAlike next other
line_alike plan all_frames past read (Short line) next other t u a undirected follows stays reads = elim follows.4 [
  | inl away ↦ (let e = ap (λ (p : FollowedPast). p.elsewhere) away.1 in absurd (omega (arith, e, stays)))
  | inr here ↦
      read_alike plan all_frames (one_line_more past) read line follows.0 follows.1 next other t u (whole_part line follows.0 undirected follows.2)
      (record { frames = a.frames; skipped = a.skipped; bad = a.bad }) here.1 reads
]
line_alike plan all_frames past read Long next other t u a undirected follows stays reads =
    let step = follows.0 in
    let ends = reads.0 in record {
      frames = ap (λ (p : FollowedPast). frames_seen p.seen) step ∙ a.frames ∙ sym (ap (λ (p : Past). frames_seen p.seen) ends);
      skipped = ap (λ (p : FollowedPast). p.skipped) step ∙ a.skipped ∙ sym (ap (λ (p : Past). p.skipped) ends);
      bad = ap (λ (p : FollowedPast). p.bad) step ∙ ap (λ (n : ℕ). n + 1) a.bad ∙ sym (ap (λ (p : Past). p.bad) ends);
    }

-- ---- all lines

lines_alike : (plan : Plan) (all_frames : Bool) (log : List Line) (past : FollowedPast) (read : Past) (end : FollowedPast) (other : Past) (t u : List ℕ)
    → SawAlike past read → All IsUndirected log → FollowsLines plan all_frames past log end t → end.elsewhere ≡ past.elsewhere
    → ReadsLines plan read log other u → SawAlike end other
lines_alike plan all_frames [] past read end other t u a undirected follows stays reads =
    subst (λ (p : FollowedPast). SawAlike p other) (sym follows.0) (subst (λ (p : Past). SawAlike past p) (sym reads.0) a)
lines_alike plan all_frames (line ∷ log) past read end other t u a undirected follows stays reads =
    let first = line_grows plan all_frames past line follows.0 follows.1 follows.3 in
    let rest = lines_grow plan all_frames follows.0 log end follows.2 follows.4 in
    let here : follows.0.elsewhere ≡ past.elsewhere = omega (arith, first, rest, stays) in
    let behind : end.elsewhere ≡ follows.0.elsewhere = omega (arith, first, rest, stays) in
    lines_alike plan all_frames log follows.0 reads.0 end other follows.2 reads.2
    (line_alike plan all_frames past read line follows.0 reads.0 follows.1 reads.1 a (All-head IsUndirected line log undirected) follows.3 here reads.3)
    (All-tail IsUndirected line log undirected) follows.4 behind reads.4

pub see_alike : FollowAndReadSeeAlike
see_alike plan all_frames log followed read reports texts undirected follows none reads =
    lines_alike plan all_frames (lines log) nothing_followed nothing_yet followed read reports texts
    (record { frames = refl; skipped = refl; bad = refl }) undirected follows none reads
