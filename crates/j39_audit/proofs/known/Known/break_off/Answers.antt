use Rattle.std.proofs.Common.{ℕ, ◌+◌, ◌*◌, ◌&&◌, Bool, Option, None, false, Vec, Global, length, slice_index_or, ap, ◌∙◌, arith, inl, inr}
use Rattle.std.specs.Prelude.{nat_lt}
use Rattle.std.proofs.lemmas.Bool.{cases_lt}
use Rattle.std.proofs.lemmas.List.{get_or_past}
use Rattle.j39_audit.specs.Settings.{moves}
use Rattle.j39_audit.specs.declared.requests.HeardRequests.{HeardRequests}
use Rattle.j39_audit.specs.inside.Recalling.{settings_of}
use Rattle.j39_audit.proofs.Knowing.{forgot, forgot_past, still_requested}
use Rattle.j39_audit.proofs.known.Known.break_off.Goals as goal

pub returns : goal.returns
returns c = λ claims knows.
    let s = settings_of c.args.basis.now in
    let old = c.args.self.now in
    let before = c.loop-unit.invariant in
    let done = c.loop-unit-test.false in
    let count = c.len-unit-end.ensures in
    let size = before.size in
    record {
      last_size = before.size ∙ knows.last_size;
      taken_size = ap (λ (t : Vec Bool Global). length t.items) before.taken ∙ knows.taken_size;
      least_size = ap (λ (t : Vec (Option ℕ) Global). length t.items) before.least ∙ knows.least_size;
      claimed_size = ap (λ (t : Vec Bool Global). length t.items) before.claimed ∙ knows.claimed_size;
      last = λ u. forgot s.part (moves s u) u claims.all claims.recent _ _
          (elim (cases_lt u c.loop-unit.unit) [
            | inl less ↦ before.before u less
            | inr past ↦ forgot_past (moves s u) _ _ (before.behind u past) (get_or_past old.last.items u None (omega (arith, past, done, count, size)))
          ]) (knows.last u);
      taken = λ a. ap (λ (t : Vec Bool Global). slice_index_or t.items a false) before.taken ∙ knows.taken a;
      least = λ a. ap (λ (t : Vec (Option ℕ) Global). slice_index_or t.items a None) before.least ∙ knows.least a;
      claimed = λ u a. ap (λ (t : Vec Bool Global). nat_lt a 256 && slice_index_or t.items (u * 256 + a) false) before.claimed ∙ knows.claimed u a;
      requests = still_requested old.requests _ claims.requests before.requests knows.requests;
      time = ap (λ (r : HeardRequests). r.time) before.requests ∙ knows.time;
    }
