use Rattle.std.proofs.Common.{◌≡◌, ◌<◌, ◌+◌, ◌*◌, ◌&&◌, ℕ, Bool, Option, Some, None, false, Vec, Global, length, slice_index_or, sym, ap, subst, ◌∙◌, arith}
use Rattle.std.proofs.Common.{inl, inr}
use Rattle.std.specs.Prelude.{nat_lt}
use Rattle.std.proofs.lemmas.Bool.{cases_eq}
use Rattle.j39_audit.specs.Claiming.{smaller_name, with_claim}
use Rattle.j39_audit.specs.Settings.{moves}
use Rattle.j39_audit.specs.inside.Recalling.{KnowsClaims, last_in, least_in, settings_of, taken_in}
use Rattle.j39_audit.specs.declared.requests.HeardRequests.{HeardRequests}
use Rattle.j39_audit.proofs.Knowing.{claimed_more, claimed_same, heard_here, heard_least, heard_none, heard_other, taken_here, taken_other, still_requested}
use Rattle.j39_audit.proofs.known.Known.hear.Goals as goal

pub returns-in-Some : goal.returns-in-Some
returns-in-Some c = λ claims knows.
    let s = settings_of c.args.basis.now in
    let v = c.in-Some.unit in
    let source = c.args.source in
    let name = c.args.name in
    let named = c.note_name.ensures in
    let last_new = c.note_unit.new.self in
    let reported_in = c.note_unit.ensures in
    let claimed = c.note_claimed.ensures in
    let new = c.note_claimed.new.self in
    let unit = rw c.in-Some.is at c.requires in
    let size = knows.last_size in
    let inside : v < length c.note_name.new.self.last.items =
    (let same = ap (λ (t : Vec (Option ℕ) Global). length t.items) named.last in omega (arith, unit, size, same)) in
    let below : source < 256 = omega arith in
    let row = knows.claimed_size in
    let rows = ap (λ (t : Vec Bool Global). length t.items) (reported_in.claimed ∙ named.claimed) in
    let was = λ (u : ℕ). ap (λ (t : Vec (Option ℕ) Global). slice_index_or t.items u None) named.last ∙ knows.last u in
    let least = claimed.least ∙ reported_in.least in
    let taken = claimed.taken ∙ reported_in.taken ∙ named.taken in
    subst (λ (u : Option ℕ). KnowsClaims s new (with_claim (record { unit = u; source = source; name = name }) claims)) (sym c.in-Some.is)
    (record {
      last_size = ap (λ (t : Vec (Option ℕ) Global). length t.items) claimed.last ∙ reported_in.size
          ∙ ap (λ (t : Vec (Option ℕ) Global). length t.items) named.last ∙ knows.last_size;
      taken_size = ap (λ (t : Vec Bool Global). length t.items) taken ∙ knows.taken_size;
      least_size = ap (λ (t : Vec (Option ℕ) Global). length t.items) least ∙ named.size ∙ knows.least_size;
      claimed_size = claimed.size ∙ rows ∙ knows.claimed_size;
      last = λ u. ap (λ (t : Vec (Option ℕ) Global). slice_index_or t.items u None) claimed.last ∙ elim (cases_eq v u) [
        | inl same ↦
            heard_here s.part (moves s u) u v source name claims.all claims.recent _ _ same (λ part. reported_in.none part u)
            (λ part. ap (last_in last_new) (sym same) ∙ reported_in.here part inside) (was u)
        | inr apart ↦ heard_other s.part (moves s u) u v source name claims.all claims.recent _ _ apart (reported_in.others u (λ e. apart (sym e))) (was u)
      ];
      taken = λ a. ap (λ (t : Vec Bool Global). slice_index_or t.items a false) taken ∙ knows.taken a;
      least = λ a. ap (λ (t : Vec (Option ℕ) Global). slice_index_or t.items a None) least
          ∙ heard_least source name a _ claims.all _ _ (λ apart. named.others a (λ e. apart (sym e)))
          (λ same. subst (λ (b : ℕ). least_in c.note_name.new.self b ≡ Some (smaller_name name (least_in c.args.self.now b))) same
          (named.here knows.least_size)) (knows.least a);
      claimed = λ u a. claimed_more u a v source name claims.all new.claimed.items c.args.self.now.claimed.items below (
        claimed.here unit (omega (arith, unit, below, row, rows)),
        λ i other. claimed.others i other ∙ ap (λ (t : Vec Bool Global). slice_index_or t.items i false) (reported_in.claimed ∙ named.claimed),
      )
          (knows.claimed u a);
      requests = still_requested c.args.self.now.requests new.requests claims.requests
          (claimed.requests ∙ reported_in.requests ∙ named.requests) knows.requests;
      time = ap (λ (r : HeardRequests). r.time) (claimed.requests ∙ reported_in.requests ∙ named.requests) ∙ knows.time;
    })

pub returns-in-None : goal.returns-in-None
returns-in-None c = λ claims knows.
    let s = settings_of c.args.basis.now in
    let source = c.args.source in
    let name = c.args.name in
    let named = c.note_name.ensures in
    let new = c.note_stranger.new.self in
    let old = c.note_name.new.self in
    let reported_in = c.note_stranger.ensures in
    let size : length old.taken.items ≡ 256 = ap (λ (t : Vec Bool Global). length t.items) named.taken ∙ knows.taken_size in
    let was = λ (a : ℕ). ap (λ (t : Vec Bool Global). slice_index_or t.items a false) named.taken ∙ knows.taken a in
    let last = reported_in.last ∙ named.last in
    let claimed = reported_in.claimed ∙ named.claimed in
    subst (λ (u : Option ℕ). KnowsClaims s new (with_claim (record { unit = u; source = source; name = name }) claims)) (sym c.in-None.is)
    (record {
      last_size = ap (λ (t : Vec (Option ℕ) Global). length t.items) last ∙ knows.last_size;
      taken_size = reported_in.size ∙ size;
      least_size = ap (λ (t : Vec (Option ℕ) Global). length t.items) reported_in.least ∙ named.size ∙ knows.least_size;
      claimed_size = ap (λ (t : Vec Bool Global). length t.items) claimed ∙ knows.claimed_size;
      last = λ u. heard_none s.part (moves s u) u source name claims.all claims.recent _ _
          (ap (λ (t : Vec (Option ℕ) Global). slice_index_or t.items u None) last) (knows.last u);
      taken = λ a. elim (cases_eq source a) [
        | inl same ↦
            taken_here source name a claims.all _ _ same
            (λ above. ap (taken_in new) (sym same) ∙ reported_in.null (omega (arith, above, same)) ∙ ap (taken_in old) same)
            (λ below. ap (taken_in new) (sym same) ∙ reported_in.here (omega (arith, below, same)) size) (was a)
        | inr apart ↦ taken_other source name a claims.all _ _ apart (reported_in.others a (λ e. apart (sym e))) (was a)
      ];
      least = λ a. ap (λ (t : Vec (Option ℕ) Global). slice_index_or t.items a None) reported_in.least
          ∙ heard_least source name a _ claims.all _ _ (λ apart. named.others a (λ e. apart (sym e)))
          (λ same. subst (λ (b : ℕ). least_in old b ≡ Some (smaller_name name (least_in c.args.self.now b))) same (named.here knows.least_size))
          (knows.least a);
      claimed = λ u a. claimed_same u a source name claims.all _
          (ap (λ (t : Vec Bool Global). nat_lt a 256 && slice_index_or t.items (u * 256 + a) false) claimed ∙ knows.claimed u a);
      requests = still_requested c.args.self.now.requests new.requests claims.requests (reported_in.requests ∙ named.requests) knows.requests;
      time = ap (λ (r : HeardRequests). r.time) (reported_in.requests ∙ named.requests) ∙ knows.time;
    })
