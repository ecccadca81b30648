use Rattle.std.proofs.Common.{◌≡◌, ◌+◌, ◌-◌, ◌*◌, ℕ, List, length, take, ap, ◌∙◌, refl, arith}
use Rattle.j39_id.specs.Ident.{bits}
use Rattle.j39_follow.proofs.Lines.Splitting.{ends_at, frame_word, front_is}
use Rattle.j39_follow.proofs.line.words.before_frame.Goals as goal

pub slice_bounds-result-count : goal.slice_bounds-result-count
slice_bounds-result-count c =
    let line : List ℕ = c.args.line.now in
    let f = c.args.frame.now in
    let x = c.requires in
    let end = c.words_end.ensures in
    let size = frame_word line (bits f.ident) f.payload.items x in
    let count = c.len.ensures.value in
    let whole = ends_at line x.1.front x.0 c.words_end.result (x.1, refl) end.within end.blank end.ends in
    omega (arith, size, count, whole)

pub returns : goal.returns
returns c =
    let line : List ℕ = c.args.line.now in
    let f = c.args.frame.now in
    let x = c.requires in
    let end = c.words_end.ensures in
    let size = frame_word line (bits f.ident) f.payload.items x in
    let count = c.len.ensures.value in
    let whole = ends_at line x.1.front x.0 c.words_end.result (x.1, refl) end.within end.blank end.ends in
    let before : length x.1.front ≡ c.words_end.result - (9 + 2 * c.len.result) = omega (arith, size, count, whole) in
    (x.0, (x.1, front_is line x.1.front x.0 (x.1, refl) ∙ ap (λ (n : ℕ). take n line) before))
