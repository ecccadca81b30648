use Rattle.std.proofs.Common.{sym, ◌∙◌}
use Rattle.std.proofs.lemmas.List.{take_rest}
use Rattle.std.proofs.lemmas.Bool.{false≢true}
use Rattle.j39_follow.proofs.Lines.WordPlaces.{front_parted, parted_front}
use Rattle.j39_follow.proofs.line.words.is_word_at.Goals as goal

pub returns-then-not-is_parted : goal.returns-then-not-is_parted
returns-then-not-is_parted c = (
  λ e. absurd (false≢true e),
  λ at. absurd (false≢true (sym c.if-not-is_parted.true ∙ c.is_parted.ensures.1 (parted_front c.args.line.now c.args.place c.requires at.begins))),
)

pub returns-then-not-begins_with : goal.returns-then-not-begins_with
returns-then-not-begins_with c =
    let unlike = rw take_rest at c.begins_with.ensures.not in
    (λ e. absurd (false≢true e), λ at. absurd (unlike c.if-not-begins_with.true at.there))

pub returns : goal.returns
returns c =
    let begins = rw take_rest at c.begins_with.ensures.begins in
    let ended = rw take_rest at c.is_ended.ensures in (
      λ e. record {
        begins = front_parted c.args.line.now c.args.place c.requires (c.is_parted.ensures.0 c.if-not-is_parted.false);
        there = begins c.if-not-begins_with.false;
        ends = ended.0 e;
      },
      λ at. ended.1 at.ends,
    )
