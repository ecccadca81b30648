use Rattle.std.proofs.Common.{sym, ◌∙◌}
use Rattle.std.proofs.lemmas.List.{take_rest}
use Rattle.j39_schedule.proofs.Splits.{no_words, word_at, last_word}
use Rattle.j39_schedule.proofs.line_words.next_word.Goals as goal

pub returns-in_default-clause-none : goal.returns-in_default-clause-none
returns-in_default-clause-none c = no_words c.args.line.now (sym c.word_start.ensures ∙ c.in_default.is)

pub returns-in-Some-word_end-clause-words : goal.returns-in-Some-word_end-clause-words
returns-in-Some-word_end-clause-words c =
    (word_at c.args.line.now _ c.in-Some.start (sym c.word_start.ensures ∙ c.in-Some.is) (take_rest c.args.line.now c.in-Some.start) c.in-Some-word_end.end
    (sym c.word_end.ensures ∙ c.in-Some-word_end.is)).0

pub returns-in-Some-word_end-clause-some : goal.returns-in-Some-word_end-clause-some
returns-in-Some-word_end-clause-some c =
    (word_at c.args.line.now _ c.in-Some.start (sym c.word_start.ensures ∙ c.in-Some.is) (take_rest c.args.line.now c.in-Some.start) c.in-Some-word_end.end
    (sym c.word_end.ensures ∙ c.in-Some-word_end.is)).1

pub returns-in-None-clause-words : goal.returns-in-None-clause-words
returns-in-None-clause-words c =
    (last_word c.args.line.now _ c.in-Some.start (sym c.word_start.ensures ∙ c.in-Some.is) (take_rest c.args.line.now c.in-Some.start)
    (sym c.word_end.ensures ∙ c.in-None.is)).0
