use Rattle.j39_id.proofs.LastWord.{last_word_of_front, splits_at}
use Rattle.j39_id.proofs.last_word.split_last.Goals as goal

pub returns-clause-found : goal.returns-clause-found
returns-clause-found c =
    let start = c.word_start-start.ensures in
    let stop = c.words_end-stop in
    splits_at c.args.line.now c.word_start-start.result stop.result
    (last_word_of_front c.args.line.now c.word_start-start.result stop.result stop.ensures.within start.start start.word start.parted
    stop.ensures.blank)
