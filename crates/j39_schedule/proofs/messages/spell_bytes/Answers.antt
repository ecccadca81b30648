use Rattle.std.proofs.Common.{◌∙◌, sym, arith}
use Rattle.j39_schedule.proofs.HexDigits.{decodes}
use Rattle.j39_schedule.proofs.messages.spell_bytes.Goals as goal

pub returns-then-digits-eq0 : goal.returns-then-digits-eq0
returns-then-digits-eq0 c = c.are_hex_digits.ensures ∙ decodes c.args.digits.now (omega arith)
