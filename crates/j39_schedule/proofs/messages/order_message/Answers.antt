use Rattle.std.proofs.Common.{◌∙◌, sym}
use Rattle.j39_schedule.specs.inside.OrderWords.{message_order}
use Rattle.j39_schedule.specs.declared.order_word.MessageOrder.{MessageOrder}
use Rattle.j39_schedule.specs.declared.order_word.MessageOrder.TheVariants.{Begin, Send}
use Rattle.j39_schedule.proofs.HexDigits.{AreMessages, message_ordered}
use Rattle.j39_schedule.proofs.messages.order_message.Goals as goal

are_messages : (order : MessageOrder) → AreMessages (message_order order)
are_messages Begin flow bytes = tt
are_messages Send flow bytes = tt

pub returns-in-Err-OutOfMemory : goal.returns-in-Err-OutOfMemory
returns-in-Err-OutOfMemory c =
    message_ordered (message_order c.args.order)
    (are_messages c.args.order) c.args.plan.now c.args.number.now c.args.digits.now c.in-Some.number c.in-Some.ensures
    (sym c.spell_bytes.ensures ∙ c.if-spell_bytes.true)
