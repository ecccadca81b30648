use Rattle.j39_line_witnesses.proofs.Earlier.{first_first, second_first}
use Rattle.j39_line_witnesses.proofs.order.earlier_of.Goals as goal

pub returns-then-is_earlier : goal.returns-then-is_earlier
returns-then-is_earlier c line some others one other =
    second_first line some others c.in-Some.first.items c.in-Some-other.second.items (rw c.in-Some.is at one) (rw c.in-Some-other.is at other)
    (rw (c.deref.ensures.value, c.deref-in-Some-other.ensures.value) at (c.is_earlier.ensures.so c.if-is_earlier.true))

pub returns-else-is_earlier : goal.returns-else-is_earlier
returns-else-is_earlier c line some others one other =
    first_first line some others c.in-Some.first.items c.in-Some-other.second.items (rw c.in-Some.is at one) (rw c.in-Some-other.is at other)
    (rw (c.deref.ensures.value, c.deref-in-Some-other.ensures.value) at (c.is_earlier.ensures.not_so c.if-is_earlier.false))
