use Rattle.std.proofs.Common.{◌≡◌, ◌≤◌, ◌++◌, vec_len, vec_capacity}
use Rattle.jsp_outbox.proofs.queue.take_front.Given as goal

abbrev pub invariant-answers : goal.invariant-answers
invariant-answers l = record {
  whole : l.taken.items ++ l.answers.items ≡ l.initial.answers.items;
  count : vec_len l.taken ≡ l.counter;
  room : l.count ≤ vec_capacity l.taken;
}
