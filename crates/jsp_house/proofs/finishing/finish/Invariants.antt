use Rattle.std.specs.Prelude.{◌≡◌, ◌+◌, option_map, option_copied, vec_len}
use Rattle.jsp_model.specs.House.{Goes}
use Rattle.jsp_quiet.specs.Quieting.{left_to_say, living}
use Rattle.jsp_house.specs.Making.{KeepsLog}
use Rattle.jsp_house.specs.Owing.{IsDone}
use Rattle.jsp_house.proofs.finishing.finish.Given as goal

abbrev pub invariant-steps : goal.invariant-steps
invariant-steps g l =
    Goes l.initial.image l.image l.initial.debt.items l.debt.items l.initial.log.items l.log.items
    × KeepsLog l.initial.image l.image l.bound l.initial.log l.log
    × (IsDone l.initial.image l.initial.debt.items (option_map g.T.Coming.step (option_copied l.to_come)) → (l.image ≡ l.initial.image) × (l.debt.items ≡ l.initial.debt.items) × (vec_len l.log ≡ vec_len l.initial.log))

abbrev pub decreases-steps : goal.decreases-steps
decreases-steps g l = left_to_say l.image + living l.image
