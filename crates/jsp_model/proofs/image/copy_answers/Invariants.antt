use Rattle.std.proofs.Common.{◌≡◌, take}
use Rattle.jsp_model.proofs.image.copy_answers.Given as goal

abbrev pub invariant-loop-said : goal.invariant-loop-said
invariant-loop-said l = l.copies ≡ take l.said-index l.said-items
