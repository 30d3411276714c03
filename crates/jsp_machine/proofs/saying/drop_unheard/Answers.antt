use Rattle.std.proofs.Common.{rules}
use Rattle.std.proofs.lemmas.Fn.{filter_same}
use Rattle.jsp_machine.proofs.saying.drop_unheard.Goals as goal

pub returns : goal.returns
returns c = filter_same _ _ _ (λ x b f r. search rules) _ _ c.retain.ensures.filtered
