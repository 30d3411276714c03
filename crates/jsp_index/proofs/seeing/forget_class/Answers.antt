use Rattle.std.proofs.Common.{ℕ, List, sym, subst, rules}
use Rattle.std.proofs.lemmas.Fn.{filter_same}
use Rattle.jsp_index.specs.Seen.{IsAmong}
use Rattle.jsp_index.proofs.Classes.{among_left}
use Rattle.jsp_index.proofs.seeing.forget_class.Goals as goal

pub returns : goal.returns
returns c k other h = subst (λ (w : List (List ℕ)). IsAmong w k) (sym (filter_same _ _ _ (λ x b f r. search rules) _ _ c.retain.ensures.filtered)) (among_left c.args.class.now k c.args.classes.now.items other h)
