use Rattle.std.proofs.Common.{◌≡◌, ◌++◌, [], ◌∷◌, List, sym, subst, ◌∙◌, arith, rules}
use Rattle.std.proofs.lemmas.Grind.{common_steps}
use Rattle.jsp_model.specs.declared.state.Blocked.{Blocked}
use Rattle.jsp_table.specs.Finding.{AreNumbered}
use Rattle.jsp_wait.specs.Sessions.{AreOfSessions}
use Rattle.jsp_wait.proofs.Least.{number}
use Rattle.jsp_wait.proofs.Mapped.{comes}
use Rattle.jsp_wait.proofs.found.Found.push.Goals as goal

pub invariant_of-self-2 : goal.invariant_of-self-2
invariant_of-self-2 c =
    let xs = c.self.inside.requests in
    let b = c.args.request in
    let new = c.push.new.self in
    let made : new ≡ xs ++ b ∷ [] = first_of (search rules, grind (arith, common_steps)) in
    subst (λ (w : List Blocked). AreOfSessions c.add.new.sessions w) (sym made)
    (comes c.make_room.new.sessions c.add.new.sessions xs (λ s. c.make_room.ensures.same s ∙ c.self.invariant s) b (subst (AreNumbered number) made c.places.ensures.rising) c.add.ensures)
