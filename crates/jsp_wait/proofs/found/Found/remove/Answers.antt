use Rattle.std.proofs.Common.{◌≡◌, List, not, option_map, ap, sym, subst}
use Rattle.std.specs.Prelude.{filter, ◌==◌}
use Rattle.jsp_model.specs.declared.state.Blocked.{Blocked}
use Rattle.jsp_keyed.proofs.Clearing.{none_clear}
use Rattle.jsp_wait.specs.Sessions.{AreOfSessions}
use Rattle.jsp_wait.proofs.Least.{number}
use Rattle.jsp_wait.proofs.Mapped.{goes}
use Rattle.jsp_wait.proofs.found.Found.remove.Goals as goal

pub invariant_of-self : goal.invariant_of-self
invariant_of-self c =
    let self = c.self.inside in
    let xs = self.requests in
    subst (λ (w : List Blocked). AreOfSessions c.drop_one.new.sessions w) (sym c.remove.ensures)
    (goes self.sessions c.drop_one.new.sessions xs c.self.invariant c.args.number c.in-Some.request.now c.places.ensures.rising (sym c.in-Some.ensures) c.drop_one.ensures)

pub returns-in_default : goal.returns-in_default
returns-in_default c =
    let kind = λ (b : Blocked). b.number == c.args.number in
    let xs = c.self.inside.requests in
    subst (λ (w : List Blocked). w ≡ filter (λ b. not (kind b)) w) c.self.view_is (sym (none_clear number kind xs (ap (option_map number) c.in_default.ensures)))
