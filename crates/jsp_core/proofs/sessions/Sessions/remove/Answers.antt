use Rattle.std.proofs.Common.{not, eqb, sym, ◌∙◌, subst}
use Rattle.std.proofs.lemmas.Bool.{false≢true}
use Rattle.jsp_model.specs.declared.state.Session.{Session}
use Rattle.jsp_core.specs.Numbering.{AreRising}
use Rattle.jsp_core.proofs.ByNumber.{rise_left}
use Rattle.jsp_core.proofs.sessions.Sessions.remove.Goals as goal
use Rattle.jsp_core.proofs.sessions.Sessions.remove.Goals.{then-self, else-self}

pub invariant_of-self : goal.invariant_of-self
invariant_of-self c = elim c.if-self.branch [
  | then-self w ↦ rw w.self-inside-is (λ up.
      let rising = subst AreRising (sym c.list.view_is) (c.self.invariant up) in
      subst AreRising (sym w.drop_found.ensures) (rise_left (λ (k : Session). k.number) (λ (k : Session). not (eqb k.number c.args.number)) c.list.inside.items.items rising))
  | else-self w ↦ rw w.self-inside-is (λ up. absurd (false≢true (sym w.if-self.false ∙ up)))
]
