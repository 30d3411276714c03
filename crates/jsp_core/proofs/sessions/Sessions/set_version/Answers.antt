use Rattle.std.proofs.Common.{sym, ◌∙◌, subst}
use Rattle.std.proofs.lemmas.Bool.{false≢true}
use Rattle.jsp_core.specs.Numbering.{AreRising}
use Rattle.jsp_core.proofs.Searching.{all_rise}
use Rattle.jsp_core.proofs.sessions.Sessions.set_version.Goals as goal
use Rattle.jsp_core.proofs.sessions.Sessions.set_version.Goals.{then-self, else-self}

pub invariant_of-self : goal.invariant_of-self
invariant_of-self c = elim c.if-self.branch [
  | then-self w ↦ rw w.self-inside-is (λ up.
      let rising = subst AreRising (sym c.list.view_is) (c.self.invariant up) in
      subst AreRising (sym w.change_found.ensures) (all_rise c.list.inside.items.items c.args.number c.args.version rising))
  | else-self w ↦ rw w.self-inside-is (λ up. absurd (false≢true (sym w.if-self.false ∙ up)))
]
