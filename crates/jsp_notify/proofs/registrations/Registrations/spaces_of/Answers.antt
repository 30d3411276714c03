use Rattle.std.proofs.Common.{◌≡◌, ◌∙◌, ℕ, List, map, ap, subst}
use Rattle.std.specs.Prelude.{filter, IfOk, ◌==◌}
use Rattle.jsp_model.specs.declared.state.Registration.{Registration}
use Rattle.jsp_notify.proofs.Asked.{spaces_after}
use Rattle.jsp_notify.proofs.registrations.Registrations.spaces_of.Goals as goal

pub returns : goal.returns
returns c =
    let self = c.self.inside.listeners in
    let spaces = λ (rs : List Registration). map (λ (r : Registration). r.space) (filter (λ r. r.number == c.args.number) rs) in
    subst (λ (ns : List ℕ). IfOk c.spaces_of.result (λ v. v.items ≡ ns)) (spaces_after self.news c.args.number self.heard ∙ ap spaces c.self.view_is) c.spaces_of.ensures
