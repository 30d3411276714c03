use Rattle.std.proofs.Common.{ℕ, ◌∙◌, ap, List, map}
use Rattle.std.specs.Prelude.{find, slice_get, ◌==◌}
use Rattle.std.specs.Option.{option_map}
use Rattle.jsp_model.specs.declared.state.Blocked.{Blocked}
use Rattle.jsp_wait.proofs.Least.{number}
use Rattle.jsp_wait.proofs.Mapped.{first_is}
use Rattle.jsp_wait.proofs.found.Found.first_of.Goals as goal

pub returns-clause-found : goal.returns-clause-found
returns-clause-found c =
    let own = λ (b : Blocked). b.session == c.args.session in
    c.first_number.ensures ∙ (ap (λ w. slice_get (map (λ (e : ℕ × ℕ). e.0) w) 0) (c.self.invariant c.args.session) ∙ (first_is own c.self.inside.requests
    ∙ ap (λ (w : List Blocked). option_map number (find own w)) c.self.view_is))
