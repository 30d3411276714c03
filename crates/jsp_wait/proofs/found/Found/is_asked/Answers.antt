use Rattle.std.proofs.Common.{ℕ, ◌∙◌, ap, sym, ◌&&◌, List, map, eqb}
use Rattle.std.specs.Prelude.{◌==◌}
use Rattle.std.specs.List.{list_any}
use Rattle.jsp_model.specs.declared.state.Blocked.{Blocked}
use Rattle.jsp_wait.proofs.Mapped.{any_is_asked, none_asks}
use Rattle.jsp_wait.proofs.found.Found.is_asked.Goals as goal

pub returns-then-is_empty : goal.returns-then-is_empty
returns-then-is_empty c =
    let p = λ (b : Blocked). b.session == c.args.session && b.id == c.args.id in
    sym (none_asks p c.places.result.now (sym c.is_empty.ensures ∙ c.if-is_empty.true))
    ∙ ap (λ (w : List Blocked). list_any p w) (c.places.ensures.things ∙ c.self.view_is)

pub returns : goal.returns
returns c =
    let s = c.args.session in
    let id = c.args.id in
    c.has_id.ensures ∙ (ap (λ w. list_any (λ (i : ℕ). eqb i id) (map (λ (e : ℕ × ℕ). e.1) w)) (c.self.invariant s) ∙ (any_is_asked s id c.self.inside.requests
    ∙ ap (λ (w : List Blocked). list_any (λ b. b.session == s && b.id == id) w) c.self.view_is))
