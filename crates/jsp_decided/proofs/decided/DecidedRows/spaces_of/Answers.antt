use Rattle.std.proofs.Common.{◌≡◌, [], ◌∷◌, ◌++◌, Some, None, ap, ◌∙◌, arith, rules}
use Rattle.std.proofs.lemmas.Grind.{common_steps}
use Rattle.jsp_decided.proofs.Numbered.{spaces_later}
use Rattle.jsp_decided.proofs.decided.DecidedRows.spaces_of.Goals as goal

pub returns-in_default : goal.returns-in_default
returns-in_default c =
    let empty : c.new-spaces.result.items ≡ [] = first_of (search rules, grind (arith, common_steps)) in
    empty ∙ spaces_later c.args.number c.args.self.now.recorded.items c.args.self.now.stored None c.places.ensures.numbered c.in_default.ensures

pub returns : goal.returns
returns c =
    let empty : c.new-spaces.result.items ≡ [] = first_of (search rules, grind (arith, common_steps)) in
    c.in_ok-push.ensures.items ∙ (ap (λ w. w ++ c.in-Some.row.now.space ∷ []) empty ∙ spaces_later c.args.number c.args.self.now.recorded.items c.args.self.now.stored (Some c.in-Some.row.now) c.places.ensures.numbered c.in-Some.ensures)
