use Rattle.std.proofs.Common.{◌≡◌, [], ◌∷◌, map, ap, sym, ◌∙◌, arith, rules}
use Rattle.std.specs.Prelude.{option_copied}
use Rattle.std.proofs.lemmas.Grind.{common_steps}
use Rattle.jsp_model.specs.declared.state.Blocked.{Blocked}
use Rattle.jsp_table.specs.Places.{living}
use Rattle.jsp_wait.proofs.Least.{number}
use Rattle.jsp_keyed.proofs.Placed.{only_numbered}
use Rattle.jsp_wait.proofs.keyed.space_of.Goals as goal
use Rattle.jsp_wait.proofs.keyed.space_of.Goals.{in-Some+in_ok-push, in_default}

pub returns : goal.returns
returns c =
    let made : c.match-get.spaces.items ≡ map (λ (b : Blocked). b.space) (living (option_copied c.get.result ∷ [])) = elim c.match-get.branch [
      | in-Some+in_ok-push w ↦ first_of (search rules, grind (arith, common_steps))
      | in_default w ↦ first_of (search rules, grind (arith, common_steps))
    ] in
    made ∙ ap (map (λ (b : Blocked). b.space)) (sym (only_numbered number c.args.number c.args.requests.now c.places.ensures.rising (option_copied c.get.result) c.get.ensures))
