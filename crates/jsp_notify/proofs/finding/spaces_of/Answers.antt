use Rattle.std.proofs.Common.{◌≡◌, [], ◌∷◌, map, ap, sym, ◌∙◌, arith, rules}
use Rattle.std.specs.Prelude.{option_copied}
use Rattle.std.proofs.lemmas.Grind.{common_steps}
use Rattle.jsp_model.specs.declared.state.Registration.{Registration}
use Rattle.jsp_table.specs.Places.{living}
use Rattle.jsp_keyed.proofs.Placed.{only_numbered}
use Rattle.jsp_notify.proofs.Listening.{number}
use Rattle.jsp_notify.proofs.finding.spaces_of.Goals as goal
use Rattle.jsp_notify.proofs.finding.spaces_of.Goals.{in-Some+in_ok-push, in_default}

pub returns : goal.returns
returns c =
    let made : c.match-get.spaces.items ≡ map (λ (r : Registration). r.space) (living (option_copied c.get.result ∷ [])) = elim c.match-get.branch [
      | in-Some+in_ok-push w ↦ first_of (search rules, grind (arith, common_steps))
      | in_default w ↦ first_of (search rules, grind (arith, common_steps))
    ] in
    made ∙ ap (map (λ (r : Registration). r.space)) (sym (only_numbered number c.args.number c.args.registrations.now c.places.ensures.rising (option_copied c.get.result) c.get.ensures))
