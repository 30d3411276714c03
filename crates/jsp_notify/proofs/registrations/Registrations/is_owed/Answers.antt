use Rattle.std.proofs.Common.{◌≡◌, ◌∙◌, List, Some, None, length, not, false, ap, sym}
use Rattle.std.specs.Prelude.{find, nat_lt, option_copied, ◌==◌}
use Rattle.std.specs.Option.{option_map_or}
use Rattle.jsp_model.specs.declared.state.Registration.{Registration}
use Rattle.jsp_notify.specs.News.{hearing}
use Rattle.jsp_notify.proofs.Asked.{is_owed_after}
use Rattle.jsp_notify.proofs.registrations.Registrations.is_owed.Goals as goal

pub returns-in-Some : goal.returns-in-Some
returns-in-Some c =
    let self = c.self.inside.listeners in
    let found : option_copied c.get.result ≡ Some c.in-Some.registration.now = ap option_copied c.in-Some.is in
    rw c.as_slice.ensures at c.is_owed_after.ensures
    ∙ (ap (λ o. option_map_or (λ (r : Registration). not (length (hearing self.news r).owed == 0)) o false) (sym found ∙ c.get.ensures)
    ∙ (is_owed_after self.news c.args.number self.heard ∙ ap (λ (rs : List Registration). option_map_or (λ (r : Registration). nat_lt 0 (length r.owed)) (find (λ r. r.number == c.args.number) rs) false) c.self.view_is))

pub returns-in-None : goal.returns-in-None
returns-in-None c =
    let self = c.self.inside.listeners in
    let found : option_copied c.get.result ≡ None = ap option_copied c.in-None.is in
    ap (λ o. option_map_or (λ (r : Registration). not (length (hearing self.news r).owed == 0)) o false) (sym found ∙ c.get.ensures)
    ∙ (is_owed_after self.news c.args.number self.heard ∙ ap (λ (rs : List Registration). option_map_or (λ (r : Registration). nat_lt 0 (length r.owed)) (find (λ r. r.number == c.args.number) rs) false) c.self.view_is)
