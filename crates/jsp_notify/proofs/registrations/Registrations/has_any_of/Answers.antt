use Rattle.std.proofs.Common.{◌≡◌, ◌∙◌, Option, Some, None, option_map, ap, sym, refl, rules}
use Rattle.std.specs.Prelude.{find, is_some, ◌==◌}
use Rattle.std.specs.List.{list_any}
use Rattle.jsp_model.specs.declared.state.Registration.{Registration}
use Rattle.jsp_keyed.proofs.Placed.{any_is}
use Rattle.jsp_notify.specs.News.{hearing}
use Rattle.jsp_notify.proofs.Hearing.{any_after}
use Rattle.jsp_notify.proofs.registrations.Registrations.has_any_of.Goals as goal

pub returns : goal.returns
returns c =
    let self = c.self.inside.listeners in
    let of = λ (r : Registration). r.session == c.args.session in
    let some : c.is_some.result ≡ is_some c.first_number.result = search rules in
    let same : (o : Option Registration) → is_some (option_map (λ (r : Registration). r.number) o) ≡ is_some o =
    λ o. elim o as (λ o. is_some (option_map (λ (r : Registration). r.number) o) ≡ is_some o) [ None ↦ refl | Some r ↦ refl ] in
    some ∙ (ap is_some c.first_number.ensures ∙ (same (find of self.heard) ∙ (any_is of self.heard ∙ (sym (any_after (hearing self.news) of self.heard) ∙ ap (list_any of) c.self.view_is))))
