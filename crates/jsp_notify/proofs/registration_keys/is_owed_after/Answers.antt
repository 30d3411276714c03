use Rattle.std.proofs.Common.{◌≡◌, ◌∙◌, length, not, ◌||◌, true, ap, sym, arith, rules}
use Rattle.std.specs.Prelude.{◌==◌}
use Rattle.std.specs.List.{list_any}
use Rattle.std.proofs.lemmas.Grind.{common_steps}
use Rattle.jsp_notify.specs.declared.news.News.{News}
use Rattle.jsp_notify.specs.Owing.{is_news}
use Rattle.jsp_notify.specs.News.{untold}
use Rattle.jsp_notify.proofs.Hearing.{owed_after}
use Rattle.jsp_notify.proofs.registration_keys.is_owed_after.Goals as goal

pub returns-else-not-is_empty : goal.returns-else-not-is_empty
returns-else-not-is_empty c =
    let none : (length c.args.registration.now.owed == 0) ≡ true = first_of (search rules, grind (arith, common_steps)) in
    let told = list_any (λ (n : News). list_any (is_news n.classes n.caller c.args.registration.now) (untold n c.args.registration.now)) c.args.news.now in
    c.is_any_for.ensures ∙ (ap (λ b. not b || told) (sym none) ∙ owed_after c.args.news.now c.args.registration.now)
