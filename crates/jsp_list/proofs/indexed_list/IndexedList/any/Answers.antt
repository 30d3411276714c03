use Rattle.std.proofs.Common.{◌≡◌, ◌∙◌, ap, sym, subst, List, rules}
use Rattle.std.specs.Prelude.{is_some, option_copied}
use Rattle.std.specs.List.{list_any}
use Rattle.jsp_list.specs.Storage.{things_in}
use Rattle.jsp_keyed.proofs.Placed.{any_is}
use Rattle.jsp_list.proofs.indexed_list.IndexedList.any.Goals as goal

pub returns-in-Keyed : goal.returns-in-Keyed
returns-in-Keyed g c =
    let p = g.P.Test.is_passed c.args.test.now in
    let here : c.in-Keyed.things ≡ c.args.self.now = ap things_in (sym c.in-Keyed.is) ∙ c.self.view_is in
    let some : c.is_some.result ≡ is_some (option_copied c.first.result) = search rules in
    some ∙ (ap is_some c.first.ensures ∙ (any_is p c.in-Keyed.things ∙ ap (list_any p) here))
