use Rattle.std.proofs.Common.{◌≡◌, ◌∙◌, ap, sym, subst, List, ◌&&◌, eqb}
use Rattle.std.specs.Prelude.{find, option_copied}
use Rattle.jsp_list.specs.Storage.{things_in}
use Rattle.jsp_keyed.proofs.Placed.{found_numbered}
use Rattle.jsp_list.proofs.indexed_list.IndexedList.first_of.Goals as goal

pub returns-in-Keyed : goal.returns-in-Keyed
returns-in-Keyed g c =
    let num = g.K.Numbering.number_of in
    let p = g.P.Test.is_passed c.args.test.now in
    let here : c.in-Keyed.things ≡ c.args.self.now = ap things_in (sym c.in-Keyed.is) ∙ c.self.view_is in
    subst (λ (w : List g.row.T.Denot). option_copied c.one_passing.result ≡ find (λ x. eqb (num x) c.args.number && p x) w) here
    (c.one_passing.ensures ∙ found_numbered num c.args.number p c.in-Keyed.things c.places.ensures.rising (option_copied c.get.result) c.get.ensures)
