use Rattle.std.proofs.Common.{◌≡◌, ◌∙◌, ap, sym, subst, List, map, eqb, [], ◌∷◌}
use Rattle.std.specs.Prelude.{filter, option_copied, IfOk}
use Rattle.jsp_table.specs.Places.{living}
use Rattle.jsp_list.specs.Storage.{things_in}
use Rattle.jsp_keyed.proofs.Placed.{only_numbered}
use Rattle.jsp_list.proofs.indexed_list.IndexedList.read_of.Goals as goal

pub returns-in-Keyed : goal.returns-in-Keyed
returns-in-Keyed g c =
    let num = g.K.Numbering.number_of in
    let value = g.R.Reading.value_of c.args.reading.now in
    let here : c.in-Keyed.things ≡ c.args.self.now = ap things_in (sym c.in-Keyed.is) ∙ c.self.view_is in
    let one : living (option_copied c.get.result ∷ []) ≡ filter (λ x. eqb (num x) c.args.number) c.args.self.now =
    sym (only_numbered num c.args.number c.in-Keyed.things c.places.ensures.rising (option_copied c.get.result) c.get.ensures) ∙ ap (λ (w : List g.row.T.Denot). filter (λ x. eqb (num x) c.args.number) w) here in
    subst (λ (w : List g.row.T.Denot). IfOk c.read_one.result (λ v. v.items ≡ map value w)) one c.read_one.ensures
