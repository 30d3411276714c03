use Rattle.std.proofs.Common.{List, length, ap, sym, ◌∙◌}
use Rattle.jsp_list.specs.Storage.{things_in}
use Rattle.jsp_keyed.proofs.Placed.{living_count}
use Rattle.jsp_list.proofs.indexed_list.IndexedList.len.Goals as goal

pub returns-in-Keyed : goal.returns-in-Keyed
returns-in-Keyed g c =
    let here = ap things_in (sym c.in-Keyed.is) ∙ c.self.view_is in
    c.count_filled.ensures ∙ (living_count c.places.result.now ∙ ap (λ (w : List g.row.T.Denot). length w) (c.places.ensures.things ∙ here))
