use Rattle.std.proofs.Common.{◌≡◌, ◌∙◌, ap, sym, subst, List, map}
use Rattle.jsp_lease.specs.Due.{first_item, over_by}
use Rattle.jsp_keyed.specs.Kept.{item_of}
use Rattle.jsp_list.specs.Storage.{things_in}
use Rattle.jsp_keyed.proofs.Placed.{all_pass}
use Rattle.jsp_list.proofs.indexed_list.IndexedList.due.Goals as goal

pub returns-in-Scanned : goal.returns-in-Scanned
returns-in-Scanned g c =
    let item = item_of g.K.Numbering.number_of g.K.Keying.end_of g.K.Keying.rank_of in
    let here : c.in-Scanned.things.items ≡ c.args.self.now = ap things_in (sym c.in-Scanned.is) ∙ c.self.view_is in
    c.first_over.ensures ∙ ap (λ (w : List g.row.T.Denot). first_item (over_by c.args.time (map item w))) (all_pass c.deref.result.now ∙ (c.deref.ensures.value ∙ here))
