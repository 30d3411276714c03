use Rattle.std.proofs.Common.{◌≡◌, ◌∙◌, List, get_or, map, ap, subst}
use Rattle.jsp_model.specs.declared.state.Row.{Row}
use Rattle.jsp_table.specs.Counts.{count_of}
use Rattle.jsp_notify.specs.Owing.{owed_within}
use Rattle.jsp_notify.proofs.Told.{row_owed, row_passed}
use Rattle.jsp_notify.proofs.news.News.owe_row.Goals as goal

pub returns-then-row-space-clause-ok : goal.returns-then-row-space-clause-ok
returns-then-row-space-clause-ok c =
    let self = c.args.self.now in
    let row = c.index-rows-place.result in
    let is : row ≡ get_or self.rows c.args.place row = c.index-rows-place.is ∙ ap (λ (rows : List Row). get_or rows c.args.place row) c.as_slice-rows.ensures in
    row_passed self c.args.place row c.args.space (count_of self.reached c.args.space) c.args.below c.requires is c.if-row-space.true c.args.heard.now

pub returns-clause-ok : goal.returns-clause-ok
returns-clause-ok c =
    let self = c.args.self.now in
    let row = c.index-rows-place.result in
    let space = c.args.space in
    let is : row ≡ get_or self.rows c.args.place row = c.index-rows-place.is ∙ ap (λ (rows : List Row). get_or rows c.args.place row) c.as_slice-rows.ensures in
    c.in_ok-owe_within.ensures.ok
    ∙ (ap (λ from. map (owed_within self.classes self.caller row from c.args.below) c.args.heard.now) c.count_of-from.ensures
    ∙ row_owed self c.args.place row space (count_of self.reached space) c.args.below c.requires is c.if-row-space.false c.args.heard.now)
