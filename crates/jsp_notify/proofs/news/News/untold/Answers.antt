use Rattle.std.proofs.Common.{◌+◌, cond, drop, ap, sym, ◌∙◌}
use Rattle.std.proofs.lemmas.List.{drop-drop}
use Rattle.jsp_table.specs.Counts.{count_of}
use Rattle.jsp_notify.proofs.Told.{with_none}
use Rattle.jsp_notify.proofs.news.News.untold.Goals as goal

pub returns-then-has_reached : goal.returns-then-has_reached
returns-then-has_reached c =
    let self = c.args.self.now in
    let t = count_of self.told c.args.registration.now.space in
    c.behind_first.ensures
    ∙ (ap (drop 1) c.left_in-rows.ensures
    ∙ (drop-drop 1 t self.rows ∙ ap (λ b. drop (t + cond b 1 0) self.rows) (sym (sym c.has_reached.ensures ∙ c.if-has_reached.true))))

pub returns-else-has_reached : goal.returns-else-has_reached
returns-else-has_reached c =
    let self = c.args.self.now in
    let t = count_of self.told c.args.registration.now.space in
    c.left_in-rows.ensures
    ∙ (ap (λ k. drop k self.rows) (sym (with_none t)) ∙ ap (λ b. drop (t + cond b 1 0) self.rows) (sym (sym c.has_reached.ensures ∙ c.if-has_reached.false)))
