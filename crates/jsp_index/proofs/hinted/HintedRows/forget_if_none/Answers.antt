use Rattle.std.proofs.Common.{◌≡◌, false, ap, sym, ◌∙◌}
use Rattle.std.specs.List.{list_any}
use Rattle.jsp_index.proofs.Holders.{is_holding}
use Rattle.jsp_index.proofs.Fates.{free_held}
use Rattle.jsp_index.proofs.hinted.HintedRows.forget_if_none.Goals as goal

pub invariant_of-self : goal.invariant_of-self
invariant_of-self c =
    let x = c.args.x in
    let space = c.args.space in
    let none : list_any (is_holding x space) c.self.inside.rows ≡ false = ap (list_any (is_holding x space)) c.self.view_is ∙ (sym c.holds_some.ensures ∙ c.if-not-holds_some.true) in
    free_held c.self.inside.holders c.take_list.new.holders x space c.take_list.ensures.others c.self.inside.rows none c.self.invariant

pub invariant_of-self-then-not-holds_some-2 : goal.invariant_of-self-then-not-holds_some-2
invariant_of-self-then-not-holds_some-2 c =
    let x = c.args.x in
    let space = c.args.space in
    let none : list_any (is_holding x space) c.self.inside.rows ≡ false = ap (list_any (is_holding x space)) c.self.view_is ∙ (sym c.holds_some.ensures ∙ c.if-not-holds_some.true) in
    free_held c.self.inside.holders c.take_list.new.holders x space c.take_list.ensures.others c.self.inside.rows none c.self.invariant

pub invariant_of-self-then-not-holds_some-3 : goal.invariant_of-self-then-not-holds_some-3
invariant_of-self-then-not-holds_some-3 c =
    let x = c.args.x in
    let space = c.args.space in
    let none : list_any (is_holding x space) c.self.inside.rows ≡ false = ap (list_any (is_holding x space)) c.self.view_is ∙ (sym c.holds_some.ensures ∙ c.if-not-holds_some.true) in
    free_held c.self.inside.holders c.take_list.new.holders x space c.take_list.ensures.others c.self.inside.rows none c.self.invariant

pub invariant_of-self-then-not-holds_some-4 : goal.invariant_of-self-then-not-holds_some-4
invariant_of-self-then-not-holds_some-4 c =
    let x = c.args.x in
    let space = c.args.space in
    let none : list_any (is_holding x space) c.self.inside.rows ≡ false = ap (list_any (is_holding x space)) c.self.view_is ∙ (sym c.holds_some.ensures ∙ c.if-not-holds_some.true) in
    free_held c.self.inside.holders c.take_list.new.holders x space c.take_list.ensures.others c.self.inside.rows none c.self.invariant
