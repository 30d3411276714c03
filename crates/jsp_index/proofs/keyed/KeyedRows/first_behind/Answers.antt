use Rattle.std.proofs.Common.{◌≡◌, ◌+◌, ◌<◌, List, length, take, get_or, option_copied, sym, subst, arith, rules}
use Rattle.std.proofs.lemmas.Grind.{common_steps}
use Rattle.std.proofs.lemmas.List.{take_all}
use Rattle.jsp_types.specs.declared.entry.Template.{Template}
use Rattle.jsp_index.specs.Finding.{number, is_next, is_asked, is_like, IsLeast}
use Rattle.jsp_index.proofs.Covering.{and_both}
use Rattle.jsp_index.proofs.Narrowing.{asked_more}
use Rattle.jsp_keyed.proofs.Least.{least_first, least_of_both}
use Rattle.jsp_index.proofs.keyed.KeyedRows.first_behind.Goals as goal

pub templates-preserved : goal.templates-preserved
templates-preserved g c =
    let p = is_next (g.P.Test.is_passed c.args.test.now) c.args.behind.now.number in
    let classes = c.args.classes.now in
    let space = c.args.space in
    let templates = c.args.templates.now in
    let i = c.templates.template-index in
    let template = c.template-item.result in
    let rows = c.args.self.now in
    let kind = is_asked classes space (take (i + 1) templates) in
    let lt : i < length templates = first_of (omega (arith, c.templates-test.true), grind (arith, common_steps)) in
    let is : template ≡ get_or templates i template = first_of (search rules, grind (arith, common_steps)) in
    subst (IsLeast p kind rows) (sym c.lesser-first.ensures)
    (least_of_both number p (is_asked classes space (take i templates)) (is_like classes space template) kind rows (option_copied c.templates.first) (option_copied c.first_like.result) (asked_more classes space templates i template lt is) c.templates.invariant c.first_like.ensures)

pub returns-clause-found : goal.returns-clause-found
returns-clause-found g c =
    let passed = g.P.Test.is_passed c.args.test.now in
    let p = is_next passed c.args.behind.now.number in
    let classes = c.args.classes.now in
    let space = c.args.space in
    let templates = c.args.templates.now in
    let i = c.templates.template-index in
    let rows = c.args.self.now in
    let found = option_copied c.templates.first in
    let all : take i templates ≡ templates = take_all i templates (first_of (omega (arith, c.templates-test.false), grind (arith, common_steps))) in
    let done : IsLeast p (is_asked classes space templates) rows found = subst (λ (w : List Template). IsLeast p (is_asked classes space w) rows found) all c.templates.invariant in
    least_first number p (is_asked classes space templates) rows found c.places.ensures.numbered.rising (λ r h. c.requires.asked r (and_both _ (passed r) h).1) done
