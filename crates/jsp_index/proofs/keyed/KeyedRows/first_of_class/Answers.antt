use Rattle.std.proofs.Common.{◌≡◌, false, sym, ◌∙◌, arith, rules}
use Rattle.std.proofs.lemmas.Grind.{common_steps}
use Rattle.jsp_types.specs.Classes.{is_sub}
use Rattle.jsp_index.specs.Finding.{number, is_next}
use Rattle.jsp_index.specs.Passed.{is_open}
use Rattle.jsp_index.proofs.Narrowing.{is_like_and, class_kept, class_apart, least_unnamed}
use Rattle.jsp_keyed.proofs.Least.{least_none}
use Rattle.jsp_index.proofs.keyed.KeyedRows.first_of_class.Goals as goal

pub returns-then-is_empty : goal.returns-then-is_empty
returns-then-is_empty g c =
    let p = is_next (g.P.Test.is_passed c.args.test.now) c.args.behind.now.number in
    let kind = is_like_and c.args.classes.now c.args.space c.args.like.now c.args.class.now in
    least_unnamed p kind c.listed-listed.result.numbers.now c.args.self.now (sym c.is_empty.ensures ∙ c.if-is_empty.true) (c.listed-listed.ensures kind (class_kept c.args.classes.now c.args.space c.args.like.now c.args.class.now)).named

pub returns-then-is_sub : goal.returns-then-is_sub
returns-then-is_sub g c =
    let kind = is_like_and c.args.classes.now c.args.space c.args.like.now c.args.class.now in
    c.first_listed.ensures kind (is_open c.args.behind.now.unseen) (c.listed-listed.ensures kind (class_kept c.args.classes.now c.args.space c.args.like.now c.args.class.now)) c.requires.had

pub returns-else-is_sub : goal.returns-else-is_sub
returns-else-is_sub g c =
    let p = is_next (g.P.Test.is_passed c.args.test.now) c.args.behind.now.number in
    let classes = c.args.classes.now in
    let class = c.args.class.now in
    let like = c.args.like.now in
    let none : is_sub classes class like.class ≡ false = first_of (search rules, grind (arith, common_steps)) in
    least_none number p (is_like_and classes c.args.space like class) c.args.self.now (class_apart classes c.args.space like class none)
