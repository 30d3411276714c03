use Rattle.std.proofs.Common.{◌≡◌, ℕ, ◌+◌, ◌<◌, List, length, take, get_or, option_copied, sym, subst, arith, rules}
use Rattle.std.proofs.lemmas.Grind.{common_steps}
use Rattle.std.proofs.lemmas.List.{take_all}
use Rattle.jsp_index.specs.Finding.{number, is_next, is_like_of, IsLeast}
use Rattle.jsp_index.proofs.Narrowing.{is_like_and, class_more}
use Rattle.jsp_keyed.proofs.Least.{least_of_both}
use Rattle.jsp_index.proofs.keyed.KeyedRows.first_of_each.Goals as goal

pub classes-preserved : goal.classes-preserved
classes-preserved g c =
    let p = is_next (g.P.Test.is_passed c.args.test.now) c.args.behind.now.number in
    let classes = c.args.classes.now in
    let space = c.args.space in
    let like = c.args.like.now in
    let names = c.args.names.now in
    let i = c.classes.class-index in
    let class = c.class-item.result in
    let rows = c.args.self.now in
    let kind = is_like_of classes space like (take (i + 1) names) in
    let lt : i < length names = first_of (omega (arith, c.classes-test.true), grind (arith, common_steps)) in
    let is : class ≡ get_or names i class = first_of (search rules, grind (arith, common_steps)) in
    let of_class = is_like_and classes space like class in
    let other : IsLeast p of_class rows (option_copied c.first_of_class.result) = subst (λ (n : List ℕ). IsLeast p (is_like_and classes space like n) rows (option_copied c.first_of_class.result)) c.as_str.ensures c.first_of_class.ensures in
    subst (IsLeast p kind rows) (sym c.lesser-first.ensures)
    (least_of_both number p (is_like_of classes space like (take i names)) of_class kind rows (option_copied c.classes.first) (option_copied c.first_of_class.result) (class_more classes space like class names i lt is) c.classes.invariant other)

pub returns : goal.returns
returns g c =
    let p = is_next (g.P.Test.is_passed c.args.test.now) c.args.behind.now.number in
    let names = c.args.names.now in
    let i = c.classes.class-index in
    let found = option_copied c.classes.first in
    let all : take i names ≡ names = take_all i names (first_of (omega (arith, c.classes-test.false), grind (arith, common_steps))) in
    subst (λ (w : List (List ℕ)). IsLeast p (is_like_of c.args.classes.now c.args.space c.args.like.now w) c.args.self.now found) all c.classes.invariant
