use Rattle.std.proofs.Common.{◌∙◌, ℕ, false, ◌||◌, List, ◌∷◌, ◌++◌, option_copied, sym, subst, inl, inr}
use Rattle.std.specs.List.{list_any}
use Rattle.jsp_table.specs.Hints.{names}
use Rattle.jsp_table.proofs.Rising.{or_cases}
use Rattle.jsp_keyed.specs.Finding.{is_next, IsLeast}
use Rattle.jsp_keyed.specs.Several.{are_named}
use Rattle.jsp_keys.specs.Keys.{any_key}
use Rattle.jsp_keys.specs.Templates.{value_keys, line_keys}
use Rattle.jsp_keyed.proofs.Least.{least_of_both}
use Rattle.jsp_keyed.proofs.Enough.{or_none}
use Rattle.jsp_keyed.proofs.matching.first_for.Goals as goal

pub returns : goal.returns
returns g c =
    let num = g.K.Numbering.number_of in
    let test = c.args.test.now in
    let hints = c.args.hints.now in
    let xs = c.args.table.now in
    let seed = c.args.seed in
    let space = g.P.ByEntry.space_of test in
    let e = g.P.ByEntry.entry_of test in
    let p = is_next num (g.P.Test.is_passed test) c.args.after in
    let of_keys = λ (keys : List ℕ) (x : g.row.T.Denot). list_any (λ k. names hints k (num x)) (any_key seed space ∷ (keys ++ line_keys seed (g.P.ByEntry.classes_of test) space e.class)) in
    let of_one = of_keys (value_keys seed space e.fields) in
    let of_so_many = λ (n : ℕ) (x : g.row.T.Denot). are_named hints seed space e.fields (num x) n in
    let of_four = λ (x : g.row.T.Denot). of_so_many 4 x || false in
    let of_three = λ (x : g.row.T.Denot). of_so_many 3 x || of_four x in
    let of_more = λ (x : g.row.T.Denot). of_so_many 2 x || of_three x in
    let one = option_copied c.first_under_any-of_one.result in
    let is_one = subst (λ (keys : List ℕ). IsLeast num p (of_keys keys) xs one) (c.make.ensures ∙ c.values_of-values.ensures) c.first_under_any-of_one.ensures in
    let two = option_copied c.first_of_several-of_two.result in
    let three = option_copied c.first_of_several-of_three.result in
    let four = option_copied c.first_of_several-of_four.result in
    let three_four = least_of_both num p (of_so_many 3) (of_so_many 4) of_three xs three four (λ x h. elim (or_cases (of_so_many 3 x) (of_four x) h) [ inl f ↦ inl f | inr f ↦ inr (or_none (of_so_many 4 x) f) ]) c.first_of_several-of_three.ensures c.first_of_several-of_four.ensures in
    let more = least_of_both num p (of_so_many 2) of_three of_more xs two (option_copied c.lesser.result) (λ x h. or_cases (of_so_many 2 x) (of_three x) h) c.first_of_several-of_two.ensures (subst (IsLeast num p of_three xs) (sym c.lesser.ensures) three_four) in
    subst (IsLeast num p (λ x. of_one x || of_more x) xs) (sym c.lesser-2.ensures)
    (least_of_both num p of_one of_more (λ x. of_one x || of_more x) xs one (option_copied c.lesser-of_more.result) (λ x h. or_cases (of_one x) (of_more x) h) is_one (subst (IsLeast num p of_more xs) (sym c.lesser-of_more.ensures) more))
