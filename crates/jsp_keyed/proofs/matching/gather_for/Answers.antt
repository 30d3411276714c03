use Rattle.std.proofs.Common.{◌∙◌, ◌≡◌, ℕ, true, false, ◌||◌, List, ◌∷◌, ◌++◌, subst, inl, inr}
use Rattle.std.specs.List.{AllByRecursion, list_any}
use Rattle.jsp_table.specs.Numbers.{contains}
use Rattle.jsp_table.proofs.Rising.{or_cases}
use Rattle.jsp_keyed.specs.Several.{are_named, is_named_for}
use Rattle.jsp_keys.specs.Keys.{any_key}
use Rattle.jsp_keys.specs.Templates.{value_keys, line_keys}
use Rattle.jsp_keyed.proofs.Enough.{on_ok, or_none, four_parts}
use Rattle.jsp_keyed.proofs.matching.gather_for.Goals as goal
use Rattle.jsp_table.specs.Hints.{names}

pub returns : goal.returns
returns g c =
    let num = g.K.Numbering.number_of in
    let test = c.args.test.now in
    let hints = c.args.hints.now in
    let seed = c.args.seed in
    let space = g.P.ByEntry.space_of test in
    let e = g.P.ByEntry.entry_of test in
    let passed = g.P.Test.is_passed test in
    let of_keys = λ (keys : List ℕ) (x : g.row.T.Denot). list_any (λ k. names hints k (num x)) (any_key seed space ∷ (keys ++ line_keys seed (g.P.ByEntry.classes_of test) space e.class)) in
    let of_one = of_keys (value_keys seed space e.fields) in
    let of_so_many = λ (n : ℕ) (x : g.row.T.Denot). are_named hints seed space e.fields (num x) n in
    let first = c.gather_sought.new.found in
    let second = c.gather_several.new.found in
    let third = c.gather_several-2.new.found in
    let last = c.gather_several-3.new.found in
    let is_one = subst (λ (keys : List ℕ). AllByRecursion (λ (x : g.row.T.Denot). passed x ≡ true → of_keys keys x ≡ true → contains first (num x) ≡ true) c.args.table.now) (c.make.ensures ∙ c.values_of-values.ensures) c.in_ok-gather_sought.ensures.ok in
    on_ok c.gather_several-3.result _ _
    (λ known. four_parts c.args.table.now
    (λ x. passed x ≡ true → of_one x ≡ true → contains first (num x) ≡ true)
    (λ x. passed x ≡ true → of_so_many 2 x ≡ true → contains second (num x) ≡ true)
    (λ x. passed x ≡ true → of_so_many 3 x ≡ true → contains third (num x) ≡ true)
    (λ x. passed x ≡ true → of_so_many 4 x ≡ true → contains last (num x) ≡ true)
    (λ x. passed x ≡ true → is_named_for hints seed (g.P.ByEntry.classes_of test) space e (num x) ≡ true → contains last (num x) ≡ true)
    is_one c.in_ok-gather_several.ensures.ok c.in_ok-gather_several-2.ensures.ok known
    (λ x one two three four yes h. elim (or_cases (of_one x) (of_so_many 2 x || (of_so_many 3 x || (of_so_many 4 x || false))) h) [
      | inl f ↦ c.gather_several-3.ensures.keeps (num x) (c.gather_several-2.ensures.keeps (num x) (c.gather_several.ensures.keeps (num x) (one yes f)))
      | inr f ↦ elim (or_cases (of_so_many 2 x) (of_so_many 3 x || (of_so_many 4 x || false)) f) [
        | inl g ↦ c.gather_several-3.ensures.keeps (num x) (c.gather_several-2.ensures.keeps (num x) (two yes g))
        | inr g ↦ elim (or_cases (of_so_many 3 x) (of_so_many 4 x || false) g) [
          | inl k ↦ c.gather_several-3.ensures.keeps (num x) (three yes k)
          | inr k ↦ four yes (or_none (of_so_many 4 x) k)
        ]
      ]
    ]))
    c.gather_several-3.ensures.ok
