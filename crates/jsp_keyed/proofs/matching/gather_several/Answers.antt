use Rattle.std.proofs.Common.{◌≡◌, ◌∙◌, ℕ, false, map, ap, sym, nat_lt, true}
use Rattle.std.specs.List.{list_any}
use Rattle.jsp_table.specs.Numbers.{contains}
use Rattle.jsp_table.proofs.Finding.{each, everywhere}
use Rattle.jsp_keys.specs.Keys.{mix, count_key}
use Rattle.jsp_keyed.specs.Several.{length_under, looked_under, are_named}
use Rattle.jsp_keyed.proofs.Enough.{not_named, found_in_lists, on_ok}
use Rattle.jsp_keyed.proofs.matching.gather_several.Goals as goal
use Rattle.jsp_table.specs.Hints.{names}

pub returns-then-not-asks_any-clause-ok : goal.returns-then-not-asks_any-clause-ok
returns-then-not-asks_any-clause-ok g c =
    let num = g.K.Numbering.number_of in
    let test = c.args.test.now in
    let hints = c.args.hints.now in
    let seed = c.args.seed in
    let count = c.args.count in
    let space = g.P.ByEntry.space_of test in
    let fields = (g.P.ByEntry.entry_of test).fields in
    let empty : nat_lt 0 (length_under hints (count_key seed count space)) ≡ false = ap (λ (s : ℕ). nat_lt 0 (length_under hints (count_key seed count s))) (sym c.space.ensures) ∙ (sym c.asks_any.ensures ∙ c.if-not-asks_any.true) in
    everywhere (λ x. g.P.Test.is_passed test x ≡ true → are_named hints seed space fields (num x) count ≡ true → contains c.args.found.now (num x) ≡ true) c.args.table.now (λ x e h. absurd (cc (h, not_named hints seed space fields (num x) count empty)))

pub returns-clause-ok : goal.returns-clause-ok
returns-clause-ok g c =
    let num = g.K.Numbering.number_of in
    let test = c.args.test.now in
    let hints = c.args.hints.now in
    let seed = c.args.seed in
    let count = c.args.count in
    let space = g.P.ByEntry.space_of test in
    let fields = (g.P.ByEntry.entry_of test).fields in
    let limit = c.limit_of-limit.result in
    let lists = c.look_up.new.self in
    let found = c.gather_sought.new.found in
    let passed = g.P.Test.is_passed test in
    on_ok c.gather_sought.result _ _
    (λ known. each (λ x. passed x ≡ true → list_any (λ k. names hints k (num x)) (map (looked_under lists.hints.now limit) (map (λ k. mix k lists.count) lists.values.now)) ≡ true → contains found (num x) ≡ true)
    (λ x. passed x ≡ true → are_named hints seed space fields (num x) count ≡ true → contains found (num x) ≡ true) c.args.table.now known
    (λ x f e h. f e (found_in_lists hints limit seed count space fields (num x) lists.hints.now lists.count lists.values.now (c.look_up.ensures.hints ∙ c.of-lists.ensures.hints) (c.look_up.ensures.count ∙ c.of-lists.ensures.count) (c.look_up.ensures.values ∙ (c.of-lists.ensures.values ∙ c.requires.values)) c.limit_of-limit.ensures h)))
    c.gather_sought.ensures.ok
