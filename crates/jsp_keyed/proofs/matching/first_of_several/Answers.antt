use Rattle.std.proofs.Common.{◌≡◌, ◌∙◌, ℕ, false, map, option_copied, ap, sym, nat_lt}
use Rattle.std.specs.List.{list_any}
use Rattle.jsp_table.specs.Hints.{names}
use Rattle.jsp_table.proofs.Finding.{everywhere}
use Rattle.jsp_keys.specs.Keys.{mix, count_key}
use Rattle.jsp_keyed.specs.Several.{length_under, looked_under, are_named}
use Rattle.jsp_keyed.specs.Finding.{is_next}
use Rattle.jsp_keyed.proofs.Least.{least_none, least_among}
use Rattle.jsp_keyed.proofs.Enough.{not_named, found_in_lists}
use Rattle.jsp_keyed.proofs.matching.first_of_several.Goals as goal

pub returns-then-not-asks_any : goal.returns-then-not-asks_any
returns-then-not-asks_any g c =
    let num = g.K.Numbering.number_of in
    let test = c.args.test.now in
    let hints = c.args.hints.now in
    let seed = c.args.seed in
    let count = c.args.count in
    let space = g.P.ByEntry.space_of test in
    let fields = (g.P.ByEntry.entry_of test).fields in
    let empty : nat_lt 0 (length_under hints (count_key seed count space)) ≡ false = ap (λ (s : ℕ). nat_lt 0 (length_under hints (count_key seed count s))) (sym c.space.ensures) ∙ (sym c.asks_any.ensures ∙ c.if-not-asks_any.true) in
    least_none num (is_next num (g.P.Test.is_passed test) c.args.after) (λ x. are_named hints seed space fields (num x) count) c.args.table.now (λ x. not_named hints seed space fields (num x) count empty)

pub returns : goal.returns
returns g c =
    let num = g.K.Numbering.number_of in
    let test = c.args.test.now in
    let hints = c.args.hints.now in
    let seed = c.args.seed in
    let count = c.args.count in
    let space = g.P.ByEntry.space_of test in
    let fields = (g.P.ByEntry.entry_of test).fields in
    let limit = c.limit_of-limit.result in
    let lists = c.look_up.new.self in
    least_among num (is_next num (g.P.Test.is_passed test) c.args.after) (λ x. Unit {0}) (λ x. list_any (λ k. names hints k (num x)) (map (looked_under lists.hints.now limit) (map (λ k. mix k lists.count) lists.values.now))) (λ x. are_named hints seed space fields (num x) count) c.args.table.now (option_copied c.first_under_any.result)
    (everywhere (λ x. Unit {0}) c.args.table.now (λ x. tt))
    (λ x u h. found_in_lists hints limit seed count space fields (num x) lists.hints.now lists.count lists.values.now (c.look_up.ensures.hints ∙ c.of-lists.ensures.hints) (c.look_up.ensures.count ∙ c.of-lists.ensures.count) (c.look_up.ensures.values ∙ (c.of-lists.ensures.values ∙ c.requires.values)) c.limit_of-limit.ensures h) c.first_under_any.ensures
