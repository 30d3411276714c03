use Rattle.std.proofs.Common.{◌≡◌, ℕ, ◌+◌, ◌<◌, List, length, take, option_copied, sym, subst, arith}
use Rattle.std.specs.Prelude.{slice_index}
use Rattle.std.specs.List.{list_any}
use Rattle.std.proofs.lemmas.List.{take_all}
use Rattle.jsp_table.specs.Hints.{names}
use Rattle.jsp_keyed.specs.Finding.{is_next, IsLeast}
use Rattle.jsp_keyed.proofs.Least.{least_of_both}
use Rattle.jsp_keyed.proofs.Named.{any_more}
use Rattle.jsp_keyed.proofs.finding.first_under_any.Goals as goal

pub places-preserved : goal.places-preserved
places-preserved g c =
    let num = g.K.Numbering.number_of in
    let p = is_next num (g.P.Test.is_passed c.args.test.now) c.args.after in
    let sought = g.P.Keys.sought c.args.test.now c.args.seed in
    let hints = c.args.hints.now in
    let i = c.places.place in
    let lt : i < length sought = omega (arith, c.places-test.true, c.sought_count-place-end.ensures) in
    subst (IsLeast num p (λ x. list_any (λ k. names hints k (num x)) (take (i + 1) sought)) c.args.table.now) (sym c.lesser-first.ensures)
    (least_of_both num p (λ x. list_any (λ k. names hints k (num x)) (take i sought)) (λ x. names hints (slice_index sought i) (num x)) (λ x. list_any (λ k. names hints k (num x)) (take (i + 1) sought)) c.args.table.now (option_copied c.places.first) (option_copied c.first_under.result)
    (λ x h. any_more (λ k. names hints k (num x)) sought i lt h) c.places.invariant
    (subst (λ (key : ℕ). IsLeast num p (λ x. names hints key (num x)) c.args.table.now (option_copied c.first_under.result)) c.sought_key-key.ensures c.first_under.ensures))

pub returns : goal.returns
returns g c =
    let num = g.K.Numbering.number_of in
    let p = is_next num (g.P.Test.is_passed c.args.test.now) c.args.after in
    let sought = g.P.Keys.sought c.args.test.now c.args.seed in
    let hints = c.args.hints.now in
    let all : take c.places.place sought ≡ sought = take_all c.places.place sought (omega (arith, c.places-test.false, c.sought_count-place-end.ensures)) in
    subst (λ (w : List ℕ). IsLeast num p (λ x. list_any (λ k. names hints k (num x)) w) c.args.table.now (option_copied c.places.first)) all c.places.invariant
