use Rattle.std.proofs.Common.{◌≡◌, ◌≤◌, ◌==◌, ℕ, false, length, nat_lt, arith, rules}
use Rattle.std.specs.Prelude.{filter}
use Rattle.std.proofs.lemmas.Bool.Decides.{nat_tests}
use Rattle.jsp_model.specs.declared.state.Row.{Row}
use Rattle.jsp_sight.specs.Rows.{shows}
use Rattle.jsp_decided.proofs.Fewer.{fewer}
use Rattle.jsp_decided.proofs.finding.shows_more.Goals as goal

not_more : (most n : ℕ) → n ≤ most → false ≡ nat_lt most n
not_more most n le = grind (arith, nat_tests)

pub returns-then-count_in-most : goal.returns-then-count_in-most
returns-then-count_in-most c =
    let set = c.args.set.now in
    let few = fewer (shows c.args.classes.now set) (λ (r : Row). r.space == set.space) (λ r is. search rules) c.args.rows.now in
    not_more c.args.most (length (filter (shows c.args.classes.now set) c.args.rows.now)) (omega (arith, few, c.if-count_in-most.true, c.count_in.ensures))
