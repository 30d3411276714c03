use Rattle.std.proofs.Common.{◌≡◌, ℕ, true, sym, subst}
use Rattle.std.proofs.lemmas.Result.{on_ok_weaker}
use Rattle.jsp_model.specs.declared.state.Row.{Row}
use Rattle.jsp_table.proofs.Finding.{each, found_number}
use Rattle.jsp_keyed.proofs.Walking.{only_one}
use Rattle.jsp_index.specs.Finding.{number}
use Rattle.jsp_index.specs.Holding.{lists}
use Rattle.jsp_index.proofs.Heads.{none_of}
use Rattle.jsp_index.proofs.holding.hold_number.Goals as goal

pub returns-in-None-clause-ok : goal.returns-in-None-clause-ok
returns-in-None-clause-ok c = none_of (λ (r : Row). lists c.args.holders.now c.args.x r.space r.number ≡ true) c.args.number c.args.rows.now (sym c.in-None.ensures.found)

pub returns-in-Some-clause-ok : goal.returns-in-Some-clause-ok
returns-in-Some-clause-ok c =
    let x = c.args.x in
    let n = c.args.number in
    let rows = c.args.rows.now in
    let row = c.in-Some.row.now in
    let new = c.list.new.holders in
    let same : row.number ≡ n = found_number number n rows row (sym c.in-Some.ensures.found) in
    let one = only_one number n rows row c.in-Some.ensures.numbered.rising (sym c.in-Some.ensures.found) in
    on_ok_weaker c.list.result
    (λ made. each (λ (r : Row). r.number ≡ n → r ≡ row) (λ (r : Row). r.number ≡ n → lists new x r.space r.number ≡ true) rows one
    (λ r is e. subst (λ (q : Row). lists new x q.space q.number ≡ true) (sym (is e)) (subst (λ (m : ℕ). lists new x row.space m ≡ true) (sym same) made)))
    c.list.ensures.ok
