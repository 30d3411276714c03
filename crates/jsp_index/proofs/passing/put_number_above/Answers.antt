use Rattle.std.proofs.Common.{◌≡◌, sym, subst}
use Rattle.jsp_model.specs.declared.state.Row.{Row}
use Rattle.jsp_table.proofs.Finding.{each}
use Rattle.jsp_keyed.proofs.Walking.{only_one}
use Rattle.jsp_index.specs.Finding.{number}
use Rattle.jsp_index.specs.Passed.{IsOverAll}
use Rattle.jsp_index.proofs.Heads.{none_of, found_positive, none_above_all}
use Rattle.jsp_index.proofs.passing.put_number_above.Goals as goal

pub put_above-requires : goal.put_above-requires
put_above-requires c = found_positive c.args.number c.args.rows.now c.in-Some.row.now (sym c.in-Some.ensures) c.places.ensures.positive

pub returns-in_default-clause-above : goal.returns-in_default-clause-above
returns-in_default-clause-above c = none_of (IsOverAll c.args.seed c.args.starts.now) c.args.number c.args.rows.now (sym c.in_default.ensures)

pub returns-clause-above : goal.returns-clause-above
returns-clause-above c =
    each (λ (r : Row). r.number ≡ c.args.number → r ≡ c.in-Some.row.now) (λ (r : Row). r.number ≡ c.args.number → IsOverAll c.args.seed c.put_above.new.starts r) c.args.rows.now
    (only_one number c.args.number c.args.rows.now c.in-Some.row.now c.places.ensures.rising (sym c.in-Some.ensures))
    (λ r one is. subst (IsOverAll c.args.seed c.put_above.new.starts) (sym (one is)) c.put_above.ensures.above)

pub returns-then-has_none-clause-above : goal.returns-then-has_none-clause-above
returns-then-has_none-clause-above c = none_above_all c.args.seed c.args.starts.now c.args.number c.args.rows.now c.if-has_none.ensures c.places.ensures.positive
