use Rattle.std.proofs.Common.{◌∙◌, ap, sym, set}
use Rattle.std.proofs.lemmas.Result.{on_ok_weaker}
use Rattle.jsp_model.specs.declared.state.Row.{Row}
use Rattle.jsp_sight.specs.Rows.{with_reader}
use Rattle.jsp_sight.proofs.Unique.{update_at, update_none}
use Rattle.jsp_scan.proofs.scanned.read_one.Goals as goal

pub returns-in-None-clause-ok : goal.returns-in-None-clause-ok
returns-in-None-clause-ok c = sym (update_none _ (with_reader c.args.x) c.args.rows.now (sym c.place_of_row.ensures ∙ c.in-None.is))

pub returns-in-Some-clause-ok : goal.returns-in-Some-clause-ok
returns-in-Some-clause-ok c =
    on_ok_weaker c.add_reader.result
    (λ made. ap (set c.args.rows.now c.in-Some.place) made ∙ update_at (λ (r : Row). r.number) (with_reader c.args.x) c.args.number _ _ c.args.rows.now c.in-Some.place _ c.requires (sym c.place_of_row.ensures ∙ c.in-Some.is))
    c.add_reader.ensures.ok
