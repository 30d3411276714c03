use Rattle.std.proofs.Common.{◌≡◌, ◌++◌, ◌∷◌, [], ◌&&◌, List, Some, length, map, ap, sym, ◌∙◌, arith}
use Rattle.std.specs.Prelude.{filter, find}
use Rattle.jsp_model.specs.declared.state.Row.{Row}
use Rattle.jsp_table.specs.Numbers.{contains}
use Rattle.jsp_index.specs.Finding.{number, is_next}
use Rattle.jsp_index.proofs.Walks.{map_same}
use Rattle.jsp_keyed.proofs.Walking.{listed_all, listed_more, none_passes, one_passes}
use Rattle.jsp_index.proofs.listing.rows_named.Goals as goal

pub rows-smaller : goal.rows-smaller
rows-smaller g c =
    let passed = λ (r : Row). contains c.args.numbers.now r.number && g.P.Test.is_passed c.args.test.now r in
    let rows = c.args.rows.now in
    let r = c.in-Some.row.now in
    let there : find (is_next passed c.rows.after) rows ≡ Some r = sym c.in-Some.ensures.found in
    let next : filter (is_next passed c.rows.after) rows ≡ r ∷ filter (is_next passed r.number) rows = one_passes number passed c.rows.after rows r c.places.ensures.rising there in
    omega (arith, ap (λ (w : List Row). length w) next)

pub rows-preserved : goal.rows-preserved
rows-preserved g c =
    let passed = λ (r : Row). contains c.args.numbers.now r.number && g.P.Test.is_passed c.args.test.now r in
    let rows = c.args.rows.now in
    let r = c.in-Some.row.now in
    let there : find (is_next passed c.rows.after) rows ≡ Some r = sym c.in-Some.ensures.found in
    let next : filter (is_next passed c.rows.after) rows ≡ r ∷ filter (is_next passed r.number) rows = one_passes number passed c.rows.after rows r c.places.ensures.rising there in
    let rest = filter (is_next passed r.number) rows in
    let all = filter (is_next passed 0) rows in
    let so : c.rows.copies.items ++ map (λ (r : Row). r) (filter (is_next passed c.rows.after) rows) ≡ all = ap (λ w. c.rows.copies.items ++ w) (map_same (filter (is_next passed c.rows.after) rows)) ∙ c.rows.invariant in
    ap (λ w. c.add_copy.new.copies.items ++ w) (sym (map_same rest)) ∙ listed_more number (λ (r : Row). r) c.rows.copies.items c.add_copy.new.copies.items r rest (filter (is_next passed c.rows.after) rows) all next so c.in_ok-add_copy.ensures

pub returns-clause-found : goal.returns-clause-found
returns-clause-found g c =
    let passed = λ (r : Row). contains c.args.numbers.now r.number && g.P.Test.is_passed c.args.test.now r in
    let rows = c.args.rows.now in
    let none : filter (is_next passed c.rows.after) rows ≡ [] = none_passes (is_next passed c.rows.after) rows (sym c.in_default.ensures.found) in
    let so : c.rows.copies.items ++ map (λ (r : Row). r) (filter (is_next passed c.rows.after) rows) ≡ filter (is_next passed 0) rows = ap (λ w. c.rows.copies.items ++ w) (map_same (filter (is_next passed c.rows.after) rows)) ∙ c.rows.invariant in
    listed_all number (λ (r : Row). r) c.rows.copies.items (filter (is_next passed c.rows.after) rows) (filter (is_next passed 0) rows) none so
