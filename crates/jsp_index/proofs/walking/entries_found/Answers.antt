use Rattle.std.proofs.Common.{◌≡◌, Some, None, map, ap, sym, ◌∙◌, arith, rules}
use Rattle.std.specs.Prelude.{find, option_copied}
use Rattle.std.proofs.lemmas.Grind.{common_steps}
use Rattle.jsp_model.specs.declared.state.Row.{Row}
use Rattle.jsp_index.specs.Finding.{is_next}
use Rattle.jsp_index.specs.Own.{is_own}
use Rattle.jsp_index.proofs.Walks.{walk_more, walk_over, mapped_more}
use Rattle.jsp_index.proofs.OwnRows.{least_kept, found_over}
use Rattle.jsp_index.proofs.walking.entries_found.Goals as goal

pub returns-in_default-clause-found : goal.returns-in_default-clause-found
returns-in_default-clause-found g c =
    let passed = g.P.Test.is_passed c.args.test.now in
    let rows = c.args.rows.now in
    let none : find (is_next passed c.rows.after) rows ≡ None = sym c.in_default.ensures.found in
    c.rows.invariant.found ∙ ap (map (λ (r : Row). r.entry)) (walk_over passed rows c.args.from c.rows.after c.rows._count c.args.most none c.rows.invariant.rest (omega (arith, c.rows-test.true)))

pub rows-init : goal.rows-init
rows-init g c = record {
  rest = first_of (search rules, grind (arith, common_steps));
  found = first_of (search rules, grind (arith, common_steps));
  kept = least_kept (g.P.Test.is_passed c.args.test.now) (is_own (option_copied c.scope-scope.result.own)) c.args.rows.now c.args.from c.args.from (option_copied c.first_own-own.result) (omega arith) c.first_own-own.ensures;
}

pub rows-preserved : goal.rows-preserved
rows-preserved g c =
    let passed = g.P.Test.is_passed c.args.test.now in
    let rows = c.args.rows.now in
    let from = c.args.from in
    let after = c.rows.after in
    let r = c.in-Some.row.now in
    let there : find (is_next passed after) rows ≡ Some r = sym c.in-Some.ensures.found in
    let up = c.first_beside.ensures.numbered.rising in
    record {
      rest = (walk_more passed rows from after c.rows._count r up there c.rows.invariant.rest).1;
      found = mapped_more passed rows from (λ (r : Row). r.entry) after c.rows._count r up there c.rows.invariant.rest c.rows.entries c.add_entry.new.entries c.rows.invariant.found (first_of (search rules, grind (arith, common_steps)));
      kept = least_kept passed (is_own (option_copied c.scope-scope.result.own)) rows after r.number (option_copied c.next_own-own.result) (found_over passed after rows r there) c.next_own-own.ensures;
    }
