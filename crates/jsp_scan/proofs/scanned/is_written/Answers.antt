use Rattle.std.proofs.Common.{◌≡◌, ◌∙◌, ap, sym, refl, Bool, true, false, get_or, arith}
use Rattle.std.specs.Prelude.{◌==◌, ◌&&◌, ◌||◌}
use Rattle.std.proofs.lemmas.Bool.{eq-eqb, ne_eqb}
use Rattle.std.proofs.lemmas.List.{take_all}
use Rattle.std.proofs.lemmas.List.Folds.{list_any_at, list_any_more}
use Rattle.std.specs.List.{list_any}
use Rattle.jsp_model.specs.declared.state.Row.{Row as OfRow}
use Rattle.jsp_scan.proofs.scanned.is_written.Goals as goal
use Rattle.jsp_scan.proofs.scanned.is_written.Goals.{else-row-number-via-then-row-number+else-test, else-row-number-via-else-row-number}

pub returns-then-test : goal.returns-then-test
returns-then-test g c = λ p h.
    let passes : p c.row-item.result.writer ≡ true = sym (h c.row-item.result.writer c.test.result (record { met = c.test.ensures })) ∙ c.if-test.true in
    let both : (c.row-item.result.number == c.args.number && p c.row-item.result.writer) ≡ true = rw (eq-eqb c.row-item.result.number c.args.number c.if-row-number.true, passes) refl in
    sym (list_any_at (λ (r : OfRow). r.number == c.args.number && p r.writer) c.args.rows.now c.rows.row-index c.row-item.result c.rows-test.true (ap (λ (r : OfRow). r.number == c.args.number && p r.writer) (sym c.row-item.is) ∙ both))

pub rows-preserved : goal.rows-preserved
rows-preserved g c = λ p h.
    let test = λ (r : OfRow). r.number == c.args.number && p r.writer in
    let none : (c.row-item.result.number == c.args.number && p c.row-item.result.writer) ≡ false = elim c.else-row-number.branch [
      | else-row-number-via-then-row-number+else-test w ↦
          let fails : p c.row-item.result.writer ≡ false = sym (h c.row-item.result.writer w.test.result (record { met = w.test.ensures })) ∙ w.if-test.false in
          rw (eq-eqb c.row-item.result.number c.args.number w.if-row-number.true, fails) refl
      | else-row-number-via-else-row-number w ↦ rw (ne_eqb c.row-item.result.number c.args.number w.if-row-number.false) refl
    ] in
    list_any_more test c.args.rows.now c.rows.row-index c.row-item.result c.rows-test.true
    ∙ (ap (λ (b : Bool). b || test (get_or c.args.rows.now c.rows.row-index c.row-item.result)) (c.rows.invariant p h) ∙ (ap test (sym c.row-item.is) ∙ none))

pub returns : goal.returns
returns g c = λ p h.
    sym (ap (list_any (λ (r : OfRow). r.number == c.args.number && p r.writer)) (sym (take_all c.rows.row-index c.args.rows.now (omega (arith, c.rows-test.false)))) ∙ c.rows.invariant p h)
