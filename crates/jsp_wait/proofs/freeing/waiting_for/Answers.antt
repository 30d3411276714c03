use Rattle.std.proofs.Common.{◌≡◌, ◌&&◌, ◌||◌, ℕ, List, not, sym, subst, true}
use Rattle.std.specs.List.{list_any, list_all}
use Rattle.std.specs.Prelude.{◌==◌}
use Rattle.jsp_model.specs.declared.state.Blocked.{Blocked}
use Rattle.jsp_model.specs.Sight.{is_if}
use Rattle.jsp_model.specs.Lookup.{contains}
use Rattle.jsp_keyed.proofs.Walking.{and_both}
use Rattle.jsp_sight.specs.Rows.{wanted}
use Rattle.jsp_wait.specs.Offered.{waits_for}
use Rattle.jsp_wait.proofs.Numbered.{not_any, none_waits, all_named, ok_weaker}
use Rattle.jsp_wait.proofs.Seeking.{asked_for}
use Rattle.jsp_wait.proofs.freeing.waiting_for.Goals as goal

pub returns-then-is_free_of_conflicts : goal.returns-then-is_free_of_conflicts
returns-then-is_free_of_conflicts c =
    none_waits c.args.classes.now c.args.row.now c.new.result.items c.args.requests.now
    (not_any c.is_free_of_conflicts.result (list_any (λ (b : Blocked). b.space == c.args.row.now.space && is_if b.form) c.args.requests.now) c.is_free_of_conflicts.ensures c.if-is_free_of_conflicts.true)

pub passing-requires : goal.passing-requires
passing-requires c = λ seed b h. asked_for seed c.args.classes.now b c.args.row.now (and_both (is_if b.form) (wanted c.args.classes.now b c.args.row.now) h).1

pub returns : goal.returns
returns c =
    let p = waits_for c.args.classes.now c.args.row.now in
    ok_weaker c.to_vec-2.result (λ v. v.items ≡ c.in_ok-passing.field-0) (λ v. list_all (λ b. not (p b) || contains v.items b.number) c.args.requests.now ≡ true)
    (λ v e. subst (λ (ns : List ℕ). list_all (λ b. not (p b) || contains ns b.number) c.args.requests.now ≡ true) (sym e) (all_named p c.in_ok-passing.field-0 c.args.requests.now c.in_ok-passing.ensures.named)) c.to_vec-2.ensures
