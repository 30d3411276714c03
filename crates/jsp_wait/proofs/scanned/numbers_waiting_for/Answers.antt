use Rattle.std.proofs.Common.{◌≡◌, ◌||◌, ℕ, List, map, filter, not, sym, subst, true}
use Rattle.std.specs.List.{list_all}
use Rattle.jsp_model.specs.Lookup.{contains}
use Rattle.jsp_wait.specs.Offered.{waits_for}
use Rattle.jsp_wait.proofs.Least.{number}
use Rattle.jsp_wait.proofs.Numbered.{all_listed, ok_weaker}
use Rattle.jsp_wait.proofs.scanned.numbers_waiting_for.Goals as goal

pub returns : goal.returns
returns c =
    let p = waits_for c.args.classes.now c.args.row.now in
    ok_weaker c.list_waiting_for.result (λ v. v.items ≡ map number (filter p c.args.requests.now)) (λ v. list_all (λ b. not (p b) || contains v.items b.number) c.args.requests.now ≡ true)
    (λ v e. subst (λ (ns : List ℕ). list_all (λ b. not (p b) || contains ns b.number) c.args.requests.now ≡ true) (sym e) (all_listed p c.args.requests.now)) c.list_waiting_for.ensures
