use Rattle.std.proofs.Common.{◌≡◌, true, [], Some, None, ap, sym, subst, true≢false, ◌∙◌, arith, rules}
use Rattle.std.specs.Prelude.{nat_eq, option_and_then, map}
use Rattle.std.specs.HashMap.{get}
use Rattle.std.proofs.lemmas.Grind.{common_steps}
use Rattle.std.proofs.lemmas.Result.{IfOk-weaker}
use Rattle.jsp_model.specs.declared.state.Row.{Row}
use Rattle.jsp_sight.specs.Rows.{is_held}
use Rattle.jsp_table.proofs.Finding.{each}
use Rattle.jsp_index.specs.Holding.{listed_in, is_in, IsHeld}
use Rattle.jsp_sight.specs.Deciding.{covers}
use Rattle.jsp_index.specs.Ending.{EndsAll}
use Rattle.jsp_index.proofs.Holders.{held_listed}
use Rattle.jsp_index.proofs.Fates.{decision_of, all_alike, listed_covered}
use Rattle.jsp_index.proofs.hinted.HintedRows.decisions.Goals as goal

pub returns-in-None : goal.returns-in-None
returns-in-None c =
    let holders = c.self.inside.holders in
    let x = c.args.x in
    let none : get nat_eq holders x ≡ None = first_of (search rules, grind (arith, common_steps)) in
    let empty : c.new.result.items ≡ [] = first_of (search rules, grind (arith, common_steps)) in
    let nowhere = each (IsHeld holders) (λ (r : Row). is_held x r ≡ true → covers [] r.space ≡ true) c.self.inside.rows c.self.invariant
    (λ r h k. absurd (true≢false (sym (held_listed holders x r h k) ∙ ap (λ o. is_in (option_and_then (λ hs. listed_in hs r.space) o) r.number) none))) in
    subst (λ ds. EndsAll x c.args.commits ds c.args.self.now) (sym empty) (subst (EndsAll x c.args.commits []) c.self.view_is (record { alike = tt; covering = nowhere }))

pub returns-in-Some : goal.returns-in-Some
returns-in-Some c =
    let holders = c.self.inside.holders in
    let x = c.args.x in
    let commits = c.args.commits in
    let hs = c.as_slice.result.now in
    let there : get nat_eq holders x ≡ Some hs = first_of (search rules, grind (arith, common_steps)) in
    let covering = each (IsHeld holders) (λ (r : Row). is_held x r ≡ true → covers (map (decision_of x commits) hs) r.space ≡ true) c.self.inside.rows c.self.invariant
    (λ r h k. listed_covered x commits hs r.space r.number (sym (ap (λ o. is_in (option_and_then (λ hs. listed_in hs r.space) o) r.number) there) ∙ held_listed holders x r h k)) in
    let ends : EndsAll x commits (map (decision_of x commits) hs) c.args.self.now = subst (EndsAll x commits (map (decision_of x commits) hs)) c.self.view_is (record { alike = all_alike x commits hs; covering = covering }) in
    IfOk-weaker c.decisions_in.result _ _ (λ v is. subst (λ ds. EndsAll x commits ds c.args.self.now) (sym is) ends) c.decisions_in.ensures
