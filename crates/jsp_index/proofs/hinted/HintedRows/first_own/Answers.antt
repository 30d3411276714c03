use Rattle.std.proofs.Common.{ℕ, List, Option, Some, None, Bor, refl, option_copied, sym, ◌∙◌, subst}
use Rattle.jsp_model.specs.declared.state.Row.{Row}
use Rattle.jsp_keyed.proofs.Least.{least_none}
use Rattle.jsp_index.specs.Finding.{number, is_next, IsLeast}
use Rattle.jsp_index.specs.Own.{is_own}
use Rattle.jsp_index.proofs.Covering.{and_both}
use Rattle.jsp_index.proofs.hinted.HintedRows.first_own.Goals as goal

pub first_of_own-requires : goal.first_of_own-requires
first_of_own-requires g c = λ r h. (and_both _ _ (c.requires r h)).0

pub returns-in-None : goal.returns-in-None
returns-in-None g c =
    let p = is_next (g.P.Test.is_passed c.args.test.now) c.args.after in
    let rows = c.args.self.now in
    subst (λ (o : Option (Bor (List ℕ))). IsLeast p (is_own (option_copied o)) rows None) (sym c.in-None.is) (least_none number p (is_own None) rows (λ r. refl))

pub returns-in-Some : goal.returns-in-Some
returns-in-Some g c =
    let p = is_next (g.P.Test.is_passed c.args.test.now) c.args.after in
    let found = option_copied c.first_of_own.result in
    let here = subst (λ (w : List Row). IsLeast p (is_own (Some c.in-Some.own.now)) w found) (c.keyed.ensures ∙ c.self.view_is) c.first_of_own.ensures in
    subst (λ (o : Option (Bor (List ℕ))). IsLeast p (is_own (option_copied o)) c.args.self.now found) (sym c.in-Some.is) here
