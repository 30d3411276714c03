use Rattle.std.proofs.Common.{◌≡◌, ℕ, Option, List, Bor, option_copied, ap, sym, ◌∙◌, subst}
use Rattle.std.specs.Prelude.{find, option_map}
use Rattle.jsp_model.specs.declared.state.Row.{Row}
use Rattle.jsp_index.specs.Finding.{number, is_next, lesser}
use Rattle.jsp_index.specs.Numbered.{AreNumbered}
use Rattle.jsp_index.specs.Own.{own_numbers}
use Rattle.jsp_index.specs.Passed.{AreOpen, AreOpenOr}
use Rattle.jsp_index.proofs.Covering.{and_both}
use Rattle.jsp_index.proofs.Having.{all_had_or, open_alone}
use Rattle.jsp_index.proofs.OwnRows.{all_within, before_open, before_within, is_before, before_passed, open_or_own}
use Rattle.jsp_index.proofs.hinted.HintedRows.first_beside.Goals as goal

pub first_behind-requires-clause-had : goal.first_behind-requires-clause-had
first_behind-requires-clause-had g c =
    let passed = g.P.Test.is_passed c.args.test.now in
    let u = c.args.scope.now.unseen in
    let had = all_had_or u (own_numbers (option_copied c.args.scope.now.own)) c.args.sought.now.space c.args.sought.now.takes c.args.sought.now.transaction passed c.args.self.now (λ r h. (and_both _ _ (c.requires.asked r h)).0) c.requires.had c.requires.opens in
    let none = subst (λ (o : Option (Bor (List ℕ))). AreOpenOr u (own_numbers (option_copied o)) passed c.args.self.now) c.in_default-own.is had in
    subst (λ (w : List Row). AreOpen u passed w) (sym c.self.view_is) (open_alone u passed c.args.self.now none)

pub first_behind-requires-clause-within : goal.first_behind-requires-clause-within
first_behind-requires-clause-within g c = all_within (g.P.Test.is_passed c.args.test.now) c.self.inside.rows

pub first_behind-open-requires-clause-asked : goal.first_behind-open-requires-clause-asked
first_behind-open-requires-clause-asked g c = λ r h. c.requires.asked r (before_passed c.args.scope.now.unseen c.number_of-last.result (g.P.Test.is_passed c.args.test.now) r h)

pub first_behind-open-requires-clause-had : goal.first_behind-open-requires-clause-had
first_behind-open-requires-clause-had g c = before_open c.args.scope.now.unseen c.number_of-last.result (g.P.Test.is_passed c.args.test.now) c.self.inside.rows

pub first_behind-open-requires-clause-within : goal.first_behind-open-requires-clause-within
first_behind-open-requires-clause-within g c = before_within c.args.scope.now.unseen c.number_of-last.result (g.P.Test.is_passed c.args.test.now) c.self.inside.rows

pub returns-clause-found : goal.returns-clause-found
returns-clause-found g c =
    let passed = g.P.Test.is_passed c.args.test.now in
    let after = c.args.after in
    let u = c.args.scope.now.unseen in
    let own = option_copied c.args.scope.now.own in
    let other : Option Row = option_copied c.args.own in
    let rows = c.args.self.now in
    let opens = all_had_or u (own_numbers own) c.args.sought.now.space c.args.sought.now.takes c.args.sought.now.transaction passed rows (λ r h. (and_both _ _ (c.requires.asked r h)).0) c.requires.had c.requires.opens in
    let up = subst AreNumbered c.self.view_is c.first_behind-open.ensures.numbered in
    let before : Option ℕ → Option Row = λ o. find (is_next (is_before u o passed) after) rows in
    let ahead : option_copied c.first_behind-open.result ≡ before (option_map number other) = c.first_behind-open.ensures.found ∙ (ap (λ (w : List Row). find (is_next (is_before u c.number_of-last.result passed) after) w) c.self.view_is ∙ ap before c.number_of-last.ensures) in
    c.lesser.ensures ∙ (ap (λ (o : Option Row). lesser o other) ahead ∙ open_or_own u own passed after rows other up opens c.requires.least)
