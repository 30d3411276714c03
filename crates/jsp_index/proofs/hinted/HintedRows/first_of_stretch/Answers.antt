use Rattle.std.proofs.Common.{◌≡◌, ℕ, Bool, true, ◌&&◌, eqb, Option, List, cond, option_copied, ap, ◌∙◌, subst}
use Rattle.std.specs.Prelude.{find, option_map}
use Rattle.jsp_model.specs.declared.state.Row.{Row}
use Rattle.jsp_index.specs.declared.starts.Unseen.{Unseen}
use Rattle.jsp_index.specs.declared.starts.Unseen.TheVariants.{Held, Hidden}
use Rattle.jsp_index.specs.Finding.{number, is_next, lesser}
use Rattle.jsp_index.specs.Numbered.{AreNumbered}
use Rattle.jsp_index.specs.Own.{is_within}
use Rattle.jsp_index.proofs.Covering.{and_both}
use Rattle.jsp_index.proofs.Having.{all_had_or}
use Rattle.jsp_index.proofs.OwnRows.{is_before}
use Rattle.jsp_index.proofs.ByStretches.{is_mine, mine_or_open}
use Rattle.jsp_index.proofs.hinted.HintedRows.first_of_stretch.Goals as goal

pub returns-clause-found : goal.returns-clause-found
returns-clause-found g c =
    let here : Row → Bool = λ r. is_within c.args.last r.number && g.P.Test.is_passed c.args.test.now r in
    let from = c.args.from in
    let own = c.args.own.now in
    let rows = c.args.self.now in
    let strange : Unseen = cond c.args.sought.now.takes Held Hidden in
    let mine : Option Row = option_copied c.first_of_many-mine.result in
    let first : Option Row = find (is_next (is_mine here own from rows) from) rows in
    let found : mine ≡ first = c.first_of_many-mine.ensures in
    let passes : (r : Row) → here r ≡ true → g.P.Test.is_passed c.args.test.now r ≡ true = λ r h. (and_both (is_within c.args.last r.number) (g.P.Test.is_passed c.args.test.now r) h).1 in
    let inside : (r : Row) → here r ≡ true → eqb r.space c.args.sought.now.space ≡ true = λ r h. (and_both _ _ (c.requires.asked r (passes r h))).0 in
    let opens = all_had_or strange own c.args.sought.now.space c.args.sought.now.takes c.args.sought.now.transaction here rows inside (λ r h. c.requires.had r (passes r h)) c.requires.opens in
    let up = subst AreNumbered c.self.view_is c.first_behind-open.ensures.numbered in
    let before : Unseen → Option ℕ → List Row → Option Row = λ u o w. find (is_next (is_before u o here) from) w in
    let ahead : option_copied c.first_behind-open.result ≡ before strange (option_map number mine) rows = c.first_behind-open.ensures.found
    ∙ (ap (before c.unseen_by_strangers-unseen.result c.number_of-last.result) c.self.view_is
    ∙ (ap (λ (o : Option ℕ). before c.unseen_by_strangers-unseen.result o rows) c.number_of-last.ensures ∙ ap (λ (u : Unseen). before u (option_map number mine) rows) c.unseen_by_strangers-unseen.ensures)) in
    c.lesser.ensures ∙ (ap (λ (o : Option Row). lesser o mine) ahead
    ∙ (ap (λ (o : Option Row). lesser (before strange (option_map number o) rows) o) found ∙ mine_or_open here own from rows strange up opens))
