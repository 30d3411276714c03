use Rattle.std.proofs.Common.{◌≡◌, ℕ, Bool, true, List, [], ◌∷◌, ap, sym, ◌∙◌, subst}
use Rattle.std.specs.List.{AllByRecursion}
use Rattle.std.proofs.lemmas.Result.{IfOk-weaker}
use Rattle.jsp_model.specs.declared.state.Row.{Row}
use Rattle.jsp_table.specs.Numbers.{contains}
use Rattle.jsp_index.specs.declared.holding.Holding.{Holding}
use Rattle.jsp_index.specs.Holding.{listed_in, is_in}
use Rattle.jsp_index.proofs.Walks.{named_filter}
use Rattle.jsp_index.proofs.Listed.{one_item, only_listed}
use Rattle.jsp_index.proofs.listing.rows_held.Goals as goal

pub returns-in-len1 : goal.returns-in-len1
returns-in-len1 g c =
    let p : Row → Bool = g.P.Test.is_passed c.args.test.now in
    let rows = c.args.rows.now in
    let one = c.holding-item.result in
    let alone : c.args.holdings.now ≡ one ∷ [] = one_item c.args.holdings.now one c.in-len1.len_at_least c.in-len1.len_below ∙ ap (λ h. h ∷ []) (sym c.holding-item.is) in
    let listed = subst (λ (hs : List Holding). AllByRecursion (λ (r : Row). p r ≡ true → is_in (listed_in hs r.space) r.number ≡ true) rows) alone c.requires in
    let all = named_filter (λ (r : Row). p r ≡ true → is_in (listed_in (one ∷ []) r.space) r.number ≡ true) p (λ (r : Row). contains one.numbers r.number) rows c.rows_named.ensures.positive listed
    (λ r h k. only_listed one r.space r.number (h k)) in
    IfOk-weaker c.rows_named.result _ _ (λ v e. e ∙ all) c.rows_named.ensures.found

pub returns : goal.returns
returns g c =
    let p : Row → Bool = g.P.Test.is_passed c.args.test.now in
    let rows = c.args.rows.now in
    let all = named_filter (λ (r : Row). p r ≡ true → is_in (listed_in c.args.holdings.now r.space) r.number ≡ true) p (λ (r : Row). contains c.in_ok-numbers-2.numbers r.number) rows c.rows_named-2.ensures.positive c.requires
    (λ r h k. c.in_ok-numbers-2.ensures r.number (subst (λ (ns : List ℕ). contains ns r.number ≡ true) (sym c.deref.ensures.value) (c.in_ok-numbers.ensures r.space r.number (h k)))) in
    IfOk-weaker c.rows_named-2.result _ _ (λ v e. e ∙ all) c.rows_named-2.ensures.found
