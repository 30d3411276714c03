use Rattle.std.proofs.Common.{◌≡◌, true, false, take, Some, ap, sym, ◌∙◌, subst, arith, eqb}
use Rattle.std.specs.List.{AllByRecursion, filter_map}
use Rattle.std.proofs.lemmas.List.{take_all}
use Rattle.jsp_model.specs.declared.state.Row.{Row}
use Rattle.jsp_table.specs.Numbers.{contains}
use Rattle.jsp_index.specs.declared.holding.Holding.{Holding}
use Rattle.jsp_index.specs.Changing.{revised_by}
use Rattle.jsp_index.proofs.Listed.{none_yet, next_listed, one_space_more, all_revised, revised_in, revised_of}
use Rattle.jsp_index.proofs.revising.revise_holdings.Goals as goal

pub holdings-init : goal.holdings-init
holdings-init g c = none_yet (g.R.Revision.is_gone c.args.revision.now) (g.R.Change.changed c.args.revision.now) c.args.holdings.now c.args.rows.now

pub revise_space-requires-clause-listed : goal.revise_space-requires-clause-listed
revise_space-requires-clause-listed g c =
    let gone = g.R.Revision.is_gone c.args.revision.now in
    let changed = g.R.Change.changed c.args.revision.now in
    let d = c.holding-item.result in
    let next = next_listed gone changed c.requires.once c.args.holdings.now c.holdings.holding-index d c.args.rows.now c.holdings-test.true c.requires.listed in
    subst (λ rows. AllByRecursion (λ (r : Row). eqb r.space d.space ≡ true → contains d.numbers r.number ≡ false → revised_by gone changed r ≡ Some r) rows) (sym c.holdings.invariant)
    (subst (λ (h : Holding). AllByRecursion (λ (r : Row). eqb r.space h.space ≡ true → contains h.numbers r.number ≡ false → revised_by gone changed r ≡ Some r) (filter_map (revised_of gone changed (take c.holdings.holding-index c.args.holdings.now)) c.args.rows.now))
    (sym c.holding-item.is) next)

pub holdings-preserved : goal.holdings-preserved
holdings-preserved g c =
    let gone = g.R.Revision.is_gone c.args.revision.now in
    let changed = g.R.Change.changed c.args.revision.now in
    let d = c.holding-item.result in
    c.revise_space.ensures ∙ (ap (filter_map (revised_in gone changed d.space)) c.holdings.invariant
    ∙ (ap (λ (h : Holding). filter_map (revised_in gone changed h.space) (filter_map (revised_of gone changed (take c.holdings.holding-index c.args.holdings.now)) c.args.rows.now)) c.holding-item.is
    ∙ one_space_more gone changed c.requires.once c.args.holdings.now c.holdings.holding-index d c.args.rows.now c.holdings-test.true))

pub returns : goal.returns
returns g c =
    let gone = g.R.Revision.is_gone c.args.revision.now in
    let changed = g.R.Change.changed c.args.revision.now in
    let whole : take c.holdings.holding-index c.args.holdings.now ≡ c.args.holdings.now = take_all c.holdings.holding-index c.args.holdings.now (omega (arith, c.holdings-test.false)) in
    c.holdings.invariant ∙ (ap (λ hs. filter_map (revised_of gone changed hs) c.args.rows.now) whole ∙ all_revised gone changed c.args.holdings.now c.args.rows.now c.requires.listed)
