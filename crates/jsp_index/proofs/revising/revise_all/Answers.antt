use Rattle.std.proofs.Common.{◌<◌, sym, ap, ◌∙◌, arith}
use Rattle.std.specs.List.{filter_map}
use Rattle.jsp_model.specs.declared.state.Row.{Row}
use Rattle.jsp_table.proofs.Next.{next_is_above}
use Rattle.jsp_index.specs.Changing.{revised_by}
use Rattle.jsp_index.proofs.Revisions.{before_first, one_more, all_done, revised_one, keeps_number}
use Rattle.jsp_index.proofs.revising.revise_all.Goals as goal

pub numbers-init : goal.numbers-init
numbers-init g c =
    let gone = g.R.Revision.is_gone c.args.revision.now in
    let changed = g.R.Change.changed c.args.revision.now in
    before_first (λ (r : Row). r.number) (revised_by gone changed) (keeps_number gone changed c.requires.keys) c.args.numbers.now c.args.rows.now c.places.ensures.numbered.positive

pub numbers-smaller : goal.numbers-smaller
numbers-smaller g c =
    let above : c.numbers.last < c.in-Some.number = next_is_above c.args.numbers.now c.numbers.last c.in-Some.number (sym c.next_above.ensures.next ∙ c.in-Some.is) in
    omega arith

pub numbers-preserved : goal.numbers-preserved
numbers-preserved g c =
    let gone = g.R.Revision.is_gone c.args.revision.now in
    let changed = g.R.Change.changed c.args.revision.now in
    let f = revised_by gone changed in
    let n = c.in-Some.number in
    c.revise.ensures ∙ (ap (filter_map (revised_one (λ (r : Row). r.number) f n)) c.numbers.invariant
    ∙ one_more (λ (r : Row). r.number) f (keeps_number gone changed c.requires.keys) c.args.numbers.now c.numbers.last n c.args.rows.now c.next_above.ensures.increasing (sym c.next_above.ensures.next ∙ c.in-Some.is))

pub returns : goal.returns
returns g c =
    let gone = g.R.Revision.is_gone c.args.revision.now in
    let changed = g.R.Change.changed c.args.revision.now in
    let f = revised_by gone changed in
    c.numbers.invariant ∙ all_done (λ (r : Row). r.number) f (keeps_number gone changed c.requires.keys) c.args.numbers.now c.numbers.last c.args.rows.now (sym c.next_above.ensures.next ∙ c.in_default.is) c.requires.named
