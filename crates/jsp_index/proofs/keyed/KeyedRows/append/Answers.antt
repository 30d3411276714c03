use Rattle.std.proofs.Common.{◌≡◌, ◌<◌, List, ◌++◌, ◌-◌, ap, sym, ◌∙◌, subst, arith}
use Rattle.jsp_model.specs.declared.state.Row.{Row}
use Rattle.jsp_table.specs.Counts.{count_of}
use Rattle.jsp_index.specs.Seen.{AreSeen}
use Rattle.jsp_index.specs.Counted.{count_in}
use Rattle.std.specs.List.{AllByRecursion}
use Rattle.jsp_index.specs.Passed.{IsOverAll, ArePassed}
use Rattle.jsp_index.proofs.Heads.{passed_added, passed_still, second_all}
use Rattle.jsp_index.proofs.Beside.{more_beside, added_beside, back_beside, counts_fit}
use Rattle.jsp_index.specs.declared.shape.Shape.{Shape}
use Rattle.jsp_index.specs.Shapes.{AreShaped}
use Rattle.jsp_index.proofs.Shaped.{no_shapes}
use Rattle.jsp_index.proofs.keyed.KeyedRows.append.Goals as goal

pub count_all-requires-clause-fits : goal.count_all-requires-clause-fits
count_all-requires-clause-fits c k =
    let self = c.self.inside in
    let start = more_beside self.seen self.counts self.rows c.self.invariant.0 c.see_all.new.seen c.make_room_for.new.counts c.see_all.ensures.keeps c.make_room_for.ensures.same in
    counts_fit c.see_all.new.seen c.make_room_for.new.counts self.rows start c.places.result.now c.deref-4.result.now c.places.ensures.things (omega (arith, c.places.type_inv.1)) (omega (arith, c.deref-4.type_inv.1)) k

pub put_all_above-requires : goal.put_all_above-requires
put_all_above-requires c = subst (AllByRecursion (λ (r : Row). 0 < r.number)) (sym c.deref-3.ensures.value) (second_all (λ (r : Row). 0 < r.number) c.args.self.now c.args.rows.now.items c.requires.positive)

pub invariant_of-self-in-Err : goal.invariant_of-self-in-Err
invariant_of-self-in-Err c =
    let self = c.self.inside in
    let start = more_beside self.seen self.counts self.rows c.self.invariant.0 c.see_all.new.seen c.make_room_for.new.counts c.see_all.ensures.keeps c.make_room_for.ensures.same in
    let same : c.deref-in-Err.result.now ≡ c.deref-4.result.now = c.deref-in-Err.ensures.value ∙ (c.in-Err.ensures.things_stay ∙ sym c.deref-4.ensures.value) in (
      back_beside c.see_all.new.seen c.make_room_for.new.counts self.rows start c.count_all.new.counts c.uncount_all.new.counts c.deref-4.result.now c.append.new.self c.count_all.ensures
          (λ k. c.uncount_all.ensures k ∙ ap (λ ws. count_of c.count_all.new.counts k - count_in k ws) same) c.in-Err.ensures.err,
      (
        subst (ArePassed self.seed c.put_all_above.new.starts) (sym c.in-Err.ensures.err) (passed_still self.seed self.starts c.put_all_above.new.starts self.rows c.put_all_above.ensures.down c.self.invariant.1.0),
        subst (λ (w : List Shape). AreShaped self.seed w c.append.new.self) (sym c.clear.ensures) (no_shapes self.seed c.append.new.self),
      ),
    )

pub pass_all-requires : goal.pass_all-requires
pass_all-requires c =
    let self = c.self.inside in
    let starts = c.put_all_above.new.starts in
    let come : AllByRecursion (IsOverAll self.seed starts) c.args.rows.now.items = subst (AllByRecursion (IsOverAll self.seed starts)) c.deref-3.ensures.value c.put_all_above.ensures.above in
    subst (ArePassed self.seed starts) (sym c.in_default.ensures.ok) (passed_added self.seed starts self.rows c.args.rows.now.items (passed_still self.seed self.starts starts self.rows c.put_all_above.ensures.down c.self.invariant.1.0) come)

pub invariant_of-self-2 : goal.invariant_of-self-2
invariant_of-self-2 c =
    let self = c.self.inside in
    let start = more_beside self.seen self.counts self.rows c.self.invariant.0 c.see_all.new.seen c.make_room_for.new.counts c.see_all.ensures.keeps c.make_room_for.ensures.same in (
      added_beside c.see_all.new.seen c.make_room_for.new.counts self.rows start c.count_all.new.counts c.deref-4.result.now c.append.new.self
          (subst (AreSeen c.see_all.new.seen) (c.deref.ensures.value ∙ sym c.deref-4.ensures.value) c.in_ok-see_all.ensures.ok) c.count_all.ensures
          (c.in_default.ensures.ok ∙ ap (λ ws. self.rows ++ ws) (sym c.deref-4.ensures.value)),
      (
        c.pass_all.ensures,
        subst (AreShaped self.seed c.add.new.self.list) (ap (λ ws. self.rows ++ ws) (c.deref-6.ensures.value) ∙ sym c.in_default.ensures.ok) (c.add.ensures self.rows c.self.invariant.1.1),
      ),
    )
