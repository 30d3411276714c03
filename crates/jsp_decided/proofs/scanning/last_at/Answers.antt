use Rattle.std.proofs.Common.{◌≡◌, ◌+◌, ◌++◌, ◌∷◌, [], ℕ, None, List, length, take, ap, sym, ◌∙◌, arith}
use Rattle.std.specs.Prelude.{filter}
use Rattle.std.specs.List.{cons_option, last_or}
use Rattle.std.proofs.lemmas.List.{take_all, append-nil, length-append}
use Rattle.jsp_model.specs.declared.state.Row.{Row}
use Rattle.jsp_table.specs.Places.{living}
use Rattle.jsp_index.proofs.Walks.{map_take}
use Rattle.jsp_decided.proofs.Lasts.{numbers, numbers_placed, one_place_more, enough, last_of_more}
use Rattle.jsp_decided.proofs.scanning.last_at.Goals as goal
use Rattle.jsp_decided.proofs.scanning.last_at.Goals.{in-Some, in_default}

pub returns-then-most-count : goal.returns-then-most-count
returns-then-most-count g c =
    let p = g.P.Test.is_passed c.args.test.now in
    let places = c.args.places.now in
    let full : length (numbers p (take c.places.place-index places)) ≡ c.args.most = omega (arith, c.places.invariant.counted, c.places.invariant.few, c.if-most-count.true) in
    c.places.invariant.found
    ∙ ap (last_or None) (enough p places c.places.place-index c.args.most full ∙ (ap (take c.args.most) (numbers_placed p places) ∙ sym (map_take (λ (r : Row). r.number) c.args.most (filter p (living places)))))

pub places-preserved : goal.places-preserved
places-preserved g c =
    let p = g.P.Test.is_passed c.args.test.now in
    let places = c.args.places.now in
    let i = c.places.place-index in
    let before = numbers p (take i places) in
    let more = one_place_more p places i c.place-item.result c.places-test.true c.place-item.is in
    elim c.match-number_at.branch [
      | in-Some w ↦
          let n = w.in-Some.number in
          let grown : numbers p (take (i + 1) places) ≡ before ++ n ∷ [] = more ∙ ap (λ o. before ++ cons_option o []) (sym c.number_at.ensures ∙ w.in-Some.is) in
          record {
            found = w.last-is ∙ sym (ap (last_or None) grown ∙ last_of_more None before n);
            counted = w.count-is ∙ (ap (λ k. k + 1) c.places.invariant.counted ∙ sym (ap (λ (w : List ℕ). length w) grown ∙ length-append before (n ∷ [])));
            few = omega (arith, w.count-is, c.if-most-count.false);
          }
      | in_default w ↦
          let same : numbers p (take (i + 1) places) ≡ before = more ∙ (ap (λ o. before ++ cons_option o []) (sym c.number_at.ensures ∙ w.in_default.is) ∙ append-nil before) in
          record {
            found = w.last-is ∙ (c.places.invariant.found ∙ ap (last_or None) (sym same));
            counted = w.count-is ∙ (c.places.invariant.counted ∙ ap (λ (w : List ℕ). length w) (sym same));
            few = omega (arith, w.count-is, c.places.invariant.few);
          }
    ]

pub returns : goal.returns
returns g c =
    let p = g.P.Test.is_passed c.args.test.now in
    let places = c.args.places.now in
    let whole : take c.places.place-index places ≡ places = take_all c.places.place-index places (omega (arith, c.places-test.false)) in
    let all : numbers p (take c.places.place-index places) ≡ numbers p places = ap (numbers p) whole in
    c.places.invariant.found
    ∙ ap (last_or None) (all ∙ (sym (take_all c.args.most (numbers p places) (omega (arith, c.places.invariant.few, c.places.invariant.counted, ap (λ (w : List ℕ). length w) all)))
    ∙ (ap (take c.args.most) (numbers_placed p places) ∙ sym (map_take (λ (r : Row). r.number) c.args.most (filter p (living places))))))
