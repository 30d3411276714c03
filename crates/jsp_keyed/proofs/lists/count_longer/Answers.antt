use Rattle.std.proofs.Common.{◌≡◌, ◌∙◌, ◌+◌, ◌<◌, ℕ, Bool, cond, List, map, length, take, get_or, ap, sym, arith}
use Rattle.std.specs.Prelude.{filter}
use Rattle.std.proofs.lemmas.List.{get_or-map, length-map}
use Rattle.std.proofs.lemmas.List.Filters.{length-filter_more}
use Rattle.jsp_keys.specs.Keys.{mix}
use Rattle.jsp_keyed.specs.Several.{is_longer}
use Rattle.jsp_keyed.proofs.lists.count_longer.Goals.{then-is_longer, else-is_longer}
use Rattle.jsp_keyed.proofs.lists.count_longer.Goals as goal

one_more : (p : ℕ → Bool) (keys : List ℕ) (i n : ℕ) (b : Bool) → i < length keys → b ≡ p (get_or keys i 0) → n ≡ length (filter p (take i keys)) → n + cond b 1 0 ≡ length (filter p (take (i + 1) keys))
one_more p keys i n b lt is many =
    ap (λ (c : Bool). n + cond c 1 0) is ∙ (ap (λ (m : ℕ). m + cond (p (get_or keys i 0)) 1 0) many ∙ sym (length-filter_more p keys i 0 lt))

pub places-preserved : goal.places-preserved
places-preserved c =
    let lists = c.args.lists.now in
    let values = lists.values.now in
    let i = c.places.place in
    let n = c.places.longer in
    let key = λ (k : ℕ). mix k lists.count in
    let p = is_longer lists.hints.now c.args.limit in
    let within : i < length values = omega (arith, c.places-test.true, c.len-place-end.ensures.count) in
    let lt : i < length (map key values) = omega (arith, within, length-map values key) in
    let is : c.is_longer.result ≡ p (get_or (map key values) i 0) = c.is_longer.ensures ∙ ap p (sym (get_or-map key values i 0 0 within)) in
    let more = one_more p (map key values) i n c.is_longer.result lt is c.places.invariant.count in
    elim c.if-is_longer.branch [
      | then-is_longer w ↦ record {
        count = w.longer-is ∙ (ap (λ (b : Bool). n + cond b 1 0) (sym w.if-is_longer.true) ∙ more);
        few = omega (arith, c.places.invariant.few, w.longer-is);
      }
      | else-is_longer w ↦ record {
        count = omega (arith, w.longer-is, ap (λ (b : Bool). n + cond b 1 0) (sym w.if-is_longer.false) ∙ more);
        few = omega (arith, c.places.invariant.few, w.longer-is);
      }
    ]
