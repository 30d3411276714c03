use Rattle.std.proofs.Common.{◌≡◌, ◌<◌, length, take, get_or, arith, rules, subst}
use Rattle.std.specs.List.{AllByRecursion}
use Rattle.std.proofs.lemmas.Grind.{common_steps}
use Rattle.std.proofs.lemmas.List.{take_all}
use Rattle.jsp_index.specs.declared.starts.Unseen.{Unseen}
use Rattle.jsp_index.specs.Starts.{start_at}
use Rattle.jsp_index.specs.Keys.{row_keys}
use Rattle.jsp_index.proofs.Heads.{keys_more, keys_above, le_le, at_zero}
use Rattle.jsp_index.proofs.passing.put_above.Goals as goal

pub returns-then-has_none-clause-above : goal.returns-then-has_none-clause-above
returns-then-has_none-clause-above c u k has = at_zero (start_at u c.args.starts.now k) c.args.row.now.number (c.if-has_none.ensures u k) c.requires

pub places-preserved : goal.places-preserved
places-preserved c =
    let seed = c.args.seed in
    let keys = row_keys seed c.args.row.now in
    let n = c.args.row.now.number in
    let i = c.places.place in
    let lt : i < length keys = omega (arith, c.places-test.true, c.count-place-end.ensures) in
    let key : c.key.result ≡ get_or keys i 0 = first_of (search rules, grind (arith, common_steps)) in
    record {
      down = λ u k. le_le (start_at u c.lower_start.new.starts k) (start_at u c.places.starts k) (start_at u c.args.starts.now k) (c.lower_start.ensures.down u k) (c.places.invariant.down u k);
      below = keys_more seed c.places.starts c.lower_start.new.starts n i keys c.lower_start.ensures.down lt (λ u. subst (λ k. start_at u c.lower_start.new.starts k < n) key (c.lower_start.ensures.below u)) c.places.invariant.below;
    }

pub returns-clause-above : goal.returns-clause-above
returns-clause-above c =
    let keys = row_keys c.args.seed c.args.row.now in
    let i = c.places.place in
    let n = c.args.row.now.number in
    let all : take i keys ≡ keys = take_all i keys (omega (arith, c.places-test.false, c.count-place-end.ensures)) in
    keys_above c.args.seed c.places.starts n keys (subst (AllByRecursion (λ k. (u : Unseen) → start_at u c.places.starts k < n)) all c.places.invariant.below)
