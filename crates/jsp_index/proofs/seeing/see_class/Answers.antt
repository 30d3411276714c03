use Rattle.std.proofs.Common.{◌≡◌, arith, rules}
use Rattle.std.proofs.lemmas.Grind.{common_steps}
use Rattle.jsp_index.proofs.Classes.{seen_now}
use Rattle.jsp_index.proofs.seeing.see_class.Goals as goal

pub returns-in_ok-push-clause-ok : goal.returns-in_ok-push-clause-ok
returns-in_ok-push-clause-ok c =
    let same : c.in_ok-clone.field-0 ≡ c.args.class.now = first_of (search rules, grind (arith, common_steps)) in
    seen_now c.args.seen.now c.push.new.self c.in_ok-clone.field-0 c.args.class.now c.in_ok-push.ensures.ok same
