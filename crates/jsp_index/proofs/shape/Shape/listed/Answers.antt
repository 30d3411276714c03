use Rattle.std.proofs.Common.{◌≡◌, ℕ, true, arith, rules}
use Rattle.std.proofs.lemmas.Grind.{common_steps}
use Rattle.jsp_index.proofs.Shaped.{named_by_key}
use Rattle.jsp_index.proofs.shape.Shape.listed.Goals as goal

pub returns : goal.returns
returns c classes rows h =
    let whole : c.args.self.now.is_whole ≡ true = first_of (search rules, grind (arith, common_steps)) in
    let at : c.args.self.now.space ≡ c.args.space = first_of (search rules, omega arith, grind (arith, common_steps)) in
    named_by_key c.args.seed c.args.space c.args.self.now classes c.args.like.now c.numbers_at.result.now c.in-Some.key rows whole at (search rules) c.numbers_at.ensures h
