use Rattle.std.proofs.Common.{◌≡◌, subst, refl, rules}
use Rattle.std.proofs.lemmas.Fn.{always_returns_same}
use Rattle.std.specs.List.{IsAllAdjacentAnswer}
use Rattle.std.specs.Cmp.Lexicographic.{slice_cmp}
use Rattle.std.specs.Ordering.{nat_cmp, is_lt}
use Rattle.jsp_reply.proofs.Ordered.{Field, members-in_order}
use Rattle.jsp_reply.proofs.members.are_in_order.Goals as goal

pub returns : goal.returns
returns c holds =
    let fields = c.args.fields.now in
    let answer = c.is_sorted_by.ensures.cases (λ (f g : Field). is_lt (slice_cmp nat_cmp f.0 g.0)) (always_returns_same _ _ _ (λ a r f' k. (search rules, refl))) in
    members-in_order fields (subst (λ b. IsAllAdjacentAnswer (λ (f g : Field) b. b ≡ is_lt (slice_cmp nat_cmp f.0 g.0)) fields b) holds answer)
