use Rattle.std.proofs.Common.{◌≡◌, true, string_bytes, sym, subst, rules}
use Rattle.std.specs.HashMap.{get_by_text}
use Rattle.std.specs.Arc.{arc_value}
use Rattle.jsp_types.specs.Descendants.{is_in}
use Rattle.jsp_types.proofs.NameMaps.{same_by_name}
use Rattle.jsp_types.proofs.descendants.note_in.Goals as goal

pub returns-in_err-lists-clause-keeps : goal.returns-in_err-lists-clause-keeps
returns-in_err-lists-clause-keeps c d name there =
    subst (λ o. is_in o name ≡ true)
    (sym (same_by_name (λ s t. string_bytes t ≡ string_bytes s) (λ v w. w ≡ v) (λ s t h. h) (λ v w h. h) (arc_value c.args.shared.now) (arc_value c.make_mut.follows.lender-at-none) (rw c.in_err-lists.was at c.make_mut.follows.holds-at-none) d))
    there

pub returns-clause-keeps : goal.returns-clause-keeps
returns-clause-keeps c d name there =
    let same = same_by_name (λ s t. string_bytes t ≡ string_bytes s) (λ v w. w ≡ v) (λ s t h. h) (λ v w h. h) (arc_value c.args.shared.now) c.in_ok-lists.lists.now c.in_ok-lists.ensures.value d in
    subst (λ m. is_in (get_by_text m d) name ≡ true) (sym (c.make_mut.follows.holds c.add_to.new.lists (search rules)))
    (c.add_to.ensures.keeps d name (subst (λ o. is_in o name ≡ true) (sym same) there))
