use Rattle.std.proofs.Common.{◌≡◌, Some, true, sym, subst, rules}
use Rattle.std.specs.HashMap.{get_by_text}
use Rattle.std.proofs.lemmas.Map.Text.{hash_map_updates_text}
use Rattle.jsp_types.specs.Descendants.{is_in}
use Rattle.jsp_types.proofs.Descending.{Keeps-written}
use Rattle.jsp_types.proofs.descendants.add_to.Goals as goal

pub returns-in-Some-clause-keeps : goal.returns-in-Some-clause-keeps
returns-in-Some-clause-keeps c =
    Keeps-written (get_by_text c.args.lists.now) (get_by_text (c.get_mut.follows.lender c.add.new.self)) c.args.ancestor.now c.add.new.self
    (hash_map_updates_text c.args.ancestor.now c.args.lists.now (c.get_mut.follows.lender c.add.new.self) (Some c.add.new.self) ((c.get_mut.follows.holds c.add.new.self).3 (search rules)))
    (λ name there. c.add.ensures.keeps name (subst (λ o. is_in o name ≡ true) (sym c.in-Some.ensures.value) there))

pub returns-clause-keeps : goal.returns-clause-keeps
returns-clause-keeps c d name there =
    c.begin_list.ensures.keeps d name (subst (λ m. is_in (get_by_text m d) name ≡ true) (sym c.get_mut.follows.holds-at-none) there)
