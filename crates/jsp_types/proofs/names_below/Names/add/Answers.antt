use Rattle.std.proofs.Common.{◌≡◌, ◌++◌, ◌∷◌, [], true, bytes_eq, sym, ◌∙◌, ap, subst}
use Rattle.std.specs.List.{list_any}
use Rattle.jsp_types.proofs.Descending.{any_last}
use Rattle.jsp_types.proofs.names_below.Names.add.Goals as goal

pub returns-in_ok-push-clause-ok : goal.returns-in_ok-push-clause-ok
returns-in_ok-push-clause-ok c =
    subst (λ ns. list_any (bytes_eq c.args.name.now) ns ≡ true)
    (sym (c.in_ok-push.ensures.ok ∙ ap (λ n. c.self.inside.names ++ n ∷ []) c.in_ok-copy_name.ensures))
    (any_last c.self.inside.names c.args.name.now)
