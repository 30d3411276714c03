use Rattle.std.proofs.Common.{◌++◌, sym, ap, ◌∙◌, map-id}
use Rattle.std.proofs.lemmas.Iterator.{YieldsList-from_chars}
use Rattle.std.proofs.lemmas.Iterator.Consumers.{YieldsList-end}
use Rattle.std.specs.List.{flat_map}
use Rattle.std.specs.String.{string_bytes}
use Rattle.jsp_shell.specs.Printed.{shown}
use Rattle.jsp_shell.proofs.print.push_all.Goals as goal

-- what the iterator has yielded at its end are the characters of the text
pub returns : goal.returns
returns c =
    let end = YieldsList-end (YieldsList-from_chars c.args.text.now c.utf8.text cc) c.characters.yielded _ c.characters.yielded_by _ _ c.in-None.is c.next.ensures.steps in
    c.characters.invariant ∙ ap (λ cs. string_bytes c.args.line.now ++ flat_map (shown c.args.said) cs) (sym (map-id c.characters.yielded) ∙ end.0)
