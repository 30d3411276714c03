use Rattle.std.proofs.Common.{◌∙◌, ap, sym, take}
use Rattle.jsp_script.proofs.Parts.{no_blank, has_blank, blank_at, cut_behind}
use Rattle.jsp_script.proofs.script_line.split_at_blank.Goals as goal

pub returns-in-Some-clause-some : goal.returns-in-Some-clause-some
returns-in-Some-clause-some c =
    let is = sym c.first_blank.ensures ∙ c.in-Some.is in
    let at = blank_at c.args.text.now c.in-Some.place is in
    (has_blank c.args.text.now c.in-Some.place is, ap (λ n. take n c.args.text.now) (sym at), cut_behind c.args.text.now c.in-Some.place at)

pub returns-in-None-clause-none : goal.returns-in-None-clause-none
returns-in-None-clause-none c = no_blank c.args.text.now (sym c.first_blank.ensures ∙ c.in-None.is)
