use Rattle.std.proofs.Common.{◌∙◌, sym}
use Rattle.std.proofs.lemmas.Bool.Decides.{Decides-eqb}
use Rattle.std.proofs.lemmas.Slice.Eq.{slice_eq-Decides}
use Rattle.jsp_script.proofs.Parts.{one_part_asks_nothing}
use Rattle.jsp_script.proofs.script_line.act_of.Goals as goal

pub returns-in_default : goal.returns-in_default
returns-in_default c a is =
    let decides = slice_eq-Decides Decides-eqb c.args.line.now c.as_slice.result.now c.eq.result c.eq.ensures in
    one_part_asks_nothing c.args.line.now c.in_default.ensures.none (λ e. absurd (cc (decides.1 (e ∙ sym c.as_slice.ensures), c.if-eq.false))) a is
