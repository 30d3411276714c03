use Rattle.std.proofs.Common.{◌∙◌}
use Rattle.jsp_table.proofs.Rising.{is_among}
use Rattle.jsp_table.proofs.few.are_few_with.Goals as goal

pub returns : goal.returns
returns c = c.is_ok.ensures.value ∙ is_among c.args.numbers.now c.args.number c.binary_search.result c.requires c.binary_search.ensures.bound c.binary_search.ensures.position
