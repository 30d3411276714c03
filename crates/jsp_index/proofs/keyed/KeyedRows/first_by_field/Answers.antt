use Rattle.jsp_types.specs.declared.entry.Template.TheVariants.{Like}
use Rattle.jsp_index.specs.Finding.{is_like}
use Rattle.jsp_index.specs.Passed.{is_open}
use Rattle.jsp_index.proofs.keyed.KeyedRows.first_by_field.Goals as goal

pub returns-else-has_fewer : goal.returns-else-has_fewer
returns-else-has_fewer g c =
    let kind = is_like c.args.classes.now c.args.space (Like c.args.like.now) in
    c.first_listed.ensures kind (is_open c.args.behind.now.unseen) (c.listed-listed.ensures kind (c.in-Some.ensures c.args.classes.now)) c.requires.had
