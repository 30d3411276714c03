use Rattle.jsp_index.proofs.Covering.{space_sought}
use Rattle.jsp_index.proofs.keyed.KeyedRows.first_in.Goals as goal

pub first_number-requires : goal.first_number-requires
first_number-requires c seed r = space_sought seed c.args.space r
