use Rattle.jsp_index.proofs.Heads.{none_where_empty}
use Rattle.jsp_index.proofs.starts.has_none.Goals as goal

pub returns : goal.returns
returns c = none_where_empty c.len.result c.args.starts.now c.len.ensures.len
