use Rattle.std.proofs.Common.{◌∙◌}
use Rattle.jsp_index.proofs.Listed.{local_keys, local_named, all_local}
use Rattle.jsp_index.proofs.revising.revise_space.Goals as goal

pub revise_all-requires-clause-keys : goal.revise_all-requires-clause-keys
revise_all-requires-clause-keys g c = local_keys (g.R.Revision.is_gone c.args.revision.now) (g.R.Change.changed c.args.revision.now) c.args.holding.now.space c.requires.keys

pub revise_all-requires-clause-named : goal.revise_all-requires-clause-named
revise_all-requires-clause-named g c = local_named (g.R.Revision.is_gone c.args.revision.now) (g.R.Change.changed c.args.revision.now) c.args.holding.now.space c.args.holding.now.numbers c.args.rows.now c.requires.listed

pub returns : goal.returns
returns g c = c.revise_all.ensures ∙ all_local (g.R.Revision.is_gone c.args.revision.now) (g.R.Change.changed c.args.revision.now) c.args.holding.now.space c.args.rows.now
