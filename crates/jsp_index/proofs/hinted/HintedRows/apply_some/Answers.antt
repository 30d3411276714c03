use Rattle.std.proofs.Common.{◌∙◌, ap}
use Rattle.std.specs.List.{filter_map}
use Rattle.jsp_sight.specs.Deciding.{fate}
use Rattle.jsp_index.proofs.Fates.{decided_twice}
use Rattle.jsp_index.proofs.hinted.HintedRows.apply_some.Goals as goal

pub returns-clause-same : goal.returns-clause-same
returns-clause-same c = ap (filter_map (fate c.args.decision.now)) c.apply.ensures ∙ decided_twice c.args.decision.now c.args.self.now
