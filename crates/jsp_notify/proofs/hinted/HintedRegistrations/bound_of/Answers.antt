use Rattle.std.proofs.Common.{None}
use Rattle.jsp_keyed.proofs.Walking.{and_both}
use Rattle.jsp_notify.specs.Owing.{is_news, is_within}
use Rattle.jsp_notify.proofs.Keyed.{news_of}
use Rattle.jsp_notify.proofs.hinted.HintedRegistrations.bound_of.Goals as goal

pub passing-requires : goal.passing-requires
passing-requires c = λ seed r h. news_of seed c.args.classes.now c.args.caller c.args.row.now r (and_both (is_within c.args.from None r) (is_news c.args.classes.now c.args.caller r c.args.row.now) h).1
