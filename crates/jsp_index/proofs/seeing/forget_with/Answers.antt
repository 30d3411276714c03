use Rattle.std.proofs.Common.{not, eqb}
use Rattle.jsp_model.specs.declared.state.Row.{Row}
use Rattle.jsp_index.specs.Seen.{IsSeen}
use Rattle.jsp_index.proofs.Classes.{last_forgotten, if_true}
use Rattle.jsp_index.proofs.Holders.{all_filtered}
use Rattle.jsp_index.proofs.seeing.forget_with.Goals as goal

pub returns-then-is_last_of_class : goal.returns-then-is_last_of_class
returns-then-is_last_of_class c = last_forgotten c.args.seen.now c.forget.new.seen c.args.row.now.number c.args.row.now.space _ c.args.rows.now c.forget.ensures (if_true c.is_last_of_class.result _ c.if-is_last_of_class.true c.is_last_of_class.ensures)

pub returns-else-seen_in-gt-FEW : goal.returns-else-seen_in-gt-FEW
returns-else-seen_in-gt-FEW c = all_filtered (λ (r : Row). IsSeen c.args.seen.now r.space r.entry.class) (λ (r : Row). not (eqb r.number c.args.row.now.number)) c.args.rows.now
