use Rattle.std.proofs.Common.{◌∙◌, ap, sym}
use Rattle.jsp_model.specs.declared.state.Row.{Row}
use Rattle.jsp_notify.specs.News.{all_told}
use Rattle.jsp_notify.proofs.Told.{one_more_told}
use Rattle.jsp_notify.proofs.untold.tell_spaces_of.Goals as goal

pub rows-preserved : goal.rows-preserved
rows-preserved c =
    let told = c.tell_all_in.new.news in (
      c.tell_all_in.ensures.same ∙ c.rows.invariant.0,
      one_more_told (λ (row : Row). all_told c.rows.news row.space) (λ (row : Row). all_told told row.space) c.args.rows.now c.rows.row-index c.row-item.result c.rows-test.true
          (λ row is_told. c.tell_all_in.ensures.keeps row.space is_told) c.rows.invariant.1 (ap (λ (row : Row). all_told told row.space) (sym c.row-item.is) ∙ c.in_ok-tell_all_in.ensures.all),
    )
