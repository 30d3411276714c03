use Rattle.std.proofs.Common.{List, ap, ◌∙◌, subst}
use Rattle.jsp_model.specs.declared.state.Row.{Row}
use Rattle.jsp_table.specs.Numbers.{contains}
use Rattle.jsp_index.specs.Keys.{row_keys}
use Rattle.jsp_index.specs.Passed.{is_open, AreListed}
use Rattle.jsp_index.proofs.Heads.{key_above}
use Rattle.jsp_index.proofs.keyed.KeyedRows.listed.Goals as goal

pub returns : goal.returns
returns g c kind have =
    let self = c.self.inside in
    subst (λ (w : List Row). AreListed kind (is_open c.args.unseen) c.numbers_under.result.now c.number.result w) c.self.view_is record {
      named = c.numbers_under.ensures kind have;
      above = key_above self.seed self.starts c.key.result c.number.result c.args.unseen kind self.rows (c.number.ensures ∙ c.start_of-start.ensures c.args.unseen) (λ r k. ap (contains (row_keys self.seed r)) c.key.ensures ∙ have self.seed r k) c.self.invariant.1.0;
    }
