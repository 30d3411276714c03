use Rattle.std.proofs.Common.{◌≡◌, ap, ◌∙◌, subst, rules}
use Rattle.std.specs.Prelude.{find, is_some, option_copied}
use Rattle.jsp_sight.specs.Rows.{held}
use Rattle.jsp_index.specs.Finding.{number, is_next}
use Rattle.jsp_index.specs.Numbered.{AreNumbered}
use Rattle.jsp_index.proofs.Having.{all_open}
use Rattle.jsp_index.proofs.OwnRows.{all_within}
use Rattle.jsp_index.proofs.Single.{any_found}
use Rattle.jsp_keyed.proofs.Walking.{start_find}
use Rattle.jsp_index.proofs.hinted.HintedRows.has_conflict.Goals as goal

pub returns : goal.returns
returns c =
    let rows = c.args.self.now in
    let p = held c.args.classes.now c.args.blocked.now in
    let up = (subst AreNumbered c.self.view_is c.first_behind.ensures.numbered).positive in
    let some : c.is_some.result ≡ is_some (option_copied c.first_behind.result) = search rules in
    some ∙ (ap is_some (c.first_behind.ensures.found ∙ (ap (find (is_next p 0)) c.self.view_is ∙ start_find number p rows up)) ∙ any_found p rows)

pub first_behind-requires-clause-had : goal.first_behind-requires-clause-had
first_behind-requires-clause-had c = all_open (held c.args.classes.now c.args.blocked.now) c.self.inside.rows

pub first_behind-requires-clause-within : goal.first_behind-requires-clause-within
first_behind-requires-clause-within c = all_within (held c.args.classes.now c.args.blocked.now) c.self.inside.rows
