use Rattle.std.proofs.Common.{◌≡◌, ap, ◌∙◌, rules}
use Rattle.std.specs.Prelude.{is_none}
use Rattle.jsp_sight.specs.Rows.{offered_among}
use Rattle.jsp_index.proofs.Single.{none_first}
use Rattle.jsp_index.proofs.hinted.HintedRows.has_none.Goals as goal

pub returns : goal.returns
returns c =
    let none : c.is_none.result ≡ is_none c.first_available.result = search rules in
    none ∙ (ap is_none c.first_available.ensures ∙ none_first (offered_among c.args.classes.now c.args.blocked.now c.args.self.now))
