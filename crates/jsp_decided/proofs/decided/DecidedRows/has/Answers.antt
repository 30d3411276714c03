use Rattle.std.proofs.Common.{◌≡◌, is_some, ◌∙◌, rules}
use Rattle.std.specs.Prelude.{option_copied}
use Rattle.jsp_decided.specs.Decided.{rows_of}
use Rattle.jsp_decided.proofs.Flat.{any_numbered_later}
use Rattle.jsp_decided.proofs.decided.DecidedRows.has.Goals as goal

pub returns : goal.returns
returns c =
    let some : c.is_some.result ≡ is_some (option_copied c.get.result) = search rules in
    some ∙ any_numbered_later c.args.number (option_copied c.get.result) (rows_of c.args.self.now) c.get.ensures
