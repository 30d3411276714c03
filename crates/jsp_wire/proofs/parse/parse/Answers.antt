use Rattle.std.proofs.Common.{sym, ◌∙◌, ap, subst}
use Rattle.serde_json.specs.Read.{read}
use Rattle.jsp_wire.specs.Parse.{Parses}
use Rattle.jsp_wire.proofs.Payload.{json_of-text, json_of-no_text}
use Rattle.jsp_wire.proofs.parse.parse.Goals as goal

pub returns-in-Ok : goal.returns-in-Ok
returns-in-Ok c =
    let text = c.in-Ok.ensures in
    let same = ap read text.0 ∙ sym (json_of-text c.args.payload.now text.1) in
    subst (λ data_read. Parses c.whole.result data_read) same c.whole.ensures

pub returns-in-Err : goal.returns-in-Err
returns-in-Err c = json_of-no_text c.args.payload.now c.in-Err.ensures
