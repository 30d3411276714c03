use Rattle.std.proofs.Common.{◌∙◌, ap, sym}
use Rattle.jsp_model.specs.declared.state.State.{State}
use Rattle.jsp_model.specs.Lookup.{blocked_of}
use Rattle.jsp_model.specs.Changes.{unblock}
use Rattle.jsp_entries.proofs.Searching.{granted_is}
use Rattle.jsp_entries.proofs.search.grant.Goals as goal

pub returns-in_ok-give-in-Some-clause-ok : goal.returns-in_ok-give-in-Some-clause-ok
returns-in_ok-give-in-Some-clause-ok c =
    c.unblock.ensures ∙ ap (λ (st : State). unblock st c.args.number) c.in_ok-give-in-Some.ensures.ok
    ∙ granted_is c.args.state.now c.args.number c.args.rows.now (blocked_of c.args.state.now c.args.number) c.in-Some.form c.in-Some.caller (sym c.request_named.ensures ∙ c.in-Some.is)
