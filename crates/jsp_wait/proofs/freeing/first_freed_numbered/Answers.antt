use Rattle.std.proofs.Common.{◌∙◌, ◌&&◌, ap, sym}
use Rattle.jsp_model.specs.declared.state.Blocked.{Blocked}
use Rattle.jsp_model.specs.Sight.{is_if}
use Rattle.jsp_wait.proofs.Numbered.{picked, picks, leaves, numbered_only}
use Rattle.jsp_wait.proofs.freeing.first_freed_numbered.Goals as goal

pub returns-in_default : goal.returns-in_default
returns-in_default g c =
    let p = λ (b : Blocked). is_if b.form && g.O.Offer.is_freed c.args.offer.now b in
    sym (numbered_only p c.args.number c.args.requests.now c.places.ensures.rising ∙ ap (picked p) (sym c.in_default.ensures))

pub returns-then-is_let_go : goal.returns-then-is_let_go
returns-then-is_let_go g c =
    let p = λ (b : Blocked). is_if b.form && g.O.Offer.is_freed c.args.offer.now b in
    sym (numbered_only p c.args.number c.args.requests.now c.places.ensures.rising ∙ (ap (picked p) (sym c.in-Some.ensures) ∙ picks p c.in-Some.request.now (sym c.is_let_go.ensures ∙ c.if-is_let_go.true)))

pub returns-else-is_let_go : goal.returns-else-is_let_go
returns-else-is_let_go g c =
    let p = λ (b : Blocked). is_if b.form && g.O.Offer.is_freed c.args.offer.now b in
    sym (numbered_only p c.args.number c.args.requests.now c.places.ensures.rising ∙ (ap (picked p) (sym c.in-Some.ensures) ∙ leaves p c.in-Some.request.now (sym c.is_let_go.ensures ∙ c.if-is_let_go.false)))
