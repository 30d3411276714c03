use Rattle.std.proofs.Common.{◌∙◌, ◌&&◌, ap, sym}
use Rattle.std.specs.Prelude.{◌==◌}
use Rattle.std.proofs.lemmas.Bool.{eq-eqb, ne_eqb}
use Rattle.jsp_model.specs.declared.state.Blocked.{Blocked}
use Rattle.jsp_model.specs.Sight.{is_if}
use Rattle.jsp_wait.proofs.Numbered.{picked, picks, leaves, narrowed}
use Rattle.jsp_wait.proofs.freeing.freed_at.Goals as goal

pub returns-in_default : goal.returns-in_default
returns-in_default g c =
    let p = λ (b : Blocked). is_if b.form && g.O.Offer.is_freed c.args.offer.now b in
    let q = λ (b : Blocked). b.space == c.args.space in
    sym (narrowed p q c.args.number c.args.requests.now c.places.ensures.rising ∙ ap (picked q) (sym c.in_default.ensures))

pub returns-then-request-space : goal.returns-then-request-space
returns-then-request-space g c =
    let p = λ (b : Blocked). is_if b.form && g.O.Offer.is_freed c.args.offer.now b in
    let q = λ (b : Blocked). b.space == c.args.space in
    sym (narrowed p q c.args.number c.args.requests.now c.places.ensures.rising ∙ (ap (picked q) (sym c.in-Some.ensures) ∙ picks q c.in-Some.request.now (eq-eqb c.in-Some.request.now.space c.args.space c.if-request-space.true)))

pub returns-else-request-space : goal.returns-else-request-space
returns-else-request-space g c =
    let p = λ (b : Blocked). is_if b.form && g.O.Offer.is_freed c.args.offer.now b in
    let q = λ (b : Blocked). b.space == c.args.space in
    sym (narrowed p q c.args.number c.args.requests.now c.places.ensures.rising ∙ (ap (picked q) (sym c.in-Some.ensures) ∙ leaves q c.in-Some.request.now (ne_eqb c.in-Some.request.now.space c.args.space c.if-request-space.false)))
