use Rattle.std.proofs.Common.{rules, ◌≡◌, ◌<◌, ◌-◌, ◌∙◌, length, refl, ap}
use Rattle.jsp_model.specs.House.{own_of}
use Rattle.jsp_model.specs.Lookup.{is_open}
use Rattle.jsp_kept.specs.Calls.{made}
use Rattle.jsp_kept.proofs.Owns.{CountsAsk, own_of_session, lawful_within}
use Rattle.jsp_kept.proofs.Keeping.{grows_by_ask}
use Rattle.jsp_kept.proofs.Counting.{whole_by_ask}
use Rattle.jsp_kept.proofs.Growing.{performs_in_era}
use Rattle.jsp_kept.proofs.Ending.{needs_memory}
use Rattle.jsp_kept.proofs.kept.Kept.act_in_era.Goals as goal

pub invariant_of-self : goal.invariant_of-self
invariant_of-self g c =
    let acts = c.act_ready-result.ensures.acts in
    let st = g.H.House.view c.self.inside.house in
    let s = c.seat.inside.session in
    let r = c.act_ready-result.result in
    let by : c.own_steps-by.result ≡ made (is_open st s) r = c.own_steps-by.ensures ∙ ap (λ b. made b r) c.is_open-open.ensures in
    let lawful = rw (← c.self.view_is, ← c.seat.view_is) at c.requires.lawful in
    let of = rw (← c.seat.view_is) at c.requires.of in
    let counts : CountsAsk (own_of acts.steps) s c.own_steps-by.result = rw (by, acts.own) (own_of_session st s c.args.input r of) in
    whole_by_ask _ _ _ _ acts.steps _ _ s c.own_steps-by.result c.self.invariant
    (record {
      era = record { spaces = refl; era = refl; is_sealed = refl };
      makes = acts.makes;
      room = c.act_ready-result.ensures.room;
      bound = c.act_ready-result.ensures.bound;
      before_is = search rules;
      after_is = search rules;
      limit = refl;
      shares = record { asks_parts = refl; asks_amount = refl; outs_parts = refl; outs_amount = refl };
    })
    counts c.seat.invariant.2 (lawful_within _ _ _ lawful) c.raise.ensures c.add.ensures.total (record { taken = refl; book = refl }) refl refl

pub returns-clause-performs : goal.returns-clause-performs
returns-clause-performs g c =
    let acts = c.act_ready-result.ensures.acts in
    let st = g.H.House.view c.self.inside.house in
    let s = c.seat.inside.session in
    let r = c.act_ready-result.result in
    let by : c.own_steps-by.result ≡ made (is_open st s) r = c.own_steps-by.ensures ∙ ap (λ b. made b r) c.is_open-open.ensures in
    let lawful = rw (← c.self.view_is, ← c.seat.view_is) at c.requires.lawful in
    let of = rw (← c.seat.view_is) at c.requires.of in
    let counts : CountsAsk (own_of acts.steps) s c.own_steps-by.result = rw (by, acts.own) (own_of_session st s c.args.input r of) in
    rw (← c.self.view_is) (performs_in_era _ _ _ acts.steps _ (record { spaces = refl; era = refl; is_sealed = refl }) acts.makes
    (grows_by_ask _ _ _ s c.own_steps-by.result c.self.invariant.kept counts c.seat.invariant.2 (lawful_within _ _ _ lawful) c.raise.ensures c.add.ensures.total (record { taken = refl; book = refl }))
    acts.own acts.leaves)

pub returns-clause-why : goal.returns-clause-why
returns-clause-why g c =
    let place = rw (← c.self.view_is) at c.requires.place in
    needs_memory _ _ _ _ c.act_ready-result.result c.self.invariant place (search rules) c.act_ready-result.ensures.full c.act_ready-result.ensures.why
