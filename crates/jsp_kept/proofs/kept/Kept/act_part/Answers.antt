use Rattle.std.proofs.Common.{rules, ◌≡◌, ◌∙◌, refl, ap}
use Rattle.jsp_model.specs.House.{own_of}
use Rattle.jsp_model.specs.Lookup.{is_open}
use Rattle.jsp_kept.specs.Calls.{made}
use Rattle.jsp_kept.proofs.Owns.{CountsAsk, own_of_session, lawful_within}
use Rattle.jsp_kept.proofs.Keeping.{grows_by_ask}
use Rattle.jsp_kept.proofs.Counting.{whole_by_ask}
use Rattle.jsp_kept.proofs.Besides.{performs_beside}
use Rattle.jsp_kept.proofs.Stopping.{part_stopped}
use Rattle.jsp_kept.proofs.kept.Kept.act_part.Goals as goal

pub invariant_of-self : goal.invariant_of-self
invariant_of-self g c =
    let acts = c.act_within-result.ensures.acts.acts in
    let st = g.H.House.view c.self.inside.house in
    let s = c.seat.inside.session in
    let r = c.act_within-result.result in
    let by : c.own_steps-by.result ≡ made (is_open st s) r = c.own_steps-by.ensures ∙ ap (λ b. made b r) c.is_open-open.ensures in
    let lawful = rw (← c.self.view_is, ← c.seat.view_is) at c.requires.lawful in
    let of = rw (← c.seat.view_is) at c.requires.of in
    let counts : CountsAsk (own_of acts.steps) s c.own_steps-by.result = rw (by, acts.own) (own_of_session st s c.args.input r of) in
    whole_by_ask _ _ _ _ acts.steps _ _ s c.own_steps-by.result c.self.invariant
    (record {
      era = record { spaces = refl; era = refl; is_sealed = refl };
      makes = acts.makes;
      room = c.act_within-result.ensures.room;
      bound = c.act_within-result.ensures.keeps;
      before_is = search rules;
      after_is = search rules;
      limit = refl;
      shares = record { asks_parts = refl; asks_amount = refl; outs_parts = refl; outs_amount = refl };
    })
    counts c.seat.invariant.2 (lawful_within _ _ _ lawful) c.raise.ensures c.add.ensures.total (record { taken = refl; book = refl }) refl refl

pub returns-clause-performs : goal.returns-clause-performs
returns-clause-performs g c =
    let acts = c.act_within-result.ensures.acts.acts in
    let st = g.H.House.view c.self.inside.house in
    let s = c.seat.inside.session in
    let r = c.act_within-result.result in
    let by : c.own_steps-by.result ≡ made (is_open st s) r = c.own_steps-by.ensures ∙ ap (λ b. made b r) c.is_open-open.ensures in
    let lawful = rw (← c.self.view_is, ← c.seat.view_is) at c.requires.lawful in
    let of = rw (← c.seat.view_is) at c.requires.of in
    let counts : CountsAsk (own_of acts.steps) s c.own_steps-by.result = rw (by, acts.own) (own_of_session st s c.args.input r of) in
    rw (← c.self.view_is) (performs_beside _ _ c.args.input r (record { spaces = refl; era = refl; is_sealed = refl }) c.act_within-result.ensures.acts
    (grows_by_ask _ _ _ s c.own_steps-by.result c.self.invariant.kept counts c.seat.invariant.2 (lawful_within _ _ _ lawful) c.raise.ensures c.add.ensures.total (record { taken = refl; book = refl })))

pub returns-clause-long : goal.returns-clause-long
returns-clause-long g c =
    rw (← c.self.view_is) (part_stopped _ _ _ _ c.args.most _ _ c.act_within-result.result c.self.inside.log.ok.0 c.self.invariant.limit c.act_within-result.new.log.ok.0 c.act_within-result.ensures.long)
