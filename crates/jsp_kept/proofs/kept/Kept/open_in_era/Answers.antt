use Rattle.std.proofs.Common.{rules, ◌≡◌, ◌+◌, ◌<◌, ◌^◌, ◌++◌, ◌∷◌, [], ◌∙◌, refl, sym, subst, ap, arith, false, Ok, Err}
use Rattle.jsp_model.specs.declared.house.Input.TheVariants as input
use Rattle.jsp_model.proofs.Joining.{Makes-none}
use Rattle.jsp_kept.proofs.Owns.{IsUncounted, none_counted, undone_own}
use Rattle.jsp_kept.proofs.Counting.{whole_quietly}
use Rattle.jsp_kept.specs.Eras.{no_memory}
use Rattle.jsp_kept.proofs.Keeping.{grows_quietly, stays_within}
use Rattle.jsp_kept.proofs.Growing.{covers_itself, performs_in_era}
use Rattle.jsp_kept.proofs.Begun.{undone_counts, accepts_next, opens_only, grows_by_open, performs_begun, whole_begun}
use Rattle.jsp_kept.proofs.kept.Kept.open_in_era.Goals as goal

pub invariant_of-self-in-Err-act_ready : goal.invariant_of-self-in-Err-act_ready
invariant_of-self-in-Err-act_ready g c =
    let acts = c.in-Err-act_ready.ensures.acts in
    let st = g.H.House.view c.self.inside.house in
    let none = subst IsUncounted (sym acts.own) (undone_counts st (input.Open c.args.session) (Err c.in-Err-act_ready.stopped) c.in-Err-act_ready.stopped refl c.in-Err-act_ready.ensures.opens) in
    whole_quietly _ _ _ _ acts.steps _ _ c.self.invariant
    (record {
      era = record { spaces = refl; era = refl; is_sealed = refl };
      makes = acts.makes;
      room = c.act_ready.ensures.room;
      bound = c.act_ready.ensures.bound;
      before_is = search rules;
      after_is = search rules;
      limit = refl;
      shares = record { asks_parts = refl; asks_amount = refl; outs_parts = refl; outs_amount = refl };
    })
    none (record { asked = c.reserve_both.ensures.asked; book = refl }) (record { taken = c.reserve_both.ensures.taken; book = refl }) refl refl

pub returns-in-Err-act_ready-clause-performs : goal.returns-in-Err-act_ready-clause-performs
returns-in-Err-act_ready-clause-performs g c =
    let acts = c.in-Err-act_ready.ensures.acts in
    let st = g.H.House.view c.self.inside.house in
    let none = subst IsUncounted (sym acts.own) (undone_counts st (input.Open c.args.session) (Err c.in-Err-act_ready.stopped) c.in-Err-act_ready.stopped refl c.in-Err-act_ready.ensures.opens) in
    rw (← c.self.view_is) (performs_in_era _ _ _ acts.steps _ (record { spaces = refl; era = refl; is_sealed = refl }) acts.makes
    (grows_quietly _ _ _ c.self.invariant.kept none (record { asked = c.reserve_both.ensures.asked; book = refl }) (record { taken = c.reserve_both.ensures.taken; book = refl }))
    acts.own acts.leaves)

pub invariant_of-self-2 : goal.invariant_of-self-2
invariant_of-self-2 g c =
    let acts = c.in_default-act_ready.ensures.acts in
    let st = g.H.House.view c.self.inside.house in
    let s = c.args.session in
    let is : s ≡ st.last_session + 1 = rw (← c.self.view_is) at c.requires.next in
    let low : st.last_session < 2 ^ 31 = omega (arith, is, c.requires.most) in
    let own = acts.own ∙ opens_only st s (Ok tt) (accepts_next st s is low) refl in
    whole_begun _ _ _ _ acts.steps s c.self.invariant (record { spaces = refl; era = refl; is_sealed = refl }) acts.makes own
    (grows_by_open _ _ s c.self.invariant.kept is
    (c.push_reserved.ensures.items ∙ ap (λ xs. xs ++ 0 ∷ []) c.reserve_both.ensures.asked) refl
    (c.push_reserved-2.ensures.items ∙ ap (λ xs. xs ++ 0 ∷ []) c.reserve_both.ensures.taken) refl)
    is
    (stays_within _ _ _ _ acts.steps _ _ c.self.invariant (record { spaces = refl; era = refl; is_sealed = refl }) acts.makes (rw own refl) c.act_ready.ensures.room c.act_ready.ensures.bound (search rules) (search rules) refl)
    c.split_off.ensures.parts_left c.split_off-2.ensures.parts_left c.split_off.ensures.amount_left c.split_off-2.ensures.amount_left
    c.self.invariant.asks_sum c.self.invariant.outs_sum

pub returns-clause-performs : goal.returns-clause-performs
returns-clause-performs g c =
    let acts = c.in_default-act_ready.ensures.acts in
    let st = g.H.House.view c.self.inside.house in
    let s = c.args.session in
    let is : s ≡ st.last_session + 1 = rw (← c.self.view_is) at c.requires.next in
    let low : st.last_session < 2 ^ 31 = omega (arith, is, c.requires.most) in
    let own = acts.own ∙ opens_only st s (Ok tt) (accepts_next st s is low) refl in
    rw (← c.self.view_is) (performs_begun _ _ _ acts.steps s _ c.self.invariant.kept (record { spaces = refl; era = refl; is_sealed = refl }) acts.makes own is
    (c.push_reserved.ensures.items ∙ ap (λ xs. xs ++ 0 ∷ []) c.reserve_both.ensures.asked) refl
    (c.push_reserved-2.ensures.items ∙ ap (λ xs. xs ++ 0 ∷ []) c.reserve_both.ensures.taken) refl
    acts.own acts.leaves)

pub returns-in-Err-clause-performs : goal.returns-in-Err-clause-performs
returns-in-Err-clause-performs g c =
    rw (← c.self.view_is, c.unmade.ensures) (performs_in_era _ _ _ [] _ (record { spaces = refl; era = refl; is_sealed = refl }) (Makes-none _ _)
    (grows_quietly _ _ _ c.self.invariant.kept none_counted (record { asked = c.reserve_both.ensures.asked; book = refl }) (record { taken = c.reserve_both.ensures.taken; book = refl }))
    (sym (undone_own (g.H.House.view c.self.inside.house) (input.Open c.args.session) (Err (no_memory false)) refl)) (covers_itself (g.H.House.debt c.self.inside.house)))
