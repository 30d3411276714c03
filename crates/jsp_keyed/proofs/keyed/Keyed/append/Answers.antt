use Rattle.std.proofs.Common.{◌≡◌, ◌++◌, ◌<◌, List, map, ap, sym, subst, ◌∙◌, arith, rules}
use Rattle.std.specs.List.{AllByRecursion}
use Rattle.std.proofs.lemmas.Grind.{common_steps}
use Rattle.jsp_table.specs.Finding.{AreNumbered}
use Rattle.jsp_table.proofs.Standing.{first_below}
use Rattle.jsp_keyed.specs.Coming.{AreAbove}
use Rattle.jsp_keyed.specs.Kept.{AreNamed, AreKeyed, item_of}
use Rattle.jsp_keyed.proofs.Keeping.{still_keyed, more_come}
use Rattle.jsp_keyed.proofs.Ending.{first_positive, come_above}
use Rattle.jsp_keyed.proofs.keyed.Keyed.append.Goals as goal

pub make_ready-requires-clause-above : goal.make_ready-requires-clause-above
make_ready-requires-clause-above g c =
    let num = g.K.Numbering.number_of in
    let come = c.as_slice.result.now in
    let up : AllByRecursion (λ x. 0 < num x) (c.args.self.now ++ come) = subst (λ (w : List g.row.T.Denot). AllByRecursion (λ x. 0 < num x) (c.args.self.now ++ w)) (sym c.as_slice.ensures.value) c.requires.positive in
    first_positive num g.K.Keying.end_of g.K.Keying.rank_of c.args.self.now come c.first-item.result c.number-first.result c.in-len1-up.len_at_least c.first-item.is c.number-first.ensures up

pub make_ready-requires-clause-below : goal.make_ready-requires-clause-below
make_ready-requires-clause-below g c =
    let num = g.K.Numbering.number_of in
    let come = c.as_slice.result.now in
    let up : AreNumbered num (c.args.self.now ++ come) = subst (λ (w : List g.row.T.Denot). AreNumbered num (c.args.self.now ++ w)) (sym c.as_slice.ensures.value) c.requires.rising in
    subst (λ (w : List g.row.T.Denot). AllByRecursion (λ x. num x < c.number-first.result) w) (sym (c.places.ensures.things ∙ c.self.view_is))
    (first_below num c.args.self.now come c.first-item.result c.number-first.result c.in-len1-up.len_at_least c.first-item.is c.number-first.ensures up)

pub invariant_of-self-in_err-make_ready : goal.invariant_of-self-in_err-make_ready
invariant_of-self-in_err-make_ready g c =
    let self = c.self.inside in
    still_keyed g.K.Numbering.number_of g.K.Keying.keys_of g.K.Keying.end_of g.K.Keying.rank_of self.seed self.hints c.name_all.new.hints self.ends c.make_ready.new.ends self.table c.name_all.ensures.keeps c.make_ready.ensures.same c.self.invariant

pub invariant_of-self-in_err-append : goal.invariant_of-self-in_err-append
invariant_of-self-in_err-append g c =
    let self = c.self.inside in
    let num = g.K.Numbering.number_of in
    let keys = g.K.Keying.keys_of in
    let end = g.K.Keying.end_of in
    let rank = g.K.Keying.rank_of in
    subst (λ (w : List g.row.T.Denot). AreKeyed num keys end rank self.seed c.name_all.new.hints c.make_ready.new.ends w) (sym c.in_err-append.ensures.err)
    (still_keyed num keys end rank self.seed self.hints c.name_all.new.hints self.ends c.make_ready.new.ends self.table c.name_all.ensures.keeps c.make_ready.ensures.same c.self.invariant)

pub place_all-requires-clause-above : goal.place_all-requires-clause-above
place_all-requires-clause-above g c =
    let num = g.K.Numbering.number_of in
    let end = g.K.Keying.end_of in
    let rank = g.K.Keying.rank_of in
    let come = c.as_slice.result.now in
    let items : c.deref-3.result.now ≡ map (item_of num end rank) come = first_of (search rules, grind (arith, common_steps)) in
    let up : AreNumbered num (c.args.self.now ++ come) = subst (λ (w : List g.row.T.Denot). AreNumbered num (c.args.self.now ++ w)) (sym c.as_slice.ensures.value) c.requires.rising in
    subst (AreAbove c.make_ready.new.ends.last) (sym items) (come_above num end rank c.args.self.now come c.first-item.result c.number-first.result c.make_ready.new.ends.last c.in-len1-up.len_at_least c.first-item.is c.number-first.ensures up c.in_ok-make_ready.ensures.last)

pub invariant_of-self-2 : goal.invariant_of-self-2
invariant_of-self-2 g c =
    let self = c.self.inside in
    let num = g.K.Numbering.number_of in
    let keys = g.K.Keying.keys_of in
    let end = g.K.Keying.end_of in
    let rank = g.K.Keying.rank_of in
    let come = c.args.things.now.items in
    let items : c.deref-3.result.now ≡ map (item_of num end rank) come = first_of (search rules, grind (arith, common_steps)) in
    let still = still_keyed num keys end rank self.seed self.hints c.name_all.new.hints self.ends c.make_ready.new.ends self.table c.name_all.ensures.keeps c.make_ready.ensures.same c.self.invariant in
    let named : AreNamed num keys self.seed c.name_all.new.hints come = subst (AreNamed num keys self.seed c.name_all.new.hints) c.deref.ensures.value c.in_ok-name_all.ensures.ok in
    let ends : c.place_all.new.ends.items ≡ c.make_ready.new.ends.items ++ map (item_of num end rank) come = c.place_all.ensures.items ∙ ap (λ w. c.make_ready.new.ends.items ++ w) items in
    let up : AllByRecursion (λ x. 0 < num x) (self.table ++ come) = subst (λ (w : List g.row.T.Denot). AllByRecursion (λ x. 0 < num x) (w ++ come)) (sym c.self.view_is) c.requires.positive in
    subst (λ (w : List g.row.T.Denot). AreKeyed num keys end rank self.seed c.name_all.new.hints c.place_all.new.ends w) (sym c.in_ok-append.ensures.ok)
    (more_come num keys end rank self.seed c.name_all.new.hints c.make_ready.new.ends c.place_all.new.ends self.table come ends named up still)
