use Rattle.std.proofs.Common.{◌≡◌, ℕ, true, Some, None, map, ap, sym, subst, ◌∙◌, cond, eqb, arith}
use Rattle.std.specs.Prelude.{find, nat_le, ◌&&◌}
use Rattle.jsp_table.specs.Finding.{AreNumbered, AreNamed}
use Rattle.jsp_keyed.specs.Finding.{is_next}
use Rattle.jsp_keyed.specs.Changing.{where_passed}
use Rattle.jsp_keyed.proofs.Named.{first_of_named}
use Rattle.jsp_keys.specs.Templates.{seeks}
use Rattle.jsp_keyed.proofs.Walking.{and_both, found_is_above}
use Rattle.jsp_keyed.proofs.Sweeping.{up_to, next_changes, none_changed, all_changed, all_back, still_named}
use Rattle.jsp_keyed.proofs.keyed.Keyed.try_change_named.Goals as goal

pub things-init : goal.things-init
things-init g c = none_changed g.K.Numbering.number_of (g.P.Test.is_passed c.args.test.now) (g.C.TryChange.changed c.args.change.now) c.args.self.now c.places.ensures.positive

pub things-preserved : goal.things-preserved
things-preserved g c =
    let num = g.K.Numbering.number_of in
    let passed = g.P.Test.is_passed c.args.test.now in
    let changed = g.C.TryChange.changed c.args.change.now in
    let ns = c.args.numbers.now in
    let old = c.args.self.now in
    let last = c.things.last in
    let x = c.in-Some.thing.now in
    let is = c.things.invariant in
    let keeps = λ (y : g.row.T.Denot). (c.requires.keeps y).number in
    let named : AreNamed num passed ns c.things.self = subst (AreNamed num passed ns) (sym is) (still_named num passed changed keeps last ns old c.requires.named) in
    let first : Some x ≡ find (is_next num passed last) c.things.self = first_of_named num passed last ns c.things.self (Some x) c.in-Some.ensures.rising named c.in-Some.ensures.least in
    let found : Some x ≡ find (is_next num passed last) (map (up_to num passed changed last) old) = first ∙ ap (find (is_next num passed last)) is in
    let next = next_changes num passed changed keeps last old x (subst (AreNumbered num) is c.in-Some.ensures.rising) found in
    let now : c.try_change.new.self ≡ map (λ w. cond (eqb (num w) c.number-number.result) (changed w) w) (map (up_to num passed changed last) old) = c.in_default-try_change.ensures.ok ∙ ap (map (λ w. cond (eqb (num w) c.number-number.result) (changed w) w)) is in
    subst (λ (n : ℕ). c.try_change.new.self ≡ map (up_to num passed changed n) old) (sym c.number-number.ensures)
    (now ∙ (ap (λ (n : ℕ). map (λ w. cond (eqb (num w) n) (changed w) w) (map (up_to num passed changed last) old)) c.number-number.ensures ∙ next))

pub things-smaller : goal.things-smaller
things-smaller g c =
    let num = g.K.Numbering.number_of in
    let passed = g.P.Test.is_passed c.args.test.now in
    let changed = g.C.TryChange.changed c.args.change.now in
    let ns = c.args.numbers.now in
    let last = c.things.last in
    let x = c.in-Some.thing.now in
    let named : AreNamed num passed ns c.things.self = subst (AreNamed num passed ns) (sym c.things.invariant) (still_named num passed changed (λ y. (c.requires.keeps y).number) last ns c.args.self.now c.requires.named) in
    let first : Some x ≡ find (is_next num passed last) c.things.self = first_of_named num passed last ns c.things.self (Some x) c.in-Some.ensures.rising named c.in-Some.ensures.least in
    let above = found_is_above num passed last c.things.self x (sym first) in
    omega (arith, above, c.number-number.ensures, c.number-number.type_inv)

pub change_all-requires-clause-seeks : goal.change_all-requires-clause-seeks
change_all-requires-clause-seeks g c = λ seed x h.
    let of = c.of.result in
    let passed = λ (t : g.row.P.Denot). g.P.Test.is_passed t x in
    let passes : passed c.args.test.now ≡ true = ap passed (sym c.of.ensures.test) ∙ (and_both (nat_le (g.K.Numbering.number_of x) of.last) (passed of.test.now) h).1 in
    subst (λ (t : g.row.P.Denot). seeks seed (g.P.ByEntry.classes_of t) (g.P.ByEntry.space_of t) (g.P.ByEntry.entry_of t) (g.K.Keying.keys_of seed x) ≡ true) (sym c.of.ensures.test) (c.requires.seeks seed x passes)

pub returns-in-Err-clause-err : goal.returns-in-Err-clause-err
returns-in-Err-clause-err g c =
    let num = g.K.Numbering.number_of in
    let is_passed = g.P.Test.is_passed in
    let test = c.args.test.now in
    let changed = g.C.TryChange.changed c.args.change.now in
    let undo = g.U.Change.changed c.args.undo.now in
    let old = c.args.self.now in
    let last = c.things.last in
    let now = map (up_to num (is_passed test) changed last) old in
    c.change_all.ensures
    ∙ (ap (map (where_passed (λ x. nat_le (num x) c.of.result.last && is_passed c.of.result.test.now x) undo)) (c.in-Err.ensures.err ∙ c.things.invariant)
    ∙ (ap (λ (n : ℕ). map (where_passed (λ x. nat_le (num x) n && is_passed c.of.result.test.now x) undo) now) c.of.ensures.last
    ∙ (ap (λ (t : g.row.P.Denot). map (where_passed (λ x. nat_le (num x) last && is_passed t x) undo) now) c.of.ensures.test
    ∙ all_back num (is_passed test) changed undo c.requires.undone (λ y. (c.requires.keeps y).number) last old)))

pub returns-clause-ok : goal.returns-clause-ok
returns-clause-ok g c =
    let num = g.K.Numbering.number_of in
    let passed = g.P.Test.is_passed c.args.test.now in
    let changed = g.C.TryChange.changed c.args.change.now in
    let ns = c.args.numbers.now in
    let last = c.things.last in
    let old = c.args.self.now in
    let is = c.things.invariant in
    let named : AreNamed num passed ns c.things.self = subst (AreNamed num passed ns) (sym is) (still_named num passed changed (λ y. (c.requires.keeps y).number) last ns old c.requires.named) in
    let none : None ≡ find (is_next num passed last) c.things.self = first_of_named num passed last ns c.things.self None c.in_default.ensures.rising named c.in_default.ensures.least in
    is ∙ all_changed num passed changed last old (none ∙ ap (find (is_next num passed last)) is)
