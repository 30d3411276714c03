use Rattle.std.proofs.Common.{◌≡◌, ℕ, true, ◌+◌, ◌<◌, List, length, [], take, inl, inr, subst, arith}
use Rattle.std.specs.Prelude.{slice_index}
use Rattle.std.specs.List.{AllByRecursion, list_any}
use Rattle.std.proofs.lemmas.List.{take_all}
use Rattle.jsp_table.specs.Numbers.{contains}
use Rattle.jsp_table.proofs.Finding.{each, both}
use Rattle.jsp_keyed.proofs.Named.{any_more}
use Rattle.jsp_keyed.proofs.passing.gather_sought.Goals as goal
use Rattle.jsp_table.specs.Hints.{names}

pub places-init : goal.places-init
places-init g c =
    let num = g.K.Numbering.number_of in
    let passed = g.P.Test.is_passed c.args.test.now in
    record {
      keeps = λ m h. h;
      known = each (λ (x : g.row.T.Denot). 0 < num x) (λ x. passed x ≡ true → list_any (λ k. names c.args.hints.now k (num x)) [] ≡ true → contains c.args.found.now (num x) ≡ true) c.args.table.now c.requires (λ x up e h. absurd (cc));
    }

pub places-preserved : goal.places-preserved
places-preserved g c =
    let num = g.K.Numbering.number_of in
    let passed = g.P.Test.is_passed c.args.test.now in
    let sought = g.P.Keys.sought c.args.test.now c.args.seed in
    let hints = c.args.hints.now in
    let i = c.places.place in
    let old = c.places.found in
    let new = c.gather_under.new.found in
    let lt : i < length sought = omega (arith, c.places-test.true, c.sought_count-place-end.ensures) in
    let here = subst (λ (key : ℕ). AllByRecursion (λ (x : g.row.T.Denot). passed x ≡ true → names hints key (num x) ≡ true → contains new (num x) ≡ true) c.args.table.now) c.sought_key-key.ensures c.in_ok-gather_under.ensures.ok in
    let known =
    both (λ (x : g.row.T.Denot). passed x ≡ true → list_any (λ k. names hints k (num x)) (take i sought) ≡ true → contains old (num x) ≡ true)
    (λ x. passed x ≡ true → names hints (slice_index sought i) (num x) ≡ true → contains new (num x) ≡ true)
    (λ x. passed x ≡ true → list_any (λ k. names hints k (num x)) (take (i + 1) sought) ≡ true → contains new (num x) ≡ true)
    c.args.table.now c.places.invariant.known here
    (λ x before this e h. elim (any_more (λ k. names hints k (num x)) sought i lt h) [
      | inl a ↦ c.gather_under.ensures.keeps (num x) (before e a)
      | inr b ↦ this e b
    ])
    in
    record { keeps = λ m h. c.gather_under.ensures.keeps m (c.places.invariant.keeps m h); known = known }

pub returns-clause-ok : goal.returns-clause-ok
returns-clause-ok g c =
    let num = g.K.Numbering.number_of in
    let passed = g.P.Test.is_passed c.args.test.now in
    let sought = g.P.Keys.sought c.args.test.now c.args.seed in
    let hints = c.args.hints.now in
    let all : take c.places.place sought ≡ sought = take_all c.places.place sought (omega (arith, c.places-test.false, c.sought_count-place-end.ensures)) in
    subst (λ (w : List ℕ). AllByRecursion (λ (x : g.row.T.Denot). passed x ≡ true → list_any (λ k. names hints k (num x)) w ≡ true → contains c.places.found (num x) ≡ true) c.args.table.now) all c.places.invariant.known

pub returns-clause-keeps : goal.returns-clause-keeps
returns-clause-keeps g c = c.places.invariant.keeps

pub returns-in_err-gather_under-clause-keeps : goal.returns-in_err-gather_under-clause-keeps
returns-in_err-gather_under-clause-keeps g c = λ m h. c.gather_under.ensures.keeps m (c.places.invariant.keeps m h)
