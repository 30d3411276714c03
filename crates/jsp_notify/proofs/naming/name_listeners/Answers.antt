use Rattle.std.proofs.Common.{◌≡◌, true, sym, ◌∙◌, subst, arith, inl, inr}
use Rattle.std.proofs.lemmas.Bool.{cases_lt}
use Rattle.jsp_table.specs.Hints.{names}
use Rattle.jsp_table.proofs.Next.{next_is_above, none_between, none_above}
use Rattle.jsp_notify.proofs.naming.name_listeners.Goals as goal

pub listeners-init : goal.listeners-init
listeners-init c = record { keeps = λ k n h. h; known = λ n up le h. absurd (omega (arith, up, le)) }

pub listeners-smaller : goal.listeners-smaller
listeners-smaller c =
    let above = next_is_above c.args.listeners.now c.listeners.last c.in-Some.number (sym c.next_above.ensures.next ∙ c.in-Some.is) in
    omega arith

pub listeners-preserved : goal.listeners-preserved
listeners-preserved c =
    let ns = c.args.listeners.now in
    let last = c.listeners.last in
    let number = c.in-Some.number in
    let space = c.args.space in
    let new = c.add.new.self in
    let is = sym c.next_above.ensures.next ∙ c.in-Some.is in
    record {
      keeps = λ k n h. c.add.ensures.keeps k n (c.listeners.invariant.keeps k n h);
      known = λ n up le h. elim (cases_lt last n) [
        | inr ge ↦ c.add.ensures.keeps space n (c.listeners.invariant.known n up ge h)
        | inl lt ↦ elim (cases_lt n number) [
          | inl under ↦ let out = none_between ns last number n c.next_above.ensures.increasing is lt under in absurd (cc (h, out))
          | inr over ↦ let same : number ≡ n = omega (arith, le, over) in subst (λ m. names new space m ≡ true) same c.in_ok-add.ensures.ok
        ]
      ];
    }

pub returns-clause-ok : goal.returns-clause-ok
returns-clause-ok c n up h =
    let ns = c.args.listeners.now in
    let last = c.listeners.last in
    elim (cases_lt last n) [
      | inl lt ↦ let out = none_above ns last n (sym c.next_above.ensures.next ∙ c.in_default.is) lt in absurd (cc (h, out))
      | inr ge ↦ c.listeners.invariant.known n up ge h
    ]
