use Rattle.std.proofs.Common.{◌≡◌, ℕ, ◌++◌, ◌∷◌, [], List, map, ap, sym, ◌∙◌, subst, arith, rules}
use Rattle.std.specs.Prelude.{filter}
use Rattle.std.proofs.lemmas.Grind.{common_steps}
use Rattle.jsp_keyed.specs.Finding.{is_next}
use Rattle.jsp_keyed.proofs.Walking.{from_start, one_passes, none_passes, found_is_above, listed_more, listed_all}
use Rattle.jsp_wait.specs.Waiting.{asker}
use Rattle.jsp_wait.specs.declared.waiters.Asker.{Asker}
use Rattle.jsp_wait.proofs.Least.{number}
use Rattle.jsp_wait.proofs.keyed.askers.Goals as goal

pub requests-init : goal.requests-init
requests-init g c =
    let all = ap (map asker) (from_start number (g.P.Test.is_passed c.args.test.now) c.args.requests.now c.places.ensures.positive) in
    let none : c.new-askers.result.items ≡ [] = first_of (search rules, grind (arith, common_steps)) in
    ap (λ (w : List Asker). w ++ map asker (filter (is_next number (g.P.Test.is_passed c.args.test.now) 0) c.args.requests.now)) none ∙ all

pub requests-smaller : goal.requests-smaller
requests-smaller g c =
    let above = found_is_above number (g.P.Test.is_passed c.args.test.now) c.requests.last c.args.requests.now c.in-Some.request.now (sym c.in-Some.ensures.found) in
    omega (arith, above, c.number-last.ensures, c.number-last.type_inv)

pub requests-preserved : goal.requests-preserved
requests-preserved g c =
    let passed = g.P.Test.is_passed c.args.test.now in
    let requests = c.args.requests.now in
    let x = c.in-Some.request.now in
    let next = one_passes number passed c.requests.last requests x c.in-Some.ensures.rising (sym c.in-Some.ensures.found) in
    let made : c.push.new.self.items ≡ c.requests.askers.items ++ asker x ∷ [] = first_of (search rules, grind (arith, common_steps)) in
    subst (λ (n : ℕ). c.push.new.self.items ++ map asker (filter (is_next number passed n) requests) ≡ map asker (filter passed requests)) (sym c.number-last.ensures)
    (listed_more number asker c.requests.askers.items c.push.new.self.items x (filter (is_next number passed x.number) requests) (filter (is_next number passed c.requests.last) requests) (map asker (filter passed requests)) next c.requests.invariant made)

pub returns : goal.returns
returns g c =
    let passed = g.P.Test.is_passed c.args.test.now in
    let requests = c.args.requests.now in
    listed_all number asker c.requests.askers.items (filter (is_next number passed c.requests.last) requests) (map asker (filter passed requests)) (none_passes (is_next number passed c.requests.last) requests (sym c.in_default.ensures.found)) c.requests.invariant
