use Rattle.std.proofs.Common.{ℕ, Option, List, Some, Bor, sym, option_copied, subst, arith}
use Rattle.std.specs.Prelude.{IfSome}
use Rattle.jsp_model.specs.declared.state.Row.{Row}
use Rattle.jsp_table.specs.Finding.{AreNamed}
use Rattle.jsp_index.specs.Finding.{number, is_next, IsLeast}
use Rattle.jsp_index.specs.Own.{AreAmong, AreWithin}
use Rattle.jsp_index.proofs.Heads.{least_behind}
use Rattle.jsp_index.proofs.keyed.KeyedRows.first_listed.Goals as goal

pub first_up_to-requires : goal.first_up_to-requires
first_up_to-requires g c =
    let passed = g.P.Test.is_passed c.args.test.now in
    let within = subst (λ (o : Option ℕ). AreWithin o passed c.args.self.now) c.in-Some-last.is c.requires.within in
    subst (λ (w : List Row). AreWithin (Some c.in-Some-last.last) passed w) (sym c.self.view_is) within

pub returns-in-None : goal.returns-in-None
returns-in-None g c kind had listed opens =
    let passed = g.P.Test.is_passed c.args.test.now in
    let found = option_copied c.first_named.result in
    let rows = c.args.self.now in
    let before = c.args.behind.now.number in
    let after = c.max-after.result in
    let numbers = c.args.listed.now.numbers.now in
    let start = c.args.listed.now.start in
    let named : AreNamed number kind numbers c.self.inside.rows = subst (AreNamed number kind numbers) (sym c.self.view_is) listed.named in
    let least : IsLeast (is_next passed after) kind rows found = subst (λ (w : List Row). IsLeast (is_next passed after) kind w found) c.self.view_is (c.first_named.ensures.least kind named) in
    least_behind passed kind had numbers start before after rows found (omega (arith, c.max-after.ensures)) (λ n p q. omega (arith, c.max-after.ensures)) opens listed least

pub returns-in-Some-last : goal.returns-in-Some-last
returns-in-Some-last g c kind had listed opens =
    let passed = g.P.Test.is_passed c.args.test.now in
    let found = option_copied c.first_up_to.result in
    let rows = c.args.self.now in
    let before = c.args.behind.now.number in
    let after = c.max-after.result in
    let numbers = c.args.listed.now.numbers.now in
    let start = c.args.listed.now.start in
    let named : AreNamed number kind numbers c.self.inside.rows = subst (AreNamed number kind numbers) (sym c.self.view_is) listed.named in
    let least : IsLeast (is_next passed after) kind rows found = subst (λ (w : List Row). IsLeast (is_next passed after) kind w found) c.self.view_is (c.first_up_to.ensures kind named) in
    least_behind passed kind had numbers start before after rows found (omega (arith, c.max-after.ensures)) (λ n p q. omega (arith, c.max-after.ensures)) opens listed least

pub first_in_both-requires-clause-within : goal.first_in_both-requires-clause-within
first_in_both-requires-clause-within g c = subst (λ (w : List Row). AreWithin c.args.behind.now.last (g.P.Test.is_passed c.args.test.now) w) (sym c.self.view_is) c.requires.within

pub first_in_both-requires-clause-among : goal.first_in_both-requires-clause-among
first_in_both-requires-clause-among g c =
    let passed = g.P.Test.is_passed c.args.test.now in
    let among = subst (λ (o : Option (Bor (List ℕ))). IfSome (option_copied o) (λ own. AreAmong own passed c.args.self.now)) c.in-Some.is c.requires.among in
    subst (λ (w : List Row). AreAmong c.in-Some.own.now passed w) (sym c.self.view_is) among

pub returns-in-Some : goal.returns-in-Some
returns-in-Some g c kind had listed opens =
    let passed = g.P.Test.is_passed c.args.test.now in
    let found = option_copied c.first_in_both.result in
    let rows = c.args.self.now in
    let before = c.args.behind.now.number in
    let after = c.max-after.result in
    let numbers = c.args.listed.now.numbers.now in
    let start = c.args.listed.now.start in
    let named : AreNamed number kind numbers c.self.inside.rows = subst (AreNamed number kind numbers) (sym c.self.view_is) listed.named in
    let least : IsLeast (is_next passed after) kind rows found = subst (λ (w : List Row). IsLeast (is_next passed after) kind w found) c.self.view_is (c.first_in_both.ensures kind named) in
    least_behind passed kind had numbers start before after rows found (omega (arith, c.max-after.ensures)) (λ n p q. omega (arith, c.max-after.ensures)) opens listed least
