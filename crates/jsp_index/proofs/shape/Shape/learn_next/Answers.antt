use Rattle.std.proofs.Common.{eqb, suc, ◌≤◌, arith}
use Rattle.jsp_model.specs.declared.state.Row.{Row}
use Rattle.jsp_keyed.proofs.Walking.{only_one}
use Rattle.jsp_index.specs.Finding.{number}
use Rattle.jsp_index.proofs.Covering.{space_has}
use Rattle.jsp_index.proofs.Shaped.{learned_all, learned_more}
use Rattle.jsp_index.proofs.shape.Shape.learn_next.Goals as goal

pub returns-in-None : goal.returns-in-None
returns-in-None c h =
    let old = c.args.self.now in
    let kind = λ (r : Row). eqb r.space old.space in
    let named = c.numbers_under-numbers.ensures kind (λ seed r at. space_has seed old.space r at) in
    learned_all c.args.seed old c.saturating_sub.result c.saturating_sub.ensures c.args.rows.now (c.in-None.ensures.least kind named).least c.in-None.ensures.positive h

pub returns-in-Some : goal.returns-in-Some
returns-in-Some c h =
    let old = c.args.self.now in
    let row = c.in-Some.row.now in
    let rows = c.args.rows.now in
    let kind = λ (r : Row). eqb r.space old.space in
    let named = c.numbers_under-numbers.ensures kind (λ seed r at. space_has seed old.space r at) in
    let least = c.in-Some.ensures.least kind named in
    let below : c.saturating_add-self.result ≤ suc row.number = omega arith in
    learned_more c.args.seed old c.saturating_sub.result c.saturating_sub.ensures c.add.new.self c.saturating_add-self.result row rows below c.add.ensures.keeps c.add.ensures.named least.least c.in-Some.ensures.positive
    (only_one number row.number rows row c.in-Some.ensures.rising least.one.1) h
