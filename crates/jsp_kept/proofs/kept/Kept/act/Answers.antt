use Rattle.std.proofs.Common.{rules, ◌≡◌, true, subst, ap, Ok, Err}
use Rattle.jsp_model.specs.declared.house.Input.{Input}
use Rattle.jsp_model.specs.declared.house.Stopped.{Stopped}
use Rattle.jsp_model.specs.House.{acted}
use Rattle.jsp_model.specs.Lookup.{is_open}
use Rattle.jsp_drive.specs.Line.{input_of}
use Rattle.jsp_kept.specs.Eras.{GrowsAsAsked}
use Rattle.jsp_kept.proofs.Growing.{performs_unmade}
use Rattle.jsp_kept.proofs.Passing.{acted_then, acted_on, raises_none, raises_then, raises_on}
use Rattle.jsp_kept.proofs.kept.Kept.act.Goals as goal

pub returns-in-Err-clause-performs : goal.returns-in-Err-clause-performs
returns-in-Err-clause-performs g c = λ lawful. performs_unmade _ _ (input_of c.args.seat.now.session c.args.given) c.unmade-in-Err.result (ap (λ (e : Stopped). e.done) c.unmade-in-Err.ensures) c.make_ready.ensures.prepares

pub returns-in-Err-clause-counts : goal.returns-in-Err-clause-counts
returns-in-Err-clause-counts g c = λ lawful. raises_none _ _ c.args.seat.now (is_open c.args.self.now.state c.args.seat.now.session) c.unmade-in-Err.result (ap (λ (e : Stopped). e.done) c.unmade-in-Err.ensures) c.make_ready.ensures.asks

pub returns-in-Ok-clause-performs : goal.returns-in-Ok-clause-performs
returns-in-Ok-clause-performs g c =
    let is : c.of_session-input.result ≡ input_of c.args.seat.now.session c.args.given = rw (← c.seat.view_is) c.of_session-input.ensures.value in
    λ lawful. subst (λ (x : Input). GrowsAsAsked c.args.self.now c.act_in_era.new.self (acted {A = Unit {0}} c.args.self.now.state x (Ok tt)) (Ok tt)) is (acted_then _ _ _ c.of_session-input.result (Ok tt) c.make_ready.ensures.prepares c.in-Ok.ensures.performs)

pub returns-in-Ok-clause-counts : goal.returns-in-Ok-clause-counts
returns-in-Ok-clause-counts g c = λ lawful. raises_then _ _ _ _ _ (Ok tt) c.make_ready.ensures.prepares c.make_ready.ensures.asks c.in-Ok.ensures.counts

pub returns-in-Err-act_in_era-clause-performs : goal.returns-in-Err-act_in_era-clause-performs
returns-in-Err-act_in_era-clause-performs g c =
    let e = c.in-Err-act_in_era.stopped in
    let done : e.done ≡ true = search rules in
    let is : c.of_session-input.result ≡ input_of c.args.seat.now.session c.args.given = rw (← c.seat.view_is) c.of_session-input.ensures.value in
    λ lawful. subst (λ (x : Input). GrowsAsAsked c.args.self.now c.go_on.new.self (acted c.args.self.now.state x c.go_on.result) c.go_on.result) is
    (acted_on _ _ _ c.of_session-input.result e c.go_on.result done (acted_then _ _ _ c.of_session-input.result (Err e) c.make_ready.ensures.prepares c.in-Err-act_in_era.ensures.performs) c.go_on.ensures.performs c.go_on.ensures.err)

pub returns-in-Err-act_in_era-clause-counts : goal.returns-in-Err-act_in_era-clause-counts
returns-in-Err-act_in_era-clause-counts g c =
    let e = c.in-Err-act_in_era.stopped in
    let done : e.done ≡ true = search rules in
    λ lawful. raises_on _ _ _ _ _ e c.go_on.result done c.go_on.ensures.err (raises_then _ _ _ _ _ (Err e) c.make_ready.ensures.prepares c.make_ready.ensures.asks c.in-Err-act_in_era.ensures.counts) c.go_on.ensures.asks

pub returns-in-Err-2-clause-performs : goal.returns-in-Err-2-clause-performs
returns-in-Err-2-clause-performs g c =
    let is : c.of_session-input.result ≡ input_of c.args.seat.now.session c.args.given = rw (← c.seat.view_is) c.of_session-input.ensures.value in
    λ lawful. subst (λ (x : Input). GrowsAsAsked c.args.self.now c.act_in_era.new.self (acted {A = Unit {0}} c.args.self.now.state x (Err c.in-Err-act_in_era.stopped)) (Err c.in-Err-act_in_era.stopped)) is (acted_then _ _ _ c.of_session-input.result (Err c.in-Err-act_in_era.stopped) c.make_ready.ensures.prepares c.in-Err-act_in_era.ensures.performs)
