use Rattle.std.proofs.Common.{rules, ◌≡◌, true, refl, ap, Ok, Err}
use Rattle.jsp_model.specs.declared.house.Input.TheVariants as input
use Rattle.jsp_model.specs.declared.house.Stopped.{Stopped}
use Rattle.jsp_kept.proofs.Growing.{performs_unmade}
use Rattle.jsp_kept.proofs.Passing.{acted_then, acted_on}
use Rattle.jsp_kept.proofs.kept.Kept.clock.Goals as goal

pub returns-in-Err-clause-performs : goal.returns-in-Err-clause-performs
returns-in-Err-clause-performs g c = performs_unmade _ _ (input.Clock c.args.time) c.unmade.result (ap (λ (e : Stopped). e.done) c.unmade.ensures) c.make_ready.ensures.prepares

pub returns-in-Ok-clause-performs : goal.returns-in-Ok-clause-performs
returns-in-Ok-clause-performs g c = acted_then _ _ _ (input.Clock c.args.time) (Ok tt) c.make_ready.ensures.prepares c.in-Ok.ensures.performs

pub returns-in-Err-clock_in_era-clause-performs : goal.returns-in-Err-clock_in_era-clause-performs
returns-in-Err-clock_in_era-clause-performs g c =
    let e = c.in-Err-clock_in_era.stopped in
    let done : e.done ≡ true = search rules in
    acted_on _ _ _ (input.Clock c.args.time) e c.go_on.result done
    (acted_then _ _ _ (input.Clock c.args.time) (Err e) c.make_ready.ensures.prepares c.in-Err-clock_in_era.ensures.performs) c.go_on.ensures.performs c.go_on.ensures.err

pub returns-in-Err-2-clause-performs : goal.returns-in-Err-2-clause-performs
returns-in-Err-2-clause-performs g c = acted_then _ _ _ (input.Clock c.args.time) (Err c.in-Err-clock_in_era.stopped) c.make_ready.ensures.prepares c.in-Err-clock_in_era.ensures.performs
