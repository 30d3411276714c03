use Rattle.std.proofs.Common.{rules, ◌≡◌, ◌+◌, ◌∙◌, refl, sym, ap}
use Rattle.std.proofs.lemmas.Result.{IfOk-weaker}
use Rattle.jsp_model.specs.declared.house.Input.TheVariants as input
use Rattle.jsp_model.specs.declared.house.Stopped.{Stopped}
use Rattle.jsp_kept.proofs.Growing.{performs_unmade, prepares_none, asks_then, outs_then}
use Rattle.jsp_kept.proofs.Turning.{prepares_leaves}
use Rattle.jsp_kept.proofs.Passing.{begins_then, err_then, not_begun, opens_then, undone_begun}
use Rattle.jsp_kept.proofs.kept.Kept.begin.Goals as goal

pub returns-then-last-ge-SESSIONS-clause-performs : goal.returns-then-last-ge-SESSIONS-clause-performs
returns-then-last-ge-SESSIONS-clause-performs g c = performs_unmade _ _ (input.Open (c.args.self.now.state.last_session + 1)) c.unmade.result (ap (λ (e : Stopped). e.done) c.unmade.ensures) (prepares_none c.args.self.now)

pub returns-in-Err-clause-performs : goal.returns-in-Err-clause-performs
returns-in-Err-clause-performs g c = performs_unmade _ _ (input.Open (c.args.self.now.state.last_session + 1)) c.unmade-in-Err.result (ap (λ (e : Stopped). e.done) c.unmade-in-Err.ensures) c.make_ready.ensures.prepares

pub open_in_era-requires-clause-next : goal.open_in_era-requires-clause-next
open_in_era-requires-clause-next g c =
    let is : c.len-last.result + 1 ≡ c.args.self.now.state.last_session + 1 = rw (← c.self.view_is) (let askers = c.self.invariant.kept.askers in search rules) in
    is ∙ ap (λ n. n + 1) (sym (prepares_leaves _ _ c.make_ready.ensures.prepares).last_session)

pub returns-clause-performs : goal.returns-clause-performs
returns-clause-performs g c =
    let is : c.len-last.result + 1 ≡ c.args.self.now.state.last_session + 1 = rw (← c.self.view_is) (let askers = c.self.invariant.kept.askers in search rules) in
    opens_then _ _ _ _ c.open_in_era.result c.make_ready.ensures.prepares is c.open_in_era.ensures.performs

pub returns-clause-begins : goal.returns-clause-begins
returns-clause-begins g c = IfOk-weaker c.open_in_era.result _ _ (λ s b. begins_then _ _ _ _ _ c.make_ready.ensures.prepares c.make_ready.ensures.asks c.make_ready.ensures.outs b) c.open_in_era.ensures.begins

pub returns-clause-not_done : goal.returns-clause-not_done
returns-clause-not_done g c = undone_begun c.open_in_era.result c.open_in_era.ensures.err

pub returns-clause-why : goal.returns-clause-why
returns-clause-why g c = not_begun c.args.self.now c.open_in_era.result c.open_in_era.ensures.err

pub returns-clause-asks : goal.returns-clause-asks
returns-clause-asks g c = err_then c.open_in_era.result c.open_in_era.ensures.asks (λ a. asks_then _ _ _ c.make_ready.ensures.asks a)

pub returns-clause-outs : goal.returns-clause-outs
returns-clause-outs g c = err_then c.open_in_era.result c.open_in_era.ensures.outs (λ a. outs_then _ _ _ c.make_ready.ensures.outs a)
