use Rattle.std.proofs.Common.{◌≡◌, sym, subst, ◌∙◌}
use Rattle.std.specs.Bool.{OnTrue}
use Rattle.std.specs.List.{filter_map}
use Rattle.jsp_keyed.proofs.Joining.{on_true}
use Rattle.jsp_decided.specs.declared.recorded.Recorded.{Recorded}
use Rattle.jsp_decided.specs.Recording.{becomes}
use Rattle.jsp_decided.proofs.Resetting.{resets}
use Rattle.jsp_decided.proofs.recorded.apply_some.Goals as goal

pub returns-in-Reset-clause-same : goal.returns-in-Reset-clause-same
returns-in-Reset-clause-same c =
    let new = c.clear_some.new.self in
    let old = c.args.stored.now in
    subst (λ (d : Recorded). filter_map (becomes d) new ≡ filter_map (becomes d) old) (sym c.in-Reset.is) (resets c.in-Reset.space new ∙ (c.clear_some.ensures.same ∙ sym (resets c.in-Reset.space old)))

pub returns-in-Reset-clause-all : goal.returns-in-Reset-clause-all
returns-in-Reset-clause-all c =
    let new = c.clear_some.new.self in
    let old = c.args.stored.now in
    subst (λ (d : Recorded). OnTrue c.clear_some.result (new ≡ filter_map (becomes d) old)) (sym c.in-Reset.is) (on_true c.clear_some.result _ _ (λ all. all ∙ sym (resets c.in-Reset.space old)) c.clear_some.ensures.all)
