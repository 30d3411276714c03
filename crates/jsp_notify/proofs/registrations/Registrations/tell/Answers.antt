use Rattle.std.proofs.Common.{◌∙◌, ◌+◌, ◌^◌, List, map, ap, sym, subst}
use Rattle.std.specs.Prelude.{nat_le, IsTrue, ◌==◌}
use Rattle.std.specs.List.{list_all}
use Rattle.jsp_model.specs.declared.state.Registration.{Registration}
use Rattle.jsp_model.specs.Lookup.{update}
use Rattle.jsp_notify.specs.News.{hearing}
use Rattle.jsp_notify.specs.Registered.{told_once}
use Rattle.jsp_notify.proofs.Told.{told_heard, sequences_after}
use Rattle.jsp_notify.proofs.registrations.Registrations.tell.Goals as goal

pub tell-requires : goal.tell-requires
tell-requires c =
    let self = c.self.inside.listeners in
    let same = c.tell_before.ensures.same ∙ c.self.view_is in
    sequences_after c.tell_before.new.news c.tell_before.new.heard ∙ subst (λ (rs : List Registration). IsTrue (list_all (λ r. nat_le (r.sequence + 1) (2 ^ 63)) rs)) (sym same) c.requires

pub returns-clause-ok : goal.returns-clause-ok
returns-clause-ok c =
    let self = c.self.inside.listeners in
    ap (map (hearing c.tell_before.new.news)) c.tell.ensures
    ∙ (told_heard c.tell_before.new.news c.args.number c.tell_before.new.heard c.in_ok-tell_before.ensures.ready
    ∙ ap (update (λ (r : Registration). r.number == c.args.number) told_once) (c.tell_before.ensures.same ∙ c.self.view_is))
