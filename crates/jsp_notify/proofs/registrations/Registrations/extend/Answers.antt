use Rattle.std.proofs.Common.{◌∙◌, map, ap}
use Rattle.jsp_notify.specs.News.{hearing}
use Rattle.jsp_notify.specs.Registered.{registration_ending}
use Rattle.jsp_notify.proofs.Asked.{ending_after}
use Rattle.jsp_notify.proofs.registrations.Registrations.extend.Goals as goal

pub returns : goal.returns
returns c =
    let self = c.self.inside.listeners in
    let ending = registration_ending c.args.number c.args.end in
    ap (map (hearing self.news)) c.extend.ensures ∙ (ending_after self.news c.args.number c.args.end self.heard ∙ ap (map ending) c.self.view_is)
