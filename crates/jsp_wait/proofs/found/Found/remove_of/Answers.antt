use Rattle.std.proofs.Common.{◌∙◌, ap}
use Rattle.jsp_wait.specs.Sessions.{asked_by}
use Rattle.jsp_wait.proofs.Mapped.{none_asked, ends}
use Rattle.jsp_wait.proofs.found.Found.remove_of.Goals as goal

pub invariant_of-self : goal.invariant_of-self
invariant_of-self c =
    let self = c.self.inside in
    let session = c.args.session in
    ends self.sessions c.drop_session.new.sessions self.requests c.self.invariant session
    (ap (asked_by session) (c.self.view_is ∙ c.remove_each_of.ensures) ∙ none_asked session c.args.self.now) c.drop_session.ensures
