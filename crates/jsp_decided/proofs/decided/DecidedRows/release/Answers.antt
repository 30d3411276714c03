use Rattle.std.proofs.Common.{ap, ◌∙◌}
use Rattle.jsp_model.specs.Changes.{release}
use Rattle.jsp_decided.specs.Recording.{rows_after}
use Rattle.jsp_decided.proofs.Sparing.{released_after}
use Rattle.jsp_decided.proofs.decided.DecidedRows.release.Goals as goal

pub returns : goal.returns
returns c =
    let ds = c.make_way_in.new.self.recorded.items in
    ap (rows_after ds) c.release.ensures
    ∙ (released_after c.args.vote c.args.x c.args.space ds c.make_way_in.new.self.stored c.make_way_in.ensures.none ∙ ap (release c.args.vote c.args.x c.args.space) c.make_way_in.ensures.same)
