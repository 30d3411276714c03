use Rattle.jsp_floor.proofs.Coming.{may_come}
use Rattle.jsp_floor.proofs.threads.Server.serve_admitted.Goals as goal

pub leave-why-requires : goal.leave-why-requires
leave-why-requires g c = λ read written at at'.
    let served = c.serve_or_turn_away-done.ensures in
    may_come g.D.Door.gives g.R.Read.remaining g.W.Write.contents _ _ _ _ _ _ _ _ _ _ _ _ _ _ _ read written _ c.requires served.reads served.faults served.writes at at'
