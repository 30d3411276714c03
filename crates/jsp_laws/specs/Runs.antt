-- The laws of a run, in one: what holds in every run from an empty state.
use Rattle.std.specs.Prelude.{List}
use Rattle.jsp_model.specs.declared.state.State.{State}
use Rattle.jsp_model.specs.declared.step.Step.{Step}
use Rattle.jsp_model.specs.Laws.{TakenOnce, Provenance, OneDecision, MatchSetsAreWhole}
use Rattle.jsp_laws.specs.Commits.{CommitEnds, VotesStand}
use Rattle.jsp_laws.specs.Decisions.{CommitIsWhole, AbortIsWhole, AbortEnds}
use Rattle.jsp_laws.specs.Votes.{VotesOnce}
use Rattle.jsp_laws.specs.Reads.{ReadHolds}
use Rattle.jsp_laws.specs.Events.{EventsAreNumbered, ToldOnce}

pub record LawsOfRuns (st : State) (steps : List Step) : Type 0 where
  pub taken_once : TakenOnce st steps
  pub provenance : Provenance st steps
  pub one_decision : OneDecision st steps
  pub commit_ends : CommitEnds st steps
  pub votes_stand : VotesStand st steps
  pub commit_is_whole : CommitIsWhole st steps
  pub abort_is_whole : AbortIsWhole st steps
  pub abort_ends : AbortEnds st steps
  pub votes_once : VotesOnce st steps
  pub read_holds : ReadHolds st steps
  pub events_are_numbered : EventsAreNumbered st steps
  pub told_once : ToldOnce st steps
  pub match_sets : MatchSetsAreWhole st steps
