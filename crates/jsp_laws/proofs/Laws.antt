-- Each run from an empty state keeps all the laws.
use Rattle.std.proofs.Common.{ℕ, List}
use Rattle.jsp_model.specs.declared.step.Step.{Step}
use Rattle.jsp_model.specs.Lookup.{empty}
use Rattle.jsp_model.specs.Runs.{IsRun}
use Rattle.jsp_laws.specs.Runs.{LawsOfRuns}
use Rattle.jsp_laws.proofs.Taken.{taken_once}
use Rattle.jsp_laws.proofs.Secret.{provenance}
use Rattle.jsp_laws.proofs.Votes.{one_decision}
use Rattle.jsp_laws.proofs.Recorded.{commit_ends, votes_stand}
use Rattle.jsp_laws.proofs.Whole.{match_sets}
use Rattle.jsp_laws.proofs.Deciding.{commit_is_whole, abort_is_whole, abort_ends}
use Rattle.jsp_laws.proofs.Voting.{votes_once}
use Rattle.jsp_laws.proofs.Reading.{read_holds}
use Rattle.jsp_laws.proofs.Events.{events_are_numbered}
use Rattle.jsp_laws.proofs.Told.{told_once}

pub laws_of_runs : (names : List (List ℕ)) (steps : List Step) → IsRun (empty names) steps → LawsOfRuns (empty names) steps
laws_of_runs names steps run = record {
  taken_once = taken_once names steps run;
  provenance = provenance names steps run;
  one_decision = one_decision names steps run;
  commit_ends = commit_ends names steps run;
  votes_stand = votes_stand names steps run;
  commit_is_whole = commit_is_whole names steps run;
  abort_is_whole = abort_is_whole names steps run;
  abort_ends = abort_ends names steps run;
  votes_once = votes_once names steps run;
  read_holds = read_holds names steps run;
  events_are_numbered = events_are_numbered names steps run;
  told_once = told_once names steps run;
  match_sets = match_sets names steps run;
}
