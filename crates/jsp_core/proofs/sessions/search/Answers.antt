use Rattle.std.proofs.Common.{rules}
use Rattle.std.proofs.lemmas.List.Sorted.{answers_always}
use Rattle.jsp_core.proofs.Searching.{searched}
use Rattle.jsp_core.proofs.sessions.search.Goals as goal

-- the closure gives a session's number
pub returns : goal.returns
returns c =
    let facts = c.binary_search_by_key.ensures in
    let by_number = facts.position (λ session. session.number) (answers_always _ _ _ (λ f a r g called. search rules)) in
    searched c.args.sessions.now c.args.number c.requires _ facts.bound by_number
