-- What is found out of the request in a step.
use Rattle.std.specs.Prelude.{ℕ, Bool, ◌==◌, List, length}
use Rattle.jsp_model.specs.declared.state.State.{State}
use Rattle.jsp_model.specs.declared.step.Step.{Step}
use Rattle.jsp_model.specs.declared.step.Step.TheVariants as step
use Rattle.jsp_model.specs.Steps.{is_choice}
use Rattle.jsp_requests.specs.declared.judging.Judged.{Judged}
use Rattle.jsp_requests.specs.declared.judging.Judged.TheVariants.{Rows, Plain}
use Rattle.jsp_requests.specs.Judging.{judged}

-- a step without a request isn't refused, and is for no rows
abbrev pub judged_in : State → Step → Judged
judged_in st (step.Ask s a rows) = judged st s a.id a.ask
judged_in st _ = Plain

-- the rows in the step of a request that is judged so: a choice, where it is for rows, and else none
abbrev pub fits : State → Judged → List ℕ → Bool
fits st (Rows w) ns = is_choice st w.request ns
fits st _ ns = length ns == 0
