-- The state once a session was handed out answers.
use Rattle.std.specs.Prelude.{ℕ}
use Rattle.jsp_model.specs.declared.state.State.{State}
use Rattle.jsp_model.specs.Outboxes.{hand_out}

-- the state once a session was handed out its first answers
abbrev pub after_handing : State → ℕ → ℕ → State
after_handing st s n = record st { outboxes = hand_out s n st.outboxes }
