-- The state once something was said in it, and before.
use Rattle.std.specs.Prelude.{List, fold}
use Rattle.jsp_model.specs.declared.state.State.{State}
use Rattle.jsp_model.specs.Answers.{Saying}
use Rattle.jsp_model.specs.Outboxes.{post}
use Rattle.jsp_outbox.specs.declared.post.Posted.{Posted}
use Rattle.jsp_outbox.specs.Outboxes.{before_all}

abbrev pub with_posted : List Saying → State → State
with_posted sayings st = record st { outboxes = fold post st.outboxes sayings }

abbrev pub without_posted : List Posted → State → State
without_posted posts st = record st { outboxes = before_all posts st.outboxes }
