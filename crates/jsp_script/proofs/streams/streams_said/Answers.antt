use Rattle.std.proofs.Common.{ℕ, List, [], ◌++◌, ◌==◌, ap, sym, ◌∙◌, take, if◌then◌else◌}
use Rattle.jsp_script.specs.Audit.{kept, frames_to}
use Rattle.jsp_script.proofs.Gathering.{said_more}
use Rattle.jsp_script.proofs.streams.streams_said.Goals as goal

pub said-preserved : goal.said-preserved
said-preserved c =
    let i = c.said.session-index in
    let said = c.args.said.now in
    let one = c.said-item.result in
    λ s. c.in_ok-add.ensures (λ t. frames_to t (take i said)) c.said.invariant s
    ∙ ap (λ (w : List ℕ). kept (frames_to s (take i said) ++ (if one.0 == s then w else []))) (c.as_slice.ensures.value ∙ c.in_ok-frame.ensures)
    ∙ ap kept (sym (said_more s i said one c.said-test.true c.said-item.is))
