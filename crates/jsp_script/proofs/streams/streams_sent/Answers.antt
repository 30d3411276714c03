use Rattle.std.proofs.Common.{ℕ, List, [], ◌++◌, ◌==◌, ap, sym, ◌∙◌, take, if◌then◌else◌}
use Rattle.jsp_drive.specs.Tie.{bytes_to}
use Rattle.jsp_script.specs.Audit.{kept}
use Rattle.jsp_script.proofs.Gathering.{sent_more}
use Rattle.jsp_script.proofs.streams.streams_sent.Goals as goal

pub sent-preserved : goal.sent-preserved
sent-preserved c =
    let i = c.sent.one-index in
    let sent = c.args.sent.now in
    let one = c.one-item.result in
    λ s. c.in_ok-add.ensures (λ t. bytes_to t (take i sent)) c.sent.invariant s
    ∙ ap (λ (w : List ℕ). kept (bytes_to s (take i sent) ++ (if one.session == s then w else []))) c.as_slice.ensures
    ∙ ap kept (sym (sent_more s i sent one c.sent-test.true c.one-item.is))
