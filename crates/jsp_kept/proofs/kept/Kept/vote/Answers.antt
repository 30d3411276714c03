use Rattle.std.proofs.Common.{rules, ◌≡◌, true, Ok, Err, subst}
use Rattle.jsp_model.specs.House.{settled_by}
use Rattle.jsp_kept.specs.Eras.{GrowsAsAsked, no_memory}
use Rattle.jsp_kept.proofs.Growing.{performs_on}
use Rattle.jsp_kept.proofs.Turning.{settled_done, settled_unfinished}
use Rattle.jsp_kept.proofs.kept.Kept.vote.Goals as goal

pub returns-in-Ok-go_on-clause-performs : goal.returns-in-Ok-go_on-clause-performs
returns-in-Ok-go_on-clause-performs g c =
    let e = c.in-Err.stopped in
    let done : e.done ≡ true = search rules in
    let first : GrowsAsAsked c.args.self.now c.vote_until_done.new.self (settled_by c.args.self.now.state (Ok c.args.turn)) (Err e) = subst (λ own. GrowsAsAsked c.args.self.now c.vote_until_done.new.self own (Err e)) (settled_done c.args.self.now.state e c.args.turn done) c.in-Err.ensures.performs in
    performs_on _ _ _ (settled_by c.args.self.now.state (Ok c.args.turn)) e (Ok tt) first c.in-Ok-go_on.ensures.performs

pub returns-in-Err-go_on-clause-performs : goal.returns-in-Err-go_on-clause-performs
returns-in-Err-go_on-clause-performs g c =
    let e = c.in-Err.stopped in
    let done : e.done ≡ true = search rules in
    let first : GrowsAsAsked c.args.self.now c.vote_until_done.new.self (settled_by c.args.self.now.state (Err (no_memory true))) (Err e) = subst (λ own. GrowsAsAsked c.args.self.now c.vote_until_done.new.self own (Err e)) (settled_unfinished c.args.self.now.state e done) c.in-Err.ensures.performs in
    rw c.in-Err-go_on.ensures.err (performs_on _ _ _ (settled_by c.args.self.now.state (Err (no_memory true))) e (Err (no_memory true)) first (rw c.in-Err-go_on.ensures.err at c.in-Err-go_on.ensures.performs))
