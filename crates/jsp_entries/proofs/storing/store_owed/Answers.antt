use Rattle.std.proofs.Common.{◌≡◌, ◌∙◌, ap, map}
use Rattle.jsp_notify.specs.Owing.{owed, forgiven}
use Rattle.jsp_notify.proofs.Owed.{all_forgiven}
use Rattle.jsp_entries.proofs.storing.store_owed.Goals as goal

pub returns-clause-owed_stay : goal.returns-clause-owed_stay
returns-clause-owed_stay c =
    let classes = c.args.classes.now in
    let news = c.args.caller in
    let same : c.as_slice-in-Err.result.now ≡ c.args.rows.items = c.as_slice-in-Err.ensures.value ∙ c.in-Err.ensures.rows_stay in
    let told : c.owe_all.new.self ≡ map (owed classes news c.args.rows.items) c.args.heard.now = rw c.as_slice.ensures.value at c.in_ok-owe_all.ensures.ok in
    c.forgive_all.ensures ∙ (ap (λ rows. map (forgiven classes news rows) c.owe_all.new.self) same
    ∙ (ap (map (forgiven classes news c.args.rows.items)) told ∙ all_forgiven classes news c.args.rows.items c.args.heard.now))
