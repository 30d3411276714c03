use Rattle.std.proofs.Common.{◌≡◌, true, ℕ, List, sym, subst}
use Rattle.jsp_model.specs.Lookup.{contains}
use Rattle.jsp_machine.proofs.Stirred.{named_by_row, named_in_none, offered_all, any_offered}
use Rattle.jsp_machine.proofs.stirring.stir_for.Goals as goal

pub returns-in_default-clause-stirred : goal.returns-in_default-clause-stirred
returns-in_default-clause-stirred c = named_in_none c.args.state.now c.args.number c.args.stirred.now c.requires c.in_default.ensures

pub returns-in-Ok-clause-stirred : goal.returns-in-Ok-clause-stirred
returns-in-Ok-clause-stirred c =
    let st = c.args.state.now in
    named_by_row st c.args.number c.in-Some.row.now c.add_all.new.self c.requires c.in-Some.ensures
    (offered_all st c.in-Some.row.now c.in-Ok.requests.items c.add_all.new.self c.in-Ok.ensures (λ n e. c.add_all.ensures.added n (subst (λ (ns : List ℕ). contains ns n ≡ true) (sym c.as_slice.ensures.value) e)))

pub returns-in-Err-clause-stirred : goal.returns-in-Err-clause-stirred
returns-in-Err-clause-stirred c =
    let st = c.args.state.now in
    named_by_row st c.args.number c.in-Some.row.now c.open.new.self c.requires c.in-Some.ensures (any_offered st c.in-Some.row.now c.open.new.self c.open.ensures)
