use Rattle.std.proofs.Common.{◌≡◌, true, sym, subst}
use Rattle.jsp_index.specs.declared.holding.Holding.{Holding}
use Rattle.jsp_index.specs.Holding.{listed_in, is_in}
use Rattle.jsp_index.proofs.Listed.{begun_list, begun_keeps}
use Rattle.jsp_index.proofs.holding.begin_list.Goals as goal

pub returns-clause-ok : goal.returns-clause-ok
returns-clause-ok c =
    let begun : Holding = record { space = c.args.space; numbers = c.add.new.self } in
    subst (λ hs. is_in (listed_in hs c.args.space) c.args.number ≡ true) (sym c.in_ok-push.ensures.items) (begun_list c.args.holdings.now.items begun c.args.number c.requires c.in_ok-add.ensures.ok)

pub returns-clause-keeps : goal.returns-clause-keeps
returns-clause-keeps c s n there =
    let begun : Holding = record { space = c.args.space; numbers = c.add.new.self } in
    subst (λ hs. is_in (listed_in hs s) n ≡ true) (sym c.in_ok-push.ensures.items) (begun_keeps c.args.holdings.now.items begun s n there)
