use Rattle.std.proofs.Common.{◌<◌, ℕ, map, length, ap, sym, subst}
use Rattle.jsp_keys.specs.Keys.{mix}
use Rattle.jsp_keyed.proofs.Enough.{none_fails}
use Rattle.jsp_keyed.proofs.lists.limit_of.Goals as goal

pub returns-else-count_longer-lists : goal.returns-else-count_longer-lists
returns-else-count_longer-lists c =
    let lists = c.args.lists.now in
    subst (λ (n : ℕ). n < lists.count) (sym (ap length (none_fails (map (λ k. mix k lists.count) lists.values.now)))) c.requires
