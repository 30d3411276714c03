use Rattle.std.proofs.Common.{ℕ, Vec, Global, ap, sym, ◌∙◌}
use Rattle.std.proofs.lemmas.Map.Keys.{below_from_sorted}
use Rattle.jsp_table.specs.Numbers.{contains}
use Rattle.jsp_table.specs.Storage.{numbers_in}
use Rattle.jsp_table.proofs.Next.{made}
use Rattle.jsp_table.proofs.numbers.make_way.Goals as goal

pub returns-in_ok-many-clause-increasing : goal.returns-in_ok-many-clause-increasing
returns-in_ok-many-clause-increasing c i j less lt = below_from_sorted c.in_ok-many.many.value.keys i j 0 c.in_ok-many.ensures.1 less lt

pub returns-in_ok-many-clause-keeps : goal.returns-in_ok-many-clause-keeps
returns-in_ok-many-clause-keeps c m h =
    made c.as_slice.result.now c.in_ok-many.many.value.keys m (c.in_ok-many.ensures.0 m) (ap (λ w. contains w m) (c.as_slice.ensures.value ∙ ap (λ (v : Vec ℕ Global). v.items) c.deref-then-len-ge-MOST_FEW.ensures ∙ ap numbers_in (sym c.in-Few.is)) ∙ h)
