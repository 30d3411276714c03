use Rattle.std.proofs.Common.{◌≡◌, ℕ, ◌<◌, ◌≤◌, ap, sym, length, List, arith}
use Rattle.std.specs.Prelude.{nat_le}
use Rattle.std.proofs.lemmas.Bool.Decides.{nat_tests}
use Rattle.jsp_table.specs.Places.{living}
use Rattle.jsp_keyed.proofs.Placed.{living_fewer}
use Rattle.jsp_keyed.proofs.keyed.Keyed.has_at_least.Goals as goal

neither : (count places things : ℕ) → things ≤ places → places < count → nat_le count places ≡ nat_le count things
neither count places things le lt = grind (arith, nat_tests)

pub returns-else-count-places : goal.returns-else-count-places
returns-else-count-places g c =
    let places = c.places-places.result.now in
    let same : length c.args.self.now ≡ length (living places) = sym (ap (λ (w : List g.row.T.Denot). length w) c.places-places.ensures.things) in
    neither c.args.count (length places) (length c.args.self.now) (omega (arith, same, living_fewer places)) c.if-count-places.false
