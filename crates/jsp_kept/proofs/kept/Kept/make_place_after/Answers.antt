use Rattle.std.proofs.Common.{refl}
use Rattle.jsp_kept.proofs.Growing.{prepares_none, asks_none, outs_none}
use Rattle.jsp_kept.proofs.kept.Kept.make_place_after.Goals as goal

pub returns-in_default : goal.returns-in_default
returns-in_default g c = record {
  full = tt;
  prepares = prepares_none c.args.self.now;
  place = tt;
  state = refl;
  debt = refl;
  asks = asks_none c.args.self.now;
  outs = outs_none c.args.self.now;
}
