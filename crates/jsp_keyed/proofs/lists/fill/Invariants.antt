use Rattle.std.proofs.Common.{◌≡◌, ◌<◌, ℕ, length, slice_index}
use Rattle.jsp_keys.specs.Keys.{mix}
use Rattle.jsp_keyed.specs.Several.{length_under}
use Rattle.jsp_keyed.proofs.lists.fill.Given as goal

abbrev pub invariant-places : goal.invariant-places
invariant-places l = record {
  known : (i : ℕ) → i < l.place → slice_index l.lengths i ≡ length_under l.hints (mix (slice_index l.values i) l.count);
  room : length l.lengths ≡ 32;
}
