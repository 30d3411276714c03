use Rattle.std.proofs.Common.{◌≡◌, ◌<◌, ℕ, length, slice_index}
use Rattle.jsp_keys.specs.Templates.{value_keys}
use Rattle.jsp_keys.proofs.value_keys.fill.Given as goal

abbrev pub invariant-places : goal.invariant-places
invariant-places l = record {
  made : (i : ℕ) → i < l.place → slice_index l.keys i ≡ slice_index (value_keys l.seed l.space l.fields) i;
  room : length l.keys ≡ 32;
}
