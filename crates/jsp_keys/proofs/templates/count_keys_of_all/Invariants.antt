use Rattle.std.proofs.Common.{◌≡◌, ℕ, ◌≤◌, ◌*◌, length, take}
use Rattle.jsp_keys.specs.Templates.{keys_of_all}
use Rattle.jsp_keys.proofs.templates.count_keys_of_all.Given as goal

abbrev pub invariant-templates : goal.invariant-templates
invariant-templates l = record {
  count : (seed space : ℕ) → l.count ≡ length (keys_of_all seed space (take l.place l.templates));
  few : l.count ≤ 5 * l.place;
}
