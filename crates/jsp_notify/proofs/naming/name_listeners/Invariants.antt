use Rattle.std.proofs.Common.{◌≡◌, ℕ, ◌<◌, ◌≤◌, ◌-◌, ◌^◌, true}
use Rattle.jsp_table.specs.Numbers.{contains}
use Rattle.jsp_keyed.specs.Kept.{Keeps}
use Rattle.jsp_notify.proofs.naming.name_listeners.Given as goal
use Rattle.jsp_table.specs.Hints.{names}

abbrev pub invariant-listeners : goal.invariant-listeners
invariant-listeners l = record {
  keeps : Keeps l.fn.owed l.owed;
  known : (n : ℕ) → 0 < n → n ≤ l.last → contains l.listeners n ≡ true → names l.owed l.space n ≡ true;
}

abbrev pub decreases-listeners : goal.decreases-listeners
decreases-listeners l = 2 ^ 64 - l.last
