-- The empty state is within the limits.
use Rattle.std.proofs.Common.{◌≡◌, ℕ, ◌-◌, ◌^◌, true, nat_le, List, [], ◌∷◌, map, refl, ap, ◌∙◌, arith}
use Rattle.std.specs.Prelude.{IsTrue}
use Rattle.std.specs.List.{list_all}
use Rattle.jsp_model.specs.declared.state.Space.{Space}
use Rattle.jsp_model.specs.Config.{are_space_names}
use Rattle.jsp_model.specs.Lookup.{empty}
use Rattle.jsp_model.specs.Limits.{IsWithinLimits}

abbrev new_spaces : List (List ℕ) → List Space
new_spaces names = map (λ n. record { name = n; crash_count = 1 }) names

names_of : (names : List (List ℕ)) → map (λ (p : Space). p.name) (new_spaces names) ≡ names
names_of [] = refl
names_of (n ∷ names) = ap (λ w. n ∷ w) (names_of names)

first_counts : (names : List (List ℕ)) → list_all (λ (p : Space). nat_le p.crash_count (2 ^ 32 - 1)) (new_spaces names) ≡ true
first_counts [] = refl
first_counts (n ∷ names) = first_counts names

pub limits_at_first : (names : List (List ℕ)) → IsTrue (are_space_names names) → IsWithinLimits (empty names)
limits_at_first names h = record {
  classes = record { each = refl; count = omega arith };
  spaces = record { names = ap are_space_names (names_of names) ∙ h; crash_counts = first_counts names };
  sessions = record { most = omega arith; rising = refl };
  time = omega arith;
  next_number = omega arith;
  rows = record { rising = refl; each = refl; in_space = λ space. omega arith };
  registrations = record { rising = refl; each = refl; count = omega arith };
  sequences = refl;
  blocked = record { rising = refl; each = refl };
  transactions = record { rising = refl; each = refl; count = omega arith };
  sets = record { rising = refl; each = refl; count = omega arith };
  commits = refl;
  waiting = λ s. omega arith;
  numbers = λ n. omega arith;
  outboxes = refl;
}
