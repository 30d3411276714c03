-- Things by number, and the first that passes a test.
use Rattle.std.specs.Prelude.{◌≡◌, ℕ, ◌<◌, Bool, true, not, ◌==◌, ◌&&◌, nat_lt, List, [], ◌∷◌, filter, find, Option}
use Rattle.std.specs.List.{AllByRecursion}
use Rattle.jsp_table.specs.Numbers.{contains}

module _ {T : Type 0} (num : T → ℕ) where
  abbrev pub numbered : ℕ → List T → Option T
  numbered n xs = find (λ x. num x == n) xs

  abbrev pub without : ℕ → List T → List T
  without n xs = filter (λ x. not (num x == n)) xs

  -- the thing is above the number, is named, and passes the test
  abbrev pub is_hit : (T → Bool) → List ℕ → ℕ → T → Bool
  is_hit test ns after x = nat_lt after (num x) && (contains ns (num x) && test x)

  -- the numbers rise
  abbrev pub AreNumbered : List T → Type 0
  AreNumbered [] = Unit {0}
  AreNumbered (x ∷ xs) = AllByRecursion (λ y. num x < num y) xs × AreNumbered xs

  -- each that passes the test is named
  abbrev pub AreNamed : (T → Bool) → List ℕ → List T → Type 0
  AreNamed test ns xs = AllByRecursion (λ x. test x ≡ true → contains ns (num x) ≡ true) xs
