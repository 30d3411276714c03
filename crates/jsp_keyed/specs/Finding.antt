-- The first thing that passes a test, found in parts.
use Rattle.std.specs.Prelude.{◌≡◌, ◌≤◌, ℕ, Bool, true, ◌&&◌, nat_lt, nat_le, if◌then◌else◌, List, Option, Some, None}
use Rattle.std.specs.List.{AllByRecursion, list_any}
use Rattle.jsp_table.specs.Numbers.{contains}
use Rattle.jsp_table.specs.Finding.{numbered}

-- one of the keys that are sought is among these
abbrev pub is_sought : List ℕ → List ℕ → Bool
is_sought sought keys = list_any (contains keys) sought

module _ {T : Type 0} (keys_of : ℕ → T → List ℕ) where
  -- each thing of the kind has the key, whatever the seed is
  abbrev pub HaveKey : (ℕ → ℕ) → (T → Bool) → Type 0
  HaveKey key_by kind = (seed : ℕ) (x : T) → kind x ≡ true → contains (keys_of seed x) (key_by seed) ≡ true

module _ {T : Type 0} (num : T → ℕ) where
  -- the thing is above the number and passes
  abbrev pub is_next : (T → Bool) → ℕ → T → Bool
  is_next passed after x = nat_lt after (num x) && passed x

  -- the number is no less than that of the thing
  abbrev pub IsUpTo : Option T → ℕ → Type 0
  IsUpTo None n = ⊥
  IsUpTo (Some x) n = num x ≤ n

  -- the thing is one of these and passes
  abbrev pub IsOneOf : (T → Bool) → List T → Option T → Type 0
  IsOneOf passed xs None = Unit {0}
  IsOneOf passed xs (Some x) = (passed x ≡ true) × (numbered num (num x) xs ≡ Some x)

  -- what was found passes, and is no later than any thing of this kind that passes
  pub record IsLeast (passed kind : T → Bool) (xs : List T) (found : Option T) : Type 0 where
    pub one : IsOneOf passed xs found
    pub least : AllByRecursion (λ x. passed x ≡ true → kind x ≡ true → IsUpTo found (num x)) xs

  -- the one with the lesser number
  abbrev pub lesser : Option T → Option T → Option T
  lesser None b = b
  lesser (Some a) None = Some a
  lesser (Some a) (Some b) = if nat_le (num a) (num b) then Some a else Some b
