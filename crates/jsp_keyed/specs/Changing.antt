-- What a change of a thing leaves as it was.
use Rattle.std.specs.Prelude.{◌≡◌, ℕ, Bool, if◌then◌else◌, List}

module _ {T : Type 0} (num : T → ℕ) (keys_of : ℕ → T → List ℕ) (end_of : T → ℕ) where
  -- the new thing is found and ends as the other does
  pub record HasSameKeys (x new : T) : Type 0 where
    pub number : num new ≡ num x
    pub keys : (seed : ℕ) → keys_of seed new ≡ keys_of seed x
    pub end : end_of new ≡ end_of x

  -- the new thing is found as the other is, and ends then
  pub record HasOnlyNewEnd (end : ℕ) (x new : T) : Type 0 where
    pub number : num new ≡ num x
    pub keys : (seed : ℕ) → keys_of seed new ≡ keys_of seed x
    pub ends : end_of new ≡ end

-- what passes changes
abbrev pub where_passed : {T : Type 0} → (T → Bool) → (T → T) → T → T
where_passed passed changed x = if passed x then changed x else x

-- whatever passes passes when it is changed too, and the change can be undone
pub record IsUndone {T : Type 0} (passed : T → Bool) (changed undone : T → T) : Type 0 where
  pub passes : (x : T) → passed (changed x) ≡ passed x
  pub back : (x : T) → undone (changed x) ≡ x
