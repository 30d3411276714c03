-- Places in a row, each empty or with a thing, and the numbers that they have.
use Rattle.std.specs.Prelude.{◌≡◌, ℕ, ◌<◌, List, length, slice_index, slice_index_or, Option, Some, None}
use Rattle.std.specs.List.{filter_map, AllByRecursion}

module _ {T : Type 0} where
  -- the things of the places that aren't empty
  abbrev pub living : List (Option T) → List T
  living places = filter_map (λ place. place) places

  abbrev pub place_at : List (Option T) → ℕ → Option T
  place_at places k = slice_index_or places k None

module _ {T : Type 0} (num : T → ℕ) where
  -- Each place has a number, in rising order, and a thing stands at the place of its number. A place
  -- keeps its number where its thing has gone.
  pub record AreKept (numbers : List ℕ) (places : List (Option T)) : Type 0 where
    pub size : length numbers ≡ length places
    pub rising : (i j : ℕ) → i < j → j < length numbers → slice_index numbers i < slice_index numbers j
    pub at_its_number : (k : ℕ) (thing : T) → place_at places k ≡ Some thing → (k < length numbers) × (slice_index numbers k ≡ num thing)

  -- each thing at the first so many places has its number there
  abbrev pub HaveNumbers : List ℕ → List (Option T) → ℕ → Type 0
  HaveNumbers numbers places n = (k : ℕ) (thing : T) → k < n → place_at places k ≡ Some thing → slice_index numbers k ≡ num thing

  -- the numbers are below those of all the things
  abbrev pub AreOver : List ℕ → List T → Type 0
  AreOver numbers things = (k : ℕ) → k < length numbers → AllByRecursion (λ y. slice_index numbers k < num y) things
