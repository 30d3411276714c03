-- The numbers of a list, however they are kept.
use Rattle.std.specs.Prelude.{ℕ, List, [], ◌∷◌}
use Rattle.jsp_table.specs.declared.numbers.Storage.{Storage}
use Rattle.jsp_table.specs.declared.numbers.Storage.TheVariants.{Empty, One, Few, Many}

abbrev pub numbers_in : Storage → List ℕ
numbers_in Empty = []
numbers_in (One number) = number ∷ []
numbers_in (Few numbers) = numbers.value.items
numbers_in (Many numbers) = numbers.value.keys
