-- Numbers as text.
use Rattle.std.specs.Prelude.{ℕ, List, ◌++◌, ◌/◌, ◌%◌, codes, decimal}

-- a number of tenths
abbrev pub tenths : ℕ → List ℕ
tenths n = decimal (n / 10) ++ codes "." ++ decimal (n % 10)
