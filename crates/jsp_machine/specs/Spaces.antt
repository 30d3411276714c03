-- Spaces at first.
use Rattle.std.specs.Prelude.{ℕ, List, map}
use Rattle.jsp_model.specs.declared.state.Space.{Space}

-- spaces in which nothing was done yet; a space's first crash count is 1
abbrev pub new_spaces : List (List ℕ) → List Space
new_spaces names = map (λ n. record { name = n; crash_count = 1 }) names
