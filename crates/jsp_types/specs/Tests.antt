-- Tests in their order, each with what is answered where it applies.
use Rattle.std.specs.Prelude.{Bool, cond, List, [], ◌∷◌, Option, Some, None}

-- the first of these that applies
abbrev pub first_that : {F : Type 0} → List (Bool × F) → Option F
first_that [] = None
first_that (t ∷ ts) = cond t.0 (Some t.1) (first_that ts)
