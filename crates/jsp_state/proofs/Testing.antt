-- Lists of tests: what is known where none applies.
use Rattle.std.proofs.Common.{◌≡◌, Bool, true, false, List, [], ◌∷◌, ◌++◌, Some, None, refl, sym, ◌∙◌}
use Rattle.jsp_types.specs.Tests.{first_that}

-- of two lists
pub none_of_both : {F : Type 0} (xs ys : List (Bool × F)) → first_that (xs ++ ys) ≡ None → (first_that xs ≡ None) × (first_that ys ≡ None)
none_of_both [] ys h = (refl, h)
none_of_both ((true, f) ∷ xs) ys h = cc (h)
none_of_both ((false, f) ∷ xs) ys h = none_of_both xs ys h

-- of the second of three
pub none_of_second : {F : Type 0} (xs ys zs : List (Bool × F)) → first_that (xs ++ ys ++ zs) ≡ None → first_that ys ≡ None
none_of_second xs ys zs h = (none_of_both xs ys (none_of_both (xs ++ ys) zs h).0).1

-- the one that applies in the first of two lists
pub found_in_first : {F : Type 0} (xs ys : List (Bool × F)) (f : F) → first_that xs ≡ Some f → Some f ≡ first_that (xs ++ ys)
found_in_first [] ys f h = cc (h)
found_in_first ((true, g) ∷ xs) ys f h = sym h
found_in_first ((false, g) ∷ xs) ys f h = found_in_first xs ys f h

-- or of three, and the one in the second where none of the first applies
pub found_in_front : {F : Type 0} (xs ys zs : List (Bool × F)) (f : F) → first_that xs ≡ Some f → Some f ≡ first_that (xs ++ ys ++ zs)
found_in_front xs ys zs f h = found_in_first (xs ++ ys) zs f (sym (found_in_first xs ys f h))

after_none : {F : Type 0} (xs ys : List (Bool × F)) → first_that xs ≡ None → first_that (xs ++ ys) ≡ first_that ys
after_none [] ys h = refl
after_none ((true, g) ∷ xs) ys h = cc (h)
after_none ((false, g) ∷ xs) ys h = after_none xs ys h

pub found_in_second : {F : Type 0} (xs ys zs : List (Bool × F)) (f : F) → first_that xs ≡ None → first_that ys ≡ Some f → Some f ≡ first_that (xs ++ ys ++ zs)
found_in_second xs ys zs f none h = found_in_first (xs ++ ys) zs f (after_none xs ys none ∙ h)
