-- Reading a whole script.
use Rattle.std.proofs.Common.{◌≡◌, ℕ, ◌≤◌, List, [], ◌++◌, ◌∙◌, Option, Some, None, length, take, length-take, ap, subst, arith}
use Rattle.std.specs.Prelude.{IfSome}
use Rattle.std.specs.Option.{option_map}
use Rattle.std.proofs.lemmas.List.{take_all}

within_limit : (known : Option (List ℕ)) (text : List ℕ) → IfSome (option_map (take 16777217) known) (λ bytes. text ≡ bytes) → length text ≤ 16777216 → IfSome known (λ all. text ≡ all)
within_limit None text h within = tt
within_limit (Some all) text h within =
    let long : length text ≡ length (take 16777217 all) = ap length h in
    let short : length all ≤ 16777217 = omega (arith, long, length-take 16777217 all) in
    h ∙ take_all 16777217 all short

-- What is read of at most one byte more than the limit is all there is, where it is within the limit.
pub all_read : (known left : Option (List ℕ)) (most : ℕ) (before text : List ℕ) → left ≡ known → most ≡ 16777217 → before ≡ []
    → IfSome (option_map (take most) left) (λ bytes. text ≡ before ++ bytes) → length text ≤ 16777216 → IfSome known (λ all. text ≡ all)
all_read known left most before text is one_more nothing h within =
    let from_nothing = subst (λ b. IfSome (option_map (take most) left) (λ bytes. text ≡ b ++ bytes)) nothing h in
    let so_many = subst (λ n. IfSome (option_map (take n) left) (λ bytes. text ≡ bytes)) one_more from_nothing in
    within_limit known text (subst (λ k. IfSome (option_map (take 16777217) k) (λ bytes. text ≡ bytes)) is so_many) within
