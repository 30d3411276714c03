-- Texts that are appended one after another.
use Rattle.std.proofs.Common.{◌≡◌, ℕ, List, ◌++◌, ◌∙◌, ap, append_assoc, refl, Result, Ok, Err, OnOk}

pub appended : (old mid new a b : List ℕ) → mid ≡ old ++ a → new ≡ mid ++ b → new ≡ old ++ (a ++ b)
appended old mid new a b p q = q ∙ (ap (λ (xs : List ℕ). xs ++ b) p ∙ append_assoc old a b)

-- where the last of them may find no memory
pub appended-OnOk : {A E : Type 0} (r : Result A E) (old mid new a b : List ℕ) → mid ≡ old ++ a → OnOk r (new ≡ mid ++ b)
    → OnOk r (new ≡ old ++ (a ++ b))
appended-OnOk (Ok v) old mid new a b p q = appended old mid new a b p q
appended-OnOk (Err e) old mid new a b p q = tt

-- ten of them, behind a first
pub appended-ten : (a b c d e f g h i j k x1 x2 x3 x4 x5 x6 x7 x8 x9 x10 : List ℕ)
    → x1 ≡ a ++ b → x2 ≡ x1 ++ c → x3 ≡ x2 ++ d → x4 ≡ x3 ++ e → x5 ≡ x4 ++ f → x6 ≡ x5 ++ g → x7 ≡ x6 ++ h → x8 ≡ x7 ++ i
    → x9 ≡ x8 ++ j → x10 ≡ x9 ++ k → x10 ≡ a ++ b ++ c ++ d ++ e ++ f ++ g ++ h ++ i ++ j ++ k
appended-ten a b c d e f g h i j k x1 x2 x3 x4 x5 x6 x7 x8 x9 x10 p1 p2 p3 p4 p5 p6 p7 p8 p9 p10 =
    simp (p10, p9, p8, p7, p6, p5, p4, p3, p2, p1, append_assoc) refl
