-- A loop that reads the members of an object one by one.
use Rattle.std.proofs.Common.{◌≡◌, ℕ, List, [], ◌∷◌, ◌++◌, Option, Some, None, option_map, refl, ap, ◌∙◌, append_assoc}
use Rattle.serde_json.specs.Data.{Data, Members, member}
use Rattle.jsp_wire.specs.Parts.{each_member}

-- what is still to be read, behind what is there
abbrev pub with_front : {A : Type 0} → List A → Option (List A) → Option (List A)
with_front front rest = option_map (λ xs. front ++ xs) rest

grows : {A : Type 0} (front : List A) (x : A) (rest : Option (List A)) → with_front (front ++ x ∷ []) rest ≡ with_front front (option_map (λ xs. x ∷ xs) rest)
grows front x None = refl
grows front x (Some xs) = ap Some (append_assoc front (x ∷ []) xs)

pub member_read : {A : Type 0} (read : Data → Option A) (front : List (List ℕ × A)) (k : List ℕ) (d : Data) (ms : Members) (x : A) (whole : Option (List (List ℕ × A))) → read d ≡ Some x
    → with_front front (each_member read (member k d ms)) ≡ whole → with_front (front ++ (k, x) ∷ []) (each_member read ms) ≡ whole
member_read read front k d ms x whole found kept = grows front (k, x) (each_member read ms) ∙ rw found at kept

pub some_same : {A : Type 0} (x y z : A) → Some y ≡ Some x → y ≡ z → x ≡ z
some_same x y z some same = cc
