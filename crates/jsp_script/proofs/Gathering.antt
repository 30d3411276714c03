-- Bytes are gathered by session, one after another.
use Rattle.std.proofs.Common.{◌≡◌, ℕ, suc, ◌+◌, ◌<◌, ◌==◌, Bool, true, false, List, [], ◌∷◌, ◌++◌, refl, ap, sym, ◌∙◌, length, take, get_or, arith}
use Rattle.std.specs.Prelude.{filter, flat_map, map, if◌then◌else◌}
use Rattle.std.proofs.lemmas.List.{append-nil}
use Rattle.std.proofs.lemmas.List.Elements.{filter-append}
use Rattle.std.proofs.lemmas.Grind.{flat_map-append}
use Rattle.std.proofs.Math.Seq.{take-suc}
use Rattle.jsp_model.specs.Answers.{Saying}
use Rattle.jsp_drive.specs.declared.acts.Sent.{Sent}
use Rattle.jsp_drive.specs.Heard.{framed}
use Rattle.jsp_drive.specs.Tie.{bytes_to}
use Rattle.jsp_script.specs.Audit.{frames_to}

take_more : {A : Type 0} (xs : List A) (i : ℕ) (x : A) → i < length xs → x ≡ get_or xs i x → take (i + 1) xs ≡ take i xs ++ x ∷ []
take_more xs i x under is = ap (λ n. take n xs) (add_one i) ∙ take-suc xs i x under ∙ ap (λ y. take i xs ++ y ∷ []) (sym is)
  where
    add_one : (n : ℕ) → n + 1 ≡ suc n
    add_one n = omega arith

one_or_none : {A : Type 0} (f : A → List ℕ) (x : A) (b : Bool) → flat_map f (if b then x ∷ [] else []) ≡ (if b then f x else [])
one_or_none f x true = append-nil (f x)
one_or_none f x false = refl

gathered : {A : Type 0} (p : A → Bool) (f : A → List ℕ) (xs : List A) (x : A) → flat_map f (filter p (xs ++ x ∷ [])) ≡ flat_map f (filter p xs) ++ (if p x then f x else [])
gathered p f xs x = ap (flat_map f) (filter-append p xs (x ∷ [])) ∙ flat_map-append f (filter p xs) (filter p (x ∷ [])) ∙ ap (λ w. flat_map f (filter p xs) ++ w) (one_or_none f x (p x))

flat_map-map : {A B : Type 0} (f : B → List ℕ) (g : A → B) (xs : List A) → flat_map f (map g xs) ≡ flat_map (λ x. f (g x)) xs
flat_map-map f g [] = refl
flat_map-map f g (x ∷ xs) = ap (λ w. f (g x) ++ w) (flat_map-map f g xs)

-- one more that was sent
pub sent_more : (s i : ℕ) (sent : List Sent) (one : Sent) → i < length sent → one ≡ get_or sent i one
    → bytes_to s (take (i + 1) sent) ≡ bytes_to s (take i sent) ++ (if one.session == s then one.frame else [])
sent_more s i sent one under is = ap (bytes_to s) (take_more sent i one under is) ∙ gathered (λ (x : Sent). x.session == s) (λ (x : Sent). x.frame) (take i sent) one

by_sayings : (s : ℕ) (xs : List Saying) → frames_to s xs ≡ flat_map (λ (a : Saying). framed a.1) (filter (λ (a : Saying). a.0 == s) xs)
by_sayings s xs = flat_map-map framed (λ (a : Saying). a.1) (filter (λ (a : Saying). a.0 == s) xs)

-- one more that is said
pub said_more : (s i : ℕ) (said : List Saying) (one : Saying) → i < length said → one ≡ get_or said i one
    → frames_to s (take (i + 1) said) ≡ frames_to s (take i said) ++ (if one.0 == s then framed one.1 else [])
said_more s i said one under is =
    ap (frames_to s) (take_more said i one under is) ∙ by_sayings s (take i said ++ one ∷ [])
    ∙ gathered (λ (a : Saying). a.0 == s) (λ (a : Saying). framed a.1) (take i said) one
    ∙ ap (λ w. w ++ (if one.0 == s then framed one.1 else [])) (sym (by_sayings s (take i said)))
