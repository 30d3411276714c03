-- The lines of a script, one by one.
use Rattle.std.proofs.Common.{◌≡◌, ℕ, suc, ◌+◌, ◌<◌, List, [], ◌∷◌, ◌++◌, Bool, true, false, ap, sym, ◌∙◌, subst, length, take, drop, get_or, arith, length-take}
use Rattle.std.specs.Prelude.{not, if◌then◌else◌}
use Rattle.std.specs.List.{AllZip, enumerate_from}
use Rattle.std.proofs.lemmas.List.{append-nil, append_assoc, take-append-drop}
use Rattle.std.proofs.lemmas.List.Elements.{filter-append}
use Rattle.std.proofs.lemmas.List.FromFn.{length-enumerate_from, get_or-enumerate_from}
use Rattle.std.proofs.Math.Seq.{take-suc}
use Rattle.jsp_drive.specs.declared.acts.Act.{Act}
use Rattle.jsp_script.specs.Script.{IsActOf, is_passed_over, asking, AreActsOf, IsNotUnderstood, FirstNotUnderstood}

-- ---- lists

all_zip_push : {A B : Type 0} (R : A → B → Type 0) (xs : List A) (ys : List B) (x : A) (y : B) → AllZip R xs ys → R x y → AllZip R (xs ++ x ∷ []) (ys ++ y ∷ [])
all_zip_push R [] [] x y h r = (r, tt)
all_zip_push R [] (b ∷ ys) x y h r = absurd h
all_zip_push R (a ∷ xs) [] x y h r = absurd h
all_zip_push R (a ∷ xs) (b ∷ ys) x y h r = (h.0, all_zip_push R xs ys x y h.1 r)

take_more : (lines : List (List ℕ)) (k : ℕ) (line : List ℕ) → k < length lines → line ≡ get_or lines k line → take (k + 1) lines ≡ take k lines ++ line ∷ []
take_more lines k line under is = ap (λ n. take n lines) (add_one k) ∙ take-suc lines k line under ∙ ap (λ l. take k lines ++ l ∷ []) (sym is)
  where
    add_one : (n : ℕ) → n + 1 ≡ suc n
    add_one n = omega arith

-- a line and its number, as they come
pub numbered : (lines : List (List ℕ)) (k place : ℕ) (line : List ℕ) → k < length (enumerate_from 0 lines) → (place, line) ≡ get_or (enumerate_from 0 lines) k (place, line) → (k < length lines) × (place ≡ k) × (line ≡ get_or lines k line)
numbered lines k place line under is =
    let within : k < length lines = omega (arith, under, length-enumerate_from 0 lines) in
    let at : (place, line) ≡ (0 + k, get_or lines k line) = is ∙ get_or-enumerate_from 0 lines k (place, line) within in
    (within, omega (arith, ap (λ p. p.0) at), ap (λ p. p.1) at)

-- ---- what they ask for

asking_one : (lines : List (List ℕ)) (k : ℕ) (line : List ℕ) (b : Bool) → k < length lines → line ≡ get_or lines k line → is_passed_over line ≡ b
    → asking (take (k + 1) lines) ≡ asking (take k lines) ++ (if b then [] else line ∷ [])
asking_one lines k line true under is passed = ap asking (take_more lines k line under is) ∙ filter-append (λ l. not (is_passed_over l)) (take k lines) (line ∷ []) ∙ ap (λ b. asking (take k lines) ++ (if not b then line ∷ [] else [])) passed
asking_one lines k line false under is passed = ap asking (take_more lines k line under is) ∙ filter-append (λ l. not (is_passed_over l)) (take k lines) (line ∷ []) ∙ ap (λ b. asking (take k lines) ++ (if not b then line ∷ [] else [])) passed

-- a line that is passed over
pub more_passed : (lines : List (List ℕ)) (k : ℕ) (line : List ℕ) (acts : List Act) → k < length lines → line ≡ get_or lines k line → is_passed_over line ≡ true
    → AreActsOf (take k lines) acts → AreActsOf (take (k + 1) lines) acts
more_passed lines k line acts under is passed so_far = subst (λ ls. AllZip IsActOf ls acts) (sym (asking_one lines k line true under is passed ∙ append-nil (asking (take k lines)))) so_far

-- a line that asks for an act
pub more_asked : (lines : List (List ℕ)) (k : ℕ) (line : List ℕ) (acts : List Act) (a : Act) → k < length lines → line ≡ get_or lines k line → is_passed_over line ≡ false → IsActOf line a
    → AreActsOf (take k lines) acts → AreActsOf (take (k + 1) lines) (acts ++ a ∷ [])
more_asked lines k line acts a under is passed asks so_far = subst (λ ls. AllZip IsActOf ls (acts ++ a ∷ [])) (sym (asking_one lines k line false under is passed)) (all_zip_push IsActOf (asking (take k lines)) acts line a so_far asks)

-- a line that isn't understood, behind lines that are
pub first_refused : (lines : List (List ℕ)) (k place : ℕ) (line : List ℕ) (acts : List Act) → k < length lines → place ≡ k → line ≡ get_or lines k line → IsNotUnderstood line
    → AreActsOf (take k lines) acts → FirstNotUnderstood lines (place + 1)
first_refused lines k place line acts under at is refused so_far = record {
  before = take k lines;
  line = line;
  after = drop (k + 1) lines;
  acts = acts;
  lines_are = sym (take-append-drop (k + 1) lines) ∙ ap (λ ls. ls ++ drop (k + 1) lines) (take_more lines k line under is) ∙ append_assoc (take k lines) (line ∷ []) (drop (k + 1) lines);
  number_is = omega (arith, at, length-take k lines);
  before_is = so_far;
  line_is = refused;
}
