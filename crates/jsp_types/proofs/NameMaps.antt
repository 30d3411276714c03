-- A map by name after a change and after a copy.
use Rattle.std.proofs.Common.{◌≡◌, ◌⊎◌, ⊎_elim, ℕ, Bool, List, Option, Some, None, bytes_eq, string_bytes, Result, Ok, Err, ap}
use Rattle.std.specs.Prelude.{String, MatchOption}
use Rattle.std.specs.HashMap.{HashMap, get_by_text, IsClone}
use Rattle.std.specs.Map.{lookup}
use Rattle.std.specs.Option.{IsSomeAnd}
use Rattle.std.specs.Result.{OnErr}
use Rattle.std.proofs.lemmas.Map.Entries.{lookup_clone}

-- what holds holds where there is an error
pub on_err : {T E P : Type 0} (r : Result T E) → P → OnErr r P
on_err (Ok x) p = tt
on_err (Err e) p = p

module _ {Y X S : Type 0} where
  -- a map or a copy of it has the same for each name, where a copy of a value is the value
  pub same_by_name : (C : String Y → String Y → Type 0) (D : X → X → Type 0) → ((s t : String Y) → C s t → string_bytes t ≡ string_bytes s) → ((v w : X) → D v w → w ≡ v) → (m n : HashMap (String Y) X S) → (n ≡ m) ⊎ IsClone C D m n → (q : List ℕ) → get_by_text n q ≡ get_by_text m q
  same_by_name C D keys values m n either q =
      let test : String Y → Bool = λ k. bytes_eq q (string_bytes k) in
      let Goal : Option X → Option X → Type 0 = λ o r. MatchOption o (r ≡ None) (λ v. IsSomeAnd r (D v)) → r ≡ o in
      let by_cases : (o r : Option X) → Goal o r = λ o r. elim o as (λ o. Goal o r) [
        | None ↦ λ h. h
        | Some v ↦ elim r as (λ r. Goal (Some v) r) [ None ↦ λ h. absurd h | Some w ↦ λ h. ap Some (values v w h) ]
      ] in
      ⊎_elim
      (λ e. ap (λ (k : HashMap (String Y) X S). get_by_text k q) e)
      (λ cloned. by_cases (lookup test m.entries) (lookup test n.entries) (lookup_clone C D test (λ s t h. ap (bytes_eq q) (keys s t h)) m.entries n.entries cloned))
      either
