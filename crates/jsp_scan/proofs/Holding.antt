-- The numbers of rows that pass a test name each of them.
use Rattle.std.proofs.Common.{◌≡◌, refl, ℕ, List, [], ◌∷◌, map, filter, Bool, true, false, not, cond, ◌||◌, ◌&&◌, ◌==◌, eq-eqb}
use Rattle.std.specs.List.{list_all}
use Rattle.jsp_model.specs.declared.state.Row.{Row}
use Rattle.jsp_model.specs.Lookup.{contains}

or_there : (a b : Bool) → b ≡ true → (a || b) ≡ true
or_there true b e = refl
or_there false b e = e

all_in : (held : Row → Bool) (ns : List ℕ) (rows : List Row) → ((n : ℕ) → contains (map (λ r. r.number) (filter held rows)) n ≡ true → contains ns n ≡ true) → list_all (λ r. not (held r) || contains ns r.number) rows ≡ true
all_in held ns [] h = refl
all_in held ns (r ∷ rows) h = go (held r) h (all_in held ns rows)
  where
    go : (b : Bool) → ((n : ℕ) → contains (map (λ r. r.number) (cond b (r ∷ filter held rows) (filter held rows))) n ≡ true → contains ns n ≡ true)
        → (((n : ℕ) → contains (map (λ r. r.number) (filter held rows)) n ≡ true → contains ns n ≡ true) → list_all (λ r. not (held r) || contains ns r.number) rows ≡ true)
        → ((not b || contains ns r.number) && list_all (λ r. not (held r) || contains ns r.number) rows) ≡ true
    go true k ih =
        let self : (r.number == r.number) ≡ true = eq-eqb r.number r.number refl in
        let here : contains ns r.number ≡ true = k r.number (rw self refl) in
        rw here (ih (λ n e. k n (or_there (r.number == n) (contains (map (λ r. r.number) (filter held rows)) n) e)))
    go false k ih = ih k

pub all_named : (held : Row → Bool) (rows : List Row) → list_all (λ r. not (held r) || contains (map (λ r. r.number) (filter held rows)) r.number) rows ≡ true
all_named held rows = all_in held (map (λ r. r.number) (filter held rows)) rows (λ n e. e)
