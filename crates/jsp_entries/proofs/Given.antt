-- What giving rows to a request leaves, form by form.
use Rattle.std.proofs.Common.{◌≡◌, ℕ, ◌<◌, ◌≤◌, Bool, true, false, cond, eqb, List, [], ◌∷◌, ◌++◌, length, get_or, map, Option, Some, None, refl, ap, sym, ◌∙◌, arith}
use Rattle.std.specs.Prelude.{filter, flat_map, not, ◌||◌, ◌==◌}
use Rattle.std.proofs.lemmas.List.{map-id}
use Rattle.std.proofs.lemmas.Bool.Decides.{nat_tests}
use Rattle.jsp_model.specs.declared.state.State.{State}
use Rattle.jsp_model.specs.declared.state.Row.{Row}
use Rattle.jsp_model.specs.declared.state.Form.{Form}
use Rattle.jsp_model.specs.Lookup.{contains, update}
use Rattle.jsp_model.specs.Sight.{is_take}
use Rattle.jsp_sight.specs.Rows.{with_reader}
use Rattle.jsp_entries.specs.Giving.{given_to, taken, removed, read, read_row}

flat_filter : {X : Type 0} (test : X → Bool) (xs : List X) → filter (λ x. not (test x)) xs ≡ flat_map (λ x. cond (test x) [] (x ∷ [])) xs
flat_filter test [] = refl
flat_filter test (x ∷ xs) =
    elim (test x) as (λ b. cond (not b) (x ∷ filter (λ x. not (test x)) xs) (filter (λ x. not (test x)) xs) ≡ cond b [] (x ∷ []) ++ flat_map (λ x. cond (test x) [] (x ∷ [])) xs) [ true ↦ flat_filter test xs | false ↦ ap (λ w. x ∷ w) (flat_filter test xs) ]

flat_update : {X : Type 0} (test : X → Bool) (change : X → X) (xs : List X) → update test change xs ≡ flat_map (λ x. cond (test x) (change x ∷ []) (x ∷ [])) xs
flat_update test change [] = refl
flat_update test change (x ∷ xs) =
    elim (test x) as (λ b. cond b (change x) x ∷ update test change xs ≡ cond b (change x ∷ []) (x ∷ []) ++ flat_map (λ x. cond (test x) (change x ∷ []) (x ∷ [])) xs) [ true ↦ ap (λ w. change x ∷ w) (flat_update test change xs) | false ↦ ap (λ w. x ∷ w) (flat_update test change xs) ]

flat_same : {X : Type 0} (test : X → Bool) (xs : List X) → xs ≡ flat_map (λ x. cond (test x) (x ∷ []) (x ∷ [])) xs
flat_same test [] = refl
flat_same test (x ∷ xs) =
    elim (test x) as (λ b. x ∷ xs ≡ cond b (x ∷ []) (x ∷ []) ++ flat_map (λ x. cond (test x) (x ∷ []) (x ∷ [])) xs) [ true ↦ ap (λ w. x ∷ w) (flat_same test xs) | false ↦ ap (λ w. x ∷ w) (flat_same test xs) ]

abbrev has_number : List ℕ → Row → Bool
has_number ns r = contains ns r.number

pub give_removes : (st : State) (form : Form) (caller : Option ℕ) (ns : List ℕ) → caller ≡ None → is_take form ≡ true → removed ns st ≡ given_to form caller ns st
give_removes st form caller ns plain takes = rw (plain, takes) (ap (λ w. record st { rows = w }) (flat_filter (has_number ns) st.rows))

pub give_leaves : (st : State) (form : Form) (caller : Option ℕ) (ns : List ℕ) → caller ≡ None → is_take form ≡ false → st ≡ given_to form caller ns st
give_leaves st form caller ns plain reads = rw (plain, reads) (ap (λ w. record st { rows = w }) (flat_same (has_number ns) st.rows))

pub give_takes : (st : State) (form : Form) (caller : Option ℕ) (ns : List ℕ) (x : ℕ) → caller ≡ Some x → is_take form ≡ true → taken x ns st ≡ given_to form caller ns st
give_takes st form caller ns x under takes = rw (under, takes) (ap (λ w. record st { rows = w }) (flat_update (has_number ns) (λ (r : Row). record r { taker = Some x }) st.rows))

pub give_reads : (st : State) (form : Form) (caller : Option ℕ) (ns : List ℕ) (x : ℕ) → caller ≡ Some x → is_take form ≡ false → read x ns st ≡ given_to form caller ns st
give_reads st form caller ns x under reads = rw (under, reads) (ap (λ w. record st { rows = w }) (flat_update (has_number ns) (with_reader x) st.rows))

-- ---- the one row of a read

pub read_none : (x : ℕ) (ns : List ℕ) (rows : List Row) → length ns < 1 → rows ≡ map (read_row x ns) rows
read_none x [] rows lt = sym (map-id rows)
read_none x (n ∷ ns) rows lt = absurd (omega arith)

one_number : (n m : ℕ) → eqb m n ≡ (eqb n m || false)
one_number n m = grind (arith, nat_tests)

read_first : (x n : ℕ) (rows : List Row) → update (λ (r : Row). r.number == n) (with_reader x) rows ≡ map (read_row x (n ∷ [])) rows
read_first x n [] = refl
read_first x n (r ∷ rows) = ap (λ b. cond b (with_reader x r) r ∷ update (λ (r : Row). r.number == n) (with_reader x) rows) (one_number n r.number) ∙ ap (λ w. read_row x (n ∷ []) r ∷ w) (read_first x n rows)

pub read_just : (x : ℕ) (ns : List ℕ) (rows : List Row) → 1 ≤ length ns → length ns ≤ 1 → update (λ (r : Row). r.number == get_or ns 0 0) (with_reader x) rows ≡ map (read_row x ns) rows
read_just x [] rows some one = absurd (omega arith)
read_just x (n ∷ []) rows some one = read_first x n rows
read_just x (n ∷ m ∷ ns) rows some one = absurd (omega arith)
