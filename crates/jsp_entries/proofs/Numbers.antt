-- Numbers that follow one another, and the rows that have them.
use Rattle.std.proofs.Common.{◌≡◌, ℕ, zero, suc, ◌+◌, ◌<◌, List, [], ◌∷◌, ◌++◌, length, take, get_or, ap, sym, ◌∙◌, arith}
use Rattle.std.specs.List.{range_with_len}
use Rattle.jsp_types.specs.declared.entry.Raw.{Raw}
use Rattle.jsp_model.specs.declared.state.State.{State}
use Rattle.jsp_model.specs.declared.state.Row.{Row}
use Rattle.jsp_model.specs.Requests.{WriteRequest}
use Rattle.jsp_transactions.specs.Writing.{rows_from}
use Rattle.jsp_entries.specs.Writing.{row_numbered}
use Rattle.std.proofs.lemmas.List.{take_more, length-take-le}

next_in_range : (first n : ℕ) → range_with_len first (suc n) ≡ range_with_len first n ++ (first + n) ∷ []
next_in_range first zero = ap (λ k. k ∷ []) (omega arith)
next_in_range first (suc n) =
    let same : first + 1 + n ≡ first + suc n = omega arith in
    ap (λ ns. first ∷ ns) (next_in_range (first + 1) n ∙ ap (λ k. range_with_len (first + 1) n ++ k ∷ []) same)

-- one number more
pub one_more : (first n : ℕ) (old new : List ℕ) → old ≡ range_with_len first n → new ≡ old ++ (first + n) ∷ [] → new ≡ range_with_len first (n + 1)
one_more first n old new so more =
    let next : n + 1 ≡ suc n = omega arith in
    more ∙ (ap (λ ns. ns ++ (first + n) ∷ []) so ∙ (sym (next_in_range first n) ∙ ap (range_with_len first) (sym next)))

next_row : (n : ℕ) (st : State) (w : WriteRequest) (raws : List Raw) (raw : Raw) → rows_from n st w (raws ++ raw ∷ []) ≡ rows_from n st w raws ++ row_numbered (n + length raws) st w raw ∷ []
next_row n st w [] raw = ap (λ k. row_numbered k st w raw ∷ []) (omega arith)
next_row n st w (r ∷ raws) raw =
    let same : n + 1 + length raws ≡ n + suc (length raws) = omega arith in
    ap (λ rows. row_numbered n st w r ∷ rows) (next_row (n + 1) st w raws raw ∙ ap (λ k. rows_from (n + 1) st w raws ++ row_numbered k st w raw ∷ []) same)

-- one row more
pub one_row_more : (n : ℕ) (st : State) (w : WriteRequest) (i : ℕ) (d : Raw) (old new : List Row) (row : Row) → i < length w.entries → old ≡ rows_from n st w (take i w.entries) → row ≡ row_numbered (n + i) st w (get_or w.entries i d) → new ≡ old ++ row ∷ [] → new ≡ rows_from n st w (take (i + 1) w.entries)
one_row_more n st w i d old new row lt so is more =
    let long : length (take i w.entries) ≡ i = length-take-le i w.entries (omega (arith, lt)) in
    more ∙ (ap (λ r. old ++ r ∷ []) is ∙ (ap (λ rows. rows ++ row_numbered (n + i) st w (get_or w.entries i d) ∷ []) so
    ∙ (ap (λ k. rows_from n st w (take i w.entries) ++ row_numbered (n + k) st w (get_or w.entries i d) ∷ []) (sym long)
    ∙ (sym (next_row n st w (take i w.entries) (get_or w.entries i d)) ∙ ap (rows_from n st w) (sym (take_more w.entries i d lt))))))
