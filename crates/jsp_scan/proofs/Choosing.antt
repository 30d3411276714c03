-- Choosing the least of the rows that a request may be given.
use Rattle.std.proofs.Common.{◌≡◌, ℕ, ◌≤◌, List, ◌++◌, length, map, take, drop, ap, sym, ◌∙◌}
use Rattle.std.proofs.lemmas.List.{take_all, take-append-le, take-append-drop, map-append}
use Rattle.std.proofs.lemmas.List.Elements.{filter-append}
use Rattle.jsp_types.specs.declared.class.Class.{Class}
use Rattle.jsp_model.specs.declared.state.Row.{Row}
use Rattle.jsp_model.specs.declared.state.Blocked.{Blocked}
use Rattle.jsp_sight.specs.Rows.{offered, offered_among}

among-append : (classes : List Class) (b : Blocked) (xs ys : List Row) → offered_among classes b (xs ++ ys) ≡ offered_among classes b xs ++ offered_among classes b ys
among-append classes b xs ys = ap (map (λ (r : Row). r.number)) (filter-append (offered classes b) xs ys) ∙ map-append _ _ _

-- as many as are asked for were found among the first rows
pub chosen_early : (classes : List Class) (b : Blocked) (rows : List Row) (i most : ℕ) (ns : List ℕ) → most ≤ length ns → length ns ≤ most → ns ≡ offered_among classes b (take i rows) → ns ≡ take most (offered_among classes b rows)
chosen_early classes b rows i most ns enough few so =
    let all = offered_among classes b rows in
    let split : all ≡ ns ++ offered_among classes b (drop i rows) = ap (offered_among classes b) (sym (take-append-drop i rows)) ∙ (among-append classes b (take i rows) (drop i rows) ∙ ap (λ w. w ++ offered_among classes b (drop i rows)) (sym so)) in
    sym (ap (take most) split ∙ (take-append-le most ns (offered_among classes b (drop i rows)) enough ∙ take_all most ns few))
