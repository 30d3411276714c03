use Rattle.std.proofs.Common.{◌≡◌, ℕ, List, Some, cond, bytes_eq, string_bytes, ◌∙◌, ap, rules}
use Rattle.std.specs.HashMap.{get_by_text}
use Rattle.std.specs.Map.{lookup}
use Rattle.std.specs.Arc.{arc_value}
use Rattle.std.proofs.lemmas.Map.Text.{hash_map_updates_text}
use Rattle.jsp_types.proofs.NameMaps.{on_err, same_by_name}
use Rattle.jsp_types.proofs.places.note_in.Goals as goal

pub returns-in_err-map-clause-err : goal.returns-in_err-map-clause-err
returns-in_err-map-clause-err c =
    on_err c.from_residual.result
    (same_by_name (λ s t. string_bytes t ≡ string_bytes s) (λ v w. w ≡ v) (λ s t h. h) (λ v w h. h) (arc_value c.args.shared.now) (arc_value c.make_mut.follows.lender-at-none)
    (rw c.in_err-map.was at c.make_mut.follows.holds-at-none))

pub returns-in_err-insert-clause-err : goal.returns-in_err-insert-clause-err
returns-in_err-insert-clause-err c =
    let there = c.make_mut.follows.holds c.insert.new.self (search rules) in
    on_err c.from_residual-in_err-insert.result
    (λ (q : List ℕ). ap (λ m. get_by_text m q) there
    ∙ ap (lookup (λ k. bytes_eq q (string_bytes k))) c.in_err-insert.ensures.err
    ∙ same_by_name (λ s t. string_bytes t ≡ string_bytes s) (λ v w. w ≡ v) (λ s t h. h) (λ v w h. h) (arc_value c.args.shared.now) c.in_ok-map.map.now c.in_ok-map.ensures.value q)

pub returns-clause-ok : goal.returns-clause-ok
returns-clause-ok c q =
    let same = same_by_name (λ s t. string_bytes t ≡ string_bytes s) (λ v w. w ≡ v) (λ s t h. h) (λ v w h. h) (arc_value c.args.shared.now) c.in_ok-map.map.now c.in_ok-map.ensures.value q in
    let updates = hash_map_updates_text (string_bytes c.args.key) c.in_ok-map.map.now c.insert.new.self (Some c.args.place) c.in_ok-insert.ensures.updates q in
    let there = c.make_mut.follows.holds c.insert.new.self (search rules) in
    ap (λ m. get_by_text m q) there ∙ updates ∙ ap (cond (bytes_eq (string_bytes c.args.key) q) (Some c.args.place)) same
