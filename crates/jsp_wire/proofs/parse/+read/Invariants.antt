use Rattle.std.proofs.Common.{◌≡◌, ℕ, ◌+◌, ◌*◌, ◌≤◌, length}
use Rattle.json.specs.Json.{items, members, value, parse_map}
use Rattle.serde_json.specs.Data.{no_members}
use Rattle.serde_json.specs.Read.{of_items, of_members, converted}
use Rattle.jsp_wire.specs.Tree.{members_view}
use Rattle.jsp_wire.proofs.Turns.{items_before}
use Rattle.jsp_wire.proofs.parse.+read.Given as goal

abbrev pub decreases-value : goal.decreases-value
decreases-value l = 2 * l.depth

abbrev pub decreases-list : goal.decreases-list
decreases-list l = 2 * l.depth + 1

abbrev pub decreases-object : goal.decreases-object
decreases-object l = 2 * l.depth + 1

-- what is found, and then what the tokens still give, is what all of them give
abbrev pub invariant-list-items : goal.invariant-list-items
invariant-list-items l =
    (n : ℕ) × (length l.reader ≤ n)
    × (converted of_items (items (value l.depth) (length l.initial.reader) l.initial.reader) ≡ parse_map (items_before l.found.items) (converted of_items (items (value l.depth) n l.reader)))
    × (length l.reader ≤ length l.initial.reader)

abbrev pub decreases-list-items : goal.decreases-list-items
decreases-list-items l = length l.reader

abbrev pub invariant-object-members : goal.invariant-object-members
invariant-object-members l =
    (n : ℕ) × (length l.reader ≤ n)
    × (converted (λ ms. of_members ms no_members) (members (value l.depth) (length l.initial.reader) l.initial.reader) ≡ converted (λ ms. of_members ms (members_view l.found.items)) (members (value l.depth) n l.reader))
    × (length l.reader ≤ length l.initial.reader)

abbrev pub decreases-object-members : goal.decreases-object-members
decreases-object-members l = length l.reader
