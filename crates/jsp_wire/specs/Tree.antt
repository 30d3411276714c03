-- The data that a tree stands for.
use Rattle.std.specs.Prelude.{ℕ, List, [], ◌∷◌, map}
use Rattle.std.specs.Borrow.{Bor}
use Rattle.serde_json.specs.Data.{Data, null, boolean, number, string, array, object, Items, Members, no_members, member, put}
use Rattle.serde_json.specs.View.{number_view, items_of}
use Rattle.jsp_wire.specs.declared.tree.Tree.{Tree, fold-Tree}
use Rattle.jsp_wire.specs.declared.tree.Tree.TheOpen.{Tree-F}

abbrev pub members_of : List (Bor (List ℕ) × Data) → Members
members_of [] = no_members
members_of (m ∷ ms) = member m.0.now m.1 (members_of ms)

-- members, each put in after those before it
abbrev pub put_all : List (Bor (List ℕ) × Data) → Members → Members
put_all [] found = found
put_all (m ∷ ms) found = put_all ms (put m.0.now m.1 found)

-- one level, with each tree inside already seen as its data
abbrev pub view_step : Tree-F Data → Data
view_step Tree-F.Null = null
view_step (Tree-F.Bool b) = boolean b
view_step (Tree-F.Number x) = number (number_view x)
view_step (Tree-F.Text s) = string s.now
view_step (Tree-F.List v) = array (items_of v.items)
view_step (Tree-F.Object v) = object (put_all v.items no_members)

abbrev pub view : Tree → Data
view = fold-Tree Data view_step

abbrev pub items_view : List Tree → Items
items_view ts = items_of (map view ts)

-- the members of an object that was written so
abbrev pub members_view : List (Bor (List ℕ) × Tree) → Members
members_view ms = put_all (map (λ m. (m.0, view m.1)) ms) no_members

-- members as they stand
abbrev pub members_in_order : List (Bor (List ℕ) × Tree) → Members
members_in_order ms = members_of (map (λ m. (m.0, view m.1)) ms)

abbrev pub members_by_ref : List (Bor (List ℕ) × Bor Tree) → Members
members_by_ref ms = members_of (map (λ m. (m.0, view m.1.now)) ms)
