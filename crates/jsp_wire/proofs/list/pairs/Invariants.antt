use Rattle.std.proofs.Common.{◌≡◌, drop}
use Rattle.jsp_wire.specs.Tree.{items_view}
use Rattle.jsp_wire.specs.Parts.{each_item, pair_of}
use Rattle.jsp_wire.proofs.Loop.{with_front}
use Rattle.jsp_wire.proofs.list.pairs.Given as goal

-- what is found, and then what is still to be read, is the whole
abbrev pub invariant-loop-json : goal.invariant-loop-json
invariant-loop-json l =
    with_front l.found (each_item pair_of (items_view (drop l.json-index l.items))) ≡ each_item pair_of (items_view l.items)
