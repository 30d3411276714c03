use Rattle.std.proofs.Common.{◌≡◌, [], ◌∷◌, ◌++◌, refl}
use Rattle.jsp_wire.specs.Tree.{view, members_by_ref}
use Rattle.jsp_wire.specs.Parts.{each_member, kind_of}
use Rattle.jsp_wire.proofs.Loop.{with_front, member_read, some_same}
use Rattle.jsp_wire.proofs.field.kinds_by_ref.Goals as goal

pub loop-name-preserved : goal.loop-name-preserved
loop-name-preserved c =
    let front = c.loop-name.found in
    let k = c.in-Some.name.now.now in
    let whole = each_member kind_of (members_by_ref c.args.members.now.entries) in
    let named : c.in_ok-name.name ≡ k = some_same _ _ k c.in_ok-name.ensures refl in
    let added : c.add.new.parts ≡ front ++ (k, c.in_ok-kind.kind) ∷ [] = rw (← named) c.in_ok-add.ensures in
    let kept : with_front front (each_member kind_of (members_by_ref ((c.in-Some.name.now, c.in-Some.json.now) ∷ c.next.new.self))) ≡ whole =
    rw c.in-Some.ensures.steps at c.loop-name.invariant in
    rw added (member_read kind_of front k (view c.in-Some.json.now.now) (members_by_ref c.next.new.self) c.in_ok-kind.kind whole c.in_ok-kind.ensures kept)
