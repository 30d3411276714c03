use Rattle.std.proofs.Common.{◌≡◌, refl, decimal, subst, rules}
use Rattle.std.specs.Io.KnownBytes.{Appends}
use Rattle.std.proofs.KnownBytes.{Appends-trans}
use Rattle.jsp_script.specs.Faults.{AppendsPart, AppendsSome}
use Rattle.jsp_script.proofs.Beginnings.{part_of_first, part_of_second, some_of_first, some_of_second}
use Rattle.jsp_script.proofs.output.tell_line.Goals as goal

pub returns-then-not-write_bytes-clause-some : goal.returns-then-not-write_bytes-clause-some
returns-then-not-write_bytes-clause-some g c = some_of_first _ _ _ _ c.write_bytes.ensures.some

pub returns-then-not-write_bytes-clause-part : goal.returns-then-not-write_bytes-clause-part
returns-then-not-write_bytes-clause-part g c = λ _. part_of_first _ _ _ _ (c.write_bytes.ensures.part c.if-not-write_bytes.true)

pub returns-then-not-write_bytes-2-clause-part : goal.returns-then-not-write_bytes-2-clause-part
returns-then-not-write_bytes-2-clause-part g c = λ _.
    let digits : c.as_bytes.result.now ≡ decimal c.args.number = search rules in
    part_of_second _ _ _ _ _ (c.if-not-write_bytes.ensures.all refl) (part_of_first _ _ _ _ (subst (AppendsPart _ _) digits (c.write_bytes-2.ensures.part c.if-not-write_bytes-2.true)))

pub returns-then-not-write_bytes-2-clause-some : goal.returns-then-not-write_bytes-2-clause-some
returns-then-not-write_bytes-2-clause-some g c =
    let digits : c.as_bytes.result.now ≡ decimal c.args.number = search rules in
    some_of_second _ _ _ _ _ (c.if-not-write_bytes.ensures.all refl) (some_of_first _ _ _ _ (subst (AppendsSome _ _) digits c.write_bytes-2.ensures.some))

pub returns-clause-all : goal.returns-clause-all
returns-clause-all g c all =
    let digits : c.as_bytes.result.now ≡ decimal c.args.number = search rules in
    let number = subst (Appends _ _) digits (c.if-not-write_bytes-2.ensures.all refl) in
    Appends-trans _ _ _ _ _ (c.if-not-write_bytes.ensures.all refl) (Appends-trans _ _ _ _ _ number (c.write_bytes-3.ensures.all all))

pub returns-clause-part : goal.returns-clause-part
returns-clause-part g c = λ part.
    let digits : c.as_bytes.result.now ≡ decimal c.args.number = search rules in
    let number = subst (Appends _ _) digits (c.if-not-write_bytes-2.ensures.all refl) in
    part_of_second _ _ _ _ _ (c.if-not-write_bytes.ensures.all refl) (part_of_second _ _ _ _ _ number (c.write_bytes-3.ensures.part part))

pub returns-clause-some : goal.returns-clause-some
returns-clause-some g c =
    let digits : c.as_bytes.result.now ≡ decimal c.args.number = search rules in
    let number = subst (Appends _ _) digits (c.if-not-write_bytes-2.ensures.all refl) in
    some_of_second _ _ _ _ _ (c.if-not-write_bytes.ensures.all refl) (some_of_second _ _ _ _ _ number c.write_bytes-3.ensures.some)
