use Rattle.std.proofs.Common.{◌++◌, take}
use Rattle.std.proofs.KnownBytes.{Appends-trans, Appends-kept}
use Rattle.jsp_script.proofs.Beginnings.{moves_front}
use Rattle.jsp_script.proofs.output.write_bytes.Goals as goal
use Rattle.jsp_script.proofs.output.write_bytes.Goals.{in-Ok, in-Err}

pub tries-preserved : goal.tries-preserved
tries-preserved g c =
    let (done, split, appended) = c.tries.invariant in
    let rest = c.tries.rest.now in
    elim c.match-write.branch [
      | in-Ok w ↦ rw w.rest-is (done ++ take w.in-Ok.n rest, moves_front _ done rest w.in-Ok.n split, Appends-trans _ _ _ _ _ appended w.in-Ok.ensures.bytes)
      | in-Err w ↦ rw w.rest-is (done, split, Appends-kept _ _ _ _ appended w.in-Err.ensures.bytes)
    ]
