use Rattle.std.proofs.Common.{◌≡◌, true, sym, ◌∙◌, subst}
use Rattle.std.proofs.lemmas.Slice.Eq.{bytes_eq-Decides}
use Rattle.jsp_types.specs.NameMaps.{looked_up}
use Rattle.jsp_types.specs.Descendants.{is_in}
use Rattle.jsp_types.proofs.Descending.{any_more}
use Rattle.jsp_types.proofs.descendants.Descendants.note_above.Goals as goal

pub above-preserved : goal.above-preserved
above-preserved c = record {
  noted = λ d any.
      any_more c.args.above.now c.above.ancestor-index c.ancestor-item.result d (is_in (looked_up c.note.new.self.shared d) c.args.name.now ≡ true) c.above-test.true c.ancestor-item.is any
      (λ before. c.note.ensures.keeps d c.args.name.now (c.above.invariant.noted d before))
      (λ same. subst (λ n. is_in (looked_up c.note.new.self.shared n) c.args.name.now ≡ true) (c.as_str.ensures ∙ sym ((bytes_eq-Decides d c.ancestor-item.result).0 same)) c.in_ok-note.ensures.ok);
  keeps = λ d name there. c.note.ensures.keeps d name (c.above.invariant.keeps d name there);
}

pub returns-in_err-note-clause-keeps : goal.returns-in_err-note-clause-keeps
returns-in_err-note-clause-keeps c d name there = c.note.ensures.keeps d name (c.above.invariant.keeps d name there)
