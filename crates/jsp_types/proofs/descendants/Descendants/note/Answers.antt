use Rattle.std.proofs.Common.{◌≡◌, true, subst}
use Rattle.jsp_types.specs.NameMaps.{looked_up}
use Rattle.jsp_types.specs.Descendants.{is_in}
use Rattle.jsp_types.proofs.descendants.Descendants.note.Goals as goal

pub returns-in_err-note_in-in-Some-clause-keeps : goal.returns-in_err-note_in-in-Some-clause-keeps
returns-in_err-note_in-in-Some-clause-keeps c d name there = c.note_in.ensures.keeps d name (subst (λ s. is_in (looked_up s d) name ≡ true) c.in-Some.is there)

pub returns-in_ok-note_in-in-Some-clause-keeps : goal.returns-in_ok-note_in-in-Some-clause-keeps
returns-in_ok-note_in-in-Some-clause-keeps c d name there = c.note_in.ensures.keeps d name (subst (λ s. is_in (looked_up s d) name ≡ true) c.in-Some.is there)
