use Rattle.std.proofs.Common.{◌≡◌, ◌-◌, length, refl, inl, inr, arith}
use Rattle.std.specs.Prelude.{Some, slice_get}
use Rattle.std.proofs.lemmas.Option.{slice_get_read}
use Rattle.jsp_closing.proofs.Histories.{gives_next, gives_no_more, gives_nothing}
use Rattle.jsp_closing.proofs.asked.next_input.Goals as goal

pub returns-in-Input-clause-only : goal.returns-in-Input-clause-only
returns-in-Input-clause-only c = λ asked h.
    let s = c.args.session in
    let lines = c.args.lines.now.items in
    let line = c.index_mut.result.now in
    let here : slice_get lines (s - 1) ≡ Some line = slice_get_read lines (length lines) (s - 1) line refl (omega arith) c.index_mut.ensures.value in
    gives_next s lines line c.next_with.new.self c.in-Input.input asked here (rw c.in-Input.is at c.in_ok-input.ensures.ok) (rw c.in-Input.is at c.in_ok-input.ensures.stream) h

pub returns-in-More : goal.returns-in-More
returns-in-More c =
    let s = c.args.session in
    let lines = c.args.lines.now.items in
    let line = c.index_mut.result.now in
    let here : slice_get lines (s - 1) ≡ Some line = slice_get_read lines (length lines) (s - 1) line refl (omega arith) c.index_mut.ensures.value in
    record {
      gives = tt;
      only = tt;
      err = λ h. elim c.in-More.is [
        | inl more ↦ gives_no_more s lines line c.next_with.new.self h.0 here (rw more at c.in_ok-input.ensures.stream) h.1
        | inr closed ↦ gives_nothing s lines line c.next_with.new.self h.0 here (rw closed at c.in_ok-input.ensures.stream) h.1
      ];
    }
