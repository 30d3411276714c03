use Rattle.std.proofs.Common.{◌≡◌, Some, take, drop, suc, ap, sym, ◌∙◌, ◌++◌}
use Rattle.std.specs.Prelude.{position}
use Rattle.std.specs.List.{filter_map}
use Rattle.jsp_decided.specs.declared.recorded.Recorded.{Recorded}
use Rattle.jsp_decided.specs.Recording.{becomes, rows_after}
use Rattle.jsp_decided.proofs.RowsAfter.{is_about, first_applied, first_left_out, none_left_out}
use Rattle.jsp_decided.proofs.decided.DecidedRows.apply_first.Goals as goal

pub returns-in_default-clause-less : goal.returns-in_default-clause-less
returns-in_default-clause-less c = none_left_out c.args.space c.args.self.now.recorded.items (sym (c.place_of.ensures ∙ ap (position (is_about c.args.space)) c.deref.ensures.value) ∙ c.in_default.is)

pub returns-clause-same : goal.returns-clause-same
returns-clause-same c =
    let ds = c.args.self.now.recorded.items in
    let stored = c.args.self.now.stored in
    let found : position (is_about c.args.space) ds ≡ Some c.in-Some.place = sym (c.place_of.ensures ∙ ap (position (is_about c.args.space)) c.deref.ensures.value) ∙ c.in-Some.is in
    let left = take c.in-Some.place ds ++ drop (suc c.in-Some.place) ds in
    ap (λ ds. rows_after ds c.apply.new.stored) c.remove-first.ensures.items
    ∙ (ap (rows_after left) (c.apply.ensures ∙ ap (λ (d : Recorded). filter_map (becomes d) stored) c.remove-first.ensures.value)
    ∙ first_applied c.args.space ds c.in-Some.place c.remove-first.result stored found)

pub returns-clause-less : goal.returns-clause-less
returns-clause-less c =
    let ds = c.args.self.now.recorded.items in
    let found : position (is_about c.args.space) ds ≡ Some c.in-Some.place = sym (c.place_of.ensures ∙ ap (position (is_about c.args.space)) c.deref.ensures.value) ∙ c.in-Some.is in
    c.remove-first.ensures.items ∙ first_left_out c.args.space ds c.in-Some.place c.remove-first.result found
