use Rattle.std.proofs.Common.{◌∙◌, [], sym, arith}
use Rattle.std.proofs.lemmas.Option.{slice_get_past}
use Rattle.jsp_keys.specs.Templates.{values_asked, values_behind}
use Rattle.jsp_keys.proofs.Values.{few_asked, get_taken}
use Rattle.jsp_keys.proofs.templates.value_asked.Goals as goal

pub returns-then-place-ge-MOST_VALUES : goal.returns-then-place-ge-MOST_VALUES
returns-then-place-ge-MOST_VALUES c =
    let fields = c.args.fields.now in
    sym (slice_get_past (values_asked fields) c.args.place (omega (arith, few_asked fields, c.if-place-ge-MOST_VALUES.true)))

pub returns : goal.returns
returns c = c.nth_value.ensures ∙ get_taken 4 (values_behind [] c.args.fields.now) c.args.place (omega (arith, c.if-place-ge-MOST_VALUES.false))
