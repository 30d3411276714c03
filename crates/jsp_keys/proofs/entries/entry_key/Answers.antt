use Rattle.std.proofs.Common.{◌∙◌, sym, ◌-◌}
use Rattle.jsp_keys.specs.Keys.{any_key}
use Rattle.jsp_keys.specs.Templates.{line_keys}
use Rattle.jsp_keys.proofs.Beyond.{beyond, has_before}
use Rattle.jsp_keys.proofs.entries.entry_key.Goals as goal

pub returns : goal.returns
returns c =
    let line = line_keys c.args.seed c.args.classes.now c.args.space c.args.class.now in
    c.line_key.ensures
    ∙ sym (beyond (any_key c.args.seed c.args.space) c.args.values.now line c.len-count.result (c.args.place - 1) c.args.place (sym c.len-count.ensures.count) (has_before c.args.place c.if-place-eq0.false) c.if-place-count.false)
