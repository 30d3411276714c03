use Rattle.std.proofs.Common.{◌≡◌, cond, Some, None, option_copied, ap, sym, ◌∙◌}
use Rattle.jsp_types.specs.Matching.{is_null}
use Rattle.jsp_index.specs.Shapes.{some_value}
use Rattle.jsp_index.proofs.Shaped.{value_found}
use Rattle.jsp_index.proofs.shape.value_in.Goals as goal

pub returns-in_default : goal.returns-in_default
returns-in_default c = ap some_value (value_found c.args.fields.now c.args.name.now None c.in_default.ensures)

pub returns-then-is_null : goal.returns-then-is_null
returns-then-is_null c = sym (ap (λ v. some_value v) (sym (value_found c.args.fields.now c.args.name.now (Some c.in-Some.field.now) c.in-Some.ensures)) ∙ ap (λ b. cond b None (Some c.in-Some.field.now.1)) (sym c.is_null.ensures ∙ c.if-is_null.true))
