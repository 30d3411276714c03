use Rattle.std.proofs.Common.{List, option_copied}
use Rattle.std.specs.Prelude.{IfSome}
use Rattle.jsp_types.specs.declared.class.Class.{Class}
use Rattle.jsp_types.specs.declared.entry.Template.TheVariants.{Like}
use Rattle.jsp_keys.specs.Keys.{field_key}
use Rattle.jsp_keyed.specs.Finding.{HaveKey}
use Rattle.jsp_index.specs.Keys.{row_keys}
use Rattle.jsp_index.specs.Finding.{is_like}
use Rattle.jsp_index.proofs.choosing.rarest_field.Given as goal

abbrev pub invariant-fields : goal.invariant-fields
invariant-fields l = IfSome (option_copied l.rarest) (λ field. (classes : List Class) → HaveKey row_keys (λ seed. field_key seed l.space field.0 field.1) (is_like classes l.space (Like l.like)))
