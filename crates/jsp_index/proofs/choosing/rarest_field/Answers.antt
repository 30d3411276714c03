use Rattle.std.proofs.Common.{◌≡◌, ℕ, ◌<◌, List, length, get_or, false, Option, Some, option_copied, ap, sym, subst, ◌⊎◌, inl, inr, arith, rules}
use Rattle.std.specs.Prelude.{IfSome}
use Rattle.std.proofs.lemmas.Grind.{common_steps}
use Rattle.jsp_types.specs.declared.class.Class.{Class}
use Rattle.jsp_types.specs.declared.value.Value.{Value}
use Rattle.jsp_types.specs.declared.entry.Template.TheVariants.{Like}
use Rattle.jsp_types.specs.Matching.{is_null}
use Rattle.jsp_keys.specs.Keys.{field_key}
use Rattle.jsp_keyed.specs.Finding.{HaveKey}
use Rattle.jsp_index.specs.Keys.{row_keys}
use Rattle.jsp_index.specs.Finding.{is_like}
use Rattle.jsp_index.proofs.Covering.{field_has}
use Rattle.jsp_index.proofs.choosing.rarest_field.Goals as goal
use Rattle.jsp_index.proofs.choosing.rarest_field.Goals.{then-not-is_null, else-not-is_null}

one_of_two : {X : Type 0} (P : X → Type 0) (other : Option X) (it rarer : X) → (other ≡ Some rarer) ⊎ (rarer ≡ it) → IfSome other P → P it → P rarer
one_of_two {X} P other it rarer (inl e) h k = subst (λ (o : Option X). IfSome o P) e h
one_of_two P other it rarer (inr e) h k = subst P (sym e) k

pub fields-preserved : goal.fields-preserved
fields-preserved c =
    let like = c.args.like.now in
    let space = c.args.space in
    let i = c.fields.field-index in
    let P : (List ℕ × Value) → Type 0 = λ f. (classes : List Class) → HaveKey row_keys (λ seed. field_key seed space f.0 f.1) (is_like classes space (Like like)) in
    elim c.if-not-is_null.branch [
      | then-not-is_null w ↦
          let f = c.field-item.result in
          let within : i < length like.fields = first_of (omega (arith, c.fields-test.true), grind (arith, common_steps)) in
          let is : f ≡ get_or like.fields i f = first_of (search rules, grind (arith, common_steps)) in
          let some : is_null f.1 ≡ false = first_of (search rules, grind (arith, common_steps)) in
          let have : P f = λ classes seed r h. field_has seed classes like space i f within is some r h in
          subst (λ (o : Option (List ℕ × Value)). IfSome o P) (sym (ap option_copied w.rarest-is)) (one_of_two P (option_copied c.fields.rarest) f w.rarer.result.now w.rarer.ensures c.fields.invariant have)
      | else-not-is_null w ↦ subst (λ (o : Option (List ℕ × Value)). IfSome o P) (sym (ap option_copied w.rarest-is)) c.fields.invariant
    ]
