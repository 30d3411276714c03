use Rattle.std.proofs.Common.{◌∙◌, ℕ, ◌+◌, List, length, take, ap, arith}
use Rattle.std.proofs.lemmas.List.{take_all}
use Rattle.jsp_types.specs.declared.entry.Template.{Template}
use Rattle.jsp_keys.specs.Templates.{keys_of_all}
use Rattle.jsp_keys.proofs.Values.{one_more}
use Rattle.jsp_keys.proofs.templates.count_keys_of_all.Goals as goal

pub templates-preserved : goal.templates-preserved
templates-preserved c = record {
  count = λ seed space.
      let ts = c.args.templates.now in
      let i = c.templates.place in
      let t = c.index-templates-place.result in
      ap (λ (n : ℕ). n + c.count_template_keys-count.result) (c.templates.invariant.count seed space)
      ∙ (ap (λ (n : ℕ). length (keys_of_all seed space (take i ts)) + n) (c.count_template_keys-count.ensures.count seed space)
      ∙ one_more seed space i ts t c.templates-test.true c.index-templates-place.is);
  few = omega (arith, c.templates.invariant.few, c.count_template_keys-count.ensures.few);
}

pub returns : goal.returns
returns c = λ seed space.
    c.templates.invariant.count seed space
    ∙ ap (λ (ts : List Template). length (keys_of_all seed space ts)) (take_all c.templates.place c.args.templates.now (omega (arith, c.templates-test.false)))
