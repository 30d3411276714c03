use Rattle.std.proofs.Common.{◌∙◌, ◌+◌, ◌++◌, ℕ, List, length, ap, sym, arith}
use Rattle.std.proofs.lemmas.List.{length-append}
use Rattle.jsp_types.specs.declared.entry.Template.{Template}
use Rattle.jsp_keys.specs.Templates.{keys_of_all}
use Rattle.jsp_wait.specs.Sought.{caller_keys, held_keys}
use Rattle.jsp_wait.proofs.Seeking.{keys_few}
use Rattle.jsp_wait.proofs.by_number.ByNumberKeyingBlocked.count.Goals as goal

pub overflow_add-behind_caller : goal.overflow_add-behind_caller
overflow_add-behind_caller c = omega (arith, c.count_held_keys.ensures.few, c.count_keys_of_all-of_templates.ensures 0 0, keys_few 0 0 c.as_slice.result.now, c.as_slice.type_inv.1)

pub overflow_add-result : goal.overflow_add-result
overflow_add-result c = omega (arith, c.count_caller_keys.ensures.few, c.count_held_keys.ensures.few, c.count_keys_of_all-of_templates.ensures 0 0, keys_few 0 0 c.as_slice.result.now, c.as_slice.type_inv.1)

pub returns : goal.returns
returns c =
    let seed = c.args._seed in
    let b = c.args.request.now in
    let keys = keys_of_all seed b.space b.templates in
    let templates = c.count_keys_of_all-of_templates.ensures seed b.space ∙ ap (λ (ts : List Template). length (keys_of_all seed b.space ts)) c.as_slice.ensures in
    let behind = ap (λ (n : ℕ). n + c.count_keys_of_all-of_templates.result) (c.count_held_keys.ensures.count seed) ∙ (ap (λ (n : ℕ). length (held_keys seed b) + n) templates ∙ sym (length-append (held_keys seed b) keys)) in
    ap (λ (n : ℕ). n + (c.count_held_keys.result + c.count_keys_of_all-of_templates.result)) (c.count_caller_keys.ensures.count seed)
    ∙ (ap (λ (n : ℕ). length (caller_keys seed b) + n) behind ∙ sym (length-append (caller_keys seed b) (held_keys seed b ++ keys)))
