-- The class's fields are there, and the entry isn't bad for them.
use Rattle.std.proofs.Common.{◌∙◌, ap}
use Rattle.jsp_types.specs.Checking.{is_bad_for}
use Rattle.jsp_types.proofs.Accepting.{accepted, kept_fields}
use Rattle.jsp_types.proofs.Finding.{kept_name}
use Rattle.jsp_types.proofs.checking.accepting.Goals as goal

pub returns-clause-ok : goal.returns-clause-ok
returns-clause-ok c =
    let kept = c.in-Some.ensures in
    accepted c.args.classes.now c.args.raw.now c.as_str.result.now c.in-Some.known.now.fields c.as_slice-2.result.now c.is_bad.result c.as_str.ensures c.as_slice-2.ensures (kept_fields c.args.classes.now c.as_str.result.now c.in-Some.known.now kept) kept.within_limits
    (c.is_bad.ensures ∙ ap (λ fields. is_bad_for fields c.as_slice-2.result.now) c.as_slice.ensures) c.if-is_bad.false

pub returns-clause-name : goal.returns-clause-name
returns-clause-name c = kept_name c.args.classes.now c.as_str.result.now c.in-Some.known.now c.in-Some.ensures ∙ c.as_str.ensures
