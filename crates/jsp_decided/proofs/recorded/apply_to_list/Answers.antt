use Rattle.std.proofs.Common.{◌≡◌, sym, subst, ◌∙◌}
use Rattle.std.specs.List.{filter_map}
use Rattle.jsp_decided.specs.declared.recorded.Recorded.{Recorded}
use Rattle.jsp_decided.specs.Recording.{becomes}
use Rattle.jsp_decided.proofs.Resetting.{resets}
use Rattle.jsp_decided.proofs.recorded.apply_to_list.Goals as goal

pub returns-in-Reset : goal.returns-in-Reset
returns-in-Reset c =
    subst (λ (d : Recorded). c.leave_out.new.rows.items ≡ filter_map (becomes d) c.args.rows.now.items) (sym c.in-Reset.is) (c.leave_out.ensures ∙ sym (resets c.in-Reset.space c.args.rows.now.items))
