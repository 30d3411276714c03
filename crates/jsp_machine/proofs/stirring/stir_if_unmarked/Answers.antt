use Rattle.std.proofs.Common.{ap, false}
use Rattle.std.specs.Option.{option_map_or}
use Rattle.jsp_model.specs.declared.state.Row.{Row}
use Rattle.jsp_machine.specs.Unmarking.{is_unmarked}
use Rattle.jsp_machine.proofs.Stirred.{none_passes}
use Rattle.jsp_machine.proofs.stirring.stir_if_unmarked.Goals as goal

pub returns-in_default-clause-stirred : goal.returns-in_default-clause-stirred
returns-in_default-clause-stirred c =
    none_passes c.args.state.now (λ (r : Row). option_map_or (λ u. is_unmarked u r) c.args.unmarking false) c.args.stirred.now (λ r. ap (λ o. option_map_or (λ u. is_unmarked u r) o false) c.in_default.is)
