use Rattle.std.proofs.Common.{ap, false}
use Rattle.std.specs.Option.{option_map_or}
use Rattle.jsp_model.specs.declared.state.Row.{Row}
use Rattle.jsp_machine.specs.Unmarking.{is_unmarked}
use Rattle.jsp_machine.proofs.OnOffer.{none_freed}
use Rattle.jsp_machine.proofs.offering.offer_if_held.Goals as goal

pub returns-in_default-clause-held : goal.returns-in_default-clause-held
returns-in_default-clause-held c =
    none_freed (λ (r : Row). option_map_or (λ u. is_unmarked u r) c.args.unmarking false) c.args.offers.now c.args.state.now.rows (λ r. ap (λ o. option_map_or (λ u. is_unmarked u r) o false) c.in_default.is)
