use Rattle.std.proofs.Common.{◌∙◌, ap, sym, option_map}
use Rattle.std.specs.Prelude.{option_copied}
use Rattle.jsp_notify.specs.News.{without_owed}
use Rattle.jsp_machine.proofs.Sequences.{sequence_fits_too}
use Rattle.jsp_machine.proofs.telling.event_of.Goals as goal

pub next_event-requires : goal.next_event-requires
next_event-requires c =
    sequence_fits_too c.args.state.now c.args.number c.in-Some.registration.now c.requires (sym (ap (λ o. option_map without_owed (option_copied o)) c.in-Some.is) ∙ c.registration_of.ensures)
