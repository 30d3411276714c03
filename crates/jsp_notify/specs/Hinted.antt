-- Registrations, however they are kept.
use Rattle.std.specs.Prelude.{List}
use Rattle.jsp_model.specs.declared.state.Registration.{Registration}
use Rattle.jsp_notify.specs.declared.heard.Storage.{Storage}
use Rattle.jsp_notify.specs.declared.heard.Storage.TheVariants.{Scanned, Hinted}

abbrev pub registrations_in : Storage → List Registration
registrations_in (Scanned registrations) = registrations.items
registrations_in (Hinted registrations) = registrations
