-- Registrations that are lent, and what they haven't heard.
use Rattle.std.specs.Prelude.{Bool, List, map}
use Rattle.std.specs.List.{list_all}
use Rattle.jsp_model.specs.declared.state.Row.{Row}
use Rattle.jsp_model.specs.declared.state.Registration.{Registration}
use Rattle.jsp_notify.specs.declared.listeners.Listeners.{Listeners}
use Rattle.jsp_notify.specs.News.{all_told, hearing}

-- each with all that it is owed
abbrev pub all_of : Listeners → List Registration
all_of listeners = map (hearing listeners.news) listeners.heard

-- those of the rows' spaces have heard all
abbrev pub have_heard : Listeners → List Row → Bool
have_heard listeners rows = list_all (λ row. all_told listeners.news row.space) rows
