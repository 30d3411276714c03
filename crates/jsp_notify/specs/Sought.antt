-- Under which keys a registration is found.
use Rattle.std.specs.Prelude.{ℕ, List, ◌∷◌}
use Rattle.std.specs.Option.{option_map_or}
use Rattle.jsp_model.specs.declared.state.Registration.{Registration}
use Rattle.jsp_keys.specs.Keys.{session_key, transaction_key, space_key}
use Rattle.jsp_keys.specs.Templates.{template_keys}

-- what is under no transaction has its session's key once more
abbrev pub caller_key : ℕ → Registration → ℕ
caller_key seed r = option_map_or (transaction_key seed) r.transaction (session_key seed r.session)

abbrev pub registration_keys : ℕ → Registration → List ℕ
registration_keys seed r = session_key seed r.session ∷ caller_key seed r ∷ space_key seed r.space ∷ template_keys seed r.space r.template
