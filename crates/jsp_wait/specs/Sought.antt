-- Under which keys a request that waits is found.
use Rattle.std.specs.Prelude.{ℕ, if◌then◌else◌, List, [], ◌∷◌, ◌++◌}
use Rattle.std.specs.Option.{option_map_or}
use Rattle.jsp_model.specs.declared.state.Blocked.{Blocked}
use Rattle.jsp_model.specs.Sight.{is_if}
use Rattle.jsp_keys.specs.Keys.{number_key, transaction_key}
use Rattle.jsp_keys.specs.Templates.{keys_of_all}

-- of those at a space that are under a transaction
abbrev pub under_key : ℕ → ℕ → ℕ
under_key seed space = number_key seed 6 space

-- of those at a space that wait for a conflict to end
abbrev pub if_key : ℕ → ℕ → ℕ
if_key seed space = number_key seed 7 space

-- of all that do
abbrev pub any_if_key : ℕ → ℕ
any_if_key seed = number_key seed 10 0

-- under its transaction, and as one of those that have one
abbrev pub caller_keys : ℕ → Blocked → List ℕ
caller_keys seed b = option_map_or (λ x. transaction_key seed x ∷ under_key seed b.space ∷ []) b.transaction []

-- under what its form waits for
abbrev pub held_keys : ℕ → Blocked → List ℕ
held_keys seed b = if is_if b.form then any_if_key seed ∷ if_key seed b.space ∷ [] else []

abbrev pub request_keys : ℕ → Blocked → List ℕ
request_keys seed b = caller_keys seed b ++ (held_keys seed b ++ keys_of_all seed b.space b.templates)
