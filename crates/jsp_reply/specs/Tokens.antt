-- What is written for a JSON value, token by token. Only private clauses cite it.
use Rattle.std.specs.Prelude.{◌≡◌, List, ◌++◌, OnOk, Result}
use Rattle.json.specs.Token.{Token}
use Rattle.json.specs.Tree.{json_tokens}
use Rattle.json.specs.Written.{Written}
use Rattle.serde_json.specs.Data.{Data}
use Rattle.serde_json.specs.Written.{outline}

abbrev pub tokens_of : Data → List Token
tokens_of d = json_tokens (outline d)

-- what stood before stays, and these tokens are added behind it
abbrev pub AddsTokens : {E : Type 0} → Result (Unit {0}) E → Written → Written → List Token → Type 0
AddsTokens r old new ts = OnOk r ((new.before ≡ old.before) × (new.tokens ≡ old.tokens ++ ts))

-- the value is added, where there is memory for all of it
abbrev pub Adds : {E : Type 0} → Result (Unit {0}) E → Written → Written → Data → Type 0
Adds r old new d = AddsTokens r old new (tokens_of d)
