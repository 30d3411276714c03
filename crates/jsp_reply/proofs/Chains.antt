-- What is written piece by piece.
use Rattle.std.proofs.Common.{◌≡◌, List, ◌++◌, Result, Ok, Err, ap, ◌∙◌, append_assoc}
use Rattle.json.specs.Token.{Token}
use Rattle.json.specs.Written.{Written}
use Rattle.jsp_reply.specs.Tokens.{AddsTokens}

-- what is known where a piece was written
abbrev pub Added : Written → Written → List Token → Type 0
Added old new ts = (new.before ≡ old.before) × (new.tokens ≡ old.tokens ++ ts)

pub Added-then : (a b c : Written) (ts us : List Token) → Added a b ts → Added b c us → Added a c (ts ++ us)
Added-then a b c ts us first second = (
  second.0 ∙ first.0,
  second.1 ∙ ap (λ xs. xs ++ us) first.1 ∙ append_assoc a.tokens ts us,
)

-- a piece, and then one that may fail
pub AddsTokens-then : {E : Type 0} (r : Result (Unit {0}) E) (a b c : Written) (ts us : List Token) → Added a b ts → AddsTokens r b c us → AddsTokens r a c (ts ++ us)
AddsTokens-then (Ok x) a b c ts us first second = Added-then a b c ts us first second
AddsTokens-then (Err e) a b c ts us first second = second
