-- What a hold of the lock does to the seats of a line.
use Rattle.std.specs.Prelude.{◌≡◌, ℕ, ◌+◌, ◌⊎◌, IsTrue}
use Rattle.jsp_model.specs.declared.house.Input.{Input}
use Rattle.jsp_model.specs.House.{is_input}
use Rattle.jsp_kept.specs.History.{Place}
use Rattle.jsp_kept.specs.Calls.{IsOf}

-- the two seats of a session that was just opened
pub record IsSeated (asks outs : Place) : Type 0 where
  pub session : asks.session ≡ outs.session
  pub asked : asks.count ≡ 0
  pub taken : outs.count ≡ 0

-- the session made one request more, or none
pub record Asks (p q : Place) : Type 0 where
  pub session : q.session ≡ p.session
  pub count : (q.count ≡ p.count) ⊎ (q.count ≡ p.count + 1)

-- it made none yet, and this is still to be acted
pub record IsNotYet (p q : Place) (x : Input) : Type 0 where
  pub same : q ≡ p
  pub input : IsTrue (is_input x)
  pub of : IsOf p.session x

-- the session took so many answers
abbrev pub taking : Place → ℕ → Place
taking p n = record { session = p.session; count = p.count + n }
