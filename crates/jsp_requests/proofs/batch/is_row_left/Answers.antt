use Rattle.std.proofs.Common.{◌≡◌, ◌∙◌, ap, not, ℕ, Bool, true, false, ◌||◌, eqb, List, [], ◌∷◌, Option, refl, rules}
use Rattle.std.specs.Prelude.{◌&&◌, ◌==◌}
use Rattle.std.specs.List.{list_any}
use Rattle.std.proofs.lemmas.Bool.{eqb-true}
use Rattle.jsp_model.specs.declared.state.Row.{Row}
use Rattle.jsp_model.specs.declared.state.State.{State}
use Rattle.jsp_model.proofs.Cancelling.{is_ended}
use Rattle.jsp_requests.proofs.batch.is_row_left.Goals as goal

-- at a number, its row's number is the same
at_number : (q : ℕ → Option ℕ → Bool) (n : ℕ) (rows : List Row) → list_any (λ (r : Row). r.number == n && q n r.writer) rows ≡ list_any (λ (r : Row). r.number == n && q r.number r.writer) rows
at_number q n [] = refl
at_number q n (r ∷ rows) = at (eqb r.number n) refl (at_number q n rows) where
  at : (b : Bool) → eqb r.number n ≡ b → list_any (λ (r : Row). r.number == n && q n r.writer) rows ≡ list_any (λ (r : Row). r.number == n && q r.number r.writer) rows
      → ((b && q n r.writer) || list_any (λ (r : Row). r.number == n && q n r.writer) rows) ≡ ((b && q r.number r.writer) || list_any (λ (r : Row). r.number == n && q r.number r.writer) rows)
  at true e rest = rw (eqb-true r.number n e) (ap (λ w. q n r.writer || w) rest)
  at false e rest = rest

pub returns : goal.returns
returns c =
    let q = λ (n : ℕ) (x : Option ℕ). not (is_ended c.args.state.now c.args.earlier.now n x) in
    c.is_written.ensures (q c.args.number) (λ x b says. search rules)
    ∙ (at_number q c.args.number _ ∙ ap (λ (st : State). list_any (λ (r : Row). r.number == c.args.number && q r.number r.writer) st.rows) c.state.view_is)
