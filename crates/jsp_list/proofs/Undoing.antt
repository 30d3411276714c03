-- What is changed where it passes is changed back.
use Rattle.std.proofs.Common.{◌≡◌, Bool, true, false, refl, ◌∙◌}
use Rattle.jsp_keyed.specs.Changing.{IsUndone, where_passed}

module _ {T : Type 0} (passed : T → Bool) (changed undo : T → T) where
  pub undone : IsUndone passed changed undo → (x : T) → where_passed passed undo (where_passed passed changed x) ≡ x
  undone h x = at (passed x) refl where
    at : (b : Bool) → passed x ≡ b → where_passed passed undo (where_passed passed changed x) ≡ x
    at true e = rw e (rw (h.passes x ∙ e) (h.back x))
    at false e = rw e (rw e refl)
