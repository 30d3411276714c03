-- What is kept beside the rows, as they change.
use Rattle.std.proofs.Common.{◌≡◌, ℕ, ◌+◌, ◌-◌, ◌<◌, ◌≤◌, ◌^◌, Bool, true, false, not, cond, eqb, List, [], ◌∷◌, ◌++◌, length, map, Option, Some, None, refl, ap, sym, ◌∙◌, subst, arith}
use Rattle.std.specs.Prelude.{filter}
use Rattle.std.specs.HashMap.{HashMap}
use Rattle.jsp_model.specs.declared.state.Row.{Row}
use Rattle.jsp_table.specs.Finding.{AreNumbered as AreRising}
use Rattle.jsp_table.specs.Counts.{count_of}
use Rattle.jsp_table.specs.Places.{living}
use Rattle.jsp_keyed.proofs.Named.{All-append}
use Rattle.jsp_index.specs.Finding.{number, row_numbered}
use Rattle.jsp_index.specs.Seen.{seen_in, IsSeen, AreSeen, KeepsSeen}
use Rattle.jsp_index.specs.Counted.{count_in}
use Rattle.jsp_index.specs.Beside.{IsBeside}
use Rattle.jsp_index.proofs.Classes.{changed_seen, still_seen, space_forgotten}
use Rattle.jsp_index.proofs.Revisions.{eqb_same}
use Rattle.jsp_index.proofs.Spaces.{in_both, in_changed, in_cleared, in_left, no_more, no_more_than_places, one_gone}

module _ {S : Type 0} (seen : HashMap ℕ (List (List ℕ)) S) (counts : HashMap ℕ ℕ S) (rows : List Row) (h : IsBeside seen counts rows) where
  -- more classes are seen, and there is more room
  pub more_beside : (more : HashMap ℕ (List (List ℕ)) S) (start : HashMap ℕ ℕ S) → KeepsSeen seen more → ((k : ℕ) → count_of start k ≡ count_of counts k) → IsBeside more start rows
  more_beside more start sees same = record { classes = still_seen seen more rows sees h.classes; spaces = λ k. same k ∙ h.spaces k }

  pub changed_beside : (f : Row → Row) (n : ℕ) (new : List Row) → ((r : Row) → (f r).entry ≡ r.entry) → ((r : Row) → (f r).space ≡ r.space) → new ≡ map (λ (r : Row). cond (eqb r.number n) (f r) r) rows → IsBeside seen counts new
  changed_beside f n new entry space is =
      subst (IsBeside seen counts) (sym is) record { classes = changed_seen seen f n rows entry space h.classes; spaces = λ k. h.spaces k ∙ sym (in_changed k f n rows space) }

  pub left_beside : (still : HashMap ℕ (List (List ℕ)) S) (less : HashMap ℕ ℕ S) (n : ℕ) (r : Row) (new : List Row) → AreRising number rows → row_numbered n rows ≡ Some r → ((k : ℕ) → count_of less k ≡ cond (eqb k r.space) (count_of counts k - 1) (count_of counts k))
      → AreSeen still (filter (λ (x : Row). not (eqb x.number n)) rows) → new ≡ filter (λ (x : Row). not (eqb x.number n)) rows → IsBeside still less new
  left_beside still less n r new up there one sees is = subst (IsBeside still less) (sym is) record {
    classes = sees;
    spaces = λ k. one_gone (eqb k r.space) (count_of less k) (count_of counts k) (count_in k (filter (λ (x : Row). not (eqb x.number n)) rows)) (count_in k rows) (one k) (h.spaces k) (subst (λ (b : Bool). count_in k (filter (λ (x : Row). not (eqb x.number n)) rows) + cond b 1 0 ≡ count_in k rows) (eqb_same r.space k) (in_left k n rows r up there));
  }

  pub cleared_beside : (still : HashMap ℕ (List (List ℕ)) S) (less : HashMap ℕ ℕ S) (space : ℕ) (new : List Row) → ((s : ℕ) → seen_in still s ≡ cond (eqb s space) [] (seen_in seen s)) → ((k : ℕ) → count_of less k ≡ cond (eqb k space) 0 (count_of counts k)) → new ≡ filter (λ (x : Row). not (eqb x.space space)) rows → IsBeside still less new
  cleared_beside still less space new none one is = subst (IsBeside still less) (sym is) record {
    classes = space_forgotten seen still space rows none h.classes;
    spaces = λ k. one k ∙ (ap (λ c. cond (eqb k space) 0 c) (h.spaces k) ∙ sym (in_cleared k space rows));
  }

  pub added_beside : (made : HashMap ℕ ℕ S) (things new : List Row) → AreSeen seen things → ((k : ℕ) → count_of made k ≡ count_of counts k + count_in k things) → new ≡ rows ++ things → IsBeside seen made new
  added_beside made things new sees more is = subst (IsBeside seen made) (sym is) record {
    classes = All-append (λ (r : Row). IsSeen seen r.space r.entry.class) rows things h.classes sees;
    spaces = λ k. more k ∙ (ap (λ c. c + count_in k things) (h.spaces k) ∙ sym (in_both k rows things));
  }

  -- what was counted is taken back
  pub back_beside : (made back : HashMap ℕ ℕ S) (things new : List Row) → ((k : ℕ) → count_of made k ≡ count_of counts k + count_in k things) → ((k : ℕ) → count_of back k ≡ count_of made k - count_in k things) → new ≡ rows → IsBeside seen back new
  back_beside made back things new more less is = subst (IsBeside seen back) (sym is) record {
    classes = h.classes;
    spaces = λ k. same (count_of back k) (count_of made k) (count_of counts k) (count_in k things) (less k) (more k) ∙ h.spaces k;
  } where
    same : (a b c d : ℕ) → a ≡ b - d → b ≡ c + d → a ≡ c
    same a b c d e f = omega arith

  -- no count is too great
  pub counts_fit : (places : List (Option Row)) (things : List Row) → living places ≡ rows → length places < 2 ^ 63 → length things < 2 ^ 63 → (k : ℕ) → count_of counts k + length things < 2 ^ 64
  counts_fit places things is few fewer k = small (count_of counts k) (count_in k rows) (length rows) (length (living places)) (length places) (length things) (h.spaces k) (no_more k rows) (ap length is) (no_more_than_places places) few fewer where
    small : (a b c d e f : ℕ) → a ≡ b → b ≤ c → d ≡ c → d ≤ e → e < 2 ^ 63 → f < 2 ^ 63 → a + f < 2 ^ 64
    small a b c d e f p q r s t u = omega arith

-- where no row has the number, none goes
pub none_goes : (n : ℕ) (rows : List Row) → row_numbered n rows ≡ None → rows ≡ filter (λ (x : Row). not (eqb x.number n)) rows
none_goes n [] h = refl
none_goes n (x ∷ rows) h = at (eqb x.number n) refl (λ there. none_goes n rows there) where
  at : (b : Bool) → eqb x.number n ≡ b → (row_numbered n rows ≡ None → rows ≡ filter (λ (x : Row). not (eqb x.number n)) rows) → x ∷ rows ≡ cond (not (eqb x.number n)) (x ∷ filter (λ (x : Row). not (eqb x.number n)) rows) (filter (λ (x : Row). not (eqb x.number n)) rows)
  at true e rest = absurd (cc (h, ap (λ b. cond b (Some x) (row_numbered n rows)) e))
  at false e rest = rw e (ap (λ w. x ∷ w) (rest (ap (λ b. cond b (Some x) (row_numbered n rows)) (sym e) ∙ h)))
