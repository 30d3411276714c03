-- What is named and ended stays so where a thing changes.
use Rattle.std.proofs.Common.{◌≡◌, ℕ, ◌<◌, Bool, true, false, cond, eqb, List, [], ◌∷◌, map, refl, ap, sym, ◌∙◌, subst}
use Rattle.std.specs.List.{AllByRecursion}
use Rattle.jsp_lease.specs.declared.item.Item.{Item}
use Rattle.jsp_lease.specs.declared.item.Rank.{Rank}
use Rattle.jsp_lease.specs.Leases.{Leased, ending_at}
use Rattle.jsp_keyed.specs.Kept.{IsNamed, AreKeyed, item_of}
use Rattle.jsp_keyed.specs.Changing.{HasSameKeys, HasOnlyNewEnd}
use Rattle.jsp_table.specs.declared.hints.Hints.{Hints}

module _ {T : Type 0} (num : T → ℕ) (f : T → T) where
  -- the thing of that number, changed
  abbrev pub changed_at : ℕ → T → T
  changed_at n x = cond (eqb (num x) n) (f x) x

  all_changed : (P : T → Type 0) (n : ℕ) (xs : List T) → ((x : T) → P x → P (f x)) → AllByRecursion P xs → AllByRecursion P (map (changed_at n) xs)
  all_changed P n [] keep h = tt
  all_changed P n (x ∷ xs) keep h = (at (eqb (num x) n), all_changed P n xs keep h.1) where
    at : (b : Bool) → P (cond b (f x) x)
    at true = keep x h.0
    at false = h.0

module _ {T : Type 0} (num : T → ℕ) (keys_of : ℕ → T → List ℕ) (end_of : T → ℕ) (rank_of : Rank) where
  abbrev end : T → Item
  end x = item_of num end_of rank_of x

  abbrev item : ℕ → ℕ → Item
  item when number = record { end = when; rank = rank_of; number = number }

  same_item : {a b c d : ℕ} → b ≡ a → d ≡ c → item a c ≡ item b d
  same_item e h = rw (e, h) refl

  same_ends : (f : T → T) (n : ℕ) (xs : List T) → ((x : T) → HasSameKeys num keys_of end_of x (f x)) → map end xs ≡ map end (map (changed_at num f n) xs)
  same_ends f n [] keep = refl
  same_ends f n (x ∷ xs) keep = cong (at (eqb (num x) n)) (same_ends f n xs keep) where
    cong : {a b : Item} {us vs : List Item} → a ≡ b → us ≡ vs → a ∷ us ≡ b ∷ vs
    cong e h = cc

    at : (b : Bool) → end x ≡ end (cond b (f x) x)
    at true = same_item (keep x).end (keep x).number
    at false = refl

  ending_is : (f : T → T) (n when : ℕ) (xs : List T) → ((x : T) → HasOnlyNewEnd num keys_of end_of when x (f x)) → ending_at n when (map end xs) ≡ map end (map (changed_at num f n) xs)
  ending_is f n when [] keep = refl
  ending_is f n when (x ∷ xs) keep = cong (at (eqb (num x) n)) (ending_is f n when xs keep) where
    cong : {a b : Item} {us vs : List Item} → a ≡ b → us ≡ vs → a ∷ us ≡ b ∷ vs
    cong e h = cc

    at : (b : Bool) → cond b (record (end x) { end = when }) (end x) ≡ end (cond b (f x) x)
    at true = same_item (keep x).ends (keep x).number
    at false = refl

  module _ (seed : ℕ) (hints : Hints) where
    same_named : (x new : T) → num new ≡ num x → keys_of seed new ≡ keys_of seed x → IsNamed hints (num x) (keys_of seed x) → IsNamed hints (num new) (keys_of seed new)
    same_named x new number keys h = rw (number, keys) h

    pub one_changes : (ends : Leased) (xs : List T) (f : T → T) (n : ℕ) → ((x : T) → HasSameKeys num keys_of end_of x (f x))
        → AreKeyed num keys_of end_of rank_of seed hints ends xs → AreKeyed num keys_of end_of rank_of seed hints ends (map (changed_at num f n) xs)
    one_changes ends xs f n keep h = record {
      named = all_changed num f (λ x. IsNamed hints (num x) (keys_of seed x)) n xs (λ x g. same_named x (f x) (keep x).number ((keep x).keys seed) g) h.named;
      ended = h.ended ∙ same_ends f n xs keep;
      positive = all_changed num f (λ x. 0 < num x) n xs (λ x g. subst (λ (m : ℕ). 0 < m) (sym (keep x).number) g) h.positive;
    }

    pub one_ends : (ends new : Leased) (xs : List T) (f : T → T) (n when : ℕ) → new.items ≡ ending_at n when ends.items → ((x : T) → HasOnlyNewEnd num keys_of end_of when x (f x))
        → AreKeyed num keys_of end_of rank_of seed hints ends xs → AreKeyed num keys_of end_of rank_of seed hints new (map (changed_at num f n) xs)
    one_ends ends new xs f n when is keep h = record {
      named = all_changed num f (λ x. IsNamed hints (num x) (keys_of seed x)) n xs (λ x g. same_named x (f x) (keep x).number ((keep x).keys seed) g) h.named;
      ended = is ∙ (ap (ending_at n when) h.ended ∙ ending_is f n when xs keep);
      positive = all_changed num f (λ x. 0 < num x) n xs (λ x g. subst (λ (m : ℕ). 0 < m) (sym (keep x).number) g) h.positive;
    }
