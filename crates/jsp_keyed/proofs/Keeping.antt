-- What is named and ended stays so where things come and go.
use Rattle.std.proofs.Common.{◌≡◌, ◌≢◌, ℕ, ◌<◌, Bool, true, false, not, cond, eqb, List, [], ◌∷◌, ◌++◌, map, Option, Some, None, Result, Ok, Err, ok_or, refl, ap, sym, ◌∙◌, inl, inr, ◌+◌, length, take, get_or, subst, arith}
use Rattle.std.specs.Prelude.{OnOk, OnErr, IfSome}
use Rattle.std.specs.List.{AllByRecursion}
use Rattle.std.proofs.lemmas.Bool.{cases_eq, eq-eqb, ne_eqb}
use Rattle.std.proofs.lemmas.List.{map-append, take_more}
use Rattle.jsp_lease.specs.declared.item.Item.{Item}
use Rattle.jsp_lease.specs.declared.item.Rank.{Rank}
use Rattle.jsp_lease.specs.declared.fault.LeaseFault.{LeaseFault}
use Rattle.jsp_lease.specs.declared.fault.LeaseFault.TheVariants.{UnknownLease}
use Rattle.jsp_lease.specs.Leases.{Leased, is_numbered, item_numbered, with_items, without as without_item}
use Rattle.jsp_table.specs.Finding.{numbered, without, AreNumbered}
use Rattle.jsp_table.proofs.Finding.{both, each, found_number}
use Rattle.jsp_keyed.specs.Kept.{IsNamed, AreNamed, Keeps, KeepsOthers, AreKeyed, item_of}
use Rattle.jsp_keyed.proofs.Named.{All-append, still_named}
use Rattle.jsp_table.specs.declared.hints.Hints.{Hints}

-- ---- an item goes

none_without : (n : ℕ) (items : List Item) → item_numbered n items ≡ None → without_item n items ≡ items
none_without n [] h = refl
none_without n (i ∷ items) h = at (is_numbered n i) refl (none_without n items) where
  at : (b : Bool) → is_numbered n i ≡ b → (item_numbered n items ≡ None → without_item n items ≡ items) → without_item n (i ∷ items) ≡ i ∷ items
  at true e rest = absurd (cc (h, ap (λ b. cond b (Some i) (item_numbered n items)) e))
  at false e rest = rw e (ap (λ w. i ∷ w) (rest (ap (λ b. cond b (Some i) (item_numbered n items)) (sym e) ∙ h)))

pub cancelled : (old new : Leased) (n : ℕ) (r : Result Item LeaseFault) → r ≡ ok_or (item_numbered n old.items) UnknownLease → OnOk r (new ≡ with_items old (without_item n old.items)) → OnErr r (new ≡ old) → new.items ≡ without_item n old.items
cancelled old new n (Ok item) is ok err = ap (λ (l : Leased). l.items) ok
cancelled old new n (Err e) is ok err = ap (λ (l : Leased). l.items) err ∙ sym (none_without n old.items (none (item_numbered n old.items) is)) where
  none : (o : Option Item) → Err e ≡ ok_or o UnknownLease → o ≡ None
  none None h = refl
  none (Some i) h = absurd (cc)

module _ {T : Type 0} (num : T → ℕ) where
  pub found_has_it : (n : ℕ) (xs : List T) (o : Option T) → o ≡ numbered num n xs → IfSome o (λ x. num x ≡ n)
  found_has_it n xs None is = tt
  found_has_it n xs (Some x) is = found_number num n xs x (sym is)

  all_left : (P : T → Type 0) (n : ℕ) (xs : List T) → AllByRecursion P xs → AllByRecursion P (without num n xs)
  all_left P n [] h = tt
  all_left P n (x ∷ xs) h = at (eqb (num x) n) (all_left P n xs h.1) where
    at : (b : Bool) → AllByRecursion P (without num n xs) → AllByRecursion P (cond (not b) (x ∷ without num n xs) (without num n xs))
    at true rest = rest
    at false rest = (h.0, rest)

  -- one more with a greater number
  pub numbered_more : (xs : List T) (x : T) → AreNumbered num xs → AllByRecursion (λ y. num y < num x) xs → AreNumbered num (xs ++ x ∷ [])
  numbered_more [] x up below = (tt, tt)
  numbered_more (y ∷ xs) x up below = (All-append (λ z. num y < num z) xs (x ∷ []) up.0 (below.0, tt), numbered_more xs x up.1 below.1)

module _ {T : Type 0} (num : T → ℕ) (keys_of : ℕ → T → List ℕ) (end_of : T → ℕ) (rank_of : Rank) where
  abbrev end : T → Item
  end x = item_of num end_of rank_of x

  ends_left : (n : ℕ) (xs : List T) → without_item n (map end xs) ≡ map end (without num n xs)
  ends_left n [] = refl
  ends_left n (x ∷ xs) = at (eqb (num x) n) (ends_left n xs) where
    at : (b : Bool) → without_item n (map end xs) ≡ map end (without num n xs) → cond (not b) (end x ∷ without_item n (map end xs)) (without_item n (map end xs)) ≡ map end (cond (not b) (x ∷ without num n xs) (without num n xs))
    at true rest = rest
    at false rest = ap (λ w. end x ∷ w) rest

  module _ (seed : ℕ) where
    left : (old new : Hints) (xs : List T) (n : ℕ) → KeepsOthers n old new → AllByRecursion (λ x. IsNamed old (num x) (keys_of seed x)) xs → AllByRecursion (λ x. IsNamed new (num x) (keys_of seed x)) (without num n xs)
    left old new [] n keeps h = tt
    left old new (x ∷ xs) n keeps h =
        let rest = left old new xs n keeps h.1 in
        elim (cases_eq (num x) n) [
          | inl e ↦ rw (eq-eqb (num x) n e) rest
          | inr ne ↦ rw (ne_eqb (num x) n ne) (still_named old new (num x) (keys_of seed x) (λ k. keeps k (num x) ne) h.0, rest)
        ]

    pub one_goes : (old new : Hints) (ends left_ends : Leased) (xs : List T) (n : ℕ) → left_ends.items ≡ without_item n ends.items → KeepsOthers n old new
        → AreKeyed num keys_of end_of rank_of seed old ends xs → AreKeyed num keys_of end_of rank_of seed new left_ends (without num n xs)
    one_goes old new ends left_ends xs n is keeps h = record {
      named = left old new xs n keeps h.named;
      ended = is ∙ (ap (without_item n) h.ended ∙ ends_left n xs);
      positive = all_left num (λ x. 0 < num x) n xs h.positive;
    }

    pub still_keyed : (old new : Hints) (ends same : Leased) (xs : List T) → Keeps old new → same.items ≡ ends.items → AreKeyed num keys_of end_of rank_of seed old ends xs → AreKeyed num keys_of end_of rank_of seed new same xs
    still_keyed old new ends same xs keeps is h = record {
      named = each (λ x. IsNamed old (num x) (keys_of seed x)) (λ x. IsNamed new (num x) (keys_of seed x)) xs h.named (λ x g. still_named old new (num x) (keys_of seed x) (λ k. keeps k (num x)) g);
      ended = is ∙ h.ended;
      positive = h.positive;
    }

    -- where those have other numbers
    pub others_keyed : (old new : Hints) (ends same : Leased) (xs : List T) (n : ℕ) → KeepsOthers n old new → AllByRecursion (λ x. num x < n) xs → same.items ≡ ends.items
        → AreKeyed num keys_of end_of rank_of seed old ends xs → AreKeyed num keys_of end_of rank_of seed new same xs
    others_keyed old new ends same xs n keeps below is h = record {
      named = both (λ x. num x < n) (λ x. IsNamed old (num x) (keys_of seed x)) (λ x. IsNamed new (num x) (keys_of seed x)) xs below h.named (λ x lt g. let ne : num x ≢ n = omega (arith, lt) in still_named old new (num x) (keys_of seed x) (λ k. keeps k (num x) ne) g);
      ended = is ∙ h.ended;
      positive = h.positive;
    }

    pub one_comes : (hints : Hints) (ends new : Leased) (xs : List T) (x : T) → new.items ≡ ends.items ++ end x ∷ [] → IsNamed hints (num x) (keys_of seed x) → 0 < num x
        → AreKeyed num keys_of end_of rank_of seed hints ends xs → AreKeyed num keys_of end_of rank_of seed hints new (xs ++ x ∷ [])
    one_comes hints ends new xs x is named up h = record {
      named = All-append (λ x. IsNamed hints (num x) (keys_of seed x)) xs (x ∷ []) h.named (named, tt);
      ended = is ∙ (ap (λ w. w ++ end x ∷ []) h.ended ∙ sym (map-append end xs (x ∷ [])));
      positive = All-append (λ x. 0 < num x) xs (x ∷ []) h.positive (up, tt);
    }

    -- ---- several come

    pub named_more : (old new : Hints) (xs : List T) (i : ℕ) (x : T) → i < length xs → x ≡ get_or xs i x → Keeps old new → IsNamed new (num x) (keys_of seed x) → AreNamed num keys_of seed old (take i xs) → AreNamed num keys_of seed new (take (i + 1) xs)
    named_more old new xs i x lt is keeps this h =
        let more : take (i + 1) xs ≡ take i xs ++ x ∷ [] = take_more xs i x lt ∙ ap (λ w. take i xs ++ w ∷ []) (sym is) in
        let still = each (λ x. IsNamed old (num x) (keys_of seed x)) (λ x. IsNamed new (num x) (keys_of seed x)) (take i xs) h (λ x g. still_named old new (num x) (keys_of seed x) (λ k. keeps k (num x)) g) in
        subst (AreNamed num keys_of seed new) (sym more) (All-append (λ x. IsNamed new (num x) (keys_of seed x)) (take i xs) (x ∷ []) still (this, tt))

    pub more_come : (hints : Hints) (ends new : Leased) (xs come : List T) → new.items ≡ ends.items ++ map end come → AreNamed num keys_of seed hints come → AllByRecursion (λ x. 0 < num x) (xs ++ come)
        → AreKeyed num keys_of end_of rank_of seed hints ends xs → AreKeyed num keys_of end_of rank_of seed hints new (xs ++ come)
    more_come hints ends new xs come is named up h = record {
      named = All-append (λ x. IsNamed hints (num x) (keys_of seed x)) xs come h.named named;
      ended = is ∙ (ap (λ w. w ++ map end come) h.ended ∙ sym (map-append end xs come));
      positive = up;
    }
