-- Each session's map has its requests, where one comes and where one goes.
use Rattle.std.proofs.Common.{◌≡◌, ℕ, ◌<◌, Bool, true, false, true≢false, not, ◌||◌, ◌&&◌, cond, eqb, List, [], ◌∷◌, ◌++◌, length, map, Option, Some, refl, ap, sym, ◌∙◌, arith, inl, inr}
use Rattle.std.specs.Prelude.{filter, find, slice_get, nat_eq, ◌==◌, if◌then◌else◌}
use Rattle.std.specs.HashMap.{HashMap}
use Rattle.std.specs.List.{AllByRecursion, list_any}
use Rattle.std.specs.Option.{option_map}
use Rattle.std.proofs.Math.Dec.{eqb-suc-zero}
use Rattle.std.proofs.lemmas.Bool.{cases_eq, eq-eqb, ne_eqb}
use Rattle.indexmap.specs.IndexMap.{insert_entry, shift_remove_entry}
use Rattle.jsp_model.specs.declared.state.Blocked.{Blocked}
use Rattle.jsp_table.specs.Finding.{numbered, without, AreNumbered}
use Rattle.jsp_table.specs.Places.{living}
use Rattle.jsp_table.proofs.Finding.{each}
use Rattle.jsp_keyed.proofs.Walking.{only_one, eqb_eq}
use Rattle.jsp_wait.specs.Sessions.{number_and_id, asked_by, entries_of, AreOfSessions}
use Rattle.jsp_wait.proofs.Least.{number}

-- ---- one comes

below_last : (xs : List Blocked) (b : Blocked) → AreNumbered number (xs ++ b ∷ []) → AllByRecursion (λ x. number x < number b) xs
below_last [] b up = tt
below_last (x ∷ xs) b up = (last_of xs up.0, below_last xs b up.1) where
  last_of : (ys : List Blocked) → AllByRecursion (λ y. number x < number y) (ys ++ b ∷ []) → number x < number b
  last_of [] h = h.0
  last_of (y ∷ ys) h = last_of ys h.1

-- a greater number goes last
new_last : (n id : ℕ) (p : Blocked → Bool) (xs : List Blocked) → AllByRecursion (λ x. number x < n) xs → insert_entry nat_eq (map number_and_id (filter p xs)) n id ≡ map number_and_id (filter p xs) ++ (n, id) ∷ []
new_last n id p [] below = refl
new_last n id p (x ∷ xs) below = at (p x) (new_last n id p xs below.1) where
  apart : number x < n → n ≡ number x → ⊥
  apart lt e = omega arith

  at : (b : Bool) → insert_entry nat_eq (map number_and_id (filter p xs)) n id ≡ map number_and_id (filter p xs) ++ (n, id) ∷ []
      → insert_entry nat_eq (map number_and_id (cond b (x ∷ filter p xs) (filter p xs))) n id ≡ map number_and_id (cond b (x ∷ filter p xs) (filter p xs)) ++ (n, id) ∷ []
  at true rest = rw (ne_eqb n (number x) (apart below.0)) (ap (λ w. number_and_id x ∷ w) rest)
  at false rest = rest

asked_more : (s : ℕ) (xs : List Blocked) (b : Blocked) → asked_by s (xs ++ b ∷ []) ≡ cond (eqb b.session s) (asked_by s xs ++ number_and_id b ∷ []) (asked_by s xs)
asked_more s [] b = at (eqb b.session s) where
  at : (c : Bool) → map number_and_id (cond c (b ∷ []) []) ≡ cond c (number_and_id b ∷ []) []
  at true = refl
  at false = refl
asked_more s (x ∷ xs) b = at (eqb x.session s) (eqb b.session s) (asked_more s xs b) where
  at : (c d : Bool) → asked_by s (xs ++ b ∷ []) ≡ cond d (asked_by s xs ++ number_and_id b ∷ []) (asked_by s xs)
      → map number_and_id (cond c (x ∷ filter (λ y. eqb y.session s) (xs ++ b ∷ [])) (filter (λ y. eqb y.session s) (xs ++ b ∷ [])))
      ≡ cond d (map number_and_id (cond c (x ∷ filter (λ y. eqb y.session s) xs) (filter (λ y. eqb y.session s) xs)) ++ number_and_id b ∷ []) (map number_and_id (cond c (x ∷ filter (λ y. eqb y.session s) xs) (filter (λ y. eqb y.session s) xs)))
  at true true e = ap (λ w. number_and_id x ∷ w) e
  at true false e = ap (λ w. number_and_id x ∷ w) e
  at false true e = e
  at false false e = e

-- ---- one goes

none_left : (n : ℕ) (xs : List Blocked) → AllByRecursion (λ y. n < number y) xs → without number n xs ≡ xs
none_left n [] h = refl
none_left n (y ∷ xs) h = rw (ne_eqb (number y) n (apart h.0)) (ap (λ w. y ∷ w) (none_left n xs h.1)) where
  apart : n < number y → number y ≡ n → ⊥
  apart lt e = omega arith

left : (n : ℕ) (p : Blocked → Bool) (xs : List Blocked) → AreNumbered number xs → shift_remove_entry (nat_eq n) (map number_and_id (filter p xs)) ≡ map number_and_id (filter p (without number n xs))
left n p [] up = refl
left n p (x ∷ xs) up = elim (cases_eq (number x) n) [
  | inl e ↦ at (p x) true refl (eq-eqb (number x) n e) (eq-eqb n (number x) (sym e)) (λ _. ap (λ m. without number m xs) (sym e) ∙ none_left (number x) xs up.0) (left n p xs up.1)
  | inr ne ↦ at (p x) false refl (ne_eqb (number x) n ne) (ne_eqb n (number x) (λ e. ne (sym e))) (λ e. absurd (cc)) (left n p xs up.1)
] where
  at : (b c : Bool) → p x ≡ b → eqb (number x) n ≡ c → eqb n (number x) ≡ c → (c ≡ true → without number n xs ≡ xs)
      → shift_remove_entry (nat_eq n) (map number_and_id (filter p xs)) ≡ map number_and_id (filter p (without number n xs))
      → shift_remove_entry (nat_eq n) (map number_and_id (filter p (x ∷ xs))) ≡ map number_and_id (filter p (without number n (x ∷ xs)))
  at true true is e f gone rest = rw (is, e, f) (ap (λ w. map number_and_id (filter p w)) (sym (gone refl)))
  at true false is e f gone rest = rw (is, e, f) (rw is (ap (λ w. number_and_id x ∷ w) rest))
  at false true is e f gone rest = rw (is, e) rest
  at false false is e f gone rest = rw (is, e) (rw is rest)

kept : (p : Blocked → Bool) (n : ℕ) (xs : List Blocked) → AllByRecursion (λ x. number x ≡ n → p x ≡ false) xs → filter p (without number n xs) ≡ filter p xs
kept p n [] h = refl
kept p n (x ∷ xs) h = at (eqb (number x) n) refl (kept p n xs h.1) where
  at : (c : Bool) → eqb (number x) n ≡ c → filter p (without number n xs) ≡ filter p xs → filter p (cond (not c) (x ∷ without number n xs) (without number n xs)) ≡ filter p (x ∷ xs)
  at true e rest = rw (h.0 (eqb_eq (number x) n e)) rest
  at false e rest = ap (λ w. cond (p x) (x ∷ w) w) rest

-- ---- a session goes

pub none_asked : (s : ℕ) (xs : List Blocked) → asked_by s (filter (λ b. not (b.session == s)) xs) ≡ []
none_asked s [] = refl
none_asked s (x ∷ xs) = at (eqb x.session s) refl (none_asked s xs) where
  at : (c : Bool) → eqb x.session s ≡ c → asked_by s (filter (λ b. not (b.session == s)) xs) ≡ [] → asked_by s (cond (not c) (x ∷ filter (λ b. not (b.session == s)) xs) (filter (λ b. not (b.session == s)) xs)) ≡ []
  at true e rest = rest
  at false e rest = rw e rest

-- ---- the maps

module _ {S R : Type 0} (old new : HashMap ℕ (HashMap ℕ ℕ S) R) (xs : List Blocked) (are : AreOfSessions old xs) where
  pub comes : (b : Blocked) → AreNumbered number (xs ++ b ∷ []) → ((s : ℕ) → entries_of new s ≡ (if s == b.session then insert_entry nat_eq (entries_of old s) b.number b.id else entries_of old s)) → AreOfSessions new (xs ++ b ∷ [])
  comes b up made s =
      let more = insert_entry nat_eq (entries_of old s) b.number b.id in
      elim (cases_eq s b.session) [
        | inl e ↦ made s ∙ (ap (λ c. cond c more (entries_of old s)) (eq-eqb s b.session e)
            ∙ (ap (λ w. insert_entry nat_eq w b.number b.id) (are s) ∙ (new_last b.number b.id (λ y. eqb y.session s) xs (below_last xs b up)
            ∙ sym (asked_more s xs b ∙ ap (λ c. cond c (asked_by s xs ++ number_and_id b ∷ []) (asked_by s xs)) (eq-eqb b.session s (sym e))))))
        | inr ne ↦ made s ∙ (ap (λ c. cond c more (entries_of old s)) (ne_eqb s b.session ne)
            ∙ (are s ∙ sym (asked_more s xs b ∙ ap (λ c. cond c (asked_by s xs ++ number_and_id b ∷ []) (asked_by s xs)) (ne_eqb b.session s (λ e. ne (sym e))))))
      ]

  pub goes : (n : ℕ) (r : Blocked) → AreNumbered number xs → numbered number n xs ≡ Some r → ((s : ℕ) → entries_of new s ≡ (if s == r.session then shift_remove_entry (nat_eq n) (entries_of old s) else entries_of old s)) → AreOfSessions new (without number n xs)
  goes n r up is made s =
      let less = shift_remove_entry (nat_eq n) (entries_of old s) in
      elim (cases_eq s r.session) [
        | inl e ↦ made s ∙ (ap (λ c. cond c less (entries_of old s)) (eq-eqb s r.session e) ∙ (ap (shift_remove_entry (nat_eq n)) (are s) ∙ left n (λ y. eqb y.session s) xs up))
        | inr ne ↦ made s ∙ (ap (λ c. cond c less (entries_of old s)) (ne_eqb s r.session ne) ∙ (are s ∙ ap (map number_and_id) (sym (kept (λ y. eqb y.session s) n xs
            (each (λ x. number x ≡ n → x ≡ r) (λ x. number x ≡ n → eqb x.session s ≡ false) xs (only_one number n xs r up is) (λ x f e. ap (λ (z : Blocked). eqb z.session s) (f e) ∙ ne_eqb r.session s (λ q. ne (sym q))))))))
      ]

  pub ends : (session : ℕ) → asked_by session xs ≡ [] → ((s : ℕ) → entries_of new s ≡ (if s == session then [] else entries_of old s)) → AreOfSessions new xs
  ends session none made s = elim (cases_eq s session) [
    | inl e ↦ made s ∙ (ap (λ c. cond c [] (entries_of old s)) (eq-eqb s session e) ∙ sym (ap (λ n. asked_by n xs) e ∙ none))
    | inr ne ↦ made s ∙ (ap (λ c. cond c [] (entries_of old s)) (ne_eqb s session ne) ∙ are s)
  ]

-- ---- what is asked of a session's map

pub first_is : (p : Blocked → Bool) (xs : List Blocked) → slice_get (map (λ (e : ℕ × ℕ). e.0) (map number_and_id (filter p xs))) 0 ≡ option_map number (find p xs)
first_is p [] = refl
first_is p (x ∷ xs) = at (p x) (first_is p xs) where
  at : (b : Bool) → slice_get (map (λ (e : ℕ × ℕ). e.0) (map number_and_id (filter p xs))) 0 ≡ option_map number (find p xs)
      → slice_get (map (λ (e : ℕ × ℕ). e.0) (map number_and_id (cond b (x ∷ filter p xs) (filter p xs)))) 0 ≡ option_map number (cond b (Some x) (find p xs))
  at true rest = refl
  at false rest = rest

pub any_is_asked : (s id : ℕ) (xs : List Blocked) → list_any (λ (i : ℕ). eqb i id) (map (λ (e : ℕ × ℕ). e.1) (asked_by s xs)) ≡ list_any (λ b. b.session == s && b.id == id) xs
any_is_asked s id [] = refl
any_is_asked s id (x ∷ xs) = at (eqb x.session s) (any_is_asked s id xs) where
  at : (c : Bool) → list_any (λ (i : ℕ). eqb i id) (map (λ (e : ℕ × ℕ). e.1) (asked_by s xs)) ≡ list_any (λ b. b.session == s && b.id == id) xs
      → list_any (λ (i : ℕ). eqb i id) (map (λ (e : ℕ × ℕ). e.1) (map number_and_id (cond c (x ∷ filter (λ y. eqb y.session s) xs) (filter (λ y. eqb y.session s) xs)))) ≡ ((c && eqb x.id id) || list_any (λ b. b.session == s && b.id == id) xs)
  at true rest = ap (λ w. eqb x.id id || w) rest
  at false rest = rest

-- where there are no places, nobody asks
pub none_asks : (p : Blocked → Bool) (places : List (Option Blocked)) → (length places == 0) ≡ true → list_any p (living places) ≡ false
none_asks p [] none = refl
none_asks p (place ∷ places) none = absurd (true≢false (sym none ∙ eqb-suc-zero (length places)))
