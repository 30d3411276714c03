-- What quieting and ending use up.
use Rattle.std.proofs.Common.{◌≡◌, refl, sym, ap, ◌∙◌, subst, ℕ, ◌+◌, ◌<◌, ◌≤◌, List, [], ◌∷◌, ◌++◌, map, drop, length, Bool, true, false, not, cond, ◌&&◌, ◌⊎◌, inl, inr, ⊎_elim, filter, flat_map, Option, Some, None, ◌==◌, nat_lt, nat_le, arith, eqb-true, eq-eqb, length-append, length-drop}
use Rattle.std.specs.Prelude.{sum_by}
use Rattle.std.specs.List.{list_all}
use Rattle.std.specs.Option.{option_map_or}
use Rattle.std.proofs.lemmas.Bool.{and_parts, ltb-true}
use Rattle.std.proofs.lemmas.List.{length-map}
use Rattle.std.proofs.lemmas.List.Sums.{sum_by-cons}
use Rattle.jsp_model.specs.declared.state.State.{State}
use Rattle.jsp_model.specs.declared.state.Row.{Row}
use Rattle.jsp_model.specs.declared.state.Registration.{Registration}
use Rattle.jsp_model.specs.declared.state.Blocked.{Blocked}
use Rattle.jsp_model.specs.declared.state.Transaction.{Transaction}
use Rattle.jsp_model.specs.declared.state.MatchSet.{MatchSet}
use Rattle.jsp_lease.specs.declared.item.Item.{Item}
use Rattle.jsp_lease.specs.declared.item.Rank.{Rank}
use Rattle.jsp_lease.specs.declared.item.Rank.TheVariants as rank
use Rattle.jsp_lease.specs.Due.{first_item, over_by, is_before, is_item, rank_number}
use Rattle.jsp_model.specs.declared.step.Step.{Step}
use Rattle.jsp_model.specs.declared.step.Step.TheVariants as step
use Rattle.jsp_model.specs.Lookup.{update, contains, is_caller, is_voting, blocked_of, registration_of}
use Rattle.jsp_model.specs.Sight.{is_take, is_if, available, has_conflict}
use Rattle.jsp_model.specs.Changes.{unread, aborted, unblock, tell, remove}
use Rattle.jsp_model.specs.Steps.{is_choice, is_legal, after_grant, next}
use Rattle.jsp_model.specs.Runs.{is_run, state_after}
use Rattle.jsp_model.specs.House.{is_unasked}
use Rattle.jsp_model.specs.Due.{due, items}
use Rattle.jsp_model.specs.Quiet.{are_quiet}
use Rattle.jsp_model.specs.Touches.{touches}
use Rattle.jsp_model.proofs.Ends.{row_item, registration_item, transaction_item, blocked_item, set_item}
use Rattle.jsp_laws.proofs.Lists.{Has, found_has}
use Rattle.jsp_laws.proofs.Made.{and_both}
use Rattle.jsp_laws.proofs.Sound.{after_giving}
use Rattle.jsp_quiet.specs.Quieting.{owed_events, left_to_say, living, quiets}

-- ---- lists

no_longer : {A : Type 0} (t : A → Bool) (xs : List A) → length (filter t xs) ≤ length xs
no_longer t [] = omega arith
no_longer t (x ∷ xs) = go (t x) (no_longer t xs)
  where
    go : (b : Bool) → length (filter t xs) ≤ length xs → length (cond b (x ∷ filter t xs) (filter t xs)) ≤ length (x ∷ xs)
    go true ih = omega (arith, ih)
    go false ih = omega (arith, ih)

shorter : {A : Type 0} (t : A → Bool) (xs : List A) (y : A) → Has xs y → t y ≡ false → length (filter t xs) < length xs
shorter t [] y h e = absurd h
shorter t (x ∷ xs) y (inl k) e = let w : t x ≡ false = ap t k ∙ e in let l : length (filter t xs) ≤ length xs = no_longer t xs in rw w (omega (arith, l))
shorter {A = A} t (x ∷ xs) y (inr k) e = go (t x) (shorter t xs y k e)
  where
    go : (b : Bool) → length (filter t xs) < length xs → length (cond b (x ∷ filter t xs) (filter t xs)) < length (x ∷ xs)
    go true ih = omega (arith, ih)
    go false ih = omega (arith, ih)

-- without those of this number
without_numbered : {A : Type 0} (f : A → ℕ) (n : ℕ) (xs : List A) (y : A) → Has xs y → f y ≡ n → length (filter (λ x. not (f x == n)) xs) < length xs
without_numbered f n xs y h e = let w : (f y == n) ≡ true = eq-eqb (f y) n e in shorter (λ x. not (f x == n)) xs y h (rw w refl)

less_owed : {A : Type 0} (f : A → ℕ) (t : A → Bool) (g : A → A) → ((x : A) → f (g x) ≤ f x) → (xs : List A) → sum_by f (update t g xs) ≤ sum_by f xs
less_owed f t g l [] = omega arith
less_owed {A = A} f t g l (x ∷ xs) = go (t x) (less_owed f t g l xs)
  where
    go : (b : Bool) → sum_by f (update t g xs) ≤ sum_by f xs → sum_by f (cond b (g x) x ∷ update t g xs) ≤ sum_by f (x ∷ xs)
    go true ih = let k : f (g x) ≤ f x = l x in rw (sum_by-cons f (g x) (update t g xs), sum_by-cons f x xs) (omega (arith, ih, k))
    go false ih = rw (sum_by-cons f x (update t g xs), sum_by-cons f x xs) (omega (arith, ih))

one_owed : {A : Type 0} (f : A → ℕ) (t : A → Bool) (g : A → A) → ((x : A) → f (g x) ≤ f x) → (xs : List A) (y : A) → Has xs y → t y ≡ true → f (g y) < f y → sum_by f (update t g xs) < sum_by f xs
one_owed f t g l [] y h e k = absurd h
one_owed f t g l (x ∷ xs) y (inl q) e k =
    let w : t x ≡ true = ap t q ∙ e in
    let k' : f (g x) < f x = subst (λ z. f (g z) < f z) (sym q) k in
    let r : sum_by f (update t g xs) ≤ sum_by f xs = less_owed f t g l xs in
    rw w (rw (sum_by-cons f (g x) (update t g xs), sum_by-cons f x xs) (omega (arith, r, k')))
one_owed {A = A} f t g l (x ∷ xs) y (inr q) e k = go (t x) (one_owed f t g l xs y q e k)
  where
    go : (b : Bool) → sum_by f (update t g xs) < sum_by f xs → sum_by f (cond b (g x) x ∷ update t g xs) < sum_by f (x ∷ xs)
    go true ih = let k : f (g x) ≤ f x = l x in rw (sum_by-cons f (g x) (update t g xs), sum_by-cons f x xs) (omega (arith, ih, k))
    go false ih = rw (sum_by-cons f x (update t g xs), sum_by-cons f x xs) (omega (arith, ih))

less_kept : {A : Type 0} (f : A → ℕ) (t : A → Bool) (xs : List A) → sum_by f (filter t xs) ≤ sum_by f xs
less_kept f t [] = omega arith
less_kept {A = A} f t (x ∷ xs) = go (t x) (less_kept f t xs)
  where
    go : (b : Bool) → sum_by f (filter t xs) ≤ sum_by f xs → sum_by f (cond b (x ∷ filter t xs) (filter t xs)) ≤ sum_by f (x ∷ xs)
    go true ih = rw (sum_by-cons f x (filter t xs), sum_by-cons f x xs) (omega (arith, ih))
    go false ih = rw (sum_by-cons f x xs) (omega (arith, ih))

-- ---- granting, emptying, telling

given_one : (b take : Bool) (x : Option ℕ) (r : Row) → length (after_giving b take x r) ≤ 1
given_one true true None r = omega arith
given_one true true (Some x) r = omega arith
given_one true false None r = omega arith
given_one true false (Some x) r = omega arith
given_one false take x r = omega arith

no_more_rows : (f : Row → List Row) → ((r : Row) → length (f r) ≤ 1) → (rs : List Row) → length (flat_map f rs) ≤ length rs
no_more_rows f l [] = omega arith
no_more_rows f l (r ∷ rs) =
    let ih : length (flat_map f rs) ≤ length rs = no_more_rows f l rs in
    let k : length (f r) ≤ 1 = l r in
    rw (length-append (f r) (flat_map f rs)) (omega (arith, ih, k))

-- one request fewer waits; nothing else grows, and registrations stay
pub record Answers (st after : State) : Type 0 where
  pub blocked : length after.blocked < length st.blocked
  pub registrations : after.registrations ≡ st.registrations
  pub rows : length after.rows ≤ length st.rows
  pub transactions : after.transactions ≡ st.transactions
  pub sets : after.sets ≡ st.sets

answers_unblocked : (st : State) (n : ℕ) (b : Blocked) → blocked_of st n ≡ Some b → length (unblock st n).blocked < length st.blocked
answers_unblocked st n b e = let h = found_has (λ b. b.number == n) st.blocked b e in without_numbered (λ (b : Blocked). b.number) n st.blocked b h.0 (eqb-true b.number n h.1)

granted_answers : (st : State) (n : ℕ) (ns : List ℕ) (o : Option Blocked) → blocked_of st n ≡ o → option_map_or (λ b. nat_lt 0 (length ns) && is_choice st b ns) o false ≡ true → Answers st (after_grant st n ns o)
granted_answers st n ns None k e = absurd (cc)
granted_answers st n ns (Some b) k e = record {
  blocked = answers_unblocked st n b k;
  registrations = refl;
  rows = no_more_rows _ (λ r. given_one (contains ns r.number) (is_take b.form) b.transaction r) st.rows;
  transactions = refl;
  sets = refl;
}

emptied_answers : (st : State) (n : ℕ) (o : Option Blocked) → blocked_of st n ≡ o → option_map_or (λ b. is_if b.form && length (available st b) == 0 && not (has_conflict st b)) o false ≡ true → Answers st (unblock st n)
emptied_answers st n None k e = absurd (cc)
emptied_answers st n (Some b) k e = record { blocked = answers_unblocked st n b k; registrations = refl; rows = omega arith; transactions = refl; sets = refl }

pub grant_answers : (st : State) (n : ℕ) (ns : List ℕ) → is_legal st (step.Grant n ns) ≡ true → Answers st (next st (step.Grant n ns))
unfolding is_legal next
grant_answers st n ns e = let k = granted_answers st n ns (blocked_of st n) refl e in record { blocked = k.blocked; registrations = k.registrations; rows = k.rows; transactions = k.transactions; sets = k.sets }

pub empty_answers : (st : State) (n : ℕ) → is_legal st (step.Empty n) ≡ true → Answers st (next st (step.Empty n))
unfolding is_legal next
empty_answers st n e = let k = emptied_answers st n (blocked_of st n) refl e in record { blocked = k.blocked; registrations = k.registrations; rows = k.rows; transactions = k.transactions; sets = k.sets }

-- one event fewer is owed; requests stay, and nothing else grows
pub record Tells (st after : State) : Type 0 where
  pub owed : owed_events after < owed_events st
  pub blocked : after.blocked ≡ st.blocked
  pub living : living after ≡ living st

one_dropped : (owed : List ℕ) → 0 < length owed → length (drop 1 owed) < length owed
one_dropped owed h = rw (length-drop 1 owed) (omega (arith, h))

none_added : (owed : List ℕ) → length (drop 1 owed) ≤ length owed
none_added owed = rw (length-drop 1 owed) (omega arith)

told_tells : (st : State) (n : ℕ) (o : Option Registration) → registration_of st n ≡ o → option_map_or (λ r. nat_lt 0 (length r.owed)) o false ≡ true → owed_events (tell st n) < owed_events st
told_tells st n None k e = absurd (cc)
told_tells st n (Some r) k e =
    let h = found_has (λ r. r.number == n) st.registrations r k in
    one_owed (λ (r : Registration). length r.owed) (λ r. r.number == n) (λ (r : Registration). record r { owed = drop 1 r.owed; sequence = r.sequence + 1 }) (λ r. none_added r.owed) st.registrations r h.0 h.1
    (one_dropped r.owed (ltb-true 0 (length r.owed) e))

pub tell_tells : (st : State) (n : ℕ) → is_legal st (step.Tell n) ≡ true → Tells st (next st (step.Tell n))
unfolding is_legal next
tell_tells st n e = record {
  owed = told_tells st n (registration_of st n) refl e;
  blocked = refl;
  living = rw (length-map st.registrations (λ r. cond (r.number == n) (record r { owed = drop 1 r.owed; sequence = r.sequence + 1 }) r)) refl;
}

-- ---- ending

-- one that can end goes, and nothing grows
pub record EndsOne (st after : State) : Type 0 where
  pub living : living after < living st
  pub blocked : length after.blocked ≤ length st.blocked
  pub owed : owed_events after ≤ owed_events st

five_fall : (a b c d e a' b' c' d' e' : ℕ) → a' ≤ a → b' ≤ b → c' < c → d' ≤ d → e' ≤ e → a' + b' + c' + d' + e' < a + b + c + d + e
five_fall a b c d e a' b' c' d' e' p q r s t = omega arith

shorter_rows : (x : ℕ) (rows : List Row) → length (aborted x rows) ≤ length rows
shorter_rows x rows =
    let kept : List Row = filter (λ row. not (is_caller row.writer x)) rows in
    let a : length kept ≤ length rows = no_longer (λ (row : Row). not (is_caller row.writer x)) rows in
    rw (length-map (update (λ row. is_caller row.taker x) (λ (row : Row). record row { taker = None }) kept) (unread x), length-map kept (λ (row : Row). cond (is_caller row.taker x) (record row { taker = None }) row)) a

ends_row : (st : State) (r : Rank) (n : ℕ) (x : Row) → Has st.rows x → (rank_number r == 0) ≡ true → x.number ≡ n → EndsOne st (remove st r n)
ends_row st rank.Entry n x h k e = record { living = let w : length (filter (λ (r : Row). not (r.number == n)) st.rows) < length st.rows = without_numbered (λ (r : Row). r.number) n st.rows x h e in omega (arith, w); blocked = omega arith; owed = omega arith }
ends_row st rank.Registration n x h k e = absurd (cc)
ends_row st rank.Transaction n x h k e = absurd (cc)
ends_row st rank.Blocked n x h k e = absurd (cc)
ends_row st rank.MatchSet n x h k e = absurd (cc)

ends_registration : (st : State) (r : Rank) (n : ℕ) (x : Registration) → Has st.registrations x → (rank_number r == 1) ≡ true → x.number ≡ n → EndsOne st (remove st r n)
ends_registration st rank.Registration n x h k e = record {
  living = let w : length (filter (λ (r : Registration). not (r.number == n)) st.registrations) < length st.registrations = without_numbered (λ (r : Registration). r.number) n st.registrations x h e in omega (arith, w);
  blocked = omega arith;
  owed = less_kept (λ (r : Registration). length r.owed) (λ r. not (r.number == n)) st.registrations;
}
ends_registration st rank.Entry n x h k e = absurd (cc)
ends_registration st rank.Transaction n x h k e = absurd (cc)
ends_registration st rank.Blocked n x h k e = absurd (cc)
ends_registration st rank.MatchSet n x h k e = absurd (cc)

ends_transaction : (st : State) (r : Rank) (n : ℕ) (x : Transaction) → Has st.transactions x → (rank_number r == 2) ≡ true → x.number ≡ n → EndsOne st (remove st r n)
ends_transaction st rank.Transaction n x h k e = record {
  living = five_fall (length st.rows) (length st.registrations) (length st.transactions) (length st.blocked) (length st.sets) _ _ _ _ _
      (shorter_rows n st.rows)
      (no_longer (λ (r : Registration). not (is_caller r.transaction n)) st.registrations)
      (without_numbered (λ (t : Transaction). t.number) n st.transactions x h e)
      (no_longer (λ (b : Blocked). not (is_caller b.transaction n)) st.blocked)
      (no_longer (λ (m : MatchSet). not (is_caller m.transaction n)) st.sets);
  blocked = no_longer (λ (b : Blocked). not (is_caller b.transaction n)) st.blocked;
  owed = less_kept (λ (r : Registration). length r.owed) (λ r. not (is_caller r.transaction n)) st.registrations;
}
ends_transaction st rank.Entry n x h k e = absurd (cc)
ends_transaction st rank.Registration n x h k e = absurd (cc)
ends_transaction st rank.Blocked n x h k e = absurd (cc)
ends_transaction st rank.MatchSet n x h k e = absurd (cc)

ends_blocked : (st : State) (r : Rank) (n : ℕ) (x : Blocked) → Has st.blocked x → (rank_number r == 3) ≡ true → x.number ≡ n → EndsOne st (remove st r n)
ends_blocked st rank.Blocked n x h k e =
    let w : length (filter (λ (b : Blocked). not (b.number == n)) st.blocked) < length st.blocked = without_numbered (λ (b : Blocked). b.number) n st.blocked x h e in
    record { living = omega (arith, w); blocked = omega (arith, w); owed = omega arith }
ends_blocked st rank.Entry n x h k e = absurd (cc)
ends_blocked st rank.Registration n x h k e = absurd (cc)
ends_blocked st rank.Transaction n x h k e = absurd (cc)
ends_blocked st rank.MatchSet n x h k e = absurd (cc)

ends_set : (st : State) (r : Rank) (n : ℕ) (x : MatchSet) → Has st.sets x → (rank_number r == 4) ≡ true → x.number ≡ n → EndsOne st (remove st r n)
ends_set st rank.MatchSet n x h k e =
    let w : length (filter (λ (m : MatchSet). not (m.number == n)) st.sets) < length st.sets = without_numbered (λ (m : MatchSet). m.number) n st.sets x h e in
    record { living = omega (arith, w); blocked = omega arith; owed = omega arith }
ends_set st rank.Entry n x h k e = absurd (cc)
ends_set st rank.Registration n x h k e = absurd (cc)
ends_set st rank.Transaction n x h k e = absurd (cc)
ends_set st rank.Blocked n x h k e = absurd (cc)

-- ---- the item that is due stands

first_has : (xs : List Item) (i : Item) → first_item xs ≡ Some i → Has xs i
first_has [] i e = absurd (cc)
first_has (x ∷ xs) i e = go (first_item xs) refl e (λ j k. first_has xs j k)
  where
    go : (o : Option Item) → first_item xs ≡ o → Some (option_map_or (λ b. cond (is_before b x) b x) o x) ≡ Some i → ((j : Item) → first_item xs ≡ Some j → Has xs j) → (x ≡ i) ⊎ Has xs i
    go None k q ih = inl (cc)
    go (Some j) k q ih = which (is_before j x) q
      where
        which : (b : Bool) → Some (cond b j x) ≡ Some i → (x ≡ i) ⊎ Has xs i
        which true z = let w : j ≡ i = cc in inr (ih i (k ∙ ap Some w))
        which false z = inl (cc)

has_kept : {A : Type 0} (t : A → Bool) (xs : List A) (y : A) → Has (filter t xs) y → Has xs y
has_kept t [] y h = absurd h
has_kept {A = A} t (x ∷ xs) y h = go (t x) h (λ k. has_kept t xs y k)
  where
    go : (b : Bool) → Has (cond b (x ∷ filter t xs) (filter t xs)) y → (Has (filter t xs) y → Has xs y) → (x ≡ y) ⊎ Has xs y
    go true (inl e) ih = inl e
    go true (inr k) ih = inr (ih k)
    go false k ih = inr (ih k)

has_either : {A : Type 0} (xs ys : List A) (y : A) → Has (xs ++ ys) y → Has xs y ⊎ Has ys y
has_either [] ys y h = inr h
has_either (x ∷ xs) ys y (inl e) = inl (inl e)
has_either (x ∷ xs) ys y (inr h) = ⊎_elim (λ k. inl (inr k)) (λ k. inr k) (has_either xs ys y h)

has_mapped : {A B : Type 0} (f : A → B) (xs : List A) (y : B) → Has (map f xs) y → (x : A) × Has xs x × (f x ≡ y)
has_mapped f [] y h = absurd h
has_mapped f (x ∷ xs) y (inl e) = (x, inl refl, e)
has_mapped f (x ∷ xs) y (inr h) = let (z, k, e) = has_mapped f xs y h in (z, inr k, e)

ends_item : (st : State) (item i : Item) → Has (items st) i → (rank_number item.rank == rank_number i.rank) ≡ true → (item.number == i.number) ≡ true → EndsOne st (remove st item.rank item.number)
ends_item st item i h r n =
    let a = map row_item st.rows in
    let b = map registration_item st.registrations in
    let c = map transaction_item (filter (λ t. not (is_voting st t.number)) st.transactions) in
    let d = map blocked_item st.blocked in
    let e = map set_item st.sets in
    ⊎_elim
    (λ h. ⊎_elim
    (λ h. ⊎_elim
    (λ h. ⊎_elim
    (λ h. let (x, k, w) = has_mapped row_item st.rows i h in
    ends_row st item.rank item.number x k (subst (λ (z : Item). (rank_number item.rank == rank_number z.rank) ≡ true) (sym w) r) (ap (λ (z : Item). z.number) w ∙ sym (eqb-true item.number i.number n)))
    (λ h. let (x, k, w) = has_mapped registration_item st.registrations i h in
    ends_registration st item.rank item.number x k (subst (λ (z : Item). (rank_number item.rank == rank_number z.rank) ≡ true) (sym w) r) (ap (λ (z : Item). z.number) w ∙ sym (eqb-true item.number i.number n)))
    (has_either a b i h))
    (λ h. let (x, k, w) = has_mapped transaction_item (filter (λ t. not (is_voting st t.number)) st.transactions) i h in
    ends_transaction st item.rank item.number x (has_kept (λ t. not (is_voting st t.number)) st.transactions x k) (subst (λ (z : Item). (rank_number item.rank == rank_number z.rank) ≡ true) (sym w) r) (ap (λ (z : Item). z.number) w ∙ sym (eqb-true item.number i.number n)))
    (has_either (a ++ b) c i h))
    (λ h. let (x, k, w) = has_mapped blocked_item st.blocked i h in
    ends_blocked st item.rank item.number x k (subst (λ (z : Item). (rank_number item.rank == rank_number z.rank) ≡ true) (sym w) r) (ap (λ (z : Item). z.number) w ∙ sym (eqb-true item.number i.number n)))
    (has_either (a ++ b ++ c) d i h))
    (λ h. let (x, k, w) = has_mapped set_item st.sets i h in
    ends_set st item.rank item.number x k (subst (λ (z : Item). (rank_number item.rank == rank_number z.rank) ≡ true) (sym w) r) (ap (λ (z : Item). z.number) w ∙ sym (eqb-true item.number i.number n)))
    (has_either (a ++ b ++ c ++ d) e i h)

middle : (a b c : Bool) → (a && b && c) ≡ true → (b ≡ true) × (c ≡ true)
middle true true true e = (refl, refl)
middle true true false e = absurd (cc)
middle true false c e = absurd (cc)
middle false b c e = absurd (cc)

ends_due : (st : State) (item : Item) (o : Option Item) → due st ≡ o → option_map_or (is_item item) o false ≡ true → EndsOne st (remove st item.rank item.number)
unfolding due
ends_due st item None k e = absurd (cc)
ends_due st item (Some i) k e =
    let h : Has (items st) i = has_kept (λ (z : Item). nat_le z.end st.time) (items st) i (first_has (over_by st.time (items st)) i k) in
    let parts = middle (item.end == i.end) (rank_number item.rank == rank_number i.rank) (item.number == i.number) e in
    ends_item st item i h parts.0 parts.1

pub due_ends : (st : State) (item : Item) → is_legal st (step.Due item) ≡ true → EndsOne st (next st (step.Due item))
unfolding is_legal next
due_ends st item e =
    let k = ends_due st item (due st) refl (and_both (option_map_or (is_item item) (due st) false) (are_quiet st (touches st (step.Due item))) e).0 in
    record { living = k.living; blocked = k.blocked; owed = k.owed }

-- ---- all of them

pub quieting_falls : (st : State) (act : Step) → is_legal st act ≡ true → quiets act ≡ true → left_to_say (next st act) < left_to_say st
quieting_falls st (step.Grant n ns) e q = let k = grant_answers st n ns e in let l : length (next st (step.Grant n ns)).blocked < length st.blocked = k.blocked in let w : owed_events (next st (step.Grant n ns)) ≡ owed_events st = ap (sum_by (λ (r : Registration). length r.owed)) k.registrations in omega (arith, l, w)
quieting_falls st (step.Empty n) e q = let k = empty_answers st n e in let l : length (next st (step.Empty n)).blocked < length st.blocked = k.blocked in let w : owed_events (next st (step.Empty n)) ≡ owed_events st = ap (sum_by (λ (r : Registration). length r.owed)) k.registrations in omega (arith, l, w)
quieting_falls st (step.Tell n) e q = let k = tell_tells st n e in let l : owed_events (next st (step.Tell n)) < owed_events st = k.owed in let w : length (next st (step.Tell n)).blocked ≡ length st.blocked = ap length k.blocked in omega (arith, l, w)
quieting_falls st (step.Open s) e q = absurd (cc)
quieting_falls st (step.Shut s) e q = absurd (cc)
quieting_falls st (step.Clock t) e q = absurd (cc)
quieting_falls st (step.Ask s a ns) e q = absurd (cc)
quieting_falls st (step.Fault s id why) e q = absurd (cc)
quieting_falls st (step.Due item) e q = absurd (cc)
quieting_falls st (step.Vote x space) e q = absurd (cc)
quieting_falls st (step.Decide x c) e q = absurd (cc)
quieting_falls st (step.HandOut s n) e q = absurd (cc)

answers_living : (st after : State) → Answers st after → living after < living st
answers_living st after k =
    let r : length after.registrations ≡ length st.registrations = ap length k.registrations in
    let t : length after.transactions ≡ length st.transactions = ap length k.transactions in
    let s : length after.sets ≡ length st.sets = ap length k.sets in
    let b : length after.blocked < length st.blocked = k.blocked in
    let l : length after.rows ≤ length st.rows = k.rows in
    omega (arith, r, t, s, b, l)

-- each step that a house makes by itself uses something up
pub free_falls : (st : State) (act : Step) → is_legal st act ≡ true → is_unasked act ≡ true → left_to_say (next st act) + living (next st act) < left_to_say st + living st
free_falls st (step.Grant n ns) e q = let a : left_to_say (next st (step.Grant n ns)) < left_to_say st = quieting_falls st (step.Grant n ns) e refl in let b : living (next st (step.Grant n ns)) < living st = answers_living st _ (grant_answers st n ns e) in omega (arith, a, b)
free_falls st (step.Empty n) e q = let a : left_to_say (next st (step.Empty n)) < left_to_say st = quieting_falls st (step.Empty n) e refl in let b : living (next st (step.Empty n)) < living st = answers_living st _ (empty_answers st n e) in omega (arith, a, b)
free_falls st (step.Tell n) e q = let a : left_to_say (next st (step.Tell n)) < left_to_say st = quieting_falls st (step.Tell n) e refl in let b : living (next st (step.Tell n)) ≡ living st = (tell_tells st n e).living in omega (arith, a, b)
free_falls st (step.Due item) e q = let k = due_ends st item e in let a : living (next st (step.Due item)) < living st = k.living in let b : length (next st (step.Due item)).blocked ≤ length st.blocked = k.blocked in let c : owed_events (next st (step.Due item)) ≤ owed_events st = k.owed in omega (arith, a, b, c)
free_falls st (step.Open s) e q = absurd (cc)
free_falls st (step.Shut s) e q = absurd (cc)
free_falls st (step.Clock t) e q = absurd (cc)
free_falls st (step.Ask s a ns) e q = absurd (cc)
free_falls st (step.Fault s id why) e q = absurd (cc)
free_falls st (step.Vote x space) e q = absurd (cc)
free_falls st (step.Decide x c) e q = absurd (cc)
free_falls st (step.HandOut s n) e q = absurd (cc)

-- so many of them can follow one another at most, and those that did come off what is left
pub falls_run : (measure : State → ℕ) (test : Step → Bool) → ((st : State) (act : Step) → is_legal st act ≡ true → test act ≡ true → measure (next st act) < measure st)
    → (st : State) (steps : List Step) → is_run st steps ≡ true → list_all test steps ≡ true → length steps + measure (state_after st steps) ≤ measure st
falls_run measure test falls st [] run all = omega arith
falls_run measure test falls st (act ∷ steps) run all =
    let legal : (is_legal st act ≡ true) × (is_run (next st act) steps ≡ true) = and_both (is_legal st act) (is_run (next st act) steps) run in
    let passes : (test act ≡ true) × (list_all test steps ≡ true) = and_parts (test act) (list_all test steps) all in
    let first : measure (next st act) < measure st = falls st act legal.0 passes.0 in
    let rest : length steps + measure (state_after (next st act) steps) ≤ measure (next st act) = falls_run measure test falls (next st act) steps legal.1 passes.1 in
    omega (arith, first, rest)

pub quieting_ends : (st : State) (steps : List Step) → is_run st steps ≡ true → list_all quiets steps ≡ true → length steps ≤ left_to_say st
quieting_ends st steps run all = omega (arith, falls_run left_to_say quiets quieting_falls st steps run all)

pub free_run_falls : (st : State) (steps : List Step) → is_run st steps ≡ true → list_all is_unasked steps ≡ true
    → length steps + (left_to_say (state_after st steps) + living (state_after st steps)) ≤ left_to_say st + living st
free_run_falls st steps run all = falls_run (λ st. left_to_say st + living st) is_unasked free_falls st steps run all

pub free_ends : (st : State) (steps : List Step) → is_run st steps ≡ true → list_all is_unasked steps ≡ true → length steps ≤ left_to_say st + living st
free_ends st steps run all = omega (arith, free_run_falls st steps run all)
