-- A batch of cancellations: what becomes of each lease is found by looking at the state before them all.
use Rattle.std.proofs.Common.{◌≡◌, ℕ, ℤ, ◌+◌, ◌≤◌, Bool, true, false, not, cond, List, [], ◌∷◌, ◌++◌, map, length, Option, Some, None, refl, ap, sym, ◌∙◌, subst, arith, eqb-true, eq-eqb, length-append, true≢false}
use Rattle.std.specs.Prelude.{◌&&◌, ◌||◌, ◌==◌, if◌then◌else◌, fold, filter, find, is_some, is_none}
use Rattle.std.specs.List.{list_any, scan}
use Rattle.std.specs.Option.{option_map_or}
use Rattle.std.proofs.lemmas.Bool.{or_parts, and_right, or_right}
use Rattle.std.proofs.lemmas.List.Elements.{filter-append}
use Rattle.jsp_types.specs.Tests.{first_that}
use Rattle.jsp_lease.specs.declared.item.Rank.{Rank}
use Rattle.jsp_lease.specs.declared.item.Rank.TheVariants as rank
use Rattle.jsp_reply.specs.declared.refusal.Refusal.TheVariants.{UnknownLease, NotActive}
use Rattle.jsp_reply.specs.declared.reply.LeaseOutcome.{LeaseOutcome}
use Rattle.jsp_reply.specs.declared.reply.LeaseOutcome.TheVariants as outcome
use Rattle.jsp_model.specs.declared.state.State.{State}
use Rattle.jsp_model.specs.declared.state.Row.{Row}
use Rattle.jsp_model.specs.declared.state.Registration.{Registration}
use Rattle.jsp_model.specs.declared.state.Transaction.{Transaction}
use Rattle.jsp_model.specs.declared.state.Commit.{Commit}
use Rattle.jsp_model.specs.declared.state.MatchSet.{MatchSet}
use Rattle.jsp_model.specs.Lookup.{update, named, rank_of, is_caller, is_living, is_voting}
use Rattle.jsp_model.specs.Changes.{unread, remove, cancel_one}
use Rattle.jsp_model.specs.Answers.{outcome_of, cancel_answer}
use Rattle.jsp_model.specs.Limits.{bearers}
use Rattle.jsp_model.proofs.Renewing.{ranks}

-- ---- what is left, by the state before

-- the number names something with a lease, and no transaction whose commit was asked
abbrev pub is_cancellable : State → ℕ → Bool
is_cancellable st n = is_some (rank_of st n) && not (is_voting st n)

-- one of these leases, once cancelled, ends what has the number, or the transaction that it is under
abbrev pub is_ended : State → List ℤ → ℕ → Option ℕ → Bool
is_ended st leases n under =
    list_any (λ l. is_cancellable st (named l) && (n == named l || is_caller under (named l) && is_living st (named l))) leases

-- the number still names something with a lease, once these are cancelled
abbrev pub still_names : State → List ℤ → ℕ → Bool
still_names st leases n =
    list_any (λ r. r.number == n && not (is_ended st leases r.number r.writer)) st.rows
    || list_any (λ r. r.number == n && not (is_ended st leases r.number r.transaction)) st.registrations
    || list_any (λ t. t.number == n && not (is_ended st leases t.number None)) st.transactions
    || list_any (λ m. m.number == n && not (is_ended st leases m.number m.transaction)) st.sets

-- what becomes of the lease, once the earlier ones are cancelled
abbrev pub cancel_outcome : State → List ℤ → ℤ → LeaseOutcome
cancel_outcome st earlier lease =
    if not (still_names st earlier (named lease)) then outcome.Refused UnknownLease
    else if is_voting st (named lease) then outcome.Refused NotActive
    else outcome.Cancelled

-- ---- lists

Each : {A : Type 0} → (A → Type 0) → List A → Type 0
Each P [] = Unit {0}
Each P (x ∷ xs) = P x × Each P xs

each_from : {A : Type 0} (P Q R : A → Type 0) → ((x : A) → P x → Q x → R x) → (xs : List A) → Each P xs → Each Q xs → Each R xs
unfolding Each
each_from P Q R f [] h k = tt
each_from P Q R f (x ∷ xs) h k = (f x h.0 k.0, each_from P Q R f xs h.1 k.1)

any_map : {A B : Type 0} (p : B → Bool) (f : A → B) (xs : List A) → list_any p (map f xs) ≡ list_any (λ x. p (f x)) xs
any_map p f [] = refl
any_map p f (x ∷ xs) = ap (λ b. p (f x) || b) (any_map p f xs)

or_assoc : (a b c : Bool) → (a || (b || c)) ≡ ((a || b) || c)
or_assoc true b c = refl
or_assoc false b c = refl

any_append : {A : Type 0} (p : A → Bool) (xs ys : List A) → list_any p (xs ++ ys) ≡ (list_any p xs || list_any p ys)
any_append p [] ys = refl
any_append p (x ∷ xs) ys = ap (λ b. p x || b) (any_append p xs ys) ∙ or_assoc (p x) (list_any p xs) (list_any p ys)

any_filter : {A : Type 0} (p q : A → Bool) (xs : List A) → list_any p (filter q xs) ≡ list_any (λ x. p x && q x) xs
any_filter p q [] = refl
any_filter p q (x ∷ xs) = go (q x) refl (p x) refl (any_filter p q xs)
  where
    go : (b : Bool) → q x ≡ b → (c : Bool) → p x ≡ c → list_any p (filter q xs) ≡ list_any (λ x. p x && q x) xs → list_any p (cond b (x ∷ filter q xs) (filter q xs)) ≡ ((c && b) || list_any (λ x. p x && q x) xs)
    go true e true k rest = rw k refl
    go true e false k rest = rw k rest
    go false e true k rest = rest
    go false e false k rest = rest

found_any : {A : Type 0} (p : A → Bool) (xs : List A) → is_some (find p xs) ≡ list_any p xs
found_any p [] = refl
found_any p (x ∷ xs) = go (p x) (found_any p xs)
  where
    go : (b : Bool) → is_some (find p xs) ≡ list_any p xs → is_some (cond b (Some x) (find p xs)) ≡ (b || list_any p xs)
    go true rest = refl
    go false rest = rest

count_map : {A B : Type 0} (p : B → Bool) (f : A → B) (xs : List A) → length (filter p (map f xs)) ≡ length (filter (λ x. p (f x)) xs)
count_map p f [] = refl
count_map {A = A} p f (x ∷ xs) = go (p (f x)) (count_map p f xs)
  where
    go : (b : Bool) → length (filter p (map f xs)) ≡ length (filter (λ x. p (f x)) xs) → length (cond b (f x ∷ filter p (map f xs)) (filter p (map f xs))) ≡ length (cond b (x ∷ filter (λ x. p (f x)) xs) (filter (λ x. p (f x)) xs))
    go true rest = omega (arith, rest)
    go false rest = rest

count_some : {A : Type 0} (p : A → Bool) (xs : List A) → list_any p xs ≡ true → 1 ≤ length (filter p xs)
count_some p [] h = absurd (cc)
count_some p (x ∷ xs) h = go (p x) h (count_some p xs)
  where
    go : (b : Bool) → (b || list_any p xs) ≡ true → (list_any p xs ≡ true → 1 ≤ length (filter p xs)) → 1 ≤ length (cond b (x ∷ filter p xs) (filter p xs))
    go true k rest = omega arith
    go false k rest = rest k

count_fewer : {A : Type 0} (p q : A → Bool) (xs : List A) → length (filter p (filter q xs)) ≤ length (filter p xs)
count_fewer p q [] = omega arith
count_fewer p q (x ∷ xs) = go (q x) (p x) refl (count_fewer p q xs)
  where
    go : (b c : Bool) → p x ≡ c → length (filter p (filter q xs)) ≤ length (filter p xs) → length (filter p (cond b (x ∷ filter q xs) (filter q xs))) ≤ length (cond c (x ∷ filter p xs) (filter p xs))
    go true true e rest = rw e (omega (arith, rest))
    go true false e rest = rw e rest
    go false true e rest = omega (arith, rest)
    go false false e rest = rest

filter_all : {A : Type 0} (xs : List A) → filter (λ x. true) xs ≡ xs
filter_all [] = refl
filter_all (x ∷ xs) = ap (λ w. x ∷ w) (filter_all xs)

-- one filter after another, where the second agrees with a third on what the first one leaves
filter_twice : {A : Type 0} (a t u : A → Bool) (xs : List A) → Each (λ x. a x ≡ false → t x ≡ u x) xs → filter (λ x. not (t x)) (filter (λ x. not (a x)) xs) ≡ filter (λ x. not (a x || u x)) xs
unfolding Each
filter_twice a t u [] h = refl
filter_twice {A = A} a t u (x ∷ xs) h = go (a x) refl (filter_twice a t u xs h.1)
  where
    go : (b : Bool) → a x ≡ b → filter (λ x. not (t x)) (filter (λ x. not (a x)) xs) ≡ filter (λ x. not (a x || u x)) xs
        → filter (λ x. not (t x)) (cond (not b) (x ∷ filter (λ x. not (a x)) xs) (filter (λ x. not (a x)) xs)) ≡ cond (not (b || u x)) (x ∷ filter (λ x. not (a x || u x)) xs) (filter (λ x. not (a x || u x)) xs)
    go true e rest = rest
    go false e rest =
        ap (λ c. cond (not c) (x ∷ filter (λ x. not (t x)) (filter (λ x. not (a x)) xs)) (filter (λ x. not (t x)) (filter (λ x. not (a x)) xs))) (h.0 e)
        ∙ ap (λ w. cond (not (u x)) (x ∷ w) w) rest

-- ---- the things with a lease

-- a number, and the transaction that what has it is under
abbrev Thing : Type 0
Thing = ℕ × Option ℕ

abbrev of_row : Row → Thing
of_row r = (r.number, r.writer)

abbrev of_registration : Registration → Thing
of_registration r = (r.number, r.transaction)

abbrev of_transaction : Transaction → Thing
of_transaction t = (t.number, None)

abbrev of_set : MatchSet → Thing
of_set m = (m.number, m.transaction)

abbrev things : State → List Thing
things st = ((map of_row st.rows ++ map of_registration st.registrations) ++ map of_transaction st.transactions) ++ map of_set st.sets

abbrev has : List Thing → ℕ → Bool
has xs n = list_any (λ p. p.0 == n) xs

abbrev count : ℕ → List Thing → ℕ
count n xs = length (filter (λ (p : Thing). p.0 == n) xs)

-- a test of all things, list by list
any_thing : (p : Thing → Bool) (st : State) → list_any p (things st) ≡ (((list_any (λ r. p (of_row r)) st.rows || list_any (λ r. p (of_registration r)) st.registrations) || list_any (λ t. p (of_transaction t)) st.transactions) || list_any (λ m. p (of_set m)) st.sets)
any_thing p st =
    let rows = map of_row st.rows in
    let registrations = map of_registration st.registrations in
    let transactions = map of_transaction st.transactions in
    let sets = map of_set st.sets in
    any_append p ((rows ++ registrations) ++ transactions) sets
    ∙ ap (λ b. b || list_any p sets) (any_append p (rows ++ registrations) transactions ∙ ap (λ b. b || list_any p transactions) (any_append p rows registrations))
    ∙ ap (λ b. ((b || list_any p registrations) || list_any p transactions) || list_any p sets) (any_map p of_row st.rows)
    ∙ ap (λ b. ((list_any (λ r. p (of_row r)) st.rows || b) || list_any p transactions) || list_any p sets) (any_map p of_registration st.registrations)
    ∙ ap (λ b. ((list_any (λ r. p (of_row r)) st.rows || list_any (λ r. p (of_registration r)) st.registrations) || b) || list_any p sets) (any_map p of_transaction st.transactions)
    ∙ ap (λ b. ((list_any (λ r. p (of_row r)) st.rows || list_any (λ r. p (of_registration r)) st.registrations) || list_any (λ t. p (of_transaction t)) st.transactions) || b) (any_map p of_set st.sets)

some_rank : (a b c d : Bool) → is_some (ranks a b c d) ≡ (((a || b) || c) || d)
some_rank true b c d = refl
some_rank false true c d = refl
some_rank false false true d = refl
some_rank false false false true = refl
some_rank false false false false = refl

named_there : (st : State) (n : ℕ) → is_some (rank_of st n) ≡ has (things st) n
named_there st n =
    some_rank (list_any (λ r. r.number == n) st.rows) (list_any (λ r. r.number == n) st.registrations) (is_living st n) (list_any (λ m. m.number == n) st.sets)
    ∙ ap (λ b. ((list_any (λ r. r.number == n) st.rows || list_any (λ r. r.number == n) st.registrations) || b) || list_any (λ m. m.number == n) st.sets) (found_any (λ (t : Transaction). t.number == n) st.transactions)
    ∙ sym (any_thing (λ p. p.0 == n) st)

-- no number stands twice
abbrev AreApart : State → Type 0
AreApart st = (n : ℕ) → count n (things st) ≤ 1

count_parts : (st : State) (n : ℕ) → count n (things st) ≡ count n (map of_row st.rows) + count n (map of_registration st.registrations) + count n (map of_transaction st.transactions) + count n (map of_set st.sets)
count_parts st n =
    let rows = map of_row st.rows in
    let registrations = map of_registration st.registrations in
    let transactions = map of_transaction st.transactions in
    let sets = map of_set st.sets in
    let p : Thing → Bool = λ p. p.0 == n in
    let a = ap length (filter-append p ((rows ++ registrations) ++ transactions) sets) ∙ length-append (filter p ((rows ++ registrations) ++ transactions)) (filter p sets) in
    let b = ap length (filter-append p (rows ++ registrations) transactions) ∙ length-append (filter p (rows ++ registrations)) (filter p transactions) in
    let c = ap length (filter-append p rows registrations) ∙ length-append (filter p rows) (filter p registrations) in
    omega (arith, a, b, c)

apart_numbers : (st : State) → ((n : ℕ) → bearers st n ≤ 1) → AreApart st
apart_numbers st h n =
    let p : Thing → Bool = λ p. p.0 == n in
    let parts = count_parts st n in
    let rows = count_map p of_row st.rows in
    let registrations = count_map p of_registration st.registrations in
    let transactions = count_map p of_transaction st.transactions in
    let sets = count_map p of_set st.sets in
    let most = h n in
    omega (arith, parts, rows, registrations, transactions, sets, most)

-- ---- one cancellation

-- it has this number, or is under the transaction that has it
abbrev falls : ℕ → Bool → Thing → Bool
falls n lives p = p.0 == n || is_caller p.1 n && lives

-- what stands after the thing of this number was cancelled
record Without (n : ℕ) (lives : Bool) (was now : State) : Type 0 where
  left : things now ≡ filter (λ p. not (falls n lives p)) (things was)
  living : (e : ℕ) → is_living now e ≡ (is_living was e && not (e == n))
  voting : (e : ℕ) → is_voting now e ≡ is_voting was e

-- a list without the number, where it isn't a transaction's
untouched : (n : ℕ) (xs : List Thing) → has xs n ≡ false → xs ≡ filter (λ p. not (falls n false p)) xs
untouched n [] h = refl
untouched n (p ∷ xs) h =
    let parts = or_parts (p.0 == n) (has xs n) h in
    let stays : falls n false p ≡ false = ap (λ b. b || is_caller p.1 n && false) parts.0 ∙ and_right (is_caller p.1 n) false refl in
    rw stays (ap (λ w. p ∷ w) (untouched n xs parts.1))

-- a list that a test filters as the things fall
kept : {A : Type 0} (n : ℕ) (lives : Bool) (f : A → Thing) (t : A → Bool) → ((x : A) → ((f x).0 == n) ≡ false → t x ≡ not (falls n lives (f x))) → (xs : List A) → has (map f xs) n ≡ false
    → map f (filter t xs) ≡ filter (λ p. not (falls n lives p)) (map f xs)
kept n lives f t h [] none = refl
kept {A = A} n lives f t h (x ∷ xs) none =
    let parts = or_parts ((f x).0 == n) (has (map f xs) n) none in
    ap (λ b. map f (cond b (x ∷ filter t xs) (filter t xs))) (h x parts.0) ∙ go (not (falls n lives (f x))) (kept n lives f t h xs parts.1)
  where
    go : (b : Bool) → map f (filter t xs) ≡ filter (λ p. not (falls n lives p)) (map f xs) → map f (cond b (x ∷ filter t xs) (filter t xs)) ≡ cond b (f x ∷ filter (λ p. not (falls n lives p)) (map f xs)) (filter (λ p. not (falls n lives p)) (map f xs))
    go true rest = ap (λ w. f x ∷ w) rest
    go false rest = rest

-- a list whose things of the number go
dropped : {A : Type 0} (n : ℕ) (lives : Bool) (f : A → Thing) → ((x : A) → (is_caller (f x).1 n && lives) ≡ false) → (xs : List A) → map f (filter (λ x. not ((f x).0 == n)) xs) ≡ filter (λ p. not (falls n lives p)) (map f xs)
dropped n lives f h [] = refl
dropped {A = A} n lives f h (x ∷ xs) =
    go ((f x).0 == n) (dropped n lives f h xs) ∙ ap (λ b. cond (not ((f x).0 == n || b)) (f x ∷ filter (λ p. not (falls n lives p)) (map f xs)) (filter (λ p. not (falls n lives p)) (map f xs))) (sym (h x))
  where
    go : (b : Bool) → map f (filter (λ x. not ((f x).0 == n)) xs) ≡ filter (λ p. not (falls n lives p)) (map f xs)
        → map f (cond (not b) (x ∷ filter (λ x. not ((f x).0 == n)) xs) (filter (λ x. not ((f x).0 == n)) xs)) ≡ cond (not (b || false)) (f x ∷ filter (λ p. not (falls n lives p)) (map f xs)) (filter (λ p. not (falls n lives p)) (map f xs))
    go true rest = rest
    go false rest = ap (λ w. f x ∷ w) rest

-- the four lists together
together : (n : ℕ) (lives : Bool) (was now : State)
    → map of_row now.rows ≡ filter (λ p. not (falls n lives p)) (map of_row was.rows)
    → map of_registration now.registrations ≡ filter (λ p. not (falls n lives p)) (map of_registration was.registrations)
    → map of_transaction now.transactions ≡ filter (λ p. not (falls n lives p)) (map of_transaction was.transactions)
    → map of_set now.sets ≡ filter (λ p. not (falls n lives p)) (map of_set was.sets)
    → things now ≡ filter (λ p. not (falls n lives p)) (things was)
together n lives was now rows registrations transactions sets =
    let t : Thing → Bool = λ p. not (falls n lives p) in
    let a = map of_row was.rows in
    let b = map of_registration was.registrations in
    let c = map of_transaction was.transactions in
    let d = map of_set was.sets in
    ap (λ w. ((w ++ map of_registration now.registrations) ++ map of_transaction now.transactions) ++ map of_set now.sets) rows
    ∙ ap (λ w. ((filter t a ++ w) ++ map of_transaction now.transactions) ++ map of_set now.sets) registrations
    ∙ ap (λ w. ((filter t a ++ filter t b) ++ w) ++ map of_set now.sets) transactions
    ∙ ap (λ w. ((filter t a ++ filter t b) ++ filter t c) ++ w) sets
    ∙ sym (filter-append t ((a ++ b) ++ c) d ∙ ap (λ w. w ++ filter t d) (filter-append t (a ++ b) c ∙ ap (λ w. w ++ filter t c) (filter-append t a b)))

-- the lists that have a number
record HasNumber (st : State) (n : ℕ) (a b c d : Bool) : Type 0 where
  rows : has (map of_row st.rows) n ≡ a
  registrations : has (map of_registration st.registrations) n ≡ b
  transactions : has (map of_transaction st.transactions) n ≡ c
  sets : has (map of_set st.sets) n ≡ d

-- the list of the rank has it, and no other
abbrev HasRank : State → ℕ → Rank → Type 0
HasRank st n rank.Entry = HasNumber st n true false false false
HasRank st n rank.Registration = HasNumber st n false true false false
HasRank st n rank.Transaction = HasNumber st n false false true false
HasRank st n rank.Blocked = ⊥
HasRank st n rank.MatchSet = HasNumber st n false false false true

beside : (n : ℕ) (xs ys : List Thing) → count n xs + count n ys ≤ 1 → has xs n ≡ true → has ys n ≡ false
beside n xs ys few h = go (has ys n) refl
  where
    go : (b : Bool) → has ys n ≡ b → b ≡ false
    go true e =
        let one = count_some (λ (p : Thing). p.0 == n) xs h in
        let two = count_some (λ (p : Thing). p.0 == n) ys e in
        absurd (omega (arith, few, one, two))
    go false e = refl

rank_by_lists : (st : State) (n : ℕ) → rank_of st n ≡ ranks (has (map of_row st.rows) n) (has (map of_registration st.registrations) n) (has (map of_transaction st.transactions) n) (has (map of_set st.sets) n)
rank_by_lists st n =
    let p : Thing → Bool = λ p. p.0 == n in
    let rows = has (map of_row st.rows) n in
    let registrations = has (map of_registration st.registrations) n in
    let transactions = has (map of_transaction st.transactions) n in
    ap (λ b. ranks b (list_any (λ r. r.number == n) st.registrations) (is_living st n) (list_any (λ m. m.number == n) st.sets)) (sym (any_map p of_row st.rows))
    ∙ ap (λ b. ranks rows b (is_living st n) (list_any (λ m. m.number == n) st.sets)) (sym (any_map p of_registration st.registrations))
    ∙ ap (λ b. ranks rows registrations b (list_any (λ m. m.number == n) st.sets)) (found_any (λ (t : Transaction). t.number == n) st.transactions ∙ sym (any_map p of_transaction st.transactions))
    ∙ ap (λ b. ranks rows registrations transactions b) (sym (any_map p of_set st.sets))

has_rank : (st : State) (n : ℕ) (r : Rank) → AreApart st → rank_of st n ≡ Some r → HasRank st n r
has_rank st n r apart e =
    let rows = map of_row st.rows in
    let registrations = map of_registration st.registrations in
    let transactions = map of_transaction st.transactions in
    let sets = map of_set st.sets in
    let few = apart n in
    let parts = count_parts st n in
    go (has rows n) (has registrations n) (has transactions n) (has sets n) refl refl refl refl
    (omega (arith, few, parts)) (omega (arith, few, parts)) (omega (arith, few, parts)) (omega (arith, few, parts)) (omega (arith, few, parts)) (omega (arith, few, parts))
    (sym (rank_by_lists st n) ∙ e)
  where
    go : (a b c d : Bool) → has (map of_row st.rows) n ≡ a → has (map of_registration st.registrations) n ≡ b → has (map of_transaction st.transactions) n ≡ c → has (map of_set st.sets) n ≡ d
        → count n (map of_row st.rows) + count n (map of_registration st.registrations) ≤ 1
        → count n (map of_row st.rows) + count n (map of_transaction st.transactions) ≤ 1
        → count n (map of_row st.rows) + count n (map of_set st.sets) ≤ 1
        → count n (map of_registration st.registrations) + count n (map of_transaction st.transactions) ≤ 1
        → count n (map of_registration st.registrations) + count n (map of_set st.sets) ≤ 1
        → count n (map of_transaction st.transactions) + count n (map of_set st.sets) ≤ 1
        → ranks a b c d ≡ Some r → HasRank st n r
    go true b c d i j k l rg rt rs gt gs ts same = let is : rank.Entry ≡ r = cc (same) in subst (HasRank st n) is
        (record { rows = i; registrations = beside n (map of_row st.rows) (map of_registration st.registrations) rg i; transactions = beside n (map of_row st.rows) (map of_transaction st.transactions) rt i; sets = beside n (map of_row st.rows) (map of_set st.sets) rs i })
    go false true c d i j k l rg rt rs gt gs ts same = let is : rank.Registration ≡ r = cc (same) in subst (HasRank st n) is
        (record { rows = i; registrations = j; transactions = beside n (map of_registration st.registrations) (map of_transaction st.transactions) gt j; sets = beside n (map of_registration st.registrations) (map of_set st.sets) gs j })
    go false false true d i j k l rg rt rs gt gs ts same = let is : rank.Transaction ≡ r = cc (same) in subst (HasRank st n) is (record { rows = i; registrations = j; transactions = k; sets = beside n (map of_transaction st.transactions) (map of_set st.sets) ts k })
    go false false false true i j k l rg rt rs gt gs ts same = let is : rank.MatchSet ≡ r = cc (same) in subst (HasRank st n) is (record { rows = i; registrations = j; transactions = k; sets = l })
    go false false false false i j k l rg rt rs gt gs ts same = absurd (cc)

-- ---- each rank

living_there : (st : State) (n : ℕ) → is_living st n ≡ has (map of_transaction st.transactions) n
living_there st n = found_any (λ (t : Transaction). t.number == n) st.transactions ∙ sym (any_map (λ p. p.0 == n) of_transaction st.transactions)

-- the number is no transaction's
no_transaction : (st : State) (n : ℕ) → is_living st n ≡ false → (e : ℕ) → is_living st e ≡ (is_living st e && not (e == n))
no_transaction st n h e = go (is_living st e) refl (e == n) refl
  where
    go : (a : Bool) → is_living st e ≡ a → (b : Bool) → (e == n) ≡ b → a ≡ (a && not b)
    go true k true l = let same : e ≡ n = eqb-true e n l in absurd (true≢false (sym k ∙ ap (is_living st) same ∙ h))
    go true k false l = refl
    go false k b l = refl

without_transaction : (ts : List Transaction) (n e : ℕ) → is_some (find (λ t. t.number == e) (filter (λ t. not (t.number == n)) ts)) ≡ (is_some (find (λ t. t.number == e) ts) && not (e == n))
without_transaction [] n e = refl
without_transaction (t ∷ ts) n e = go (t.number == n) refl (t.number == e) refl (without_transaction ts n e)
  where
    go : (b : Bool) → (t.number == n) ≡ b → (c : Bool) → (t.number == e) ≡ c
        → is_some (find (λ t. t.number == e) (filter (λ t. not (t.number == n)) ts)) ≡ (is_some (find (λ t. t.number == e) ts) && not (e == n))
        → is_some (find (λ t. t.number == e) (cond (not b) (t ∷ filter (λ t. not (t.number == n)) ts) (filter (λ t. not (t.number == n)) ts))) ≡ (is_some (cond c (Some t) (find (λ t. t.number == e) ts)) && not (e == n))
    go true k true l rest =
        let one = eqb-true t.number n k in
        let two = eqb-true t.number e l in
        let same : (e == n) ≡ true = eq-eqb e n (sym two ∙ one) in
        rest ∙ ap (λ b. is_some (find (λ t. t.number == e) ts) && not b) same ∙ and_right (is_some (find (λ t. t.number == e) ts)) false refl ∙ sym (ap not same)
    go true k false l rest = rest
    go false k true l rest =
        let two = eqb-true t.number e l in
        let other : (e == n) ≡ false = ap (λ m. m == n) (sym two) ∙ k in
        ap (λ b. is_some (cond b (Some t) (find (λ t. t.number == e) (filter (λ t. not (t.number == n)) ts)))) l ∙ sym (ap not other)
    go false k false l rest = ap (λ b. is_some (cond b (Some t) (find (λ t. t.number == e) (filter (λ t. not (t.number == n)) ts)))) l ∙ rest

no_commit : (cs : List Commit) (n : ℕ) → is_some (find (λ c. c.transaction == n) cs) ≡ false → filter (λ c. not (c.transaction == n)) cs ≡ cs
no_commit [] n h = refl
no_commit (c ∷ cs) n h = go (c.transaction == n) h (no_commit cs n)
  where
    go : (b : Bool) → is_some (cond b (Some c) (find (λ c. c.transaction == n) cs)) ≡ false
        → (is_some (find (λ c. c.transaction == n) cs) ≡ false → filter (λ c. not (c.transaction == n)) cs ≡ cs)
        → cond (not b) (c ∷ filter (λ c. not (c.transaction == n)) cs) (filter (λ c. not (c.transaction == n)) cs) ≡ c ∷ cs
    go true k rest = absurd (cc)
    go false k rest = ap (λ w. c ∷ w) (rest k)

-- an abort's marks don't show
unmarked : (x : ℕ) (rows : List Row) → map of_row (map (unread x) (update (λ row. is_caller row.taker x) (λ (row : Row). record row { taker = None }) rows)) ≡ map of_row rows
unmarked x [] = refl
unmarked x (r ∷ rows) = ap (λ p. p ∷ map of_row (map (unread x) (update (λ row. is_caller row.taker x) (λ (row : Row). record row { taker = None }) rows))) (go (is_caller r.taker x)) ∙ ap (λ w. of_row r ∷ w) (unmarked x rows)
  where
    go : (b : Bool) → of_row (unread x (cond b (record r { taker = None }) r)) ≡ of_row r
    go true = refl
    go false = refl

-- under the transaction that falls
under : (b c : Bool) → b ≡ false → not c ≡ not (b || c && true)
under true c e = absurd (cc)
under false true e = refl
under false false e = refl

removed : (st : State) (n : ℕ) (r : Rank) → HasRank st n r → is_voting st n ≡ false → Without n (is_living st n) st (remove st r n)
removed st n rank.Entry h v =
    let lives = living_there st n ∙ h.transactions in
    subst (λ b. Without n b st (remove st rank.Entry n)) (sym lives) (record {
      left = together n false st (remove st rank.Entry n)
          (dropped n false of_row (λ r. and_right (is_caller r.writer n) false refl) st.rows)
          (untouched n (map of_registration st.registrations) h.registrations)
          (untouched n (map of_transaction st.transactions) h.transactions)
          (untouched n (map of_set st.sets) h.sets);
      living = no_transaction st n lives;
      voting = λ e. refl;
    })
removed st n rank.Registration h v =
    let lives = living_there st n ∙ h.transactions in
    subst (λ b. Without n b st (remove st rank.Registration n)) (sym lives) (record {
      left = together n false st (remove st rank.Registration n)
          (untouched n (map of_row st.rows) h.rows)
          (dropped n false of_registration (λ r. and_right (is_caller r.transaction n) false refl) st.registrations)
          (untouched n (map of_transaction st.transactions) h.transactions)
          (untouched n (map of_set st.sets) h.sets);
      living = no_transaction st n lives;
      voting = λ e. refl;
    })
removed st n rank.Transaction h v =
    let lives = living_there st n ∙ h.transactions in
    subst (λ b. Without n b st (remove st rank.Transaction n)) (sym lives) (record {
      left = together n true st (remove st rank.Transaction n)
          (unmarked n (filter (λ row. not (is_caller row.writer n)) st.rows) ∙ kept n true of_row (λ row. not (is_caller row.writer n)) (λ row. under (row.number == n) (is_caller row.writer n)) st.rows h.rows)
          (kept n true of_registration (λ r. not (is_caller r.transaction n)) (λ r. under (r.number == n) (is_caller r.transaction n)) st.registrations h.registrations)
          (dropped n true of_transaction (λ t. refl) st.transactions)
          (kept n true of_set (λ m. not (is_caller m.transaction n)) (λ m. under (m.number == n) (is_caller m.transaction n)) st.sets h.sets);
      living = without_transaction st.transactions n;
      voting = λ e. ap (λ (cs : List Commit). is_some (find (λ c. c.transaction == e) cs)) (no_commit st.commits n v);
    })
removed st n rank.Blocked h v = absurd h
removed st n rank.MatchSet h v =
    let lives = living_there st n ∙ h.transactions in
    subst (λ b. Without n b st (remove st rank.MatchSet n)) (sym lives) (record {
      left = together n false st (remove st rank.MatchSet n)
          (untouched n (map of_row st.rows) h.rows)
          (untouched n (map of_registration st.registrations) h.registrations)
          (untouched n (map of_transaction st.transactions) h.transactions)
          (dropped n false of_set (λ m. and_right (is_caller m.transaction n) false refl) st.sets);
      living = no_transaction st n lives;
      voting = λ e. refl;
    })

-- one item of a batch, which is cancelled or not
record Cancelled (n : ℕ) (is : Bool) (was now : State) : Type 0 where
  left : things now ≡ filter (λ p. not (is && falls n (is_living was n) p)) (things was)
  living : (e : ℕ) → is_living now e ≡ (is_living was e && not (is && e == n))
  voting : (e : ℕ) → is_voting now e ≡ is_voting was e

and_true : (b : Bool) → b ≡ (b && true)
and_true true = refl
and_true false = refl

not_cancelled : (st : State) (n : ℕ) → Cancelled n false st st
not_cancelled st n = record { left = sym (filter_all (things st)); living = λ e. and_true (is_living st e); voting = λ e. refl }

cancelled : (st : State) (lease : ℤ) → AreApart st → Cancelled (named lease) (is_cancellable st (named lease)) st (cancel_one st lease)
cancelled st lease apart = go (rank_of st (named lease)) refl (is_voting st (named lease)) refl
  where
    go : (o : Option Rank) → rank_of st (named lease) ≡ o → (v : Bool) → is_voting st (named lease) ≡ v
        → Cancelled (named lease) (is_some o && not v) st (cond (is_some (cond (is_none o) (Some UnknownLease) (cond v (Some NotActive) None))) st (option_map_or (λ r. remove st r (named lease)) o st))
    go None e v k = not_cancelled st (named lease)
    go (Some r) e true k = not_cancelled st (named lease)
    go (Some r) e false k =
        let w = removed st (named lease) r (has_rank st (named lease) r apart e) k in
        record { left = w.left; living = w.living; voting = w.voting }

-- ---- several, one after another

abbrev falls_by : State → ℤ → Thing → Bool
falls_by st lease p = is_cancellable st (named lease) && falls (named lease) (is_living st (named lease)) p

abbrev ended : State → List ℤ → Thing → Bool
ended st leases p = is_ended st leases p.0 p.1

still_apart : (st : State) (lease : ℤ) → AreApart st → AreApart (cancel_one st lease)
still_apart st lease apart n =
    let p : Thing → Bool = λ p. p.0 == n in
    let few = count_fewer p (λ q. not (falls_by st lease q)) (things st) in
    let left = ap (count n) (cancelled st lease apart).left in
    let most = apart n in
    omega (arith, few, left, most)

-- what doesn't fall is there afterwards
there : (a : Thing → Bool) (xs : List Thing) → Each (λ p. a p ≡ false → has (filter (λ q. not (a q)) xs) p.0 ≡ true) xs
unfolding Each
there a [] = tt
there a (p ∷ xs) = (λ e. first (a p) e, each_from (λ q. a q ≡ false → has (filter (λ q. not (a q)) xs) q.0 ≡ true) (λ q. a q ≡ false → has (filter (λ q. not (a q)) xs) q.0 ≡ true) (λ q. a q ≡ false → has (filter (λ q. not (a q)) (p ∷ xs)) q.0 ≡ true) (λ q h k e. more q (a p) (h e)) xs (there a xs) (there a xs))
  where
    first : (b : Bool) → b ≡ false → has (cond (not b) (p ∷ filter (λ q. not (a q)) xs) (filter (λ q. not (a q)) xs)) p.0 ≡ true
    first true e = absurd (cc)
    first false e = let same : (p.0 == p.0) ≡ true = eq-eqb p.0 p.0 refl in rw same refl

    more : (q : Thing) (b : Bool) → has (filter (λ q. not (a q)) xs) q.0 ≡ true → has (cond (not b) (p ∷ filter (λ q. not (a q)) xs) (filter (λ q. not (a q)) xs)) q.0 ≡ true
    more q true h = h
    more q false h = or_right (p.0 == q.0) (has (filter (λ q. not (a q)) xs) q.0) h

-- a later lease ends what is left in the state after one cancellation where it does in the state before
ends_alike : (st : State) (lease : ℤ) (p : Thing) → AreApart st → falls_by st lease p ≡ false → has (things (cancel_one st lease)) p.0 ≡ true → has (things st) p.0 ≡ true
    → (later : ℤ) → falls_by (cancel_one st lease) later p ≡ falls_by st later p
ends_alike st lease p apart stands now was later =
    let k = cancel_one st lease in
    let e = named later in
    let one = cancelled st lease apart in
    alike (p.0 == e) (is_caller p.1 e) (is_some (rank_of k e)) (is_some (rank_of st e)) (is_living k e) (is_living st e) (is_voting k e) (is_voting st e) (one.voting e)
    (λ h. named_there k e ∙ ap (has (things k)) (sym (eqb-true p.0 e h)) ∙ now)
    (λ h. named_there st e ∙ ap (has (things st)) (sym (eqb-true p.0 e h)) ∙ was)
    (λ h. one.living e ∙ lives (is_living st e) refl h)
    (lives_named k e)
    (lives_named st e)
  where
    alike : (number caller some_now some_was lives_now lives_was votes_now votes_was : Bool) → votes_now ≡ votes_was
        → (number ≡ true → some_now ≡ true) → (number ≡ true → some_was ≡ true)
        → (caller ≡ true → lives_now ≡ lives_was) → (lives_now ≡ true → some_now ≡ true) → (lives_was ≡ true → some_was ≡ true)
        → ((some_now && not votes_now) && (number || caller && lives_now)) ≡ ((some_was && not votes_was) && (number || caller && lives_was))
    alike true c sn sw ln lw vn vw v a b f g h = ap (λ w. (w && not vn) && true) (a refl) ∙ ap (λ w. not w && true) v ∙ sym (ap (λ w. (w && not vw) && true) (b refl))
    alike false true sn sw ln true vn vw v a b f g h =
        let l = f refl in
        ap (λ w. (w && not vn) && ln) (g l) ∙ ap (λ w. not vn && w) l ∙ ap (λ w. not w && true) v ∙ sym (ap (λ w. (w && not vw) && true) (h refl))
    alike false true sn sw ln false vn vw v a b f g h = ap (λ w. (sn && not vn) && w) (f refl) ∙ and_right (sn && not vn) false refl ∙ sym (and_right (sw && not vw) false refl)
    alike false false sn sw ln lw vn vw v a b f g h = and_right (sn && not vn) false refl ∙ sym (and_right (sw && not vw) false refl)

    lives_named : (s : State) (e : ℕ) → is_living s e ≡ true → is_some (rank_of s e) ≡ true
    lives_named s e h = go (list_any (λ r. r.number == e) s.rows) (list_any (λ r. r.number == e) s.registrations) (is_living s e) h
      where
        go : (a b c : Bool) → c ≡ true → is_some (ranks a b c (list_any (λ m. m.number == e) s.sets)) ≡ true
        go true b c h = refl
        go false true c h = refl
        go false false true h = refl
        go false false false h = absurd (cc)

    -- the transaction that the thing is under isn't the one that fell
    lives : (b : Bool) → is_living st (named later) ≡ b → is_caller p.1 (named later) ≡ true → (b && not (is_cancellable st (named lease) && named later == named lease)) ≡ b
    lives false k c = refl
    lives true k c = go (is_cancellable st (named lease)) refl (named later == named lease) refl
      where
        go : (a : Bool) → is_cancellable st (named lease) ≡ a → (d : Bool) → (named later == named lease) ≡ d → not (a && d) ≡ true
        go true i true j =
            let same = eqb-true (named later) (named lease) j in
            let under : is_caller p.1 (named lease) ≡ true = ap (is_caller p.1) (sym same) ∙ c in
            let living : is_living st (named lease) ≡ true = ap (is_living st) (sym same) ∙ k in
            let fell : falls_by st lease p ≡ true =
            ap (λ w. w && (p.0 == named lease || is_caller p.1 (named lease) && is_living st (named lease))) i
            ∙ or_right (p.0 == named lease) (is_caller p.1 (named lease) && is_living st (named lease)) (ap (λ w. w && is_living st (named lease)) under ∙ living) in
            absurd (true≢false (sym fell ∙ stands))
        go true i false j = refl
        go false i d j = refl

all_end_alike : (st : State) (lease : ℤ) (p : Thing) → AreApart st → falls_by st lease p ≡ false → has (things (cancel_one st lease)) p.0 ≡ true → has (things st) p.0 ≡ true
    → (leases : List ℤ) → ended (cancel_one st lease) leases p ≡ ended st leases p
all_end_alike st lease p apart stands now was [] = refl
all_end_alike st lease p apart stands now was (later ∷ leases) =
    ap (λ b. b || ended (cancel_one st lease) leases p) (ends_alike st lease p apart stands now was later)
    ∙ ap (λ b. falls_by st later p || b) (all_end_alike st lease p apart stands now was leases)

-- what is left once these leases were cancelled
record Left (leases : List ℤ) (was now : State) : Type 0 where
  left : things now ≡ filter (λ p. not (ended was leases p)) (things was)
  voting : (e : ℕ) → is_voting now e ≡ is_voting was e

what_is_left : (st : State) (leases : List ℤ) → AreApart st → Left leases st (fold cancel_one st leases)
unfolding Each
what_is_left st [] apart = record { left = sym (filter_all (things st)); voting = λ e. refl }
what_is_left st (l ∷ leases) apart =
    let k = cancel_one st l in
    let one = cancelled st l apart in
    let rest = what_is_left k leases (still_apart st l apart) in
    let now = there (falls_by st l) (things st) in
    let was = there (λ p. false) (things st) in
    let agree : Each (λ p. falls_by st l p ≡ false → ended k leases p ≡ ended st leases p) (things st) =
    each_from (λ p. falls_by st l p ≡ false → has (filter (λ q. not (falls_by st l q)) (things st)) p.0 ≡ true) (λ p. false ≡ false → has (filter (λ q. true) (things st)) p.0 ≡ true) (λ p. falls_by st l p ≡ false → ended k leases p ≡ ended st leases p)
    (λ p n w e. all_end_alike st l p apart e (ap (λ xs. has xs p.0) one.left ∙ n e) (sym (ap (λ xs. has xs p.0) (filter_all (things st))) ∙ w refl) leases)
    (things st) now was in
    record {
      left = rest.left ∙ ap (filter (λ p. not (ended k leases p))) one.left ∙ filter_twice (falls_by st l) (ended k leases) (ended st leases) (things st) agree;
      voting = λ e. rest.voting e ∙ one.voting e;
    }

-- ---- answers

-- A lease of a batch is answered by what the state before the batch says of it and of the leases before it.
pub cancel_answer_alike : (st : State) (earlier : List ℤ) (lease : ℤ) → ((n : ℕ) → bearers st n ≤ 1)
    → cancel_answer (fold cancel_one st earlier) lease ≡ record { lease = lease; outcome = cancel_outcome st earlier lease }
cancel_answer_alike st earlier lease numbers =
    let n = named lease in
    let now = fold cancel_one st earlier in
    let after = what_is_left st earlier (apart_numbers st numbers) in
    let left : is_some (rank_of now n) ≡ still_names st earlier n =
    named_there now n
    ∙ ap (λ xs. has xs n) after.left
    ∙ any_filter (λ p. p.0 == n) (λ p. not (ended st earlier p)) (things st)
    ∙ any_thing (λ p. p.0 == n && not (ended st earlier p)) st in
    ap (λ o. record { lease = lease; outcome = o }) (told (rank_of now n) (is_voting now n) ∙ ap (λ b. outcomes b (is_voting now n)) left ∙ ap (λ b. outcomes (still_names st earlier n) b) (after.voting n))
  where
    outcomes : Bool → Bool → LeaseOutcome
    outcomes left votes = cond (not left) (outcome.Refused UnknownLease) (cond votes (outcome.Refused NotActive) outcome.Cancelled)

    told : (r : Option Rank) (votes : Bool) → outcome_of (first_that ((is_none r, UnknownLease) ∷ (votes, NotActive) ∷ [])) outcome.Cancelled ≡ outcomes (is_some r) votes
    told None votes = refl
    told (Some r) true = refl
    told (Some r) false = refl

-- so a batch is answered lease by lease, before any is cancelled
pub cancel_answers_more : (st : State) (earlier : List ℤ) (lease : ℤ) → ((n : ℕ) → bearers st n ≤ 1)
    → scan cancel_one cancel_answer st (earlier ++ lease ∷ []) ≡ scan cancel_one cancel_answer st earlier ++ record { lease = lease; outcome = cancel_outcome st earlier lease } ∷ []
cancel_answers_more st earlier lease numbers = from st earlier ∙ ap (λ a. scan cancel_one cancel_answer st earlier ++ a ∷ []) (cancel_answer_alike st earlier lease numbers)
  where
    from : (st : State) (earlier : List ℤ) → scan cancel_one cancel_answer st (earlier ++ lease ∷ []) ≡ scan cancel_one cancel_answer st earlier ++ cancel_answer (fold cancel_one st earlier) lease ∷ []
    from st [] = refl
    from st (l ∷ earlier) = ap (λ w. cancel_answer st l ∷ w) (from (cancel_one st l) earlier)
