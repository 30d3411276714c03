-- What a change of the elements of a list keeps of the limits.
use Rattle.std.proofs.Common.{◌≡◌, ℕ, ◌+◌, ◌≤◌, true, List, length, Option, refl, sym, arith}
use Rattle.std.specs.Prelude.{filter, ◌==◌}
use Rattle.std.proofs.lemmas.Bool.{lt-ltb, ltb-true}
use Rattle.jsp_model.specs.declared.state.State.{State}
use Rattle.jsp_model.specs.declared.state.Session.{Session}
use Rattle.jsp_model.specs.declared.state.Row.{Row}
use Rattle.jsp_model.specs.declared.state.Registration.{Registration}
use Rattle.jsp_model.specs.declared.state.Blocked.{Blocked}
use Rattle.jsp_model.specs.declared.state.Transaction.{Transaction}
use Rattle.jsp_model.specs.declared.state.Commit.{Commit}
use Rattle.jsp_model.specs.declared.state.MatchSet.{MatchSet}
use Rattle.jsp_model.specs.Limits.{is_row, is_registration, is_blocked, is_transaction, is_set, is_hidden_from, is_sequence, AreSessions, AreRows, AreRegistrations, AreBlocked, AreTransactions, AreSets, IsWithinLimits}
use Rattle.jsp_limits.proofs.Lists.{apart_fewer, Fewer, fewer_same, length_fewer, all_fewer, count_fewer, rising_fewer}

-- ---- an element after a change

pub record SessionAfter (k l : Session) : Type 0 where
  pub number : l.number ≡ k.number

pub record RowAfter (spaces : ℕ) (r q : Row) : Type 0 where
  pub number : q.number ≡ r.number
  pub space : q.space ≡ r.space
  pub fits : is_row spaces r ≡ true → is_row spaces q ≡ true
  pub hidden : (caller : Option ℕ) → is_hidden_from caller q ≡ true → is_hidden_from caller r ≡ true

-- it may be owed so many rows more
pub record RegistrationAfter (spaces more : ℕ) (r q : Registration) : Type 0 where
  pub number : q.number ≡ r.number
  pub transaction : q.transaction ≡ r.transaction
  pub fits : is_registration spaces r ≡ true → is_registration spaces q ≡ true
  pub told : q.sequence + length q.owed ≤ r.sequence + length r.owed + more

pub record BlockedAfter (b d : Blocked) : Type 0 where
  pub is : d ≡ b

pub record TransactionAfter (spaces : ℕ) (t u : Transaction) : Type 0 where
  pub number : u.number ≡ t.number
  pub fits : is_transaction spaces t ≡ true → is_transaction spaces u ≡ true

pub record CommitAfter (c d : Commit) : Type 0 where
  pub is : d ≡ c

pub record SetAfter (spaces : ℕ) (m n : MatchSet) : Type 0 where
  pub number : n.number ≡ m.number
  pub fits : is_set spaces m ≡ true → is_set spaces n ≡ true

pub session_same : (k : Session) → SessionAfter k k
session_same k = record { number = refl }

pub row_same : (spaces : ℕ) (r : Row) → RowAfter spaces r r
row_same spaces r = record { number = refl; space = refl; fits = λ e. e; hidden = λ caller e. e }

pub registration_same : (spaces : ℕ) (r : Registration) → RegistrationAfter spaces 0 r r
registration_same spaces r = record { number = refl; transaction = refl; fits = λ e. e; told = omega arith }

pub blocked_same : (b : Blocked) → BlockedAfter b b
blocked_same b = record { is = refl }

pub transaction_same : (spaces : ℕ) (t : Transaction) → TransactionAfter spaces t t
transaction_same spaces t = record { number = refl; fits = λ e. e }

pub commit_same : (c : Commit) → CommitAfter c c
commit_same c = record { is = refl }

pub set_same : (spaces : ℕ) (m : MatchSet) → SetAfter spaces m m
set_same spaces m = record { number = refl; fits = λ e. e }

-- ---- lists after a change

pub sessions_after : (last : ℕ) (xs ys : List Session) → AreSessions last xs → Fewer SessionAfter xs ys → AreSessions last ys
sessions_after last xs ys h f = record { most = h.most; rising = rising_fewer (λ (k : Session). k.number) (λ k l r. r.number) f 0 (last + 1) h.rising }

pub rows_after : (spaces next : ℕ) (xs ys : List Row) → AreRows spaces next xs → Fewer (RowAfter spaces) xs ys → AreRows spaces next ys
rows_after spaces next xs ys h f = record {
  rising = rising_fewer (λ (r : Row). r.number) (λ r q k. k.number) f 0 next h.rising;
  each = all_fewer (is_row spaces) (is_row spaces) (λ r q k. k.fits) f h.each;
  in_space = λ space. (let few = count_fewer (λ (r : Row). r.space == space) (λ r q k e. rw (sym k.space) e) f in omega (arith, few, h.in_space space));
}

pub registrations_after : (spaces more next : ℕ) (xs ys : List Registration) → AreRegistrations spaces next xs → Fewer (RegistrationAfter spaces more) xs ys → AreRegistrations spaces next ys
registrations_after spaces more next xs ys h f = record {
  rising = rising_fewer (λ (r : Registration). r.number) (λ r q k. k.number) f 0 next h.rising;
  each = all_fewer (is_registration spaces) (is_registration spaces) (λ r q k. k.fits) f h.each;
  count = omega (arith, length_fewer f, h.count);
}

pub blocked_after : (spaces next : ℕ) (xs ys : List Blocked) → AreBlocked spaces next xs → Fewer BlockedAfter xs ys → AreBlocked spaces next ys
blocked_after spaces next xs ys h f = record {
  rising = rising_fewer (λ (b : Blocked). b.number) (λ b d k. rw k.is refl) f 0 next h.rising;
  each = all_fewer (is_blocked spaces) (is_blocked spaces) (λ b d k e. rw k.is e) f h.each;
}

pub transactions_after : (spaces next : ℕ) (xs ys : List Transaction) → AreTransactions spaces next xs → Fewer (TransactionAfter spaces) xs ys → AreTransactions spaces next ys
transactions_after spaces next xs ys h f = record {
  rising = rising_fewer (λ (t : Transaction). t.number) (λ t u k. k.number) f 0 next h.rising;
  each = all_fewer (is_transaction spaces) (is_transaction spaces) (λ t u k. k.fits) f h.each;
  count = omega (arith, length_fewer f, h.count);
}

pub sets_after : (spaces next : ℕ) (xs ys : List MatchSet) → AreSets spaces next xs → Fewer (SetAfter spaces) xs ys → AreSets spaces next ys
sets_after spaces next xs ys h f = record {
  rising = rising_fewer (λ (m : MatchSet). m.number) (λ m n k. k.number) f 0 next h.rising;
  each = all_fewer (is_set spaces) (is_set spaces) (λ m n k. k.fits) f h.each;
  count = omega (arith, length_fewer f, h.count);
}

-- ---- a state after a change that adds nothing

pub record After (st : State) (sessions : List Session) (rows : List Row) (registrations : List Registration) (blocked : List Blocked) (transactions : List Transaction) (commits : List Commit) (sets : List MatchSet) : Type 0 where
  pub of_sessions : Fewer SessionAfter st.sessions sessions
  pub of_rows : Fewer (RowAfter (length st.spaces)) st.rows rows
  pub of_registrations : Fewer (RegistrationAfter (length st.spaces) 0) st.registrations registrations
  pub of_blocked : Fewer BlockedAfter st.blocked blocked
  pub of_transactions : Fewer (TransactionAfter (length st.spaces)) st.transactions transactions
  pub of_commits : Fewer CommitAfter st.commits commits
  pub of_sets : Fewer (SetAfter (length st.spaces)) st.sets sets

-- lists that stay as they are
pub sessions_stay : (st : State) → Fewer SessionAfter st.sessions st.sessions
sessions_stay st = fewer_same session_same st.sessions

pub rows_stay : (st : State) → Fewer (RowAfter (length st.spaces)) st.rows st.rows
rows_stay st = fewer_same (row_same (length st.spaces)) st.rows

pub registrations_stay : (st : State) → Fewer (RegistrationAfter (length st.spaces) 0) st.registrations st.registrations
registrations_stay st = fewer_same (registration_same (length st.spaces)) st.registrations

pub blocked_stay : (st : State) → Fewer BlockedAfter st.blocked st.blocked
blocked_stay st = fewer_same blocked_same st.blocked

pub transactions_stay : (st : State) → Fewer (TransactionAfter (length st.spaces)) st.transactions st.transactions
transactions_stay st = fewer_same (transaction_same (length st.spaces)) st.transactions

pub commits_stay : (st : State) → Fewer CommitAfter st.commits st.commits
commits_stay st = fewer_same commit_same st.commits

pub sets_stay : (st : State) → Fewer (SetAfter (length st.spaces)) st.sets st.sets
sets_stay st = fewer_same (set_same (length st.spaces)) st.sets

pub after_change : (st : State) (sessions : List Session) (rows : List Row) (registrations : List Registration) (blocked : List Blocked) (transactions : List Transaction) (commits : List Commit) (sets : List MatchSet)
    → After st sessions rows registrations blocked transactions commits sets → IsWithinLimits st
    → IsWithinLimits (record st { sessions = sessions; rows = rows; registrations = registrations; blocked = blocked; transactions = transactions; commits = commits; sets = sets })
after_change st sessions rows registrations blocked transactions commits sets f h =
    let n = length st.spaces in
    record {
      classes = h.classes;
      spaces = h.spaces;
      sessions = sessions_after st.last_session st.sessions sessions h.sessions f.of_sessions;
      time = h.time;
      next_number = h.next_number;
      rows = rows_after n st.next_number st.rows rows h.rows f.of_rows;
      registrations = registrations_after n 0 st.next_number st.registrations registrations h.registrations f.of_registrations;
      sequences = all_fewer (is_sequence st.next_number st.rows) (is_sequence st.next_number rows) (λ r q k e.
          (let few = count_fewer (is_hidden_from r.transaction) (λ x y w. w.hidden r.transaction) f.of_rows in
          let was = ltb-true (r.sequence + length r.owed + length (filter (is_hidden_from r.transaction) st.rows)) st.next_number e in
          let told = k.told in
          rw k.transaction (lt-ltb (q.sequence + length q.owed + length (filter (is_hidden_from r.transaction) rows)) st.next_number (omega (arith, few, was, told)))))
          f.of_registrations h.sequences;
      blocked = blocked_after n st.next_number st.blocked blocked h.blocked f.of_blocked;
      transactions = transactions_after n st.next_number st.transactions transactions h.transactions f.of_transactions;
      sets = sets_after n st.next_number st.sets sets h.sets f.of_sets;
      commits = apart_fewer (λ (c : Commit). c.transaction) (λ c d k. rw k.is refl) f.of_commits h.commits;
      waiting = λ s.
          (let b = count_fewer (λ (b : Blocked). b.session == s) (λ x y k e. rw (sym k.is) e) f.of_blocked in
          let c = count_fewer (λ (c : Commit). c.session == s) (λ x y k e. rw (sym k.is) e) f.of_commits in
          omega (arith, b, c, h.waiting s));
      numbers = λ i.
          (let r = count_fewer (λ (r : Row). r.number == i) (λ x y k e. rw (sym k.number) e) f.of_rows in
          let g = count_fewer (λ (r : Registration). r.number == i) (λ x y k e. rw (sym k.number) e) f.of_registrations in
          let b = count_fewer (λ (b : Blocked). b.number == i) (λ x y k e. rw (sym k.is) e) f.of_blocked in
          let t = count_fewer (λ (t : Transaction). t.number == i) (λ x y k e. rw (sym k.number) e) f.of_transactions in
          let m = count_fewer (λ (m : MatchSet). m.number == i) (λ x y k e. rw (sym k.number) e) f.of_sets in
          omega (arith, r, g, b, t, m, h.numbers i));
      outboxes = h.outboxes;
    }
