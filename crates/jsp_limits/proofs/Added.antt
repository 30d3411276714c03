-- A thing that is added, with the next number, keeps the limits.
use Rattle.std.proofs.Common.{◌≡◌, ℕ, ◌+◌, ◌<◌, ◌≤◌, ◌^◌, Bool, true, false, List, [], ◌∷◌, ◌++◌, map, length, Option, Some, None, refl, ap, sym, ◌∙◌, subst, arith, eqb-true}
use Rattle.std.specs.Prelude.{filter, ◌&&◌, ◌==◌, cond}
use Rattle.std.specs.List.{list_all}
use Rattle.std.proofs.lemmas.Bool.{and_parts, and_from, lt-ltb, ltb-true}
use Rattle.jsp_types.specs.Matching.{matches}
use Rattle.jsp_model.specs.declared.state.State.{State}
use Rattle.jsp_model.specs.declared.state.Row.{Row}
use Rattle.jsp_model.specs.declared.state.Registration.{Registration}
use Rattle.jsp_model.specs.declared.state.Blocked.{Blocked}
use Rattle.jsp_model.specs.declared.state.Transaction.{Transaction}
use Rattle.jsp_model.specs.declared.state.Commit.{Commit}
use Rattle.jsp_model.specs.declared.state.MatchSet.{MatchSet}
use Rattle.jsp_model.specs.Lookup.{is_voting, update, waiting_count}
use Rattle.jsp_model.specs.Changes.{hears, add_row, block}
use Rattle.jsp_model.specs.Limits.{is_row, is_registration, is_blocked, is_transaction, is_set, is_hidden_from, is_sequence, bearers, IsWithinLimits}
use Rattle.jsp_limits.proofs.Lists.{apart_push, Fewer, fewer_same, fewer_update, all_fewer, count_fewer, rising_higher, rising_push, rising_length, count_below, one_if, count_push, count_all, all_push, length_push}
use Rattle.jsp_limits.proofs.Kept.{RegistrationAfter, registrations_after}

-- ---- a number is drawn

sequence_higher : (next : ℕ) (rows : List Row) (rs : List Registration) → list_all (is_sequence next rows) rs ≡ true → list_all (is_sequence (next + 1) rows) rs ≡ true
sequence_higher next rows rs h =
    all_fewer {R = λ r q. q ≡ r} (is_sequence next rows) (is_sequence (next + 1) rows) (λ r q e k.
    (let was = ltb-true (r.sequence + length r.owed + length (filter (is_hidden_from r.transaction) rows)) next k in
    rw e (lt-ltb (r.sequence + length r.owed + length (filter (is_hidden_from r.transaction) rows)) (next + 1) (omega (arith, was)))))
    (fewer_same (λ r. refl) rs) h

pub drawn : (st : State) → IsWithinLimits st → st.next_number < 2 ^ 62 + 1 → IsWithinLimits (record st { next_number = st.next_number + 1 })
drawn st h left =
    let more : st.next_number ≤ st.next_number + 1 = omega arith in
    record {
      classes = h.classes;
      spaces = h.spaces;
      sessions = h.sessions;
      time = h.time;
      next_number = omega (arith, left);
      rows = record { rising = rising_higher 0 st.next_number (st.next_number + 1) (map (λ (r : Row). r.number) st.rows) more h.rows.rising; each = h.rows.each; in_space = h.rows.in_space };
      registrations = record { rising = rising_higher 0 st.next_number (st.next_number + 1) (map (λ (r : Registration). r.number) st.registrations) more h.registrations.rising; each = h.registrations.each; count = h.registrations.count };
      sequences = sequence_higher st.next_number st.rows st.registrations h.sequences;
      blocked = record { rising = rising_higher 0 st.next_number (st.next_number + 1) (map (λ (b : Blocked). b.number) st.blocked) more h.blocked.rising; each = h.blocked.each };
      transactions = record { rising = rising_higher 0 st.next_number (st.next_number + 1) (map (λ (t : Transaction). t.number) st.transactions) more h.transactions.rising; each = h.transactions.each; count = h.transactions.count };
      sets = record { rising = rising_higher 0 st.next_number (st.next_number + 1) (map (λ (m : MatchSet). m.number) st.sets) more h.sets.rising; each = h.sets.each; count = h.sets.count };
      commits = h.commits;
      waiting = h.waiting;
      numbers = h.numbers;
      outboxes = h.outboxes;
    }

-- nothing has the next number
pub is_new : (st : State) → IsWithinLimits st → bearers st st.next_number ≡ 0
is_new st h =
    let n = st.next_number in
    let le : n ≤ n = omega arith in
    omega (
      arith,
      count_below (λ (r : Row). r.number) 0 n n st.rows le h.rows.rising,
      count_below (λ (r : Registration). r.number) 0 n n st.registrations le h.registrations.rising,
      count_below (λ (b : Blocked). b.number) 0 n n st.blocked le h.blocked.rising,
      count_below (λ (t : Transaction). t.number) 0 n n st.transactions le h.transactions.rising,
      count_below (λ (m : MatchSet). m.number) 0 n n st.sets le h.sets.rising,
    )

-- so with one more thing of that number none stands twice
borne_at : (st : State) (number n : ℕ) (b : Bool) → (number == n) ≡ b → number ≡ st.next_number → IsWithinLimits st → bearers st n + one_if b ≤ 1
borne_at st number n true e is h =
    let same : st.next_number ≡ n = sym is ∙ eqb-true number n e in
    let none : bearers st n ≡ 0 = subst (λ i. bearers st i ≡ 0) same (is_new st h) in
    omega (arith, none)
borne_at st number n false e is h = omega (arith, h.numbers n)

borne : (st : State) (number n : ℕ) → number ≡ st.next_number → IsWithinLimits st → bearers st n + one_if (number == n) ≤ 1
borne st number n is h = borne_at st number n (number == n) refl is h

-- ---- a row, and what registrations are owed by it

abbrev told_of : State → Row → Registration → Bool
told_of st row r = hears row.writer r && r.space == row.space && matches st.classes r.template row.entry

abbrev owing : Row → Registration → Registration
owing row r = record r { owed = r.owed ++ row.number ∷ [] }

pub owing_after : (spaces : ℕ) (row : Row) (r : Registration) → RegistrationAfter spaces 1 r (owing row r)
owing_after spaces row r = record { number = refl; transaction = refl; fits = λ e. e; told = omega (arith, length_push r.owed row.number) }

pub same_or_more : (spaces more : ℕ) (r : Registration) → RegistrationAfter spaces more r r
same_or_more spaces more r = record { number = refl; transaction = refl; fits = λ e. e; told = omega arith }

-- what hears of a row at once isn't to hear of it later
seen_by : (writer : Option ℕ) (r : Registration) → hears writer r ≡ true → (row : Row) → row.writer ≡ writer → is_hidden_from r.transaction row ≡ false
seen_by None r e row w = rw w refl
seen_by (Some x) r e row w = rw (w, e) refl

owed_one : (next : ℕ) (st : State) (row : Row) (r : Registration) (b : Bool) → told_of st row r ≡ b → is_sequence next st.rows r ≡ true → is_sequence (next + 1) (st.rows ++ row ∷ []) (cond b (owing row r) r) ≡ true
owed_one next st row r true e h =
    let wanted = and_parts (hears row.writer r && r.space == row.space) (matches st.classes r.template row.entry) e in
    let heard = and_parts (hears row.writer r) (r.space == row.space) wanted.0 in
    let seen = seen_by row.writer r heard.0 row refl in
    let was = ltb-true (r.sequence + length r.owed + length (filter (is_hidden_from r.transaction) st.rows)) next h in
    let count = count_push (is_hidden_from r.transaction) st.rows row in
    let zero : one_if (is_hidden_from r.transaction row) ≡ 0 = rw seen refl in
    let long = length_push r.owed row.number in
    lt-ltb (r.sequence + length (r.owed ++ row.number ∷ []) + length (filter (is_hidden_from r.transaction) (st.rows ++ row ∷ []))) (next + 1) (omega (arith, was, count, zero, long))
owed_one next st row r false e h =
    let was = ltb-true (r.sequence + length r.owed + length (filter (is_hidden_from r.transaction) st.rows)) next h in
    let count = count_push (is_hidden_from r.transaction) st.rows row in
    let most : one_if (is_hidden_from r.transaction row) ≤ 1 = elim (is_hidden_from r.transaction row) as (λ b. one_if b ≤ 1) [ true ↦ omega arith | false ↦ omega arith ] in
    lt-ltb (r.sequence + length r.owed + length (filter (is_hidden_from r.transaction) (st.rows ++ row ∷ []))) (next + 1) (omega (arith, was, count, most))

owed_all : (next : ℕ) (st : State) (row : Row) (rs : List Registration) → list_all (is_sequence next st.rows) rs ≡ true → list_all (is_sequence (next + 1) (st.rows ++ row ∷ [])) (update (told_of st row) (owing row) rs) ≡ true
owed_all next st row [] h = refl
owed_all next st row (r ∷ rs) h =
    let parts = and_parts (is_sequence next st.rows r) (list_all (is_sequence next st.rows) rs) h in
    and_from (is_sequence (next + 1) (st.rows ++ row ∷ []) (cond (told_of st row r) (owing row r) r)) (list_all (is_sequence (next + 1) (st.rows ++ row ∷ [])) (update (told_of st row) (owing row) rs))
    (owed_one next st row r (told_of st row r) refl parts.0) (owed_all next st row rs parts.1)

fits_space : (st : State) (row : Row) (space : ℕ) (b : Bool) → (row.space == space) ≡ b → IsWithinLimits st → length (filter (λ (r : Row). r.space == row.space) st.rows) < 65536 → length (filter (λ (r : Row). r.space == space) st.rows) + one_if b ≤ 65536
fits_space st row space true is h room =
    let same : row.space ≡ space = eqb-true row.space space is in
    let here : length (filter (λ (r : Row). r.space == space) st.rows) < 65536 = subst (λ (n : ℕ). length (filter (λ (r : Row). r.space == n) st.rows) < 65536) same room in
    omega (arith, here)
fits_space st row space false is h room = omega (arith, h.rows.in_space space)

pub row_added : (st : State) (row : Row) → IsWithinLimits st → row.number ≡ st.next_number → is_row (length st.spaces) row ≡ true → length (filter (λ (r : Row). r.space == row.space) st.rows) < 65536 → st.next_number < 2 ^ 62 + 1
    → IsWithinLimits (add_row st row)
row_added st row h number is room left =
    let d = drawn st h left in
    let n = length st.spaces in
    let more : st.next_number ≤ row.number = omega (arith, number) in
    let below : row.number < st.next_number + 1 = omega (arith, number) in
    let f : Fewer (RegistrationAfter n 1) st.registrations (update (told_of st row) (owing row) st.registrations) = fewer_update (same_or_more n 1) (told_of st row) (owing row) (owing_after n row) st.registrations in
    record {
      classes = h.classes;
      spaces = h.spaces;
      sessions = h.sessions;
      time = h.time;
      next_number = d.next_number;
      rows = record {
        rising = rising_push (λ (r : Row). r.number) 0 st.next_number (st.next_number + 1) st.rows row more below h.rows.rising;
        each = all_push (is_row n) st.rows row h.rows.each is;
        in_space = λ space. omega (arith, count_push (λ (r : Row). r.space == space) st.rows row, fits_space st row space (row.space == space) refl h room);
      };
      registrations = registrations_after n 1 (st.next_number + 1) st.registrations (update (told_of st row) (owing row) st.registrations) d.registrations f;
      sequences = owed_all st.next_number st row st.registrations h.sequences;
      blocked = d.blocked;
      transactions = d.transactions;
      sets = d.sets;
      commits = h.commits;
      waiting = h.waiting;
      numbers = λ i.
          (let one = borne st row.number i number h in
          let r = count_push (λ (r : Row). r.number == i) st.rows row in
          let g = count_fewer (λ (r : Registration). r.number == i) (λ x y k e. rw (sym k.number) e) f in
          omega (arith, one, r, g));
      outboxes = h.outboxes;
    }

-- ---- a registration that is owed nothing

abbrev pub with_registration : State → Registration → State
with_registration st r = record st { registrations = st.registrations ++ r ∷ []; next_number = st.next_number + 1 }

pub registration_added : (st : State) (r : Registration) → IsWithinLimits st → r.number ≡ st.next_number → is_registration (length st.spaces) r ≡ true → r.sequence ≡ 0 → r.owed ≡ [] → length st.registrations < 4096 → st.next_number < 2 ^ 62 + 1
    → IsWithinLimits (with_registration st r)
registration_added st r h number is untold unowed room left =
    let d = drawn st h left in
    let more : st.next_number ≤ r.number = omega (arith, number) in
    let below : r.number < st.next_number + 1 = omega (arith, number) in
    let few = count_all (is_hidden_from r.transaction) st.rows in
    let drew = rising_length (λ (r : Row). r.number) 0 st.next_number st.rows h.rows.rising in
    let none : length r.owed ≡ 0 = ap length unowed in
    record {
      classes = h.classes;
      spaces = h.spaces;
      sessions = h.sessions;
      time = h.time;
      next_number = d.next_number;
      rows = d.rows;
      registrations = record {
        rising = rising_push (λ (r : Registration). r.number) 0 st.next_number (st.next_number + 1) st.registrations r more below h.registrations.rising;
        each = all_push (is_registration (length st.spaces)) st.registrations r h.registrations.each is;
        count = omega (arith, length_push st.registrations r, room);
      };
      sequences = all_push (is_sequence (st.next_number + 1) st.rows) st.registrations r d.sequences
          (lt-ltb (r.sequence + length r.owed + length (filter (is_hidden_from r.transaction) st.rows)) (st.next_number + 1) (omega (arith, few, drew, none, untold)));
      blocked = d.blocked;
      transactions = d.transactions;
      sets = d.sets;
      commits = h.commits;
      waiting = h.waiting;
      numbers = λ i. omega (arith, borne st r.number i number h, count_push (λ (r : Registration). r.number == i) st.registrations r);
      outboxes = h.outboxes;
    }

-- ---- a request that waits

-- one more waits where fewer than 64 do
waits : (st : State) (session s : ℕ) (b : Bool) → (session == s) ≡ b → IsWithinLimits st → waiting_count st session < 64 → waiting_count st s + one_if b ≤ 64
waits st session s true e h room =
    let here : waiting_count st s < 64 = subst (λ i. waiting_count st i < 64) (eqb-true session s e) room in
    omega (arith, here)
waits st session s false e h room = omega (arith, h.waiting s)

pub blocked_added : (st : State) (b : Blocked) → IsWithinLimits st → b.number ≡ st.next_number → is_blocked (length st.spaces) b ≡ true → waiting_count st b.session < 64 → st.next_number < 2 ^ 62 + 1
    → IsWithinLimits (block st b)
blocked_added st b h number is room left =
    let d = drawn st h left in
    let more : st.next_number ≤ b.number = omega (arith, number) in
    let below : b.number < st.next_number + 1 = omega (arith, number) in
    record {
      classes = h.classes;
      spaces = h.spaces;
      sessions = h.sessions;
      time = h.time;
      next_number = d.next_number;
      rows = d.rows;
      registrations = d.registrations;
      sequences = d.sequences;
      blocked = record {
        rising = rising_push (λ (b : Blocked). b.number) 0 st.next_number (st.next_number + 1) st.blocked b more below h.blocked.rising;
        each = all_push (is_blocked (length st.spaces)) st.blocked b h.blocked.each is;
      };
      transactions = d.transactions;
      sets = d.sets;
      commits = h.commits;
      waiting = λ s. omega (arith, waits st b.session s (b.session == s) refl h room, count_push (λ (b : Blocked). b.session == s) st.blocked b);
      numbers = λ i. omega (arith, borne st b.number i number h, count_push (λ (b : Blocked). b.number == i) st.blocked b);
      outboxes = h.outboxes;
    }

pub commit_added : (st : State) (c : Commit) → IsWithinLimits st → is_voting st c.transaction ≡ false → waiting_count st c.session < 64 → IsWithinLimits (record st { commits = st.commits ++ c ∷ [] })
commit_added st c h active room = record {
  classes = h.classes;
  spaces = h.spaces;
  sessions = h.sessions;
  time = h.time;
  next_number = h.next_number;
  rows = h.rows;
  registrations = h.registrations;
  sequences = h.sequences;
  blocked = h.blocked;
  transactions = h.transactions;
  sets = h.sets;
  commits = apart_push (λ (c : Commit). c.transaction) st.commits c h.commits active;
  waiting = λ s. omega (arith, waits st c.session s (c.session == s) refl h room, count_push (λ (c : Commit). c.session == s) st.commits c);
  numbers = h.numbers;
  outboxes = h.outboxes;
}

-- ---- a transaction, a match set

pub transaction_added : (st : State) (t : Transaction) → IsWithinLimits st → t.number ≡ st.next_number → is_transaction (length st.spaces) t ≡ true → length st.transactions < 1024 → st.next_number < 2 ^ 62 + 1
    → IsWithinLimits (record st { transactions = st.transactions ++ t ∷ []; next_number = st.next_number + 1 })
transaction_added st t h number is room left =
    let d = drawn st h left in
    let more : st.next_number ≤ t.number = omega (arith, number) in
    let below : t.number < st.next_number + 1 = omega (arith, number) in
    record {
      classes = h.classes;
      spaces = h.spaces;
      sessions = h.sessions;
      time = h.time;
      next_number = d.next_number;
      rows = d.rows;
      registrations = d.registrations;
      sequences = d.sequences;
      blocked = d.blocked;
      transactions = record {
        rising = rising_push (λ (t : Transaction). t.number) 0 st.next_number (st.next_number + 1) st.transactions t more below h.transactions.rising;
        each = all_push (is_transaction (length st.spaces)) st.transactions t h.transactions.each is;
        count = omega (arith, length_push st.transactions t, room);
      };
      sets = d.sets;
      commits = h.commits;
      waiting = h.waiting;
      numbers = λ i. omega (arith, borne st t.number i number h, count_push (λ (t : Transaction). t.number == i) st.transactions t);
      outboxes = h.outboxes;
    }

abbrev pub with_set : State → MatchSet → State
with_set st m = record st { sets = st.sets ++ m ∷ []; next_number = st.next_number + 1 }

pub set_added : (st : State) (m : MatchSet) → IsWithinLimits st → m.number ≡ st.next_number → is_set (length st.spaces) m ≡ true → length st.sets < 1024 → st.next_number < 2 ^ 62 + 1
    → IsWithinLimits (with_set st m)
set_added st m h number is room left =
    let d = drawn st h left in
    let more : st.next_number ≤ m.number = omega (arith, number) in
    let below : m.number < st.next_number + 1 = omega (arith, number) in
    record {
      classes = h.classes;
      spaces = h.spaces;
      sessions = h.sessions;
      time = h.time;
      next_number = d.next_number;
      rows = d.rows;
      registrations = d.registrations;
      sequences = d.sequences;
      blocked = d.blocked;
      transactions = d.transactions;
      sets = record {
        rising = rising_push (λ (m : MatchSet). m.number) 0 st.next_number (st.next_number + 1) st.sets m more below h.sets.rising;
        each = all_push (is_set (length st.spaces)) st.sets m h.sets.each is;
        count = omega (arith, length_push st.sets m, room);
      };
      commits = h.commits;
      waiting = h.waiting;
      numbers = λ i. omega (arith, borne st m.number i number h, count_push (λ (m : MatchSet). m.number == i) st.sets m);
      outboxes = h.outboxes;
    }
