-- A commit keeps the limits: what it publishes was hidden from those who are owed it.
use Rattle.std.proofs.Common.{◌≡◌, ℕ, ◌+◌, ◌≤◌, Bool, true, false, not, cond, List, [], ◌∷◌, ◌++◌, map, length, Option, Some, None, refl, sym, ◌∙◌, subst, arith, eqb-true}
use Rattle.std.specs.Prelude.{filter, ◌&&◌, ◌==◌, fold}
use Rattle.std.specs.List.{list_all}
use Rattle.std.proofs.lemmas.Bool.{and_parts, lt-ltb, ltb-true}
use Rattle.jsp_types.specs.Matching.{matches}
use Rattle.jsp_model.specs.declared.state.State.{State}
use Rattle.jsp_model.specs.declared.state.Row.{Row}
use Rattle.jsp_model.specs.declared.state.Registration.{Registration}
use Rattle.jsp_model.specs.Lookup.{update, is_caller}
use Rattle.jsp_model.specs.Changes.{owe, hears, unread, forget, committed, published, commit}
use Rattle.jsp_model.specs.Limits.{is_hidden_from, is_sequence, IsWithinLimits}
use Rattle.jsp_limits.proofs.Lists.{Fewer, fewer_same, fewer_filter, fewer_map, fewer_update, fewer_then, all_fewer, count_fewer, all_filter}
use Rattle.jsp_limits.proofs.Kept.{RowAfter, RegistrationAfter, row_same, registrations_after}
use Rattle.jsp_limits.proofs.Added.{same_or_more, owing_after}
use Rattle.jsp_limits.proofs.Goes.{row_then, row_unread, limits_forget}

committed_rows : (spaces x : ℕ) (rows : List Row) → Fewer (RowAfter spaces) rows (committed x rows)
committed_rows spaces x rows =
    let left : List Row = filter (λ (r : Row). not (is_caller r.taker x)) rows in
    let freed : List Row = update (λ (r : Row). is_caller r.writer x) (λ (r : Row). record r { writer = None }) left in
    let f : Fewer (RowAfter spaces) rows left = fewer_filter (row_same spaces) (λ r. not (is_caller r.taker x)) rows in
    let g : Fewer (RowAfter spaces) left freed = fewer_update (row_same spaces) (λ (r : Row). is_caller r.writer x) (λ (r : Row). record r { writer = None }) (λ r. record { number = refl; space = refl; fits = λ e. e; hidden = λ caller e. absurd (cc) }) left in
    fewer_then (row_then spaces) f (fewer_then (row_then spaces) g (fewer_map (unread x) (row_unread spaces x) freed))

-- what the transaction wrote is hidden from whoever isn't under it
hidden_while : (caller : Option ℕ) (x : ℕ) (row : Row) (writer : Option ℕ) → row.writer ≡ writer → is_caller caller x ≡ false → is_caller writer x ≡ true → is_hidden_from caller row ≡ true
hidden_while caller x row None w other own = absurd (cc)
hidden_while caller x row (Some y) w other own =
    let same : y ≡ x = eqb-true y x own in
    let off : is_caller caller y ≡ false = subst (λ z. is_caller caller z ≡ false) (sym same) other in
    rw (w, off) refl

publishing : (caller : Option ℕ) (x : ℕ) (rows : List Row) → is_caller caller x ≡ false → length (filter (is_hidden_from caller) (committed x rows)) + length (published x rows) ≤ length (filter (is_hidden_from caller) rows)
publishing caller x [] other = omega arith
publishing caller x (r ∷ rows) other =
    go (is_caller r.taker x) (is_caller r.writer x) refl (is_hidden_from caller r) refl (publishing caller x rows other)
  where
    freed : Bool → Row
    freed own = unread x (cond own (record r { writer = None }) r)

    go : (taken own : Bool) → is_caller r.writer x ≡ own → (hidden : Bool) → is_hidden_from caller r ≡ hidden
        → length (filter (is_hidden_from caller) (committed x rows)) + length (published x rows) ≤ length (filter (is_hidden_from caller) rows)
        → length (filter (is_hidden_from caller) (map (unread x) (update (λ (q : Row). is_caller q.writer x) (λ (q : Row). record q { writer = None }) (cond (not taken) (r ∷ filter (λ (q : Row). not (is_caller q.taker x)) rows) (filter (λ (q : Row). not (is_caller q.taker x)) rows)))))
        + length (cond (own && not taken) (r ∷ published x rows) (published x rows))
        ≤ length (cond hidden (r ∷ filter (is_hidden_from caller) rows) (filter (is_hidden_from caller) rows))
    go true true e true k ih = omega (arith, ih)
    go true true e false k ih = omega (arith, ih)
    go true false e true k ih = omega (arith, ih)
    go true false e false k ih = omega (arith, ih)
    go false true e true k ih = rw e (omega (arith, ih))
    go false true e false k ih = absurd (cc (hidden_while caller x r r.writer refl other e))
    go false false e true k ih = rw e (rw k (omega (arith, ih)))
    go false false e false k ih = rw e (rw k (omega (arith, ih)))

-- ---- what the registrations are owed

told_then : (spaces m n : ℕ) (a b c : Registration) → RegistrationAfter spaces m a b → RegistrationAfter spaces n b c → RegistrationAfter spaces (m + n) a c
told_then spaces m n a b c f g =
    let p = f.told in
    let q = g.told in
    record { number = g.number ∙ f.number; transaction = g.transaction ∙ f.transaction; fits = λ e. g.fits (f.fits e); told = omega (arith, p, q) }

-- each row is owed once
pub record Owed (spaces more : ℕ) (st : State) (after : State) : Type 0 where
  pub registrations : List Registration
  pub is : after ≡ record st { registrations = registrations }
  pub fewer : Fewer (RegistrationAfter spaces more) st.registrations registrations

all_owed : (spaces : ℕ) (rows : List Row) (st : State) → Owed spaces (length rows) st (fold (owe None) st rows)
all_owed spaces [] st = record { registrations = st.registrations; is = refl; fewer = fewer_same (same_or_more spaces 0) st.registrations }
all_owed spaces (row ∷ rows) st =
    let told = λ (r : Registration). hears None r && r.space == row.space && matches st.classes r.template row.entry in
    let owing = λ (r : Registration). record r { owed = r.owed ++ row.number ∷ [] } in
    let first : List Registration = update told owing st.registrations in
    let rest = all_owed spaces rows (owe None st row) in
    let f : Fewer (RegistrationAfter spaces 1) st.registrations first = fewer_update (same_or_more spaces 1) told owing (owing_after spaces row) st.registrations in
    let g : Fewer (RegistrationAfter spaces (1 + length rows)) st.registrations rest.registrations = fewer_then (told_then spaces 1 (length rows)) f rest.fewer in
    let long : 1 + length rows ≡ length (row ∷ rows) = omega arith in
    record { registrations = rest.registrations; is = rest.is; fewer = subst (λ n. Fewer (RegistrationAfter spaces n) st.registrations rest.registrations) long g }

pub limits_commit : (st : State) (x : ℕ) → IsWithinLimits st → IsWithinLimits (commit st x)
limits_commit st x h =
    let n = length st.spaces in
    let more = length (published x st.rows) in
    let rows : List Row = committed x st.rows in
    let freed : State = record (forget st x) { rows = rows } in
    let k : IsWithinLimits freed = limits_forget st x rows (committed_rows n x st.rows) h in
    let o = all_owed n (published x st.rows) freed in
    let others : Registration → Bool = λ r. not (is_caller r.transaction x) in
    let kept : list_all (λ (r : Registration). is_sequence st.next_number st.rows r && others r) (filter others st.registrations) ≡ true = all_filter (is_sequence st.next_number st.rows) others st.registrations h.sequences in
    subst IsWithinLimits (sym o.is) (record {
      classes = k.classes;
      spaces = k.spaces;
      sessions = k.sessions;
      time = k.time;
      next_number = k.next_number;
      rows = k.rows;
      registrations = registrations_after n more st.next_number (filter others st.registrations) o.registrations k.registrations o.fewer;
      sequences = all_fewer (λ (r : Registration). is_sequence st.next_number st.rows r && others r) (is_sequence st.next_number rows) (λ r q f e. heard_of st x r q f e) o.fewer kept;
      blocked = k.blocked;
      transactions = k.transactions;
      sets = k.sets;
      commits = k.commits;
      waiting = k.waiting;
      numbers = λ i.
          (let g = count_fewer (λ (r : Registration). r.number == i) (λ a b w e. rw (sym w.number) e) o.fewer in
          let was = k.numbers i in
          omega (arith, g, was));
      outboxes = k.outboxes;
    })
  where
    heard_of : (st : State) (x : ℕ) (r q : Registration) → RegistrationAfter (length st.spaces) (length (published x st.rows)) r q → (is_sequence st.next_number st.rows r && not (is_caller r.transaction x)) ≡ true → is_sequence st.next_number (committed x st.rows) q ≡ true
    heard_of st x r q f e =
        let both = and_parts (is_sequence st.next_number st.rows r) (not (is_caller r.transaction x)) e in
        let was = ltb-true (r.sequence + length r.owed + length (filter (is_hidden_from r.transaction) st.rows)) st.next_number both.0 in
        let other : is_caller r.transaction x ≡ false = elim (is_caller r.transaction x) as (λ b. not b ≡ true → b ≡ false) [ true ↦ λ w. absurd (cc) | false ↦ λ w. refl ] both.1 in
        let hides = publishing r.transaction x st.rows other in
        let told = f.told in
        rw f.transaction (lt-ltb (q.sequence + length q.owed + length (filter (is_hidden_from r.transaction) (committed x st.rows))) st.next_number (omega (arith, was, hides, told)))
