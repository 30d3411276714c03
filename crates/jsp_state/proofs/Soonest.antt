-- The first item that is due, of the first of each kind.
use Rattle.std.proofs.Common.{◌≡◌, ℕ, suc, length, arith, Bool, true, false, cond, List, [], ◌∷◌, ◌++◌, map, Option, None, refl, ap, sym, ◌∙◌}
use Rattle.std.specs.Prelude.{filter, find, is_some, not, nat_le, ◌==◌}
use Rattle.std.proofs.lemmas.Bool.{ne_eqb}
use Rattle.std.proofs.lemmas.List.Elements.{filter-append}
use Rattle.jsp_lease.specs.declared.item.Item.{Item}
use Rattle.jsp_lease.specs.Due.{first_item, over_by}
use Rattle.jsp_model.specs.declared.state.State.{State}
use Rattle.jsp_model.specs.declared.state.Transaction.{Transaction}
use Rattle.jsp_model.specs.declared.state.Row.{Row}
use Rattle.jsp_model.specs.declared.state.Registration.{Registration}
use Rattle.jsp_model.specs.declared.state.Blocked.{Blocked}
use Rattle.jsp_model.specs.declared.state.MatchSet.{MatchSet}
use Rattle.jsp_model.specs.Lookup.{is_voting}
use Rattle.jsp_model.specs.Due.{items}
use Rattle.jsp_lease.specs.Tournament.{earlier as soonest}
use Rattle.jsp_sight.specs.Rows.{row_end, earlier}
use Rattle.jsp_model.specs.declared.state.Commit.{Commit}
use Rattle.jsp_sight.proofs.Earliest.{first_with, with_none, with_is}
use Rattle.jsp_wait.specs.Waiting.{blocked_end}
use Rattle.jsp_notify.specs.Registered.{registration_end}
use Rattle.jsp_txn.specs.Ending.{transaction_end}
use Rattle.jsp_wait.specs.Sets.{set_end}

with_both : (xs ys : List Item) (first : Option Item) → first_with (xs ++ ys) first ≡ first_with xs (first_with ys first)
with_both [] ys first = refl
with_both (a ∷ xs) ys first = ap (λ o. earlier o a) (with_both xs ys first)

over_both : (time : ℕ) (xs ys : List Item) (first : Option Item) → first_with (over_by time (xs ++ ys)) first ≡ first_with (over_by time xs) (first_with (over_by time ys) first)
over_both time xs ys first = ap (λ w. first_with w first) (filter-append (λ (i : Item). nat_le i.end time) xs ys) ∙ with_both (over_by time xs) (over_by time ys) first

-- the kinds one after another
pub first_is : (st : State) (time : ℕ) (s b t r e : Option Item) → s ≡ first_item (over_by time (map set_end st.sets)) → b ≡ soonest (first_item (over_by time (map blocked_end st.blocked))) s
    → t ≡ soonest (first_item (over_by time (map transaction_end (filter (λ (t : Transaction). not (is_voting st t.number)) st.transactions)))) b
    → r ≡ soonest (first_item (over_by time (map registration_end st.registrations))) t → e ≡ soonest (first_item (over_by time (map row_end st.rows))) r → e ≡ first_item (over_by time (items st))
first_is st time s b t r e is_s is_b is_t is_r is_e =
    let active = filter (λ (t : Transaction). not (is_voting st t.number)) st.transactions in
    let rows = map row_end st.rows in
    let registrations = map registration_end st.registrations in
    let transactions = map transaction_end active in
    let blocked = map blocked_end st.blocked in
    let sets = map set_end st.sets in
    let set_first = is_s ∙ with_none (over_by time sets) in
    let blocked_first = is_b ∙ sym (with_is (over_by time blocked) s) ∙ ap (first_with (over_by time blocked)) set_first in
    let transaction_first = is_t ∙ sym (with_is (over_by time transactions) b) ∙ ap (first_with (over_by time transactions)) blocked_first in
    let registration_first = is_r ∙ sym (with_is (over_by time registrations) t) ∙ ap (first_with (over_by time registrations)) transaction_first in
    let row_first = is_e ∙ sym (with_is (over_by time rows) r) ∙ ap (first_with (over_by time rows)) registration_first in
    row_first
    ∙ sym (with_none (over_by time (rows ++ registrations ++ transactions ++ blocked ++ sets))
    ∙ over_both time (rows ++ registrations ++ transactions ++ blocked) sets None
    ∙ over_both time (rows ++ registrations ++ transactions) blocked (first_with (over_by time sets) None)
    ∙ over_both time (rows ++ registrations) transactions (first_with (over_by time blocked) (first_with (over_by time sets) None))
    ∙ over_both time rows registrations (first_with (over_by time transactions) (first_with (over_by time blocked) (first_with (over_by time sets) None))))

-- the same, of fields that were read
pub first_is_seen : (st : State) (time : ℕ) (sets : List MatchSet) (blocked : List Blocked) (registrations : List Registration) (rows : List Row) (s b t r e : Option Item)
    → sets ≡ st.sets → blocked ≡ st.blocked → registrations ≡ st.registrations → rows ≡ st.rows
    → s ≡ first_item (over_by time (map set_end sets)) → b ≡ soonest (first_item (over_by time (map blocked_end blocked))) s
    → t ≡ soonest (first_item (over_by time (map transaction_end (filter (λ (t : Transaction). not (is_voting st t.number)) st.transactions)))) b
    → r ≡ soonest (first_item (over_by time (map registration_end registrations))) t → e ≡ soonest (first_item (over_by time (map row_end rows))) r → e ≡ first_item (over_by time (items st))
first_is_seen st time sets blocked registrations rows s b t r e es eb er eo is_s is_b is_t is_r is_e =
    first_is st time s b t r e (rw es at is_s) (rw eb at is_b) is_t (rw er at is_r) (rw eo at is_e)

-- ---- transactions that don't vote

none_first : (a : Item) (items : List Item) → None ≡ first_item (a ∷ items) → ⊥
none_first a items h = absurd (cc)

-- where none of all is over, none of some is
pub none_over : {X : Type 0} (time : ℕ) (f : X → Item) (p : X → Bool) (xs : List X) → None ≡ first_item (over_by time (map f xs)) → None ≡ first_item (over_by time (map f (filter p xs)))
none_over time f p [] h = h
none_over time f p (x ∷ xs) h = at (nat_le (f x).end time) refl (p x) (none_over time f p xs) where
  rest : nat_le (f x).end time ≡ false → None ≡ first_item (over_by time (map f xs))
  rest e = h ∙ ap (λ b. first_item (cond b (f x ∷ over_by time (map f xs)) (over_by time (map f xs)))) e

  at : (b : Bool) → nat_le (f x).end time ≡ b → (c : Bool) → (None ≡ first_item (over_by time (map f xs)) → None ≡ first_item (over_by time (map f (filter p xs)))) → None ≡ first_item (over_by time (map f (cond c (x ∷ filter p xs) (filter p xs))))
  at true e c more = absurd (none_first (f x) (over_by time (map f xs)) (h ∙ ap (λ b. first_item (cond b (f x ∷ over_by time (map f xs)) (over_by time (map f xs)))) e))
  at false e true more = more (rest e) ∙ ap (λ b. first_item (cond b (f x ∷ over_by time (map f (filter p xs))) (over_by time (map f (filter p xs))))) (sym e)
  at false e false more = more (rest e)

all_pass : {X : Type 0} (xs : List X) → filter (λ _. true) xs ≡ xs
all_pass [] = refl
all_pass (x ∷ xs) = ap (λ w. x ∷ w) (all_pass xs)

pub is_none : {X : Type 0} (xs : List X) → (length xs == 0) ≡ true → xs ≡ []
is_none [] h = refl
is_none (x ∷ xs) h = absurd (cc (h, ne_eqb (length (x ∷ xs)) 0 (differs (length xs)))) where
  differs : (n : ℕ) → suc n ≡ 0 → ⊥
  differs n e = omega arith

-- where no commit is asked, none votes
pub all_active : (st : State) → st.commits ≡ [] → filter (λ (t : Transaction). not (is_voting st t.number)) st.transactions ≡ st.transactions
all_active st none =
    ap (λ (w : List Commit). filter (λ (t : Transaction). not (is_some (find (λ (c : Commit). c.transaction == t.number) w))) st.transactions) none ∙ all_pass st.transactions
