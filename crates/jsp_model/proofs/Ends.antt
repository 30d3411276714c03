-- Where nothing is due, nothing gets due by handing out or by closing a session.
use Rattle.std.proofs.Common.{◌≡◌, ℕ, Bool, true, false, not, List, [], ◌∷◌, ◌++◌, None, refl, ap, sym, ◌∙◌}
use Rattle.std.specs.Prelude.{filter, map, nat_le, ◌==◌}
use Rattle.std.proofs.lemmas.List.Elements.{filter-append}
use Rattle.jsp_model.specs.declared.state.State.{State}
use Rattle.jsp_model.specs.declared.state.Outbox.{Outbox}
use Rattle.jsp_model.specs.declared.state.Registration.{Registration}
use Rattle.jsp_model.specs.declared.state.Blocked.{Blocked}
use Rattle.jsp_model.specs.declared.state.MatchSet.{MatchSet}
use Rattle.jsp_model.specs.declared.state.Row.{Row}
use Rattle.jsp_model.specs.declared.state.Transaction.{Transaction}
use Rattle.jsp_lease.specs.declared.item.Item.{Item}
use Rattle.jsp_lease.specs.declared.item.Rank.TheVariants as rank
use Rattle.jsp_model.specs.declared.step.Step.TheVariants as step
use Rattle.jsp_model.specs.Lookup.{empty, is_voting}
use Rattle.jsp_lease.specs.Due.{first_item}
use Rattle.jsp_model.specs.Due.{due, items}
use Rattle.jsp_model.specs.Changes.{close}
use Rattle.jsp_model.specs.Steps.{next}

pub due_at_first : (names : List (List ℕ)) → due (empty names) ≡ None
unfolding due
due_at_first names = refl

pub due_outboxes : (st : State) (boxes : List Outbox) → due (record st { outboxes = boxes }) ≡ due st
unfolding due
due_outboxes st boxes = refl

no_first : (xs : List Item) → first_item xs ≡ None → xs ≡ []
no_first [] h = refl
no_first (x ∷ xs) h = cc (h)

no_parts : {A : Type 0} (xs ys : List A) → xs ++ ys ≡ [] → (xs ≡ []) × (ys ≡ [])
no_parts [] ys h = (refl, h)
no_parts (x ∷ xs) ys h = cc (h)

no_join : {A : Type 0} (xs ys : List A) → xs ≡ [] → ys ≡ [] → xs ++ ys ≡ []
no_join xs ys p q = rw (p, q) refl

-- fewer things, fewer items
module _ {A : Type 0} (test : Item → Bool) (item : A → Item) (kept : A → Bool) where
  fewer_at : (b c : Bool) (x : A) (xs : List A) → test (item x) ≡ b → kept x ≡ c → filter test (map item (x ∷ xs)) ≡ []
      → (filter test (map item xs) ≡ [] → filter test (map item (filter kept xs)) ≡ [])
      → filter test (map item (filter kept (x ∷ xs))) ≡ []
  fewer_at true c x xs is keeps none rest = absurd (cc (rw is at none))
  fewer_at false true x xs is keeps none rest = rw keeps (rw is (rest (rw is at none)))
  fewer_at false false x xs is keeps none rest = rw keeps (rest (rw is at none))

  fewer : (xs : List A) → filter test (map item xs) ≡ [] → filter test (map item (filter kept xs)) ≡ []
  fewer [] none = refl
  fewer (x ∷ xs) none = fewer_at (test (item x)) (kept x) x xs refl refl none (fewer xs)

abbrev pub row_item : Row → Item
row_item r = record { end = r.end; rank = rank.Entry; number = r.number }

abbrev pub registration_item : Registration → Item
registration_item r = record { end = r.end; rank = rank.Registration; number = r.number }

abbrev pub transaction_item : Transaction → Item
transaction_item t = record { end = t.end; rank = rank.Transaction; number = t.number }

abbrev pub blocked_item : Blocked → Item
blocked_item b = record { end = b.end; rank = rank.Blocked; number = b.number }

abbrev pub set_item : MatchSet → Item
set_item m = record { end = m.end; rank = rank.MatchSet; number = m.number }

abbrev row_items : State → List Item
row_items st = map row_item st.rows

abbrev transaction_items : State → List Item
transaction_items st = map transaction_item (filter (λ t. not (is_voting st t.number)) st.transactions)

abbrev is_over : State → Item → Bool
is_over st i = nat_le i.end st.time

record NoneOver (st : State) : Type 0 where
  rows : filter (is_over st) (row_items st) ≡ []
  registrations : filter (is_over st) (map registration_item st.registrations) ≡ []
  transactions : filter (is_over st) (transaction_items st) ≡ []
  blocked : filter (is_over st) (map blocked_item st.blocked) ≡ []
  sets : filter (is_over st) (map set_item st.sets) ≡ []

split : (st : State) → due st ≡ None → NoneOver st
unfolding due
split st h =
    let over = is_over st in
    let a = row_items st in
    let b = map registration_item st.registrations in
    let c = transaction_items st in
    let d = map blocked_item st.blocked in
    let e = map set_item st.sets in
    let none = no_first (filter over (items st)) h in
    let four = no_parts (filter over (a ++ b ++ c ++ d)) (filter over e) (sym (filter-append over (a ++ b ++ c ++ d) e) ∙ none) in
    let three = no_parts (filter over (a ++ b ++ c)) (filter over d) (sym (filter-append over (a ++ b ++ c) d) ∙ four.0) in
    let two = no_parts (filter over (a ++ b)) (filter over c) (sym (filter-append over (a ++ b) c) ∙ three.0) in
    let one = no_parts (filter over a) (filter over b) (sym (filter-append over a b) ∙ two.0) in
    record { rows = one.0; registrations = one.1; transactions = two.1; blocked = three.1; sets = four.1 }

joined : (st : State) → NoneOver st → due st ≡ None
unfolding due
joined st h =
    let over = is_over st in
    let a = row_items st in
    let b = map registration_item st.registrations in
    let c = transaction_items st in
    let d = map blocked_item st.blocked in
    let e = map set_item st.sets in
    let one : filter over (a ++ b) ≡ [] = filter-append over a b ∙ no_join (filter over a) (filter over b) h.rows h.registrations in
    let two : filter over (a ++ b ++ c) ≡ [] = filter-append over (a ++ b) c ∙ no_join (filter over (a ++ b)) (filter over c) one h.transactions in
    let three : filter over (a ++ b ++ c ++ d) ≡ [] = filter-append over (a ++ b ++ c) d ∙ no_join (filter over (a ++ b ++ c)) (filter over d) two h.blocked in
    let four : filter over (items st) ≡ [] = filter-append over (a ++ b ++ c ++ d) e ∙ no_join (filter over (a ++ b ++ c ++ d)) (filter over e) three h.sets in
    ap first_item four

due_close : (st : State) (s : ℕ) → due st ≡ None → due (close st s) ≡ None
due_close st s h =
    let none = split st h in
    joined (close st s) (record {
      rows = none.rows;
      registrations = fewer (is_over st) registration_item (λ r. not (r.session == s)) st.registrations none.registrations;
      transactions = none.transactions;
      blocked = fewer (is_over st) blocked_item (λ b. not (b.session == s)) st.blocked none.blocked;
      sets = fewer (is_over st) set_item (λ m. not (m.session == s)) st.sets none.sets;
    })

pub due_shut : (st : State) (s : ℕ) → due st ≡ None → due (next st (step.Shut s)) ≡ None
unfolding next
due_shut st s h = due_outboxes (close st s) (next st (step.Shut s)).outboxes ∙ due_close st s h
