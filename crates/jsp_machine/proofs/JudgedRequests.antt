-- What is found out of the request in a step, and what is known by that.
use Rattle.std.proofs.Common.{◌≡◌, ◌∙◌, ℕ, ◌≤◌, true, false, List, [], ◌∷◌, ◌++◌, length, map, append-nil, eqb-true, arith, Option, Some, None, refl, sym, ap, subst}
use Rattle.std.specs.Prelude.{◌==◌}
use Rattle.std.proofs.lemmas.Bool.{leb-true, and_parts}
use Rattle.jsp_wire.specs.declared.ask.Ask.{Ask}
use Rattle.jsp_wire.specs.declared.ask.Ask.TheVariants as ask
use Rattle.jsp_wire.specs.Limits.{has_fitting_parts, is_between}
use Rattle.jsp_reply.specs.declared.refusal.Refusal.{Refusal}
use Rattle.jsp_reply.specs.declared.reply.Reply.{Reply}
use Rattle.jsp_model.specs.declared.state.State.{State}
use Rattle.jsp_model.specs.declared.state.Outbox.{Outbox}
use Rattle.jsp_model.specs.declared.step.Step.{Step}
use Rattle.jsp_model.specs.declared.step.Step.TheVariants as step
use Rattle.jsp_model.specs.House.{is_unasked}
use Rattle.jsp_model.specs.Sight.{is_take}
use Rattle.jsp_model.specs.Requests.{RowRequest, rows_asked}
use Rattle.jsp_model.specs.Refusals.{refusal}
use Rattle.jsp_model.specs.Changes.{accepted, give_or_block}
use Rattle.jsp_model.specs.Answers.{answer, rows_answer, told_others, said_to_ask}
use Rattle.jsp_model.specs.Steps.{after_ask, has_its_rows, is_choice}
use Rattle.jsp_model.proofs.Apart.{refusal_apart}
use Rattle.jsp_entries.specs.Searching.{wanted, served, said_at_once}
use Rattle.jsp_entries.specs.declared.blocking.RowsWanted.{RowsWanted}
use Rattle.jsp_requests.specs.declared.judging.Judged.{Judged}
use Rattle.jsp_requests.specs.declared.judging.Judged.TheVariants.{Refused, Rows, Plain}
use Rattle.jsp_requests.specs.Judging.{judged, judged_as}
use Rattle.jsp_machine.specs.Judging.{judged_in, fits}
use Rattle.jsp_machine.proofs.Chosen.{one_chosen}

-- ---- what waits to be handed out decides nothing

as_apart : (boxes : List Outbox) (st : State) (s id : ℕ) (r : Option Refusal) (o : Option RowRequest) → judged_as (record st { outboxes = boxes }) s id r o ≡ judged_as st s id r o
as_apart boxes st s id (Some r) o = refl
as_apart boxes st s id None None = refl
as_apart boxes st s id None (Some q) = refl

pub judged_apart : (boxes : List Outbox) (st : State) (x : Step) → judged_in (record st { outboxes = boxes }) x ≡ judged_in st x
judged_apart boxes st (step.Ask s a ns) =
    ap (λ r. judged_as (record st { outboxes = boxes }) s a.id r (rows_asked a.ask)) (refusal_apart boxes st s a.id a.ask)
    ∙ as_apart boxes st s a.id (refusal st s a.id a.ask) (rows_asked a.ask)
judged_apart boxes st (step.Grant n ns) = refl
judged_apart boxes st (step.Open s) = refl
judged_apart boxes st (step.Shut s) = refl
judged_apart boxes st (step.Clock t) = refl
judged_apart boxes st (step.Fault s id r) = refl
judged_apart boxes st (step.Empty n) = refl
judged_apart boxes st (step.Tell n) = refl
judged_apart boxes st (step.Due item) = refl
judged_apart boxes st (step.Vote x space) = refl
judged_apart boxes st (step.Decide x commits) = refl
judged_apart boxes st (step.HandOut s n) = refl

-- ---- a step that nobody asks for has no request

pub unasked_plain : (st : State) (x : Step) → is_unasked x ≡ true → Plain ≡ judged_in st x
unasked_plain st (step.Ask s a ns) h = absurd (cc (h))
unasked_plain st (step.Grant n ns) h = refl
unasked_plain st (step.Open s) h = refl
unasked_plain st (step.Shut s) h = refl
unasked_plain st (step.Clock t) h = refl
unasked_plain st (step.Fault s id r) h = refl
unasked_plain st (step.Empty n) h = refl
unasked_plain st (step.Tell n) h = refl
unasked_plain st (step.Due item) h = refl
unasked_plain st (step.Vote x space) h = refl
unasked_plain st (step.Decide x commits) h = refl
unasked_plain st (step.HandOut s n) h = refl

-- ---- the rows that stand in the step

fits_as : (st : State) (s id : ℕ) (ns : List ℕ) (r : Option Refusal) (o : Option RowRequest) → fits st (judged_as st s id r o) ns ≡ has_its_rows st s id ns r o
fits_as st s id ns (Some r) None = refl
fits_as st s id ns (Some r) (Some q) = refl
fits_as st s id ns None None = refl
fits_as st s id ns None (Some q) = refl

pub fits_is : (st : State) (s id : ℕ) (a : Ask) (ns : List ℕ) (j : Judged) → j ≡ judged st s id a → fits st j ns ≡ has_its_rows st s id ns (refusal st s id a) (rows_asked a)
fits_is st s id a ns j e = ap (λ (w : Judged). fits st w ns) e ∙ fits_as st s id ns (refusal st s id a) (rows_asked a)

-- so those that a house chose for it, once it was judged
pub fits_choice : (st : State) (j : Judged) (w : RowsWanted) (ns : List ℕ) → j ≡ Rows w → is_choice st w.request ns ≡ true → fits st j ns ≡ true
fits_choice st j w ns e h = ap (λ (k : Judged). fits st k ns) e ∙ h

pub fits_step : (st : State) (s id : ℕ) (a : Ask) (ns : List ℕ) (j : Judged) (n : ℕ) (b : Ask) → j ≡ judged st s n b → n ≡ id → b ≡ a → fits st j ns ≡ true → has_its_rows st s id ns (refusal st s id a) (rows_asked a) ≡ true
fits_step st s id a ns j n b e same_id same_ask h =
    sym (fits_is st s id a ns j (e ∙ ap (λ (m : ℕ). judged st s m b) same_id ∙ ap (judged st s id) same_ask)) ∙ h

-- ---- how it was judged tells why it is refused, and what it is for

refused_as : (st : State) (s id : ℕ) (r : Option Refusal) (o : Option RowRequest) (x : Refusal) → Refused x ≡ judged_as st s id r o → r ≡ Some x
refused_as st s id (Some y) o x h = cc (h)
refused_as st s id None None x h = absurd (cc (h))
refused_as st s id None (Some q) x h = absurd (cc (h))

pub is_refused : (st : State) (s id : ℕ) (a : Ask) (x : Refusal) → Refused x ≡ judged st s id a → refusal st s id a ≡ Some x
is_refused st s id a x h = refused_as st s id (refusal st s id a) (rows_asked a) x h

plain_as : (st : State) (s id : ℕ) (r : Option Refusal) (o : Option RowRequest) → Plain ≡ judged_as st s id r o → (r ≡ None) × (o ≡ None)
plain_as st s id (Some y) o h = absurd (cc (h))
plain_as st s id None None h = (refl, refl)
plain_as st s id None (Some q) h = absurd (cc (h))

pub is_plain : (st : State) (s id : ℕ) (a : Ask) → Plain ≡ judged st s id a → (refusal st s id a ≡ None) × (rows_asked a ≡ None)
is_plain st s id a h = plain_as st s id (refusal st s id a) (rows_asked a) h

-- it isn't refused, and is for these rows
record Wants (st : State) (s id : ℕ) (r : Option Refusal) (o : Option RowRequest) (w : RowsWanted) : Type 0 where
  pub asks : RowRequest
  pub accepted : r ≡ None
  pub rows : o ≡ Some asks
  pub is : w ≡ wanted st s id asks

wants_as : (st : State) (s id : ℕ) (r : Option Refusal) (o : Option RowRequest) (w : RowsWanted) → Rows w ≡ judged_as st s id r o → Wants st s id r o w
wants_as st s id (Some y) o w h = absurd (cc (h))
wants_as st s id None None w h = absurd (cc (h))
wants_as st s id None (Some q) w h = record { asks = q; accepted = refl; rows = refl; is = cc (h) }

wants : (st : State) (s id : ℕ) (a : Ask) (w : RowsWanted) → Rows w ≡ judged st s id a → Wants st s id (refusal st s id a) (rows_asked a) w
wants st s id a w h = wants_as st s id (refusal st s id a) (rows_asked a) w h

-- ---- requests for rows

some_is : (p q : RowRequest) → Some p ≡ Some q → p ≡ q
some_is p q e = cc (e)

abbrev SomeFew : RowRequest → Type 0
SomeFew q = (1 ≤ q.most) × (is_take q.form ≡ false → q.most ≡ 1)

one : (p q : RowRequest) → Some p ≡ Some q → p.most ≡ 1 → SomeFew q
one p q e h = subst SomeFew (some_is p q e) (subst (λ n. 1 ≤ n) (sym h) (leb-true 1 1 refl), λ t. h)

-- they ask for one row at least, and a read for one
some_few : (a : Ask) (q : RowRequest) → rows_asked a ≡ Some q → has_fitting_parts a ≡ true → SomeFew q
some_few (ask.Read r) q e h = one _ q e refl
some_few (ask.ReadIf r) q e h = one _ q e refl
some_few (ask.Take r) q e h = one _ q e refl
some_few (ask.TakeIf r) q e h = one _ q e refl
some_few (ask.TakeMany r) q e h =
    let most = (and_parts (is_between 1 8 (length r.templates)) (is_between 1 16 r.most) h).1 in
    subst SomeFew (some_is _ q e) (leb-true 1 r.most (and_parts _ _ most).0, λ t. absurd (cc (t)))
some_few _ q e h = absurd (cc)

changed_as : (st : State) (s id : ℕ) (ns : List ℕ) (a : Ask) (q : RowRequest) → rows_asked a ≡ Some q → accepted st s id ns a ≡ give_or_block st s id q ns
changed_as st s id ns (ask.Read r) q e = ap (λ z. give_or_block st s id z ns) (some_is _ q e)
changed_as st s id ns (ask.ReadIf r) q e = ap (λ z. give_or_block st s id z ns) (some_is _ q e)
changed_as st s id ns (ask.Take r) q e = ap (λ z. give_or_block st s id z ns) (some_is _ q e)
changed_as st s id ns (ask.TakeIf r) q e = ap (λ z. give_or_block st s id z ns) (some_is _ q e)
changed_as st s id ns (ask.TakeMany r) q e = ap (λ z. give_or_block st s id z ns) (some_is _ q e)
changed_as st s id ns _ q e = absurd (cc)

-- nobody else is told of them
abbrev AnsweredAlone : State → ℕ → ℕ → List ℕ → Ask → RowRequest → Type 0
AnsweredAlone st s id ns a q = (answer st s id ns a ≡ rows_answer st s id ns q) × (told_others st a ≡ [])

said_as : (st : State) (s id : ℕ) (ns : List ℕ) (a : Ask) (q : RowRequest) → rows_asked a ≡ Some q → AnsweredAlone st s id ns a q
said_as st s id ns (ask.Read r) q e = (ap (rows_answer st s id ns) (some_is _ q e), refl)
said_as st s id ns (ask.ReadIf r) q e = (ap (rows_answer st s id ns) (some_is _ q e), refl)
said_as st s id ns (ask.Take r) q e = (ap (rows_answer st s id ns) (some_is _ q e), refl)
said_as st s id ns (ask.TakeIf r) q e = (ap (rows_answer st s id ns) (some_is _ q e), refl)
said_as st s id ns (ask.TakeMany r) q e = (ap (rows_answer st s id ns) (some_is _ q e), refl)
said_as st s id ns _ q e = absurd (cc)

-- ---- what is needed to answer a request for rows, and what comes of it

-- the rows that stand in its step
pub rows_given : (st : State) (s id : ℕ) (a : Ask) (ns : List ℕ) (w : RowsWanted) → Rows w ≡ judged st s id a → has_its_rows st s id ns (refusal st s id a) (rows_asked a) ≡ true → is_choice st w.request ns ≡ true
rows_given st s id a ns w h g = fits_is st s id a ns (Rows w) h ∙ g

pub rows_some : (st : State) (s id : ℕ) (a : Ask) (w : RowsWanted) → Rows w ≡ judged st s id a → has_fitting_parts a ≡ true → 1 ≤ w.request.most
rows_some st s id a w h f =
    let k = wants st s id a w h in
    subst (λ (z : RowsWanted). 1 ≤ z.request.most) (sym k.is) (some_few a k.asks k.rows f).0

pub rows_one : (st : State) (s id : ℕ) (a : Ask) (ns : List ℕ) (w : RowsWanted) → Rows w ≡ judged st s id a → has_fitting_parts a ≡ true → is_choice st w.request ns ≡ true → is_take w.request.form ≡ false → length ns ≤ 1
rows_one st s id a ns w h f g reads =
    let k = wants st s id a w h in
    let few = (some_few a k.asks k.rows f).1 (sym (ap (λ (z : RowsWanted). is_take z.request.form) k.is) ∙ reads) in
    one_chosen st w.request ns g (ap (λ (z : RowsWanted). z.request.most) k.is ∙ few)

pub rows_said : (st : State) (s id : ℕ) (a : Ask) (ns : List ℕ) (w : RowsWanted) → Rows w ≡ judged st s id a → map (λ (x : Reply). (s, x)) (said_at_once st w ns) ≡ said_to_ask st s id ns a (refusal st s id a)
rows_said st s id a ns w h =
    let k = wants st s id a w h in
    let alone = said_as st s id ns a k.asks k.rows in
    ap (λ (z : RowsWanted). map (λ (x : Reply). (s, x)) (said_at_once st z ns)) k.is
    ∙ sym (ap (said_to_ask st s id ns a) k.accepted ∙ rw (alone.0, alone.1) (append-nil (map (λ (x : Reply). (s, x)) (rows_answer st s id ns k.asks))))

pub rows_changed : (st : State) (s id : ℕ) (a : Ask) (ns : List ℕ) (w : RowsWanted) → Rows w ≡ judged st s id a → served st w ns ≡ after_ask st s id ns a (refusal st s id a)
rows_changed st s id a ns w h =
    let k = wants st s id a w h in
    ap (λ (z : RowsWanted). served st z ns) k.is
    ∙ sym (ap (after_ask st s id ns a) k.accepted ∙ changed_as st s id ns a k.asks k.rows)

-- ---- any other is given no rows

none_given : (ns : List ℕ) → (length ns == 0) ≡ true → ns ≡ []
none_given [] h = refl
none_given (n ∷ ns) h =
    let none = eqb-true (length (n ∷ ns)) 0 h in
    absurd (omega (arith, none))

pub plain_given : (st : State) (s id : ℕ) (a : Ask) (ns : List ℕ) → Plain ≡ judged st s id a → has_its_rows st s id ns (refusal st s id a) (rows_asked a) ≡ true → ns ≡ []
plain_given st s id a ns h g = none_given ns (fits_is st s id a ns Plain h ∙ g)

pub plain_said : (st : State) (s id : ℕ) (a : Ask) (ns : List ℕ) (n : ℕ) (b : Ask) → n ≡ id → b ≡ a → Plain ≡ judged st s id a → ns ≡ []
    → map (λ (x : Reply). (s, x)) (answer st s n [] b) ++ told_others st b ≡ said_to_ask st s id ns a (refusal st s id a)
plain_said st s id a ns n b same_id same_ask h none =
    ap (λ (m : ℕ). map (λ (x : Reply). (s, x)) (answer st s m [] b) ++ told_others st b) same_id
    ∙ ap (λ (z : Ask). map (λ (x : Reply). (s, x)) (answer st s id [] z) ++ told_others st z) same_ask
    ∙ sym (ap (said_to_ask st s id ns a) (is_plain st s id a h).0 ∙ ap (λ (z : List ℕ). said_to_ask st s id z a None) none)

pub plain_changed : (st : State) (s id : ℕ) (a : Ask) (ns : List ℕ) (n : ℕ) (b : Ask) → n ≡ id → b ≡ a → Plain ≡ judged st s id a → ns ≡ [] → accepted st s n [] b ≡ after_ask st s id ns a (refusal st s id a)
plain_changed st s id a ns n b same_id same_ask h none =
    ap (λ (m : ℕ). accepted st s m [] b) same_id
    ∙ ap (λ (z : Ask). accepted st s id [] z) same_ask
    ∙ sym (ap (after_ask st s id ns a) (is_plain st s id a h).0 ∙ ap (λ (z : List ℕ). after_ask st s id z a None) none)
