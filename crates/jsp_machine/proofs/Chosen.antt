-- The rows that stand in a step.
use Rattle.std.proofs.Common.{◌≡◌, ℕ, ◌≤◌, true, false, nat_lt, nat_le, min, List, length, Option, Some, None, refl, ap, sym, ◌∙◌, arith, eqb-true}
use Rattle.std.specs.Prelude.{◌&&◌, ◌||◌, ◌==◌, is_none, ◌+◌, ◌^◌}
use Rattle.std.specs.List.{list_all}
use Rattle.std.specs.Option.{option_map_or}
use Rattle.std.proofs.lemmas.Bool.{and_parts}
use Rattle.jsp_types.specs.Matching.{is_small_template}
use Rattle.jsp_reply.specs.declared.refusal.Refusal.{Refusal}
use Rattle.jsp_model.specs.declared.state.State.{State}
use Rattle.jsp_model.specs.declared.state.Outbox.{Outbox}
use Rattle.jsp_model.specs.declared.state.Blocked.{Blocked}
use Rattle.jsp_model.specs.declared.state.Form.{Form}
use Rattle.jsp_model.specs.declared.state.Form.TheVariants as form
use Rattle.jsp_model.specs.declared.step.Step.{Step}
use Rattle.jsp_model.specs.declared.step.Step.TheVariants as step
use Rattle.jsp_model.specs.Lookup.{contains, is_open, blocked_of}
use Rattle.jsp_model.specs.Sight.{is_take, available}
use Rattle.jsp_model.specs.Quiet.{are_quiet}
use Rattle.jsp_model.specs.Due.{due}
use Rattle.jsp_model.specs.Touches.{touches}
use Rattle.jsp_model.specs.Refusals.{refusal}
use Rattle.jsp_model.specs.Requests.{RowRequest, rows_asked}
use Rattle.jsp_model.specs.Answers.{is_many}
use Rattle.jsp_model.specs.Steps.{is_rising, is_choice, has_its_rows, is_legal}
use Rattle.jsp_model.specs.Limits.{is_blocked, IsWithinLimits}
use Rattle.jsp_model.proofs.Apart.{refusal_apart}
use Rattle.jsp_limits.proofs.Lists.{found_all}
use Rattle.jsp_machine.specs.Changing.{has_its_choice}

-- ---- legal steps

given : (st : State) (ns : List ℕ) (o : Option Blocked) → option_map_or (λ b. nat_lt 0 (length ns) && is_choice st b ns) o false ≡ true → option_map_or (λ b. is_choice st b ns) o true ≡ true
given st ns None h = refl
given st ns (Some b) h = (and_parts (nat_lt 0 (length ns)) (is_choice st b ns) h).1

pub legal_choice : (st : State) (x : Step) → is_legal st x ≡ true → has_its_choice st x ≡ true
unfolding is_legal
legal_choice st (step.Ask s a ns) h =
    (and_parts (is_open st s && is_none (due st) && are_quiet st (touches st (step.Ask s a ns))) (has_its_rows st s a.id ns (refusal st s a.id a.ask) (rows_asked a.ask)) h).1
legal_choice st (step.Grant n ns) h = given st ns (blocked_of st n) h
legal_choice st (step.Open s) h = refl
legal_choice st (step.Shut s) h = refl
legal_choice st (step.Clock t) h = refl
legal_choice st (step.Fault s id r) h = refl
legal_choice st (step.Empty n) h = refl
legal_choice st (step.Tell n) h = refl
legal_choice st (step.Due item) h = refl
legal_choice st (step.Vote x space) h = refl
legal_choice st (step.Decide x commits) h = refl
legal_choice st (step.HandOut s n) h = refl

-- what waits to be handed out decides nothing
rows_apart : (boxes : List Outbox) (st : State) (s id : ℕ) (ns : List ℕ) (r : Option Refusal) (o : Option RowRequest) → has_its_rows (record st { outboxes = boxes }) s id ns r o ≡ has_its_rows st s id ns r o
rows_apart boxes st s id ns None None = refl
rows_apart boxes st s id ns None (Some q) = refl
rows_apart boxes st s id ns (Some r) None = refl
rows_apart boxes st s id ns (Some r) (Some q) = refl

pub choice_apart : (boxes : List Outbox) (st : State) (x : Step) → has_its_choice (record st { outboxes = boxes }) x ≡ has_its_choice st x
choice_apart boxes st (step.Ask s a ns) =
    ap (λ r. has_its_rows (record st { outboxes = boxes }) s a.id ns r (rows_asked a.ask)) (refusal_apart boxes st s a.id a.ask)
    ∙ rows_apart boxes st s a.id ns (refusal st s a.id a.ask) (rows_asked a.ask)
choice_apart boxes st (step.Grant n ns) = refl
choice_apart boxes st (step.Open s) = refl
choice_apart boxes st (step.Shut s) = refl
choice_apart boxes st (step.Clock t) = refl
choice_apart boxes st (step.Fault s id r) = refl
choice_apart boxes st (step.Empty n) = refl
choice_apart boxes st (step.Tell n) = refl
choice_apart boxes st (step.Due item) = refl
choice_apart boxes st (step.Vote x space) = refl
choice_apart boxes st (step.Decide x commits) = refl
choice_apart boxes st (step.HandOut s n) = refl

-- ---- a read is given one row at most

one_of_a_read : (f : Form) (most : ℕ) → is_take f ≡ false → (is_many f || most == 1) ≡ true → most ≡ 1
one_of_a_read form.Read most t h = eqb-true most 1 h
one_of_a_read form.ReadIf most t h = eqb-true most 1 h
one_of_a_read form.Take most t h = absurd (cc (t))
one_of_a_read form.TakeIf most t h = absurd (cc (t))
one_of_a_read form.TakeMany most t h = absurd (cc (t))

-- a choice tells how many rows it gives
pub one_chosen : (st : State) (b : Blocked) (ns : List ℕ) → is_choice st b ns ≡ true → b.most ≡ 1 → length ns ≤ 1
one_chosen st b ns h one =
    let count = eqb-true (length ns) (min b.most (length (available st b))) (and_parts (is_rising ns && list_all (contains (available st b)) ns) (length ns == min b.most (length (available st b))) h).1 in
    omega (arith, count, one)

chosen : (st : State) (n : ℕ) (ns : List ℕ) (b : Blocked) → blocked_of st n ≡ Some b → option_map_or (λ b. is_choice st b ns) (blocked_of st n) true ≡ true → is_choice st b ns ≡ true
chosen st n ns b is h = sym (ap (λ (o : Option Blocked). option_map_or (λ b. is_choice st b ns) o true) is) ∙ h

pub read_is_given_one : (st : State) (n : ℕ) (ns : List ℕ) → IsWithinLimits st → has_its_choice st (step.Grant n ns) ≡ true → (b : Blocked) → blocked_of st n ≡ Some b → is_take b.form ≡ false → length ns ≤ 1
read_is_given_one st n ns limits h b is t =
    let found = (found_all (is_blocked (length st.spaces)) (λ b. b.number == n) st.blocked b limits.blocked.each is).0 in
    let one = one_of_a_read b.form b.most t
    (and_parts (nat_lt b.space (length st.spaces) && nat_le b.end (2 ^ 62 + 1) && list_all is_small_template b.templates && nat_le 1 (length b.templates) && nat_le (length b.templates) 8 && nat_le 1 b.most && nat_le b.most 16) (is_many b.form || b.most == 1) found).1 in
    one_chosen st b ns (chosen st n ns b is h) one
