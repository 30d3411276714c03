-- Which sessions are open after a run.
use Rattle.std.proofs.Common.{◌≡◌, ℕ, Bool, true, false, not, List, [], ◌∷◌, Option, Some, None, eqb, refl, ap, sym, ◌∙◌}
use Rattle.std.specs.Prelude.{filter, cond, ◌==◌}
use Rattle.std.specs.List.{list_any}
use Rattle.jsp_reply.specs.declared.refusal.Refusal.TheVariants.{TooLong}
use Rattle.jsp_model.specs.declared.state.State.{State}
use Rattle.jsp_model.specs.declared.state.Session.{Session}
use Rattle.jsp_model.specs.declared.state.Blocked.{Blocked}
use Rattle.jsp_model.specs.declared.step.Step.{Step}
use Rattle.jsp_model.specs.declared.step.Step.TheVariants as step
use Rattle.jsp_lease.specs.declared.item.Rank.{Rank}
use Rattle.jsp_lease.specs.declared.item.Rank.TheVariants as rank
use Rattle.jsp_model.specs.Lookup.{is_open, blocked_of}
use Rattle.jsp_model.specs.Changes.{remove}
use Rattle.jsp_model.specs.Steps.{next, after_grant}
use Rattle.jsp_model.specs.Runs.{state_after}
use Rattle.jsp_model.specs.House.{is_unasked, bare, own_of}

granted_sessions : (st : State) (n : ℕ) (ns : List ℕ) (b : Option Blocked) → (after_grant st n ns b).sessions ≡ st.sessions
granted_sessions st n ns None = refl
granted_sessions st n ns (Some b) = refl

removed_sessions : (st : State) (r : Rank) (n : ℕ) → (remove st r n).sessions ≡ st.sessions
removed_sessions st rank.Entry n = refl
removed_sessions st rank.Registration n = refl
removed_sessions st rank.Transaction n = refl
removed_sessions st rank.Blocked n = refl
removed_sessions st rank.MatchSet n = refl

-- a step that nobody asked for opens and closes none
pub free_sessions : (st : State) (x : Step) → is_unasked x ≡ true → (next st x).sessions ≡ st.sessions
unfolding next
free_sessions st (step.Grant n ns) h = granted_sessions st n ns (blocked_of st n)
free_sessions st (step.Empty n) h = refl
free_sessions st (step.Tell n) h = refl
free_sessions st (step.Due item) h = removed_sessions st item.rank item.number
free_sessions st (step.Open s) h = cc (h)
free_sessions st (step.Shut s) h = cc (h)
free_sessions st (step.Clock t) h = cc (h)
free_sessions st (step.Ask s asked ns) h = cc (h)
free_sessions st (step.Fault s id r) h = cc (h)
free_sessions st (step.Vote x space) h = cc (h)
free_sessions st (step.Decide x commits) h = cc (h)
free_sessions st (step.HandOut s n) h = cc (h)

pub closed_session : (s : ℕ) (sessions : List Session) → list_any (λ k. k.number == s) (filter (λ k. not (k.number == s)) sessions) ≡ false
closed_session s [] = refl
closed_session s (k ∷ sessions) = at (eqb k.number s) refl (closed_session s sessions)
  where
    at : (b : Bool) → eqb k.number s ≡ b → list_any (λ k. k.number == s) (filter (λ k. not (k.number == s)) sessions) ≡ false
        → list_any (λ k. k.number == s) (filter (λ k. not (k.number == s)) (k ∷ sessions)) ≡ false
    at true is rest = rw is rest
    at false is rest = rw is (rw is rest)

-- a step, as it is seen among those that were asked for
own_step : (b : Bool) (x : Step) (xs : List Step) → is_unasked x ≡ b → own_of (x ∷ xs) ≡ cond b (own_of xs) (bare x ∷ own_of xs)
own_step true x xs is = rw is refl
own_step false x xs is = rw is refl

free_run_at : (b : Bool) (s : ℕ) (st : State) (x : Step) (xs : List Step) → is_unasked x ≡ b → own_of (x ∷ xs) ≡ [] → is_open st s ≡ false
    → (own_of xs ≡ [] → is_open (next st x) s ≡ false → is_open (state_after (next st x) xs) s ≡ false)
    → is_open (state_after st (x ∷ xs)) s ≡ false
free_run_at true s st x xs is own closed rest = rest (sym (own_step true x xs is) ∙ own) (ap (list_any (λ k. k.number == s)) (free_sessions st x is) ∙ closed)
free_run_at false s st x xs is own closed rest = cc (own_step false x xs is, own)

-- where nothing was asked for, a closed session stays closed
pub free_run : (s : ℕ) (st : State) (xs : List Step) → own_of xs ≡ [] → is_open st s ≡ false → is_open (state_after st xs) s ≡ false
free_run s st [] own closed = closed
free_run s st (x ∷ xs) own closed = free_run_at (is_unasked x) s st x xs refl own closed (λ o c. free_run s (next st x) xs o c)

-- a closing closes
pub shut_step : (st : State) (s : ℕ) → is_open (next st (step.Shut s)) s ≡ false
unfolding next
shut_step st s = closed_session s st.sessions

-- too long a frame closes its session
too_long_step : (st : State) (s : ℕ) (id : Option ℕ) → is_open (next st (step.Fault s id TooLong)) s ≡ false
unfolding next
too_long_step st s id = closed_session s st.sessions

too_long_first : (st : State) (s : ℕ) (id : Option ℕ) (x : Step) → bare x ≡ step.Fault s id TooLong → is_open (next st x) s ≡ false
too_long_first st s id (step.Fault t i r) h = ap (λ (w : Step). is_open (next st w) s) h ∙ too_long_step st s id
too_long_first st s id (step.Ask t asked ns) h = cc (h)
too_long_first st s id (step.Open t) h = cc (h)
too_long_first st s id (step.Shut t) h = cc (h)
too_long_first st s id (step.Clock t) h = cc (h)
too_long_first st s id (step.Grant n ns) h = cc (h)
too_long_first st s id (step.Empty n) h = cc (h)
too_long_first st s id (step.Tell n) h = cc (h)
too_long_first st s id (step.Due item) h = cc (h)
too_long_first st s id (step.Vote x space) h = cc (h)
too_long_first st s id (step.Decide x commits) h = cc (h)
too_long_first st s id (step.HandOut t n) h = cc (h)

too_long_at : (b : Bool) (s : ℕ) (id : Option ℕ) (st : State) (x : Step) (xs : List Step) → is_unasked x ≡ b → own_of (x ∷ xs) ≡ step.Fault s id TooLong ∷ []
    → (own_of xs ≡ step.Fault s id TooLong ∷ [] → is_open (state_after (next st x) xs) s ≡ false)
    → is_open (state_after st (x ∷ xs)) s ≡ false
too_long_at true s id st x xs is own rest = rest (sym (own_step true x xs is) ∙ own)
too_long_at false s id st x xs is own rest =
    let one : bare x ∷ own_of xs ≡ step.Fault s id TooLong ∷ [] = sym (own_step false x xs is) ∙ own in
    let first : bare x ≡ step.Fault s id TooLong = cc (one) in
    let none : own_of xs ≡ [] = cc (one) in
    free_run s (next st x) xs none (too_long_first st s id x first)

-- After a run in which that alone was asked for, the session is closed.
pub too_long_run : (s : ℕ) (id : Option ℕ) (st : State) (xs : List Step) → own_of xs ≡ step.Fault s id TooLong ∷ [] → is_open (state_after st xs) s ≡ false
too_long_run s id st [] own = cc (own)
too_long_run s id st (x ∷ xs) own = too_long_at (is_unasked x) s id st x xs refl own (λ o. too_long_run s id (next st x) xs o)

-- ---- the spaces

granted_spaces : (st : State) (n : ℕ) (ns : List ℕ) (b : Option Blocked) → (after_grant st n ns b).spaces ≡ st.spaces
granted_spaces st n ns None = refl
granted_spaces st n ns (Some b) = refl

removed_spaces : (st : State) (r : Rank) (n : ℕ) → (remove st r n).spaces ≡ st.spaces
removed_spaces st rank.Entry n = refl
removed_spaces st rank.Registration n = refl
removed_spaces st rank.Transaction n = refl
removed_spaces st rank.Blocked n = refl
removed_spaces st rank.MatchSet n = refl

-- a step that nobody asked for resets no space
free_spaces : (st : State) (x : Step) → is_unasked x ≡ true → (next st x).spaces ≡ st.spaces
unfolding next
free_spaces st (step.Grant n ns) h = granted_spaces st n ns (blocked_of st n)
free_spaces st (step.Empty n) h = refl
free_spaces st (step.Tell n) h = refl
free_spaces st (step.Due item) h = removed_spaces st item.rank item.number
free_spaces st (step.Open s) h = cc (h)
free_spaces st (step.Shut s) h = cc (h)
free_spaces st (step.Clock t) h = cc (h)
free_spaces st (step.Ask s asked ns) h = cc (h)
free_spaces st (step.Fault s id r) h = cc (h)
free_spaces st (step.Vote x space) h = cc (h)
free_spaces st (step.Decide x commits) h = cc (h)
free_spaces st (step.HandOut s n) h = cc (h)

free_run_spaces_at : (b : Bool) (st : State) (x : Step) (xs : List Step) → is_unasked x ≡ b → own_of (x ∷ xs) ≡ []
    → (own_of xs ≡ [] → (state_after (next st x) xs).spaces ≡ (next st x).spaces) → (state_after st (x ∷ xs)).spaces ≡ st.spaces
free_run_spaces_at true st x xs is own rest = rest (sym (own_step true x xs is) ∙ own) ∙ free_spaces st x is
free_run_spaces_at false st x xs is own rest = cc (own_step false x xs is, own)

-- where nothing was asked for, the spaces stay
pub free_run_spaces : (st : State) (xs : List Step) → own_of xs ≡ [] → (state_after st xs).spaces ≡ st.spaces
free_run_spaces st [] own = refl
free_run_spaces st (x ∷ xs) own = free_run_spaces_at (is_unasked x) st x xs refl own (free_run_spaces (next st x) xs)
