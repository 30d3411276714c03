-- Runs, one after another.
use Rattle.std.proofs.Common.{◌≡◌, ℕ, List, [], ◌∷◌, ◌++◌, not, map, filter, refl, ap, sym, ◌∙◌, subst, append_assoc}
use Rattle.std.specs.Prelude.{◌==◌}
use Rattle.std.proofs.lemmas.Bool.{and_parts, and_from}
use Rattle.std.proofs.lemmas.List.{map-append, append-nil}
use Rattle.std.proofs.lemmas.List.Elements.{filter-append}
use Rattle.jsp_reply.specs.declared.reply.Reply.{Reply}
use Rattle.jsp_model.specs.declared.state.State.{State}
use Rattle.jsp_model.specs.declared.step.Step.{Step}
use Rattle.jsp_model.specs.Answers.{Saying, said}
use Rattle.jsp_model.specs.Steps.{is_legal, next}
use Rattle.jsp_model.specs.Runs.{state_after, said_in, said_to, is_run, IsRun}
use Rattle.jsp_model.specs.House.{is_unasked, bare, own_of, Makes}

pub own_of-append : (xs ys : List Step) → own_of (xs ++ ys) ≡ own_of xs ++ own_of ys
own_of-append xs ys =
    ap (map bare) (filter-append (λ x. not (is_unasked x)) xs ys)
    ∙ map-append bare (filter (λ x. not (is_unasked x)) xs) (filter (λ x. not (is_unasked x)) ys)

pub IsRun-append : (st : State) (xs ys : List Step) → IsRun st xs → IsRun (state_after st xs) ys → IsRun st (xs ++ ys)
IsRun-append st [] ys first second = second
IsRun-append st (x ∷ xs) ys first second =
    let parts = and_parts (is_legal st x) (is_run (next st x) xs) first in
    and_from (is_legal st x) (is_run (next st x) (xs ++ ys)) parts.0 (IsRun-append (next st x) xs ys parts.1 second)

pub state_after-append : (st : State) (xs ys : List Step) → state_after st (xs ++ ys) ≡ state_after (state_after st xs) ys
state_after-append st [] ys = refl
state_after-append st (x ∷ xs) ys = state_after-append (next st x) xs ys

-- ---- what is said

-- of these sayings, what is said to the session
abbrev pub to_session : ℕ → List Saying → List Reply
to_session s sayings = map (λ (a : Saying). a.1) (filter (λ (a : Saying). a.0 == s) sayings)

pub to_session-append : (s : ℕ) (xs ys : List Saying) → to_session s (xs ++ ys) ≡ to_session s xs ++ to_session s ys
to_session-append s xs ys =
    ap (map (λ (a : Saying). a.1)) (filter-append (λ (a : Saying). a.0 == s) xs ys)
    ∙ map-append (λ (a : Saying). a.1) (filter (λ (a : Saying). a.0 == s) xs) (filter (λ (a : Saying). a.0 == s) ys)

pub said_to-step : (s : ℕ) (st : State) (x : Step) (xs : List Step) → said_to s st (x ∷ xs) ≡ to_session s (said st x) ++ said_to s (next st x) xs
said_to-step s st x xs = to_session-append s (said st x) (said_in (next st x) xs)

said_in-append : (st : State) (xs ys : List Step) → said_in st (xs ++ ys) ≡ said_in st xs ++ said_in (state_after st xs) ys
said_in-append st [] ys = refl
said_in-append st (x ∷ xs) ys =
    ap (λ w. said st x ++ w) (said_in-append (next st x) xs ys)
    ∙ sym (append_assoc (said st x) (said_in (next st x) xs) (said_in (state_after (next st x) xs) ys))

pub said_to-append : (s : ℕ) (st : State) (xs ys : List Step) → said_to s st (xs ++ ys) ≡ said_to s st xs ++ said_to s (state_after st xs) ys
said_to-append s st xs ys = ap (to_session s) (said_in-append st xs ys) ∙ to_session-append s (said_in st xs) (said_in (state_after st xs) ys)

-- ---- what calls add to the log

-- nothing
pub Makes-none : (st : State) (log : List Step) → Makes st st log log []
Makes-none st log = record { log = sym (append-nil log); run = refl; view = refl }

-- one call after another
pub Makes-then : (a b c : State) (l m n xs ys : List Step) → Makes a b l m xs → Makes b c m n ys → Makes a c l n (xs ++ ys)
Makes-then a b c l m n xs ys p q =
    record {
      log = q.log ∙ ap (λ w. w ++ ys) p.log ∙ append_assoc l xs ys;
      run = IsRun-append a xs ys p.run (subst (λ (w : State). IsRun w ys) (sym p.view) q.run);
      view = state_after-append a xs ys ∙ ap (λ w. state_after w ys) p.view ∙ q.view;
    }
