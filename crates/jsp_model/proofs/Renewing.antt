-- A batch of renewals: what becomes of each lease doesn't hang on the renewals before it.
use Rattle.std.proofs.Common.{◌≡◌, ℕ, ℤ, ◌+◌, Bool, true, false, List, [], ◌∷◌, map, Option, Some, None, cond, refl, ap, ◌∙◌}
use Rattle.std.specs.Prelude.{◌||◌, ◌==◌, find, is_some, is_none}
use Rattle.std.specs.List.{list_any, scan}
use Rattle.std.specs.Option.{option_map_or}
use Rattle.jsp_types.specs.Tests.{first_that}
use Rattle.jsp_lease.specs.declared.item.Rank.{Rank}
use Rattle.jsp_lease.specs.declared.item.Rank.TheVariants as rank
use Rattle.jsp_lease.specs.Granted.{granted, ms_of}
use Rattle.jsp_reply.specs.declared.refusal.Refusal.TheVariants.{UnknownLease, NotActive, BadLease}
use Rattle.jsp_reply.specs.declared.reply.LeaseOutcome.TheVariants as outcome
use Rattle.jsp_model.specs.declared.state.State.{State}
use Rattle.jsp_model.specs.declared.state.Row.{Row}
use Rattle.jsp_model.specs.declared.state.Registration.{Registration}
use Rattle.jsp_model.specs.declared.state.Transaction.{Transaction}
use Rattle.jsp_model.specs.declared.state.MatchSet.{MatchSet}
use Rattle.jsp_model.specs.Lookup.{update, named, rank_of, is_living, is_voting}
use Rattle.jsp_model.specs.Refusals.{renew_tests}
use Rattle.jsp_model.specs.Changes.{extend, renew, renew_one}
use Rattle.jsp_model.specs.Answers.{outcome_of, renew_answer}

-- ---- a change that the test doesn't see

any_updated : {A : Type 0} (p t : A → Bool) (f : A → A) → ((x : A) → p (f x) ≡ p x) → (xs : List A) → list_any p (update t f xs) ≡ list_any p xs
any_updated p t f h [] = refl
any_updated {A = A} p t f h (x ∷ xs) = ap (λ b. b || list_any p (update t f xs)) (go (t x)) ∙ ap (λ b. p x || b) (any_updated p t f h xs)
  where
    go : (b : Bool) → p (cond b (f x) x) ≡ p x
    go true = h x
    go false = refl

found_updated : {A : Type 0} (p t : A → Bool) (f : A → A) → ((x : A) → p (f x) ≡ p x) → (xs : List A) → is_some (find p (update t f xs)) ≡ is_some (find p xs)
found_updated p t f h [] = refl
found_updated {A = A} p t f h (x ∷ xs) = go (t x) (found_updated p t f h xs)
  where
    either : (y : A) (b : Bool) → is_some (find p (update t f xs)) ≡ is_some (find p xs) → is_some (cond b (Some y) (find p (update t f xs))) ≡ is_some (cond b (Some x) (find p xs))
    either y true rest = refl
    either y false rest = rest

    go : (b : Bool) → is_some (find p (update t f xs)) ≡ is_some (find p xs) → is_some (cond (p (cond b (f x) x)) (Some (cond b (f x) x)) (find p (update t f xs))) ≡ is_some (cond (p x) (Some x) (find p xs))
    go true rest = ap (λ b. is_some (cond b (Some (f x)) (find p (update t f xs)))) (h x) ∙ either (f x) (p x) rest
    go false rest = either x (p x) rest

-- ---- what the numbers name

-- each number names in one state what it names in the other, and the same transactions vote
pub record NamesAlike (now was : State) : Type 0 where
  pub named : (n : ℕ) → rank_of now n ≡ rank_of was n
  pub voting : (n : ℕ) → is_voting now n ≡ is_voting was n

alike_itself : (st : State) → NamesAlike st st
alike_itself st = record { named = λ n. refl; voting = λ n. refl }

alike_then : (a b c : State) → NamesAlike a b → NamesAlike b c → NamesAlike a c
alike_then a b c p q = record { named = λ n. p.named n ∙ q.named n; voting = λ n. p.voting n ∙ q.voting n }

-- what a number names, by the lists that have it
abbrev pub ranks : (row registration transaction set : Bool) → Option Rank
ranks row registration transaction set =
    cond row (Some rank.Entry) (cond registration (Some rank.Registration) (cond transaction (Some rank.Transaction) (cond set (Some rank.MatchSet) None)))

alike_extended : (st : State) (end : ℕ) (r : Rank) (n : ℕ) → NamesAlike (extend st end r n) st
alike_extended st end rank.Entry n = record {
  named = λ m. ap (λ b. ranks b (list_any (λ r. r.number == m) st.registrations) (is_living st m) (list_any (λ s. s.number == m) st.sets))
      (any_updated (λ r. r.number == m) (λ r. r.number == n) (λ (r : Row). record r { end = end }) (λ r. refl) st.rows);
  voting = λ m. refl;
}
alike_extended st end rank.Registration n = record {
  named = λ m. ap (λ b. ranks (list_any (λ r. r.number == m) st.rows) b (is_living st m) (list_any (λ s. s.number == m) st.sets))
      (any_updated (λ r. r.number == m) (λ r. r.number == n) (λ (r : Registration). record r { end = end }) (λ r. refl) st.registrations);
  voting = λ m. refl;
}
alike_extended st end rank.Transaction n = record {
  named = λ m. ap (λ b. ranks (list_any (λ r. r.number == m) st.rows) (list_any (λ r. r.number == m) st.registrations) b (list_any (λ s. s.number == m) st.sets))
      (found_updated (λ t. t.number == m) (λ t. t.number == n) (λ (t : Transaction). record t { end = end }) (λ t. refl) st.transactions);
  voting = λ m. refl;
}
alike_extended st end rank.Blocked n = alike_itself st
alike_extended st end rank.MatchSet n = record {
  named = λ m. ap (λ b. ranks (list_any (λ r. r.number == m) st.rows) (list_any (λ r. r.number == m) st.registrations) (is_living st m) b)
      (any_updated (λ s. s.number == m) (λ s. s.number == n) (λ (s : MatchSet). record s { end = end }) (λ s. refl) st.sets);
  voting = λ m. refl;
}

alike_renewed : (st : State) (lease ms : ℤ) → NamesAlike (renew st lease ms) st
alike_renewed st lease ms = go (rank_of st (named lease))
  where
    go : (r : Option Rank) → NamesAlike (option_map_or (λ r. extend st (st.time + ms_of ms) r (named lease)) r st) st
    go None = alike_itself st
    go (Some r) = alike_extended st (st.time + ms_of ms) r (named lease)

alike_item : (st : State) (l : ℤ × ℤ) → NamesAlike (renew_one st l) st
alike_item st l = go (is_some (first_that (renew_tests st l.0 l.1)))
  where
    go : (b : Bool) → NamesAlike (cond b st (renew st l.0 l.1)) st
    go true = alike_itself st
    go false = alike_renewed st l.0 l.1

-- ---- answers

answered_alike : (now was : State) (l : ℤ × ℤ) → NamesAlike now was → renew_answer now l ≡ renew_answer was l
answered_alike now was l h =
    let tests = λ (r : Option Rank) (b : Bool). (is_none r, UnknownLease) ∷ (b, NotActive) ∷ (is_none (granted l.1), BadLease) ∷ [] in
    let answer = λ (r : Option Rank) (b : Bool). outcome_of (first_that (tests r b)) (outcome.Renewed (ms_of l.1)) in
    ap (λ r. record { lease = l.0; outcome = answer r (is_voting now (named l.0)) }) (h.named (named l.0))
    ∙ ap (λ b. record { lease = l.0; outcome = answer (rank_of was (named l.0)) b }) (h.voting (named l.0))

-- a batch is answered without renewing any
pub renew_answers : (st : State) (leases : List (ℤ × ℤ)) → scan renew_one renew_answer st leases ≡ map (renew_answer st) leases
renew_answers st leases = from st (alike_itself st) leases
  where
    from : (now : State) → NamesAlike now st → (leases : List (ℤ × ℤ)) → scan renew_one renew_answer now leases ≡ map (renew_answer st) leases
    from now h [] = refl
    from now h (l ∷ leases) =
        ap (λ a. a ∷ scan renew_one renew_answer (renew_one now l) leases) (answered_alike now st l h)
        ∙ ap (λ w. renew_answer st l ∷ w) (from (renew_one now l) (alike_then (renew_one now l) now st (alike_item now l) h) leases)
