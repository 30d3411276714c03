-- What the own steps of each call count.
use Rattle.std.proofs.Common.{◌≡◌, ℕ, ◌-◌, ◌<◌, length, sym, subst, Bool, true, false, List, [], ◌∷◌, Option, Some, None, cond, refl, zero-add, Result}
use Rattle.std.specs.Prelude.{option_map, option_to_list, ◌&&◌, ◌==◌}
use Rattle.std.specs.Option.{option_map_or}
use Rattle.std.proofs.lemmas.Bool.{and_parts, eqb-true, ltb-true}
use Rattle.jsp_model.specs.declared.state.State.{State}
use Rattle.jsp_model.specs.declared.state.Joined.{Joined}
use Rattle.jsp_model.specs.declared.step.Step.{Step}
use Rattle.jsp_model.specs.declared.step.Step.TheVariants as step
use Rattle.jsp_model.specs.declared.house.Input.{Input}
use Rattle.jsp_model.specs.declared.house.Input.TheVariants as input
use Rattle.jsp_model.specs.declared.house.Stopped.{Stopped}
use Rattle.jsp_model.specs.declared.house.Settled.{Settled}
use Rattle.jsp_model.specs.Lookup.{is_open}
use Rattle.jsp_model.specs.Settling.{settle_step, first_voting, turn_of}
use Rattle.jsp_model.specs.House.{own_of, accepts, step_of, acted, was_done, settled_by, handed_out}
use Rattle.jsp_drive.specs.declared.hear.LineInput.{LineInput}
use Rattle.jsp_drive.specs.declared.hear.LineInput.TheVariants as line
use Rattle.jsp_kept.specs.Counts.{asks_of, outs_of, shuts_of}
use Rattle.jsp_drive.specs.Line.{input_of}
use Rattle.jsp_kept.specs.History.{Place, is_lawful}
use Rattle.jsp_kept.specs.Calls.{IsOf, made}
use Rattle.jsp_kept.proofs.LastSession.{last_by}

-- these count for nobody
pub record IsUncounted (own : List Step) : Type 0 where
  pub asks : (s : ℕ) → asks_of s own ≡ 0
  pub outs : (s : ℕ) → outs_of s own ≡ 0
  pub shuts : shuts_of own ≡ 0
  pub last : (n : ℕ) → last_by n own ≡ n

pub none_counted : IsUncounted []
none_counted = record { asks = λ s. refl; outs = λ s. refl; shuts = refl; last = λ n. refl }

pub maybe_none : (b : Bool) (own : List Step) → IsUncounted own → IsUncounted (cond b own [])
maybe_none true own h = h
maybe_none false own h = none_counted

-- ---- a reading of the clock

clock_uncounted : (t : ℕ) → IsUncounted (step.Clock t ∷ [])
clock_uncounted t = record { asks = λ s. refl; outs = λ s. refl; shuts = refl; last = λ n. refl }

pub clock_own : (st : State) (t : ℕ) (r : Result Unit Stopped) → IsUncounted (acted st (input.Clock t) r)
clock_own st t r = maybe_none (was_done r) (step.Clock t ∷ []) (clock_uncounted t)

-- ---- an input that isn't done

pub undone_own : (st : State) (x : Input) (r : Result Unit Stopped) → was_done r ≡ false → acted st x r ≡ []
undone_own st x r is = rw is (at (accepts st x))
  where
    at : (b : Bool) → cond (b && false) (step_of x ∷ []) [] ≡ []
    at true = refl
    at false = refl

-- ---- settling

abbrev is_turn : Step → Bool
is_turn (step.Vote x space) = true
is_turn (step.Decide x commits) = true
is_turn _ = false

turn_uncounted : (x : Step) → is_turn x ≡ true → IsUncounted (x ∷ [])
turn_uncounted (step.Vote x space) h = record { asks = λ s. refl; outs = λ s. refl; shuts = refl; last = λ n. refl }
turn_uncounted (step.Decide x commits) h = record { asks = λ s. refl; outs = λ s. refl; shuts = refl; last = λ n. refl }
turn_uncounted (step.Open s) h = cc (h)
turn_uncounted (step.Shut s) h = cc (h)
turn_uncounted (step.Clock t) h = cc (h)
turn_uncounted (step.Ask s a ns) h = cc (h)
turn_uncounted (step.Fault s id r) h = cc (h)
turn_uncounted (step.Grant n ns) h = cc (h)
turn_uncounted (step.Empty n) h = cc (h)
turn_uncounted (step.Tell n) h = cc (h)
turn_uncounted (step.Due item) h = cc (h)
turn_uncounted (step.HandOut s n) h = cc (h)

a_turn : (x : ℕ) (b : Bool) (o : Option Joined) → is_turn (cond b (step.Decide x false) (option_map_or (λ j. step.Vote x j.space) o (step.Decide x true))) ≡ true
a_turn x true o = refl
a_turn x false None = refl
a_turn x false (Some j) = refl

turns_uncounted : (st : State) (o : Option ℕ) → IsUncounted (option_to_list (option_map (turn_of st) o))
turns_uncounted st None = none_counted
turns_uncounted st (Some x) = turn_uncounted (turn_of st x) (a_turn x _ _)

pub settle_own : (st : State) (r : Result Settled Stopped) → IsUncounted (settled_by st r)
settle_own st r = maybe_none (was_done r) (option_to_list (settle_step st)) (turns_uncounted st (first_voting st))

-- ---- a line's input

pub accepts_line : (st : State) (s : ℕ) (given : LineInput) → accepts st (input_of s given) ≡ is_open st s
accepts_line st s (line.Ask a) = refl
accepts_line st s (line.Fault id r) = refl

abbrev one_own : Bool → ℕ → LineInput → List Step
one_own b s given = cond b (step_of (input_of s given) ∷ []) []

-- one request of that session, and nothing else
pub record CountsAsk (own : List Step) (s by : ℕ) : Type 0 where
  pub asks : (t : ℕ) → asks_of t own ≡ cond (s == t) by 0
  pub outs : (t : ℕ) → outs_of t own ≡ 0
  pub shuts : shuts_of own ≡ 0
  pub last : (n : ℕ) → last_by n own ≡ n

nothing : (b : Bool) → ◌≡◌ {A = ℕ} 0 (cond b 0 0)
nothing true = refl
nothing false = refl

one_counts : (b : Bool) (s : ℕ) (given : LineInput) → CountsAsk (one_own b s given) s (cond b 1 0)
one_counts false s given = record { asks = λ t. nothing (s == t); outs = λ t. refl; shuts = refl; last = λ n. refl }
one_counts true s (line.Ask a) = record { asks = λ t. zero-add _; outs = λ t. refl; shuts = refl; last = λ n. refl }
one_counts true s (line.Fault id r) = record { asks = λ t. zero-add _; outs = λ t. refl; shuts = refl; last = λ n. refl }

act_own : (st : State) (s : ℕ) (given : LineInput) (r : Result Unit Stopped) → CountsAsk (acted st (input_of s given) r) s (made (is_open st s) r)
act_own st s given r = rw (accepts_line st s given) (one_counts (is_open st s && was_done r) s given)

-- the same of an input
pub own_of_session : (st : State) (s : ℕ) (x : Input) (r : Result Unit Stopped) → IsOf s x → CountsAsk (acted st x r) s (made (is_open st s) r)
own_of_session st s (input.Ask t a) r is = subst (λ n. CountsAsk (acted st (input.Ask n a) r) s (made (is_open st s) r)) (sym is) (act_own st s (line.Ask a) r)
own_of_session st s (input.Fault t id why) r is = subst (λ n. CountsAsk (acted st (input.Fault n id why) r) s (made (is_open st s) r)) (sym is) (act_own st s (line.Fault id why) r)
own_of_session st s (input.Open t) r is = absurd is
own_of_session st s (input.Clock t) r is = absurd is

-- ---- a lawful count

pub lawful_within : (counts : List ℕ) (book : ℕ) (p : Place) → is_lawful counts book p ≡ true → p.session - 1 < length counts
lawful_within counts book p h = ltb-true (p.session - 1) (length counts) (and_parts _ _ (and_parts _ _ h).0).0

-- ---- handing out

-- so many answers of that session, and nothing else
pub record CountsOut (own : List Step) (s by : ℕ) : Type 0 where
  pub asks : (t : ℕ) → asks_of t own ≡ 0
  pub outs : (t : ℕ) → outs_of t own ≡ cond (s == t) by 0
  pub shuts : shuts_of own ≡ 0
  pub last : (n : ℕ) → last_by n own ≡ n

out_counts : (b : Bool) (s n : ℕ) → (b ≡ true → n ≡ 0) → CountsOut (own_of (cond b [] (step.HandOut s n ∷ []))) s n
out_counts true s n none = record { asks = λ t. refl; outs = λ t. rw (none refl) (nothing (s == t)); shuts = refl; last = λ m. refl }
out_counts false s n none = record { asks = λ t. refl; outs = λ t. zero-add _; shuts = refl; last = λ m. refl }

pub hand_out_own : (s n : ℕ) → CountsOut (own_of (handed_out s n)) s n
hand_out_own s n = out_counts (n == 0) s n (λ e. eqb-true n 0 e)
