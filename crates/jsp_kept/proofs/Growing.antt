-- A history grows by one call after another, in one era or in several.
use Rattle.std.proofs.Common.{◌≡◌, ℕ, ◌+◌, ◌<◌, ◌≤◌, ◌⊎◌, inl, inr, List, [], ◌∷◌, ◌++◌, Bool, true, false, length, get_or, cond, ◌&&◌, Option, Some, None, Result, Ok, Err, refl, sym, ◌∙◌, ap, subst, arith, append_assoc, add-zero, length-append}
use Rattle.std.specs.Prelude.{◌==◌, ◌||◌, OnErr}
use Rattle.std.specs.List.{list_all}
use Rattle.std.proofs.lemmas.Bool.{and_from, eq-eqb}
use Rattle.std.proofs.lemmas.List.{append-nil}
use Rattle.jsp_model.specs.declared.state.State.{State}
use Rattle.jsp_model.specs.declared.step.Step.{Step}
use Rattle.jsp_model.specs.declared.house.Input.{Input}
use Rattle.jsp_model.specs.declared.house.Stopped.{Stopped}
use Rattle.jsp_model.specs.declared.house.Why.TheVariants as why
use Rattle.jsp_model.specs.Lookup.{contains}
use Rattle.jsp_model.specs.Quiet.{is_quiet, are_quiet}
use Rattle.jsp_model.specs.Runs.{IsRun, state_after}
use Rattle.jsp_model.specs.House.{Covers, Goes, Leaves, Makes, acted, own_of, touched}
use Rattle.jsp_model.proofs.Joining.{IsRun-append, own_of-append, state_after-append}
use Rattle.jsp_quiet.proofs.Covering.{all_both, all_parts, covered, covers_more, touched-append}
use Rattle.jsp_kept.specs.Counts.{asks_of, outs_of}
use Rattle.jsp_kept.specs.History.{History}
use Rattle.jsp_kept.specs.Calls.{KeepsEra, KeepsAsks, KeepsOuts, Seals}
use Rattle.jsp_kept.specs.Eras.{EraContinues, WasSealed, Grows, GrowsAsAsked, Prepares, no_memory}
use Rattle.jsp_kept.proofs.Weights.{asks_own, outs_own, asks_append, outs_append}
use Rattle.jsp_kept.proofs.Owns.{undone_own}
use Rattle.jsp_kept.proofs.Keeping.{CountsUp}

-- ---- one part

-- in one era
pub grows_in_era : (h k : History) (steps : List Step) → KeepsEra h k → Makes h.state k.state h.steps k.steps steps → CountsUp h k (own_of steps) → Grows h k steps
grows_in_era h k steps era makes counts = record {
  run = makes.run;
  state = sym makes.view;
  eras = inl (record { steps = makes.log; is_sealed = era.is_sealed });
  asked = λ i. counts.asked i ∙ ap (λ n. get_or h.asked i 0 + n) (sym (asks_own (i + 1) steps));
  taken = λ i. counts.taken i ∙ ap (λ n. get_or h.taken i 0 + n) (sym (outs_own (i + 1) steps));
  spaces = era.spaces;
  era = era.era;
}

-- nothing was made
pub grows_none : (h : History) → Grows h h []
grows_none h = record {
  run = refl;
  state = refl;
  eras = inl (record { steps = sym (append-nil h.steps); is_sealed = refl });
  asked = λ i. sym (add-zero _);
  taken = λ i. sym (add-zero _);
  spaces = refl;
  era = refl;
}

-- a new era began, since the one before was full
pub grows_sealed : (h k : History) → Seals h k → h.era ≤ length h.steps → Grows h k []
grows_sealed h k s full = record {
  run = refl;
  state = s.state;
  eras = inr (record {
    earlier = [];
    full = rw (add-zero (length h.steps)) full;
    steps = sym s.steps;
    is_sealed = s.is_sealed;
  });
  asked = λ i. rw s.asked (sym (add-zero _));
  taken = λ i. rw s.taken (sym (add-zero _));
  spaces = s.spaces;
  era = s.era;
}

-- ---- one part after another

-- where a later era was full
full_then : (h k : History) (xs later : List Step) → k.era ≡ h.era → k.era ≤ length k.steps + length later → EraContinues h k xs ⊎ WasSealed h k xs → h.era ≤ length h.steps + length (xs ++ later)
full_then h k xs later same full (inl a) = omega (arith, same, full, ap length a.steps, length-append h.steps xs, length-append xs later)
full_then h k xs later same full (inr a) = omega (arith, a.full, ap length a.steps, length-append a.earlier k.steps, length-append xs later)

eras_then : (h k l : History) (xs ys : List Step) → Grows h k xs → Grows k l ys → EraContinues h k xs ⊎ WasSealed h k xs → EraContinues k l ys ⊎ WasSealed k l ys → EraContinues h l (xs ++ ys) ⊎ WasSealed h l (xs ++ ys)
eras_then h k l xs ys g q (inl a) (inl b) = inl (record {
  steps = b.steps ∙ (ap (λ w. w ++ ys) a.steps ∙ append_assoc h.steps xs ys);
  is_sealed = b.is_sealed ∙ a.is_sealed;
})
eras_then h k l xs ys g q (inr a) (inl b) = inr (record {
  earlier = a.earlier;
  full = a.full;
  steps = ap (λ w. w ++ ys) a.steps ∙ (append_assoc a.earlier k.steps ys ∙ ap (λ w. a.earlier ++ w) (sym b.steps));
  is_sealed = b.is_sealed ∙ a.is_sealed;
})
eras_then h k l xs ys g q s (inr b) = inr (record {
  earlier = xs ++ b.earlier;
  full = full_then h k xs b.earlier g.era b.full s;
  steps = ap (λ w. xs ++ w) b.steps ∙ sym (append_assoc xs b.earlier l.steps);
  is_sealed = b.is_sealed;
})

pub grows_then : (h k l : History) (xs ys : List Step) → Grows h k xs → Grows k l ys → Grows h l (xs ++ ys)
grows_then h k l xs ys g q = record {
  run = IsRun-append h.state xs ys g.run (subst (λ (w : State). IsRun w ys) g.state q.run);
  state = q.state ∙ (ap (λ (w : State). state_after w ys) g.state ∙ sym (state_after-append h.state xs ys));
  eras = eras_then h k l xs ys g q g.eras q.eras;
  asked = λ i. omega (arith, q.asked i, g.asked i, asks_append (i + 1) xs ys);
  taken = λ i. omega (arith, q.taken i, g.taken i, outs_append (i + 1) xs ys);
  spaces = q.spaces ∙ g.spaces;
  era = q.era ∙ g.era;
}

-- ---- what is owed

or_second : (b c : Bool) → c ≡ true → (b || c) ≡ true
or_second true c h = refl
or_second false c h = h

all_owed : (owed xs : List ℕ) → ((p : ℕ) → contains xs p ≡ true → contains owed p ≡ true) → Covers owed xs
all_owed owed [] h = refl
all_owed owed (x ∷ xs) h =
    and_from (contains owed x) (list_all (contains owed) xs) (h x (rw (eq-eqb x x refl) refl)) (all_owed owed xs (λ p m. h p (or_second (x == p) (contains xs p) m)))

pub covers_itself : (owed : List ℕ) → Covers owed owed
covers_itself owed = all_owed owed owed (λ p m. m)

-- what holds of all that the second part touched, and of what the first one left owed, holds of all that both touched and owed
widened : (t : ℕ → Bool) (h k : History) (xs ys : List Step) → k.state ≡ state_after h.state xs → Covers k.debt (touched h.state xs ++ h.debt)
    → list_all t (touched k.state ys ++ k.debt) ≡ true → list_all t (touched h.state (xs ++ ys) ++ h.debt) ≡ true
widened t h k xs ys is owed all =
    let later = all_parts t (touched k.state ys) k.debt all in
    let earlier = all_parts t (touched h.state xs) h.debt (covered t k.debt (touched h.state xs ++ h.debt) owed later.1) in
    let same : touched h.state (xs ++ ys) ≡ touched h.state xs ++ touched k.state ys = touched-append h.state xs ys ∙ ap (λ (w : State). touched h.state xs ++ touched w ys) (sym is) in
    all_both t (touched h.state (xs ++ ys)) h.debt (ap (list_all t) same ∙ all_both t (touched h.state xs) (touched k.state ys) earlier.0 later.0) earlier.1

leaves_then : (r : Result Unit Stopped) (h k l : History) (xs ys : List Step) → k.state ≡ state_after h.state xs → Covers k.debt (touched h.state xs ++ h.debt)
    → Leaves r l.state (touched k.state ys ++ k.debt) l.debt → Leaves r l.state (touched h.state (xs ++ ys) ++ h.debt) l.debt
leaves_then (Ok u) h k l xs ys is owed left = (left.0, widened (is_quiet l.state) h k xs ys is owed left.1, left.2)
leaves_then (Err e) h k l xs ys is owed left = widened (contains l.debt) h k xs ys is owed left

-- ---- calls

pub prepares_none : (h : History) → Prepares h h
prepares_none h = record { steps = []; grows = grows_none h; own_steps = refl; covers = covers_itself h.debt }

pub prepares_sealed : (h k : History) → Seals h k → h.era ≤ length h.steps → Prepares h k
prepares_sealed h k s full = record { steps = []; grows = grows_sealed h k s full; own_steps = refl; covers = rw s.debt (covers_itself h.debt) }

pub performs_then : (h k l : History) (own : List Step) (r : Result Unit Stopped) → Prepares h k → GrowsAsAsked k l own r → GrowsAsAsked h l own r
performs_then h k l own r p q = record {
  steps = p.steps ++ q.steps;
  grows = grows_then h k l p.steps q.steps p.grows q.grows;
  own_steps = own_of-append p.steps q.steps ∙ rw (p.own_steps) q.own_steps;
  leaves = leaves_then r h k l p.steps q.steps p.grows.state p.covers q.leaves;
}

-- a call that was stopped, and what it left
pub performs_on : (h k l : History) (own : List Step) (e : Stopped) (r : Result Unit Stopped) → GrowsAsAsked h k own (Err e) → GrowsAsAsked k l [] r → GrowsAsAsked h l own r
performs_on h k l own e r p q = record {
  steps = p.steps ++ q.steps;
  grows = grows_then h k l p.steps q.steps p.grows q.grows;
  own_steps = own_of-append p.steps q.steps ∙ rw (q.own_steps) (append-nil (own_of p.steps) ∙ p.own_steps);
  leaves = leaves_then r h k l p.steps q.steps p.grows.state p.leaves q.leaves;
}

pub performs_stopped : (h k : History) (e : Stopped) → Prepares h k → GrowsAsAsked h k [] (Err e)
performs_stopped h k e p = record { steps = p.steps; grows = p.grows; own_steps = p.own_steps; leaves = p.covers }

-- it made no step of its own
pub performs_unmade : (h k : History) (x : Input) (e : Stopped) → e.done ≡ false → Prepares h k → GrowsAsAsked h k (acted {A = Unit {0}} h.state x (Err e)) (Err e)
performs_unmade h k x e undone p = record { steps = p.steps; grows = p.grows; own_steps = p.own_steps ∙ sym (undone_own h.state x (Err e) undone); leaves = p.covers }

pub stopped_prepares : (h k : History) (e : Stopped) → GrowsAsAsked h k [] (Err e) → Prepares h k
stopped_prepares h k e p = record { steps = p.steps; grows = p.grows; own_steps = p.own_steps; covers = p.leaves }

pub prepares_then : (h k l : History) → Prepares h k → Prepares k l → Prepares h l
prepares_then h k l p q = stopped_prepares h l (no_memory false) (performs_then h k l [] (Err (no_memory false)) p (performs_stopped k l (no_memory false) q))

-- ---- one call of the house

pub performs_in_era : (h k : History) (own steps : List Step) (r : Result Unit Stopped) → KeepsEra h k → Makes h.state k.state h.steps k.steps steps → CountsUp h k (own_of steps) → own_of steps ≡ own
    → Leaves r k.state (touched h.state steps ++ h.debt) k.debt → GrowsAsAsked h k own r
performs_in_era h k own steps r era makes counts is left = record { steps = steps; grows = grows_in_era h k steps era makes counts; own_steps = is; leaves = left }

pub prepares_in_era : (h k : History) → KeepsEra h k → (g : Goes h.state k.state h.debt k.debt h.steps k.steps) → CountsUp h k (own_of g.steps) → Prepares h k
prepares_in_era h k era g counts = record { steps = g.steps; grows = grows_in_era h k g.steps era g.makes counts; own_steps = g.own; covers = g.covers }

-- ---- the counts

pub asks_none : (h : History) → KeepsAsks h h
asks_none h = record { asked = refl; book = refl }

pub outs_none : (h : History) → KeepsOuts h h
outs_none h = record { taken = refl; book = refl }

pub asks_then : (h k l : History) → KeepsAsks h k → KeepsAsks k l → KeepsAsks h l
asks_then h k l a b = record { asked = b.asked ∙ a.asked; book = b.book ∙ a.book }

pub outs_then : (h k l : History) → KeepsOuts h k → KeepsOuts k l → KeepsOuts h l
outs_then h k l a b = record { taken = b.taken ∙ a.taken; book = b.book ∙ a.book }

pub on_err : {A E P : Type 0} (r : Result A E) → P → OnErr r P
on_err (Ok x) p = tt
on_err (Err e) p = p
