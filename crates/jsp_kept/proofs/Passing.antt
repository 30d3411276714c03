-- What is said of a call whose steps were prepared in earlier eras.
use Rattle.std.proofs.Common.{◌≡◌, ℕ, ◌+◌, ◌-◌, List, [], ◌∷◌, ◌++◌, Bool, true, false, cond, ◌&&◌, Option, Some, Result, Ok, Err, zero, suc, refl, sym, ◌∙◌, ap, subst, add-zero}
use Rattle.std.specs.Prelude.{IfOk, IfErr, OnErr, ◌==◌}
use Rattle.std.specs.List.{list_any}
use Rattle.jsp_model.specs.declared.state.State.{State}
use Rattle.jsp_model.specs.declared.state.Session.{Session}
use Rattle.jsp_model.specs.declared.step.Step.{Step}
use Rattle.jsp_model.specs.declared.house.Input.{Input}
use Rattle.jsp_model.specs.declared.house.Stopped.{Stopped}
use Rattle.jsp_model.specs.declared.house.Settled.{Settled}
use Rattle.jsp_model.specs.Lookup.{is_open}
use Rattle.jsp_model.specs.House.{accepts, acted, step_of, was_done}
use Rattle.jsp_quiet.proofs.Unasked.{still_accepts}
use Rattle.jsp_kept.specs.Calls.{Begins, KeepsAsks, KeepsOuts, RaisesAsks, made, raised}
use Rattle.jsp_kept.specs.Eras.{GrowsAsAsked, Prepares, no_memory}
use Rattle.jsp_kept.specs.History.{History, Place}
use Rattle.jsp_model.specs.declared.house.Input.TheVariants as input
use Rattle.jsp_model.specs.declared.house.Why.TheVariants as why
use Rattle.jsp_kept.specs.Calls.{MayNotBegin, outcome}
use Rattle.jsp_kept.specs.Eras.{Grows}
use Rattle.jsp_kept.proofs.Growing.{performs_then, performs_on, asks_then, outs_then}
use Rattle.jsp_kept.proofs.Turning.{prepares_leaves}

-- ---- an input

own_if : (a b : Bool) (done : Bool) (x : Input) → a ≡ b → (cond (a && done) (step_of x ∷ []) []) ≡ (cond (b && done) (step_of x ∷ []) [])
own_if a b done x is = ap (λ c. cond (c && done) (step_of x ∷ []) []) is

pub acted_then : (h k l : History) (x : Input) (r : Result Unit Stopped) → Prepares h k → GrowsAsAsked k l (acted k.state x r) r → GrowsAsAsked h l (acted h.state x r) r
acted_then h k l x r p q =
    performs_then h k l (acted h.state x r) r p (subst (λ own. GrowsAsAsked k l own r) (own_if (accepts k.state x) (accepts h.state x) (was_done r) x (still_accepts h.state k.state x (prepares_leaves h k p))) q)

own_done : (a d e : Bool) (x : Input) → d ≡ e → (cond (a && d) (step_of x ∷ []) []) ≡ (cond (a && e) (step_of x ∷ []) [])
own_done a d e x is = ap (λ c. cond (a && c) (step_of x ∷ []) []) is

finished_done : (r : Result Unit Stopped) → IfErr r (λ e. e ≡ no_memory true) → was_done r ≡ true
finished_done (Ok u) h = refl
finished_done (Err e) h = ap (λ (x : Stopped). x.done) h

-- it was stopped behind its own step, and went on
pub acted_on : (h k l : History) (x : Input) (e : Stopped) (r : Result Unit Stopped) → e.done ≡ true → GrowsAsAsked h k (acted {A = Unit {0}} h.state x (Err e)) (Err e) → GrowsAsAsked k l [] r → IfErr r (λ e. e ≡ no_memory true)
    → GrowsAsAsked h l (acted h.state x r) r
acted_on h k l x e r done p q is =
    performs_on h k l (acted h.state x r) e r (subst (λ own. GrowsAsAsked h k own (Err e)) (own_done (accepts h.state x) e.done (was_done r) x (done ∙ sym (finished_done r is))) p) q

-- ---- counts

raised_none : (xs : List ℕ) (i : ℕ) → xs ≡ raised xs i 0
raised_none [] i = refl
raised_none (x ∷ xs) zero = ap (λ n. n ∷ xs) (sym (add-zero x))
raised_none (x ∷ xs) (suc i) = ap (λ w. x ∷ w) (raised_none xs i)

made_none : (b : Bool) → ◌≡◌ {A = ℕ} (cond (b && false) 1 0) 0
made_none true = refl
made_none false = refl

same_place : (p : Place) → p ≡ record { session = p.session; count = p.count + 0 }
same_place p = ap (λ n. record { session = p.session; count = n }) (sym (add-zero p.count))

pub raises_none : (h k : History) (p : Place) (b : Bool) (e : Stopped) → e.done ≡ false → KeepsAsks h k → RaisesAsks h k p p (made {A = Unit {0}} b (Err e))
raises_none h k p b e undone a =
    rw (undone, made_none b) (record { asked = a.asked ∙ raised_none h.asked (p.session - 1); book = a.book ∙ sym (add-zero h.asks_book); seat = same_place p })

pub raises_then : (h k l : History) (p q : Place) (r : Result Unit Stopped) → Prepares h k → KeepsAsks h k → RaisesAsks k l p q (made (is_open k.state p.session) r) → RaisesAsks h l p q (made (is_open h.state p.session) r)
raises_then h k l p q r ready a b =
    let opened : is_open k.state p.session ≡ is_open h.state p.session = ap (λ (ss : List Session). list_any (λ s. s.number == p.session) ss) (prepares_leaves h k ready).sessions in
    let now : RaisesAsks k l p q (made (is_open h.state p.session) r) = subst (λ b. RaisesAsks k l p q (made b r)) opened b in
    record {
      asked = now.asked ∙ ap (λ xs. raised xs (p.session - 1) (made (is_open h.state p.session) r)) a.asked;
      book = now.book ∙ ap (λ n. n + made (is_open h.state p.session) r) a.book;
      seat = now.seat;
    }

pub raises_on : (h k l : History) (p q : Place) (e : Stopped) (r : Result Unit Stopped) → e.done ≡ true → IfErr r (λ e. e ≡ no_memory true) → RaisesAsks h k p q (made {A = Unit {0}} (is_open h.state p.session) (Err e)) → KeepsAsks k l
    → RaisesAsks h l p q (made (is_open h.state p.session) r)
raises_on h k l p q e r done is b a =
    let same : e.done ≡ was_done r = done ∙ sym (finished_done r is) in
    let now : RaisesAsks h k p q (made (is_open h.state p.session) r) = subst (λ d. RaisesAsks h k p q (cond (is_open h.state p.session && d) 1 0)) same b in
    record { asked = a.asked ∙ now.asked; book = a.book ∙ now.book; seat = now.seat }

-- ---- a session

pub begins_then : (h k l : History) (p q : Place) → Prepares h k → KeepsAsks h k → KeepsOuts h k → Begins k l p q → Begins h l p q
begins_then h k l p q ready a o b =
    let last : k.state.last_session ≡ h.state.last_session = (prepares_leaves h k ready).last_session in
    record {
      asks = b.asks ∙ ap (λ n. record { session = n + 1; count = 0 }) last;
      outs = b.outs ∙ ap (λ n. record { session = n + 1; count = 0 }) last;
      asked = b.asked ∙ ap (λ xs. xs ++ 0 ∷ []) a.asked;
      taken = b.taken ∙ ap (λ xs. xs ++ 0 ∷ []) o.taken;
      asks_book = b.asks_book ∙ a.book;
      outs_book = b.outs_book ∙ o.book;
    }

pub opens_then : {A : Type 0} (h k l : History) (s : ℕ) (r : Result A Stopped) → Prepares h k → s ≡ h.state.last_session + 1 → GrowsAsAsked k l (acted k.state (input.Open s) (outcome r)) (outcome r)
    → GrowsAsAsked h l (acted h.state (input.Open (h.state.last_session + 1)) (outcome r)) (outcome r)
opens_then h k l s r p is q = subst (λ n. GrowsAsAsked h l (acted h.state (input.Open n) (outcome r)) (outcome r)) is (acted_then h k l (input.Open s) (outcome r) p q)

pub not_begun : {A : Type 0} (h : History) (r : Result A Stopped) → IfErr r (λ e. (e.done ≡ false) × (e.why ≡ why.NoMemory)) → IfErr r (λ e. MayNotBegin h e.why)
not_begun h (Ok x) k = tt
not_begun h (Err e) k = rw k.1 tt

pub undone_begun : {A : Type 0} (r : Result A Stopped) → IfErr r (λ e. (e.done ≡ false) × (e.why ≡ why.NoMemory)) → IfErr r (λ e. e.done ≡ false)
undone_begun (Ok x) k = tt
undone_begun (Err e) k = k.0

-- ---- where a call fails

pub err_then : {A E P Q : Type 0} (r : Result A E) → OnErr r P → (P → Q) → OnErr r Q
err_then (Ok x) p f = tt
err_then (Err e) p f = f p
