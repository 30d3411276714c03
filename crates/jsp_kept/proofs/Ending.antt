-- When an era is full, and what stops a call in it.
use Rattle.std.proofs.Common.{◌≡◌, ℕ, ◌+◌, ◌<◌, ◌≤◌, List, [], true, false, length, Option, Some, Result, Ok, Err, refl, ◌∙◌, ap, subst, arith, length-append}
use Rattle.std.specs.Prelude.{IfErr}
use Rattle.std.proofs.lemmas.Bool.{leb-true}
use Rattle.jsp_model.specs.declared.state.State.{State}
use Rattle.jsp_model.specs.declared.step.Step.{Step}
use Rattle.jsp_model.specs.declared.house.Stopped.{Stopped}
use Rattle.jsp_model.specs.declared.house.Settled.{Settled}
use Rattle.jsp_model.specs.declared.house.Why.{Why}
use Rattle.jsp_model.specs.declared.house.Why.TheVariants as why
use Rattle.jsp_model.specs.Runs.{state_after}
use Rattle.jsp_model.specs.House.{Makes, MayStop, WasFull, is_full, own_of, settled_by}
use Rattle.jsp_quiet.proofs.Falls.{free_run_falls}
use Rattle.jsp_quiet.proofs.Unasked.{all_unasked}
use Rattle.jsp_kept.specs.History.{History, Beside, IsWhole}
use Rattle.jsp_kept.specs.Eras.{HasPlace, NeedsMemory, left_to_make}

-- ---- the bound

full_reaches : (bound : Option ℕ) (limit n : ℕ) → bound ≡ Some limit → is_full bound n ≡ true → limit ≤ n
full_reaches bound limit n is full = leb-true limit n (subst (λ (o : Option ℕ). is_full o n ≡ true) is full)

pub place_free : (h : History) (b : Beside) (n : ℕ) → IsWhole h b → HasPlace h → n ≡ length h.steps → is_full b.bound n ≡ true → ⊥
place_free h b n whole place is full = let low = full_reaches b.bound b.limit n whole.bound full in omega (arith, low, is, place, whole.limit)

-- ---- an act that the house was made ready for

pub needs_memory : (h : History) (b : Beside) (n m : ℕ) (r : Result Unit Stopped) → IsWhole h b → HasPlace h → n ≡ length h.steps → WasFull b.bound n r → IfErr r (λ e. MayStop b.bound m e.why) → IfErr r NeedsMemory
needs_memory h b n m (Ok u) whole place is full may = tt
needs_memory h b n m (Err e) whole place is full may = λ undone. at e.why refl may undone
  where
    at : (w : Why) → e.why ≡ w → MayStop b.bound m w → e.done ≡ false → w ≡ why.NoMemory
    at why.NoMemory same k undone = refl
    at why.EraFull same k undone = absurd (place_free h b n whole place is (full same undone))
    at why.Sessions same k undone = absurd k
    at why.Audit same k undone = absurd k

-- ---- steps that nobody asked for

pub nearer : (h : History) (new : State) (after : List Step) (b : Beside) (m : ℕ) (w : Why) (steps : List Step) → IsWhole h b → HasPlace h → Makes h.state new h.steps after steps → own_of steps ≡ [] → m ≡ length after
    → MayStop b.bound m w → w ≡ why.EraFull → left_to_make new < left_to_make h.state
nearer h new after b m w steps whole place makes free is may full =
    let reached : is_full b.bound m ≡ true = subst (MayStop b.bound m) full may in
    let low = full_reaches b.bound b.limit m whole.bound reached in
    let more : length after ≡ length h.steps + length steps = ap length makes.log ∙ length-append h.steps steps in
    let falls : length steps + left_to_make (state_after h.state steps) ≤ left_to_make h.state = free_run_falls h.state steps makes.run (all_unasked steps free) in
    let same : left_to_make (state_after h.state steps) ≡ left_to_make new = ap left_to_make makes.view in
    omega (arith, low, is, more, place, whole.limit, falls, same)

pub nearer_ready : (h : History) (new : State) (after : List Step) (b : Beside) (m : ℕ) (r : Result Unit Why) (steps : List Step) → IsWhole h b → HasPlace h → Makes h.state new h.steps after steps → own_of steps ≡ [] → m ≡ length after
    → IfErr r (MayStop b.bound m) → IfErr r (λ w. w ≡ why.EraFull → left_to_make new < left_to_make h.state)
nearer_ready h new after b m (Ok u) steps whole place makes free is may = tt
nearer_ready h new after b m (Err w) steps whole place makes free is may = nearer h new after b m w steps whole place makes free is may

pub nearer_finished : (h : History) (new : State) (after : List Step) (b : Beside) (m : ℕ) (r : Result Unit Stopped) (steps : List Step) → IsWhole h b → HasPlace h → Makes h.state new h.steps after steps → own_of steps ≡ [] → m ≡ length after
    → IfErr r (λ e. MayStop b.bound m e.why) → IfErr r (λ e. e.why ≡ why.EraFull → left_to_make new < left_to_make h.state)
nearer_finished h new after b m (Ok u) steps whole place makes free is may = tt
nearer_finished h new after b m (Err e) steps whole place makes free is may = nearer h new after b m e.why steps whole place makes free is may

pub nearer_settled : (h : History) (new : State) (after : List Step) (b : Beside) (m : ℕ) (r : Result Settled Stopped) (steps : List Step) → IsWhole h b → HasPlace h → Makes h.state new h.steps after steps → own_of steps ≡ settled_by h.state r → m ≡ length after
    → IfErr r (λ e. MayStop b.bound m e.why) → IfErr r (λ e. e.done ≡ false → e.why ≡ why.EraFull → left_to_make new < left_to_make h.state)
nearer_settled h new after b m (Ok s) steps whole place makes own is may = tt
nearer_settled h new after b m (Err e) steps whole place makes own is may = λ undone. nearer h new after b m e.why steps whole place makes (own ∙ rw undone refl) is may
