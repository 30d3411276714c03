-- Where a part is stopped.
use Rattle.std.proofs.Common.{◌≡◌, ℕ, ◌+◌, ◌<◌, ◌≤◌, ◌⊎◌, inl, inr, Option, Some, true, false, cond, Result, Ok, Err, length, ap, sym, ◌∙◌, subst, arith, add-zero}
use Rattle.std.specs.Prelude.{IfErr, nat_le}
use Rattle.std.proofs.lemmas.Bool.{leb-true, le-leb}
use Rattle.std.proofs.lemmas.Bool.Decides.{nat_tests}
use Rattle.jsp_model.specs.declared.house.Stopped.{Stopped}
use Rattle.jsp_model.specs.declared.house.Why.{Why}
use Rattle.jsp_model.specs.declared.house.Why.TheVariants as why
use Rattle.jsp_model.specs.House.{MayStop, is_full}
use Rattle.jsp_kept.specs.History.{History, limit_of}
use Rattle.jsp_kept.specs.Calls.{Seals}
use Rattle.jsp_kept.specs.Parts.{IsLong, begun, limit_begun}

-- ---- at its bound

reached : (bound : Option ℕ) (len most limit end n : ℕ) (w : Why) → (end ≡ len + most) ⊎ (end ≡ limit) → bound ≡ Some end → MayStop bound n w → w ≡ why.EraFull → IsLong len limit most n
reached bound len most limit end n w which is may full =
    let stopped : is_full bound n ≡ true = subst (MayStop bound n) full may in
    let low : end ≤ n = leb-true end n (subst (λ (o : Option ℕ). is_full o n ≡ true) is stopped) in
    at which low
  where
    at : (end ≡ len + most) ⊎ (end ≡ limit) → end ≤ n → IsLong len limit most n
    at (inl whole) low = inl (omega (arith, whole, low))
    at (inr whole) low = inr (omega (arith, whole, low))

moved : (len len' limit limit' most n n' : ℕ) → len ≡ len' → limit ≡ limit' → n ≡ n' → IsLong len limit most n → IsLong len' limit' most n'
moved len len' limit limit' most n n' from at to (inl h) = inl (omega (arith, from, to, h))
moved len len' limit limit' most n n' from at to (inr h) = inr (omega (arith, at, to, h))

pub stopped_long : {A : Type 0} (bound : Option ℕ) (len most limit end n : ℕ) (r : Result A Stopped) → (end ≡ len + most) ⊎ (end ≡ limit) → bound ≡ Some end → IfErr r (λ e. MayStop bound n e.why)
    → IfErr r (λ e. e.why ≡ why.EraFull → IsLong len limit most n)
stopped_long bound len most limit end n (Ok x) which is may = tt
stopped_long bound len most limit end n (Err e) which is may = reached bound len most limit end n e.why which is may

pub readied_long : {A : Type 0} (bound : Option ℕ) (len most limit end n : ℕ) (r : Result A Why) → (end ≡ len + most) ⊎ (end ≡ limit) → bound ≡ Some end → IfErr r (MayStop bound n)
    → IfErr r (λ w. w ≡ why.EraFull → IsLong len limit most n)
readied_long bound len most limit end n (Ok x) which is may = tt
readied_long bound len most limit end n (Err w) which is may = reached bound len most limit end n w which is may

-- the same, with what the history has
pub part_stopped : {A : Type 0} (len len' limit limit' most n n' : ℕ) (r : Result A Stopped) → len ≡ len' → limit ≡ limit' → n ≡ n'
    → IfErr r (λ e. e.why ≡ why.EraFull → IsLong len limit most n) → IfErr r (λ e. e.why ≡ why.EraFull → IsLong len' limit' most n')
part_stopped len len' limit limit' most n n' (Ok x) from at to h = tt
part_stopped len len' limit limit' most n n' (Err e) from at to h = λ full. moved len len' limit limit' most n n' from at to (h full)

pub part_readied : {A : Type 0} (len len' limit limit' most n n' : ℕ) (r : Result A Why) → len ≡ len' → limit ≡ limit' → n ≡ n'
    → IfErr r (λ w. w ≡ why.EraFull → IsLong len limit most n) → IfErr r (λ w. w ≡ why.EraFull → IsLong len' limit' most n')
part_readied len len' limit limit' most n n' (Ok x) from at to h = tt
part_readied len len' limit limit' most n n' (Err w) from at to h = λ full. moved len len' limit limit' most n n' from at to (h full)

-- ---- where a part begins

full : (h : History) → limit_of h ≤ length h.steps → nat_le (limit_of h) (length h.steps) ≡ true
full h is = le-leb (limit_of h) (length h.steps) is

free : (h : History) → length h.steps < limit_of h → nat_le (limit_of h) (length h.steps) ≡ false
free h is = grind (arith, nat_tests, is)

pub begins_anew : (h k : History) → Seals h k → limit_of h ≤ length h.steps → length k.steps ≡ begun h
begins_anew h k seals is = ap length seals.steps ∙ sym (ap (λ b. cond b 0 (length h.steps)) (full h is))

pub ends_anew : (h k : History) → Seals h k → limit_of h ≤ length h.steps → limit_of k ≡ limit_begun h
ends_anew h k seals is =
    let none : limit_of k ≡ h.era = rw (seals.steps, seals.era) (add-zero h.era) in
    none ∙ sym (ap (λ b. cond b h.era (limit_of h)) (full h is))

pub goes_on : (h : History) → length h.steps < limit_of h → length h.steps ≡ begun h
goes_on h is = sym (ap (λ b. cond b 0 (length h.steps)) (free h is))

pub ends_as_before : (h : History) → length h.steps < limit_of h → limit_of h ≡ limit_begun h
ends_as_before h is = sym (ap (λ b. cond b h.era (limit_of h)) (free h is))
