-- What steps count is told by those that were asked for.
use Rattle.std.proofs.Common.{◌≡◌, ℕ, ◌+◌, Bool, true, false, List, [], ◌∷◌, ◌++◌, cond, refl, ap, ◌∙◌, arith}
use Rattle.std.specs.Prelude.{sum_by}
use Rattle.std.proofs.lemmas.List.Sums.{sum_by-cons, sum_by-append}
use Rattle.jsp_model.specs.declared.step.Step.{Step}
use Rattle.jsp_model.specs.declared.step.Step.TheVariants as step
use Rattle.jsp_model.specs.House.{is_unasked, bare, own_of}
use Rattle.jsp_kept.specs.Counts.{is_asked_by, asks_of, handed_to, outs_of, is_shut, shuts_of}

-- a step that nobody asked for weighs nothing, and rows don't matter
record IsOfOwn (f : Step → ℕ) : Type 0 where
  unasked : (x : Step) → is_unasked x ≡ true → f x ≡ 0
  bare : (x : Step) → f (bare x) ≡ f x

own_at : (f : Step → ℕ) (b : Bool) (x : Step) (xs : List Step) → IsOfOwn f → is_unasked x ≡ b → f x + sum_by f (own_of xs) ≡ sum_by f (own_of (x ∷ xs))
own_at f true x xs h is = rw is (omega (arith, h.unasked x is))
own_at f false x xs h is = rw is (omega (arith, h.bare x, sum_by-cons f (bare x) (own_of xs)))

by_own : (f : Step → ℕ) (xs : List Step) → IsOfOwn f → sum_by f xs ≡ sum_by f (own_of xs)
by_own f [] h = refl
by_own f (x ∷ xs) h = sum_by-cons f x xs ∙ (ap (λ n. f x + n) (by_own f xs h) ∙ own_at f (is_unasked x) x xs h refl)

abbrev ask_weight : ℕ → Step → ℕ
ask_weight s x = cond (is_asked_by s x) 1 0

asks_weigh : (s : ℕ) → IsOfOwn (ask_weight s)
asks_weigh s = record { unasked = unasked; bare = rowless }
  where
    unasked : (x : Step) → is_unasked x ≡ true → ask_weight s x ≡ 0
    unasked (step.Ask t a ns) h = cc (h)
    unasked (step.Fault t id r) h = cc (h)
    unasked (step.Open t) h = refl
    unasked (step.Shut t) h = refl
    unasked (step.Clock t) h = refl
    unasked (step.Grant n ns) h = refl
    unasked (step.Empty n) h = refl
    unasked (step.Tell n) h = refl
    unasked (step.Due item) h = refl
    unasked (step.Vote x space) h = refl
    unasked (step.Decide x commits) h = refl
    unasked (step.HandOut t n) h = refl

    rowless : (x : Step) → ask_weight s (bare x) ≡ ask_weight s x
    rowless (step.Ask t a ns) = refl
    rowless (step.Fault t id r) = refl
    rowless (step.Open t) = refl
    rowless (step.Shut t) = refl
    rowless (step.Clock t) = refl
    rowless (step.Grant n ns) = refl
    rowless (step.Empty n) = refl
    rowless (step.Tell n) = refl
    rowless (step.Due item) = refl
    rowless (step.Vote x space) = refl
    rowless (step.Decide x commits) = refl
    rowless (step.HandOut t n) = refl

outs_weigh : (s : ℕ) → IsOfOwn (handed_to s)
outs_weigh s = record { unasked = unasked; bare = rowless }
  where
    unasked : (x : Step) → is_unasked x ≡ true → handed_to s x ≡ 0
    unasked (step.HandOut t n) h = cc (h)
    unasked (step.Ask t a ns) h = refl
    unasked (step.Fault t id r) h = refl
    unasked (step.Open t) h = refl
    unasked (step.Shut t) h = refl
    unasked (step.Clock t) h = refl
    unasked (step.Grant n ns) h = refl
    unasked (step.Empty n) h = refl
    unasked (step.Tell n) h = refl
    unasked (step.Due item) h = refl
    unasked (step.Vote x space) h = refl
    unasked (step.Decide x commits) h = refl

    rowless : (x : Step) → handed_to s (bare x) ≡ handed_to s x
    rowless (step.Ask t a ns) = refl
    rowless (step.Fault t id r) = refl
    rowless (step.Open t) = refl
    rowless (step.Shut t) = refl
    rowless (step.Clock t) = refl
    rowless (step.Grant n ns) = refl
    rowless (step.Empty n) = refl
    rowless (step.Tell n) = refl
    rowless (step.Due item) = refl
    rowless (step.Vote x space) = refl
    rowless (step.Decide x commits) = refl
    rowless (step.HandOut t n) = refl

abbrev shut_weight : Step → ℕ
shut_weight x = cond (is_shut x) 1 0

shuts_weigh : IsOfOwn shut_weight
shuts_weigh = record { unasked = unasked; bare = rowless }
  where
    unasked : (x : Step) → is_unasked x ≡ true → shut_weight x ≡ 0
    unasked (step.Shut t) h = cc (h)
    unasked (step.HandOut t n) h = refl
    unasked (step.Ask t a ns) h = refl
    unasked (step.Fault t id r) h = refl
    unasked (step.Open t) h = refl
    unasked (step.Clock t) h = refl
    unasked (step.Grant n ns) h = refl
    unasked (step.Empty n) h = refl
    unasked (step.Tell n) h = refl
    unasked (step.Due item) h = refl
    unasked (step.Vote x space) h = refl
    unasked (step.Decide x commits) h = refl

    rowless : (x : Step) → shut_weight (bare x) ≡ shut_weight x
    rowless (step.Ask t a ns) = refl
    rowless (step.Fault t id r) = refl
    rowless (step.Open t) = refl
    rowless (step.Shut t) = refl
    rowless (step.Clock t) = refl
    rowless (step.Grant n ns) = refl
    rowless (step.Empty n) = refl
    rowless (step.Tell n) = refl
    rowless (step.Due item) = refl
    rowless (step.Vote x space) = refl
    rowless (step.Decide x commits) = refl
    rowless (step.HandOut t n) = refl

pub asks_own : (s : ℕ) (xs : List Step) → asks_of s xs ≡ asks_of s (own_of xs)
asks_own s xs = by_own (ask_weight s) xs (asks_weigh s)

pub outs_own : (s : ℕ) (xs : List Step) → outs_of s xs ≡ outs_of s (own_of xs)
outs_own s xs = by_own (handed_to s) xs (outs_weigh s)

pub shuts_own : (xs : List Step) → shuts_of xs ≡ shuts_of (own_of xs)
shuts_own xs = by_own shut_weight xs shuts_weigh

pub asks_append : (s : ℕ) (xs ys : List Step) → asks_of s (xs ++ ys) ≡ asks_of s xs + asks_of s ys
asks_append s xs ys = sum_by-append (ask_weight s) xs ys

pub outs_append : (s : ℕ) (xs ys : List Step) → outs_of s (xs ++ ys) ≡ outs_of s xs + outs_of s ys
outs_append s xs ys = sum_by-append (handed_to s) xs ys

pub shuts_append : (xs ys : List Step) → shuts_of (xs ++ ys) ≡ shuts_of xs + shuts_of ys
shuts_append xs ys = sum_by-append shut_weight xs ys
