-- The step that quiets a space further is legal, and there is one wherever the space isn't quiet.
use Rattle.std.proofs.Common.{◌≡◌, refl, ap, subst, ◌∙◌, ℕ, ◌<◌, ◌≤◌, List, take, length, Bool, true, false, not, ◌&&◌, ◌||◌, Some, None, ◌==◌, arith}
use Rattle.std.specs.Prelude.{find}
use Rattle.std.specs.List.{list_all, list_any}
use Rattle.std.proofs.lemmas.Bool.{and_parts, and_from, eqb-true, eqb-false, not-true}
use Rattle.jsp_model.specs.declared.state.State.{State}
use Rattle.jsp_model.specs.declared.state.Registration.{Registration}
use Rattle.jsp_model.specs.declared.state.Blocked.{Blocked}
use Rattle.jsp_model.specs.declared.step.Step.TheVariants as step
use Rattle.jsp_model.specs.Limits.{IsWithinLimits}
use Rattle.jsp_model.specs.Sight.{available}
use Rattle.jsp_model.specs.Quiet.{must_wait, is_quiet}
use Rattle.jsp_model.specs.Steps.{is_legal}
use Rattle.jsp_model.specs.Lookup.{registration_of}
use Rattle.jsp_model.specs.House.{all_must_wait, comes_in_turn}
use Rattle.std.specs.Prelude.{Option}
use Rattle.std.specs.Option.{option_map_or}
use Rattle.jsp_laws.proofs.Lists.{Has, each_any, each_by_all, each_has, each_itself, found_has}
use Rattle.jsp_quiet.proofs.Progress.{can_grant, can_empty, can_tell, find_only}
use Rattle.jsp_quiet.proofs.Lists.{all_has, find_none}
use Rattle.jsp_house.proofs.Places.{limits_rising, limits_some}

abbrev pub grantable : State → ℕ → Blocked → Bool
grantable st p b = b.space == p && not (length (available st b) == 0)

abbrev pub released : State → ℕ → Blocked → Bool
released st p b = b.space == p && not (must_wait st b)

abbrev pub is_owed : ℕ → Registration → Bool
is_owed p r = r.space == p && not (length r.owed == 0)

some_of : (n : ℕ) → not (n == 0) ≡ true → 0 < n
some_of n h = let d : n ≡ 0 → ⊥ = eqb-false n 0 (not-true (n == 0) h) in omega (arith, d)

pub grants : (st : State) (p : ℕ) (b : Blocked) (ns : List ℕ) → IsWithinLimits st → find (grantable st p) st.blocked ≡ Some b → ns ≡ take b.most (available st b) → is_legal st (step.Grant b.number ns) ≡ true
grants st p b ns h found chosen =
    let k = found_has (grantable st p) st.blocked b found in
    let some : 0 < length (available st b) = some_of (length (available st b)) (and_parts (b.space == p) (not (length (available st b) == 0)) k.1).1 in
    ap (λ (w : List ℕ). is_legal st (step.Grant b.number w)) chosen
    ∙ can_grant st b (limits_rising st h) k.0 (each_has (λ (b : Blocked). 1 ≤ b.most) st.blocked b (limits_some st h) k.0) some

pub says_nothing : (st : State) (p : ℕ) (b : Blocked) → IsWithinLimits st → find (grantable st p) st.blocked ≡ None → find (released st p) st.blocked ≡ Some b → is_legal st (step.Empty b.number) ≡ true
says_nothing st p b h none found =
    let k = found_has (released st p) st.blocked b found in
    let parts = and_parts (b.space == p) (not (must_wait st b)) k.1 in
    can_empty st b (limits_rising st h) k.0
    (eqb-true (length (available st b)) 0 (unfound (b.space == p) (length (available st b) == 0) parts.0 (find_none (grantable st p) st.blocked b none k.0)))
    (not-true (must_wait st b) parts.1)
  where
    unfound : (a b : Bool) → a ≡ true → (a && not b) ≡ false → b ≡ true
    unfound true true e k = refl
    unfound true false e k = absurd (cc)
    unfound false b e k = absurd (cc)

abbrev pub owes_number : State → ℕ → ℕ → Bool
owes_number st p n = list_any (λ r. r.number == n && is_owed p r) st.registrations

-- it is there, at the space, and owed an event
record Owed (st : State) (p n : ℕ) : Type 0 where
  one : Registration
  there : Has st.registrations one
  number : one.number ≡ n
  space : one.space ≡ p
  some : 0 < length one.owed

owed_one : (st : State) (p n : ℕ) → owes_number st p n ≡ true → Owed st p n
owed_one st p n some =
    let (r, h, w) = each_any (Has st.registrations) (λ r. r.number == n && is_owed p r) st.registrations (each_itself st.registrations) some in
    let parts = and_parts (r.number == n) (is_owed p r) w in
    let here = and_parts (r.space == p) (not (length r.owed == 0)) parts.1 in
    record {
      one = r;
      there = h;
      number = eqb-true r.number n parts.0;
      space = eqb-true r.space p here.0;
      some = some_of (length r.owed) here.1;
    }

pub tells_number : (st : State) (p n : ℕ) → IsWithinLimits st → owes_number st p n ≡ true → is_legal st (step.Tell n) ≡ true
tells_number st p n h some =
    let k = owed_one st p n some in
    subst (λ (m : ℕ). is_legal st (step.Tell m) ≡ true) k.number (can_tell st k.one (limits_rising st h) k.there k.some)

-- where nothing of the kind is found
none_left : {A : Type 0} (here done : A → Bool) (xs : List A) → find (λ x. here x && not (done x)) xs ≡ None → list_all (λ x. not (here x) || done x) xs ≡ true
none_left here done xs none = all_has (λ x. not (here x) || done x) xs (λ y k. turned (here y) (done y) (find_none (λ x. here x && not (done x)) xs y none k))
  where
    turned : (a b : Bool) → (a && not b) ≡ false → (not a || b) ≡ true
    turned true true e = refl
    turned true false e = absurd (cc)
    turned false b e = refl

pub nobody_left : (st : State) (p : ℕ) → find (released st p) st.blocked ≡ None → list_all (λ r. not (r.space == p) || length r.owed == 0) st.registrations ≡ true → is_quiet st p ≡ true
unfolding is_quiet
nobody_left st p waits owes =
    and_from (list_all (λ b. not (b.space == p) || must_wait st b) st.blocked) (list_all (λ r. not (r.space == p) || length r.owed == 0) st.registrations)
    (none_left (λ (b : Blocked). b.space == p) (must_wait st) st.blocked waits) owes

-- ---- a space that has such a step isn't quiet

-- one is here that isn't done
one_left : {A : Type 0} (here done : A → Bool) (xs : List A) (x : A) → Has xs x → (here x && not (done x)) ≡ true → list_all (λ y. not (here y) || done y) xs ≡ true → ⊥
one_left here done xs x there left all = clash (here x) (done x) left (each_has (λ y. (not (here y) || done y) ≡ true) xs x (each_by_all (λ y. not (here y) || done y) xs all) there)
  where
    clash : (a b : Bool) → (a && not b) ≡ true → (not a || b) ≡ true → ⊥
    clash true true h k = cc h
    clash true false h k = cc k
    clash false b h k = cc h

unquiet : (st : State) (p : ℕ) → (list_all (λ b. not (b.space == p) || must_wait st b) st.blocked ≡ true → list_all (λ r. not (r.space == p) || length r.owed == 0) st.registrations ≡ true → ⊥) → is_quiet st p ≡ false
unfolding is_quiet
unquiet st p left = go (is_quiet st p) refl
  where
    go : (b : Bool) → is_quiet st p ≡ b → b ≡ false
    go false e = refl
    go true e =
        let parts = and_parts (list_all (λ b. not (b.space == p) || must_wait st b) st.blocked) (list_all (λ r. not (r.space == p) || length r.owed == 0) st.registrations) e in
        absurd (left parts.0 parts.1)

pub released_unquiet : (st : State) (p : ℕ) (b : Blocked) → find (released st p) st.blocked ≡ Some b → is_quiet st p ≡ false
released_unquiet st p b found =
    let k = found_has (released st p) st.blocked b found in
    unquiet st p (λ waits owes. one_left (λ (c : Blocked). c.space == p) (must_wait st) st.blocked b k.0 k.1 waits)

pub owed_unquiet : (st : State) (p n : ℕ) → owes_number st p n ≡ true → is_quiet st p ≡ false
owed_unquiet st p n some =
    let (r, h, w) = each_any (Has st.registrations) (λ r. r.number == n && is_owed p r) st.registrations (each_itself st.registrations) some in
    let parts = and_parts (r.number == n) (is_owed p r) w in
    unquiet st p (λ waits owes. one_left (λ (q : Registration). q.space == p) (λ (q : Registration). length q.owed == 0) st.registrations r h parts.1 owes)

-- ---- events come last

registration_found : (st : State) (r : Registration) → IsWithinLimits st → Has st.registrations r → registration_of st r.number ≡ Some r
registration_found st r h there = find_only (λ (q : Registration). q.number) st.registrations r (limits_rising st h).registrations there

pub tells_number_in_turn : (st : State) (p n : ℕ) (owed : List ℕ) → IsWithinLimits st → find (released st p) st.blocked ≡ None → owes_number st p n ≡ true → comes_in_turn st owed (step.Tell n) ≡ true
unfolding all_must_wait
tells_number_in_turn st p n owed h waits some =
    let k = owed_one st p n some in
    subst (λ (m : ℕ). comes_in_turn st owed (step.Tell m) ≡ true) k.number
    (ap (λ (o : Option Registration). option_map_or (λ (q : Registration). all_must_wait st q.space) o true) (registration_found st k.one h k.there)
    ∙ ap (all_must_wait st) k.space
    ∙ none_left (λ (b : Blocked). b.space == p) (must_wait st) st.blocked waits)
