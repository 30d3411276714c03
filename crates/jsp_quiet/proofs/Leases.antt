-- Renewing and cancelling by number, elsewhere.
use Rattle.std.proofs.Common.{◌≡◌, refl, sym, ap, ◌∙◌, subst, ℕ, ℤ, ◌+◌, List, [], ◌∷◌, ◌++◌, map, Bool, true, false, not, cond, ◌||◌, filter, flat_map, fold, Option, Some, None, is_some, ◌==◌, eqb-true, true≢false}
use Rattle.std.specs.Option.{option_map_or}
use Rattle.jsp_types.specs.Tests.{first_that}
use Rattle.jsp_model.specs.declared.state.State.{State}
use Rattle.jsp_model.specs.declared.state.Row.{Row}
use Rattle.jsp_model.specs.declared.state.Registration.{Registration}
use Rattle.jsp_model.specs.declared.state.Transaction.{Transaction}
use Rattle.jsp_lease.specs.declared.item.Rank.{Rank}
use Rattle.jsp_lease.specs.declared.item.Rank.TheVariants as rank
use Rattle.jsp_lease.specs.Granted.{ms_of}
use Rattle.jsp_model.specs.Lookup.{contains, named, rank_of, joined_spaces, is_caller}
use Rattle.jsp_model.specs.Touches.{lease_touches}
use Rattle.jsp_model.specs.Refusals.{renew_tests, lease_tests}
use Rattle.jsp_model.specs.Changes.{unread, remove, extend, renew, cancel, renew_one, cancel_one}
use Rattle.jsp_laws.proofs.Lists.{Each, each_weaker, each_filter, each_map, each_touched, all_kept}
use Rattle.jsp_laws.proofs.Sound.{IsSound, sound_changes, without}
use Rattle.jsp_laws.proofs.Made.{cancel_changes}
use Rattle.jsp_laws.proofs.Joins.{without_this, without_other, joins_kept}
use Rattle.jsp_quiet.specs.Steady.{spaces_of, IsPlaced}
use Rattle.jsp_quiet.proofs.Lists.{kept_alike, updated_alike, all_updated}
use Rattle.jsp_quiet.proofs.Still.{here, is_paid, Still, still_none, still_then}
use Rattle.jsp_quiet.proofs.Placed.{plain, choose, placed_cancel}
use Rattle.jsp_quiet.proofs.Moves.{still_unblock, still_abort}

-- ---- what isn't touched

pub contains_neither : (xs ys : List ℕ) (n : ℕ) → contains (xs ++ ys) n ≡ false → (contains xs n ≡ false) × (contains ys n ≡ false)
contains_neither [] ys n e = (refl, e)
contains_neither (x ∷ xs) ys n e = go (x == n) e (contains_neither xs ys n)
  where
    go : (b : Bool) → (b || contains (xs ++ ys) n) ≡ false → (contains (xs ++ ys) n ≡ false → (contains xs n ≡ false) × (contains ys n ≡ false)) → ((b || contains xs n) ≡ false) × (contains ys n ≡ false)
    go true k ih = absurd (cc)
    go false k ih = ih k

none_numbered : {A : Type 0} (f : A → ℕ) (t : A → Bool) (xs : List A) (p : ℕ) → contains (map f (filter t xs)) p ≡ false → Each (λ x. t x ≡ true → (f x == p) ≡ false) xs
none_numbered f t [] p e = tt
none_numbered {A = A} f t (x ∷ xs) p e = go (t x) refl (f x == p) refl e (none_numbered f t xs p)
  where
    go : (b : Bool) → t x ≡ b → (d : Bool) → (f x == p) ≡ d → contains (map f (cond b (x ∷ filter t xs) (filter t xs))) p ≡ false
        → (contains (map f (filter t xs)) p ≡ false → Each (λ y. t y ≡ true → (f y == p) ≡ false) xs)
        → (t x ≡ true → (f x == p) ≡ false) × Each (λ y. t y ≡ true → (f y == p) ≡ false) xs
    go true k true l q ih = absurd (cc (rw l at q))
    go true k false l q ih = (λ z. l, ih (rw l at q))
    go false k d l q ih = (λ z. absurd (true≢false (sym z ∙ k)), ih q)

pub none_of_batch : {A : Type 0} (f : A → List ℕ) (xs : List A) (p : ℕ) → contains (flat_map f xs) p ≡ false → Each (λ x. contains (f x) p ≡ false) xs
none_of_batch f [] p e = tt
none_of_batch f (x ∷ xs) p e = let parts = contains_neither (f x) (flat_map f xs) p e in (parts.0, none_of_batch f xs p parts.1)

-- nothing of this number stands in the space
pub record Away (n p : ℕ) (st : State) : Type 0 where
  pub rows : Each (λ (r : Row). (r.number == n) ≡ true → (r.space == p) ≡ false) st.rows
  pub joined : contains (spaces_of st.transactions n) p ≡ false

pub away : (st : State) (n p : ℕ) → contains (lease_touches st n) p ≡ false → Away n p st
away st n p e =
    let rows = map (λ (r : Row). r.space) (filter (λ r. r.number == n) st.rows) in
    let registrations = map (λ (r : Registration). r.space) (filter (λ r. r.number == n) st.registrations) in
    let sets = map (λ m. m.space) (filter (λ m. m.number == n) st.sets) in
    let last = contains_neither (rows ++ registrations ++ sets) (joined_spaces st n) p e in
    let two = contains_neither (rows ++ registrations) sets p last.0 in
    let one = contains_neither rows registrations p two.0 in
    record { rows = none_numbered (λ (r : Row). r.space) (λ r. r.number == n) st.rows p one.0; joined = last.1 }

-- ---- one item

not_here : (p n : ℕ) (r : Row) → ((r.number == n) ≡ true → (r.space == p) ≡ false) → here p r ≡ true → (r.number == n) ≡ false
not_here p n r h k = go (r.number == n) refl
  where
    go : (b : Bool) → (r.number == n) ≡ b → b ≡ false
    go true e = absurd (true≢false (sym k ∙ h e))
    go false e = refl

pub still_remove : (p : ℕ) (st : State) (r : Rank) (n : ℕ) → Away n p st → IsPlaced st → Still p st (remove st r n)
still_remove p st rank.Entry n a h = record {
  classes = refl;
  rows = kept_alike (here p) (λ r. not (r.number == n)) st.rows (each_weaker (λ (r : Row). (r.number == n) ≡ true → (r.space == p) ≡ false) (λ r. here p r ≡ true → not (r.number == n) ≡ true) (λ r k q. rw (not_here p n r k q) refl) st.rows a.rows);
  blocked = λ t k. k;
  registrations = λ k. k;
}
still_remove p st rank.Registration n a h = record { classes = refl; rows = refl; blocked = λ t k. k; registrations = λ k. all_kept (is_paid p) _ st.registrations k }
still_remove p st rank.Transaction n a h = still_abort p st n h a.joined
still_remove p st rank.Blocked n a h = still_unblock p st n
still_remove p st rank.MatchSet n a h = record { classes = refl; rows = refl; blocked = λ t k. k; registrations = λ k. k }

pub still_extend : (p : ℕ) (st : State) (end : ℕ) (r : Rank) (n : ℕ) → Away n p st → Still p st (extend st end r n)
still_extend p st end rank.Entry n a = record {
  classes = refl;
  rows = updated_alike (here p) (λ r. r.number == n) (λ (r : Row). record r { end = end }) (λ r. refl) st.rows (each_weaker (λ (r : Row). (r.number == n) ≡ true → (r.space == p) ≡ false) (λ r. here p r ≡ true → (r.number == n) ≡ false) (λ r k q. not_here p n r k q) st.rows a.rows);
  blocked = λ t k. k;
  registrations = λ k. k;
}
still_extend p st end rank.Registration n a = record { classes = refl; rows = refl; blocked = λ t k. k; registrations = λ k. all_updated (is_paid p) (λ r. r.number == n) (λ (r : Registration). record r { end = end }) (λ r q u. u) st.registrations k }
still_extend p st end rank.Transaction n a = record { classes = refl; rows = refl; blocked = λ t k. k; registrations = λ k. k }
still_extend p st end rank.Blocked n a = still_none p st
still_extend p st end rank.MatchSet n a = record { classes = refl; rows = refl; blocked = λ t k. k; registrations = λ k. k }

pub still_renew : (p : ℕ) (st : State) (lease ms : ℤ) → Away (named lease) p st → Still p st (renew st lease ms)
still_renew p st lease ms a = go (rank_of st (named lease))
  where
    go : (o : Option Rank) → Still p st (option_map_or (λ r. extend st (st.time + ms_of ms) r (named lease)) o st)
    go None = still_none p st
    go (Some r) = still_extend p st _ r (named lease) a

pub still_cancel : (p : ℕ) (st : State) (lease : ℤ) → Away (named lease) p st → IsPlaced st → Still p st (cancel st lease)
still_cancel p st lease a h = go (rank_of st (named lease))
  where
    go : (o : Option Rank) → Still p st (option_map_or (λ r. remove st r (named lease)) o st)
    go None = still_none p st
    go (Some r) = still_remove p st r (named lease) a h

-- ---- several: what isn't touched at first isn't later

abbrev NotThere : ℕ → ℕ → Row → Type 0
NotThere n p r = (r.number == n) ≡ true → (r.space == p) ≡ false

away_without : (ts : List Transaction) (n m p : ℕ) → contains (spaces_of ts n) p ≡ false → contains (spaces_of (without m ts) n) p ≡ false
away_without ts n m p e = go (n == m) refl
  where
    go : (b : Bool) → (n == m) ≡ b → contains (spaces_of (without m ts) n) p ≡ false
    go true k = let w : n ≡ m = eqb-true n m k in subst (λ z. contains (spaces_of (without z ts) n) p ≡ false) w (ap (λ js. contains (map (λ j. j.space) js) p) (without_this n ts))
    go false k = ap (λ js. contains (map (λ j. j.space) js) p) (without_other m n k ts) ∙ e

away_remove : (n p : ℕ) (st : State) (r : Rank) (m : ℕ) → Away n p st → Away n p (remove st r m)
away_remove n p st rank.Entry m a = record { rows = each_filter (NotThere n p) _ st.rows a.rows; joined = a.joined }
away_remove n p st rank.Registration m a = record { rows = a.rows; joined = a.joined }
away_remove n p st rank.Transaction m a = record {
  rows = each_map (NotThere n p) (NotThere n p) (unread m) (λ r h. h) _ (each_touched (NotThere n p) (λ row. is_caller row.taker m) (λ (row : Row). record row { taker = None }) (λ r h. h) _ (each_filter (NotThere n p) _ st.rows a.rows));
  joined = away_without st.transactions n m p a.joined;
}
away_remove n p st rank.Blocked m a = record { rows = a.rows; joined = a.joined }
away_remove n p st rank.MatchSet m a = record { rows = a.rows; joined = a.joined }

away_extend : (n p : ℕ) (st : State) (end : ℕ) (r : Rank) (m : ℕ) → Away n p st → Away n p (extend st end r m)
away_extend n p st end rank.Entry m a = record { rows = each_touched (NotThere n p) (λ r. r.number == m) (λ (r : Row). record r { end = end }) (λ r h. h) st.rows a.rows; joined = a.joined }
away_extend n p st end rank.Registration m a = record { rows = a.rows; joined = a.joined }
away_extend n p st end rank.Transaction m a = record { rows = a.rows; joined = ap (λ js. contains (map (λ j. j.space) js) p) (joins_kept m (λ (t : Transaction). record t { end = end }) (λ t. refl) (λ t. refl) st.transactions n) ∙ a.joined }
away_extend n p st end rank.Blocked m a = a
away_extend n p st end rank.MatchSet m a = record { rows = a.rows; joined = a.joined }

away_renew : (n p : ℕ) (st : State) (l : ℤ × ℤ) → Away n p st → Away n p (renew_one st l)
away_renew n p st l a = choose (Away n p) (is_some (first_that (renew_tests st l.0 l.1))) st (renew st l.0 l.1) a (go (rank_of st (named l.0)))
  where
    go : (o : Option Rank) → Away n p (option_map_or (λ r. extend st (st.time + ms_of l.1) r (named l.0)) o st)
    go None = a
    go (Some r) = away_extend n p st _ r (named l.0) a

away_cancel : (n p : ℕ) (st : State) (l : ℤ) → Away n p st → Away n p (cancel_one st l)
away_cancel n p st l a = choose (Away n p) (is_some (first_that (lease_tests st l))) st (cancel st l) a (go (rank_of st (named l)))
  where
    go : (o : Option Rank) → Away n p (option_map_or (λ r. remove st r (named l)) o st)
    go None = a
    go (Some r) = away_remove n p st r (named l) a

pub still_renewals : (p : ℕ) (a : State) (leases : List (ℤ × ℤ)) (b : State) → Still p a b → Each (λ (l : ℤ × ℤ). Away (named l.0) p b) leases → Still p a (fold renew_one b leases)
still_renewals p a [] b s w = s
still_renewals p a (l ∷ ls) b s (w, ws) =
    still_renewals p a ls (renew_one b l)
    (still_then s (choose (Still p b) (is_some (first_that (renew_tests b l.0 l.1))) b (renew b l.0 l.1) (still_none p b) (still_renew p b l.0 l.1 w)))
    (each_weaker (λ (k : ℤ × ℤ). Away (named k.0) p b) (λ (k : ℤ × ℤ). Away (named k.0) p (renew_one b l)) (λ k h. away_renew (named k.0) p b l h) ls ws)

pub still_cancels : (p : ℕ) (a : State) (leases : List ℤ) (b : State) → IsSound b → IsPlaced b → Still p a b → Each (λ (l : ℤ). Away (named l) p b) leases → Still p a (fold cancel_one b leases)
still_cancels p a [] b k h s w = s
still_cancels p a (l ∷ ls) b k h s (w, ws) =
    let both : IsSound (cancel_one b l) × IsPlaced (cancel_one b l) = choose Both (is_some (first_that (lease_tests b l))) b (cancel b l) (k, h) (sound_changes (cancel_changes {c = plain} b l refl refl) k, placed_cancel b l k h) in
    still_cancels p a ls (cancel_one b l) both.0 both.1
    (still_then s (choose (Still p b) (is_some (first_that (lease_tests b l))) b (cancel b l) (still_none p b) (still_cancel p b l w h)))
    (each_weaker (λ (q : ℤ). Away (named q) p b) (λ (q : ℤ). Away (named q) p (cancel_one b l)) (λ q h. away_cancel (named q) p b l h) ls ws)
  where
    Both : State → Type 0
    Both b = IsSound b × IsPlaced b
