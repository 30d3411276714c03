-- What is told space by space.
use Rattle.std.proofs.Common.{◌≡◌, ℕ, zero, suc, arith, ◌+◌, ◌-◌, ◌^◌, set, ◌<◌, ◌≤◌, Bool, true, false, not, cond, eqb, ◌&&◌, List, [], ◌∷◌, ◌++◌, length, drop, take, get_or, map, refl, ap, sym, subst, ◌∙◌, true≢false}
use Rattle.std.specs.Prelude.{filter, sum_by, ◌==◌, ◌||◌, if◌then◌else◌, nat_le, nat_lt, Option, Some, None}
use Rattle.std.specs.List.{list_all, list_any}
use Rattle.std.proofs.lemmas.Bool.{and_parts, and_from, or_parts, eqb-true, ne_eqb, leb-true, leb-false, le-leb}
use Rattle.std.proofs.lemmas.Bool.Decides.{nat_tests}
use Rattle.std.proofs.Math.Bool.{and-false}
use Rattle.std.proofs.lemmas.List.{map-append, drop_all, drop_more, drop-drop, take-append-drop}
use Rattle.std.proofs.lemmas.List.Sums.{sum_by-set}
use Rattle.std.proofs.lemmas.List.Folds.{list_all-map, list_all_more}
use Rattle.jsp_types.specs.declared.class.Class.{Class}
use Rattle.jsp_types.specs.Matching.{matches}
use Rattle.jsp_model.specs.declared.state.Row.{Row}
use Rattle.jsp_model.specs.declared.state.Registration.{Registration}
use Rattle.jsp_model.specs.Sight.{is_free}
use Rattle.jsp_table.specs.Counts.{count_of}
use Rattle.jsp_notify.specs.declared.news.News.{News}
use Rattle.jsp_model.specs.Lookup.{update}
use Rattle.jsp_notify.specs.Owing.{is_news, is_within, numbers_of_news, owed, owed_within}
use Rattle.jsp_notify.specs.News.{all_told, hearing, is_behind, is_told, left_in, numbers_untold, owed_in, still_to_tell, told_next, told_to, untold}
use Rattle.jsp_notify.specs.Registered.{told_once}
use Rattle.jsp_notify.proofs.Asked.{spaces_after}
use Rattle.jsp_notify.proofs.Owed.{owed_parts, same_lists}
use Rattle.jsp_notify.proofs.Hearing.{heard_in_parts, map_same, none_heard, one_heard}

-- ---- who has heard all

nothing_untold : (n : News) (r : Registration) → is_told r.space n ≡ true → untold n r ≡ []
nothing_untold n r told =
    let all : length n.rows ≤ count_of n.told r.space = leb-true (length n.rows) (count_of n.told r.space) told in
    drop_all (told_to n r) n.rows (omega (arith, all))

none_left : (news : List News) (r : Registration) → all_told news r.space ≡ true → numbers_untold news r ≡ []
none_left [] r told = refl
none_left (n ∷ ns) r told =
    let parts = and_parts (is_told r.space n) (all_told ns r.space) told in
    rw (nothing_untold n r parts.0) (none_left ns r parts.1)

pub all_is_heard : (news : List News) (r : Registration) → all_told news r.space ≡ true → hearing news r ≡ r
all_is_heard news r told = ap (λ (w : List ℕ). record r { owed = r.owed ++ w }) (none_left news r told) ∙ none_heard r

-- ---- the registrations of one space

elsewhere : (classes : List Class) (caller : Option ℕ) (r : Registration) (w : Row) → (r.space == w.space) ≡ false → owed classes caller (w ∷ []) r ≡ r
elsewhere classes caller r w apart =
    let m = matches classes r.template w.entry in
    let none : is_news classes caller r w ≡ false = ap (λ b. is_free r.transaction caller && (b && m)) apart ∙ and-false (is_free r.transaction caller) in
    ap (λ (b : Bool). record r { owed = r.owed ++ map (λ (w : Row). w.number) (cond b (w ∷ []) []) }) none ∙ none_heard r

-- a row of the space is owed there
owed_here : (n : News) (w : Row) (space from : ℕ) (below : Option ℕ) → w.space ≡ space → (r : Registration) → owed_within n.classes n.caller w from below r ≡ owed_in n (w ∷ []) space from below r
owed_here n w space from below here r = at (eqb r.space space) refl (is_within from below r) where
  at : (b : Bool) → (r.space == space) ≡ b → (c : Bool) → cond c (owed n.classes n.caller (w ∷ []) r) r ≡ cond b (cond c (owed n.classes n.caller (w ∷ []) r) r) r
  at true e c = refl
  at false e true = elsewhere n.classes n.caller r w (ap (λ k. r.space == k) here ∙ e)
  at false e false = refl

-- and another isn't
owed_nowhere : (n : News) (w : Row) (space from : ℕ) (below : Option ℕ) → (w.space ≡ space → ⊥) → (r : Registration) → r ≡ owed_in n (w ∷ []) space from below r
owed_nowhere n w space from below apart r = at (eqb r.space space) refl (is_within from below r) where
  at : (b : Bool) → (r.space == space) ≡ b → (c : Bool) → r ≡ cond b (cond c (owed n.classes n.caller (w ∷ []) r) r) r
  at true e true = sym (elsewhere n.classes n.caller r w (ne_eqb r.space w.space (λ same. apart (sym same ∙ eqb-true r.space space e))))
  at true e false = refl
  at false e c = refl

one_row : (rows : List Row) (t : ℕ) (w : Row) → t < length rows → w ≡ get_or rows t w → take 1 (drop t rows) ≡ w ∷ []
one_row rows t w some is = ap (take 1) (drop_more rows t w some) ∙ ap (λ (v : Row). v ∷ []) (sym is)

pub row_owed : (n : News) (t : ℕ) (w : Row) (space from : ℕ) (below : Option ℕ) → t < length n.rows → w ≡ get_or n.rows t w → w.space ≡ space → (rs : List Registration)
    → map (owed_within n.classes n.caller w from below) rs ≡ map (owed_in n (take 1 (drop t n.rows)) space from below) rs
row_owed n t w space from below some is here rs =
    map_same (owed_within n.classes n.caller w from below) (owed_in n (w ∷ []) space from below) (owed_here n w space from below here) rs
    ∙ ap (λ (ws : List Row). map (owed_in n ws space from below) rs) (sym (one_row n.rows t w some is))

mapped : {X : Type 0} (f : X → X) → ((x : X) → x ≡ f x) → (xs : List X) → xs ≡ map f xs
mapped f same [] = refl
mapped f same (x ∷ xs) = same_lists (same x) (mapped f same xs)

pub row_passed : (n : News) (t : ℕ) (w : Row) (space from : ℕ) (below : Option ℕ) → t < length n.rows → w ≡ get_or n.rows t w → (w.space ≡ space → ⊥) → (rs : List Registration)
    → rs ≡ map (owed_in n (take 1 (drop t n.rows)) space from below) rs
row_passed n t w space from below some is apart rs =
    mapped (owed_in n (w ∷ []) space from below) (owed_nowhere n w space from below apart) rs ∙ ap (λ (ws : List Row). map (owed_in n ws space from below) rs) (sym (one_row n.rows t w some is))

-- ---- one news told further, behind others that the space has heard

told_behind : (space : ℕ) (told : Registration → Registration) (new : News) (place : ℕ) (news : List News) (d : News)
    → place < length news → all_told (take place news) space ≡ true
    → ((m : News) → is_told space m ≡ true → (r : Registration) → hearing (m ∷ []) (told r) ≡ told (hearing (m ∷ []) r))
    → ((r : Registration) → hearing (new ∷ []) (told r) ≡ hearing (get_or news place d ∷ []) r)
    → (r : Registration) → hearing (set news place new) (told r) ≡ hearing news r
told_behind space told new place [] d some before apart one r = absurd (omega (arith, some))
told_behind space told new zero (n ∷ ns) d some before apart one r = heard_in_parts (new ∷ []) ns (told r) ∙ (ap (hearing ns) (one r) ∙ sym (heard_in_parts (n ∷ []) ns r))
told_behind space told new (suc i) (m ∷ ns) d some before apart one r =
    let parts = and_parts (is_told space m) (all_told (take i ns) space) before in
    heard_in_parts (m ∷ []) (set ns i new) (told r)
    ∙ (ap (hearing (set ns i new)) (apart m parts.0 r)
    ∙ (told_behind space told new i ns d (omega (arith, some)) parts.1 apart one (hearing (m ∷ []) r) ∙ sym (heard_in_parts (m ∷ []) ns r)))

same_range : (from : ℕ) (below : Option ℕ) (r : Registration) (w : List ℕ) → is_within from below r ≡ is_within from below (record r { owed = w })
same_range from None r w = refl
same_range from (Some b) r w = refl

owed_apart : (n : News) (rows : List Row) (space from : ℕ) (below : Option ℕ) (m : News) → is_told space m ≡ true → (r : Registration) → hearing (m ∷ []) (owed_in n rows space from below r) ≡ owed_in n rows space from below (hearing (m ∷ []) r)
owed_apart n rows space from below m told r = at (eqb r.space space) refl (is_within from below r) (is_within from below (hearing (m ∷ []) r)) (same_range from below r (hearing (m ∷ []) r).owed) where
  at : (b : Bool) → (r.space == space) ≡ b → (c d : Bool) → c ≡ d
      → hearing (m ∷ []) (cond b (cond c (owed n.classes n.caller rows r) r) r) ≡ cond b (cond d (owed n.classes n.caller rows (hearing (m ∷ []) r)) (hearing (m ∷ []) r)) (hearing (m ∷ []) r)
  at true e true true f =
      let here : all_told (m ∷ []) r.space ≡ true = and_from (is_told r.space m) true (ap (λ k. is_told k m) (eqb-true r.space space e) ∙ told) refl in
      all_is_heard (m ∷ []) (owed n.classes n.caller rows r) here ∙ ap (owed n.classes n.caller rows) (sym (all_is_heard (m ∷ []) r here))
  at true e true false f = absurd (cc)
  at true e false true f = absurd (cc)
  at true e false false f = refl
  at false e c d f = refl

-- the next row is told, and then the rest
went_on : (n new : News) (t : ℕ) (r : Registration) → new ≡ record n { told = new.told; reached = new.reached } → told_to n r ≡ t → told_to new r ≡ t + 1
    → hearing (new ∷ []) (owed n.classes n.caller (take 1 (drop t n.rows)) r) ≡ hearing (n ∷ []) r
went_on n new t r rest was is =
    let first = take 1 (drop t n.rows) in
    let q = owed n.classes n.caller first r in
    subst (λ (m : News). hearing (m ∷ []) q ≡ hearing (n ∷ []) r) (sym rest)
    (one_heard (record n { told = new.told; reached = new.reached }) q
    ∙ (ap (λ (k : ℕ). owed n.classes n.caller (drop k n.rows) q) is
    ∙ (ap (λ (ws : List Row). owed n.classes n.caller ws q) (sym (drop-drop 1 t n.rows))
    ∙ (sym (owed_parts n.classes n.caller first (drop 1 (drop t n.rows)) r)
    ∙ (ap (λ (ws : List Row). owed n.classes n.caller ws r) (take-append-drop 1 (drop t n.rows))
    ∙ (ap (λ (k : ℕ). owed n.classes n.caller (drop k n.rows) r) (sym was) ∙ sym (one_heard n r)))))))

stayed : (n new : News) (r : Registration) → new ≡ record n { told = new.told; reached = new.reached } → told_to new r ≡ told_to n r → hearing (new ∷ []) r ≡ hearing (n ∷ []) r
stayed n new r rest same =
    subst (λ (m : News). hearing (m ∷ []) r ≡ hearing (n ∷ []) r) (sym rest)
    (one_heard (record n { told = new.told; reached = new.reached }) r ∙ (ap (λ (k : ℕ). owed n.classes n.caller (drop k n.rows) r) same ∙ sym (one_heard n r)))

-- ---- how far one was told

pub with_none : (t : ℕ) → t + 0 ≡ t
with_none t = omega arith

sum_is : (a b : ℕ) (c d : Bool) → a ≡ b → c ≡ d → a + cond c 1 0 ≡ b + cond d 1 0
sum_is a b c d e f = cc

below_none : (n : ℕ) → nat_lt n 0 ≡ false
below_none n = grind (arith, nat_tests)

not_below : (m n : ℕ) → nat_le m n ≡ true → nat_lt n m ≡ false
not_below m n h = grind (arith, nat_tests)

is_below : (m n : ℕ) → nat_le m n ≡ false → nat_lt n m ≡ true
is_below m n h = grind (arith, nat_tests)

still_below : (m n b : ℕ) → nat_le m n ≡ false → m ≤ b → nat_lt n b ≡ true
still_below m n b h le = grind (arith, nat_tests)

module _ (n new : News) (space : ℕ) (r : Registration) (rest : new ≡ record n { told = new.told; reached = new.reached }) where
  untouched : count_of new.told r.space ≡ count_of n.told r.space → count_of new.reached r.space ≡ count_of n.reached r.space → hearing (new ∷ []) r ≡ hearing (n ∷ []) r
  untouched told reached =
      stayed n new r rest (sum_is (count_of new.told r.space) (count_of n.told r.space) (nat_lt r.number (count_of new.reached r.space)) (nat_lt r.number (count_of n.reached r.space)) told (ap (λ (m : ℕ). nat_lt r.number m) reached))

-- the rest of its registrations are told the next row
next_heard : (n new : News) (space : ℕ) → new ≡ record n { told = new.told; reached = new.reached }
    → ((k : ℕ) → count_of new.told k ≡ (if k == space then count_of n.told k + 1 else count_of n.told k))
    → ((k : ℕ) → count_of new.reached k ≡ (if k == space then 0 else count_of n.reached k))
    → (r : Registration) → hearing (new ∷ []) (told_next n space None r) ≡ hearing (n ∷ []) r
next_heard n new space rest more anew r = at (eqb r.space space) refl (more r.space) (anew r.space) where
  first : List Row
  first = take 1 (drop (count_of n.told space) n.rows)

  at : (b : Bool) → (r.space == space) ≡ b → count_of new.told r.space ≡ cond b (count_of n.told r.space + 1) (count_of n.told r.space) → count_of new.reached r.space ≡ cond b 0 (count_of n.reached r.space)
      → hearing (new ∷ []) (cond b (cond (nat_le (count_of n.reached space) r.number) (owed n.classes n.caller first r) r) r) ≡ hearing (n ∷ []) r
  at false e c d = untouched n new space r rest c d
  at true e c d = within (nat_le (count_of n.reached space) r.number) refl where
    here : r.space ≡ space
    here = eqb-true r.space space e

    t : ℕ
    t = count_of n.told space

    now : told_to new r ≡ t + 1
    now =
        let told : count_of new.told r.space ≡ t + 1 = c ∙ ap (λ (k : ℕ). count_of n.told k + 1) here in
        let sum = sum_is (count_of new.told r.space) (t + 1) (nat_lt r.number (count_of new.reached r.space)) false told (ap (λ (m : ℕ). nat_lt r.number m) d ∙ below_none r.number) in
        omega (arith, sum)

    within : (w : Bool) → nat_le (count_of n.reached space) r.number ≡ w → hearing (new ∷ []) (cond w (owed n.classes n.caller first r) r) ≡ hearing (n ∷ []) r
    within true f =
        let sum = sum_is (count_of n.told r.space) t (nat_lt r.number (count_of n.reached r.space)) false (ap (count_of n.told) here) (ap (λ (k : ℕ). nat_lt r.number (count_of n.reached k)) here ∙ not_below (count_of n.reached space) r.number f) in
        went_on n new t r rest (omega (arith, sum)) now
    within false f =
        let sum = sum_is (count_of n.told r.space) t (nat_lt r.number (count_of n.reached r.space)) true (ap (count_of n.told) here) (ap (λ (k : ℕ). nat_lt r.number (count_of n.reached k)) here ∙ is_below (count_of n.reached space) r.number f) in
        stayed n new r rest (now ∙ sym sum)

-- those below a number are told it
below_heard : (n new : News) (space below : ℕ) → new ≡ record n { reached = new.reached }
    → count_of n.reached space ≤ below
    → ((k : ℕ) → count_of new.reached k ≡ (if k == space then below else count_of n.reached k))
    → (r : Registration) → hearing (new ∷ []) (told_next n space (Some below) r) ≡ hearing (n ∷ []) r
below_heard n new space below rest further reached r = at (eqb r.space space) refl (reached r.space) where
  first : List Row
  first = take 1 (drop (count_of n.told space) n.rows)

  from : ℕ
  from = count_of n.reached space

  same : (k : ℕ) → count_of new.told k ≡ count_of n.told k
  same k = ap (λ (m : News). count_of m.told k) rest

  whole : new ≡ record n { told = new.told; reached = new.reached }
  whole = rest ∙ ap (λ h. record n { told = h; reached = new.reached }) (sym (ap (λ (m : News). m.told) rest))

  at : (b : Bool) → (r.space == space) ≡ b → count_of new.reached r.space ≡ cond b below (count_of n.reached r.space)
      → hearing (new ∷ []) (cond b (cond (nat_le from r.number && nat_lt r.number below) (owed n.classes n.caller first r) r) r) ≡ hearing (n ∷ []) r
  at false e d = untouched n new space r whole (same r.space) d
  at true e d = within (nat_le from r.number) refl (nat_lt r.number below) refl where
    here : r.space ≡ space
    here = eqb-true r.space space e

    t : ℕ
    t = count_of n.told space

    now : (w : Bool) → nat_lt r.number below ≡ w → told_to new r ≡ t + cond w 1 0
    now w f = sum_is (count_of new.told r.space) t (nat_lt r.number (count_of new.reached r.space)) w (same r.space ∙ ap (count_of n.told) here) (ap (λ (m : ℕ). nat_lt r.number m) d ∙ f)

    was : (w : Bool) → nat_lt r.number from ≡ w → told_to n r ≡ t + cond w 1 0
    was w f = sum_is (count_of n.told r.space) t (nat_lt r.number (count_of n.reached r.space)) w (ap (count_of n.told) here) (ap (λ (k : ℕ). nat_lt r.number (count_of n.reached k)) here ∙ f)

    none : t + 0 ≡ t
    none = omega arith

    within : (u : Bool) → nat_le from r.number ≡ u → (v : Bool) → nat_lt r.number below ≡ v → hearing (new ∷ []) (cond (u && v) (owed n.classes n.caller first r) r) ≡ hearing (n ∷ []) r
    within true f true g = went_on n new t r whole (was false (not_below from r.number f) ∙ none) (now true g)
    within true f false g = stayed n new r whole (now false g ∙ sym (was false (not_below from r.number f)))
    within false f v g = stayed n new r whole (now true (still_below from r.number below f further) ∙ sym (was true (is_below from r.number f)))

same_heard : (n new : News) → new ≡ record n { told = new.told; reached = new.reached } → ((k : ℕ) → count_of new.told k ≡ count_of n.told k) → ((k : ℕ) → count_of new.reached k ≡ count_of n.reached k) → (r : Registration) → hearing (new ∷ []) r ≡ hearing (n ∷ []) r
same_heard n new rest counts reached r = untouched n new r.space r rest (counts r.space) (reached r.space)

map_twice_same : (f g h : Registration → Registration) → ((r : Registration) → f (g r) ≡ h r) → (rs : List Registration) → map f (map g rs) ≡ map h rs
map_twice_same f g h same [] = refl
map_twice_same f g h same (r ∷ rs) = same_lists (same r) (map_twice_same f g h same rs)

-- some of the next row is told, and the rest later
further_told : (space : ℕ) (below : Option ℕ) (news : List News) (place : ℕ) (n new : News) (before after : List Registration)
    → place < length news → all_told (take place news) space ≡ true → n ≡ get_or news place n
    → ((r : Registration) → hearing (new ∷ []) (told_next n space below r) ≡ hearing (n ∷ []) r)
    → after ≡ map (told_next n space below) before
    → map (hearing (set news place new)) after ≡ map (hearing news) before
further_told space below news place n new before after some first is one told =
    ap (map (hearing (set news place new))) told
    ∙ map_twice_same (hearing (set news place new)) (told_next n space below) (hearing news)
    (told_behind space (told_next n space below) new place news n some first (owed_apart n (take 1 (drop (count_of n.told space) n.rows)) space (count_of n.reached space) below)
    (λ r. one r ∙ ap (λ (m : News). hearing (m ∷ []) r) is))
    before

pub one_told : (space : ℕ) (news : List News) (place : ℕ) (n new : News) (before after : List Registration)
    → place < length news → all_told (take place news) space ≡ true → n ≡ get_or news place n → new ≡ record n { told = new.told; reached = new.reached }
    → ((k : ℕ) → count_of new.told k ≡ (if k == space then count_of n.told k + 1 else count_of n.told k))
    → ((k : ℕ) → count_of new.reached k ≡ (if k == space then 0 else count_of n.reached k))
    → after ≡ map (told_next n space None) before
    → map (hearing (set news place new)) after ≡ map (hearing news) before
one_told space news place n new before after some first is rest counts anew told =
    further_told space None news place n new before after some first is (next_heard n new space rest counts anew) told

pub some_told : (space below : ℕ) (news : List News) (place : ℕ) (n new : News) (before after : List Registration)
    → place < length news → all_told (take place news) space ≡ true → n ≡ get_or news place n → new ≡ record n { reached = new.reached }
    → count_of n.reached space ≤ below
    → ((k : ℕ) → count_of new.reached k ≡ (if k == space then below else count_of n.reached k))
    → after ≡ map (told_next n space (Some below)) before
    → map (hearing (set news place new)) after ≡ map (hearing news) before
some_told space below news place n new before after some first is rest further reached told =
    further_told space (Some below) news place n new before after some first is (below_heard n new space below rest further reached) told

-- what is read there twice is the same
pub same_read : (news : List News) (place : ℕ) (m n : News) → place < length news → m ≡ get_or news place m → n ≡ get_or news place n → m ≡ n
same_read [] place m n some is was = absurd (omega (arith, some))
same_read (x ∷ xs) zero m n some is was = is ∙ sym was
same_read (x ∷ xs) (suc i) m n some is was = same_read xs i m n (omega (arith, some)) is was

-- no row is
pub none_told : (space : ℕ) (news : List News) (place : ℕ) (n new : News) (before after : List Registration)
    → place < length news → all_told (take place news) space ≡ true → n ≡ get_or news place n → new ≡ record n { told = new.told; reached = new.reached }
    → ((k : ℕ) → count_of new.told k ≡ count_of n.told k)
    → ((k : ℕ) → count_of new.reached k ≡ count_of n.reached k)
    → after ≡ before
    → map (hearing (set news place new)) after ≡ map (hearing news) before
none_told space news place n new before after some first is rest counts reached stays =
    ap (map (hearing (set news place new))) stays
    ∙ map_same (hearing (set news place new)) (hearing news)
    (told_behind space (λ r. r) new place news n some first (λ m h r. refl)
    (λ r. same_heard n new rest counts reached r ∙ ap (λ (m : News). hearing (m ∷ []) r) is))
    before

-- what was told stays told
set_told : (k : ℕ) (news : List News) (place : ℕ) (new d : News) → (is_told k (get_or news place d) ≡ true → is_told k new ≡ true) → all_told news k ≡ true → all_told (set news place new) k ≡ true
set_told k [] place new d one told = refl
set_told k (n ∷ ns) zero new d one told =
    let parts = and_parts (is_told k n) (all_told ns k) told in
    and_from (is_told k new) (all_told ns k) (one parts.0) parts.1
set_told k (n ∷ ns) (suc i) new d one told =
    let parts = and_parts (is_told k n) (all_told ns k) told in
    and_from (is_told k n) (all_told (set ns i new) k) parts.0 (set_told k ns i new d one parts.1)

pub still_told : (k : ℕ) (news : List News) (place : ℕ) (n new : News) → n ≡ get_or news place n → new ≡ record n { told = new.told; reached = new.reached } → count_of n.told k ≤ count_of new.told k
    → all_told news k ≡ true → all_told (set news place new) k ≡ true
still_told k news place n new is rest more told =
    set_told k news place new n
    (λ h. let was : is_told k n ≡ true = ap (is_told k) is ∙ h in
    let rows : length new.rows ≡ length n.rows = ap (λ (m : News). length m.rows) rest in
    let enough : length new.rows ≤ count_of new.told k = omega (arith, rows, more, leb-true (length n.rows) (count_of n.told k) was) in
    le-leb (length new.rows) (count_of new.told k) enough)
    told

pub fewer_left : (space : ℕ) (news : List News) (place : ℕ) (n new : News) → place < length news → n ≡ get_or news place n → new ≡ record n { told = new.told; reached = new.reached }
    → count_of n.told space < length n.rows → count_of new.told space ≡ count_of n.told space + 1
    → still_to_tell (set news place new) space < still_to_tell news space
fewer_left space news place n new some is rest left more =
    let rows : length new.rows ≡ length n.rows = ap (λ (m : News). length m.rows) rest in
    let less : left_in space new < left_in space n = omega (arith, rows, left, more) in
    let at : left_in space n ≡ left_in space (get_or news place n) = ap (left_in space) is in
    omega (arith, less, at, sum_by-set (left_in space) news place new n some)

pub row_left : (space : ℕ) (n : News) → is_told space n ≡ false → count_of n.told space < length n.rows
row_left space n left = leb-false (length n.rows) (count_of n.told space) left

-- ---- what is told everywhere

all_dropped : {X : Type 0} (p : X → Bool) (xs : List X) (k : ℕ) → list_all p xs ≡ true → list_all p (drop k xs) ≡ true
all_dropped p xs zero all = all
all_dropped p [] (suc k) all = refl
all_dropped p (x ∷ xs) (suc k) all = all_dropped p xs k (and_parts (p x) (list_all p xs) all).1

nobody_hears : (n : News) (r : Registration) (rows : List Row) → list_all (λ row. is_told row.space n) rows ≡ true → is_told r.space n ≡ false → filter (is_news n.classes n.caller r) rows ≡ []
nobody_hears n r [] told left = refl
nobody_hears n r (w ∷ ws) told left =
    let parts = and_parts (is_told w.space n) (list_all (λ row. is_told row.space n) ws) told in
    let apart : (r.space == w.space) ≡ false = ne_eqb r.space w.space (λ same. true≢false (sym parts.0 ∙ (ap (λ k. is_told k n) (sym same) ∙ left))) in
    let none : is_news n.classes n.caller r w ≡ false = ap (λ b. is_free r.transaction n.caller && (b && matches n.classes r.template w.entry)) apart ∙ and-false (is_free r.transaction n.caller) in
    ap (λ (b : Bool). cond b (w ∷ filter (is_news n.classes n.caller r) ws) (filter (is_news n.classes n.caller r) ws)) none ∙ nobody_hears n r ws parts.1 left

nothing_owed : (n : News) (r : Registration) → list_all (λ row. is_told row.space n) n.rows ≡ true → numbers_of_news n.classes n.caller (untold n r) r ≡ []
nothing_owed n r told = at (is_told r.space n) refl where
  at : (b : Bool) → is_told r.space n ≡ b → numbers_of_news n.classes n.caller (untold n r) r ≡ []
  at true e = ap (λ (ws : List Row). numbers_of_news n.classes n.caller ws r) (nothing_untold n r e)
  at false e =
      ap (map (λ (w : Row). w.number)) (nobody_hears n r (untold n r) (all_dropped (λ (row : Row). is_told row.space n) n.rows (told_to n r) told) e)

pub told_everywhere : (n : News) (ns : List News) → list_all (λ row. is_told row.space n) n.rows ≡ true → (rs : List Registration) → map (hearing ns) rs ≡ map (hearing (n ∷ ns)) rs
told_everywhere n ns told rs =
    map_same (hearing ns) (hearing (n ∷ ns))
    (λ r. ap (λ (w : List ℕ). record r { owed = r.owed ++ (w ++ numbers_untold ns r) }) (sym (nothing_owed n r told))) rs

-- the earliest is dropped once it is
pub head_dropped : (news : List News) (n : News) (after : List News) → 0 < length news → n ≡ get_or news 0 n → list_all (λ row. is_told row.space n) n.rows ≡ true
    → after ≡ drop 1 news → (rs : List Registration) → map (hearing after) rs ≡ map (hearing news) rs
head_dropped [] n after some is told left rs = absurd (omega (arith, some))
head_dropped (m ∷ ns) n after some is told left rs =
    ap (λ (ms : List News). map (hearing ms) rs) left ∙ told_everywhere m ns (subst (λ (k : News). list_all (λ row. is_told row.space k) k.rows ≡ true) is told) rs

risen : (b : Bool) (x y : ℕ) → y ≡ cond b (x + 1) x → x ≤ y
risen true x y e = omega (arith, e)
risen false x y e = omega (arith, e)

pub not_fewer : (space k x y : ℕ) → y ≡ (if k == space then x + 1 else x) → x ≤ y
not_fewer space k x y e = risen (eqb k space) x y e

-- ---- one who was told

dropped : (xs ys : List ℕ) (b : Bool) → (length xs == 0 && not b) ≡ false → (b ≡ true → ys ≡ []) → drop 1 xs ++ ys ≡ drop 1 (xs ++ ys)
dropped [] ys true h none = none refl ∙ sym (ap (drop 1) (none refl))
dropped [] ys false h none = absurd (cc h)
dropped (x ∷ xs) ys b h none = refl

pub told_heard : (news : List News) (n : ℕ) (rs : List Registration) → list_any (λ r. r.number == n && is_behind news r) rs ≡ false
    → map (hearing news) (update (λ r. r.number == n) told_once rs) ≡ update (λ r. r.number == n) told_once (map (hearing news) rs)
told_heard news n [] ready = refl
told_heard news n (r ∷ rs) ready =
    let parts = or_parts (r.number == n && is_behind news r) (list_any (λ r. r.number == n && is_behind news r) rs) ready in
    same_lists (at (eqb r.number n) refl parts.0) (told_heard news n rs parts.1)
  where
    at : (b : Bool) → (r.number == n) ≡ b → (r.number == n && is_behind news r) ≡ false → hearing news (cond b (told_once r) r) ≡ cond b (told_once (hearing news r)) (hearing news r)
    at true e h =
        let behind : is_behind news r ≡ false = ap (λ b. b && is_behind news r) (sym e) ∙ h in
        ap (λ (w : List ℕ). record r { owed = w; sequence = r.sequence + 1 })
        (dropped r.owed (numbers_untold news r) (all_told news r.space) behind (none_left news r))
    at false e h = refl

-- who is at one of these spaces has heard
pub none_behind : (news : List News) (n : ℕ) (rs : List Registration) → list_all (all_told news) (map (λ r. r.space) (filter (λ r. r.number == n) rs)) ≡ true
    → list_any (λ r. r.number == n && is_behind news r) rs ≡ false
none_behind news n [] told = refl
none_behind news n (r ∷ rs) told = at (eqb r.number n) refl told (none_behind news n rs) where
  at : (b : Bool) → (r.number == n) ≡ b → list_all (all_told news) (map (λ r. r.space) (cond b (r ∷ filter (λ r. r.number == n) rs) (filter (λ r. r.number == n) rs))) ≡ true
      → (list_all (all_told news) (map (λ r. r.space) (filter (λ r. r.number == n) rs)) ≡ true → list_any (λ r. r.number == n && is_behind news r) rs ≡ false)
      → ((r.number == n && is_behind news r) || list_any (λ r. r.number == n && is_behind news r) rs) ≡ false
  at true e all later =
      let parts = and_parts (all_told news r.space) (list_all (all_told news) (map (λ r. r.space) (filter (λ r. r.number == n) rs))) all in
      let not_behind : is_behind news r ≡ false = ap (λ b. length r.owed == 0 && not b) parts.0 ∙ and-false (length r.owed == 0) in
      rw (not_behind, and-false (r.number == n)) (later parts.1)
  at false e all later = rw e (later all)

-- what is told changes nobody's number or space
pub same_spaces : (old new : List News) (n : ℕ) (before after : List Registration) → map (hearing new) after ≡ map (hearing old) before
    → map (λ (r : Registration). r.space) (filter (λ r. r.number == n) before) ≡ map (λ (r : Registration). r.space) (filter (λ r. r.number == n) after)
same_spaces old new n before after same =
    spaces_after old n before ∙ (ap (λ (rs : List Registration). map (λ (r : Registration). r.space) (filter (λ r. r.number == n) rs)) (sym same) ∙ sym (spaces_after new n after))

-- one that comes last hears nothing of what its space was told
pub one_more_heard : (old new : List News) (before after : List Registration) (r : Registration) → map (hearing new) after ≡ map (hearing old) before → all_told new r.space ≡ true
    → map (hearing new) (after ++ r ∷ []) ≡ map (hearing old) before ++ r ∷ []
one_more_heard old new before after r same told =
    map-append (hearing new) after (r ∷ []) ∙ (ap (λ (w : List Registration). w ++ hearing new r ∷ []) same ∙ ap (λ (q : Registration). map (hearing old) before ++ q ∷ []) (all_is_heard new r told))

-- rows in spaces that have heard all are owed before or after what the others haven't heard
unheard : (news : List News) (classes : List Class) (caller : Option ℕ) (r : Registration) (rows : List Row) → list_all (λ row. all_told news row.space) rows ≡ true → all_told news r.space ≡ false
    → filter (is_news classes caller r) rows ≡ []
unheard news classes caller r [] told left = refl
unheard news classes caller r (w ∷ ws) told left =
    let parts = and_parts (all_told news w.space) (list_all (λ row. all_told news row.space) ws) told in
    let apart : (r.space == w.space) ≡ false = ne_eqb r.space w.space (λ same. true≢false (sym parts.0 ∙ (ap (all_told news) (sym same) ∙ left))) in
    let none : is_news classes caller r w ≡ false = ap (λ b. is_free r.transaction caller && (b && matches classes r.template w.entry)) apart ∙ and-false (is_free r.transaction caller) in
    ap (λ (b : Bool). cond b (w ∷ filter (is_news classes caller r) ws) (filter (is_news classes caller r) ws)) none ∙ unheard news classes caller r ws parts.1 left

owed_between : (news : List News) (classes : List Class) (caller : Option ℕ) (rows : List Row) → list_all (λ row. all_told news row.space) rows ≡ true → (r : Registration)
    → hearing news (owed classes caller rows r) ≡ owed classes caller rows (hearing news r)
owed_between news classes caller rows told r = at (all_told news r.space) refl where
  at : (b : Bool) → all_told news r.space ≡ b → hearing news (owed classes caller rows r) ≡ owed classes caller rows (hearing news r)
  at true e = all_is_heard news (owed classes caller rows r) e ∙ ap (owed classes caller rows) (sym (all_is_heard news r e))
  at false e =
      let none = unheard news classes caller r rows told e in
      let here : owed classes caller rows r ≡ r = ap (λ (ws : List Row). record r { owed = r.owed ++ map (λ (w : Row). w.number) ws }) none ∙ none_heard r in
      let later : owed classes caller rows (hearing news r) ≡ hearing news r =
      ap (λ (ws : List Row). record (hearing news r) { owed = (hearing news r).owed ++ map (λ (w : Row). w.number) ws }) none ∙ none_heard (hearing news r) in
      ap (hearing news) here ∙ sym later

pub all_owed : (news : List News) (classes : List Class) (caller : Option ℕ) (rows : List Row) → list_all (λ row. all_told news row.space) rows ≡ true → (rs : List Registration)
    → map (hearing news) (map (owed classes caller rows) rs) ≡ map (owed classes caller rows) (map (hearing news) rs)
all_owed news classes caller rows told [] = refl
all_owed news classes caller rows told (r ∷ rs) = same_lists (owed_between news classes caller rows told r) (all_owed news classes caller rows told rs)

-- sequence numbers don't hang on what is told later
pub sequences_after : (news : List News) (rs : List Registration) → list_all (λ r. nat_le (r.sequence + 1) (2 ^ 63)) rs ≡ list_all (λ r. nat_le (r.sequence + 1) (2 ^ 63)) (map (hearing news) rs)
sequences_after news rs = sym (list_all-map (λ (r : Registration). nat_le (r.sequence + 1) (2 ^ 63)) (hearing news) rs)

-- ---- one space after another

pub all_kept : {X : Type 0} (p q : X → Bool) → ((x : X) → p x ≡ true → q x ≡ true) → (xs : List X) → list_all p xs ≡ true → list_all q xs ≡ true
all_kept p q kept [] all = refl
all_kept p q kept (x ∷ xs) all =
    let parts = and_parts (p x) (list_all p xs) all in
    and_from (q x) (list_all q xs) (kept x parts.0) (all_kept p q kept xs parts.1)

pub one_more_told : {X : Type 0} (p q : X → Bool) (xs : List X) (i : ℕ) (d : X) → i < length xs → ((y : X) → p y ≡ true → q y ≡ true)
    → list_all p (take i xs) ≡ true → q (get_or xs i d) ≡ true → list_all q (take (i + 1) xs) ≡ true
one_more_told p q xs i d some kept before here =
    list_all_more q xs i d some ∙ and_from (list_all q (take i xs)) (q (get_or xs i d)) (all_kept p q kept (take i xs) before) here

pub some_left : (n : ℕ) → (n == 0) ≡ false → 0 < n
some_left zero e = absurd (cc e)
some_left (suc n) e = omega arith
