-- Fields in the order in which JSON has them.
use Rattle.std.proofs.Common.{◌≡◌, ℕ, suc, ◌+◌, ◌<◌, List, [], ◌∷◌, length, get_or, map, true, Bor, Ordering, Less, Equal, Greater, refl, ap, sym, subst, ◌∙◌, arith}
use Rattle.std.proofs.lemmas.Cmp.{nat_list_cmp_total}
use Rattle.std.specs.Cmp.Lexicographic.{slice_cmp}
use Rattle.std.specs.List.{AllAdjacentBelow}
use Rattle.std.specs.Ordering.{nat_cmp, is_lt, match_ordering, ordering_reverse}
use Rattle.std.specs.BTreeMap.{insert_entry}
use Rattle.serde_json.specs.Data.{Members, no_members, member, put}
use Rattle.jsp_types.specs.declared.value.Value.{Value}
use Rattle.jsp_reply.specs.Text.{value_data, with_fields}
use Rattle.jsp_reply.specs.Ordered.{members_of}

abbrev pub Field : Type 0
Field = List ℕ × Value

-- ---- a member put into a map

abbrev pub Member : Type 0
Member = Bor (List ℕ) × Bor Value

abbrev pub fields_of : List Member → List Field
fields_of ms = map (λ m. (m.0.now, m.1.now)) ms

abbrev pub name_cmp : Bor (List ℕ) → Bor (List ℕ) → Ordering
name_cmp a b = slice_cmp nat_cmp a.now b.now

members_of-match_ordering : (o : Ordering) (a b c : List Member)
    → members_of (fields_of (match_ordering o a b c)) ≡ match_ordering o (members_of (fields_of a)) (members_of (fields_of b)) (members_of (fields_of c))
members_of-match_ordering Less a b c = refl
members_of-match_ordering Equal a b c = refl
members_of-match_ordering Greater a b c = refl

pub members_of-insert_entry : (ms : List Member) (name : Bor (List ℕ)) (value : Bor Value)
    → members_of (fields_of (insert_entry name_cmp ms name value)) ≡ put name.now (value_data value.now) (members_of (fields_of ms))
members_of-insert_entry [] name value = refl
members_of-insert_entry (m ∷ ms) name value = members_of-match_ordering (name_cmp name m.0) _ _ _ ∙ rw (members_of-insert_entry ms name value)

-- ---- fields that stand in order

-- each is before the next
abbrev IsRising : Field → List Field → Type 0
IsRising f [] = Unit {0}
IsRising f (g ∷ gs) = (slice_cmp nat_cmp f.0 g.0 ≡ Less) × IsRising g gs

abbrev IsBeforeAll : Field → List Field → Type 0
IsBeforeAll f [] = Unit {0}
IsBeforeAll f (g ∷ gs) = (slice_cmp nat_cmp f.0 g.0 ≡ Less) × IsBeforeAll f gs

before_later : (f g : Field) (gs : List Field) → slice_cmp nat_cmp f.0 g.0 ≡ Less → IsBeforeAll g gs → IsBeforeAll f gs
before_later f g [] less later = tt
before_later f g (h ∷ hs) less later = (nat_list_cmp_total.trans f.0 g.0 h.0 less later.0, before_later f g hs less later.1)

rising-before_all : (f : Field) (gs : List Field) → IsRising f gs → IsBeforeAll f gs
rising-before_all f [] rising = tt
rising-before_all f (g ∷ gs) rising = (rising.0, before_later f g gs rising.0 (rising-before_all g gs rising.1))

-- fields behind a member leave it first
with_fields-behind : (f : Field) (gs : List Field) (ms : Members) → IsBeforeAll f gs
    → with_fields gs (member f.0 (value_data f.1) ms) ≡ member f.0 (value_data f.1) (with_fields gs ms)
with_fields-behind f [] ms before = refl
with_fields-behind f (g ∷ gs) ms before =
    let behind : slice_cmp nat_cmp g.0 f.0 ≡ Greater = nat_list_cmp_total.antisymm g.0 f.0 ∙ ap ordering_reverse before.0 in
    rw behind (with_fields-behind f gs (put g.0 (value_data g.1) ms) before.1)

rising-members : (f : Field) (gs : List Field) → IsRising f gs → members_of (f ∷ gs) ≡ with_fields (f ∷ gs) no_members
rising-members f [] rising = refl
rising-members f (g ∷ gs) rising =
    ap (member f.0 (value_data f.1)) (rising-members g gs rising.1)
    ∙ sym (with_fields-behind f (g ∷ gs) no_members (rising-before_all f (g ∷ gs) rising))

less_of : (o : Ordering) → true ≡ is_lt o → o ≡ Less
less_of Less e = refl
less_of Equal e = absurd (cc)
less_of Greater e = absurd (cc)

-- what a test of each field and the next says
abbrev pub AreAdjacentlyBefore : List Field → Type 0
AreAdjacentlyBefore fs = AllAdjacentBelow (λ f g. true ≡ is_lt (slice_cmp nat_cmp f.0 g.0)) fs (length fs)

adjacent-rising : (f : Field) (gs : List Field) → AreAdjacentlyBefore (f ∷ gs) → IsRising f gs
adjacent-rising f [] each = tt
adjacent-rising f (g ∷ gs) each = (
  less_of _ (each 0 f (omega arith)),
  adjacent-rising g gs (λ k d within.
      let one_more : suc k + 1 ≡ suc (k + 1) = omega arith in
      subst (λ n. true ≡ is_lt (slice_cmp nat_cmp (get_or (g ∷ gs) k d).0 (get_or (f ∷ g ∷ gs) n d).0)) one_more (each (suc k) d (omega (arith, within)))),
)

-- are the members of the object that they are put into
pub members-in_order : (fs : List Field) → AreAdjacentlyBefore fs → members_of fs ≡ with_fields fs no_members
members-in_order [] each = refl
members-in_order (f ∷ fs) each = rising-members f fs (adjacent-rising f fs each)
