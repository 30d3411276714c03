-- The members of an object: as they were written, and in byte order of their keys.
use Rattle.std.proofs.Common.{◌≡◌, ℕ, ◌+◌, ◌-◌, ◌<◌, ◌≤◌, List, [], ◌∷◌, ◌++◌, length, map, get_or, take, drop, Bool, true, false, Option, Some, None, option_map, Bor, Ordering, Less, Equal, Greater, true≢false, refl, sym, ap, ap₂, subst, ◌∙◌, append_assoc, arith, if◌then◌else◌}
use Rattle.std.proofs.lemmas.List.{append-nil, get_or-map, length-map, take_more, at_drop_more, at_drop_all}
use Rattle.std.proofs.lemmas.Cmp.{nat_list_cmp_total, on_total}
use Rattle.std.proofs.lemmas.Map.Keys.{sorted_from_all_adjacent}
use Rattle.std.proofs.lemmas.Map.Text.{is_eq-slice_cmp}
use Rattle.std.proofs.lemmas.Slice.Eq.{bytes_eq-Decides}
use Rattle.std.specs.Cmp.{IsTotalOrder}
use Rattle.std.specs.Cmp.Lexicographic.{slice_cmp}
use Rattle.std.specs.List.{AllByRecursion}
use Rattle.std.specs.List.Sorted.{IsStrictlySortedBy}
use Rattle.std.specs.Map.{keys_of}
use Rattle.std.specs.Ordering.{nat_cmp, is_eq, match_ordering, ordering_reverse}
use Rattle.std.specs.BTreeMap.{insert_entry}
use Rattle.std.specs.Str.{bytes_eq}
use Rattle.serde_json.specs.Data.{Data, Members, no_members, member, put}
use Rattle.serde_json.specs.Find.{get_member}
use Rattle.serde_json.proofs.Views.{get_member-put, get_member-put_other}
use Rattle.jsp_wire.specs.declared.tree.Tree.{Tree}
use Rattle.jsp_wire.specs.Tree.{view, put_all, members_view, members_in_order, members_by_ref}
use Rattle.jsp_wire.specs.Parts.{is_known, only_members}

abbrev pub Key : Type 0
Key = Bor (List ℕ)

abbrev pub Member : Type 0
Member = Key × Tree

-- the order of the keys
abbrev pub key_cmp : Key → Key → Ordering
key_cmp a b = slice_cmp nat_cmp a.now b.now

-- these members, put in after those that were found
abbrev pub put_after : List Member → Members → Members
put_after ms found = put_all (map (λ m. (m.0, view m.1)) ms) found

put_after-push : (ms : List Member) (m : Member) (found : Members) → put_after (ms ++ m ∷ []) found ≡ put m.0.now (view m.1) (put_after ms found)
put_after-push [] m found = refl
put_after-push (x ∷ ms) m found = put_after-push ms m (put x.0.now (view x.1) found)

pub members_view-push : (ms : List Member) (m : Member) → members_view (ms ++ m ∷ []) ≡ put m.0.now (view m.1) (members_view ms)
members_view-push ms m = put_after-push ms m no_members

-- ---- the last value of a name

one_less : (ms : List Member) (left : ℕ) (m : Member) → 0 < left → left ≤ length ms → m ≡ get_or ms (left - 1) m → take left ms ≡ take (left - 1) ms ++ m ∷ []
one_less ms left m some within is =
    let again : left - 1 + 1 ≡ left = omega (arith, some) in
    ap (λ n. take n ms) (sym again) ∙ take_more ms (left - 1) m (omega (arith, some, within)) ∙ ap (λ x. take (left - 1) ms ++ x ∷ []) (sym is)

pub last_is : (name : List ℕ) (ms : List Member) (m : Member) → m.0.now ≡ name → get_member name (members_view (ms ++ m ∷ [])) ≡ Some (view m.1)
last_is name ms m is = ap (get_member name) (members_view-push ms m) ∙ rw is (get_member-put name (view m.1) (members_view ms))

pub last_is_other : (name : List ℕ) (ms : List Member) (m : Member) → (m.0.now ≡ name → ⊥) → get_member name (members_view (ms ++ m ∷ [])) ≡ get_member name (members_view ms)
last_is_other name ms m other = ap (get_member name) (members_view-push ms m) ∙ get_member-put_other name m.0.now (view m.1) (members_view ms) (λ same. other (sym same))

-- the member before this place has the name, and so is the last one that has it
pub found_back : (name : List ℕ) (ms : List Member) (left : ℕ) (m : Member) → 0 < left → left ≤ length ms → m ≡ get_or ms (left - 1) m → bytes_eq m.0.now name ≡ true
    → get_member name (members_view (take left ms)) ≡ get_member name (members_view ms) → Some (view m.1) ≡ get_member name (members_view ms)
found_back name ms left m some within is same_name same =
    sym (last_is name (take (left - 1) ms) m ((bytes_eq-Decides m.0.now name).0 same_name))
    ∙ ap (λ xs. get_member name (members_view xs)) (sym (one_less ms left m some within is)) ∙ same

pub not_back : (name : List ℕ) (ms : List Member) (left : ℕ) (m : Member) → 0 < left → left ≤ length ms → m ≡ get_or ms (left - 1) m → bytes_eq m.0.now name ≡ false
    → get_member name (members_view (take left ms)) ≡ get_member name (members_view ms) → get_member name (members_view (take (left - 1) ms)) ≡ get_member name (members_view ms)
not_back name ms left m some within is other_name same =
    let other = λ (h : m.0.now ≡ name). true≢false (sym ((bytes_eq-Decides m.0.now name).1 h) ∙ other_name) in
    sym (last_is_other name (take (left - 1) ms) m other)
    ∙ ap (λ xs. get_member name (members_view xs)) (sym (one_less ms left m some within is)) ∙ same

-- ---- in order

put-match_ordering : (o : Ordering) (a b c : List (Key × Bor Tree)) → members_by_ref (match_ordering o a b c) ≡ match_ordering o (members_by_ref a) (members_by_ref b) (members_by_ref c)
put-match_ordering Less a b c = refl
put-match_ordering Equal a b c = refl
put-match_ordering Greater a b c = refl

pub members_by_ref-insert_entry : (ms : List (Key × Bor Tree)) (key : Key) (tree : Bor Tree) → members_by_ref (insert_entry key_cmp ms key tree) ≡ put key.now (view tree.now) (members_by_ref ms)
members_by_ref-insert_entry [] key tree = refl
members_by_ref-insert_entry (m ∷ ms) key tree = put-match_ordering (key_cmp key m.0) _ _ _ ∙ rw (members_by_ref-insert_entry ms key tree)

below_middle : (first : Key) (ms : List Member) (m : Member) (more : List Member) → AllByRecursion (λ y. key_cmp first y ≡ Less) (keys_of (ms ++ m ∷ more)) → key_cmp first m.0 ≡ Less
below_middle first [] m more h = h.0
below_middle first (x ∷ ms) m more h = below_middle first ms m more h.1

-- a key that is above those before it goes last
put_last : (done : List Member) (m : Member) (more : List Member) → IsStrictlySortedBy key_cmp (keys_of (done ++ m ∷ more))
    → put m.0.now (view m.1) (members_in_order done) ≡ members_in_order (done ++ m ∷ [])
unfolding IsStrictlySortedBy
put_last [] m more h = refl
put_last (first ∷ done) m more h =
    let above : slice_cmp nat_cmp m.0.now first.0.now ≡ Greater =
    nat_list_cmp_total.antisymm m.0.now first.0.now ∙ ap ordering_reverse (below_middle first.0 done m more h.0) in
    rw above (ap (member first.0.now (view first.1)) (put_last done m more h.1))

put_after-in_order : (done ms : List Member) → IsStrictlySortedBy key_cmp (keys_of (done ++ ms)) → put_after ms (members_in_order done) ≡ members_in_order (done ++ ms)
put_after-in_order done [] h = ap members_in_order (sym (append-nil done))
put_after-in_order done (m ∷ ms) h =
    let same : (done ++ m ∷ []) ++ ms ≡ done ++ m ∷ ms = append_assoc done (m ∷ []) ms in
    ap (put_after ms) (put_last done m ms h)
    ∙ put_after-in_order (done ++ m ∷ []) ms (subst (λ xs. IsStrictlySortedBy key_cmp (keys_of xs)) (sym same) h)
    ∙ ap members_in_order same

key_cmp_total : IsTotalOrder key_cmp
key_cmp_total = on_total (λ (k : Key). k.now) nat_list_cmp_total

adjacent_keys : (ms : List Member) (d : Member) → ((k : ℕ) → k + 1 < length ms → key_cmp (get_or ms k d).0 (get_or ms (k + 1) d).0 ≡ Less)
    → (k : ℕ) → k + 1 < length (keys_of ms) → key_cmp (get_or (keys_of ms) k d.0) (get_or (keys_of ms) (k + 1) d.0) ≡ Less
adjacent_keys ms d h k within =
    let less : k + 1 < length ms = subst (λ n. k + 1 < n) (length-map ms (λ (x : Member). x.0)) within in
    let first : get_or (keys_of ms) k d.0 ≡ (get_or ms k d).0 = get_or-map (λ (x : Member). x.0) ms k d d.0 (omega (arith, less)) in
    let second : get_or (keys_of ms) (k + 1) d.0 ≡ (get_or ms (k + 1) d).0 = get_or-map (λ (x : Member). x.0) ms (k + 1) d d.0 less in
    ap₂ key_cmp first second ∙ h k less

pub view_in_order : (ms : List Member) → ((d : Member) (k : ℕ) → k + 1 < length ms → key_cmp (get_or ms k d).0 (get_or ms (k + 1) d).0 ≡ Less) → members_view ms ≡ members_in_order ms
view_in_order [] h = refl
view_in_order (m ∷ ms) h = put_after-in_order [] (m ∷ ms) (sorted_from_all_adjacent key_cmp_total (keys_of (m ∷ ms)) m.0 (adjacent_keys (m ∷ ms) m (h m)))

-- ---- which keys there are

-- the members have no key beside these, and then what is said of the others
abbrev pub all_known : List (List ℕ) → List Member → Option (Unit {0}) → Option (Unit {0})
all_known names [] rest = rest
all_known names (m ∷ ms) rest = if is_known names m.0.now then all_known names ms rest else None

abbrev if_known : Bool → Option (Unit {0}) → Option (Unit {0})
if_known b o = if b then o else None

twice : (b : Bool) (o : Option (Unit {0})) → (if b then o else None) ≡ (if b then (if b then o else None) else None)
twice true o = refl
twice false o = refl

swapped : (a b : Bool) (o : Option (Unit {0})) → (if a then (if b then o else None) else None) ≡ (if b then (if a then o else None) else None)
swapped true true o = refl
swapped true false o = refl
swapped false true o = refl
swapped false false o = refl

known_at : (o : Ordering) (names : List (List ℕ)) (k l : List ℕ) (d e : Data) (ms : Members) → slice_cmp nat_cmp k l ≡ o
    → only_members names (put k d ms) ≡ (if is_known names k then only_members names ms else None)
    → only_members names (match_ordering o (member k d (member l e ms)) (member l d ms) (member l e (put k d ms)))
    ≡ (if is_known names k then (if is_known names l then only_members names ms else None) else None)
known_at Less names k l d e ms is later = refl
known_at Equal names k l d e ms is later =
    let same : k ≡ l = (bytes_eq-Decides k l).0 (sym (is_eq-slice_cmp k l) ∙ ap is_eq is) in
    rw same (twice (is_known names l) (only_members names ms))
known_at Greater names k l d e ms is later = ap (λ o. if is_known names l then o else None) later ∙ swapped (is_known names l) (is_known names k) (only_members names ms)

only_members-put : (names : List (List ℕ)) (k : List ℕ) (d : Data) (ms : Members) → only_members names (put k d ms) ≡ (if is_known names k then only_members names ms else None)
only_members-put names k d no_members = refl
only_members-put names k d (member l e ms) = known_at _ names k l d e ms refl (only_members-put names k d ms)

either_none : (b : Bool) → if_known b None ≡ None
either_none true = refl
either_none false = refl

none_known : (names : List (List ℕ)) (ms : List Member) → all_known names ms None ≡ None
none_known names [] = refl
none_known names (m ∷ ms) = rw (none_known names ms) (either_none (is_known names m.0.now))

past_first : (b : Bool) (names : List (List ℕ)) (ms : List Member) (o : Option (Unit {0})) → all_known names ms (if b then o else None) ≡ (if b then all_known names ms o else None)
past_first true names ms o = refl
past_first false names ms o = none_known names ms

only_members-put_after : (names : List (List ℕ)) (ms : List Member) (found : Members) → only_members names (put_after ms found) ≡ all_known names ms (only_members names found)
only_members-put_after names [] found = refl
only_members-put_after names (m ∷ ms) found =
    only_members-put_after names ms (put m.0.now (view m.1) found)
    ∙ ap (all_known names ms) (only_members-put names m.0.now (view m.1) found)
    ∙ past_first (is_known names m.0.now) names ms (only_members names found)

pub only_members-view : (names : List (List ℕ)) (ms : List Member) → only_members names (members_view ms) ≡ all_known names ms (Some tt)
only_members-view names ms = only_members-put_after names ms no_members

-- a key that isn't known is among the members
pub unknown_key : (names : List (List ℕ)) (ms : List Member) (i : ℕ) (m : Member) → i < length ms → m ≡ get_or ms i m → is_known names m.0.now ≡ false
    → all_known names (drop i ms) (Some tt) ≡ all_known names ms (Some tt) → only_members names (members_view ms) ≡ None
unknown_key names ms i m within is other same =
    let refused : all_known names (m ∷ drop (i + 1) ms) (Some tt) ≡ None = rw other refl in
    only_members-view names ms ∙ sym same ∙ at_drop_more (λ xs. all_known names xs (Some tt)) ms i m within
    ∙ ap (λ x. all_known names (x ∷ drop (i + 1) ms) (Some tt)) (sym is) ∙ refused

pub known_keys : (names : List (List ℕ)) (ms : List Member) (i : ℕ) → length ms ≤ i → all_known names (drop i ms) (Some tt) ≡ all_known names ms (Some tt) → only_members names (members_view ms) ≡ Some tt
known_keys names ms i over same = only_members-view names ms ∙ sym same ∙ at_drop_all (λ xs. all_known names xs (Some tt)) ms i over

-- one member more is put in
pub one_more_in : (ms : List Member) (i : ℕ) (m : Member) (whole found : Members) → i < length ms → m ≡ get_or ms i m
    → put_after (drop i ms) found ≡ whole → put_after (drop (i + 1) ms) (put m.0.now (view m.1) found) ≡ whole
one_more_in ms i m whole found within is same =
    ap (λ x. put_after (x ∷ drop (i + 1) ms) found) is ∙ sym (at_drop_more (λ xs. put_after xs found) ms i m within) ∙ same

pub view_of_ref : (o : Option (Bor Tree)) → option_map (λ t. view t.now) o ≡ option_map view (option_map (λ t. t.now) o)
view_of_ref None = refl
view_of_ref (Some t) = refl
