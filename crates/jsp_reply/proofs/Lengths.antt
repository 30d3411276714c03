-- How long the texts are.
use Rattle.std.proofs.Common.{◌≡◌, ℕ, zero, suc, ◌+◌, ◌*◌, ◌/◌, ◌%◌, ◌<◌, ◌≤◌, ◌==◌, nat_lt, ℤ, pos, negsuc, List, [], ◌∷◌, ◌++◌, length, map, Bool, true, false, cond, if◌then◌else◌, nat_le, Option, Some, None, Ordering, Less, Equal, Greater, decimal, codes, refl, arith, length-append, leb-true}
use Rattle.std.specs.Char.{digit_char}
use Rattle.std.specs.Fmt.{digit_glyph, digits_onto, digits, signed_decimal}
use Rattle.std.specs.List.{flat_map, list_all}
use Rattle.std.specs.Ordering.{nat_cmp, match_ordering}
use Rattle.std.specs.Cmp.Lexicographic.{slice_cmp}
use Rattle.std.proofs.lemmas.Bool.{and_parts}
use Rattle.std.proofs.lemmas.List.Sums.{sum_by-cons}
use Rattle.json.specs.Print.{escape_letter, escape_byte}
use Rattle.serde_json.specs.Data.{Data, Members, no_members, member, put}
use Rattle.serde_json.specs.Written.{compact_text, members_text, comma_if}
use Rattle.jsp_types.specs.declared.value.Value.{Value}
use Rattle.jsp_types.specs.declared.value.Value.TheVariants as value
use Rattle.jsp_types.specs.declared.entry.Entry.{Entry}
use Rattle.jsp_types.specs.Matching.{text_len, text_size, is_small}
use Rattle.jsp_reply.specs.declared.refusal.Refusal.{Refusal}
use Rattle.jsp_reply.specs.declared.reply.LeaseAnswer.{LeaseAnswer}
use Rattle.jsp_reply.specs.declared.reply.LeaseOutcome.{LeaseOutcome}
use Rattle.jsp_reply.specs.declared.reply.LeaseOutcome.TheVariants as outcome
use Rattle.jsp_reply.specs.declared.reply.TxnState.TheVariants.{Active, Voting}
use Rattle.jsp_reply.specs.declared.reply.Reply.{Reply}
use Rattle.jsp_reply.specs.declared.reply.Reply.TheVariants as reply
use Rattle.jsp_reply.specs.Limits.{is_within_limits}
use Rattle.jsp_reply.specs.Numbers.{number_of}
use Rattle.jsp_reply.specs.Text.{quoted, later_texts, list_text, bool_text, value_data, with_fields, fields_text, entry_text, lease_text, outcome_text, lease_answer_text, batch_text, page_text, answer_text, refused_text, told_text, text_of, bound_of}

-- ---- texts side by side

pub record IsWithin (xs : List ℕ) (m : ℕ) : Type 0 where
  pub bound : length xs ≤ m

whole : (xs : List ℕ) → IsWithin xs (length xs)
whole xs = record { bound = omega arith }

infixr 5 ◌then◌
◌then◌ : {xs ys : List ℕ} {m n : ℕ} → IsWithin xs m → IsWithin ys n → IsWithin (xs ++ ys) (m + n)
◌then◌ {xs = xs} {ys = ys} a b = record { bound = omega (arith, length-append xs ys, a.bound, b.bound) }

looser : {xs : List ℕ} {m n : ℕ} → IsWithin xs m → m ≤ n → IsWithin xs n
looser a b = record { bound = omega (arith, a.bound, b) }

either : (b : Bool) (xs ys : List ℕ) (m : ℕ) → length xs ≤ m → length ys ≤ m → length (cond b xs ys) ≤ m
either true xs ys m p q = p
either false xs ys m p q = q

-- ---- numbers: `decimal` writes at most 64 digits of any number, and so no limit of a number is needed

digits_onto_short : (k n : ℕ) (acc : List ℕ) → length (digits_onto k 10 false n acc) ≤ k + length acc
digits_onto_short zero n acc = omega arith
digits_onto_short (suc k) n acc =
    let more : List ℕ = digit_glyph false (n % 10) ∷ acc in
    either (n / 10 == 0) more (digits_onto k 10 false (n / 10) more) (suc k + length acc) (omega arith) (omega (arith, digits_onto_short k (n / 10) more))

pub decimal_short : (n : ℕ) → length (decimal n) ≤ 64
unfolding digits
decimal_short n = digits_onto_short 64 n []

pub signed_short : (n : ℤ) → length (signed_decimal n) ≤ 65
signed_short (pos n) = omega (arith, decimal_short n)
signed_short (negsuc n) = omega (arith, decimal_short (suc n))

-- ---- texts: each byte as at most 6, in quotes

escape_byte_short : (x : ℕ) → length (escape_byte x) ≤ 6
unfolding escape_byte
escape_byte_short x =
    let short : List ℕ = 92 ∷ escape_letter x ∷ [] in
    let long : List ℕ = 92 ∷ 117 ∷ 48 ∷ 48 ∷ digit_char (x / 16) ∷ digit_char (x % 16) ∷ [] in
    either (nat_lt 0 (escape_letter x)) short (cond (nat_lt x 32) long (x ∷ [])) 6 (omega arith) (either (nat_lt x 32) long (x ∷ []) 6 (omega arith) (omega arith))

escape_short : (s : List ℕ) → length (flat_map escape_byte s) ≤ 6 * length s
escape_short [] = omega arith
escape_short (x ∷ xs) = omega (arith, length-append (escape_byte x) (flat_map escape_byte xs), escape_byte_short x, escape_short xs)

pub quoted_short : (s : List ℕ) → length (quoted s) ≤ 6 * length s + 2
quoted_short s = omega (arith, length-append (flat_map escape_byte s) (34 ∷ []), escape_short s)

-- ---- members and fields

comma_short : (later : Bool) → length (comma_if later) ≤ 1
comma_short true = omega arith
comma_short false = omega arith

member_length : (later : Bool) (k : List ℕ) (d : Data) (ms : Members) → length (members_text later (member k d ms))
    ≡ length (comma_if later) + (length (quoted k) + (1 + (length (compact_text d) + length (members_text true ms))))
member_length later k d ms =
    omega (
      arith,
      length-append (comma_if later) (quoted k ++ 58 ∷ (compact_text d ++ members_text true ms)),
      length-append (quoted k) (58 ∷ (compact_text d ++ members_text true ms)),
      length-append (compact_text d) (members_text true ms),
    )

put_at_short : (o : Ordering) (later : Bool) (a b c : Members) (m : ℕ) → length (members_text later a) ≤ m → length (members_text later b) ≤ m → length (members_text later c) ≤ m
    → length (members_text later (match_ordering o a b c)) ≤ m
put_at_short Less later a b c m p q r = p
put_at_short Equal later a b c m p q r = q
put_at_short Greater later a b c m p q r = r

put_short : (later : Bool) (k : List ℕ) (d : Data) (ms : Members) → length (members_text later (put k d ms)) ≤ length (members_text later ms) + (length (quoted k) + length (compact_text d) + 2)
put_short later k d no_members = omega (arith, member_length later k d no_members, comma_short later)
put_short later k d (member l e ms) =
    put_at_short (slice_cmp nat_cmp k l) later (member k d (member l e ms)) (member l d ms) (member l e (put k d ms))
    (length (members_text later (member l e ms)) + (length (quoted k) + length (compact_text d) + 2))
    (omega (arith, member_length later k d (member l e ms), member_length true l e ms, member_length later l e ms))
    (omega (arith, member_length later l d ms, member_length later l e ms))
    (omega (arith, member_length later l e (put k d ms), member_length later l e ms, put_short true k d ms))

value_short : (v : Value) → length (compact_text (value_data v)) ≤ 65 + 6 * text_len v
value_short value.Null = omega arith
value_short (value.Int (pos n)) = omega (arith, decimal_short n)
value_short (value.Int (negsuc n)) = omega (arith, decimal_short (suc n))
value_short (value.Text s) = omega (arith, quoted_short s)
value_short (value.Bool true) = omega arith
value_short (value.Bool false) = omega arith

with_fields_short : (fs : List (List ℕ × Value)) (ms : Members) → list_all (λ f. nat_le (length f.0) 64) fs ≡ true
    → length (members_text false (with_fields fs ms)) ≤ length (members_text false ms) + (453 * length fs + 6 * text_size fs)
with_fields_short [] ms names = omega arith
with_fields_short (f ∷ fs) ms names =
    let parts = and_parts (nat_le (length f.0) 64) (list_all (λ f. nat_le (length f.0) 64) fs) names in
    let name : length f.0 ≤ 64 = leb-true (length f.0) 64 parts.0 in
    let size : text_size (f ∷ fs) ≡ text_len f.1 + text_size fs = sum_by-cons (λ f. text_len f.1) f fs in
    omega (arith, with_fields_short fs (put f.0 (value_data f.1) ms) parts.1, put_short false f.0 (value_data f.1) ms, quoted_short f.0, value_short f.1, name, size)

-- what an entry within its limits is
small_parts : (e : Entry) → is_small e ≡ true → record { class : length e.class ≤ 64; fields : length e.fields ≤ 32; names : list_all (λ f. nat_le (length f.0) 64) e.fields ≡ true; size : text_size e.fields ≤ 8192 }
small_parts e small =
    let a = and_parts _ _ small in
    let b = and_parts _ _ a.0 in
    let c = and_parts _ _ b.0 in
    record { class = leb-true _ _ c.0; fields = leb-true _ _ c.1; names = b.1; size = leb-true _ _ a.1 }

entry_within : (e : Entry) → is_small e ≡ true → IsWithin (entry_text e) 64056
entry_within e small =
    let parts = small_parts e small in
    let class : IsWithin (quoted e.class) 386 = record { bound = omega (arith, quoted_short e.class, parts.class) } in
    let fields : IsWithin (fields_text e.fields) 63650 = record { bound = omega (arith, with_fields_short e.fields no_members parts.names, parts.fields, parts.size) } in
    whole (codes "{\"class\":") then class then whole (codes ",\"fields\":") then fields then whole (codes "}")

-- ---- lists

later_short : {A : Type 0} (text : A → List ℕ) (test : A → Bool) (m : ℕ) (short : (x : A) → test x ≡ true → IsWithin (text x) m) (xs : List A) → list_all test xs ≡ true
    → length (later_texts (map text xs)) ≤ 1 + (m + 1) * length xs
later_short text test m short [] all = omega arith
later_short text test m short (x ∷ xs) all =
    let parts = and_parts (test x) (list_all test xs) all in
    omega (arith, length-append (text x) (later_texts (map text xs)), (short x parts.0).bound, later_short text test m short xs parts.1)

list_short : {A : Type 0} (text : A → List ℕ) (test : A → Bool) (m : ℕ) (short : (x : A) → test x ≡ true → IsWithin (text x) m) (xs : List A) → list_all test xs ≡ true
    → length (list_text (map text xs)) ≤ 2 + (m + 1) * length xs
list_short text test m short [] all = omega arith
list_short text test m short (x ∷ xs) all =
    let parts = and_parts (test x) (list_all test xs) all in
    omega (arith, length-append (text x) (later_texts (map text xs)), (short x parts.0).bound, later_short text test m short xs parts.1)

always : {A : Type 0} (xs : List A) → list_all (λ _. true) xs ≡ true
always [] = refl
always (x ∷ xs) = always xs

names_within : (names : List (List ℕ)) → length names ≤ 64 → list_all (λ n. nat_le (length n) 64) names ≡ true → IsWithin (list_text (map quoted names)) 65000
names_within names few small =
    let short : (n : List ℕ) → nat_le (length n) 64 ≡ true → IsWithin (quoted n) 386 = λ n h. record { bound = omega (arith, quoted_short n, leb-true (length n) 64 h) } in
    record { bound = omega (arith, few, list_short quoted (λ n. nat_le (length n) 64) 386 short names small) }

numbers_within : (numbers : List ℕ) → length numbers ≤ 64 → IsWithin (list_text (map decimal numbers)) 65000
numbers_within numbers few =
    let short : (n : ℕ) → true ≡ true → IsWithin (decimal n) 64 = λ n h. record { bound = decimal_short n } in
    record { bound = omega (arith, few, list_short decimal (λ _. true) 64 short numbers (always numbers)) }

entries_within : (entries : List Entry) → length entries ≤ 16 → list_all is_small entries ≡ true → IsWithin (list_text (map entry_text entries)) 1024914
entries_within entries few small = record { bound = omega (arith, few, list_short entry_text is_small 64056 entry_within entries small) }

-- ---- leases

number : (n : ℕ) → IsWithin (decimal n) 64
number n = record { bound = decimal_short n }

signed : (n : ℤ) → IsWithin (signed_decimal n) 65
signed n = record { bound = signed_short n }

lease_within : (lease ms : ℕ) → IsWithin (lease_text lease ms) 1000
lease_within lease ms = looser (whole (codes "{\"lease\":") then number lease then whole (codes ",\"ms\":") then number ms then whole (codes "}")) (omega arith)

outcome_within : (lease : ℤ) (o : LeaseOutcome) → IsWithin (outcome_text lease o) 400
outcome_within lease (outcome.Renewed ms) = looser (whole (codes "{\"lease\":") then signed lease then whole (codes ",\"ms\":") then number ms then whole (codes "}")) (omega arith)
outcome_within lease outcome.Cancelled = looser (whole (codes "{\"lease\":") then signed lease then whole (codes "}")) (omega arith)
outcome_within lease (outcome.Refused refusal) =
    looser (whole (codes "{\"fault\":") then number (number_of refusal) then whole (codes ",\"lease\":") then signed lease then whole (codes "}")) (omega arith)

outcomes_within : (items : List LeaseAnswer) → length items ≤ 64 → IsWithin (list_text (map lease_answer_text items)) 65000
outcomes_within items few =
    let short : (a : LeaseAnswer) → true ≡ true → IsWithin (lease_answer_text a) 400 = λ a h. outcome_within a.lease a.outcome in
    record { bound = omega (arith, few, list_short lease_answer_text (λ _. true) 400 short items (always items)) }

-- ---- replies

answer_within : (id : ℕ) {ok : List ℕ} {m : ℕ} → IsWithin ok m → IsWithin (answer_text id ok) (m + 77)
answer_within id ok = looser (whole (codes "{\"id\":") then number id then whole (codes ",\"ok\":") then ok then whole (codes "}")) (omega arith)

refused_within : (id : Option ℕ) (refusal : Refusal) → IsWithin (refused_text id refusal) 1000
refused_within None refusal = looser (whole (codes "{\"fault\":") then number (number_of refusal) then whole (codes ",\"id\":") then whole (codes "null") then whole (codes "}")) (omega arith)
refused_within (Some id) refusal = looser (whole (codes "{\"fault\":") then number (number_of refusal) then whole (codes ",\"id\":") then number id then whole (codes "}")) (omega arith)

told_within : (handback : List ℕ) (lease sequence : ℕ) → length handback ≤ 256 → IsWithin (told_text handback lease sequence) 2000
told_within handback lease sequence small =
    let text : IsWithin (quoted handback) 1538 = record { bound = omega (arith, quoted_short handback, small) } in
    let event = whole (codes "{\"handback\":") then text then whole (codes ",\"lease\":") then number lease then whole (codes ",\"seq\":") then number sequence then whole (codes "}") in
    looser (whole (codes "{\"event\":") then event then whole (codes "}")) (omega arith)

batch_within : (leases : List ℕ) (ms : ℕ) → length leases ≤ 64 → IsWithin (batch_text leases ms) 70000
batch_within leases ms few = looser (whole (codes "{\"leases\":") then numbers_within leases few then whole (codes ",\"ms\":") then number ms then whole (codes "}")) (omega arith)

bool_within : (b : Bool) → IsWithin (bool_text b) 5
bool_within true = record { bound = omega arith }
bool_within false = record { bound = omega arith }

page_within : (end : Bool) (entries : List Entry) → length entries ≤ 16 → list_all is_small entries ≡ true → IsWithin (page_text end entries) 1025000
page_within end entries few small =
    looser (whole (codes "{\"end\":") then bool_within end then whole (codes ",\"entries\":") then entries_within entries few small then whole (codes "}")) (omega arith)

reply_short : (r : Reply) → is_within_limits r ≡ true → length (text_of r) < bound_of r
unfolding text_of
reply_short (reply.Done id) limits = omega (arith, (answer_within id (whole (codes "null"))).bound)
reply_short (reply.Leased id lease ms) limits = omega (arith, (answer_within id (lease_within lease ms)).bound)
reply_short (reply.Shown id entry) limits = omega (arith, (answer_within id (entry_within entry limits)).bound)
reply_short (reply.Nothing id) limits = omega (arith, (answer_within id (whole (codes "null"))).bound)
reply_short (reply.State id Active) limits = omega (arith, (answer_within id (whole (codes "\"active\""))).bound)
reply_short (reply.State id Voting) limits = omega (arith, (answer_within id (whole (codes "\"voting\""))).bound)
reply_short (reply.Names id names) limits =
    let parts = and_parts _ _ limits in
    omega (arith, (answer_within id (names_within names (leb-true _ _ parts.0) parts.1)).bound)
reply_short (reply.Leases id items) limits = omega (arith, (answer_within id (outcomes_within items (leb-true _ _ limits))).bound)
reply_short (reply.Refused id refusal) limits = omega (arith, (refused_within id refusal).bound)
reply_short (reply.Told handback lease sequence) limits = omega (arith, (told_within handback lease sequence (leb-true _ _ limits)).bound)
reply_short (reply.Batch id leases ms) limits = omega (arith, (answer_within id (batch_within leases ms (leb-true _ _ limits))).bound)
reply_short (reply.Many id entries) limits =
    let parts = and_parts _ _ limits in
    omega (arith, (answer_within id (entries_within entries (leb-true _ _ parts.0) parts.1)).bound)
reply_short (reply.Page id end entries) limits =
    let parts = and_parts _ _ limits in
    omega (arith, (answer_within id (page_within end entries (leb-true _ _ parts.0) parts.1)).bound)

pub written_short : (text : List ℕ) (written said : Reply) → is_within_limits said ≡ true → written ≡ said → text ≡ text_of written → length text < bound_of said
written_short text written said limits same is = rw (is, same) (reply_short said limits)
