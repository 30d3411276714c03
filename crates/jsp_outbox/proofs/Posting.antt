-- Posting an answer at the place of its session's outbox, and taking it back.
use Rattle.std.proofs.Common.{◌≡◌, ℕ, zero, suc, ◌-◌, ◌<◌, ◌≤◌, true, false, nat_le, eqb, ltb, List, [], ◌∷◌, ◌++◌, length, set, Some, refl, ap, sym, ◌∙◌, arith, length-append}
use Rattle.std.specs.Prelude.{insert, remove, slice_get}
use Rattle.std.proofs.lemmas.List.{get_or-set_same, set-get_or}
use Rattle.std.proofs.lemmas.Option.{slice_get-get_or}
use Rattle.std.proofs.lemmas.Bool.{eq-eqb, lt-ltb, lt-leb}
use Rattle.std.proofs.lemmas.Bool.Decides.{nat_tests}
use Rattle.jsp_reply.specs.declared.reply.Reply.{Reply}
use Rattle.jsp_model.specs.declared.state.Outbox.{Outbox}
use Rattle.jsp_model.specs.Outboxes.{post}
use Rattle.jsp_model.specs.Limits.{are_outboxes}
use Rattle.jsp_model.proofs.Outboxes.{rising_of}
use Rattle.jsp_outbox.specs.declared.post.Posted.{Posted}
use Rattle.jsp_outbox.specs.Outboxes.{before, before_all, added, added_to, with_answer, without_last, without_last_of}
use Rattle.jsp_outbox.proofs.Order.{box_at}
use Rattle.jsp_outbox.proofs.Finding.{AreBelow}
use Rattle.jsp_outbox.proofs.Parts.{first_part}

abbrev pub new_box : ℕ → Reply → Outbox
new_box s x = record { session = s; answers = x ∷ [] }

below_tail : (s i : ℕ) (b : Outbox) (boxes : List Outbox) → AreBelow s (b ∷ boxes) (suc i) → AreBelow s boxes i
below_tail s i b boxes h = λ k lt. h (suc k) (omega arith)

post_past : (s : ℕ) (x : Reply) (b : Outbox) (boxes : List Outbox) → nat_le s b.session ≡ false → post (b ∷ boxes) (s, x) ≡ b ∷ post boxes (s, x)
post_past s x b boxes h =
    let ne : eqb b.session s ≡ false = grind (arith, nat_tests) in
    let ge : ltb s b.session ≡ false = grind (arith, nat_tests) in
    rw ne (rw ge refl)

-- an outbox is opened
post_opened : (s : ℕ) (x : Reply) (boxes : List Outbox) (i : ℕ) → i ≤ length boxes → AreBelow s boxes i → (i < length boxes → s < (box_at boxes i).session) → insert boxes i (new_box s x) ≡ post boxes (s, x)
post_opened s x [] zero le h lt = refl
post_opened s x [] (suc i) le h lt = absurd (omega arith)
post_opened s x (b ∷ boxes) zero le h lt =
    let above : s < b.session = lt (omega arith) in
    let ne : eqb b.session s ≡ false = grind (arith, nat_tests) in
    let low : ltb s b.session ≡ true = lt-ltb s b.session above in
    rw ne (rw low refl)
post_opened s x (b ∷ boxes) (suc i) le h lt =
    sym (post_past s x b boxes (h 0 (omega arith)) ∙ ap (λ w. b ∷ w) (sym (post_opened s x boxes i (omega arith) (below_tail s i b boxes h) (λ l. lt (omega arith)))))

-- an answer is added to an outbox
post_added : (s : ℕ) (x : Reply) (boxes : List Outbox) (i : ℕ) → i < length boxes → AreBelow s boxes i → (box_at boxes i).session ≡ s → set boxes i (with_answer (box_at boxes i) x) ≡ post boxes (s, x)
post_added s x [] i lt h is = absurd (omega arith)
post_added s x (b ∷ boxes) zero lt h is = rw (eq-eqb b.session s is) refl
post_added s x (b ∷ boxes) (suc i) lt h is =
    sym (post_past s x b boxes (h 0 (omega arith)) ∙ ap (λ w. b ∷ w) (sym (post_added s x boxes i (omega arith) (below_tail s i b boxes h) is)))

-- ---- before an answer was posted

remove-insert : {X : Type 0} → (xs : List X) (i : ℕ) (y : X) → i ≤ length xs → remove (insert xs i y) i ≡ xs
remove-insert [] zero y le = refl
remove-insert [] (suc i) y le = absurd (omega arith)
remove-insert (x ∷ xs) zero y le = refl
remove-insert (x ∷ xs) (suc i) y le = ap (λ w. x ∷ w) (remove-insert xs i y (omega arith))

slice_get-insert : {X : Type 0} → (xs : List X) (i : ℕ) (y : X) → i ≤ length xs → slice_get (insert xs i y) i ≡ Some y
slice_get-insert [] zero y le = refl
slice_get-insert [] (suc i) y le = absurd (omega arith)
slice_get-insert (x ∷ xs) zero y le = refl
slice_get-insert (x ∷ xs) (suc i) y le = slice_get-insert xs i y (omega arith)

before-opened : (boxes : List Outbox) (i s : ℕ) (x : Reply) → i ≤ length boxes → before (record { place = i }) (insert boxes i (new_box s x)) ≡ boxes
before-opened boxes i s x le =
    ap (without_last_of (insert boxes i (new_box s x)) i) (slice_get-insert boxes i (new_box s x) le) ∙ remove-insert boxes i (new_box s x) le

without_last-with_answer : (b : Outbox) (x : Reply) → without_last (with_answer b x) ≡ b
without_last-with_answer b x =
    let one : length (b.answers ++ x ∷ []) - 1 ≡ length b.answers = omega (arith, length-append b.answers (x ∷ [])) in
    ap (λ w. record b { answers = w }) (rw one (sym (first_part (length b.answers) b.answers (x ∷ []) (b.answers ++ x ∷ []) refl refl).0))

set-set : {X : Type 0} → (xs : List X) (i : ℕ) (y z : X) → set (set xs i y) i z ≡ set xs i z
set-set [] i y z = refl
set-set (x ∷ xs) zero y z = refl
set-set (x ∷ xs) (suc i) y z = ap (λ w. x ∷ w) (set-set xs i y z)

length-set : {X : Type 0} → (xs : List X) (i : ℕ) (y : X) → length (set xs i y) ≡ length xs
length-set [] i y = refl
length-set (x ∷ xs) zero y = refl
length-set (x ∷ xs) (suc i) y = ap suc (length-set xs i y)

added_is : (boxes : List Outbox) (i : ℕ) (x : Reply) → i < length boxes → added boxes i x ≡ set boxes i (with_answer (box_at boxes i) x)
added_is boxes i x lt = ap (added_to boxes i x) (slice_get-get_or boxes i _ lt)

-- no outbox is empty
pub full_at : (boxes : List Outbox) (i : ℕ) → are_outboxes boxes ≡ true → i < length boxes → 0 < length (box_at boxes i).answers
full_at [] i h lt = absurd (omega arith)
full_at (b ∷ boxes) zero h lt = (rising_of b boxes h).full
full_at (b ∷ boxes) (suc i) h lt = full_at boxes i (rising_of b boxes h).rest (omega arith)

two_or_more : (b : Outbox) (x : Reply) → 0 < length b.answers → nat_le (length (with_answer b x).answers) 1 ≡ false
two_or_more b x full = lt-leb (length (b.answers ++ x ∷ [])) 1 (omega (arith, length-append b.answers (x ∷ []), full))

before-added : (boxes : List Outbox) (i : ℕ) (x : Reply) → are_outboxes boxes ≡ true → i < length boxes → before (record { place = i }) (added boxes i x) ≡ boxes
before-added boxes i x h lt =
    let b = box_at boxes i in
    let one = set boxes i (with_answer b x) in
    let there : i < length one = omega (arith, length-set boxes i (with_answer b x), lt) in
    let more = two_or_more b x (full_at boxes i h lt) in
    ap (before (record { place = i })) (added_is boxes i x lt)
    ∙ ap (without_last_of one i) (slice_get-get_or one i b there ∙ ap Some (get_or-set_same boxes i (with_answer b x) b lt))
    ∙ rw more (ap (set one i) (without_last-with_answer b x) ∙ set-set boxes i (with_answer b x) b ∙ set-get_or boxes i _)

-- ---- what posting gives

-- what opening an outbox gives
pub opened_ok : (s : ℕ) (x : Reply) (boxes new : List Outbox) (i : ℕ) (p : Posted) → i ≤ length boxes → AreBelow s boxes i → (i < length boxes → s < (box_at boxes i).session) → (p.place ≡ i) × (new ≡ insert boxes i (new_box s x)) → (new ≡ post boxes (s, x)) × (before p new ≡ boxes)
opened_ok s x boxes new i p le h lt e =
    (e.1 ∙ post_opened s x boxes i le h lt, ap (λ (k : ℕ). before (record { place = k }) new) e.0 ∙ (ap (before (record { place = i })) e.1 ∙ before-opened boxes i s x le))

-- what adding to one gives
pub added_ok : (s : ℕ) (x : Reply) (boxes new : List Outbox) (i : ℕ) (p : Posted) → are_outboxes boxes ≡ true → i < length boxes → AreBelow s boxes i → (box_at boxes i).session ≡ s → (p.place ≡ i) × (new ≡ added boxes i x) → (new ≡ post boxes (s, x)) × (before p new ≡ boxes)
added_ok s x boxes new i p rise lt h is e =
    (e.1 ∙ (added_is boxes i x lt ∙ post_added s x boxes i lt h is), ap (λ (k : ℕ). before (record { place = k }) new) e.0 ∙ (ap (before (record { place = i })) e.1 ∙ before-added boxes i x rise lt))

-- one more is taken back first
pub before_all-push : (ps : List Posted) (p : Posted) (boxes : List Outbox) → before_all (ps ++ p ∷ []) boxes ≡ before_all ps (before p boxes)
before_all-push [] p boxes = refl
before_all-push (q ∷ ps) p boxes = ap (before q) (before_all-push ps p boxes)
