-- What an act asks for hands nothing out.
use Rattle.std.proofs.Common.{◌≡◌, ℕ, inl, inr, Bool, true, false, List, [], ◌∷◌, ◌++◌, None, refl, ap, ◌∙◌}
use Rattle.std.specs.Prelude.{filter, not, MatchBool, if◌then◌else◌, option_to_list}
use Rattle.std.specs.List.{list_any, list_all}
use Rattle.std.proofs.lemmas.List.Elements.{filter-append}
use Rattle.std.proofs.lemmas.List.Folds.{list_any-append}
use Rattle.std.proofs.lemmas.Bool.{and_parts, or_parts}
use Rattle.jsp_wire.specs.declared.ask.Version.{Version}
use Rattle.jsp_wire.specs.Reading.{Reading, request, bad_json, bad_request, reading}
use Rattle.jsp_reply.specs.declared.refusal.Refusal.TheVariants.{TooLong}
use Rattle.jsp_model.specs.declared.state.State.{State}
use Rattle.jsp_model.specs.declared.step.Step.{Step}
use Rattle.jsp_model.specs.declared.step.Step.TheVariants as step
use Rattle.jsp_model.specs.declared.house.Input.TheVariants as input
use Rattle.jsp_model.specs.Lookup.{is_open}
use Rattle.jsp_model.specs.Settling.{settle_step}
use Rattle.jsp_model.specs.House.{is_unasked, bare, own_of, accepts}
use Rattle.jsp_model.proofs.Joining.{own_of-append}
use Rattle.jsp_drive.specs.declared.acts.Act.{Act}
use Rattle.jsp_drive.specs.declared.acts.Act.TheVariants as act
use Rattle.jsp_drive.specs.Heard.{heard, heard_as}
use Rattle.jsp_drive.specs.Versions.{version_after, heard_each}
use Rattle.jsp_drive.specs.Lines.{Pending}
use Rattle.jsp_drive.specs.Tie.{is_hand_out, asked_in, AsksBy, HearsPiece, Asks}
use Rattle.jsp_drive.proofs.Turning.{is_turn, settles_turn}

-- ---- what an act asks for

-- none of them hands out
abbrev pub KeepAll : List Step → Type 0
KeepAll steps = list_any is_hand_out steps ≡ false

keep_more : (x : Step) (xs : List Step) → is_hand_out x ≡ false → KeepAll xs → KeepAll (x ∷ xs)
keep_more x xs one rest = rw one rest

maybe_step : (b : Bool) (x : Step) → is_hand_out x ≡ false → KeepAll (if b then x ∷ [] else [])
maybe_step true x one = keep_more x [] one refl
maybe_step false x one = refl

heard_keeps : (s : ℕ) (r : Reading) → is_hand_out (heard_as s r) ≡ false
heard_keeps s (request r) = refl
heard_keeps s bad_json = refl
heard_keeps s (bad_request id) = refl

heards_keep : (s : ℕ) (v : Version) (payloads : List (List ℕ)) → KeepAll (heard_each s v payloads)
heards_keep s v [] = refl
heards_keep s v (p ∷ ps) = keep_more (heard s v p) (heard_each s (version_after v p) ps) (heard_keeps s (reading v p)) (heards_keep s (version_after v p) ps)

as_kept : (xs ys : List Step) → xs ≡ ys → KeepAll ys → KeepAll xs
as_kept xs ys is h = ap (list_any is_hand_out) is ∙ h

abbrev too_long : ℕ → List Step
too_long s = step.Fault s None TooLong ∷ []

long_keeps : (s : ℕ) (v : Version) (payloads : List (List ℕ)) → KeepAll (heard_each s v payloads ++ too_long s)
long_keeps s v payloads = list_any-append is_hand_out (heard_each s v payloads) (too_long s) ∙ rw (heards_keep s v payloads) refl

asks_by_keep : (s : ℕ) (v : Version) (payloads : List (List ℕ)) (rest : List ℕ) (asked : List Step) (stays : Bool) → AsksBy s v payloads rest asked stays → KeepAll asked
asks_by_keep s v payloads rest asked stays h =
    elim h [
      | inl e ↦ as_kept asked (heard_each s v payloads) e.0 (heards_keep s v payloads)
      | inr e ↦ as_kept asked (heard_each s v payloads ++ too_long s) e.0 (long_keeps s v payloads)
    ]

piece_keeps : (b : Bool) (s : ℕ) (bytes : List ℕ) (asked : List Step) (new : State) (before after : ℕ → Pending) (Others : Type 0)
    → MatchBool b (HearsPiece s bytes asked new before after) ((asked ≡ []) × Others) → KeepAll asked
piece_keeps true s bytes asked new before after Others h = asks_by_keep s (before s).version h.hears.payloads h.hears.rest asked (is_open new s) h.hears.asks
piece_keeps false s bytes asked new before after Others h = as_kept asked [] h.0 refl

turn_keeps : (x : Step) → is_turn x ≡ true → is_hand_out x ≡ false
turn_keeps (step.Vote x space) h = refl
turn_keeps (step.Decide x commits) h = refl
turn_keeps (step.HandOut s n) h = cc (h)
turn_keeps (step.Open s) h = refl
turn_keeps (step.Shut s) h = refl
turn_keeps (step.Clock t) h = refl
turn_keeps (step.Ask s a ns) h = refl
turn_keeps (step.Fault s id r) h = refl
turn_keeps (step.Grant n ns) h = refl
turn_keeps (step.Empty n) h = refl
turn_keeps (step.Tell n) h = refl
turn_keeps (step.Due item) h = refl

turns_keep : (xs : List Step) → list_all is_turn xs ≡ true → KeepAll xs
turns_keep [] h = refl
turns_keep (x ∷ xs) h =
    let parts = and_parts (is_turn x) (list_all is_turn xs) h in
    keep_more x xs (turn_keeps x parts.0) (turns_keep xs parts.1)

pub asks_keep : (a : Act) (old : State) (asked : List Step) (new : State) (before after : ℕ → Pending) → Asks a old asked new before after → KeepAll asked
asks_keep (act.Open s) old asked new before after h = as_kept asked _ h.0 (maybe_step (accepts old (input.Open s)) (step.Open s) refl)
asks_keep (act.Piece s bytes) old asked new before after h = piece_keeps (is_open old s) s bytes.items asked new before after _ h
asks_keep (act.Shut s) old asked new before after h = as_kept asked _ h.0 (maybe_step (is_open old s) (step.Shut s) refl)
asks_keep (act.Clock t) old asked new before after h = as_kept asked (step.Clock t ∷ []) h.0 refl
asks_keep act.Settle old asked new before after h = as_kept asked (option_to_list (settle_step old)) h.0 (turns_keep (option_to_list (settle_step old)) (settles_turn old))

-- ---- what was asked for, but for what is handed out

pub asked_in-append : (xs ys : List Step) → asked_in (xs ++ ys) ≡ asked_in xs ++ asked_in ys
asked_in-append xs ys =
    ap (filter (λ x. not (is_hand_out x))) (own_of-append xs ys) ∙ filter-append (λ x. not (is_hand_out x)) (own_of xs) (own_of ys)

no_hands : (xs : List Step) → list_any is_hand_out xs ≡ false → filter (λ x. not (is_hand_out x)) xs ≡ xs
no_hands [] h = refl
no_hands (x ∷ xs) h =
    let parts = or_parts (is_hand_out x) (list_any is_hand_out xs) h in
    rw parts.0 (ap (λ w. x ∷ w) (no_hands xs parts.1))

-- nothing is handed out
pub asked_in_kept : (xs : List Step) → KeepAll (own_of xs) → asked_in xs ≡ own_of xs
asked_in_kept xs h = no_hands (own_of xs) h

free_keeps : (x : Step) → is_unasked x ≡ true → is_hand_out x ≡ false
free_keeps (step.Open s) h = refl
free_keeps (step.Shut s) h = refl
free_keeps (step.Clock t) h = refl
free_keeps (step.Ask s a ns) h = refl
free_keeps (step.Fault s id r) h = refl
free_keeps (step.Grant n ns) h = refl
free_keeps (step.Empty n) h = refl
free_keeps (step.Tell n) h = refl
free_keeps (step.Due item) h = refl
free_keeps (step.Vote x space) h = refl
free_keeps (step.Decide x commits) h = refl
free_keeps (step.HandOut s n) h = cc (h)

bare_keeps : (x : Step) → is_hand_out (bare x) ≡ is_hand_out x
bare_keeps (step.Open s) = refl
bare_keeps (step.Shut s) = refl
bare_keeps (step.Clock t) = refl
bare_keeps (step.Ask s a ns) = refl
bare_keeps (step.Fault s id r) = refl
bare_keeps (step.Grant n ns) = refl
bare_keeps (step.Empty n) = refl
bare_keeps (step.Tell n) = refl
bare_keeps (step.Due item) = refl
bare_keeps (step.Vote x space) = refl
bare_keeps (step.Decide x commits) = refl
bare_keeps (step.HandOut s n) = refl

hand_own_at : (b : Bool) (x : Step) (xs : List Step) → is_unasked x ≡ b → list_any is_hand_out (own_of xs) ≡ list_any is_hand_out xs
    → list_any is_hand_out (own_of (x ∷ xs)) ≡ list_any is_hand_out (x ∷ xs)
hand_own_at true x xs is rest = rw is (rw (free_keeps x is) rest)
hand_own_at false x xs is rest = rw is (rw (bare_keeps x) (rw rest refl))

pub hand_own : (xs : List Step) → list_any is_hand_out (own_of xs) ≡ list_any is_hand_out xs
hand_own [] = refl
hand_own (x ∷ xs) = hand_own_at (is_unasked x) x xs refl (hand_own xs)
