-- What lines give is what the steps ask.
use Rattle.std.proofs.Common.{◌≡◌, ℕ, ◌+◌, ◌-◌, ◌≤◌, true, false, List, [], ◌∷◌, ◌++◌, length, eqb, refl, ap, sym, ◌∙◌, inl, inr, arith, append-nil, length-append, map}
use Rattle.std.specs.Prelude.{filter, if◌then◌else◌, not, Option, Some, slice_get}
use Rattle.std.proofs.lemmas.List.{length-set, map-append}
use Rattle.std.proofs.lemmas.List.Elements.{filter-append}
use Rattle.std.proofs.lemmas.Bool.{and_parts, and_right, eq-eqb, ne_eqb}
use Rattle.std.proofs.lemmas.Option.{slice_get_past, slice_get_within}
use Rattle.jsp_wire.specs.declared.ask.Request.{Request}
use Rattle.jsp_reply.specs.declared.refusal.Refusal.{Refusal}
use Rattle.jsp_model.specs.declared.step.Step.{Step}
use Rattle.jsp_model.specs.declared.step.Step.TheVariants as step
use Rattle.jsp_model.specs.House.{step_of}
use Rattle.jsp_drive.specs.declared.hear.LineInput.{LineInput}
use Rattle.jsp_drive.specs.Line.{Unheard, input_of}
use Rattle.jsp_drive.specs.Tie.{asked_in}
use Rattle.jsp_drive.specs.Streams.{is_request_of, requests_of}
use Rattle.jsp_drive.specs.Giving.{Gave}
use Rattle.jsp_drive.proofs.Asking.{asked_in-append}
use Rattle.jsp_closing.specs.declared.closed.LineReport.{LineReport}
use Rattle.jsp_closing.specs.Asking.{HaveGiven, GivesInput, GiveStep, is_short, has_short_line, asks_short, unasked, unasked_in}
use Rattle.jsp_closing.proofs.Places.{at_set, at_push}

pub requests_of-append : (s : ℕ) (xs ys : List Step) → requests_of s (xs ++ ys) ≡ requests_of s xs ++ requests_of s ys
requests_of-append s xs ys = ap (filter (is_request_of s)) (asked_in-append xs ys) ∙ filter-append (is_request_of s) (asked_in xs) (asked_in ys)

-- ---- one step

-- by a step that is no request and no fault nobody asks
pub asks_none : (x : Step) → ((s : ℕ) (asked : Request) (rows : List ℕ) → x ≡ step.Ask s asked rows → ⊥) → ((s : ℕ) (id : Option ℕ) (refusal : Refusal) → x ≡ step.Fault s id refusal → ⊥)
    → (t : ℕ) → requests_of t (x ∷ []) ≡ []
asks_none (step.Ask s asked rows) no_ask no_fault t = absurd (no_ask s asked rows refl)
asks_none (step.Fault s id refusal) no_ask no_fault t = absurd (no_fault s id refusal refl)
asks_none _ no_ask no_fault t = refl

-- so no line gives anything
pub give_none : (made : Step) (lines : List Unheard) → ((s : ℕ) → requests_of s (made ∷ []) ≡ []) → GiveStep made lines lines
give_none made lines none = record {
  count = refl;
  each = λ i after at. record {
    before = after;
    was = at;
    goes = λ stream asked gave. rw (none (i + 1)) (rw (append-nil asked) gave);
  };
}

-- a session asks by the step what its line gave
pub give_asked : (s : ℕ) (made : Step) (x : LineInput) (old new : List Unheard)
    → ((t : ℕ) → requests_of t (made ∷ []) ≡ (if eqb s t then step_of (input_of s x) ∷ [] else []))
    → GivesInput s old new x → GiveStep made old new
give_asked s made x old new asks h = record {
  count = ap length h.changed ∙ length-set old h.place h.after;
  each = λ i after at. elim (at_set old h.place i h.after after (ap (λ (ls : List Unheard). slice_get ls i) (sym h.changed) ∙ at)) [
    | inl here ↦
        let mine : s ≡ i + 1 = omega (arith, h.session, here.0) in
        let one : requests_of (i + 1) (made ∷ []) ≡ step_of (input_of (i + 1) x) ∷ [] =
        asks (i + 1) ∙ rw (eq-eqb s (i + 1) mine) (ap (λ t. step_of (input_of t x) ∷ []) mine) in
        record {
          before = h.before;
          was = ap (slice_get old) here.0 ∙ h.here;
          goes = λ stream asked gave. rw (one, here.1) (h.follows (i + 1) stream asked gave);
        }
    | inr there ↦
        let apart : eqb s (i + 1) ≡ false = ne_eqb s (i + 1) (λ same. there.0 (omega (arith, h.session, same))) in
        let none : requests_of (i + 1) (made ∷ []) ≡ [] = asks (i + 1) ∙ rw apart refl in
        record {
          before = after;
          was = there.1;
          goes = λ stream asked gave. rw none (rw (append-nil asked) gave);
        }
  ];
}

-- ---- a session whose line isn't whole

-- who has one has no whole line
short_apart : (reports : List LineReport) (s i : ℕ) (report : LineReport) → has_short_line reports s ≡ true → slice_get reports i ≡ Some report → report.is_whole ≡ true
    → eqb s (i + 1) ≡ false
short_apart reports s i report short at whole =
    ne_eqb s (i + 1) (λ same.
    let there : slice_get reports (s - 1) ≡ Some report = ap (slice_get reports) (omega (arith, same)) ∙ at in
    let it : is_short (slice_get reports (s - 1)) ≡ true = (and_parts (not (eqb s 0)) (is_short (slice_get reports (s - 1))) short).1 in
    absurd (cc (sym (ap is_short there) ∙ it, ap not whole)))

-- so no session with a whole line asks by its step
short_none : (reports : List LineReport) (step : Step) → asks_short reports step ≡ true
    → (i : ℕ) (report : LineReport) → slice_get reports i ≡ Some report → report.is_whole ≡ true → requests_of (i + 1) (step ∷ []) ≡ []
short_none reports (step.Ask s asked rows) short i report at whole = rw (short_apart reports s i report short at whole) refl
short_none reports (step.Fault s id refusal) short i report at whole = rw (short_apart reports s i report short at whole) refl
short_none reports _ short i report at whole = absurd (cc (short))

-- how a list tells that
pub short_beyond : (reports : List LineReport) (s : ℕ) → length reports ≤ s - 1 → has_short_line reports s ≡ false
short_beyond reports s past = and_right (not (eqb s 0)) (is_short (slice_get reports (s - 1))) (ap is_short (slice_get_past reports (s - 1) past))

pub short_at : (reports : List LineReport) (s : ℕ) (report : LineReport) → (s ≡ 0 → ⊥) → slice_get reports (s - 1) ≡ Some report → has_short_line reports s ≡ not report.is_whole
short_at reports s report some at = rw (ne_eqb s 0 some) (ap is_short at)

-- a step asks what it asks, whoever it is that is asked
pub asks_unasked : (reports : List LineReport) (x : Step) → asks_short reports (unasked x) ≡ asks_short reports x
asks_unasked reports (step.Ask s asked rows) = refl
asks_unasked reports (step.Fault s id refusal) = refl
asks_unasked reports _ = refl

-- it stays the same, but for what is asked in it by a session whose line isn't short
pub again_same : (reports : List LineReport) (step again : Step) → asks_short reports step ≡ false → unasked again ≡ unasked step → unasked_in reports again ≡ unasked_in reports step
again_same reports step again whole same =
    let whole' : asks_short reports again ≡ false = sym (asks_unasked reports again) ∙ ap (asks_short reports) same ∙ asks_unasked reports step ∙ whole in
    rw (whole, whole') same

-- ---- all steps

-- the steps and one more
pub given_more : (reports : List LineReport) (old new : List Unheard) (steps : List Step) (made : Step)
    → HaveGiven reports old steps → GiveStep made old new → HaveGiven reports new (steps ++ made ∷ [])
given_more reports old new steps made h one = record {
  count = one.count ∙ h.count;
  gave = λ i report line at there whole.
      let g = one.each i line there in
      rw (requests_of-append (i + 1) steps (made ∷ [])) (g.goes report.read.items (requests_of (i + 1) steps) (h.gave i report g.before at g.was whole));
}

-- and one by which a session asks whose line isn't whole
pub given_left : (reports : List LineReport) (lines : List Unheard) (steps : List Step) (step : Step)
    → HaveGiven reports lines steps → asks_short reports step ≡ true → HaveGiven reports lines (steps ++ step ∷ [])
given_left reports lines steps step h short = record {
  count = h.count;
  gave = λ i report line at there whole.
      let asked = requests_of (i + 1) steps in
      let same : requests_of (i + 1) (steps ++ step ∷ []) ≡ asked =
      requests_of-append (i + 1) steps (step ∷ []) ∙ ap (λ (xs : List Step). asked ++ xs) (short_none reports step short i report at whole) ∙ append-nil asked in
      rw same (h.gave i report line at there whole);
}

-- and they are the same but for what is asked in them
pub again_more : (f : Step → Step) (old new : List Step) (step again : Step) → map f new ≡ map f old → f again ≡ f step
    → map f (new ++ again ∷ []) ≡ map f (old ++ step ∷ [])
again_more f old new step again h one =
    map-append f new (again ∷ []) ∙ ap (λ (x : Step). map f new ++ x ∷ []) one ∙ ap (λ (xs : List Step). xs ++ f step ∷ []) h ∙ sym (map-append f old (step ∷ []))

-- ---- before the first step

pub given_nothing : HaveGiven [] [] []
given_nothing = record { count = refl; gave = λ i report line at there whole. absurd (cc (at)) }

-- one line more is fed
pub given_line : (reports : List LineReport) (lines : List Unheard) (report : LineReport) (line : Unheard)
    → HaveGiven reports lines [] → ((s : ℕ) → Gave s report.read.items [] line) → HaveGiven (reports ++ report ∷ []) (lines ++ line ∷ []) []
given_line reports lines report line h fed = record {
  count = length-append lines (line ∷ []) ∙ ap (λ n. n + 1) h.count ∙ sym (length-append reports (report ∷ []));
  gave = λ i r l at there whole. elim (at_push reports i report r at) [
    | inl last ↦ elim (at_push lines i line l there) [
      | inl end' ↦ rw (last.1, end'.1) (fed (i + 1))
      | inr before ↦ absurd (omega (arith, last.0, h.count, slice_get_within lines i l before))
    ]
    | inr before ↦ elim (at_push lines i line l there) [
      | inl end' ↦ absurd (omega (arith, end'.0, h.count, slice_get_within reports i r before))
      | inr before' ↦ h.gave i r l before before' whole
    ]
  ];
}
