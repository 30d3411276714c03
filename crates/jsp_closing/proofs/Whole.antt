-- What a whole history needs, so that what isn't so denies it.
use Rattle.std.proofs.Common.{◌≡◌, ℕ, ◌+◌, Bool, true, false, List, [], ◌∷◌, length, map, Some, None, refl, ap, sym, inl, inr, arith}
use Rattle.std.specs.Prelude.{IsPermutation}
use Rattle.std.specs.Option.{option_map}
use Rattle.std.specs.List.Sorted.{IsNonDecreasingBy}
use Rattle.std.proofs.lemmas.Bool.{and_parts, true≢false}
use Rattle.std.proofs.lemmas.List.Sorted.{IsPermutation-sym, IsPermutation-trans}
use Rattle.jsp_model.specs.declared.state.State.{State}
use Rattle.jsp_model.specs.declared.state.Commit.{Commit}
use Rattle.jsp_model.specs.declared.step.Step.{Step}
use Rattle.jsp_model.specs.Answers.{Saying}
use Rattle.jsp_model.specs.Lookup.{empty}
use Rattle.jsp_model.specs.Runs.{IsRun, first_illegal, is_run, said_in, state_after}
use Rattle.jsp_model.specs.Settling.{first_commit, turn_of}
use Rattle.jsp_model.specs.Steps.{is_legal, next}
use Rattle.jsp_machine.specs.declared.replaying.ReplayFault.{ReplayFault}
use Rattle.jsp_machine.specs.declared.replaying.ReplayFault.TheVariants as replay
use Rattle.jsp_machine.specs.Replay.{FailsAt}
use Rattle.jsp_closing.specs.declared.closed.Fault.{Fault}
use Rattle.jsp_closing.specs.declared.closed.Fault.TheVariants as fault
use Rattle.jsp_closing.specs.declared.closed.LineReport.{LineReport}
use Rattle.jsp_closing.specs.Asking.{CanBe, unasked_in}
use Rattle.jsp_closing.specs.Checked.{AreRight}
use Rattle.jsp_closing.specs.Closing.{IsWhole}
use Rattle.jsp_closing.specs.Faults.{Denies}
use Rattle.jsp_closing.specs.Leaving.{AsksIn}
use Rattle.jsp_closing.specs.Lines.{AreLines, IsLine}
use Rattle.jsp_closing.specs.Within.{AreTold}
use Rattle.jsp_closing.specs.Writing.{IsWritten}
use Rattle.jsp_closing.proofs.Ordering.{numbered_by_places, sorted_once}
use Rattle.jsp_closing.proofs.Within.{asking_within, none_numbered, told_within}

-- ---- its lines

-- they are the lines in the order of their sessions
pub sorted_lines : (st : State) (steps : List Step) (reports sorted lines : List LineReport)
    → IsPermutation reports sorted → IsNonDecreasingBy (λ (r : LineReport). r.session) sorted → IsPermutation reports lines → AreLines st steps lines → lines ≡ sorted
sorted_lines st steps reports sorted lines moved rising given are =
    sorted_once (λ (r : LineReport). r.session) 1 lines sorted
    (IsPermutation-trans lines reports sorted (IsPermutation-sym reports lines given) moved)
    (numbered_by_places (λ (r : LineReport). r.session) 1 lines (λ i line at. omega (arith, (are i line at).0))) rising

-- the lines can have asked it
pub whole_can_be : (spaces : List (List ℕ)) (history steps : List Step) (reports : List LineReport)
    → map (unasked_in reports) history ≡ map (unasked_in reports) steps → IsWhole spaces history reports → CanBe reports history steps
whole_can_be spaces history steps reports same h = record {
  same = same;
  within = λ s. rw h.all (asking_within (empty spaces) history h.run (none_numbered spaces) s);
  asks = λ i report at whole. (let line = (h.lines i report at).1 whole in (line.left, line.too_long, line.asked));
}

-- ---- what is compared of it

abbrev is_left : List Step → Bool
is_left [] = false
is_left (x ∷ xs) = true

none_left : (xs : List Step) → is_left xs ≡ false → xs ≡ []
none_left [] e = refl
none_left (x ∷ xs) e = absurd (true≢false e)

line_asks : (s : ℕ) (st : State) (steps : List Step) (line : LineReport) → IsLine s st steps line → AsksIn s steps (state_after st steps) line
line_asks s st steps line h = record {
  session = h.session;
  more = is_left h.left;
  says = record { left = h.left; too_long = h.too_long; says = h.asked; nothing = none_left h.left };
  may_leave = λ sound. elim (h.all_asked sound) [
    | inl none ↦ inl (ap is_left none)
    | inr some ↦ elim some [ inl itself ↦ inr (inl (itself.closed, itself.not_shut)) | inr cut ↦ inr (inr cut) ]
  ];
  ended = h.ended;
  noted = h.noted;
}

line_written : (s : ℕ) (st : State) (steps : List Step) (line : LineReport) → IsLine s st steps line → IsWritten s (said_in st steps) line
line_written s st steps line h = record { begins = h.written; all_written = h.all_written }

pub whole_right : (spaces : List (List ℕ)) (steps : List Step) (lines : List LineReport) (after : State) (said : List Saying)
    → after ≡ state_after (empty spaces) steps → said ≡ said_in (empty spaces) steps → IsWhole spaces steps lines → AreRight steps lines after said
whole_right spaces steps lines after said at says h = rw (at, says) (record {
  rest = h.rest;
  count = sym h.all;
  asks = λ i line here. (let one = h.lines i line here in (one.0, λ whole. line_asks (i + 1) (empty spaces) steps line (one.1 whole)));
  writes = λ i line here whole. line_written (i + 1) (empty spaces) steps line ((h.lines i line here).1 whole);
  opened = h.opened;
})

pub whole_told : (spaces : List (List ℕ)) (steps : List Step) (lines : List LineReport) (said : List Saying)
    → said ≡ said_in (empty spaces) steps → IsWhole spaces steps lines → AreTold (length lines) said
whole_told spaces steps lines said says h = rw (says, h.all) (told_within (empty spaces) steps h.run (none_numbered spaces))

-- ---- its run

no_illegal : (st : State) (steps : List Step) → is_run st steps ≡ true → first_illegal st steps ≡ None
no_illegal st [] run = refl
no_illegal st (x ∷ steps) run =
    let both = and_parts (is_legal st x) (is_run (next st x) steps) run in
    rw both.0 (ap (option_map (λ n. n + 1)) (no_illegal (next st x) steps both.1))

-- steps that aren't replayed are no run
pub replay_denies : (P : Type 0) (st : State) (steps : List Step) (why : ReplayFault) (e : Fault)
    → (P → IsRun st steps) → FailsAt why (first_illegal st steps) → (e ≡ fault.Differs → (place : ℕ) × (why ≡ replay.Illegal place)) → Denies e P
replay_denies P st steps why fault.Differs run fails from = λ p. (
    let at = from refl in
    let illegal : first_illegal st steps ≡ Some at.0 = rw at.1 at fails in
    let legal : first_illegal st steps ≡ None = no_illegal st steps (run p) in
    absurd (cc (illegal, legal)))
replay_denies P st steps why fault.NoMemory run fails from = tt

-- ---- its rest

-- where none votes no commit is asked
pub none_asked : (st : State) (commits : List Commit) → option_map (turn_of st) (first_commit commits) ≡ None → commits ≡ []
none_asked st [] e = refl
none_asked st (c ∷ commits) e = absurd (cc (e))
