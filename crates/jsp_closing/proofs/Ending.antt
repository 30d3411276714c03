-- A history that its lines show to be right.
use Rattle.std.proofs.Common.{◌≡◌, ℕ, ◌+◌, ◌<◌, ◌≤◌, Bool, List, ◌++◌, length, filter, take, drop, get_or, cond, ap, sym, ◌∙◌, subst, inl, inr, arith, length-append}
use Rattle.std.proofs.lemmas.List.{take-append-drop}
use Rattle.std.proofs.lemmas.List.Elements.{filter-append}
use Rattle.std.proofs.lemmas.List.Filters.{length-filter_more}
use Rattle.jsp_model.specs.declared.state.State.{State}
use Rattle.jsp_model.specs.declared.step.Step.{Step}
use Rattle.jsp_model.specs.Lookup.{empty}
use Rattle.jsp_model.specs.Runs.{IsRun, state_after, said_in}
use Rattle.jsp_laws.specs.Runs.{LawsOfRuns}
use Rattle.jsp_closing.specs.declared.closed.LineReport.{LineReport}
use Rattle.jsp_closing.specs.Lines.{IsLine}
use Rattle.jsp_closing.specs.Leaving.{AsksIn, AllAsk}
use Rattle.jsp_closing.specs.Writing.{IsWritten, AreWritten}
use Rattle.jsp_model.specs.Answers.{Saying}
use Rattle.jsp_closing.specs.Checked.{AreRight}
use Rattle.jsp_closing.specs.Closing.{opens, IsAtRest, IsLast, IsWhole, RestsAfter}
use Rattle.jsp_laws.proofs.Laws.{laws_of_runs}
use Rattle.jsp_drive.specs.declared.era.Era.{Era}

is_line : (s : ℕ) (st : State) (steps : List Step) (line : LineReport) → AsksIn s steps (state_after st steps) line → IsWritten s (said_in st steps) line → IsLine s st steps line
is_line s st steps line asks writes = record {
  session = asks.session;
  left = asks.says.left;
  too_long = asks.says.too_long;
  asked = asks.says.says;
  all_asked = λ sound. elim (asks.may_leave sound) [
    | inl none ↦ inl (asks.says.nothing none)
    | inr more ↦ elim more [ inl itself ↦ inr (inl (record { closed = itself.0; not_shut = itself.1 })) | inr cut ↦ inr (inr cut) ]
  ];
  written = writes.begins;
  all_written = writes.all_written;
  ended = asks.ended;
  noted = asks.noted;
}

pub is_whole : (spaces : List (List ℕ)) (steps : List Step) (lines : List LineReport)
    → IsRun (empty spaces) steps → LawsOfRuns (empty spaces) steps → IsAtRest (state_after (empty spaces) steps)
    → (state_after (empty spaces) steps).last_session ≡ length lines → length (filter opens steps) ≡ length lines
    → AllAsk steps (state_after (empty spaces) steps) lines → AreWritten lines (said_in (empty spaces) steps)
    → IsWhole spaces steps lines
is_whole spaces steps lines run laws rest count opened asks writes = record {
  run = run;
  laws = laws;
  rest = rest;
  lines = λ i line at. let one = asks i line at in (one.0, λ whole. is_line (i + 1) (empty spaces) steps line (one.1 whole) (writes i line at whole));
  opened = opened;
  all = sym count;
}

-- where they are compared with what the steps lead to
pub is_right : (spaces : List (List ℕ)) (steps : List Step) (lines : List LineReport) (after : State) (said : List Saying) → IsRun (empty spaces) steps → LawsOfRuns (empty spaces) steps
    → after ≡ state_after (empty spaces) steps → said ≡ said_in (empty spaces) steps → AreRight steps lines after said → IsWhole spaces steps lines
is_right spaces steps lines after said run laws at says h =
    is_whole spaces steps lines run laws (subst IsAtRest at h.rest) (ap (λ (st : State). st.last_session) (sym at) ∙ h.count) h.opened (subst (λ (st : State). AllAsk steps st lines) at h.asks) (subst (AreWritten lines) says h.writes)

-- all laws hold in a run of which the first steps are gone
pub is_last : (spaces : List (List ℕ)) (era : Era) → RestsAfter spaces era → IsLast spaces era.steps.items
is_last spaces era h = record {
  earlier = h.earlier;
  run = h.run;
  laws = laws_of_runs spaces (h.earlier ++ era.steps.items) h.run;
  rest = h.rest;
}

-- one step more, which opens a session or doesn't
pub opened_more : (steps : List Step) (i : ℕ) (x : Step) (b : Bool) → i < length steps → x ≡ get_or steps i x → b ≡ opens x
    → length (filter opens (take (i + 1) steps)) ≡ length (filter opens (take i steps)) + cond b 1 0
opened_more steps i x b lt at is =
    length-filter_more opens steps i x lt ∙ ap (λ c. length (filter opens (take i steps)) + cond c 1 0) (ap opens (sym at) ∙ sym is)

-- the first steps open no more than all
pub opened_first : (steps : List Step) (i : ℕ) → length (filter opens (take i steps)) ≤ length (filter opens steps)
opened_first steps i =
    let parts : filter opens steps ≡ filter opens (take i steps) ++ filter opens (drop i steps) =
    ap (filter opens) (sym (take-append-drop i steps)) ∙ filter-append opens (take i steps) (drop i steps) in
    omega (arith, ap length parts, length-append (filter opens (take i steps)) (filter opens (drop i steps)))
