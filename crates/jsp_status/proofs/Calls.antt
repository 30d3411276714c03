-- What the calls of one service answered.
use Rattle.std.proofs.Common.{◌≡◌, ℕ, List, [], ◌∷◌, ◌++◌, Option, ◌∙◌, sym, ap, subst, All, Result, Ok, Err, OnOk}
use Rattle.std.specs.Io.KnownBytes.{Appends, Consumes}
use Rattle.std.proofs.lemmas.List.Elements.{All-nil, All-cons}
use Rattle.http.specs.declared.request.Request.{Request}
use Rattle.http_server.specs.declared.response.Response.{Response}
use Rattle.http_server.specs.Exchange.{Call, Calls, Chain}
use Rattle.http_server.specs.declared.connection.Connection.{Connection}
use Rattle.http_server.specs.declared.state.Config.{Config}
use Rattle.http_server.specs.Connection.{config_of, history}
use Rattle.http_server.specs.History.{History, IsServed, new_history}
use Rattle.http_server.proofs.Theorems.{always_served}
use Rattle.jsp_status.specs.declared.answer.Pages.{Pages}
use Rattle.jsp_status.specs.Answer.{Answers, IsAnswer}

abbrev pub answers_of : Pages → Request (List ℕ) → Response → Pages → Type 0
answers_of old request response new = IsAnswer old.status.now request response × (new ≡ old)

-- the call is answered about the status of the service
abbrev pub IsAbout : Pages → Call → Type 0
IsAbout pages call = IsAnswer pages.status.now call.0 call.1

-- the service never changes, so that each call is about the one status
pub Chain-answers : (calls : List Call) (old new : Pages) → Chain answers_of old calls new → All (IsAbout old) calls
Chain-answers [] old new x = All-nil (IsAbout old)
Chain-answers (c ∷ calls) old new x =
    let P : Pages → Type 0 = λ pages. All (IsAbout pages) calls in
    All-cons (IsAbout old) c calls x.1.0 (subst P x.1.1 (Chain-answers calls x.0 new x.2))

-- What a connection that was new has done since, by what its calls say of it.
pub answers_new : (limits : Config) (old new : Connection) (pages later : Pages) (read unread written grown : Option (List ℕ))
    → history old ≡ new_history → config_of old ≡ limits → config_of new ≡ config_of old
    → ((more : List ℕ) × Consumes read unread more × ((history new).received ≡ (history old).received ++ more))
    → ((more : List ℕ) × Appends written grown more × ((history new).sent ≡ (history old).sent ++ more))
    → Calls answers_of pages later (history old).calls (history new).calls
    → Answers limits pages.status.now read unread written grown (history new)
answers_new limits old new pages later read unread written grown fresh limited same came went calls =
    let P : List ℕ → Type 0 = λ t. Consumes read unread t in
    let Q : List ℕ → Type 0 = λ t. Appends written grown t in
    let S : Config → Type 0 = λ config. ∥ IsServed config (history new) ∥₁ in
    let A : List Call → Type 0 = λ cs. All (IsAbout pages) cs in
    let received : (history new).received ≡ came.0 = came.2 ∙ ap (λ (h : History). h.received ++ came.0) fresh in
    let sent : (history new).sent ≡ went.0 = went.2 ∙ ap (λ (h : History). h.sent ++ went.0) fresh in
    let called : (history new).calls ≡ calls.0 = calls.1 ∙ ap (λ (h : History). h.calls ++ calls.0) fresh in
    record {
      received = subst P (sym received) came.1;
      sent = subst Q (sym sent) went.1;
      served = subst S (same ∙ limited) (always_served new);
      about = subst A (sym called) (Chain-answers calls.0 pages later calls.2);
    }

-- a fact that always holds stands beside one that holds at `Ok`
pub OnOk-and : {A E : Type 0} (P Q : Type 0) (r : Result A E) → OnOk r P → Q → OnOk r (P × Q)
OnOk-and P Q (Ok a) p q = (p, q)
OnOk-and P Q (Err e) p q = tt
