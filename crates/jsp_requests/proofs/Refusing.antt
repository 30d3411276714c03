-- Who asked is refused as what they asked is.
use Rattle.std.proofs.Common.{◌≡◌, ◌∙◌, List, map, Some, ap}
use Rattle.std.proofs.lemmas.Simd.{map-map}
use Rattle.jsp_reply.specs.declared.reply.Reply.TheVariants as says
use Rattle.jsp_reply.specs.declared.refusal.Refusal.{Refusal}
use Rattle.jsp_model.specs.declared.state.Blocked.{Blocked}
use Rattle.jsp_model.specs.Answers.{Saying}
use Rattle.jsp_wait.specs.declared.waiters.Asker.{Asker}
use Rattle.jsp_wait.specs.Waiting.{asker}
use Rattle.jsp_requests.specs.Telling.{all_refused}

pub each_is_refused : (refusal : Refusal) (requests : List Blocked) (askers : List Asker) (told : List Saying) → askers ≡ map asker requests → told ≡ all_refused refusal askers
    → told ≡ map (λ b. (b.session, says.Refused (Some b.id) refusal)) requests
each_is_refused refusal requests askers told e f = f ∙ ap (all_refused refusal) e ∙ map-map (λ (a : Asker). (a.session, says.Refused (Some a.id) refusal)) asker requests
