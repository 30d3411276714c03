-- What a line gives goes on from call to call.
use Rattle.std.proofs.Common.{◌≡◌, ℕ, false, List, [], ◌∷◌, ◌++◌, refl, ap, sym, ◌∙◌, subst, append-nil}
use Rattle.jsp_wire.specs.declared.ask.Version.{Version}
use Rattle.jsp_wire.specs.declared.ask.Version.TheVariants as version
use Rattle.jsp_frame.specs.Stream.{BeginsWith}
use Rattle.jsp_model.specs.declared.step.Step.{Step}
use Rattle.jsp_model.specs.House.{step_of}
use Rattle.jsp_drive.specs.declared.hear.LineInput.{LineInput}
use Rattle.jsp_drive.specs.declared.line.Next.TheVariants as next
use Rattle.jsp_drive.specs.Heard.{heard}
use Rattle.jsp_drive.specs.Versions.{longest, version_after, version_behind, heard_each, SplitsInto}
use Rattle.jsp_drive.specs.Line.{Unheard, IsOpen, input_of, GivesFrame}
use Rattle.jsp_drive.specs.Giving.{heard_all, Gave, FollowsStream}
use Rattle.jsp_drive.proofs.Splitting.{version_behind-append, heard_each-more, SplitsInto-frame}

abbrev one : Version
one = version.One

-- where a line stands while inputs can come
record StandsOpen (s : ℕ) (stream : List ℕ) (asked : List Step) (line : Unheard) : Type 0 where
  payloads : List (List ℕ)
  split : SplitsInto one stream payloads line.rest
  version_is : line.version ≡ version_behind one payloads
  asked_is : asked ≡ heard_each s one payloads

when_open : (s : ℕ) (stream : List ℕ) (asked : List Step) (line : Unheard) → IsOpen line → Gave s stream asked line → StandsOpen s stream asked line
when_open s stream asked line is h =
    let at : (version_behind one h.payloads ≡ line.version) × (h.rest ≡ line.rest) × (h.too_long ≡ false) = rw is at h.stands in
    record {
      payloads = h.payloads;
      split = subst (SplitsInto one stream h.payloads) at.1 h.split;
      version_is = sym at.0;
      asked_is = h.asked_is ∙ ap (heard_all s h.payloads) at.2 ∙ append-nil (heard_each s one h.payloads);
    }

gave_open : (s : ℕ) (stream : List ℕ) (asked : List Step) (line : Unheard) → IsOpen line → StandsOpen s stream asked line → Gave s stream asked line
gave_open s stream asked line is h = record {
  payloads = h.payloads;
  rest = line.rest;
  too_long = false;
  split = h.split;
  asked_is = h.asked_is ∙ sym (append-nil (heard_each s one h.payloads));
  stands = rw is (sym h.version_is, refl, refl);
}

-- ---- what comes next

pub follows_frame : (old new : Unheard) (x : LineInput) → IsOpen old → GivesFrame old x new → FollowsStream old (next.Input x) new
follows_frame old new x is gives = λ s stream asked h.
    let at = when_open s stream asked old is h in
    let payload = gives.frame.payload in
    let v = version_behind one at.payloads in
    let begins : BeginsWith (longest v) old.rest payload new.rest = subst (λ w. BeginsWith (longest w) old.rest payload new.rest) at.version_is gives.frame.begins in
    let hears : step_of (input_of s x) ≡ heard s v payload = gives.frame.heard_as s ∙ ap (λ w. heard s w payload) at.version_is in
    gave_open s stream (asked ++ step_of (input_of s x) ∷ []) new (gives.stays ∙ is) (record {
      payloads = at.payloads ++ payload ∷ [];
      split = SplitsInto-frame one stream at.payloads old.rest payload new.rest at.split begins;
      version_is = gives.frame.behind ∙ ap (λ w. version_after w payload) at.version_is ∙ sym (version_behind-append one at.payloads (payload ∷ []));
      asked_is = ap (λ w. w ++ step_of (input_of s x) ∷ []) at.asked_is ∙ ap (λ w. heard_each s one at.payloads ++ w ∷ []) hears
          ∙ sym (heard_each-more s one at.payloads payload);
    })
