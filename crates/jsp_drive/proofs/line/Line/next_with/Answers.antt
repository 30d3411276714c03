use Rattle.std.proofs.Common.{◌≡◌, ap, refl}
use Rattle.jsp_frame.specs.Unframer.{Incoming}
use Rattle.jsp_drive.specs.Line.{Unheard, HearsFrame}
use Rattle.jsp_drive.proofs.Giving.{follows_frame}
use Rattle.jsp_drive.proofs.line.Line.next_with.Goals as goal

pub returns-in-Ok-Input-clause-stream : goal.returns-in-Ok-Input-clause-stream
returns-in-Ok-Input-clause-stream c =
    let heard = rw c.in-Ok-Input.field-0-is at c.in-Ok-Input.ensures.ok in
    let rest_is : c.widen.new.self.rest ≡ c.hear_next.new.frames.rest = ap (λ (u : Incoming). u.rest) c.widen.ensures in
    let old : Unheard = record { rest = c.self.inside.frames.rest; version = c.self.inside.version; phase = c.self.inside.phase } in
    let new : Unheard = record { rest = c.widen.new.self.rest; version = c.version_behind-version.result; phase = c.self.inside.phase } in
    let frame : HearsFrame old.version old.rest c.in-Ok-Input.input new.version new.rest = rw (c.version_behind-version.ensures, rest_is) heard.0 in
    rw (← c.self.view_is) (follows_frame old new c.in-Ok-Input.input c.in-Open.is (record { frame = frame; stays = refl }))
