-- What a session asks by its bytes, and the frames that it is sent.
use Rattle.std.specs.Prelude.{ℕ, List, [], None}
use Rattle.jsp_wire.specs.declared.ask.Version.{Version}
use Rattle.jsp_wire.specs.Reading.{Reading, request, bad_json, bad_request, reading}
use Rattle.jsp_reply.specs.declared.refusal.Refusal.TheVariants.{BadJson, BadRequest}
use Rattle.jsp_reply.specs.declared.reply.Reply.{Reply}
use Rattle.jsp_reply.specs.Text.{text_of}
use Rattle.jsp_frame.specs.Stream.{frame_of}
use Rattle.jsp_model.specs.declared.step.Step.{Step}
use Rattle.jsp_model.specs.declared.step.Step.TheVariants as step

-- the session's request, or its fault
abbrev pub heard_as : ℕ → Reading → Step
heard_as s (request r) = step.Ask s r []
heard_as s bad_json = step.Fault s None BadJson
heard_as s (bad_request id) = step.Fault s id BadRequest

-- what a session asks by a payload, on a line of this version
abbrev pub heard : ℕ → Version → List ℕ → Step
heard s v payload = heard_as s (reading v payload)

-- the frame of an answer's text
abbrev pub framed : Reply → List ℕ
framed answer = frame_of (text_of answer)
