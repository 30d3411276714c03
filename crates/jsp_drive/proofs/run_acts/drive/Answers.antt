use Rattle.std.proofs.lemmas.Result.{IfOk-weaker}
use Rattle.jsp_model.specs.Lookup.{empty}
use Rattle.jsp_laws.proofs.Laws.{laws_of_runs}
use Rattle.jsp_drive.specs.Lines.{nothing}
use Rattle.jsp_drive.proofs.Streams.{ask_by_streams}
use Rattle.jsp_drive.proofs.Tying.{tied_run, tied_bytes}
use Rattle.jsp_drive.proofs.run_acts.drive.Goals as goal

pub returns-clause-run : goal.returns-clause-run
returns-clause-run g c = IfOk-weaker c.drive_all.result _ _ (λ d h. tied_run (empty c.args.config.now) (λ t. nothing) 0 c.args.acts.now d.steps.items d.sent.items h) c.drive_all.ensures

pub returns-clause-laws : goal.returns-clause-laws
returns-clause-laws g c =
    IfOk-weaker c.drive_all.result _ _ (λ d h. laws_of_runs c.args.config.now d.steps.items (tied_run (empty c.args.config.now) (λ t. nothing) 0 c.args.acts.now d.steps.items d.sent.items h)) c.drive_all.ensures

pub returns-clause-bytes : goal.returns-clause-bytes
returns-clause-bytes g c = IfOk-weaker c.drive_all.result _ _ (λ d h s. tied_bytes s (empty c.args.config.now) (λ t. nothing) 0 c.args.acts.now d.steps.items d.sent.items h) c.drive_all.ensures

pub returns-clause-streams : goal.returns-clause-streams
returns-clause-streams g c = IfOk-weaker c.drive_all.result _ _ (λ d h. ask_by_streams c.args.config.now c.args.acts.now d.steps.items d.sent.items) c.drive_all.ensures
