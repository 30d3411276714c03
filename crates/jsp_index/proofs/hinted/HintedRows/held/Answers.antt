use Rattle.std.proofs.Common.{ℕ, List, Option, None, Bool, cond, sym, subst, option_copied}
use Rattle.std.specs.Prelude.{IfSome, IfNone}
use Rattle.jsp_model.specs.declared.state.Row.{Row}
use Rattle.jsp_index.specs.declared.starts.Unseen.TheVariants.{Held, Hidden}
use Rattle.jsp_index.specs.Passed.{is_had, AreOpen, AreOpenOr}
use Rattle.jsp_index.proofs.Having.{had_in, had_by_none, held_some, held_none}
use Rattle.jsp_index.proofs.hinted.HintedRows.held.Goals as goal

pub returns-in-None-clause-none : goal.returns-in-None-clause-none
returns-in-None-clause-none c takes = subst (λ (x : Option ℕ). AreOpen (cond takes Held Hidden) (is_had c.args.space takes x) c.args.self.now) (sym c.in-None.is) (had_in (cond takes Held Hidden) c.args.space takes None c.args.self.now (had_by_none takes c.args.self.now))

pub returns-in-Some-clause-some : goal.returns-in-Some-clause-some
returns-in-Some-clause-some c =
    let found = option_copied c.listed.result in
    subst (λ (w : List Row). IfSome found (λ own. (takes : Bool) → AreOpenOr (cond takes Held Hidden) own (is_had c.args.space takes c.args.transaction) w)) c.self.view_is
    (held_some c.self.inside.holders c.in-Some.x c.args.space c.args.transaction found c.self.inside.rows c.in-Some.is (sym c.listed.ensures) c.self.invariant)

pub returns-in-Some-clause-none : goal.returns-in-Some-clause-none
returns-in-Some-clause-none c =
    let found = c.listed.result in
    subst (λ (w : List Row). IfNone found ((takes : Bool) → AreOpen (cond takes Held Hidden) (is_had c.args.space takes c.args.transaction) w)) c.self.view_is
    (held_none c.self.inside.holders c.in-Some.x c.args.space c.args.transaction found c.self.inside.rows c.in-Some.is (sym c.listed.ensures) c.self.invariant)
