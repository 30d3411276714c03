use Rattle.std.proofs.Common.{◌≡◌, ◌≢◌, ◌∙◌, ◌++◌, ℕ, List, [], true, sym, subst, inl, inr, arith}
use Rattle.jsp_drive.specs.Streams.{requests_of}
use Rattle.jsp_drive.specs.Giving.{Gave, GaveAll}
use Rattle.jsp_closing.specs.Asking.{SaysMore}
use Rattle.jsp_closing.proofs.Left.{may_leave}
use Rattle.jsp_closing.proofs.leaving.check_line.Goals as goal

pub returns-clause-ok : goal.returns-clause-ok
returns-clause-ok c = λ steps shut gave. (
  omega (arith, c.if-report-session.false),
  λ whole.
      let s = c.args.session in
      let asked = requests_of s steps in
      record {
        session = omega (arith, c.if-report-session.false);
        more = c.in_ok-more.more;
        says = subst (λ (read : List ℕ). Gave s read asked c.args.line.now → SaysMore s read asked c.in_ok-more.more) c.as_slice.ensures.value (c.in_ok-more.ensures.says s asked) (gave whole);
        may_leave = λ sound. elim (c.may_leave.ensures.so c.if-not-may_leave.false sound) [
          | inl none ↦ inl none
          | inr more ↦ elim more [ inl itself ↦ inr (inl (itself.0, sym shut ∙ itself.1)) | inr cut ↦ inr (inr (record { cut = cut.0; by_house = cut.1.0; shut = sym shut ∙ cut.1.1 })) ]
        ];
        ended = c.may_end.ensures.so c.if-not-may_end.false;
        noted = λ noted. sym shut ∙ c.is_noted_truly.ensures.so c.if-not-is_noted_truly.false noted;
      },
)

pub returns-then-not-may_leave-clause-err : goal.returns-then-not-may_leave-clause-err
returns-then-not-may_leave-clause-err c = λ steps shut gave h.
    let s = c.args.session in
    let asked = requests_of s steps in
    let whole = c.if-not-report.false in
    c.may_leave.ensures.not_so c.if-not-may_leave.true
    (may_leave s steps c.args.state.now c.args.shut c.in_ok-more.more c.args.report.now shut (h.1 whole)
    (λ left too_long all.
    subst (λ (read : List ℕ). Gave s read asked c.args.line.now → GaveAll s read (asked ++ left) too_long → c.in_ok-more.more ≡ true → left ≢ [])
    c.as_slice.ensures.value (c.in_ok-more.ensures.only s asked left too_long) (gave whole) all))
