use Rattle.std.proofs.Common.{eqb, ◌&&◌, sym}
use Rattle.std.specs.Prelude.{bytes_eq}
use Rattle.std.proofs.lemmas.Slice.Eq.{bytes_eq-Decides}
use Rattle.jsp_model.specs.declared.state.Row.{Row}
use Rattle.jsp_index.proofs.Classes.{last_of_kind}
use Rattle.jsp_index.proofs.Covering.{and_both, eqb_eq, class_has}
use Rattle.jsp_index.proofs.seeing.is_last_of_class.Goals as goal

pub returns : goal.returns
returns c =
    let space = c.args.space in
    let class = c.args.class.now in
    let kind = λ (r : Row). eqb r.space space && bytes_eq r.entry.class class in
    let named = c.numbers_under.ensures kind (λ seed r h. let two = and_both (eqb r.space space) (bytes_eq r.entry.class class) h in class_has seed space class r (eqb_eq r.space space two.0) (sym ((bytes_eq-Decides r.entry.class class).0 two.1))) in
    last_of_kind c.numbers_under.result.now c.args.number kind c.args.rows.now c.is_only.result named c.is_only.ensures
