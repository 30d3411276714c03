use Rattle.std.proofs.Common.{◌<◌, List, sym, subst}
use Rattle.std.specs.List.{AllByRecursion}
use Rattle.jsp_types.specs.declared.entry.Template.{Template}
use Rattle.jsp_types.specs.declared.entry.Template.TheVariants.{Like}
use Rattle.jsp_model.specs.declared.state.Row.{Row}
use Rattle.jsp_table.specs.Finding.{AreNamed}
use Rattle.jsp_index.specs.Finding.{number, is_like}
use Rattle.jsp_index.specs.Passed.{is_open}
use Rattle.jsp_index.proofs.Covering.{and_both, space_has}
use Rattle.jsp_index.proofs.Shaped.{listed_from_first}
use Rattle.jsp_index.proofs.keyed.KeyedRows.first_like.Goals as goal

pub returns-in-Any : goal.returns-in-Any
returns-in-Any g c =
    let kind = is_like c.args.classes.now c.args.space c.args.template.now in
    c.first_listed.ensures kind (is_open c.args.behind.now.unseen) (c.listed-listed.ensures kind (λ seed r h. space_has seed c.args.space r (and_both _ _ h).0)) c.requires.had

pub returns-in-Some : goal.returns-in-Some
returns-in-Some g c =
    let kind = is_like c.args.classes.now c.args.space c.args.template.now in
    let rows = c.args.self.now in
    let named = subst (λ (w : List Row). AreNamed number (is_like c.args.classes.now c.args.space (Like c.in-Like.like)) c.in-Some.numbers.now w) c.self.view_is (c.in-Some.ensures c.args.classes.now c.self.inside.rows c.self.invariant.1.1) in
    let likes = subst (λ (t : Template). AreNamed number (is_like c.args.classes.now c.args.space t) c.in-Some.numbers.now rows) (sym c.in-Like.is) named in
    let positive = subst (λ (w : List Row). AllByRecursion (λ (r : Row). 0 < r.number) w) c.self.view_is c.places.ensures.positive in
    c.first_listed-in-Some.ensures kind (is_open c.args.behind.now.unseen) (listed_from_first kind (is_open c.args.behind.now.unseen) c.in-Some.numbers.now rows positive likes) c.requires.had
