use Rattle.std.proofs.Common.{◌≡◌, ℕ, true, ◌||◌, List, option_copied, sym, subst}
use Rattle.std.specs.Prelude.{bytes_eq}
use Rattle.std.specs.List.{AllByRecursion, list_any}
use Rattle.jsp_types.specs.Classes.{is_sub}
use Rattle.jsp_types.specs.declared.entry.Template.TheVariants.{Like}
use Rattle.jsp_model.specs.declared.state.Row.{Row}
use Rattle.jsp_index.specs.Seen.{seen_in, IsSeen}
use Rattle.jsp_index.specs.Finding.{number, is_next, is_like, is_like_of, IsLeast}
use Rattle.jsp_index.proofs.Narrowing.{is_like_and, of_seen, of_below}
use Rattle.jsp_keyed.proofs.Least.{least_among, least_of_both}
use Rattle.jsp_index.proofs.keyed.KeyedRows.first_of_classes.Goals as goal

pub returns-then-seen-below : goal.returns-then-seen-below
returns-then-seen-below g c =
    let p = is_next (g.P.Test.is_passed c.args.test.now) c.args.behind.now.number in
    let classes = c.args.classes.now in
    let space = c.args.space in
    let like = c.args.like.now in
    let seen = c.self.inside.seen in
    let rows = c.args.self.now in
    let found = option_copied c.first_of_each.result in
    let done : IsLeast p (is_like_of classes space like (seen_in seen space)) rows found = subst (λ (w : List (List ℕ)). IsLeast p (is_like_of classes space like w) rows found) c.seen_in-seen.ensures c.first_of_each.ensures in
    let classed : AllByRecursion (λ (r : Row). IsSeen seen r.space r.entry.class) rows = subst (λ (w : List Row). AllByRecursion (λ (r : Row). IsSeen seen r.space r.entry.class) w) c.self.view_is c.self.invariant.0.classes in
    least_among number p (λ (r : Row). IsSeen seen r.space r.entry.class) (is_like_of classes space like (seen_in seen space)) (is_like classes space (Like like)) rows found classed (λ r a h. of_seen seen classes space like r a h) done

pub returns : goal.returns
returns g c =
    let p = is_next (g.P.Test.is_passed c.args.test.now) c.args.behind.now.number in
    let classes = c.args.classes.now in
    let space = c.args.space in
    let like = c.args.like.now in
    let below = c.below-below.result.now in
    let rows = c.args.self.now in
    let of_class = is_like_and classes space like like.class in
    let own : IsLeast p of_class rows (option_copied c.first_of_class.result) = subst (λ (n : List ℕ). IsLeast p (is_like_and classes space like n) rows (option_copied c.first_of_class.result)) c.as_str-class.ensures c.first_of_class.ensures in
    let covers : (k : List ℕ) → is_sub classes k like.class ≡ true → (bytes_eq k like.class || list_any (bytes_eq k) below) ≡ true =
    subst (λ (n : List ℕ). (k : List ℕ) → is_sub classes k n ≡ true → (bytes_eq k n || list_any (bytes_eq k) below) ≡ true) c.as_str-class.ensures c.below-below.ensures in
    subst (IsLeast p (is_like classes space (Like like)) rows) (sym c.lesser.ensures)
    (least_of_both number p of_class (is_like_of classes space like below) (is_like classes space (Like like)) rows (option_copied c.first_of_class.result) (option_copied c.first_of_each-2.result) (of_below classes space like below covers) own c.first_of_each-2.ensures)
